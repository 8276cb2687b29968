use Rattle.std.specs.Prelude.{◌≡◌, ◌<◌, ℕ, Option, Some, None, refl}
use Rattle.std.proofs.Common.{ap, arith}
use Rattle.raft_group_step.specs.Values.{Entry}
use Rattle.raft_headline.proofs.RowLeaders.{second_holds, told_held}
use Rattle.raft_headline.proofs.rows.leaders_that_hold_lists.Goals as goal

pub returns-clause-held : goal.returns-clause-held
returns-clause-held c = told_held

pub returns-clause-greater : goal.returns-clause-greater
returns-clause-greater c = second_holds

pub returns-clause-past_the_end : goal.returns-clause-past_the_end
returns-clause-past_the_end c = λ h.
    let reach = h 1 _ (record { is_up = refl; leads = refl }) refl in
    let none : 3 < 3 = reach.reaches in
    omega arith

term_of : Option Entry → ℕ
term_of None = 0
term_of (Some e) = e.log_id.leader_id.term

apart : (a b : ℕ) → a < b → a ≡ b → ⊥
apart a b l e = omega arith

pub returns-clause-lesser : goal.returns-clause-lesser
unfolding term_of
returns-clause-lesser c = λ h.
    let reach = h 1 _ (record { is_up = refl; leads = refl }) refl in
    apart 1 2 (omega arith) (ap term_of (reach.same 2 (omega arith)))
