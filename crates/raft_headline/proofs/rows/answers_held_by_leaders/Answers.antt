use Rattle.std.specs.Prelude.{◌≡◌, ◌<◌, false, refl}
use Rattle.std.proofs.Common.{arith, subst}
use Rattle.raft_group_step.specs.Values.{vote_lt}
use Rattle.raft_group_step.specs.GroupState.{GroupState}
use Rattle.raft_laws.proofs.WorldOrigins.{same_up}
use Rattle.raft_headline.specs.Rows.{has_told, state_there}
use Rattle.raft_headline.proofs.RowLeaders.{told_held}
use Rattle.raft_headline.proofs.rows.answers_held_by_leaders.Goals as goal

pub returns-clause-told : goal.returns-clause-told
returns-clause-told c = record { teller = _; leading = record { is_up = refl; leads = refl }; held = told_held }

pub returns-clause-past_the_end : goal.returns-clause-past_the_end
returns-clause-past_the_end c = λ h.
    let s = state_there has_told in
    let same : s ≡ h.teller = same_up s h.teller h.leading.is_up in
    let reach = h.held 1 s (record { is_up = refl; leads = refl }) (subst (λ (t : GroupState). vote_lt s.stored.vote t.stored.vote ≡ false) same refl) in
    let none : 3 < 3 = reach.reaches in
    omega arith
