use Rattle.std.specs.Prelude.{◌≡◌, ℕ, zero, suc, ◌<◌, slice_get, Some, None, refl}
use Rattle.std.proofs.Common.{arith, sym, ap, ◌∙◌}
use Rattle.raft_values.specs.declared.log_id.LogId.{LogId}
use Rattle.raft_group_step.specs.Values.{Entry}
use Rattle.raft_laws.proofs.BallotAgreement.{same_some}
use Rattle.raft_laws.specs.Example.{add}
use Rattle.raft_laws.specs.OriginRun.{command_at}
use Rattle.raft_history_laws.specs.WholeSnapshotsRun.{first_entries, set_up_membership}
use Rattle.raft_history_laws.proofs.snapshots.whole_snapshots.Goals as goal

apart : (a b : ℕ) → b < a → a ≡ b → ⊥
apart a b l e = omega arith

placed : (i : ℕ) (e : Entry) → slice_get first_entries i ≡ Some e → e.log_id.index ≡ i
placed zero e is = ap (λ (x : Entry). x.log_id.index) (sym (same_some is))
placed (suc zero) e is = ap (λ (x : Entry). x.log_id.index) (sym (same_some is))
placed (suc (suc zero)) e is = ap (λ (x : Entry). x.log_id.index) (sym (same_some is))
placed (suc (suc (suc i))) e is = absurd (let no : None ≡ Some e = is in cc)

pub returns-clause-whole : goal.returns-clause-whole
returns-clause-whole c = record { size = refl; placed = placed; entry = _; stands_last = refl; last = refl; membership = refl }

pub returns-clause-short : goal.returns-clause-short
returns-clause-short c = λ h. let e = h.size in omega (arith, e)

pub returns-clause-long : goal.returns-clause-long
returns-clause-long c = λ h. let e = h.size in omega (arith, e)

pub returns-clause-gap : goal.returns-clause-gap
returns-clause-gap c = λ h. apart 2 1 (omega arith) (h.placed 1 (command_at 2 (add 5)) refl)

pub returns-clause-another_last : goal.returns-clause-another_last
returns-clause-another_last c = λ h.
    let is = ap (λ (x : Entry). x.log_id) (same_some h.stands_last) ∙ h.last in
    let term : 1 ≡ 2 = ap (λ (x : LogId ℕ). x.leader_id.term) is in
    omega (arith, term)

pub returns-clause-no_membership : goal.returns-clause-no_membership
returns-clause-no_membership c = λ h. let e : None ≡ set_up_membership = h.membership in cc
