-- What isn't committed goes, where another entry stands at the place.
use Rattle.std.proofs.Common.{◌≡◌, ◌+◌, ◌-◌, ◌^◌, ◌≤◌, ◌∙◌, ap, sym, subst, true, false, arith}
use Rattle.std.specs.Prelude.{Some, is_some, min, not}
use Rattle.std.proofs.lemmas.Result.{on_ok_weaker}
use Rattle.raft_values.specs.LogId.{place_of}
use Rattle.raft_group_step.specs.StoredGroup.{entry_at, has_id_in_log}
use Rattle.raft_group_step.specs.StepResult.{is_within}
use Rattle.raft_group_step.specs.AppendRequest.{cut_from}
use Rattle.raft_group_step.specs.SnapshotRequest.{place_above}
use Rattle.raft_group_step.proofs.Refusals.{past_above}
use Rattle.raft_engine.specs.Standing.{IsStepOf}
use Rattle.raft_engine.proofs.PlacedEntries.{entry_of_id}
use Rattle.raft_engine.proofs.FollowingLemmas.{above_first, committed_place, past_committed}
use Rattle.raft_engine.proofs.engine.Engine.cut_other.Goals as goal
use Rattle.raft_engine.proofs.engine.Engine.cut_other.Goals.{then-has_log_id-via-then-has_log_id, then-has_log_id-via-else-has_log_id+then-is_none}

pub returns-then-has_log_id-clause-step : goal.returns-then-has_log_id-clause-step
returns-then-has_log_id-clause-step g c = λ x own r step follows past.
    let order = step.state.order in
    let has = c.has_log_id.ensures r.state.stored step.state.knows order.placed in
    elim c.then-has_log_id.branch [
      | then-has_log_id-via-then-has_log_id w ↦
          let there : has_id_in_log r.state.stored c.args.last ≡ true = sym has ∙ w.if-has_log_id.true in
          rw there step
      | then-has_log_id-via-else-has_log_id+then-is_none w ↦
          let other : has_id_in_log r.state.stored c.args.last ≡ false = sym has ∙ w.if-has_log_id.false in
          let none : is_some (entry_at r.state.stored c.args.last.index) ≡ false =
          entry_of_id r.state.stored c.args.last.index w.get_log_id.result (above_first r.state order c.args.last.index past) (w.get_log_id.ensures r.state.stored step.state.knows order.placed)
          ∙ w.is_none.ensures ∙ ap not w.if-is_none.true in
          rw (other, none) step
    ]

pub returns-in-Some-clause-step : goal.returns-in-Some-clause-step
returns-in-Some-clause-step g c = λ x own r step follows past.
    let order = step.state.order in
    let other : has_id_in_log r.state.stored c.args.last ≡ false = sym (c.has_log_id.ensures r.state.stored step.state.knows order.placed) ∙ c.if-has_log_id.false in
    let some : is_some (entry_at r.state.stored c.args.last.index) ≡ true =
    entry_of_id r.state.stored c.args.last.index c.get_log_id.result (above_first r.state order c.args.last.index past) (c.get_log_id.ensures r.state.stored step.state.knows order.placed)
    ∙ c.is_none.ensures ∙ ap not c.if-is_none.false in
    let committed : Some c.in-Some.committed.index ≡ r.state.committed = ap place_of (sym c.in-Some.is) ∙ committed_place own c.args.self.now r.state step.state in
    let low : c.in-Some.committed.index + 1 ≤ c.args.last.index = past_committed (Some c.in-Some.committed) r.state.committed c.args.last.index committed past in
    let fits : min (c.in-Some.committed.index + 1) (2 ^ 64 - 1) ≡ c.in-Some.committed.index + 1 = let room = c.requires in omega arith in
    let above : c.saturating_add.result ≡ place_above r.state.committed = c.saturating_add.ensures ∙ fits ∙ ap place_above committed in
    rw (other, some)
    (on_ok_weaker c.cut_from-in-Some.result
    (λ h. subst (λ p. IsStepOf x own c.cut_from-in-Some.new.self (cut_from p r)) above h)
    (c.cut_from-in-Some.ensures.step x own r step follows (subst (λ p. is_within p r.state.committed ≡ false) (sym above) (past_above r.state.committed))))
