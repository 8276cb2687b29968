-- With nothing to build the event is over.
use Rattle.std.proofs.Common.{◌≡◌, ◌∙◌, [], ◌∷◌, ap, false, rules, sym, subst}
use Rattle.std.specs.Prelude.{max}
use Rattle.raft_values.specs.LogId.{place_of, stands_before}
use Rattle.raft_group_step.specs.GroupEvent.{Call}
use Rattle.raft_group_step.specs.declared.group_call.GroupCall.TheVariants.{TriggerSnapshot}
use Rattle.raft_group_step.specs.GroupStep.{begun, finished}
use Rattle.raft_engine.specs.Building.{covered_id}
use Rattle.raft_engine.specs.Standing.{Engine, IsStepOf, IsWholeStepOf, given}
use Rattle.raft_engine.proofs.BuildingLemmas.{nothing_to_build, trigger_in_range}
use Rattle.raft_engine.proofs.EventLemmas.{event_taken, step_begun}
use Rattle.raft_engine.proofs.RoomLemmas.{can_finish_when_ready, finish_at}
use Rattle.raft_engine.specs.Clock.{KeepsHeard}
use Rattle.raft_engine.proofs.ClockLemmas.{keeps_then, keeps_untouched}
use Rattle.raft_engine.proofs.engine.Engine.trigger_snapshot.Goals as goal

pub returns-in_ok-finish-clause-none_new : goal.returns-in_ok-finish-clause-none_new
returns-in_ok-finish-clause-none_new g c = λ x own at s may building none.
    let before = c.args.self.now in
    let value = c.snapshot_handler.ensures.value in
    let kept = (c.trigger_snapshot.ensures.none_new (subst (λ e. stands_before (covered_id e) e.state.state.committed ≡ false) (sym value) none)).1 ∙ value in
    let can = finish_at own (max s.now at) s (can_finish_when_ready own s (at ∷ []) may.ready (trigger_in_range own at s may.accepted)) in
    let step = subst (λ e. IsStepOf (given x before s) own e (begun at s)) (sym kept) (step_begun x own at before s may.stands may.empty) in
    let done = c.in_ok-finish.ensures.step (given x before s) own (begun at s) (subst (λ e. IsStepOf (given x before s) own e (begun at s)) (search rules) step) can in (
      search rules,
      event_taken x own before c.finish.new.self s (Call TriggerSnapshot at) may
          (subst (λ r. IsWholeStepOf (given x before s) own c.finish.new.self (finished own (place_of before.state.state.committed) r)) (sym (nothing_to_build own at before s may.stands none)) done),
    )

pub returns-in_ok-finish-clause-heard : goal.returns-in_ok-finish-clause-heard
returns-in_ok-finish-clause-heard g c =
    let old = c.args.self.now.leader in
    let lent = c.trigger_snapshot.new.self.engine.now in
    let kept = keeps_untouched old lent.leader (c.trigger_snapshot.ensures.leader ∙ ap (λ (e : Engine _ _). e.leader) c.snapshot_handler.ensures.value) in
    keeps_then old _ c.finish.new.self.leader (subst (λ (e : Engine _ _). KeepsHeard old e.leader) {x = lent} {y = c.self-1.given.0} (search rules) kept) c.in_ok-finish.ensures.heard

pub returns-else-not-is_building-clause-heard : goal.returns-else-not-is_building-clause-heard
returns-else-not-is_building-clause-heard g c =
    let old = c.args.self.now.leader in
    let lent = c.trigger_snapshot.new.self.engine.now in
    let kept = keeps_untouched old lent.leader (c.trigger_snapshot.ensures.leader ∙ ap (λ (e : Engine _ _). e.leader) c.snapshot_handler.ensures.value) in
    subst (λ (e : Engine _ _). KeepsHeard old e.leader) {x = lent} {y = c.self-1.given.0} (search rules) kept
