-- A call that is taken isn't refused, and a lead that begins has room for the end of the event.
use Rattle.std.proofs.Common.{◌∙◌, ap, inl, inr, sym, refl, ℕ}
use Rattle.std.proofs.Math.Bool.{true≢false}
use Rattle.raft_commands.specs.declared.engine_config.EngineConfig.{EngineConfig}
use Rattle.raft_group_step.specs.Values.{is_voter}
use Rattle.raft_group_step.specs.GroupEvent.{Call}
use Rattle.raft_group_step.specs.declared.group_call.GroupCall.TheVariants.{Initialize}
use Rattle.raft_group_step.specs.GroupStep.{begun}
use Rattle.raft_group_step.specs.Initialize.{initialize_step}
use Rattle.raft_engine.proofs.ElectionEvents.{initialize_finishes, is_new_then, votes_in_first}
use Rattle.raft_engine.specs.Standing.{given}
use Rattle.raft_engine.proofs.EventLemmas.{event_taken, step_begun}
use Rattle.raft_engine.proofs.ClockLemmas.{keeps_same, nobody_then}
use Rattle.raft_engine.proofs.engine.Engine.initialize.Goals as goal

pub returns-then-not-is_new-clause-taken : goal.returns-then-not-is_new-clause-taken
returns-then-not-is_new-clause-taken g c = λ x own at s now may.
    let new = is_new_then own at s c.args.membership may.accepted in
    absurd (true≢false (sym new ∙ sym (c.is_new.ensures s.stored may.stands.knows) ∙ c.if-not-is_new.true))

pub returns-then-not-is_voter-clause-taken : goal.returns-then-not-is_voter-clause-taken
returns-then-not-is_voter-clause-taken g c = λ x own at s now may.
    let votes = votes_in_first own at s c.args.membership may.accepted in
    let same = ap (λ (y : EngineConfig ℕ). is_voter c.args.membership y.id) may.stands.config in
    absurd (true≢false (sym votes ∙ sym same ∙ sym c.is_voter.ensures ∙ c.if-not-is_voter.true))

pub returns-clause-taken : goal.returns-clause-taken
returns-clause-taken g c = λ x own at s now may.
    let e = c.args.self.now in
    let m = c.args.membership in
    let stood =
    c.in_ok-initialize_part.ensures.step (given x e s) own (begun at s) (step_begun x own at e s may.stands may.empty) (sym now)
    (is_new_then own at s m may.accepted) in (
      refl,
      event_taken x own e c.finish.new.self s (Call (Initialize m) at) may
          (c.in_ok-finish.ensures.step (given x e s) own (initialize_step own m (begun at s)) stood (initialize_finishes own at s m may.accepted (begun at s) refl)),
    )

pub returns-then-not-is_new-clause-heard : goal.returns-then-not-is_new-clause-heard
returns-then-not-is_new-clause-heard g c = inl (keeps_same c.args.self.now.leader)

pub returns-then-not-is_voter-clause-heard : goal.returns-then-not-is_voter-clause-heard
returns-then-not-is_voter-clause-heard g c = inl (keeps_same c.args.self.now.leader)

pub returns-clause-heard : goal.returns-clause-heard
returns-clause-heard g c = inr (nobody_then c.initialize_part.new.self.leader c.finish.new.self.leader c.in_ok-initialize_part.ensures.heard c.in_ok-finish.ensures.heard)
