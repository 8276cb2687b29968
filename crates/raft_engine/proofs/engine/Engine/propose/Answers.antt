-- The command is appended, and there is room for what a leader finishes.
use Rattle.std.proofs.Common.{refl}
use Rattle.raft_engine.proofs.ForwardLemmas.{must_lead, unled}
use Rattle.raft_group_step.specs.declared.group_call.GroupCall.TheVariants.{Propose}
use Rattle.raft_group_step.specs.GroupEvent.{Call}
use Rattle.raft_group_step.specs.GroupStep.{begun}
use Rattle.raft_group_step.specs.Propose.{propose_step}
use Rattle.raft_engine.specs.Standing.{given}
use Rattle.raft_engine.proofs.EventLemmas.{event_taken, step_begun}
use Rattle.raft_engine.proofs.LeaderFinish.{finish_proposed, proposes}
use Rattle.raft_engine.proofs.ClockLemmas.{keeps_same, keeps_then}
use Rattle.raft_engine.proofs.engine.Engine.propose.Goals as goal

pub returns-clause-taken : goal.returns-clause-taken
returns-clause-taken g c = λ x own at token s may.
    let old = c.args.self.now in
    let command = c.args.command in
    let event = Call (Propose command token) at in
    let lead = proposes own at token s may.ready command may.accepted in
    let step = c.in_ok-propose_part.ensures.step (given x old s) own (begun at s) lead.0 token (step_begun x own at old s may.stands may.empty) lead.1 in (
      refl,
      event_taken x own old c.finish.new.self s event may
          (c.in_ok-finish.ensures.step (given x old s) own (propose_step command token (begun at s)) step (finish_proposed own at token s may.ready command may.accepted)),
    )

pub returns-in-Some-clause-taken : goal.returns-in-Some-clause-taken
returns-in-Some-clause-taken g c = λ x own at token s may.
    let old = c.args.self.now in
    let lead = proposes own at token s may.ready c.args.command may.accepted in
    must_lead own old s lead.0 may.stands lead.1 (unled old.leader c.in-Some.ensures.leads)

pub returns-clause-heard : goal.returns-clause-heard
returns-clause-heard g c =
    keeps_then c.args.self.now.leader c.propose_part.new.self.leader c.finish.new.self.leader c.in_ok-propose_part.ensures.heard c.in_ok-finish.ensures.heard

pub returns-in-Some-clause-heard : goal.returns-in-Some-clause-heard
returns-in-Some-clause-heard g c = keeps_same c.args.self.now.leader
