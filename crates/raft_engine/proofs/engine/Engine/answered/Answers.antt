-- A greater vote is taken over, and then the answer counts.
use Rattle.raft_group_step.specs.Reply.{with_higher_vote}
use Rattle.raft_messages.specs.Messages.{outcome_of}
use Rattle.raft_engine.specs.Standing.{IsStepOf}
use Rattle.raft_engine.proofs.ReplicationLemmas.{no_higher}
use Rattle.raft_engine.specs.Clock.{KeepsHeard}
use Rattle.raft_engine.proofs.ClockLemmas.{keeps_same, keeps_then}
use Rattle.raft_engine.proofs.engine.Engine.answered.Goals as goal
use Rattle.raft_engine.proofs.engine.Engine.answered.Goals.{in-HigherVote+in_ok-take_over_greater, in_default}

pub returns-clause-step : goal.returns-clause-step
returns-clause-step g c = λ x own r step now fits.
    let judged = with_higher_vote (outcome_of c.args.outcome.now) r in
    let so_far : IsStepOf {C = g.row.C.Denot} {R = g.row.C-R.Denot} x own c.match-outcome.self judged =
    elim c.match-outcome.branch [
      | in-HigherVote+in_ok-take_over_greater w ↦
          rw (w.self-is, w.in-HigherVote.is) (w.in_ok-take_over_greater.ensures.step x own r step now)
      | in_default w ↦ rw (w.self-is, no_higher c.args.outcome.now r w.in_default.not-HigherVote) step
    ] in
    c.take_answer.ensures.step x own judged so_far fits

pub returns-clause-heard : goal.returns-clause-heard
returns-clause-heard g c =
    let old = c.args.self.now.leader in
    let judged = c.match-outcome.self.leader in
    let so_far : KeepsHeard old judged =
    elim c.match-outcome.branch [
      | in-HigherVote+in_ok-take_over_greater w ↦ rw w.self-is w.in_ok-take_over_greater.ensures.heard
      | in_default w ↦ rw w.self-is (keeps_same old)
    ] in
    keeps_then old judged c.take_answer.new.self.leader so_far c.take_answer.ensures.heard
