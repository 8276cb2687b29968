use Rattle.std.proofs.Common.{sym}
use Rattle.std.proofs.lemmas.Result.{on_ok_weaker}
use Rattle.raft_group_step.specs.Message.{VoteRequest}
use Rattle.raft_group_step.specs.GroupStep.{begun}
use Rattle.raft_group_step.specs.VoteRequest.{vote_request_step}
use Rattle.raft_engine.specs.Events.{received}
use Rattle.raft_engine.specs.Standing.{given}
use Rattle.raft_engine.proofs.EventLemmas.{event_taken, step_begun}
use Rattle.raft_engine.proofs.ReceivedLemmas.{begins_to_finish, vote_request_finishes}
use Rattle.raft_engine.proofs.ClockLemmas.{keeps_then}
use Rattle.raft_engine.proofs.engine.Engine.handle_vote_req.Goals as goal

pub returns-clause-taken : goal.returns-clause-taken
returns-clause-taken g c = λ x own at s now may.
    let peer = c.args.tx.peer in
    let vote = c.args.req.now.vote in
    let last = c.args.req.now.last_log_id in
    let step = step_begun x own at c.args.self.now s may.stands may.empty in
    let can = begins_to_finish own peer (VoteRequest vote last) at s may.ready may.accepted in
    on_ok_weaker c.finish.result
    (event_taken x own c.args.self.now c.finish.new.self s (received own peer (VoteRequest vote last) at) may)
    (c.finish.ensures.step (given x c.args.self.now s) own (vote_request_step own peer vote last (begun at s))
    (c.in_ok-vote_request.ensures.step (given x c.args.self.now s) own (begun at s) step (sym now)) (vote_request_finishes own peer (begun at s) can vote last))

pub returns-clause-heard : goal.returns-clause-heard
returns-clause-heard g c =
    on_ok_weaker c.finish.result (keeps_then c.args.self.now.leader c.vote_request.new.self.leader c.finish.new.self.leader c.in_ok-vote_request.ensures.heard) c.finish.ensures.heard
