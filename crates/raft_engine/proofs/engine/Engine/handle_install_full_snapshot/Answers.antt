use Rattle.std.proofs.Common.{sym}
use Rattle.std.proofs.lemmas.Result.{on_ok_weaker}
use Rattle.raft_group_step.specs.Message.{SnapshotRequest}
use Rattle.raft_group_step.specs.GroupStep.{begun}
use Rattle.raft_group_step.specs.SnapshotRequest.{snapshot_request_step}
use Rattle.raft_engine.specs.Events.{received}
use Rattle.raft_engine.specs.Standing.{given}
use Rattle.raft_engine.proofs.EventLemmas.{event_taken, step_begun}
use Rattle.raft_engine.proofs.ReceivedLemmas.{begins_to_finish, snapshot_request_finishes, sound_snapshot}
use Rattle.raft_engine.proofs.ClockLemmas.{keeps_then}
use Rattle.raft_engine.proofs.engine.Engine.handle_install_full_snapshot.Goals as goal

pub returns-clause-taken : goal.returns-clause-taken
returns-clause-taken g c = λ x own at id s now meta asked repeats may.
    let peer = c.args.tx.peer in
    let vote = c.args.vote in
    let step = step_begun x own at c.args.self.now s may.stands may.empty in
    let can = begins_to_finish own peer (SnapshotRequest vote id x) at s may.ready may.accepted in
    let another = sound_snapshot own peer vote id x at s may.accepted in
    on_ok_weaker c.finish.result
    (event_taken x own c.args.self.now c.finish.new.self s (received own peer (SnapshotRequest vote id x) at) may)
    (c.finish.ensures.step (given x c.args.self.now s) own (snapshot_request_step own peer vote id x (begun at s))
    (c.in_ok-snapshot_request.ensures.step (given x c.args.self.now s) own (begun at s) id step (sym now) meta asked repeats another)
    (snapshot_request_finishes own peer (begun at s) can (given x c.args.self.now s) c.args.self.now step vote id another))

pub returns-clause-heard : goal.returns-clause-heard
returns-clause-heard g c =
    on_ok_weaker c.finish.result (keeps_then c.args.self.now.leader c.snapshot_request.new.self.leader c.finish.new.self.leader c.in_ok-snapshot_request.ensures.heard) c.finish.ensures.heard
