-- The engine is handed what the answer says.
use Rattle.std.proofs.Common.{OnOk, sym, subst}
use Rattle.raft_group_step.specs.Message.{AppendReply, ReplyFields, SnapshotReply}
use Rattle.raft_engine.specs.Events.{HasTaken, MayTake, received}
use Rattle.raft_member.proofs.messages.take_reply.Goals as goal

pub returns-clause-append : goal.returns-clause-append
returns-clause-append c = λ x own at s moment may.
    subst (λ (m : ReplyFields). OnOk c.handle_replication_resp.result (HasTaken x own c.args.engine.now c.handle_replication_resp.new.self s (received own c.args.peer (AppendReply m) at)))
    c.caller_and_answer-answer.ensures
    (c.handle_replication_resp.ensures.append x own at s moment
    (subst (λ (m : ReplyFields). MayTake own c.args.engine.now s (received own c.args.peer (AppendReply m) at)) (sym c.caller_and_answer-answer.ensures) may))

pub returns-clause-snapshot : goal.returns-clause-snapshot
returns-clause-snapshot c = λ x own at s moment may.
    subst (λ (m : ReplyFields). OnOk c.handle_replication_resp.result (HasTaken x own c.args.engine.now c.handle_replication_resp.new.self s (received own c.args.peer (SnapshotReply m) at)))
    c.caller_and_answer-answer.ensures
    (c.handle_replication_resp.ensures.snapshot x own at s moment
    (subst (λ (m : ReplyFields). MayTake own c.args.engine.now s (received own c.args.peer (SnapshotReply m) at)) (sym c.caller_and_answer-answer.ensures) may))
