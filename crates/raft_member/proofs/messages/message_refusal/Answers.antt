-- Each kind of message is judged by its own conditions.
use Rattle.std.proofs.Common.{◌≡◌, option_map, sym, subst}
use Rattle.raft_group_step.specs.GroupEvent.{Receive}
use Rattle.raft_group_step.specs.Message.{SnapshotRequest}
use Rattle.raft_group_step.specs.Refusal.{refusal_of}
use Rattle.raft_conditions.specs.Reason.{reason_of}
use Rattle.raft_messages.specs.Messages.{body_as}
use Rattle.raft_member.specs.Running.{Brings}
use Rattle.raft_member.proofs.messages.message_refusal.Goals as goal

pub returns-in-VoteReply : goal.returns-in-VoteReply
returns-in-VoteReply g c = λ y brings own s facts.
    subst (λ body. option_map reason_of c.vote_reply_refusal.result
    ≡ refusal_of own s (Receive c.args.message.now.sender (record { sender = c.args.message.now.sender; addressee = c.args.message.now.addressee; body = body_as (λ x. y) body }) c.args.now))
    (sym c.in-VoteReply.is)
    (c.vote_reply_refusal.ensures.refusal c.in-VoteReply.answer.vote_granted own s facts)

pub returns-in-SnapshotRequest : goal.returns-in-SnapshotRequest
returns-in-SnapshotRequest g c = λ y brings own s facts.
    subst (λ body. option_map reason_of c.snapshot_request_refusal.result
    ≡ refusal_of own s (Receive c.args.message.now.sender (record { sender = c.args.message.now.sender; addressee = c.args.message.now.addressee; body = body_as (λ x. y) body }) c.args.now))
    (sym c.in-SnapshotRequest.is)
    (subst (λ z. let body = SnapshotRequest c.in-SnapshotRequest.vote c.in-SnapshotRequest.id z in
    option_map reason_of c.snapshot_request_refusal.result
    ≡ refusal_of own s (Receive c.args.message.now.sender (record { sender = c.args.message.now.sender; addressee = c.args.message.now.addressee; body = body }) c.args.now))
    (c.head.ensures y (subst (λ body. Brings g.S.GroupStorage.stands body y) c.in-SnapshotRequest.is brings))
    (c.snapshot_request_refusal.ensures.refusal y.«prefix» own s facts))
