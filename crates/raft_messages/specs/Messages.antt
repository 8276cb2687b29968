-- What a message is to the group step.
use Rattle.std.specs.Prelude.{ℕ, List, [], ◌∷◌, Option, Some, None}
use Rattle.raft_group_step.specs.StoredGroup.{Snapshot}
use Rattle.raft_group_step.specs.Message.{Message, MessageBody, VoteRequest, VoteReply, AppendRequest, AppendReply, SnapshotRequest, SnapshotReply}
use Rattle.raft_group_step.specs.Message.{AppendFields, ReplyFields, RequestId, HeartBeat, Numbered, ReplyResult, Success, PartialSuccess, Conflict, HigherVote}
use Rattle.raft_group_step.specs.declared.append_entries.AppendEntriesResponse.{AppendEntriesResponse}
use Rattle.raft_group_step.specs.declared.append_entries.AppendEntriesResponse.TheVariants.{Success as Accepted, PartialSuccess as AcceptedPart, Conflict as Differs, HigherVote as HasHigherVote}
use Rattle.raft_messages.specs.declared.message.RequestId.{RequestId as IdOfRequest}
use Rattle.raft_messages.specs.declared.message.RequestId.TheVariants.{HeartBeat as NoNumber, Numbered as HasNumber}
use Rattle.raft_messages.specs.declared.message.AppendFields.{AppendFields as Request}
use Rattle.raft_messages.specs.declared.message.ReplyFields.{ReplyFields as Reply}
use Rattle.raft_messages.specs.declared.message.MessageBody.{MessageBody as Body}
use Rattle.raft_messages.specs.declared.message.MessageBody.TheVariants.{VoteRequest as AsksForVote, VoteReply as AnswersVote, AppendRequest as SendsEntries}
use Rattle.raft_messages.specs.declared.message.MessageBody.TheVariants.{AppendReply as AnswersEntries, SnapshotRequest as SendsSnapshot, SnapshotReply as AnswersSnapshot}
use Rattle.raft_messages.specs.declared.message.Message.{Message as Sent}

abbrev pub request_id_of : IdOfRequest → RequestId
request_id_of NoNumber = HeartBeat
request_id_of (HasNumber id) = Numbered id

-- what came of an append request
abbrev pub outcome_of : AppendEntriesResponse ℕ → ReplyResult
outcome_of Accepted = Success
outcome_of (AcceptedPart last) = PartialSuccess last
outcome_of Differs = Conflict
outcome_of (HasHigherVote vote) = HigherVote vote

abbrev pub append_fields_of : Request → AppendFields
append_fields_of m =
    record {
      vote = m.vote;
      id = request_id_of m.id;
      previous = m.previous;
      committed = m.committed;
      entries = m.entries;
    }

abbrev pub reply_fields_of : Reply → ReplyFields
reply_fields_of m =
    record {
      vote = m.vote;
      id = request_id_of m.id;
      previous = m.previous;
      last = m.last;
      outcome = outcome_of m.outcome;
    }

module _ {S : Type 0} (carried : S → Snapshot) where
  -- what a body says, where what its snapshot carries stands for this snapshot
  abbrev pub body_as : Body S → MessageBody
  body_as (AsksForVote request) = VoteRequest request.vote request.last_log_id
  body_as (AnswersVote answer) = VoteReply answer.vote answer.vote_granted answer.last_log_id
  body_as (SendsEntries m) = AppendRequest (append_fields_of m)
  body_as (AnswersEntries m) = AppendReply (reply_fields_of m)
  body_as (SendsSnapshot vote id snapshot) = SnapshotRequest vote id (carried snapshot)
  body_as (AnswersSnapshot m) = SnapshotReply (reply_fields_of m)

  -- what a message says
  abbrev pub message_as : Sent S → Message
  message_as m = record { sender = m.sender; addressee = m.addressee; body = body_as m.body }

-- the same where a snapshot has its entries
abbrev pub body_of : Body Snapshot → MessageBody
body_of body = body_as (λ x. x) body

abbrev pub message_of : Sent Snapshot → Message
message_of m = message_as (λ x. x) m

-- the message, if there is one
abbrev pub messages_of : Option (Sent Snapshot) → List Message
messages_of None = []
messages_of (Some m) = message_of m ∷ []
