-- What a message accepts.
use Rattle.std.specs.Prelude.{ℕ, Option, Some, None}
use Rattle.raft_values.specs.declared.vote.Vote.{Vote}
use Rattle.raft_values.specs.declared.log_id.LogId.{LogId}
use Rattle.raft_group_step.specs.Message.{MessageBody, VoteRequest, VoteReply, AppendRequest, AppendReply, SnapshotRequest, SnapshotReply}
use Rattle.raft_laws.specs.Settled.{accepted_last}
use Rattle.raft_messages.specs.Messages.{reply_fields_of}
use Rattle.raft_messages.specs.declared.message.MessageBody.{MessageBody as Body}
use Rattle.raft_messages.specs.declared.message.MessageBody.TheVariants.{VoteRequest as AsksForVote, VoteReply as AnswersVote, AppendRequest as SendsEntries}
use Rattle.raft_messages.specs.declared.message.MessageBody.TheVariants.{AppendReply as AnswersEntries, SnapshotRequest as SendsSnapshot, SnapshotReply as AnswersSnapshot}
use Rattle.raft_list_facts.specs.declared.acceptance.Acceptance.{Acceptance}

abbrev pub accepted_with : Vote ℕ → Option (LogId ℕ) → Option Acceptance
accepted_with vote None = None
accepted_with vote (Some last) = Some (record { vote = vote; last = last })

-- the vote under which a message accepts, and the log id up to which
abbrev pub accepted_in : MessageBody → Option Acceptance
accepted_in (VoteRequest vote last) = None
accepted_in (VoteReply vote granted last) = None
accepted_in (AppendRequest fields) = None
accepted_in (AppendReply fields) = accepted_with fields.vote (accepted_last fields.outcome fields.last)
accepted_in (SnapshotRequest vote id snapshot) = None
accepted_in (SnapshotReply fields) = accepted_with fields.vote (accepted_last fields.outcome fields.last)

-- the same of a message on its way
abbrev pub accepted_by : {S : Type 0} → Body S → Option Acceptance
accepted_by (AsksForVote request) = None
accepted_by (AnswersVote answer) = None
accepted_by (SendsEntries m) = None
accepted_by (AnswersEntries m) = accepted_in (AppendReply (reply_fields_of m))
accepted_by (SendsSnapshot vote id snapshot) = None
accepted_by (AnswersSnapshot m) = accepted_in (SnapshotReply (reply_fields_of m))
