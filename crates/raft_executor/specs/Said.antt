-- What the messages say that are sent, where a snapshot in one stands for one of the definitions.
use Rattle.std.specs.Prelude.{◌≡◌, List, [], ◌∷◌, Option, Some, None}
use Rattle.std.specs.List.{AllZip}
use Rattle.raft_group_step.specs.StoredGroup.{Snapshot}
use Rattle.raft_group_step.specs.Message.{Message, MessageBody, VoteRequest, VoteReply, AppendRequest, AppendReply, SnapshotRequest, SnapshotReply}
use Rattle.raft_messages.specs.Messages.{append_fields_of, reply_fields_of}
use Rattle.raft_messages.specs.declared.message.MessageBody.{MessageBody as Body}
use Rattle.raft_messages.specs.declared.message.MessageBody.TheVariants.{VoteRequest as AsksForVote, VoteReply as AnswersVote, AppendRequest as SendsEntries}
use Rattle.raft_messages.specs.declared.message.MessageBody.TheVariants.{AppendReply as AnswersEntries, SnapshotRequest as SendsSnapshot, SnapshotReply as AnswersSnapshot}
use Rattle.raft_messages.specs.declared.message.Message.{Message as Sent}

-- the message, if there is one
abbrev pub listed : {X : Type 0} → Option (Sent X) → List (Sent X)
listed None = []
listed (Some m) = m ∷ []

module _ {X : Type 0} (stands : X → Snapshot → Type 0) where
  -- what a body says; its snapshot stands for the one that is said
  abbrev pub SaysBody : Body X → MessageBody → Type 0
  SaysBody (AsksForVote request) said = said ≡ VoteRequest request.vote request.last_log_id
  SaysBody (AnswersVote answer) said = said ≡ VoteReply answer.vote answer.vote_granted answer.last_log_id
  SaysBody (SendsEntries m) said = said ≡ AppendRequest (append_fields_of m)
  SaysBody (AnswersEntries m) said = said ≡ AppendReply (reply_fields_of m)
  SaysBody (SendsSnapshot vote id x) said = (y : Snapshot) × stands x y × (said ≡ SnapshotRequest vote id y)
  SaysBody (AnswersSnapshot m) said = said ≡ SnapshotReply (reply_fields_of m)

  -- what a message says
  abbrev pub Says : Sent X → Message → Type 0
  Says m said = (said.sender ≡ m.sender) × (said.addressee ≡ m.addressee) × SaysBody m.body said.body

  -- the messages say these, in their order
  abbrev pub SaysAll : List (Sent X) → List Message → Type 0
  SaysAll sent said = AllZip Says sent said
