-- Each request that isn't refused is answered in its event.
use Rattle.std.specs.Prelude.{◌≡◌, ℕ, Bool, true, false, List, ◌∷◌, Option, Some, None, All}
use Rattle.raft_values.specs.declared.vote.Vote.{Vote}
use Rattle.raft_values.specs.declared.log_id.LogId.{LogId}
use Rattle.raft_group_step.specs.StoredGroup.{StoredGroup, last_id}
use Rattle.raft_group_step.specs.Message.{Message, MessageBody, VoteRequest, VoteReply, AppendRequest, AppendReply, SnapshotRequest, SnapshotReply, ReplyFields, RequestId, Numbered, last_sent}
use Rattle.raft_group_step.specs.GroupState.{GroupState}
use Rattle.raft_group_step.specs.GroupEvent.{Receive}
use Rattle.raft_group_step.specs.StepResult.{StepResult}
use Rattle.raft_group_step.specs.Refusal.{refusal_of}
use Rattle.raft_group_step.specs.GroupStep.{group_step}

-- the message asks for a reply
abbrev pub is_request : MessageBody → Bool
is_request (VoteRequest vote last) = true
is_request (VoteReply vote granted last) = false
is_request (AppendRequest m) = true
is_request (AppendReply m) = false
is_request (SnapshotRequest vote id snapshot) = true
is_request (SnapshotReply m) = false

-- a reply with what names the request: its vote, its number, and the log ids before and at its end
pub record NamesRequest (vote : Vote ℕ) (id : RequestId) (previous last : Option (LogId ℕ)) (reply : ReplyFields) : Type 0 where
  pub same_vote : reply.vote ≡ vote
  pub same_id : reply.id ≡ id
  pub same_previous : reply.previous ≡ previous
  pub same_last : reply.last ≡ last

-- a voter's reply has the vote that it has then, which is the one asked for where it grants, and its last log id
pub record IsVotersReply (before : StoredGroup) (vote_then asked vote : Vote ℕ) (granted : Bool) (last : Option (LogId ℕ)) : Type 0 where
  pub own_vote : vote ≡ vote_then
  pub grants_the_asked : granted ≡ true → vote ≡ asked
  pub own_last : last ≡ last_id before

-- the second message replies to the first, at a node that had this before the event, and has this vote then
abbrev pub RepliesTo : StoredGroup → Vote ℕ → MessageBody → MessageBody → Type 0
RepliesTo before vote_then (VoteRequest asked end) (VoteReply vote granted last) =
    IsVotersReply before vote_then asked vote granted last
RepliesTo before vote_then (AppendRequest m) (AppendReply reply) =
    NamesRequest m.vote m.id m.previous (last_sent m.previous m.entries) reply
RepliesTo before vote_then (SnapshotRequest vote id snapshot) (SnapshotReply reply) =
    NamesRequest vote (Numbered id) None (Some snapshot.last) reply
RepliesTo before vote_then request reply = ⊥

-- one reply, which is the first message and goes to the sender; all other messages are requests
pub record IsAnswered (own peer : ℕ) (request : MessageBody) (before : GroupState) (r : StepResult) : Type 0 where
  pub reply : MessageBody
  pub rest : List Message
  pub first : r.messages ≡ record { sender = own; addressee = peer; body = reply } ∷ rest
  pub replies : RepliesTo before.stored r.state.stored.vote request reply
  pub one_reply : All (λ (m : Message). is_request m.body ≡ true) rest

-- each request that isn't refused is answered in its event
abbrev pub RequestsAreAnswered : Type 0
RequestsAreAnswered =
    (own : ℕ) (s : GroupState) (peer : ℕ) (m : Message) (now : ℕ)
    → refusal_of own s (Receive peer m now) ≡ None → is_request m.body ≡ true
    → IsAnswered own peer m.body s (group_step own s (Receive peer m now))
