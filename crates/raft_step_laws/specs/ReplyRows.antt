-- Requests and replies of worked rows.
use Rattle.std.specs.Prelude.{ℕ, Bool, false, List, [], ◌∷◌, Option, Some, None, map}
use Rattle.raft_values.specs.declared.vote.Vote.{Vote}
use Rattle.raft_values.specs.Vote.{vote_of}
use Rattle.raft_values.specs.declared.log_id.LogId.{LogId}
use Rattle.raft_values.specs.LogId.{log_id_of}
use Rattle.raft_group_step.specs.StoredGroup.{StoredGroup}
use Rattle.raft_group_step.specs.Message.{Message, MessageBody, VoteReply, VoteRequest, ReplyFields, Conflict, RequestId}
use Rattle.raft_group_step.specs.GroupEvent.{Receive}
use Rattle.raft_group_step.specs.GroupState.{GroupState}
use Rattle.raft_group_step.specs.StepResult.{StepResult}
use Rattle.raft_group_step.specs.GroupStep.{group_step}
use Rattle.raft_group_step.specs.StepExample.{blank_at, leads_three, with_log}
use Rattle.raft_step_laws.specs.Replies.{is_request}

-- what node 2, which leads three nodes, does where node 3 asks for its vote in a lower term
abbrev pub asked_for_a_vote : StepResult
asked_for_a_vote =
    group_step 2 (leads_three None)
    (Receive 3
    (record { sender = 3; addressee = 2; body = VoteRequest (vote_of 1 3 false) None })
    0)

-- which of the messages are requests, and to whom they go
abbrev pub requests_among : List Message → List (ℕ × Bool)
requests_among ms = map (λ (m : Message). (m.addressee, is_request m.body)) ms

-- a reply with these fields
abbrev pub reply_of : Vote ℕ → RequestId → Option (LogId ℕ) → Option (LogId ℕ) → ReplyFields
reply_of vote id previous last =
    record { vote = vote; id = id; previous = previous; last = last; outcome = Conflict }

-- what a voter has whose log ends with the blank at place 1
abbrev pub voter_has : StoredGroup
voter_has = with_log (blank_at 0 ∷ blank_at 1 ∷ [])

abbrev pub last_blank : Option (LogId ℕ)
last_blank = Some (log_id_of 1 1 1)

-- a result whose messages are these
abbrev pub sends : GroupState → List Message → StepResult
sends s ms =
    record { commands = []; state = s; messages = ms; told = []; unknown = []; refused = None }

abbrev pub message_to : ℕ → MessageBody → Message
message_to peer body = record { sender = 2; addressee = peer; body = body }

-- a voter's refusal of its vote (0, 0, not granted)
abbrev pub refusal : MessageBody
refusal = VoteReply (vote_of 0 0 false) false None

-- a candidate asks under this vote
abbrev pub asks : MessageBody
asks = VoteRequest (vote_of 1 1 false) None
