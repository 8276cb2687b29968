-- A leader serves its peers.
use Rattle.std.specs.Prelude.{◌≡◌, ◌⊎◌, ℕ, true, List, Option, Some, None, Contains}
use Rattle.raft_group_step.specs.Values.{has_id}
use Rattle.raft_group_step.specs.Message.{Message, MessageBody, VoteRequest, VoteReply, AppendRequest, AppendReply, SnapshotRequest, SnapshotReply, RequestId, HeartBeat, Numbered}
use Rattle.raft_group_step.specs.Peer.{Outstanding}
use Rattle.raft_group_step.specs.GroupState.{GroupState, Lead, Role, Follower, Candidate, Leader}
use Rattle.raft_group_step.specs.GroupEvent.{GroupEvent}
use Rattle.raft_group_step.specs.StepResult.{StepResult}
use Rattle.raft_group_step.specs.Lead.{other_ids, peer_of}
use Rattle.raft_group_step.specs.Frames.{lacks_entries}
use Rattle.raft_group_step.specs.Refusal.{refusal_of}
use Rattle.raft_group_step.specs.GroupStep.{group_step}
use Rattle.raft_step_laws.specs.Tokens.{HasItsOwnVote}

abbrev pub number_of_id : RequestId → Option ℕ
number_of_id HeartBeat = None
number_of_id (Numbered id) = Some id

-- the number of a request that is waited for
abbrev pub request_number : MessageBody → Option ℕ
request_number (VoteRequest vote last) = None
request_number (VoteReply vote granted last) = None
request_number (AppendRequest m) = number_of_id m.id
request_number (AppendReply m) = None
request_number (SnapshotRequest vote id snapshot) = Some id
request_number (SnapshotReply m) = None

-- a request with this number is sent to the node
pub record IsSent (messages : List Message) (n id : ℕ) : Type 0 where
  pub message : Message
  pub sent : Contains messages message
  pub addressee : message.addressee ≡ n
  pub number : request_number message.body ≡ Some id

-- the request that is outstanding to a node
abbrev pub waited_for : Role → ℕ → Option Outstanding
waited_for Follower n = None
waited_for (Candidate granters) n = None
waited_for (Leader lead) n = (peer_of lead n).outstanding

-- a request is outstanding to the node: it was so as the event began, or was sent in this step
pub record IsServed (s : GroupState) (r : StepResult) (n : ℕ) : Type 0 where
  pub request : Outstanding
  pub outstanding : waited_for r.state.role n ≡ Some request
  pub since : (waited_for s.role n ≡ Some request) ⊎ IsSent r.messages n request.id

-- after an event each other node of the membership in force that lacks entries has a request outstanding, and where it had
-- none, it was sent one
abbrev pub PeersAreServed : Type 0
PeersAreServed =
    (own : ℕ) (s : GroupState) (e : GroupEvent) → HasItsOwnVote own s → refusal_of own s e ≡ None
    → (lead : Lead) → (group_step own s e).state.role ≡ Leader lead
    → (n : ℕ) → has_id (other_ids own (group_step own s e).state.stored) n ≡ true
    → lacks_entries (group_step own s e).state.stored (peer_of lead n) ≡ true
    → IsServed s (group_step own s e) n
