-- The numbers that a step stores and sends are below the limit, where those that the node has are.
use Rattle.std.specs.Prelude.{◌≡◌, ℕ, ◌<◌, ◌≤◌, List, Some, None, All, IfSome}
use Rattle.raft_group_step.specs.Values.{Entry}
use Rattle.raft_group_step.specs.StoredGroup.{Snapshot, StoredGroup}
use Rattle.raft_group_step.specs.Message.{Message, MessageBody, VoteRequest, VoteReply, AppendRequest, AppendReply, SnapshotRequest, SnapshotReply}
use Rattle.raft_group_step.specs.Peer.{PeerState}
use Rattle.raft_group_step.specs.GroupState.{GroupState, Role, Follower, Candidate, Leader}
use Rattle.raft_group_step.specs.GroupEvent.{GroupEvent, AddGroup, Call, Receive, Open}
use Rattle.raft_group_step.specs.StepResult.{StepResult}
use Rattle.raft_group_step.specs.Refusal.{number_limit, numbers_of, numbers_of_id, numbers_of_membership}
use Rattle.raft_group_step.specs.GroupStep.{group_step}
use Rattle.raft_laws.specs.Stop.{stopped_after}

-- each of these numbers is below the limit of terms, places and request numbers
abbrev pub AreLow : List ℕ → Type 0
AreLow ns = All (λ (n : ℕ). n < number_limit) ns

-- ---- what a node has

-- the entry's log id is low
abbrev pub HasLowId : Entry → Type 0
HasLowId e = AreLow (numbers_of_id (Some e.log_id))

-- the last log id, that of the membership, and those of the list: a later snapshot's membership may come from there
pub record IsLowSnapshot (x : Snapshot) : Type 0 where
  pub last : AreLow (numbers_of_id (Some x.last))
  pub membership : AreLow (numbers_of_membership x.membership)
  pub entries : All HasLowId x.«prefix»

pub record IsLowStored (s : StoredGroup) : Type 0 where
  pub vote : s.vote.leader_id.term < number_limit
  pub purged : AreLow (numbers_of_id s.purged)
  pub log : All HasLowId s.log
  pub snapshot : IfSome s.snapshot IsLowSnapshot

-- what a peer has accepted is low; the number of its next request is below the limit, or at it while one is outstanding
pub record IsLowPeer (p : PeerState) : Type 0 where
  pub matched : AreLow (numbers_of_id p.matched)
  pub next : p.next_id ≤ number_limit
  pub idle : p.outstanding ≡ None → p.next_id < number_limit

-- each peer that a leader knows
abbrev pub EachPeer : (PeerState → Type 0) → Role → Type 0
EachPeer Q Follower = Unit {0}
EachPeer Q (Candidate granters) = Unit {0}
EachPeer Q (Leader lead) = All Q lead.peers

-- ---- what is sent

-- the list of a snapshot has low log ids: no refusal looks at these
abbrev pub HasLowPrefix : MessageBody → Type 0
HasLowPrefix (VoteRequest vote last) = Unit {0}
HasLowPrefix (VoteReply vote granted last) = Unit {0}
HasLowPrefix (AppendRequest m) = Unit {0}
HasLowPrefix (AppendReply m) = Unit {0}
HasLowPrefix (SnapshotRequest vote id snapshot) = All HasLowId snapshot.«prefix»
HasLowPrefix (SnapshotReply m) = Unit {0}

pub record IsLowBody (b : MessageBody) : Type 0 where
  pub numbers : AreLow (numbers_of b)
  pub «prefix» : HasLowPrefix b

-- what comes in a message has a low list; other high numbers are refused
abbrev pub BringsLowPrefix : GroupEvent → Type 0
BringsLowPrefix AddGroup = Unit {0}
BringsLowPrefix (Call call now) = Unit {0}
BringsLowPrefix (Receive peer m now) = HasLowPrefix m.body
BringsLowPrefix Open = Unit {0}

-- ---- the law

-- what a step sends, what is left at its end, and what a stop leaves after any number of its storing commands
pub record StepIsLow (s : GroupState) (r : StepResult) : Type 0 where
  pub messages : All (λ (m : Message). IsLowBody m.body) r.messages
  pub stored : IsLowStored r.state.stored
  pub peers : EachPeer IsLowPeer r.state.role
  pub stops : (k : ℕ) → IsLowStored (stopped_after k s.stored r)

-- whatever event it is, also one that is refused
abbrev pub StepsSendLowNumbers : Type 0
StepsSendLowNumbers =
    (own : ℕ) (s : GroupState) (e : GroupEvent)
    → IsLowStored s.stored → EachPeer IsLowPeer s.role → BringsLowPrefix e
    → StepIsLow s (group_step own s e)
