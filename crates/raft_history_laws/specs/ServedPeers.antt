-- Each peer of a leader that lacks entries has a request outstanding, in every world of a group.
use Rattle.std.specs.Prelude.{◌≡◌, ◌⊎◌, ℕ, true, List, [], ◌∷◌, Option, Some, None}
use Rattle.raft_group_step.specs.Values.{has_id}
use Rattle.raft_group_step.specs.Message.{Message}
use Rattle.raft_group_step.specs.Peer.{Outstanding}
use Rattle.raft_group_step.specs.GroupState.{GroupState, Lead, Leader, Untold}
use Rattle.raft_group_step.specs.Lead.{other_ids, peer_of}
use Rattle.raft_group_step.specs.Frames.{lacks_entries}
use Rattle.raft_laws.specs.GroupWorld.{GroupWorld, NodeState, Absent, Up, Down, Done, Recorded}
use Rattle.raft_laws.specs.NodeEvent.{NodeEvent}
use Rattle.raft_laws.specs.GroupRun.{At, Replays, scene_of}
use Rattle.raft_laws.specs.OneList.{IsGroupHistory}
use Rattle.raft_step_laws.specs.Serving.{IsSent, waited_for}

-- another node of the membership in force that hasn't accepted all of the leader's entries, as the leader knows
pub record LacksEntries (own : ℕ) (s : GroupState) (n : ℕ) : Type 0 where
  pub lead : Lead
  pub leads : s.role ≡ Leader lead
  pub member : has_id (other_ids own s.stored) n ≡ true
  pub lacks : lacks_entries s.stored (peer_of lead n) ≡ true

-- a request is outstanding to each such node
abbrev pub ServesPeers : ℕ → GroupState → Type 0
ServesPeers own s = (n : ℕ) → LacksEntries own s n → (request : Outstanding) × (waited_for s.role n ≡ Some request)

-- so it is at each node that is up
abbrev pub LeadersServe : Type 0
LeadersServe =
    (ids : List ℕ) (rs : List Recorded) (end : GroupWorld) → IsGroupHistory ids rs end
    → (n : ℕ) (s : GroupState) → end.nodes n ≡ Up s → ServesPeers n s

-- the request that a node waits for
abbrev pub waited_in : NodeState → ℕ → Option Outstanding
waited_in Absent n = None
waited_in (Up s) n = waited_for s.role n
waited_in (Down stored) n = None

-- behind an event that runs to its end at a node, each such peer has a request that was outstanding before, or is sent one
abbrev pub LackingAreSent : Type 0
LackingAreSent =
    (ids : List ℕ) (rs : List Recorded) (last : Recorded) (middle end : GroupWorld)
    → IsGroupHistory ids rs middle → Replays middle (last ∷ []) end
    → (n : ℕ) (e : NodeEvent) → scene_of middle last.event ≡ At n e
    → (sent : List Message) (told : List Untold) (unknown : List ℕ) → last.outcome ≡ Done sent told unknown
    → (s : GroupState) → end.nodes n ≡ Up s → (peer : ℕ) → LacksEntries n s peer
    → (request : Outstanding) × (waited_for s.role peer ≡ Some request)
    × ((waited_in (middle.nodes n) peer ≡ Some request) ⊎ IsSent sent peer request.id)
