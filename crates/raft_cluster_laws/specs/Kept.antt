-- What the type of a cluster keeps of a group: whichever of the states that its nodes may be in
-- they are in, the history replays to that.
use Rattle.std.specs.Prelude.{◌≡◌, ℕ, List, [], ◌∷◌, Contains}
use Rattle.raft_laws.specs.GroupWorld.{NodeState, new_world}
use Rattle.raft_laws.specs.OneList.{AreNodeIds}
use Rattle.raft_machines.specs.Machine.{MachineRules}
use Rattle.raft_headline.specs.ClusterEvent.{Recorded}
use Rattle.raft_headline.specs.Machines.{Replicas, new_replicas}
use Rattle.raft_headline.specs.Replaying.{ReplaysFor}

-- what each node may be in the group: a node that is up is in one state, and one that is down is
-- opened with one of those that its storage may show
abbrev pub Candidates : Type 0
Candidates = ℕ → List NodeState

-- a choice among them
abbrev pub AreAmong : Candidates → (ℕ → NodeState) → Type 0
AreAmong candidates states = (n : ℕ) → Contains (candidates n) (states n)

-- nodes that are up and know of no group
abbrev pub new_candidates : List ℕ → Candidates
new_candidates ids n = (new_world ids).nodes n ∷ []

module _ (rules : MachineRules) (ids : List ℕ) (h : ℕ) where
  -- the history leads to replicas whose nodes are these
  pub record LeadsTo (history : List Recorded) (states : ℕ → NodeState) : Type 0 where
    pub end : Replicas
    pub replays : ReplaysFor rules h (new_replicas rules ids) history end
    pub nodes : (n : ℕ) → end.world.nodes n ≡ states n

  -- it does so for each choice among the candidates, and there is one
  pub record IsKeptFor (candidates : Candidates) (history : List Recorded) : Type 0 where
    pub one : ℕ → NodeState
    pub among : AreAmong candidates one
    pub leads : (states : ℕ → NodeState) → AreAmong candidates states → LeadsTo history states

-- so for every group
pub record IsKept (rules : MachineRules) (ids : List ℕ) (candidates : ℕ → Candidates) (history : List Recorded) : Type 0 where
  pub node_ids : AreNodeIds ids
  pub groups : (h : ℕ) → IsKeptFor rules ids h (candidates h) history
