-- What is read of a cluster by its lists: the machine that a node lends of a group, and the entries behind told answers.
use Rattle.std.specs.Prelude.{◌≡◌, ◌≤◌, ℕ, true, List, [], ◌∷◌, length, take, slice_get, Option, Some, None}
use Rattle.raft_group_step.specs.GroupEvent.{GroupCall}
use Rattle.raft_group_step.specs.SnapshotRequest.{place_above}
use Rattle.raft_group_step.specs.Values.{Entry}
use Rattle.raft_laws.specs.Stop.{token_of_call}
use Rattle.raft_machines.specs.declared.telling.Told.{Told}
use Rattle.raft_machines.specs.Fold.{answer_at, fold_of}
use Rattle.raft_machines.specs.Machine.{MachineRules}
use Rattle.raft_headline.specs.Told.{IsAskedFor}
use Rattle.raft_cluster_events.specs.declared.event.ClusterEvent.TheVariants.{Ask}
use Rattle.raft_cluster_events.specs.declared.outcome.EventOutcome.{EventOutcome}
use Rattle.raft_cluster_events.specs.declared.outcome.Recorded.{Recorded}
use Rattle.raft_cluster_events.specs.Node.{NodeActs}
use Rattle.raft_cluster.specs.Facts.{is_taken, node_in}

-- ---- machines

module _ {N : Type 0} (acts : NodeActs N) where
  abbrev pub machine_in : Option N → ℕ → Option (List ℕ)
  machine_in None group = None
  machine_in (Some node) group = acts.machine_of node group

  abbrev pub applied_in : Option N → ℕ → Option ℕ
  applied_in None group = None
  applied_in (Some node) group = acts.applied_of node group

  -- the state of the machine that the node of this id lends of the group, if there is such a node and it lends one
  abbrev pub machine_at : List N → ℕ → ℕ → Option (List ℕ)
  machine_at nodes id group = machine_in (node_in acts nodes id) group

  -- the last place of the group that the node has applied, if any
  abbrev pub applied_at : List N → ℕ → ℕ → Option ℕ
  applied_at nodes id group = applied_in (node_in acts nodes id) group

-- the last place that is applied, if any is, is one of the list
abbrev pub IsWithin : List Entry → Option ℕ → Type 0
IsWithin list applied = place_above applied ≤ length list

-- and a machine's state is the fold of just the entries up to it
pub record IsFoldOfFront (rules : MachineRules) (list : List Entry) (machine : List ℕ) (applied : Option ℕ) : Type 0 where
  pub within : IsWithin list applied
  pub folded : machine ≡ fold_of rules (take (place_above applied) list)

-- so it is of a machine that is lent; where none is, no place is told as applied
abbrev pub LendsFront : MachineRules → List Entry → Option (List ℕ) → Option ℕ → Type 0
LendsFront rules list None applied = applied ≡ None
LendsFront rules list (Some machine) applied = IsFoldOfFront rules list machine applied

-- ---- told answers

-- the event of this number asked a node for this in the group, and was neither refused nor turned away
pub record IsAskedBy (history : List Recorded) (group number : ℕ) (call : GroupCall) : Type 0 where
  pub node : ℕ
  pub now : ℕ
  pub outcome : EventOutcome
  pub stands : slice_get history number ≡ Some (record { event = Ask node group call now; outcome = outcome })
  pub taken : is_taken outcome ≡ true

-- at the told place of the list stands this entry, an event asked for what it holds with the told token, and the told answer is the
-- machine's there, behind all entries before it
pub record StandsAsTold (rules : MachineRules) (history : List Recorded) (group : ℕ) (list : List Entry) (told : Told) (entry : Entry) : Type 0 where
  pub stands : slice_get list told.place ≡ Some entry
  pub number : ℕ
  pub call : GroupCall
  pub asked : IsAskedBy history group number call
  pub token : token_of_call call ≡ told.token ∷ []
  pub holds : IsAskedFor call entry.payload
  pub answer : told.answer ≡ answer_at rules list told.place

-- what is told, if it is, stands there so; where nothing is told there is no entry
abbrev pub HasToldEntry : MachineRules → List Recorded → ℕ → List Entry → Option Told → Option Entry → Type 0
HasToldEntry rules history group list None found = found ≡ None
HasToldEntry rules history group list (Some told) found =
    (entry : Entry) × (found ≡ Some entry) × StandsAsTold rules history group list told entry
