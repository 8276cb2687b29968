-- Machines beside a group: what each node's machine runs as its group commits, and the bytes of snapshots.
use Rattle.std.specs.Prelude.{◌≡◌, ℕ, ◌+◌, Bool, true, false, nat_lt, if◌then◌else◌, List, []}
use Rattle.std.specs.Prelude.{◌∷◌, ◌++◌, map, take, drop, slice_get, Option, Some, None, option_map, Contains}
use Rattle.std.specs.List.{last_or}
use Rattle.raft_group_step.specs.Values.{Entry}
use Rattle.raft_group_step.specs.StoredGroup.{Snapshot, StoringCommand, MakeGroup, SetVote, PutEntries, CutFrom, RemoveUpTo, SetSnapshot, StartAfter}
use Rattle.raft_group_step.specs.GroupState.{GroupState, state_of}
use Rattle.raft_group_step.specs.GroupEvent.{GroupEvent, AddGroup, Call, Receive, Open}
use Rattle.raft_group_step.specs.GroupStep.{group_step}
use Rattle.raft_group_step.specs.SnapshotRequest.{place_above}
use Rattle.raft_laws.specs.BallotLists.{with_value}
use Rattle.raft_laws.specs.GroupWorld.{GroupWorld, NodeState, Absent, Up, Down, new_world}
use Rattle.raft_laws.specs.NodeEvent.{NodeEvent, Comes, Crashes, Halts, Restarts}
use Rattle.raft_laws.specs.GroupRun.{Scene, Nowhere, At}
use Rattle.raft_laws.specs.OneList.{applied_list}
use Rattle.raft_machines.specs.Machine.{MachineRules}
use Rattle.raft_machines.specs.Telling.{Standing, answer_on, run_on}
use Rattle.raft_machines.specs.Fold.{answer_to_payload, state_from}

-- ---- snapshots

-- bytes that a machine gave for a snapshot
pub record Built : Type 0 where
  pub snapshot : Snapshot
  pub bytes : List ℕ

abbrev pub snapshot_in : StoringCommand → Option Snapshot
snapshot_in MakeGroup = None
snapshot_in (SetVote vote) = None
snapshot_in (PutEntries place entries) = None
snapshot_in (CutFrom place) = None
snapshot_in (RemoveUpTo id) = None
snapshot_in (SetSnapshot x) = Some x
snapshot_in (StartAfter id) = None

abbrev pub with_snapshot : Option Snapshot → List Snapshot → List Snapshot
with_snapshot None xs = xs
with_snapshot (Some x) xs = x ∷ xs

-- the snapshots that these commands store, in their order
abbrev pub snapshots_of : List StoringCommand → List Snapshot
snapshots_of [] = []
snapshots_of (c ∷ cs) = with_snapshot (snapshot_in c) (snapshots_of cs)

-- those that came in a message, and those that a call asked for
abbrev pub brought_by : GroupEvent → List StoringCommand → List Snapshot
brought_by AddGroup cs = []
brought_by (Call call now) cs = []
brought_by (Receive peer message now) cs = snapshots_of cs
brought_by Open cs = []

abbrev pub asked_by : GroupEvent → List StoringCommand → List Snapshot
asked_by AddGroup cs = []
asked_by (Call call now) cs = snapshots_of cs
asked_by (Receive peer message now) cs = []
asked_by Open cs = []

-- the law of a machine: what its snapshot restores is the state that it was given of
abbrev pub KeepsItsLaw : MachineRules → List ℕ → Type 0
KeepsItsLaw rules state = rules.restored (rules.snapshot state) ≡ state

-- ---- one group with its machines

-- the world of a group, the states of the machines of nodes that are up, and all bytes that were given for snapshots
pub record Replicas : Type 0 where
  pub world : GroupWorld
  pub machines : ℕ → List ℕ
  pub built : List Built

-- nodes that know of no group, and machines that have run nothing
abbrev pub new_replicas : MachineRules → List ℕ → Replicas
new_replicas rules ids =
    record { world = new_world ids; machines = λ n. rules.first; built = [] }

-- a step that a node's machine takes part in: where the machine stands, and the snapshot that it is to restore, if any
pub record Turn : Type 0 where
  pub state : GroupState
  pub event : GroupEvent
  pub before : Standing
  pub restores : Option Snapshot

-- a machine runs on, and a node that is opened begins a new one
abbrev pub turn_of : MachineRules → ℕ → List ℕ → NodeEvent → NodeState → Option Turn
turn_of rules n machine e Absent = None
turn_of rules n machine (Comes e) (Up s) =
    Some
    (record {
      state = s;
      event = e;
      before = record { state = machine; count = place_above s.applied };
      restores = last_or None (brought_by e (group_step n s e).commands);
    })
turn_of rules n machine Crashes (Up s) = None
turn_of rules n machine Halts (Up s) = None
turn_of rules n machine Restarts (Up s) = None
turn_of rules n machine (Comes e) (Down stored) = None
turn_of rules n machine Crashes (Down stored) = None
turn_of rules n machine Halts (Down stored) = None
turn_of rules n machine Restarts (Down stored) =
    Some
    (record {
      state = state_of stored;
      event = Open;
      before = record { state = rules.first; count = 0 };
      restores = stored.snapshot;
    })

-- the snapshot has bytes
abbrev pub HasBytes : List Built → Snapshot → Type 0
HasBytes built x = (bytes : List ℕ) × Contains built (record { snapshot = x; bytes = bytes })

-- the machine goes on where it stood, or where the bytes of the snapshot bring it
abbrev pub StandsAt : MachineRules → List Built → Standing → Option Snapshot → Standing → Type 0
StandsAt rules built before None at = at ≡ before
StandsAt rules built before (Some x) at =
    (has : HasBytes built x) × (at ≡ record { state = rules.restored has.0; count = x.last.index + 1 })

-- the machine gives the bytes of a snapshot that is asked for, before it runs on
abbrev pub given_of : MachineRules → List ℕ → List Snapshot → List Built
given_of rules state xs =
    map (λ (x : Snapshot). record { snapshot = x; bytes = rules.snapshot state }) xs

-- it keeps its law where one is asked for
abbrev pub GivesRightly : MachineRules → List ℕ → List Snapshot → Type 0
GivesRightly rules state [] = Unit {0}
GivesRightly rules state (x ∷ xs) = KeepsItsLaw rules state

-- of a node that goes down nothing is left
abbrev pub machines_after : Bool → ℕ → List ℕ → (ℕ → List ℕ) → ℕ → List ℕ
machines_after true n state machines = machines
machines_after false n state machines = with_value machines n state

-- the machine of node n takes this turn, in a step that stops or runs to its end
pub record TakesTurn (rules : MachineRules) (n : ℕ) (turn : Turn) (stops : Bool) (old new : Replicas) (answers : ℕ → Option (List ℕ)) : Type 0 where
  pub at : Standing
  pub stands : StandsAt rules old.built turn.before turn.restores at
  pub machines : new.machines ≡ machines_after stops n (run_on rules at (applied_list (group_step n turn.state turn.event).state)) old.machines
  pub answered : answers ≡ answer_on rules at (applied_list (group_step n turn.state turn.event).state)
  pub brought : (x : Snapshot) → Contains (brought_by turn.event (group_step n turn.state turn.event).commands) x → HasBytes old.built x
  pub rightly : GivesRightly rules turn.before.state (asked_by turn.event (group_step n turn.state turn.event).commands)
  pub given : new.built ≡ old.built ++ given_of rules turn.before.state (asked_by turn.event (group_step n turn.state turn.event).commands)

-- no machine runs
pub record StandsStill (old new : Replicas) : Type 0 where
  pub machines : new.machines ≡ old.machines
  pub built : new.built ≡ old.built

abbrev pub MachinesMove : MachineRules → ℕ → Option Turn → Bool → Replicas → Replicas → (ℕ → Option (List ℕ)) → Type 0
MachinesMove rules n None stops old new answers = StandsStill old new
MachinesMove rules n (Some turn) stops old new answers =
    TakesTurn rules n turn stops old new answers

-- so where the event happens
abbrev pub MachinesMoveIn : MachineRules → Scene → Bool → Replicas → Replicas → (ℕ → Option (List ℕ)) → Type 0
MachinesMoveIn rules Nowhere stops old new answers = StandsStill old new
MachinesMoveIn rules (At n e) stops old new answers =
    MachinesMove rules n (turn_of rules n (old.machines n) e (old.world.nodes n)) stops old new answers
