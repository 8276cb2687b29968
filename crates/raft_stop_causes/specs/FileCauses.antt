-- Why a node on files stops, where a history leads to it.
use Rattle.std.specs.Prelude.{◌≡◌, ℕ, true, List, length, Option, Some, Result, Err}
use Rattle.raft_cluster_conditions.specs.Cuts.{are_cuts}
use Rattle.raft_cluster_events.specs.Node.{NodeActs}
use Rattle.raft_cluster_events.specs.States.{NodeStates}
use Rattle.raft_cluster_events.specs.declared.node.NodeOutcome.{NodeOutcome}
use Rattle.raft_cluster_events.specs.declared.outcome.NodeError.{NodeError}
use Rattle.raft_cluster_events.specs.declared.outcome.NodeError.TheVariants.{Stopped}
use Rattle.raft_cluster_events.specs.declared.outcome.Stop.{Stop}
use Rattle.raft_cluster_events.specs.declared.outcome.StopCause.{StopCause}
use Rattle.raft_cluster_events.specs.declared.outcome.StopCause.TheVariants.{TooLong}
use Rattle.raft_group_step.specs.GroupEvent.{GroupCall}
use Rattle.raft_group_step.specs.Message.{Message}
use Rattle.raft_headline.specs.ClusterEvent.{Recorded}
use Rattle.raft_log_disk.specs.declared.memory.MemoryFileSystem.{MemoryFileSystem}
use Rattle.raft_machines.specs.Machine.{MachineRules}
use Rattle.raft_machines.specs.declared.machine.StateMachine.{Ghosts}
use Rattle.raft_node_laws.specs.Delivery.{Comes, pieces_from}
use Rattle.raft_node_laws.specs.Law.{Anything, IsAskedAt, WasSent}
use Rattle.raft_nodes_on_files.specs.OnFiles.{UpNode}
use Rattle.raft_nodes_on_files.specs.Stops.{FileNodeOf, HasCause, files_of}
use Rattle.raft_stop_causes.specs.Causes.{IsSomewhere}

-- the files counted it, memory is missing, or it is another fault of a file: nothing was too long
abbrev pub HasFileCause : StopCause → MemoryFileSystem → MemoryFileSystem → Type 0
HasFileCause TooLong old new = ⊥
HasFileCause why old new = HasCause why old new

module _ {M : Type 0} {g : Ghosts M} (rules : MachineRules) (acts : NodeActs (FileNodeOf M g)) (states : NodeStates (FileNodeOf M g)) where
  -- a call that stops the node does so for such a cause
  abbrev pub StopsOnFiles : (List Recorded → Type 0) → FileNodeOf M g → FileNodeOf M g → Result NodeOutcome NodeError → Type 0
  StopsOnFiles Kind old new answered =
      (n m : UpNode M g) (stop : Stop) → IsSomewhere rules acts states Kind old → old.up ≡ Some n → new.up ≡ Some m → answered ≡ Err (Stopped stop)
      → HasFileCause stop.cause (files_of n) (files_of m)

  pub record StopOnFiles : Type 0 where
    pub adds : (old new : FileNodeOf M g) (group : ℕ) (answered : Result NodeOutcome NodeError) → acts.adds old group answered new → StopsOnFiles Anything old new answered
    pub asks : (old new : FileNodeOf M g) (group now : ℕ) (call : GroupCall) (answered : Result NodeOutcome NodeError) → acts.asks old group call now answered new
        → StopsOnFiles (IsAskedAt old.id group call now) old new answered
    -- a frame that was sent to the node comes, cut into pieces: the files counted it at the last of them
    pub delivers : (old new : FileNodeOf M g) (group number now : ℕ) (m : Message) (bytes cuts : List ℕ) (answered : Result (Option NodeOutcome) NodeError)
        → m.addressee ≡ old.id → states.spells group m bytes → are_cuts 0 (length bytes) cuts ≡ true → Comes acts m.sender now old (pieces_from bytes 0 cuts) answered new
        → (n z : UpNode M g) (stop : Stop) → IsSomewhere rules acts states (WasSent group number m) old → old.up ≡ Some n → new.up ≡ Some z → answered ≡ Err (Stopped stop)
        → (x : UpNode M g) × HasFileCause stop.cause (files_of x) (files_of z)
