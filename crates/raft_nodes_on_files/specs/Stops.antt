-- What a crash and a fuse do at a node of a cluster that stands on files.
use Rattle.std.specs.Prelude.{◌≡◌, ◌⊎◌, ℕ, List, Option, Some, None, Result, Ok, Err}
use Rattle.raft_cluster_events.specs.Node.{NodeActs}
use Rattle.raft_cluster_events.specs.declared.event.CrashChoice.{CrashChoice}
use Rattle.raft_cluster_events.specs.declared.node.NodeOutcome.{NodeOutcome}
use Rattle.raft_cluster_events.specs.declared.outcome.CrashRefusal.{CrashRefusal}
use Rattle.raft_cluster_events.specs.declared.outcome.CrashRefusal.TheVariants.{Memory}
use Rattle.raft_cluster_events.specs.declared.outcome.NodeError.{NodeError}
use Rattle.raft_cluster_events.specs.declared.outcome.NodeError.TheVariants.{Stopped}
use Rattle.raft_cluster_events.specs.declared.outcome.Stop.{Stop}
use Rattle.raft_cluster_events.specs.declared.outcome.StopCause.{StopCause}
use Rattle.raft_cluster_events.specs.declared.outcome.StopCause.TheVariants.{Io, TryAgain, TooLong, Other}
use Rattle.raft_cluster_events.specs.declared.outcome.StopCause.TheVariants as cause
use Rattle.raft_group_step.specs.GroupEvent.{GroupCall}
use Rattle.raft_log_cleaner.specs.Caused.{RefusesReads}
use Rattle.raft_log_disk.specs.Cause.{IsBlown, Lacks, RefusesNoMore, Rises}
use Rattle.raft_log_disk.specs.MemorySystem.{disk_in, is_bounded_in, meter_in}
use Rattle.raft_log_disk.specs.declared.crash.CrashChoice.{CrashChoice as FileChoice}
use Rattle.raft_log_disk.specs.declared.crash.CrashRefusal.{CrashRefusal as FileRefusal}
use Rattle.raft_log_disk.specs.declared.memory.MemoryFileSystem.{MemoryFileSystem}
use Rattle.raft_log_engine.specs.Left.{answers_on}
use Rattle.raft_log_engine.specs.Log.{AreCrashed, AreFused, CantBeLeftSo}
use Rattle.raft_log_engine.specs.declared.fault.EngineFault.{EngineFault}
use Rattle.raft_log_engine.specs.declared.memory.LogFiles.{LogFiles}
use Rattle.raft_log_engine.specs.declared.memory.MemoryLog.{MemoryLog}
use Rattle.raft_log_files.specs.declared.config.Config.{Config}
use Rattle.raft_log_memtables.specs.Content.{Content}
use Rattle.raft_machines.specs.declared.machine.StateMachine.{Ghosts}
use Rattle.raft_node_logs.specs.Files.{ChoosesSo, refusal_in}
use Rattle.raft_nodes_on_logs.specs.declared.log_node.LogNode.{LogNode}
use Rattle.raft_nodes_on_files.specs.OnFiles.{UpNode}

-- a node of a cluster, on files of its own
abbrev pub FileNodeOf : (M : Type 0) → Ghosts M → Type 0
FileNodeOf M g = LogNode M MemoryLog LogFiles Config EngineFault FileChoice FileRefusal g

-- a crash left of these files what was chosen, in their words
abbrev pub IsLeftSo : MemoryFileSystem → CrashChoice → MemoryFileSystem → Type 0
IsLeftSo old choice new = (chosen : FileChoice) × ChoosesSo choice chosen × AreCrashed disk_in meter_in old chosen new

-- memory is missing, or they can't be left so
abbrev pub IsntLeftSo : MemoryFileSystem → CrashChoice → CrashRefusal → Type 0
IsntLeftSo old choice why = (why ≡ Memory)
    ⊎ (chosen : FileChoice) × ChoosesSo choice chosen × (met : FileRefusal) × (why ≡ refusal_in met) × CantBeLeftSo chosen met (disk_in old)

-- Why a node stopped, by what its files counted meanwhile: a call of them was refused, or they refuse reads of a path; or two
-- writes found no space. The other causes aren't the files'
abbrev pub HasCause : StopCause → MemoryFileSystem → MemoryFileSystem → Type 0
HasCause Io old new = Rises 1 (meter_in old) (meter_in new) ⊎ RefusesReads (meter_in old)
HasCause TryAgain old new = Lacks 2 (meter_in old) (meter_in new)
HasCause cause.Memory old new = Unit {0}
HasCause TooLong old new = Unit {0}
HasCause Other old new = Unit {0}

module _ {M : Type 0} {g : Ghosts M} where
  -- the files that its log stands on
  abbrev pub files_of : UpNode M g → MemoryFileSystem
  files_of n = n.groups.storage.log.engine.files

  -- what it has stored: the content that its log answers
  abbrev pub stored_by : UpNode M g → Content (List ℕ)
  stored_by n = answers_on disk_in n.groups.storage.log.engine

  -- an answer that is a stop has its cause
  abbrev pub StopsForCause : {T : Type 0} → FileNodeOf M g → FileNodeOf M g → Result T NodeError → Type 0
  StopsForCause old new answered =
      (n m : UpNode M g) (stop : Stop) → old.up ≡ Some n → new.up ≡ Some m → answered ≡ Err (Stopped stop) → HasCause stop.cause (files_of n) (files_of m)

  -- Where all changing calls of the files are refused, the node has stored nothing that it hadn't before
  abbrev pub StoresNothing : FileNodeOf M g → FileNodeOf M g → Type 0
  StoresNothing old new = (n m : UpNode M g) → old.up ≡ Some n → new.up ≡ Some m → IsBlown (meter_in (files_of n)) → stored_by m ≡ stored_by n

  pub record StopAsAsked (acts : NodeActs (FileNodeOf M g)) : Type 0 where
    -- a crash leaves of the files just what was chosen
    pub crashes : (old new : FileNodeOf M g) (n : UpNode M g) (choice : CrashChoice) → old.up ≡ Some n → acts.crashes old choice new
        → (new.up ≡ None) × IsLeftSo (files_of n) choice new.files.files
    -- it is refused for its reason alone
    pub refuses : (old : FileNodeOf M g) (n : UpNode M g) (choice : CrashChoice) (why : CrashRefusal) → old.up ≡ Some n → acts.refuses old choice why
        → IsntLeftSo (files_of n) choice why
    -- a fuse is set, of a node that is up and of one that is down
    pub fuses : (old new : FileNodeOf M g) (n : UpNode M g) (first_refused : Option ℕ) → old.up ≡ Some n → acts.fuses old first_refused new
        → (m : UpNode M g) × (new.up ≡ Some m) × AreFused disk_in meter_in (files_of n) first_refused (files_of m)
    pub fuses_down : (old new : FileNodeOf M g) (first_refused : Option ℕ) → old.up ≡ None → acts.fuses old first_refused new
        → (new.up ≡ None) × AreFused disk_in meter_in old.files.files first_refused new.files.files
    -- behind a fuse that refuses each call, what ends without a stop has stored nothing
    pub adds : (old new : FileNodeOf M g) (group : ℕ) (outcome : NodeOutcome) → acts.adds old group (Ok outcome) new → StoresNothing old new
    pub asks : (old new : FileNodeOf M g) (group now : ℕ) (call : GroupCall) (outcome : NodeOutcome) → acts.asks old group call now (Ok outcome) new
        → StoresNothing old new
    pub feeds : (old new : FileNodeOf M g) (peer now : ℕ) (piece : List ℕ) (outcome : Option NodeOutcome) → acts.feeds old peer piece now (Ok outcome) new
        → StoresNothing old new
    -- an opened node has the fuse of its files, as far as the opening's calls left it, and no other
    pub opens : (old new : FileNodeOf M g) (n : UpNode M g) (workers : ℕ) (outcomes : List NodeOutcome) → old.up ≡ None → new.up ≡ Some n
        → acts.reopens old workers (Ok outcomes) new
        → RefusesNoMore (is_bounded_in old.files.files) (is_bounded_in (files_of n)) (meter_in old.files.files) (meter_in (files_of n))
    -- an event that stops the node does so for its cause
    pub adds_for_cause : (old new : FileNodeOf M g) (group : ℕ) (answered : Result NodeOutcome NodeError) → acts.adds old group answered new → StopsForCause old new answered
    pub asks_for_cause : (old new : FileNodeOf M g) (group now : ℕ) (call : GroupCall) (answered : Result NodeOutcome NodeError) → acts.asks old group call now answered new
        → StopsForCause old new answered
    pub feeds_for_cause : (old new : FileNodeOf M g) (peer now : ℕ) (piece : List ℕ) (answered : Result (Option NodeOutcome) NodeError) → acts.feeds old peer piece now answered new
        → StopsForCause old new answered
    pub cleans_for_cause : (old new : FileNodeOf M g) (answered : Result (List ℕ) NodeError) → acts.cleans old answered new → StopsForCause old new answered
    -- and so does an opening that isn't done
    pub opens_for_cause : (old new : FileNodeOf M g) (workers : ℕ) (stop : Stop) → old.up ≡ None → acts.reopens old workers (Err stop) new
        → HasCause stop.cause old.files.files new.files.files
