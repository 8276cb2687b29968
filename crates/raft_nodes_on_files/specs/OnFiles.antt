-- A node on files: what its opening makes of them, and what it hands back.
use Rattle.std.specs.Prelude.{◌≡◌, ℕ, false, List}
use Rattle.raft_cluster_events.specs.declared.outcome.Stop.{Stop}
use Rattle.raft_log_disk.specs.MemorySystem.{disk_in, is_bounded_in, meter_in}
use Rattle.raft_log_disk.specs.declared.crash.CrashChoice.{CrashChoice as FileChoice}
use Rattle.raft_log_disk.specs.declared.crash.CrashRefusal.{CrashRefusal as FileRefusal}
use Rattle.raft_log_engine.specs.Left.{answers_on}
use Rattle.raft_log_engine.specs.Log.{CantBeLeftSo, IsCrashedLog, IsFusedLog, leaves_of_log}
use Rattle.raft_log_engine.specs.Met.{IsMisuse, Meets}
use Rattle.raft_log_engine.specs.declared.fault.EngineFault.{EngineFault}
use Rattle.raft_log_engine.specs.declared.memory.LogFiles.{LogFiles}
use Rattle.raft_log_engine.specs.declared.memory.MemoryLog.{MemoryLog}
use Rattle.raft_log_files.specs.declared.config.Config.{Config}
use Rattle.raft_machines.specs.Machine.{MachineRules}
use Rattle.raft_machines.specs.declared.machine.StateMachine.{Ghosts}
use Rattle.raft_node.specs.declared.node.Node.{Node}
use Rattle.raft_node.specs.declared.outcome.Outcome.{Outcome}
use Rattle.raft_store.specs.declared.fault.StoreFault.{StoreFault}
use Rattle.raft_store.specs.declared.store.Store.{Store}
use Rattle.raft_nodes_on_logs.specs.Acts as over
use Rattle.raft_node_logs.specs.Files.{AreFusedFiles, ChoosesSo, IsFoundAs, IsNotOpened, IsOpenedLog, RefuseNothing, cause_of_log, files_in, refusal_in}
use Rattle.raft_nodes_on_logs.specs.Kinds.{NodeKind}

-- one of this machine, over a log on files
abbrev pub on_files : {M : Type 0} → Ghosts M → MachineRules → (M → List ℕ) → NodeKind
on_files {M = M} machine rules state = record {
  Machine = M;
  machine = machine;
  rules = rules;
  state = state;
  Log = MemoryLog;
  Fault = EngineFault;
  Files = LogFiles;
  Settings = Config;
  Choice = FileChoice;
  Refusal = FileRefusal;
  is_sound = λ l. l.has_failed ≡ false;
  answers = λ l. answers_on disk_in l.engine;
  leaves = λ l content. leaves_of_log disk_in l content;
  meets = λ old new met. Meets disk_in is_bounded_in meter_in old new met;
  misuse = λ fault. IsMisuse fault;
  refuses = λ l choice why. CantBeLeftSo choice why (disk_in l.engine.files);
  crashed = λ old choice new. IsCrashedLog disk_in meter_in old choice new;
  fused = λ old first new. IsFusedLog disk_in meter_in old first new;
  opens = λ files log. IsOpenedLog files log;
  fresh = λ files. RefuseNothing files;
  hands_back = λ log files. files ≡ files_in log;
  fused_files = λ old first new. AreFusedFiles old first new;
  found = λ files content. IsFoundAs files content;
  unopened = λ old cause new. IsNotOpened old cause new;
  cause = cause_of_log;
  chooses = λ asked chosen. ChoosesSo asked chosen;
  refusal = refusal_in;
}

abbrev pub UpNode : (M : Type 0) → Ghosts M → Type 0
UpNode M g = Node M (Store M MemoryLog EngineFault) (StoreFault EngineFault) g

abbrev pub IsLeftOpening : {M : Type 0} (g : Ghosts M) (rules : MachineRules) (state : M → List ℕ) → LogFiles → ℕ → Stop → LogFiles → Type 0
IsLeftOpening g rules state old id stop new = over.IsLeftOpening (on_files g rules state) old id stop new

module _ {M : Type 0} {g : Ghosts M} (rules : MachineRules) (state : M → List ℕ) where
  abbrev pub IsOpened : LogFiles → ℕ → UpNode M g → List Outcome → Type 0
  IsOpened files id n did = over.IsOpened (on_files g rules state) files id n did

  abbrev pub AreHandedBack : UpNode M g → LogFiles → Type 0
  AreHandedBack n files = over.AreHandedBack (on_files g rules state) n files
