-- What kind of node it is: its machine, and its log with what is there of it while the node is down.
use Rattle.std.specs.Prelude.{ℕ, List, Option}
use Rattle.raft_cluster_events.specs.declared.event.CrashChoice.{CrashChoice}
use Rattle.raft_cluster_events.specs.declared.outcome.CrashRefusal.{CrashRefusal}
use Rattle.raft_cluster_events.specs.declared.outcome.StopCause.{StopCause}
use Rattle.raft_content_log.specs.Leaving.{Leaves}
use Rattle.raft_content_log.specs.declared.content_log.ContentLog.{Ghosts as ContentGhosts}
use Rattle.raft_content_log.specs.declared.crash.CrashLog.{Ghosts as CrashGhosts}
use Rattle.raft_log_memtables.specs.Content.{Content}
use Rattle.raft_machines.specs.Machine.{MachineRules}
use Rattle.raft_machines.specs.declared.machine.StateMachine.{Ghosts}
use Rattle.raft_node_logs.specs.declared.node_log.NodeLog.{Ghosts as NodeGhosts}

pub record NodeKind : Type 1 where
  pub Machine : Type 0
  pub machine : Ghosts Machine
  pub rules : MachineRules
  pub state : Machine → List ℕ
  -- the log, why its calls fail, what it is opened from, by which settings, how it crashes, and why it doesn't crash so
  pub Log : Type 0
  pub Fault : Type 0
  pub Files : Type 0
  pub Settings : Type 0
  pub Choice : Type 0
  pub Refusal : Type 0
  -- no call of it has failed; what its calls answer; what a crash may leave; the fault that its calls met from one to the other; why it can't crash so
  pub is_sound : Log → Type 0
  pub answers : Log → Content (List ℕ)
  pub leaves : Log → Leaves
  pub meets : Log → Log → Option Fault → Type 0
  -- which of its faults tell of a misuse
  pub misuse : Fault → Type 0
  pub refuses : Log → Choice → Refusal → Type 0
  -- what it is behind a crash that left what was chosen, and behind a fuse
  pub crashed : Log → Choice → Log → Type 0
  pub fused : Log → Option ℕ → Log → Type 0
  -- the log that an opening makes of files, files that refuse nothing, the files of a log, and files behind a fuse
  pub opens : Files → Log → Type 0
  pub fresh : Files → Type 0
  pub hands_back : Log → Files → Type 0
  pub fused_files : Files → Option ℕ → Files → Type 0
  -- what an opening finds of files
  pub found : Files → Content (List ℕ) → Type 0
  -- why they aren't opened, and what they are then
  pub unopened : Files → StopCause → Files → Type 0
  -- a cluster's words
  pub cause : Fault → StopCause
  pub chooses : CrashChoice → Choice → Type 0
  pub refusal : Refusal → CrashRefusal

-- that of a machine and a log
abbrev pub kind_of : {Machine Log Fault Files Settings Choice Refusal : Type 0} → Ghosts Machine → ContentGhosts Log Fault → CrashGhosts Log Choice Refusal Fault
    → NodeGhosts Log Files Settings Fault Choice Refusal → NodeKind
kind_of {Machine = Machine} {Log = Log} {Fault = Fault} {Files = Files} {Settings = Settings} {Choice = Choice} {Refusal = Refusal} machine log crash node = record {
  Machine = Machine;
  machine = machine;
  rules = machine.rules;
  state = machine.state;
  Log = Log;
  Fault = Fault;
  Files = Files;
  Settings = Settings;
  Choice = Choice;
  Refusal = Refusal;
  is_sound = log.is_sound;
  answers = log.answers;
  leaves = log.leaves;
  meets = log.meets;
  misuse = log.is_misuse;
  refuses = crash.refuses;
  crashed = crash.crashed;
  fused = crash.fused;
  opens = node.opens;
  fresh = node.fresh;
  hands_back = node.hands_back;
  fused_files = node.fused_files;
  found = node.found;
  unopened = node.unopened;
  cause = node.cause;
  chooses = node.chooses;
  refusal = node.refusal;
}
