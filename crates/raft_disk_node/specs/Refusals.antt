-- Why a node on a directory isn't opened, by the layer that refused it.
use Rattle.std.specs.Prelude.{⊤, ◌≡◌, ℕ, List, is_some, string_bytes}
use Rattle.raft_disk_node.specs.declared.fault.NotOpenedDisk.{NotOpenedDisk}
use Rattle.raft_disk_node.specs.declared.fault.NotOpenedDisk.TheVariants.{Directory, Log, Node}
use Rattle.raft_disk_node.specs.declared.fault.SystemCause.{SystemCause}
use Rattle.raft_log_disk.specs.MemorySystem.{is_bounded_in}
use Rattle.raft_log_engine.specs.Log.{main_directory}
use Rattle.raft_log_engine.specs.Unopened.{IsOpeningFault}
use Rattle.raft_log_engine.specs.declared.fault.EngineFault.{EngineFault}
use Rattle.raft_log_files.specs.Settings.{settings_fault, settings_of}
use Rattle.raft_log_files.specs.declared.config.Config.{Config}
use Rattle.raft_log_files.specs.declared.recovery.RecoveryMode.TheVariants.{TolerateTailCorruption}
use Rattle.raft_log_host.specs.Mirror.{OnHost, host_disk, host_meter}

-- The log over these files isn't opened, for a cause of an opening's, and the system's cause is told where it refused a call
pub record IsRefusedLog (settings : Config) (files : OnHost) (fault : EngineFault) (cause : SystemCause) : Type 0 where
  pub left : OnHost
  pub opening : IsOpeningFault (settings_fault (settings_of settings)) TolerateTailCorruption (main_directory settings)
      (host_disk files) (host_disk left) (is_bounded_in files.memory) (host_meter files) (host_meter left) fault
  pub told : is_some cause.0 ≡ left.has_failed

-- it is the log that refused
abbrev pub IsOfLog : Config → OnHost → NotOpenedDisk → Type 0
IsOfLog settings files (Directory why) = ⊥
IsOfLog settings files (Log fault cause) = IsRefusedLog settings files fault cause
IsOfLog settings files (Node fault cause) = ⊥

-- the directory was opened, and the log over its files refused
pub record IsRefusedInside (directory : List ℕ) (fault : EngineFault) (cause : SystemCause) : Type 0 where
  pub settings : Config
  pub files : OnHost
  pub inside : string_bytes settings.dir ≡ directory
  pub log : IsRefusedLog settings files fault cause

-- what each layer's refusal says
abbrev pub IsRefusal : List ℕ → NotOpenedDisk → Type 0
IsRefusal directory (Directory why) = ⊤
IsRefusal directory (Log fault cause) = IsRefusedInside directory fault cause
IsRefusal directory (Node fault cause) = ⊤
