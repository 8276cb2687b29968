-- Which holes an opening leaves: older files without bytes before the last one.
use Rattle.std.specs.Prelude.{◌≡◌, ℕ, ◌<◌, List, ◌∷◌, ◌++◌, length, Err}
use Rattle.raft_log_records.specs.declared.file_id.LogQueue.{LogQueue}
use Rattle.raft_log_disk.specs.declared.format.HeaderFault.{HeaderFault}
use Rattle.raft_log_disk.specs.Disk.{Disk}
use Rattle.raft_log_disk.specs.Format.{header_at}
use Rattle.raft_log_disk.specs.Text.{Text}
use Rattle.raft_log_files.specs.declared.recovery.RecoveryMode.{RecoveryMode}
use Rattle.raft_log_files.specs.declared.recovery.RecoveryMode.TheVariants.{TolerateAnyCorruption}
use Rattle.raft_log_pipe.specs.declared.pipe.SinglePipe.{SinglePipe}
use Rattle.raft_log_recovery.specs.declared.scan.FileName.{FileName}
use Rattle.raft_log_recovery.specs.Crashed.{HasHole}
use Rattle.raft_log_recovery.specs.Queue.{IsFileOf}

-- a file that others follow has a broken header, or no bytes
pub record HasBroken (directories : List Text) (queue : LogQueue) (names : List FileName) (d : Disk) : Type 0 where
  pub before : List FileName
  pub name : FileName
  pub behind : List FileName
  pub split : names ≡ before ++ name ∷ behind
  pub followed : 0 < length behind
  pub fd : ℕ
  pub there : IsFileOf d directories queue name fd
  pub fault : HeaderFault
  pub broken : header_at (d.file fd).bytes ≡ Err fault

-- A pipe has a hole only where the files before had such a file, and the mode cuts any fault away
abbrev pub HolesOnlyBroken : RecoveryMode → List Text → LogQueue → List FileName → Disk → Disk → SinglePipe → Type 0
HolesOnlyBroken mode directories queue names old new p = HasHole p new → (mode ≡ TolerateAnyCorruption) × HasBroken directories queue names old
