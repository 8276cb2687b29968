-- What an opening finds of the files that another one has left, without a crash between.
use Rattle.std.specs.Prelude.{◌≡◌, List}
use Rattle.raft_log_records.specs.declared.file_id.LogQueue.{LogQueue}
use Rattle.raft_log_disk.specs.Disk.{Disk}
use Rattle.raft_log_disk.specs.Text.{Text}
use Rattle.raft_log_files.specs.declared.recovery.RecoveryMode.{RecoveryMode}
use Rattle.raft_log_pipe.specs.declared.file.File.{File}
use Rattle.raft_log_pipe.specs.Pipe.{Numbered}
use Rattle.raft_log_recovery.specs.declared.scan.FileName.{FileName}
use Rattle.raft_log_recovery.specs.Crashed.{Finds}
use Rattle.raft_log_recovery.specs.Opening.{batches_of}
use Rattle.raft_log_recovery.specs.Queue.{AnyRefused}

-- an opening finds files that read as these batches, and none of them has a fault that the mode refuses
pub record FindsSound (mode : RecoveryMode) (directories : List Text) (queue : LogQueue) (d : Disk) (bs : Numbered) : Type 0 where
  pub made : Disk
  pub names : List FileName
  pub files : List File
  pub finds : Finds directories queue d made names files
  pub passed : AnyRefused mode directories queue names made → ⊥
  pub reads : batches_of queue made files ≡ bs

-- what it finds of the one disk it might have found of the other before
abbrev pub FindsAsBefore : RecoveryMode → List Text → LogQueue → Disk → Disk → Type 0
FindsAsBefore mode directories queue old new = (bs : Numbered) → FindsSound mode directories queue new bs → FindsSound mode directories queue old bs
