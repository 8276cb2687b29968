-- What an engine is opened with: the batches that the files of both queues read as.
use Rattle.std.specs.Prelude.{◌≡◌, ◌⊎◌, ℕ, ◌≤◌, List, ◌++◌, length}
use Rattle.raft_log_records.specs.declared.file_id.LogQueue.{LogQueue}
use Rattle.raft_log_records.specs.declared.file_id.LogQueue.TheVariants.{Append, Rewrite}
use Rattle.raft_log_disk.specs.Cause.{Meter}
use Rattle.raft_log_disk.specs.Text.{Text}
use Rattle.raft_log_disk.specs.Disk.{Disk}
use Rattle.raft_log_files.specs.Settings.{Settings}
use Rattle.raft_log_files.specs.declared.recovery.RecoveryMode.{RecoveryMode}
use Rattle.raft_log_files.specs.declared.recovery.RecoveryMode.TheVariants.{TolerateAnyCorruption}
use Rattle.raft_log_pipe.specs.declared.pipe.SinglePipe.{SinglePipe}
use Rattle.raft_log_pipe.specs.Pipe.{Numbered}
use Rattle.raft_log_pipe.specs.Prepared.{IsPreparedOf}
use Rattle.raft_log_pipe.specs.Unreserved.{KeepsUnreserved}
use Rattle.raft_log_pipes.specs.declared.pipes.DualPipes.{DualPipes}
use Rattle.raft_log_pipes.specs.Pipes.{pipe_of}
use Rattle.raft_log_traced.specs.declared.traced.TracedTables.{TracedTables}
use Rattle.raft_log_memtables.specs.Content.{Content}
use Rattle.raft_log_recovery.specs.declared.scan.FileKind.TheVariants.{Log}
use Rattle.raft_log_recovery.specs.declared.scan.FileName.{FileName}
use Rattle.raft_log_recovery.specs.Again.{FindsSound}
use Rattle.raft_log_recovery.specs.Both.{ChangesBoth, LeavesQueue, wanted_of}
use Rattle.raft_log_recovery.specs.Crashed.{HasHole}
use Rattle.raft_log_recovery.specs.Opening.{AnyAligned}
use Rattle.raft_log_recovery.specs.Queue.{AnyRefused}
use Rattle.raft_log_recovery.specs.Scan.{AreFound, OnlyMakes}
use Rattle.raft_log_blocks.specs.Held.{IsKept, content_of_batches}
use Rattle.raft_log_engine.specs.Traced.{IsTraced}

-- The content of the batches that the files of each queue read as, up to the first fault of each file: those of the rewrite
-- queue, then those of the append queue. No file has a fault that the mode refuses
pub record IsFoundContent (mode : RecoveryMode) (directories : List Text) (d : Disk) (content : Content (List ℕ)) : Type 0 where
  pub rewrites : Numbered
  pub appends : Numbered
  pub rewrite : FindsSound mode directories Rewrite d rewrites
  pub append : FindsSound mode directories Append d appends
  pub is : content ≡ content_of_batches (rewrites ++ appends)

-- what an opening answers of the one disk it might have answered of the other before
abbrev pub IsFoundAgain : RecoveryMode → List Text → Disk → Disk → Type 0
IsFoundAgain mode directories d new = (content : Content (List ℕ)) → IsFoundContent mode directories new content → IsFoundContent mode directories d content

-- the files of both queues that are found once the directories are there
pub record AreFoundIn (directories : List Text) (d made : Disk) (rewrites appends : List FileName) : Type 0 where
  pub makes : OnlyMakes directories d made
  pub rewrite : AreFound made (Log Rewrite) directories rewrites
  pub append : AreFound made (Log Append) directories appends

-- files were found, and each queue is left so that the next opening finds what this one did, also after a crash where its files
-- were at rest. Then reserved files alone were made or deleted, and no other file changed
pub record LeavesFound (mode : RecoveryMode) (directories : List Text) (d new : Disk) : Type 0 where
  pub made : Disk
  pub rewrites : List FileName
  pub appends : List FileName
  pub found : AreFoundIn directories d made rewrites appends
  pub rewrite : LeavesQueue mode directories Rewrite rewrites made new
  pub append : LeavesQueue mode directories Append appends made new
  pub between : Disk
  pub only : ChangesBoth made between
  pub unreserved : KeepsUnreserved between new

-- nothing changed but that directories are made; or so
abbrev pub IsLeftByOpening : RecoveryMode → List Text → Disk → Disk → Type 0
IsLeftByOpening mode directories d new = OnlyMakes directories d new ⊎ LeavesFound mode directories d new

-- Files of a queue are found once the directories are there, and one of them has a fault that the mode refuses, or a header that
-- says an alignment
pub record CantBeOpened (mode : RecoveryMode) (directories : List Text) (queue : LogQueue) (d : Disk) : Type 0 where
  pub made : Disk
  pub names : List FileName
  pub makes : OnlyMakes directories d made
  pub found : AreFound made (Log queue) directories names
  pub refused : AnyRefused mode directories queue names made ⊎ AnyAligned directories queue names made

-- a pipe begins files of the size and format that the settings say
abbrev pub IsSetAs : Settings → SinglePipe → Type 0
IsSetAs settings p = (p.target_file_size ≡ settings.target_file_size.0) × (p.default_format ≡ record { version = settings.format_version; alignment = 0 })

-- so do both
abbrev pub AreSetAs : Settings → DualPipes → Type 0
AreSetAs settings p = IsSetAs settings p.append × IsSetAs settings p.rewrite

-- Append files are found once the directories are there, and the append queue keeps no more reserved files than the settings want
-- beside so many: as many, unless the next one can't be made, or a call was refused, as for want of space, and there are none
pub record KeepsWanted (settings : Settings) (directories : List Text) (d new : Disk) (old now : Meter) (p : DualPipes) : Type 0 where
  pub made : Disk
  pub appends : List FileName
  pub makes : OnlyMakes directories d made
  pub found : AreFound made (Log Append) directories appends
  pub few : length p.append.reserved.items ≤ wanted_of settings (length appends)
  pub prepared : IsPreparedOf p.append new (wanted_of settings (length appends)) old now

-- a pipe has a hole only where the mode cuts any fault away
abbrev pub HasHolesIn : RecoveryMode → Disk → DualPipes → Type 0
HasHolesIn mode d p = (queue : LogQueue) → HasHole (pipe_of p queue) d → mode ≡ TolerateAnyCorruption

-- the pipes hold just those batches, the tables have their content, and the traces are of them
pub record IsRecoveredAs (mode : RecoveryMode) (directories : List Text) (d new : Disk) (p : DualPipes) (traced : TracedTables) : Type 0 where
  pub rewrites : Numbered
  pub appends : Numbered
  pub rewrite : FindsSound mode directories Rewrite d rewrites
  pub append : FindsSound mode directories Append d appends
  pub kept : IsKept new p traced.tables rewrites appends
  pub traces : IsTraced p traced rewrites appends
