-- What listeners hear of an engine's calls.
use Rattle.std.specs.Prelude.{◌≡◌, ℕ, List, ◌∷◌, ◌++◌}
use Rattle.raft_log_records.specs.declared.file_id.FileBlockHandle.{FileBlockHandle}
use Rattle.raft_log_records.specs.declared.file_id.FileId.{FileId}
use Rattle.raft_log_records.specs.declared.file_id.LogQueue.TheVariants.{Append, Rewrite}
use Rattle.raft_log_disk.specs.Disk.{Disk}
use Rattle.raft_log_file.specs.Laws.{Batch}
use Rattle.raft_log_pipe.specs.declared.pipe.SinglePipe.{SinglePipe}
use Rattle.raft_log_pipe.specs.Appending.{Stands}
use Rattle.raft_log_pipe.specs.Pipe.{first_of, id_of}
use Rattle.raft_log_pipes.specs.declared.pipes.DualPipes.{DualPipes}
use Rattle.raft_log_purge.specs.Heard.{Heard, HearAll, files_behind, files_within, last_gone}
use Rattle.raft_log_purge.specs.Heard.Heard.{Appended}
use Rattle.raft_log_engine.specs.Parts.{Parts}

-- a queue's first file and last one
abbrev pub span_of : SinglePipe → ℕ × ℕ
span_of p = (first_of p, p.active.seq)

-- each file of both queues is there, those of the append queue first
abbrev pub heard_files : DualPipes → List Heard
heard_files p = files_within Append (first_of p.append) p.append.active.seq ++ files_within Rewrite (first_of p.rewrite) p.rewrite.active.seq

-- files were begun, and then those up to the last ones that went are gone, where the queues had these first and last files
abbrev pub heard_changes : (appends rewrites appends_behind rewrites_behind : ℕ × ℕ) → List Heard
heard_changes appends rewrites appends_behind rewrites_behind =
    (files_behind Append appends.1 appends_behind.1 ++ files_behind Rewrite rewrites.1 rewrites_behind.1)
    ++ (last_gone Rewrite rewrites.0 rewrites_behind.0 ++ last_gone Append appends.0 appends_behind.0)

-- what a cleaning changed
abbrev pub heard_cleaning : DualPipes → DualPipes → List Heard
heard_cleaning old new = heard_changes (span_of old.append) (span_of old.rewrite) (span_of new.append) (span_of new.rewrite)

-- they heard of the files that were begun for a batch, then that it was appended in the last one, where its record stands, and then of this
pub record HearAppend {L F : Type 0} (hears : L → Heard → L → Type 0) (disk : F → Disk) (items : Batch) (behind : FileId → List Heard) (old new : Parts F) (olds news : List L) : Type 0 where
  pub handle : FileBlockHandle
  pub last : handle.id ≡ id_of Append new.pipes.append.active.seq
  pub stands : Stands old.pipes.append (disk old.files) new.pipes.append items handle
  pub heard : HearAll hears (files_behind Append old.pipes.append.active.seq new.pipes.append.active.seq ++ Appended handle ∷ behind handle.id) olds news
