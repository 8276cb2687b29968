-- A file that begins: its header is written and synced.
use Rattle.std.specs.Prelude.{◌≡◌, ℕ, ◌≤◌, max, length, Result, Ok, Err}
use Rattle.raft_log_disk.specs.declared.fault.IoFault.{IoFault}
use Rattle.raft_log_disk.specs.Disk.{Disk, with_file, after_sync}
use Rattle.raft_log_disk.specs.Format.{header_len, spelled_header}
use Rattle.raft_log_file.specs.declared.writer.LogFileWriter.{LogFileWriter}
use Rattle.raft_log_file.specs.Writer.{IsWriter, IsAppended, writer_at}
use Rattle.raft_log_pipe.specs.declared.file.File.{File}

-- nothing changes but one file
abbrev pub Changes : Disk → Disk → ℕ → Type 0
Changes old new fd = new ≡ with_file old fd (new.file fd)

-- The header stands at the file's front and is on the disk. After an `Err` nothing else changed, and a crash leaves no more
-- than a header of the file, or what it left before
abbrev pub IsBegun : Disk → Disk → File → Result LogFileWriter IoFault → Type 0
IsBegun old new file (Ok w) = (between : Disk) × IsAppended {E = IoFault} (writer_at file.handle.0 0 (length (old.file file.handle.0).bytes)) old between (spelled_header file.format) 0 (Ok tt)
    × (new ≡ with_file between file.handle.0 (after_sync (between.file file.handle.0))) × IsWriter w new × (w.fd ≡ file.handle) × (w.offset ≡ header_len file.format.version)
IsBegun old new file (Err e) = Changes old new file.handle.0 × ((new.file file.handle.0).greatest ≤ max (old.file file.handle.0).greatest 69)
