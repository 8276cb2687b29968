-- What a writer makes of its file.
use Rattle.std.specs.Prelude.{◌≡◌, ◌⊎◌, ℕ, ◌+◌, ◌-◌, ◌<◌, ◌≤◌, ◌^◌, min, max, List, length, Result, Ok, Err, IsErrOf, IsTrue, Bool, false}
use Rattle.raft_log_disk.specs.declared.fault.IoFault.{IoFault}
use Rattle.raft_log_disk.specs.declared.fault.IoFault.TheVariants.{NoSpace, Refused}
use Rattle.raft_log_disk.specs.declared.format.LogFileFormat.{LogFileFormat}
use Rattle.raft_log_disk.specs.Format.{header_len, spelled_header}
use Rattle.raft_log_disk.specs.Cause.{Meter}
use Rattle.raft_log_disk.specs.Disk.{Disk, RefusedWrite, RefusedAllocate, RefusedTruncate, with_file, after_write, after_allocate, after_truncate, after_sync, put, filled, resized}
use Rattle.raft_log_file.specs.declared.writer.LogFileWriter.{LogFileWriter}

-- The file reaches as far as the writer takes it to, and no further than the room that the writer knows of. Where that room ends
-- at the greatest number a refused write may have passed it
pub record IsWriter (w : LogFileWriter) (d : Disk) : Type 0 where
  pub offset : w.offset ≤ w.reached
  pub reached : w.reached ≤ w.capacity
  pub long : w.reached ≤ length (d.file w.fd.0).bytes
  pub within : w.capacity + 1 < 2 ^ 64 → length (d.file w.fd.0).bytes ≤ w.capacity

-- room was made in a file from a place on, wholly, in part or not at all
abbrev pub MakesRoom : Disk → Disk → ℕ → ℕ → ℕ → Type 0
MakesRoom old new fd at len =
    (new ≡ with_file old fd (after_allocate (old.file fd) at len (filled (old.file fd).bytes (at + len)))) ⊎ ((new ≡ old) ⊎ RefusedAllocate old new fd at len)

-- up to where a writer makes room for a write up to this end: what it lacks, or 2 MiB but not past the target size
abbrev pub room_end : ℕ → ℕ → ℕ → ℕ
room_end capacity end target = capacity + max (end - capacity) (min 2097152 (target - capacity))

-- what stands before a write: room is made only where the write passes the room that there is
abbrev pub IsReady : LogFileWriter → Disk → Disk → ℕ → ℕ → Type 0
IsReady w old new end target = ((end ≤ w.capacity) × (new ≡ old)) ⊎ ((w.capacity < end) × MakesRoom old new w.fd.0 w.reached (room_end w.capacity end target - w.reached))

-- a write of bytes at a place, or what a refused one makes
abbrev pub Writes : {E : Type 0} → Result (Unit {0}) E → Disk → Disk → ℕ → ℕ → List ℕ → Type 0
Writes (Ok u) old new fd at bytes = new ≡ with_file old fd (after_write (old.file fd) at bytes (put (old.file fd).bytes at bytes))
Writes (Err e) old new fd at bytes = (new ≡ old) ⊎ RefusedWrite old new fd at bytes

-- the same behind the room that is made for it
pub record IsAppended {E : Type 0} (w : LogFileWriter) (old new : Disk) (bytes : List ℕ) (target : ℕ) (result : Result (Unit {0}) E) : Type 0 where
  pub between : Disk
  pub ready : IsReady w old between (min (w.offset + length bytes) (2 ^ 64 - 1)) target
  pub writes : Writes result between new w.fd.0 w.offset bytes

-- the file is cut to a length, or what a refused cut makes
abbrev pub Cuts : {E : Type 0} → Result (Unit {0}) E → Disk → Disk → ℕ → ℕ → Type 0
Cuts (Ok u) old new fd len = new ≡ with_file old fd (after_truncate (old.file fd) len (resized (old.file fd).bytes len))
Cuts (Err e) old new fd len = (new ≡ old) ⊎ RefusedTruncate old new fd len

-- there is room behind the last write, or may be: where the room ends at the greatest number it isn't known
abbrev pub HasRoom : LogFileWriter → Type 0
HasRoom w = (w.offset < w.capacity) ⊎ (2 ^ 64 ≤ w.capacity + 1)

-- room behind the last write is cut away, where there is any
abbrev pub IsCut : {E : Type 0} → LogFileWriter → Result (Unit {0}) E → Disk → Disk → Type 0
IsCut w result old new = ((w.capacity ≤ w.offset) × (w.capacity + 1 < 2 ^ 64) × (new ≡ old)) ⊎ (HasRoom w × Cuts result old new w.fd.0 w.offset)

-- room is cut away, and what is left is synced
abbrev pub IsClosed : {E : Type 0} → LogFileWriter → Disk → Disk → Result (Unit {0}) E → Type 0
IsClosed {E = E} w old new (Ok u) = (between : Disk) × IsCut {E = E} w (Ok u) old between × (new ≡ with_file between w.fd.0 (after_sync (between.file w.fd.0)))
IsClosed {E = E} w old new (Err e) = IsCut {E = E} w (Err e) old new ⊎ IsCut {E = E} w (Ok tt) old new

-- a refusal and want of space are counted by the file system
pub record IsCounted {T : Type 0} (old new : Meter) (result : Result T IoFault) : Type 0 where
  pub refused : IsErrOf result Refused → min (old.refusals + 1) (2 ^ 64 - 1) ≤ new.refusals
  pub no_space : IsErrOf result NoSpace → min (old.refusals + 1) (2 ^ 64 - 1) ≤ new.refusals

-- a writer of a file, at the place where it begins
abbrev pub writer_at : ℕ → ℕ → ℕ → LogFileWriter
writer_at fd offset size = record { fd = record { 0 = fd }; offset = offset; reached = size; capacity = size }

-- the file is too short for the header of its format, or is to begin anew
abbrev pub Begins : Disk → ℕ → LogFileFormat → Bool → Type 0
Begins d fd format reset = (length (d.file fd).bytes < header_len format.version) ⊎ IsTrue reset

-- a file that goes on is as it was. One that begins has its header written
abbrev pub IsOpened : Disk → Disk → ℕ → LogFileFormat → Bool → Result LogFileWriter IoFault → Type 0
IsOpened old new fd format reset (Ok w) =
    ((header_len format.version ≤ length (old.file fd).bytes) × (reset ≡ false) × (new ≡ old) × (w.offset ≡ length (old.file fd).bytes))
    ⊎ (Begins old fd format reset × IsAppended {E = IoFault} (writer_at fd 0 (length (old.file fd).bytes)) old new (spelled_header format) 0 (Ok tt) × (w.offset ≡ header_len format.version))
IsOpened old new fd format reset (Err e) = (new ≡ old) ⊎ (Begins old fd format reset × IsAppended (writer_at fd 0 (length (old.file fd).bytes)) old new (spelled_header format) 0 (Err e))
