-- One file that is read whole and, by the mode, cut to what was read.
use Rattle.std.specs.Prelude.{◌≡◌, ◌⊎◌, ℕ, List, [], length, Bool, true, Option, Some, None, Result, Ok, Err, MatchResult, take}
use Rattle.raft_log_records.specs.declared.file_id.FileId.{FileId}
use Rattle.raft_log_records.specs.declared.error.RecordFault.{RecordFault}
use Rattle.raft_log_records.specs.declared.version.Version.TheVariants.{V1}
use Rattle.raft_log_disk.specs.declared.format.HeaderFault.{HeaderFault}
use Rattle.raft_log_disk.specs.declared.format.LogFileFormat.{LogFileFormat}
use Rattle.raft_log_disk.specs.Format.{header_at}
use Rattle.raft_log_disk.specs.Disk.{Disk, FileState, AreBytes, PartlyTruncated, after_sync, after_truncate, resized, with_file}
use Rattle.raft_log_disk.specs.Image.{IsFileImage, IsStill}
use Rattle.raft_log_disk.specs.Chance.{IsGenuine}
use Rattle.raft_log_files.specs.declared.recovery.RecoveryMode.{RecoveryMode}
use Rattle.raft_log_files.specs.declared.recovery.RecoveryMode.TheVariants.{AbsoluteConsistency, TolerateTailCorruption, TolerateAnyCorruption}
use Rattle.raft_log_files.specs.declared.error.CorruptionFault.{CorruptionFault}
use Rattle.raft_log_files.specs.declared.error.CorruptionFault.TheVariants.{Header, Record}
use Rattle.raft_log_file.specs.Reading.{FileBatch, file_reading, read_or}

-- ---- what a file reads as

-- the batches of a file: none where its header is broken
abbrev pub batches_in : FileId → List ℕ → List FileBatch
batches_in id bytes = read_or (λ r. r.batches) (λ _. []) (file_reading id bytes)

abbrev pub record_fault : Option RecordFault → Option CorruptionFault
record_fault None = None
record_fault (Some f) = Some (Record f)

-- the first fault of a file, if it has one: in its header, or behind its last whole record
abbrev pub fault_in : FileId → List ℕ → Option CorruptionFault
fault_in id bytes = read_or (λ r. record_fault r.fault) (λ f. Some (Header f)) (file_reading id bytes)

-- how far its whole records reach: nowhere where the header is broken
abbrev pub end_in : FileId → List ℕ → ℕ
end_in id bytes = read_or (λ r. r.to) (λ _. 0) (file_reading id bytes)

-- what its header says: version 1 where the header is broken
abbrev pub format_in : List ℕ → LogFileFormat
format_in bytes = read_or (λ format. format) (λ _. record { version = V1; alignment = 0 }) (header_at bytes)

-- a test: the mode cuts a file with a fault
abbrev pub cuts_faults : RecoveryMode → Bool → Bool
cuts_faults AbsoluteConsistency is_last = Bool.false
cuts_faults TolerateTailCorruption is_last = is_last
cuts_faults TolerateAnyCorruption is_last = true

-- ---- what is left of it

-- All of the file is on the disk, as after a crash. Records follow one another without padding, and a header that the file
-- brought when it was renamed is none
pub record IsAtRest (f : FileState) : Type 0 where
  pub still : IsStill f
  pub later : f.later ≡ []
  pub fits : AreBytes f.bytes
  pub plain : MatchResult (header_at f.bytes) (λ format. format.alignment ≡ 0) (λ _. (e : HeaderFault) × (header_at f.brought ≡ Err e))

-- Whatever a crash leaves of the file reads as these batches, unless bytes that nobody wrote pass as a header or as records
abbrev pub LeavesBatches : FileId → FileState → List FileBatch → Type 0
LeavesBatches id f batches = (bytes : List ℕ) → IsFileImage f bytes → IsGenuine id f bytes → batches_in id bytes ≡ batches

-- The file has these batches and nothing else, all of it on the disk. One whose header was broken has no bytes
pub record IsWhole (id : FileId) (f : FileState) (batches : List FileBatch) : Type 0 where
  pub still : IsStill f
  pub later : f.later ≡ []
  pub reads : MatchResult (file_reading id f.bytes) (λ r. (r.batches ≡ batches) × (r.fault ≡ None) × (r.to ≡ length f.bytes)) (λ _. (batches ≡ []) × (f.bytes ≡ []))

-- the file alone changed: it was cut where its whole records end, and is whole with the batches that it read as
pub record IsRepaired (old new : Disk) (id : FileId) (fd : ℕ) : Type 0 where
  pub state : FileState
  pub files : new ≡ with_file old fd state
  pub front : state.bytes ≡ take (end_in id (old.file fd).bytes) (old.file fd).bytes
  pub whole : IsWhole id state (batches_in id (old.file fd).bytes)

-- the file alone changed, and reads as the same batches. A crash leaves them too, if it was at rest
pub record IsStopped (old new : Disk) (id : FileId) (fd : ℕ) : Type 0 where
  pub state : FileState
  pub files : new ≡ with_file old fd state
  pub reads : batches_in id state.bytes ≡ batches_in id (old.file fd).bytes
  pub leaves : IsAtRest (old.file fd) → LeavesBatches id state (batches_in id (old.file fd).bytes)

-- ---- steps

-- the file cut to a length, if one is said
abbrev pub cut_to : Option ℕ → FileState → FileState
cut_to None f = f
cut_to (Some len) f = after_truncate f len (resized f.bytes len)

-- the file is cut and synced. After an `Err` it is as it was, or the cut is not synced and came some of the way
abbrev pub Settles : {E : Type 0} → Result (Unit {0}) E → Disk → Disk → ℕ → Option ℕ → Type 0
Settles (Ok u) old new fd cut = new ≡ with_file old fd (after_sync (cut_to cut (old.file fd)))
Settles (Err e) old new fd cut = (new ≡ old)
    ⊎ ((len : ℕ) × (seen : List ℕ) × (cut ≡ Some len) × PartlyTruncated len (old.file fd).bytes seen × (new ≡ with_file old fd (after_truncate (old.file fd) len seen)))
