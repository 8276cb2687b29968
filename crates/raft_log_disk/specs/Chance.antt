-- By chance: a log file's header or record that no call wrote.
use Rattle.std.specs.Prelude.{◌≡◌, ◌⊎◌, ℕ, zero, suc, ◌+◌, ◌-◌, ◌%◌, nat_lt, ◌==◌, if◌then◌else◌, List, length}
use Rattle.std.specs.Prelude.{take, drop, Option, Some, None, Result, Ok, Err, MatchOption, MatchResult}
use Rattle.std.specs.List.{AllByRecursion, list_all}
use Rattle.raft_log_records.specs.declared.file_id.FileId.{FileId}
use Rattle.raft_log_records.specs.Reading.{record_at}
use Rattle.raft_log_records.specs.Signature.{signature_of}
use Rattle.raft_log_disk.specs.Name.{log_file_of}
use Rattle.raft_log_disk.specs.Format.{header_at, header_len}
use Rattle.raft_log_disk.specs.Disk.{FileState, Disk, IsIn}
use Rattle.raft_log_disk.specs.Image.{Image}

-- the file's last sync or crash kept these bytes at this place
abbrev pub Stands : List ℕ → ℕ → List ℕ → Type 0
Stands kept at bytes = take (length bytes) (drop at kept) ≡ bytes

-- a call wrote just these bytes at this place since the file got its name, and the last sync or crash kept them or the call came later
abbrev pub IsWritten : FileState → ℕ → List ℕ → Type 0
IsWritten f at bytes = IsIn (at, bytes) f.later ⊎ (IsIn (at, bytes) f.earlier × Stands f.kept at bytes)

-- the same of a header, but for the one that the file brought when it was renamed
abbrev pub IsHeaderWritten : FileState → List ℕ → Type 0
IsHeaderWritten f header = IsWritten f 0 header ⊎ (take (length header) f.brought ≡ header)

-- how far it is from a place to the next multiple of an alignment, if there is an alignment
abbrev pub gap : ℕ → ℕ → ℕ
gap alignment at = if alignment == 0 then 0 else if at % alignment == 0 then 0 else alignment - at % alignment

-- the length of the padding at the front: zeros up to the next multiple of the alignment, or nothing
abbrev pub padding : ℕ → ℕ → List ℕ → ℕ
padding alignment at bytes = if nat_lt (length bytes) (gap alignment at) then 0 else if list_all (λ b. b == 0) (take (gap alignment at) bytes) then gap alignment at else 0

-- each record that is read from a place on was written there, in so many steps at most. Where no record is read, padding is skipped
unfoldable pub AreWritten : FileState → ℕ → Option ℕ → ℕ → ℕ → List ℕ → Type 0
AreWritten f alignment signature zero at bytes = Unit {0}
AreWritten f alignment signature (suc k) at bytes = MatchResult (record_at signature bytes)
    (λ r. IsWritten f at (take r.2 bytes) × AreWritten f alignment signature k (at + r.2) (drop r.2 bytes))
    (λ _. AreWritten f alignment signature k (at + padding alignment at bytes) (drop (padding alignment at bytes) bytes))

-- what a log file's bytes show from their front was written there
abbrev pub IsGenuine : FileId → FileState → List ℕ → Type 0
IsGenuine id f bytes = MatchResult (header_at bytes)
    (λ h. IsHeaderWritten f (take (header_len h.version) bytes) × AreWritten f h.alignment (signature_of h.version id.seq) (length bytes) (header_len h.version) (drop (header_len h.version) bytes))
    (λ _. Unit {0})

-- nothing passes by chance in these bytes of the files
abbrev pub IsGenuineImage : Disk → Image → Type 0
IsGenuineImage d image = AllByRecursion (λ e. MatchOption (log_file_of e.0) (Unit {0}) (λ id. IsGenuine id (d.file e.1) (image e.1))) d.names

-- the length of a record that was read
abbrev pub LengthIs : {X Y E : Type 0} → Result (X × Y × ℕ) E → Option ℕ → Type 0
LengthIs (Ok r) None = ⊥
LengthIs (Ok r) (Some len) = r.2 ≡ len
LengthIs (Err e) None = Unit {0}
LengthIs (Err e) (Some len) = ⊥
