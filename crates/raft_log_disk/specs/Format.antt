-- The header of a log file: a fixed text, the version, and under version 2 the alignment.
use Rattle.std.specs.Prelude.{◌≡◌, ℕ, ◌+◌, ◌^◌, ◌<◌, Bool, not, nat_lt, List, [], ◌∷◌, ◌++◌, length, take, drop, Result, Ok, Err, ◌==◌, if◌then◌else◌}
use Rattle.std.specs.Int.{w64, from_be_bytes, to_be_bytes}
use Rattle.raft_log_records.specs.declared.version.Version.{Version}
use Rattle.raft_log_records.specs.declared.version.Version.TheVariants.{V1, V2}
use Rattle.raft_log_disk.specs.declared.format.LogFileFormat.{LogFileFormat}
use Rattle.raft_log_disk.specs.declared.format.HeaderFault.{HeaderFault}
use Rattle.raft_log_disk.specs.declared.format.HeaderFault.TheVariants.{CutShort, NoHeader, BadVersion}
use Rattle.raft_log_disk.specs.Text.{Text, same_text}

-- `RAFT-LOG-FILE-HEADER-9986AB3E47F320B394C8E84916EB0ED5`
abbrev pub magic : Text
magic = 82 ∷ 65 ∷ 70 ∷ 84 ∷ 45 ∷ 76 ∷ 79 ∷ 71 ∷ 45 ∷ 70 ∷ 73 ∷ 76 ∷ 69 ∷ 45 ∷ 72 ∷ 69 ∷ 65 ∷ 68 ∷ 69 ∷ 82 ∷ 45
    ∷ 57 ∷ 57 ∷ 56 ∷ 54 ∷ 65 ∷ 66 ∷ 51 ∷ 69 ∷ 52 ∷ 55 ∷ 70 ∷ 51 ∷ 50 ∷ 48 ∷ 66 ∷ 51 ∷ 57 ∷ 52 ∷ 67 ∷ 56 ∷ 69 ∷ 56
    ∷ 52 ∷ 57 ∷ 49 ∷ 54 ∷ 69 ∷ 66 ∷ 48 ∷ 69 ∷ 68 ∷ 53 ∷ []

abbrev pub header_len : Version → ℕ
header_len V1 = 61
header_len V2 = 69

-- the bytes of a header
abbrev pub spelled_header : LogFileFormat → Text
spelled_header f = magic ++ (elim f.version [ V1 ↦ to_be_bytes w64 1 | V2 ↦ to_be_bytes w64 2 ++ to_be_bytes w64 f.alignment ])

-- a format that a header can say: version 1 has no alignment
abbrev pub IsSpellable : LogFileFormat → Type 0
IsSpellable f = (f.alignment < 2 ^ 64) × (f.version ≡ V1 → f.alignment ≡ 0)

-- what a version and what follows it say
abbrev pub versioned : ℕ → Text → Result LogFileFormat HeaderFault
versioned version rest =
    if version == 1 then Ok (record { version = V1; alignment = 0 })
    else if not (version == 2) then Err BadVersion
    else if nat_lt (length rest) 8 then Err CutShort
    else Ok (record { version = V2; alignment = from_be_bytes w64 (take 8 rest) })

-- the header at the front, or the first fault
abbrev pub header_at : Text → Result LogFileFormat HeaderFault
header_at bytes =
    if nat_lt (length bytes) 61 then Err CutShort
    else if not (same_text (take 53 bytes) magic) then Err NoHeader
    else versioned (from_be_bytes w64 (take 8 (drop 53 bytes))) (drop 61 bytes)
