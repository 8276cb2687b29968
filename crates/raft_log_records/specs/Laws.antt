-- Laws of what stands at the front of some bytes.
use Rattle.std.specs.Prelude.{◌≡◌, ◌<◌, ◌⊎◌, ℕ, List, ◌∷◌, ◌++◌, length, Option, Ok, Err}
use Rattle.raft_log_records.specs.declared.item.EntryIndex.{EntryIndex}
use Rattle.raft_log_records.specs.declared.error.RecordFault.TheVariants as fault
use Rattle.raft_log_records.specs.Item.{Item}
use Rattle.raft_log_records.specs.Reading.{len_at, record_at}

-- the bytes are too few to tell, or what they tell of the length stays, whatever follows
abbrev pub LengthsStay : Type 0
LengthsStay = (bytes more : List ℕ) → (len_at bytes ≡ Err fault.CutShort) ⊎ (len_at (bytes ++ more) ≡ len_at bytes)

-- eight bytes are not too few
abbrev pub LengthsNeedEight : Type 0
LengthsNeedEight = (bytes : List ℕ) → len_at bytes ≡ Err fault.CutShort → length bytes < 8

-- a record that is read has the length that was told
abbrev pub RecordsHaveTheirLength : Type 0
RecordsHaveTheirLength =
    (signature : Option ℕ) (bytes : List ℕ) (read : List (Item EntryIndex) × List ℕ × ℕ) → record_at signature bytes ≡ Ok read
    → len_at bytes ≡ Ok read.2

-- the bytes are too few, or what is read or refused stays, whatever follows
abbrev pub AnswersStay : Type 0
AnswersStay =
    (signature : Option ℕ) (bytes more : List ℕ)
    → (record_at signature bytes ≡ Err fault.CutShort) ⊎ (record_at signature (bytes ++ more) ≡ record_at signature bytes)

-- the bytes are too few only until the length is told and, from then on, until they are so many
abbrev pub RecordsNeedTheirLength : Type 0
RecordsNeedTheirLength =
    (signature : Option ℕ) (bytes : List ℕ) → record_at signature bytes ≡ Err fault.CutShort
    → (len_at bytes ≡ Err fault.CutShort) ⊎ ((len : ℕ) × (len_at bytes ≡ Ok len) × (length bytes < len))

-- four zeros begin no record
abbrev pub ZerosAreNoRecord : Type 0
ZerosAreNoRecord =
    (signature : Option ℕ) (more : List ℕ)
    → (len_at (0 ∷ 0 ∷ 0 ∷ 0 ∷ more) ≡ Err fault.BadLength) × (record_at signature (0 ∷ 0 ∷ 0 ∷ 0 ∷ more) ≡ Err fault.BadLength)
