-- Entries that are fetched: those of a range of indexes, from the first on, as far as a size allows.
use Rattle.std.specs.Prelude.{◌≡◌, ◌≤◌, ◌<◌, ◌+◌, ◌-◌, ℕ, List, [], ◌∷◌, ◌++◌, length, slice_get, sum_by, count_by, is_some}
use Rattle.std.specs.Prelude.{Option, Some, None, Result, Ok, Err, Vec}
use Rattle.std.specs.List.{range_with_len}
use Rattle.std.specs.declared.alloc.Global.{Global}
use Rattle.raft_log_records.specs.declared.item.EntryIndex.{EntryIndex}
use Rattle.raft_log_memtables.specs.declared.fetch.FetchError.{FetchError}
use Rattle.raft_log_memtables.specs.declared.fetch.FetchError.TheVariants.{Memory, EntryCompacted, EntryNotFound}
use Rattle.raft_log_memtables.specs.Entries.{IsFirst}
use Rattle.raft_log_memtables.specs.Taken.{HasWithin}

-- how many entries stand before an index
abbrev pub count_before : {E : Type 0} → (ℕ → Option E) → ℕ → ℕ
count_before entry limit = count_by (λ index. is_some (entry index)) (range_with_len 0 limit)

-- the entries are no longer together than this, if there is a limit
abbrev pub Fits : Option ℕ → List EntryIndex → Type 0
Fits None es = Unit {0}
Fits (Some most) es = sum_by (λ e. e.entry_len) es ≤ most

-- the first entry stands past this index
abbrev pub IsCompacted : {E : Type 0} → (ℕ → Option E) → ℕ → Type 0
IsCompacted entry begin = (first : ℕ) × IsFirst entry (Some first) × (begin < first)

-- an index of the range has no entry
abbrev pub IsLacking : {E : Type 0} → (ℕ → Option E) → ℕ → ℕ → Type 0
IsLacking entry begin end = (i : ℕ) × (begin ≤ i) × (i < end) × (entry i ≡ None)

-- These are the entries from `begin` on. They end before `end`, or before the first one that would pass the size, but not
-- before the second one.
pub record AreFetched (entry : ℕ → Option EntryIndex) (begin end : ℕ) (size : Option ℕ) (es : List EntryIndex) : Type 0 where
  pub each : (i : ℕ) → i < length es → slice_get es i ≡ entry (begin + i)
  pub short : length es ≤ end - begin
  pub fit : 1 < length es → Fits size es
  pub all : length es < end - begin → (0 < length es) × ((next : EntryIndex) × (entry (begin + length es) ≡ Some next) × (Fits size (es ++ next ∷ []) → ⊥))

-- the range has no index past the last entry, nor one before the first
pub record IsInside (entry : ℕ → Option EntryIndex) (begin end : ℕ) : Type 0 where
  pub begins : IsCompacted entry begin → ⊥
  pub ends : HasWithin entry (end - 1) None

-- what a call answers that fetches a range of one entry at least
abbrev pub Fetches : (ℕ → Option EntryIndex) → ℕ → ℕ → Option ℕ → Result (Vec EntryIndex Global) FetchError → Type 0
Fetches entry begin end size (Ok es) = IsInside entry begin end × AreFetched entry begin end size es.items
Fetches entry begin end size (Err Memory) = Unit {0}
Fetches entry begin end size (Err EntryCompacted) = IsCompacted entry begin
Fetches entry begin end size (Err EntryNotFound) = (IsCompacted entry begin → ⊥) × IsLacking entry begin end

-- a range without an index is none
abbrev pub FetchesNone : Result (Vec EntryIndex Global) FetchError → Type 0
FetchesNone (Ok es) = es.items ≡ []
FetchesNone (Err e) = ⊥

-- what a call answers that checks a range of one entry at least
abbrev pub Checks : (ℕ → Option EntryIndex) → ℕ → ℕ → Result (Unit {0}) FetchError → Type 0
Checks entry begin end (Ok u) = IsInside entry begin end
Checks entry begin end (Err Memory) = ⊥
Checks entry begin end (Err EntryCompacted) = IsCompacted entry begin
Checks entry begin end (Err EntryNotFound) = (IsCompacted entry begin → ⊥) × IsLacking entry begin end
