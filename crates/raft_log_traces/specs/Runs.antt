-- The append files of entries, as runs of entries in one file.
use Rattle.std.specs.Prelude.{◌≡◌, ◌≤◌, ◌<◌, ℕ, if◌then◌else◌, nat_le, nat_lt, List, [], ◌∷◌, ◌++◌, length, Option, Some, None, IsSome}
use Rattle.raft_log_traces.specs.declared.runs.Run.{Run}
use Rattle.raft_log_memtables.specs.Entries.{or_else}

-- the file of the last run that begins at an index or before it
abbrev pub file_in : List Run → ℕ → Option ℕ
file_in [] i = None
file_in (r ∷ rs) i = or_else (file_in rs i) (if nat_le r.first i then Some r.file else None)

-- the same, where what lies below an index stands in no append file
abbrev pub file_above : ℕ → List Run → ℕ → Option ℕ
file_above floor runs i = if nat_lt i floor then None else file_in runs i

-- there is a run, and the last one begins at an index or behind it
abbrev pub EndsFrom : ℕ → List Run → Type 0
EndsFrom first runs = (0 < length runs) × ((before : List Run) (r : Run) → runs ≡ before ++ r ∷ [] → first ≤ r.first)

-- there is none, or the last one begins before it
abbrev pub EndsBefore : ℕ → List Run → Type 0
EndsBefore first runs = (before : List Run) (r : Run) → runs ≡ before ++ r ∷ [] → r.first < first

-- there is a run, and the last one stands in a file
abbrev pub EndsIn : ℕ → List Run → Type 0
EndsIn file runs = (before : List Run) × (r : Run) × (runs ≡ before ++ r ∷ []) × (r.file ≡ file)

-- the second run begins by an index
abbrev pub SecondBy : ℕ → List Run → Type 0
SecondBy floor runs = (r : Run) × (second : Run) × (more : List Run) × (runs ≡ r ∷ (second ∷ more)) × (second.first ≤ floor)

-- there is no second run, or it begins behind the index
abbrev pub NoSecondBy : ℕ → List Run → Type 0
NoSecondBy floor runs = (r second : Run) (more : List Run) → runs ≡ r ∷ (second ∷ more) → floor < second.first

-- below an index none has a file, and from it on up to before another one each has
pub record BeginAt (begin next : ℕ) (runs : List Run) : Type 0 where
  pub below : (i : ℕ) → i < begin → file_in runs i ≡ None
  pub above : (i : ℕ) → begin ≤ i → i < next → IsSome (file_in runs i)
  pub within : begin ≤ next
