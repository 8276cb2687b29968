-- The least append file that is kept, of a group and of all.
use Rattle.std.specs.Prelude.{◌≤◌, ◌<◌, ℕ, List, [], ◌∷◌, Option, Some, None}
use Rattle.raft_log_covers.specs.Account.{IsFrom}
use Rattle.raft_log_covers.specs.Trace.{Trace, least}
use Rattle.raft_log_traces.specs.declared.group_trace.GroupTrace.{GroupTrace}
use Rattle.raft_log_traces.specs.Traces.{trace_of}

-- a trace keeps no file before one
pub record KeepsFrom (first : ℕ) (t : Trace) : Type 0 where
  pub since : IsFrom first t.since
  pub tail : IsFrom first t.tail
  pub entries : (i : ℕ) → t.low ≤ i → i < t.next → IsFrom first (t.entry_file i)
  pub keys : (k : List ℕ) → IsFrom first (t.key_file k)

-- it keeps none before this one, or none at all
abbrev pub IsKeptFrom : Option ℕ → Trace → Type 0
IsKeptFrom None t = (first : ℕ) → KeepsFrom first t
IsKeptFrom (Some first) t = KeepsFrom first t

-- ---- as the program has them

-- the least of a file, if there is one, and of more files
abbrev pub least_with : Option ℕ → List ℕ → Option ℕ
least_with file [] = file
least_with file (other ∷ files) = least_with (least file (Some other)) files

-- none of these traces keeps a file before one
abbrev pub AllKeepFrom : ℕ → List GroupTrace → Type 0
AllKeepFrom first [] = Unit {0}
AllKeepFrom first (t ∷ ts) = KeepsFrom first (trace_of t) × AllKeepFrom first ts
