-- What the program's traces are for: laws on plain values.
use Rattle.std.specs.Prelude.{◌≡◌, ℕ, map, List}
use Rattle.raft_log_records.specs.Item.{Item, item_map}
use Rattle.raft_log_memtables.specs.Content.{Content}
use Rattle.raft_log_covers.specs.Cells.{Cell}
use Rattle.raft_log_covers.specs.Queues.{Filed}
use Rattle.raft_log_covers.specs.Account.{Account, IsFrom}
use Rattle.raft_log_covers.specs.Trace.{file_of}
use Rattle.raft_log_covers.specs.Kept.{Traces, traces_after, IsKept}
use Rattle.raft_log_traces.specs.Alike.{AreAlike}
use Rattle.raft_log_traces.specs.Files.{KeepsFrom}

-- The invariant of the two queues holds of traces that say the same.
abbrev pub AlikeTracesKeep : Type 0 → Type 0
AlikeTracesKeep E = (traces others : Traces) (account : Account) (records : List (List (Item E))) (content : Content E) (bs : List (Filed E))
    → IsKept traces account records content bs → AreAlike traces others → IsKept others account records content bs

-- Where no trace keeps a file before one, none has an earlier file for any cell.
abbrev pub KeptFilesTell : Type 0 → Type 0
KeptFilesTell E = (traces : Traces) (content : Content E) (first : ℕ) → ((group : ℕ) → KeepsFrom first (traces group))
    → (group : ℕ) (c : Cell) → IsFrom first (file_of (traces group) (content group) c)

-- What traces say doesn't rest on what the entries are: bytes, or places.
abbrev pub EntriesSayNothing : Type 0 → Type 0 → Type 0
EntriesSayNothing E F = (f : E → F) (file : ℕ) (items : List (Item E)) (traces : Traces) (group : ℕ)
    → traces_after file (map (item_map f) items) traces group ≡ traces_after file items traces group
