-- Holes in the entries of groups, as the batches of log files have them.
use Rattle.std.specs.Prelude.{◌≡◌, ◌↔◌, ℕ, ◌+◌, nat_lt, ◌==◌, if◌then◌else◌, List, [], ◌∷◌, map, Option, Some, None}
use Rattle.std.specs.List.{filter_map, flat_map}
use Rattle.std.specs.Option.{option_or}
use Rattle.std.specs.List.Sorted.{IsStrictlySortedBy}
use Rattle.std.specs.Ordering.{nat_cmp}
use Rattle.std.specs.BTreeMap.{get}
use Rattle.raft_log_records.specs.declared.item.EntryIndex.{EntryIndex}
use Rattle.raft_log_records.specs.Item.{Change, Item}
use Rattle.raft_log_records.specs.Item.Change.{entries, clean, compact, put, delete, mark}
use Rattle.raft_log_disk.specs.Disk.{IsIn}
use Rattle.raft_log_recovery.specs.Replay.{Placed}
use Rattle.raft_log_items.specs.declared.checker.ConsistencyChecker.{ConsistencyChecker}
use Rattle.raft_log_items.specs.declared.checker.Span.{Span}

-- the indexes of the first and of the last of the entries that an item writes
abbrev pub Bounds : Type 0
Bounds = ℕ × ℕ

-- the index of the last of entries that follow one of this index
abbrev pub last_behind : ℕ → List (ℕ × EntryIndex) → ℕ
last_behind index [] = index
last_behind index (e ∷ es) = last_behind e.0 es

-- those of a change. What writes no entries counts for nothing here, also where it removes some
abbrev pub bounds_in : Change EntryIndex → Option Bounds
bounds_in (entries []) = None
bounds_in (entries (e ∷ es)) = Some (e.0, last_behind e.0 es)
bounds_in clean = None
bounds_in (compact index) = None
bounds_in (put key value) = None
bounds_in (delete key) = None
bounds_in (mark id status) = None

abbrev pub bounds_of : ℕ → Item EntryIndex → Option Bounds
bounds_of group item = if item.group == group then bounds_in item.change else None

-- the bounds of what the items write of a group's entries, in their order
abbrev pub written_by : ℕ → List (Item EntryIndex) → List Bounds
written_by group items = filter_map (bounds_of group) items

-- and the items of batches
abbrev pub written_in : ℕ → List Placed → List Bounds
written_in group placed = written_by group (flat_map (λ p. p.items) placed)

-- entries that begin past the index behind the last one leave a hole: it is told by that last index
abbrev pub hole_between : ℕ → ℕ → Option ℕ
hole_between last first = if nat_lt (last + 1) first then Some last else None

-- The first hole in what is written behind an index. Each time the entries end where those end that were written last: what
-- begins at or below the end takes the place of all from there on
abbrev pub hole_behind : ℕ → List Bounds → Option ℕ
hole_behind last [] = None
hole_behind last (bounds ∷ others) = option_or (hole_between last bounds.0) (hole_behind bounds.1 others)

-- the first hole in what is written: before the first entries there is none
abbrev pub hole_in : List Bounds → Option ℕ
hole_in [] = None
hole_in (bounds ∷ others) = hole_behind bounds.1 others

-- ---- answers

-- the groups that have a hole, rising, each once, with the last index before its first hole
pub record AreHoles (placed : List Placed) (holes : List (ℕ × ℕ)) : Type 0 where
  pub rising : IsStrictlySortedBy nat_cmp (map (λ hole. hole.0) holes)
  pub exactly : (group index : ℕ) → IsIn (group, index) holes ↔ (hole_in (written_in group placed) ≡ Some index)

-- ---- what a machine keeps of them

-- where the entries end, behind an index
abbrev pub end_behind : ℕ → List Bounds → ℕ
end_behind last [] = last
end_behind last (bounds ∷ others) = end_behind bounds.1 others

-- where what is written begins and ends, and its first hole
abbrev pub span_in : List Bounds → Option Span
span_in [] = None
span_in (bounds ∷ others) = Some (record { first = bounds.0; last = end_behind bounds.1 others; hole = hole_behind bounds.1 others })

-- of what is written, and of more behind it: a hole may lie between
abbrev pub joined : Span → Span → Span
joined span behind = record { first = span.first; last = behind.last; hole = option_or span.hole (option_or (hole_between span.last behind.first) behind.hole) }

abbrev pub with_span : Option Span → Span → Span
with_span None behind = behind
with_span (Some span) behind = joined span behind

abbrev pub with_spans : Option Span → Option Span → Option Span
with_spans before None = before
with_spans before (Some behind) = Some (with_span before behind)

-- the machine has of each group what is written in these batches
abbrev pub HasSpans : ConsistencyChecker → List Placed → Type 0
HasSpans machine placed = (group : ℕ) → get nat_cmp machine.spans group ≡ span_in (written_in group placed)
