-- Traces as an opening makes them, group by group.
use Rattle.std.specs.Prelude.{◌≡◌, ◌≤◌, ◌<◌, ◌-◌, ℕ, Bool, true, false, if◌then◌else◌, nat_eq, nat_lt, List, Option, Some, None, IsSome}
use Rattle.std.specs.Ordering.{eq_by_cmp, nat_cmp}
use Rattle.std.specs.Set.{is_member}
use Rattle.raft_log_records.specs.declared.item.EntryIndex.{EntryIndex}
use Rattle.raft_log_memtables.specs.Content.{GroupContent}
use Rattle.raft_log_covers.specs.Kept.{Traces, with_trace}
use Rattle.raft_log_covers.specs.Marks.{is_in}
use Rattle.raft_log_covers.specs.Trace.{Trace}
use Rattle.raft_log_traces.specs.Alike.{AreAlike, IsAlike}
use Rattle.raft_log_traces.specs.Opened.{trace_filed, trace_since, trace_tailed}
use Rattle.raft_log_marks.specs.Opened.{AreEnds, AreFilesOf, file_at}
use Rattle.raft_log_traced.specs.Traced.{lies_in}

-- ---- the files of a group's entries

abbrev pub is_file : Option ℕ → ℕ → Bool
is_file None file = false
is_file (Some other) file = nat_eq other file

-- from an index on entries stand in a file, if there is one and it isn't that of the entry before
abbrev pub run_begun : ℕ → Option ℕ → Option ℕ → Trace → Trace
run_begun index before None t = t
run_begun index before (Some file) t = if is_file before file then t else trace_filed index file t

-- the least index of an entry, from an index on and before a limit, or none where no entry is there
abbrev pub IsNextWithin : GroupContent EntryIndex → ℕ → ℕ → Option ℕ → Type 0
IsNextWithin g from limit None = (i : ℕ) → from ≤ i → i < limit → g.entry i ≡ None
IsNextWithin g from limit (Some index) = (from ≤ index) × (index < limit) × ((i : ℕ) → from ≤ i → i < index → g.entry i ≡ None)

-- The files are those of the entries from low up to before an index, of which the last one lies in the file before, if that is one.
pub record AreFiledUpTo (g : GroupContent EntryIndex) (low index : ℕ) (before : Option ℕ) (file : ℕ → Option ℕ) : Type 0 where
  pub own : (i f : ℕ) → low ≤ i → i < index → file_at lies_in (g.entry i) ≡ Some f → file i ≡ Some f
  pub some : (i j : ℕ) → low ≤ j → j < index → j ≤ i → IsSome (file_at lies_in (g.entry j)) → IsSome (file i)
  pub told : (i f : ℕ) → file i ≡ Some f → (j : ℕ) × (j ≤ i) × (file_at lies_in (g.entry j) ≡ Some f)
  pub tail : (f : ℕ) → before ≡ Some f → (i : ℕ) → index ≤ i → file i ≡ Some f

-- ---- one group is changed

-- all but the ends, the files and the tail of entries stays
pub record HasRest (t u : Trace) : Type 0 where
  pub since : u.since ≡ t.since
  pub key_file : (k : List ℕ) → u.key_file k ≡ t.key_file k
  pub cleaned : u.cleaned ≡ t.cleaned
  pub deleted : (k : List ℕ) → is_in k u.deleted ≡ is_in k t.deleted

-- the entries have their files, and other groups stay
pub record IsFiledOne (g : GroupContent EntryIndex) (group low next : ℕ) (before : Option ℕ) (ts us : Traces) : Type 0 where
  pub others : (other : ℕ) → nat_eq group other ≡ false → IsAlike (ts other) (us other)
  pub low_stays : (us group).low ≡ (ts group).low
  pub next_stays : (us group).next ≡ (ts group).next
  pub top_stays : (us group).top ≡ (ts group).top
  pub tail_stays : (us group).tail ≡ (ts group).tail
  pub rest : HasRest (ts group) (us group)
  pub files : ((i : ℕ) → (ts group).entry_file i ≡ None) → AreFiledUpTo g low next before (us group).entry_file

-- what lies past entries that end before an index stands in the append file of the last one; without entries it stays
abbrev pub tail_behind : GroupContent EntryIndex → ℕ → ℕ → Option ℕ → Option ℕ
tail_behind g low next tail = if nat_lt low next then file_at lies_in (g.entry (next - 1)) else tail

-- the tail is that of the entries, and other groups stay
abbrev pub IsTailedOne : GroupContent EntryIndex → ℕ → ℕ → ℕ → Traces → Traces → Type 0
IsTailedOne g group low next ts us = AreAlike (with_trace group (trace_tailed (tail_behind g low next (ts group).tail) (ts group)) ts) us

-- the trace has the ends, the files and the tail of the entries that are there
pub record HasEntries (g : GroupContent EntryIndex) (reach : Option ℕ) (t u : Trace) : Type 0 where
  pub ends : AreEnds g reach u.low u.next u.top
  pub files : AreFilesOf lies_in g u.entry_file
  pub tail : u.tail ≡ tail_behind g u.low u.next t.tail
  pub rest : HasRest t u

pub record IsSetOne (g : GroupContent EntryIndex) (reach : Option ℕ) (group : ℕ) (ts us : Traces) : Type 0 where
  pub others : (other : ℕ) → nat_eq group other ≡ false → IsAlike (ts other) (us other)
  pub own : HasEntries g reach (ts group) (us group)

-- ---- groups are changed, and others stay

abbrev pub HasSince : ℕ → ℕ → Trace → Trace → Type 0
HasSince first group t u = IsAlike (trace_since first t) u

pub record AreChanged (Change : ℕ → Trace → Trace → Type 0) (groups : List ℕ) (ts us : Traces) : Type 0 where
  pub named : (group : ℕ) → is_member (eq_by_cmp nat_cmp) groups group ≡ true → Change group (ts group) (us group)
  pub others : (group : ℕ) → is_member (eq_by_cmp nat_cmp) groups group ≡ false → IsAlike (ts group) (us group)
