-- What the program's traces mean.
use Rattle.std.specs.Prelude.{ℕ, List, map, Option, Some, None, Vec}
use Rattle.std.specs.declared.alloc.Global.{Global}
use Rattle.std.specs.BTreeMap.{BTreeMap, get, get_by}
use Rattle.std.specs.BTreeSet.{BTreeSet}
use Rattle.std.specs.Cmp.Lexicographic.{slice_cmp}
use Rattle.std.specs.Ordering.{nat_cmp}
use Rattle.raft_log_covers.specs.Trace.{Trace}
use Rattle.raft_log_covers.specs.Kept.{Traces, new_trace}
use Rattle.raft_log_traces.specs.declared.group_trace.GroupTrace.{GroupTrace}
use Rattle.raft_log_traces.specs.Runs.{file_above}

-- the append file of a key, in a map
abbrev pub key_file_in : BTreeMap (Vec ℕ Global) ℕ → List ℕ → Option ℕ
key_file_in keys key = get_by (λ k. slice_cmp nat_cmp key k.items) keys

-- the names in a set
abbrev pub names_in : BTreeSet (Vec ℕ Global) → List (List ℕ)
names_in set = map (λ v. v.items) set.keys

abbrev pub trace_of : GroupTrace → Trace
trace_of t = record {
  low = t.low;
  next = t.next;
  top = t.top;
  since = t.since;
  tail = t.tail;
  entry_file = file_above t.floor t.runs.items;
  key_file = key_file_in t.keys;
  cleaned = t.cleaned;
  deleted = names_in t.deleted;
}

-- of a group by its trace, if there is one
abbrev pub trace_by : Option GroupTrace → Trace
trace_by None = new_trace
trace_by (Some t) = trace_of t

abbrev pub traces_at : BTreeMap ℕ GroupTrace → Traces
traces_at traces group = trace_by (get nat_cmp traces group)

unfoldable pub trace_in : GroupTrace → Trace
trace_in t = trace_of t
