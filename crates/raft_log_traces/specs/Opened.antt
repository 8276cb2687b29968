-- Traces as an opening makes them.
use Rattle.std.specs.Prelude.{ℕ, if◌then◌else◌, nat_le, Option, Some, None}
use Rattle.raft_log_covers.specs.Trace.{Trace}

-- with other ends, and how far entries reached. None stands in an append file
abbrev pub trace_with_ends : ℕ → ℕ → ℕ → Trace → Trace
trace_with_ends low next top t = record {
  low = low;
  next = next;
  top = top;
  since = t.since;
  tail = t.tail;
  entry_file = λ i. None;
  key_file = t.key_file;
  cleaned = t.cleaned;
  deleted = t.deleted;
}

-- from an index on the entries stand in a file
abbrev pub trace_filed : ℕ → ℕ → Trace → Trace
trace_filed first file t = record {
  low = t.low;
  next = t.next;
  top = t.top;
  since = t.since;
  tail = t.tail;
  entry_file = λ i. if nat_le first i then Some file else t.entry_file i;
  key_file = t.key_file;
  cleaned = t.cleaned;
  deleted = t.deleted;
}

-- what lies past the entries stands in this file, or in no append file
abbrev pub trace_tailed : Option ℕ → Trace → Trace
trace_tailed file t = record {
  low = t.low;
  next = t.next;
  top = t.top;
  since = t.since;
  tail = file;
  entry_file = t.entry_file;
  key_file = t.key_file;
  cleaned = t.cleaned;
  deleted = t.deleted;
}

-- all that is no entry and no key was changed from a file on
abbrev pub trace_since : ℕ → Trace → Trace
trace_since first t = record {
  low = t.low;
  next = t.next;
  top = t.top;
  since = Some first;
  tail = Some first;
  entry_file = t.entry_file;
  key_file = t.key_file;
  cleaned = t.cleaned;
  deleted = t.deleted;
}
