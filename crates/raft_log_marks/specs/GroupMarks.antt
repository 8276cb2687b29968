-- The marks of a group, by its trace.
use Rattle.std.specs.Prelude.{Bool, true, false, List, [], ◌∷◌}
use Rattle.raft_log_records.specs.Item.{Change}
use Rattle.raft_log_records.specs.Item.Change.{clean}
use Rattle.raft_log_covers.specs.Marks.{marks}
use Rattle.raft_log_covers.specs.Trace.{Trace, trace_marked}
use Rattle.raft_log_covers.specs.Kept.{new_trace}

-- of a group that is there, and of one that isn't
abbrev pub marks_of : {E : Type 0} → Bool → Trace → List (Change E)
marks_of true t = marks t.cleaned t.low t.deleted
marks_of false t = clean ∷ []

-- its trace once they are written
abbrev pub trace_after_marks : Bool → Trace → Trace
trace_after_marks true t = trace_marked t
trace_after_marks false t = new_trace
