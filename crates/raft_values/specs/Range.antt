-- What is wrong with a range of log ids.
use Rattle.std.specs.Prelude.{if◌then◌else◌, Option, Some, None}
use Rattle.std.specs.declared.cmp.Ordering.{Ordering}
use Rattle.raft_values.specs.declared.log_id_range.LogIdRange.{LogIdRange}
use Rattle.raft_values.specs.declared.validate.Invalid.{Invalid}
use Rattle.raft_values.specs.declared.validate.Invalid.TheVariants.{Range}
use Rattle.raft_values.specs.LogId.{is_past}

-- a range ends before it begins
abbrev pub range_fault : {K : Type 0} → (K → K → Ordering) → LogIdRange K → Option Invalid
range_fault cmp range = if is_past cmp range.prev range.last then Some Range else None
