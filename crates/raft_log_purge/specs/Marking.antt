-- Groups of which marks are due, before the append files before one go.
use Rattle.std.specs.Prelude.{◌^◌, ℕ, Bool, false, ◌&&◌, nat_lt, Option, Some, None}
use Rattle.raft_log_covers.specs.Trace.{Trace}

-- there is a file, and it comes before this one
abbrev pub is_before : ℕ → Option ℕ → Bool
is_before file None = false
is_before file (Some at) = nat_lt at file

-- A group has a change before the file of which no marks were written. No Compact goes past the greatest index.
abbrev pub needs_marks : ℕ → Trace → Bool
needs_marks file t = is_before file t.since && nat_lt t.low (2 ^ 64)
