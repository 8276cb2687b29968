-- Entries whose places rise.
use Rattle.std.specs.Prelude.{ℕ, nat_lt, Bool, true, false, if◌then◌else◌, List, [], ◌∷◌, Option, Some, None}
use Rattle.raft_values.specs.declared.log_id.LogId.{LogId}
use Rattle.raft_group_step.specs.Values.{Entry}

-- the log id stands behind the last one
abbrev pub goes_on : Option (LogId ℕ) → LogId ℕ → Bool
goes_on None id = true
goes_on (Some last) id = nat_lt last.index id.index

-- each entry stands behind the one before it
abbrev pub all_go_on : Option (LogId ℕ) → List Entry → Bool
all_go_on last [] = true
all_go_on last (e ∷ es) =
    if goes_on last e.log_id then all_go_on (Some e.log_id) es else false
