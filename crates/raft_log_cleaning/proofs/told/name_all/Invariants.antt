-- The groups so far are named, and those of before.
use Rattle.std.proofs.Common.{◌≡◌, ℕ, take}
use Rattle.std.specs.Prelude.{◌||◌}
use Rattle.raft_log_cleaner.specs.Told.{is_among}
use Rattle.raft_log_cleaning.specs.Told.{is_named}
use Rattle.raft_log_cleaning.proofs.told.name_all.Given as goal

abbrev pub invariant-loop-group : goal.invariant-loop-group
invariant-loop-group l = (group : ℕ) → is_named l.named group ≡ (is_named l.initial.named group || is_among (take l.group-index l.groups) group)
