use Rattle.std.proofs.Common.{◌≡◌, drop}
use Rattle.raft_group_step.specs.Refusal.{are_in_range, numbers_of_entries}
use Rattle.raft_conditions.proofs.ranges.are_low_entries.Given as goal

abbrev pub invariant-loop-entry : goal.invariant-loop-entry
invariant-loop-entry l =
    are_in_range (numbers_of_entries l.entries)
    ≡ are_in_range (numbers_of_entries (drop l.entry-index l.entries))
