use Rattle.std.proofs.Common.{◌≡◌, ◌≤◌, ℕ, length, drop}
use Rattle.std.specs.Prelude.{nat_le, if◌then◌else◌}
use Rattle.raft_log_memtables.specs.Content.{entry_at}
use Rattle.raft_log_memtables.specs.Entries.{entry_of, placed_pairs, or_else}
use Rattle.raft_log_memtables.proofs.entries.add_placed.Given as goal

abbrev pub invariant-loop-at : goal.invariant-loop-at
invariant-loop-at l = record {
  within : l.at ≤ length l.more;
  cells : (i : ℕ) → entry_of l.entries i
      ≡ (if nat_le l.first i then or_else (entry_at (placed_pairs l.handle (drop l.at l.more)) i) (entry_of l.fn.entries i) else entry_of l.fn.entries i);
}

abbrev pub decreases-loop-at : goal.decreases-loop-at
decreases-loop-at l = l.at
