use Rattle.std.proofs.Common.{◌≡◌, ◌≤◌, ℕ, length, drop}
use Rattle.raft_log_memtables.specs.Content.{entry_at}
use Rattle.raft_log_memtables.specs.Entries.{entry_of, placed_pairs}
use Rattle.raft_log_memtables.specs.Moved.{moved}
use Rattle.raft_log_memtables.proofs.entries.move_entries.Given as goal

abbrev pub invariant-loop-at : goal.invariant-loop-at
invariant-loop-at l = record {
  within : l.at ≤ length l.more;
  cells : (i : ℕ) → entry_of l.entries i ≡ moved (entry_of l.fn.entries i) (entry_at (placed_pairs l.handle (drop l.at l.more)) i);
}

abbrev pub decreases-loop-at : goal.decreases-loop-at
decreases-loop-at l = l.at
