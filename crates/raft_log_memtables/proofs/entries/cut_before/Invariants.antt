use Rattle.std.proofs.Common.{◌≡◌, ◌≤◌, ℕ}
use Rattle.std.specs.BTreeMap.{btree_map_len}
use Rattle.raft_log_memtables.specs.Entries.{entry_of}
use Rattle.raft_log_memtables.proofs.entries.cut_before.Given as goal

abbrev pub invariant-loop-entries : goal.invariant-loop-entries
invariant-loop-entries l = (i : ℕ) → l.limit ≤ i → entry_of l.entries i ≡ entry_of l.fn.entries i

abbrev pub decreases-loop-entries : goal.decreases-loop-entries
decreases-loop-entries l = btree_map_len l.entries
