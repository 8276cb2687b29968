-- The entries so far are counted.
use Rattle.std.proofs.Common.{◌≡◌, ◌-◌, ◌≤◌}
use Rattle.raft_log_memtables.specs.MemTables.{content_in}
use Rattle.raft_log_cleaner.specs.Facts.{IsOldestOfEntries, count_passing, is_rewritten, lies_up_to}
use Rattle.raft_log_cleaner.proofs.facts.counts_of.Given as goal

abbrev pub invariant-entries : goal.invariant-entries
invariant-entries l = record {
  within : l.at ≤ l.limit;
  rewritten : l.counts.rewritten ≡ count_passing is_rewritten (content_in l.tables l.group).entry l.at;
  up_to_mark : l.counts.up_to_mark ≡ count_passing (lies_up_to l.mark) (content_in l.tables l.group).entry l.at;
  oldest : IsOldestOfEntries (content_in l.tables l.group).entry l.mark l.at l.counts.oldest;
}

abbrev pub decreases-entries : goal.decreases-entries
decreases-entries l = l.limit - l.at
