use Rattle.raft_log_memtables.specs.MemTable.{group_in}
use Rattle.raft_log_memtables.proofs.Fetching.{Taken}
use Rattle.raft_log_memtables.proofs.memtable.MemTable.fetch_entries_to.Given as goal

abbrev pub invariant-loop-index : goal.invariant-loop-index
invariant-loop-index l = Taken (group_in l.self).entry l.begin l.index l.max_size l.size l.entries.items
