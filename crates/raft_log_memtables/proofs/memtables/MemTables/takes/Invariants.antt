use Rattle.std.proofs.Common.{take}
use Rattle.raft_log_records.specs.Item.{items_of}
use Rattle.raft_log_memtables.specs.MemTables.{content_in}
use Rattle.raft_log_memtables.specs.Taken.{TakesEach}
use Rattle.raft_log_memtables.proofs.memtables.MemTables.takes.Given as goal

abbrev pub invariant-loop-place : goal.invariant-loop-place
invariant-loop-place l = TakesEach (items_of (take l.place l.items)) (content_in l.self)
