use Rattle.raft_log_memtables.specs.Entries.{entry_of}
use Rattle.raft_log_memtables.proofs.Cells.{delete_changed}
use Rattle.raft_log_memtables.proofs.memtable.MemTable.delete.Goals as goal

pub returns-clause-content : goal.returns-clause-content
returns-clause-content c = delete_changed (entry_of c.args.self.now.entries) c.args.self.now.keys c.remove.new.self c.args.key.now c.remove.ensures.updates
