use Rattle.raft_log_memtables.specs.Entries.{entry_of}
use Rattle.raft_log_memtables.proofs.Cells.{put_changed}
use Rattle.raft_log_memtables.proofs.memtable.MemTable.put.Goals as goal

pub returns-clause-content : goal.returns-clause-content
returns-clause-content c = put_changed (entry_of c.args.self.now.entries) c.args.self.now.keys c.insert.new.self c.args.key c.args.value c.in_ok-insert.ensures.updates
