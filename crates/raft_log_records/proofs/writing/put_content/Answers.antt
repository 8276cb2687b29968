use Rattle.raft_log_records.proofs.Spelled.{run_spelled}
use Rattle.raft_log_records.proofs.writing.put_content.Goals as goal

pub returns-in-EntryIndexes : goal.returns-in-EntryIndexes
returns-in-EntryIndexes c = rw (c.in-EntryIndexes.is, run_spelled c.in-EntryIndexes.entries.items, ← c.deref.ensures.value) c.put_run.ensures
