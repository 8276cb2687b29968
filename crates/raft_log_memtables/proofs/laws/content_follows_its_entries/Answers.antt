use Rattle.raft_log_memtables.proofs.Mapped.{maps_content, maps_replay}
use Rattle.raft_log_memtables.proofs.laws.content_follows_its_entries.Goals as goal

pub returns-clause-items : goal.returns-clause-items
returns-clause-items c = maps_content

pub returns-clause-records : goal.returns-clause-records
returns-clause-records c = maps_replay
