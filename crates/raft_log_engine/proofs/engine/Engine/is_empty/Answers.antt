use Rattle.raft_log_memtables.specs.MemTables.{content_in}
use Rattle.raft_log_blocks.specs.Placed.{bytes_on}
use Rattle.raft_log_engine.proofs.Seen.{empty_seen}
use Rattle.raft_log_engine.proofs.engine.Engine.is_empty.Goals as goal

pub returns-clause-empty : goal.returns-clause-empty
returns-clause-empty g c =
    rw (← c.self.view_is) (empty_seen (bytes_on (g.F.FileSystem.disk c.self.inside.files) c.self.inside.pipes) (content_in c.self.inside.traced.tables) c.is_empty.result c.is_empty.ensures.yes c.is_empty.ensures.no)
