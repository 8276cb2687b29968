use Rattle.raft_log_memtables.proofs.Moving.{entries_may_move}
use Rattle.raft_log_memtables.proofs.moved.entries_may_move.Goals as goal

pub returns : goal.returns
returns c = entries_may_move
