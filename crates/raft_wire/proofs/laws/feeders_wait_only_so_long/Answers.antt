use Rattle.raft_wire.proofs.StreamProofs.{waits_only_so_long}
use Rattle.raft_wire.proofs.laws.feeders_wait_only_so_long.Goals as goal

pub returns : goal.returns
returns c = waits_only_so_long
