use Rattle.raft_wire.proofs.StreamProofs.{found_stays}
use Rattle.raft_wire.proofs.laws.found_stays.Goals as goal

pub returns : goal.returns
returns c = found_stays
