use Rattle.raft_wire.proofs.StreamProofs.{found_is_spelled}
use Rattle.raft_wire.proofs.laws.found_frames_are_spelled_so.Goals as goal

pub returns : goal.returns
returns c = found_is_spelled
