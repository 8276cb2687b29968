use Rattle.raft_wire.proofs.StreamProofs.{frames_short}
use Rattle.raft_wire.proofs.laws.frames_are_short.Goals as goal

pub returns : goal.returns
returns c = frames_short
