use Rattle.raft_wire.proofs.StreamProofs.{spelled_is_found}
use Rattle.raft_wire.proofs.laws.spelled_frames_are_found.Goals as goal

pub returns : goal.returns
returns c = spelled_is_found
