use Rattle.raft_wire.proofs.StreamProofs.{refused_is_no_frame}
use Rattle.raft_wire.proofs.laws.refused_streams_begin_no_frame.Goals as goal

pub returns : goal.returns
returns c = refused_is_no_frame
