use Rattle.raft_frame_laws.proofs.Limits.{have_frames}
use Rattle.raft_frame_laws.proofs.laws.snapshots_have_frames.Goals as goal

pub returns : goal.returns
returns c = have_frames
