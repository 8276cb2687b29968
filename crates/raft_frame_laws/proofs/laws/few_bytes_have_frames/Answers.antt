use Rattle.raft_frame_laws.proofs.StepLemmas.{few_bytes}
use Rattle.raft_frame_laws.proofs.laws.few_bytes_have_frames.Goals as goal

pub returns : goal.returns
returns g c = few_bytes g.S.GroupStorage.stands
