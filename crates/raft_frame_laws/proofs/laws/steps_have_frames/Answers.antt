use Rattle.raft_frame_laws.proofs.StepLemmas.{all_have_frames}
use Rattle.raft_frame_laws.proofs.laws.steps_have_frames.Goals as goal

pub returns : goal.returns
returns g c = all_have_frames g.S.GroupStorage.stands
