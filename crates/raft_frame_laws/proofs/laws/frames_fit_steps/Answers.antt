use Rattle.raft_frame_laws.proofs.StepLemmas.{frames_fit}
use Rattle.raft_frame_laws.proofs.laws.frames_fit_steps.Goals as goal

pub returns : goal.returns
returns g c = frames_fit g.S.GroupStorage.stands
