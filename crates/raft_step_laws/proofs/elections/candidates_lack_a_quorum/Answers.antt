use Rattle.raft_step_laws.proofs.Electing.{candidates_lack}
use Rattle.raft_step_laws.proofs.elections.candidates_lack_a_quorum.Goals as goal

pub returns : goal.returns
returns c = candidates_lack
