use Rattle.raft_laws.proofs.StepMoments.{refusals_told}
use Rattle.raft_laws.proofs.law.refusals_are_told.Goals as goal

pub returns : goal.returns
returns c = refusals_told
