use Rattle.raft_step_laws.proofs.Answering.{requests_answered}
use Rattle.raft_step_laws.proofs.replies.requests_are_answered.Goals as goal

pub returns : goal.returns
returns c = requests_answered
