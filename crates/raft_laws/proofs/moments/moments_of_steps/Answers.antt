use Rattle.raft_laws.proofs.StepMoments.{moments_of_calls, moments_of_messages, moments_of_openings}
use Rattle.raft_laws.proofs.moments.moments_of_steps.Goals as goal

pub returns-clause-calls : goal.returns-clause-calls
returns-clause-calls c = moments_of_calls

pub returns-clause-messages : goal.returns-clause-messages
returns-clause-messages c = moments_of_messages

pub returns-clause-openings : goal.returns-clause-openings
returns-clause-openings c = moments_of_openings
