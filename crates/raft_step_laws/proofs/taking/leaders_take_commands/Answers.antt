use Rattle.raft_step_laws.proofs.Proposing.{leaders_take, proposals_stored}
use Rattle.raft_step_laws.proofs.taking.leaders_take_commands.Goals as goal

pub returns-clause-taken : goal.returns-clause-taken
returns-clause-taken c = leaders_take

pub returns-clause-stored : goal.returns-clause-stored
returns-clause-stored c = proposals_stored
