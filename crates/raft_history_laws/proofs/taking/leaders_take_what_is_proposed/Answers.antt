use Rattle.raft_history_laws.proofs.TakenNodes.{proposals_taken, take_commands}
use Rattle.raft_history_laws.proofs.taking.leaders_take_what_is_proposed.Goals as goal

pub returns-clause-take : goal.returns-clause-take
returns-clause-take c = take_commands

pub returns-clause-taken : goal.returns-clause-taken
returns-clause-taken c = proposals_taken
