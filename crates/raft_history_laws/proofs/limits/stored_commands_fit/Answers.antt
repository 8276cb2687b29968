use Rattle.raft_history_laws.proofs.FittingWorlds.{commands_fit, openings_fit}
use Rattle.raft_history_laws.proofs.limits.stored_commands_fit.Goals as goal

pub returns-clause-commands : goal.returns-clause-commands
returns-clause-commands c = commands_fit

pub returns-clause-openings : goal.returns-clause-openings
returns-clause-openings c = openings_fit
