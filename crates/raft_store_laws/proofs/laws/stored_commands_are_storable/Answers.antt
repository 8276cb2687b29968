use Rattle.raft_store_laws.proofs.StorableSteps.{commands_are_storable, openings_are_storable}
use Rattle.raft_store_laws.proofs.laws.stored_commands_are_storable.Goals as goal

pub returns-clause-commands : goal.returns-clause-commands
returns-clause-commands g c = commands_are_storable g.M.StateMachine.rules

pub returns-clause-openings : goal.returns-clause-openings
returns-clause-openings g c = openings_are_storable g.M.StateMachine.rules
