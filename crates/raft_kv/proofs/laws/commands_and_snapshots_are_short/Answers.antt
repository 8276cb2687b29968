use Rattle.raft_kv.proofs.Sizes.{command_short, map_short}
use Rattle.raft_kv.proofs.laws.commands_and_snapshots_are_short.Goals as goal

pub returns-clause-command : goal.returns-clause-command
returns-clause-command c = λ command fits. command_short command fits

pub returns-clause-snapshot : goal.returns-clause-snapshot
returns-clause-snapshot c = λ m h. map_short m h
