use Rattle.raft_kv.proofs.WithinMaps.{one_command, one_map}
use Rattle.raft_kv.proofs.laws.spellings_are_one_to_one.Goals as goal

pub returns-clause-commands : goal.returns-clause-commands
returns-clause-commands c = λ d e fits others same. one_command d e fits others same

pub returns-clause-maps : goal.returns-clause-maps
returns-clause-maps c = λ m n h k e. one_map m n h k e
