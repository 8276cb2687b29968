use Rattle.raft_kv.proofs.KeyLaws.{other_drop, other_put}
use Rattle.raft_kv.proofs.laws.other_keys_stay.Goals as goal

pub returns-clause-put : goal.returns-clause-put
returns-clause-put c = λ m key value other differ. other_put m key value other differ

pub returns-clause-drop : goal.returns-clause-drop
returns-clause-drop c = λ m key other differ. other_drop m key other differ
