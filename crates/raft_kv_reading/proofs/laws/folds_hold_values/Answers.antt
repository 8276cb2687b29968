use Rattle.raft_kv_reading.proofs.Changes.{value_is}
use Rattle.raft_kv_reading.proofs.Fronts.{all_spelled}
use Rattle.raft_kv_reading.proofs.laws.folds_hold_values.Goals as goal

pub returns-clause-values : goal.returns-clause-values
returns-clause-values c = λ list place key. value_is list key place

pub returns-clause-spelled : goal.returns-clause-spelled
returns-clause-spelled c = λ list place. (all_spelled list place).state

pub returns-clause-within : goal.returns-clause-within
returns-clause-within c = λ list place. (all_spelled list place).within
