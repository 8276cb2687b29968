use Rattle.raft_kv_reading.proofs.Telling.{is_change, last_left, unchanged}
use Rattle.raft_kv_reading.proofs.laws.values_are_the_last_changes.Goals as goal

pub returns-clause-none : goal.returns-clause-none
returns-clause-none c = λ list key place none. unchanged list key place none

pub returns-clause-last : goal.returns-clause-last
returns-clause-last c = λ list key place at change less is none. last_left list key place at change less (is_change list key at change is) none
