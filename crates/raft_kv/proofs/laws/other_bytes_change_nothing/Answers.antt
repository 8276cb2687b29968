use Rattle.raft_kv.proofs.WithinMaps.{other_answer, other_step}
use Rattle.raft_kv.proofs.laws.other_bytes_change_nothing.Goals as goal

pub returns-clause-step : goal.returns-clause-step
returns-clause-step c = λ state bytes place fits none. other_step state bytes fits none

pub returns-clause-answer : goal.returns-clause-answer
returns-clause-answer c = λ state bytes place fits none. other_answer state bytes fits none
