use Rattle.raft_kv_reading.proofs.Telling.{answers_tell}
use Rattle.raft_kv_reading.proofs.laws.answers_tell_values.Goals as goal

pub returns : goal.returns
returns c = λ list place. answers_tell list place
