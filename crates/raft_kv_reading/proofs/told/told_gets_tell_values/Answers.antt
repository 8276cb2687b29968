use Rattle.raft_kv_reading.proofs.ToldAnswers.{told_answers_tell, told_commands_stand, told_gets_tell}
use Rattle.raft_kv_reading.proofs.told.told_gets_tell_values.Goals as goal

pub returns-clause-tell : goal.returns-clause-tell
returns-clause-tell c = told_answers_tell

pub returns-clause-stand : goal.returns-clause-stand
returns-clause-stand c = told_commands_stand

pub returns-clause-gets : goal.returns-clause-gets
returns-clause-gets c = told_gets_tell
