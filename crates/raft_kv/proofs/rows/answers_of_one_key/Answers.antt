use Rattle.raft_kv.proofs.RowLemmas.{again_answer, drop_answer, get_answer, put_answer}
use Rattle.raft_kv.proofs.rows.answers_of_one_key.Goals as goal

pub returns-clause-put : goal.returns-clause-put
returns-clause-put c = put_answer

pub returns-clause-get : goal.returns-clause-get
returns-clause-get c = get_answer

pub returns-clause-drop : goal.returns-clause-drop
returns-clause-drop c = drop_answer

pub returns-clause-again : goal.returns-clause-again
returns-clause-again c = again_answer
