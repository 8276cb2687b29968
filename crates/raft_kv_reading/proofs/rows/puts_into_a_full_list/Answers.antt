use Rattle.raft_kv_reading.proofs.RowLemmas.{apple_left, apple_refused, seven_left}
use Rattle.raft_kv_reading.proofs.rows.puts_into_a_full_list.Goals as goal

pub returns-clause-new_key : goal.returns-clause-new_key
returns-clause-new_key c = apple_refused

pub returns-clause-no_value : goal.returns-clause-no_value
returns-clause-no_value c = apple_left

pub returns-clause-known_key : goal.returns-clause-known_key
returns-clause-known_key c = seven_left
