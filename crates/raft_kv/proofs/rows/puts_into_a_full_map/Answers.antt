use Rattle.std.proofs.Common.{arith}
use Rattle.raft_kv.specs.Map.{key_count_limit}
use Rattle.raft_kv.proofs.FullMap.{counted, full_answer, full_step, known_answer, numbers_within}
use Rattle.raft_kv.proofs.rows.puts_into_a_full_map.Goals as goal

pub returns-clause-full : goal.returns-clause-full
returns-clause-full c = counted key_count_limit (omega arith)

pub returns-clause-within : goal.returns-clause-within
returns-clause-within c = numbers_within key_count_limit (omega arith)

pub returns-clause-new_key : goal.returns-clause-new_key
returns-clause-new_key c = full_answer

pub returns-clause-unchanged : goal.returns-clause-unchanged
returns-clause-unchanged c = full_step

pub returns-clause-known_key : goal.returns-clause-known_key
returns-clause-known_key c = known_answer
