-- The changes of a key among few entries, read from the list.
use Rattle.std.proofs.Common.{refl, ◌∙◌, arith}
use Rattle.raft_wire.specs.Reader.{all_of, count_at, piece_at, text_at, filled_at}
use Rattle.raft_wire.specs.Kv.{command_at}
use Rattle.raft_kv_reading.specs.Rows.{apple, letter_b, two_keys}
use Rattle.raft_kv_reading.proofs.RowLemmas.{value_of_few}
use Rattle.raft_kv_reading.proofs.rows.values_of_two_keys.Goals as goal

pub returns-clause-first : goal.returns-clause-first
unfolding command_at filled_at all_of text_at count_at piece_at
returns-clause-first c = value_of_few two_keys 0 apple (omega arith) ∙ refl

pub returns-clause-before_put : goal.returns-clause-before_put
unfolding command_at filled_at all_of text_at count_at piece_at
returns-clause-before_put c = value_of_few two_keys 1 apple (omega arith) ∙ refl

pub returns-clause-behind_put : goal.returns-clause-behind_put
unfolding command_at filled_at all_of text_at count_at piece_at
returns-clause-behind_put c = value_of_few two_keys 2 apple (omega arith) ∙ refl

pub returns-clause-other_put : goal.returns-clause-other_put
unfolding command_at filled_at all_of text_at count_at piece_at
returns-clause-other_put c = value_of_few two_keys 3 apple (omega arith) ∙ refl

pub returns-clause-second_put : goal.returns-clause-second_put
unfolding command_at filled_at all_of text_at count_at piece_at
returns-clause-second_put c = value_of_few two_keys 4 apple (omega arith) ∙ refl

pub returns-clause-before_drop : goal.returns-clause-before_drop
unfolding command_at filled_at all_of text_at count_at piece_at
returns-clause-before_drop c = value_of_few two_keys 6 apple (omega arith) ∙ refl

pub returns-clause-behind_drop : goal.returns-clause-behind_drop
unfolding command_at filled_at all_of text_at count_at piece_at
returns-clause-behind_drop c = value_of_few two_keys 7 apple (omega arith) ∙ refl

pub returns-clause-put_again : goal.returns-clause-put_again
unfolding command_at filled_at all_of text_at count_at piece_at
returns-clause-put_again c = value_of_few two_keys 10 apple (omega arith) ∙ refl

pub returns-clause-other_key : goal.returns-clause-other_key
unfolding command_at filled_at all_of text_at count_at piece_at
returns-clause-other_key c = value_of_few two_keys 11 letter_b (omega arith) ∙ refl
