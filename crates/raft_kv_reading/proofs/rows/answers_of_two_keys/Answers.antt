-- Each answer by the value before its place.
use Rattle.std.proofs.Common.{refl, ◌∙◌, arith}
use Rattle.std.specs.Prelude.{Some, None, codes}
use Rattle.raft_wire.specs.Reader.{all_of, count_at, piece_at, text_at, filled_at}
use Rattle.raft_wire.specs.Kv.{command_at}
use Rattle.raft_kv_reading.specs.Rows.{apple, letter_b, two_keys}
use Rattle.raft_kv_reading.proofs.RowLemmas.{drop_row, get_row, put_row, value_of_few}
use Rattle.raft_kv_reading.proofs.Telling.{answers_tell}
use Rattle.raft_kv_reading.proofs.rows.answers_of_two_keys.Goals as goal

pub returns-clause-first_get : goal.returns-clause-first_get
unfolding command_at filled_at all_of text_at count_at piece_at
returns-clause-first_get c = get_row two_keys 0 apple None refl (value_of_few two_keys 0 apple (omega arith) ∙ refl)

pub returns-clause-put : goal.returns-clause-put
unfolding command_at filled_at all_of text_at count_at piece_at
returns-clause-put c = put_row two_keys 1 apple (codes "red") None (omega arith) refl (value_of_few two_keys 1 apple (omega arith) ∙ refl)

pub returns-clause-put_again : goal.returns-clause-put_again
unfolding command_at filled_at all_of text_at count_at piece_at
returns-clause-put_again c = put_row two_keys 3 apple (codes "green") (Some (codes "red")) (omega arith) refl (value_of_few two_keys 3 apple (omega arith) ∙ refl)

pub returns-clause-get : goal.returns-clause-get
unfolding command_at filled_at all_of text_at count_at piece_at
returns-clause-get c = get_row two_keys 4 apple (Some (codes "green")) refl (value_of_few two_keys 4 apple (omega arith) ∙ refl)

pub returns-clause-drop : goal.returns-clause-drop
unfolding command_at filled_at all_of text_at count_at piece_at
returns-clause-drop c = drop_row two_keys 6 apple (Some (codes "green")) refl (value_of_few two_keys 6 apple (omega arith) ∙ refl)

pub returns-clause-get_behind : goal.returns-clause-get_behind
unfolding command_at filled_at all_of text_at count_at piece_at
returns-clause-get_behind c = get_row two_keys 7 apple None refl (value_of_few two_keys 7 apple (omega arith) ∙ refl)

pub returns-clause-get_other : goal.returns-clause-get_other
unfolding command_at filled_at all_of text_at count_at piece_at
returns-clause-get_other c = get_row two_keys 8 letter_b (Some (codes "2")) refl (value_of_few two_keys 8 letter_b (omega arith) ∙ refl)

pub returns-clause-blank : goal.returns-clause-blank
unfolding command_at filled_at all_of text_at count_at piece_at
returns-clause-blank c = (answers_tell two_keys 5).of_others refl

pub returns-clause-no_command : goal.returns-clause-no_command
unfolding command_at filled_at all_of text_at count_at piece_at
returns-clause-no_command c = (answers_tell two_keys 10).of_others refl
