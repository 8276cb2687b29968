-- What is read, byte by byte.
use Rattle.std.proofs.Common.{refl}
use Rattle.raft_wire.specs.Reader.{all_of, count_at, piece_at, text_at, filled_at}
use Rattle.raft_wire.specs.Kv.{command_at}
use Rattle.raft_kv.proofs.rows.commands_of_bytes.Goals as goal

pub returns-clause-put : goal.returns-clause-put
unfolding command_at filled_at all_of text_at count_at piece_at
returns-clause-put c = refl

pub returns-clause-get : goal.returns-clause-get
unfolding command_at filled_at all_of text_at count_at piece_at
returns-clause-get c = refl

pub returns-clause-drop : goal.returns-clause-drop
unfolding command_at filled_at all_of text_at count_at piece_at
returns-clause-drop c = refl

pub returns-clause-key_of_255 : goal.returns-clause-key_of_255
unfolding command_at filled_at all_of text_at count_at piece_at
returns-clause-key_of_255 c = refl

pub returns-clause-key_of_256 : goal.returns-clause-key_of_256
unfolding command_at filled_at all_of text_at count_at piece_at
returns-clause-key_of_256 c = refl

pub returns-clause-value_of_199 : goal.returns-clause-value_of_199
unfolding command_at filled_at all_of text_at count_at piece_at
returns-clause-value_of_199 c = refl

pub returns-clause-value_of_200 : goal.returns-clause-value_of_200
unfolding command_at filled_at all_of text_at count_at piece_at
returns-clause-value_of_200 c = refl

pub returns-clause-key_of_none : goal.returns-clause-key_of_none
unfolding command_at filled_at all_of text_at count_at piece_at
returns-clause-key_of_none c = refl

pub returns-clause-cut : goal.returns-clause-cut
unfolding command_at filled_at all_of text_at count_at piece_at
returns-clause-cut c = refl

pub returns-clause-no_value : goal.returns-clause-no_value
unfolding command_at filled_at all_of text_at count_at piece_at
returns-clause-no_value c = refl

pub returns-clause-nothing : goal.returns-clause-nothing
unfolding command_at filled_at all_of text_at count_at piece_at
returns-clause-nothing c = refl

pub returns-clause-tag_0 : goal.returns-clause-tag_0
unfolding command_at filled_at all_of text_at count_at piece_at
returns-clause-tag_0 c = refl

pub returns-clause-tag_4 : goal.returns-clause-tag_4
unfolding command_at filled_at all_of text_at count_at piece_at
returns-clause-tag_4 c = refl

pub returns-clause-more : goal.returns-clause-more
unfolding command_at filled_at all_of text_at count_at piece_at
returns-clause-more c = refl
