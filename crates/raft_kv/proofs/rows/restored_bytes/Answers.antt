-- What is restored, byte by byte; of other bytes the empty map is spelled.
use Rattle.std.proofs.Common.{refl}
use Rattle.raft_wire.specs.Reader.{all_of, count_at, counted_at, many_at, piece_at, text_at, filled_at}
use Rattle.raft_kv.specs.Map.{pair_at, pairs_at}
use Rattle.raft_kv.proofs.RowLemmas.{no_pairs_spelled}
use Rattle.raft_kv.proofs.rows.restored_bytes.Goals as goal

pub returns-clause-two : goal.returns-clause-two
unfolding pairs_at pair_at filled_at all_of counted_at many_at text_at count_at piece_at
returns-clause-two c = refl

pub returns-clause-falling : goal.returns-clause-falling
unfolding pairs_at pair_at filled_at all_of counted_at many_at text_at count_at piece_at
returns-clause-falling c = no_pairs_spelled

pub returns-clause-twice : goal.returns-clause-twice
unfolding pairs_at pair_at filled_at all_of counted_at many_at text_at count_at piece_at
returns-clause-twice c = no_pairs_spelled

pub returns-clause-fewer : goal.returns-clause-fewer
unfolding pairs_at pair_at filled_at all_of counted_at many_at text_at count_at piece_at
returns-clause-fewer c = no_pairs_spelled

pub returns-clause-more : goal.returns-clause-more
unfolding pairs_at pair_at filled_at all_of counted_at many_at text_at count_at piece_at
returns-clause-more c = no_pairs_spelled

pub returns-clause-many : goal.returns-clause-many
unfolding pairs_at pair_at filled_at all_of counted_at many_at text_at count_at piece_at
returns-clause-many c = no_pairs_spelled

pub returns-clause-nothing : goal.returns-clause-nothing
unfolding pairs_at pair_at filled_at all_of counted_at many_at text_at count_at piece_at
returns-clause-nothing c = no_pairs_spelled
