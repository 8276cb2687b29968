use Rattle.raft_kv.proofs.RowLemmas.{no_pairs_spelled, two_pairs}
use Rattle.raft_kv.proofs.rows.snapshots_of_pairs.Goals as goal

pub returns-clause-none : goal.returns-clause-none
returns-clause-none c = no_pairs_spelled

pub returns-clause-two : goal.returns-clause-two
returns-clause-two c = two_pairs
