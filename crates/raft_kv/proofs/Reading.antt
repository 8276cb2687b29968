-- The readers of pairs fit their spellings.
use Rattle.std.proofs.Common.{◌≤◌, List, length, None, arith}
use Rattle.raft_wire.specs.Entries.{spelled_text}
use Rattle.raft_wire.specs.Memberships.{Chained, spelled_list}
use Rattle.raft_wire.specs.Kv.{IsKey, IsValue, key_at, value_at}
use Rattle.raft_wire.proofs.Fitting.{Reads, both_reads}
use Rattle.raft_wire.proofs.Lists.{counted_reads}
use Rattle.raft_wire.proofs.KvReading.{key_reads, value_reads}
use Rattle.raft_kv.specs.Map.{key_count_limit, Pair, nothing_left, pair_at, pairs_at, spelled_pair}

pub pair_reads : Reads pair_at spelled_pair (λ pair. IsKey pair.0 × IsValue pair.1)
unfolding pair_at
pair_reads = both_reads key_at spelled_text IsKey value_at spelled_text IsValue key_reads value_reads

abbrev pub FitsPair : Pair → Type 0
FitsPair pair = IsKey pair.0 × IsValue pair.1

abbrev pub FitsPairs : List Pair → Type 0
FitsPairs pairs = (length pairs ≤ key_count_limit) × Chained (λ _ pair. FitsPair pair) nothing_left None pairs

pub pairs_reads : Reads pairs_at (spelled_list spelled_pair) FitsPairs
unfolding pairs_at
pairs_reads = counted_reads (λ _. pair_at) nothing_left spelled_pair (λ _ pair. FitsPair pair) (λ _. pair_reads) key_count_limit (omega arith)
