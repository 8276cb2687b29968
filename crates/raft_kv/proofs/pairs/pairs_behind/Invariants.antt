use Rattle.std.proofs.Common.{◌≡◌, ◌-◌, None, map}
use Rattle.raft_wire.specs.Reader.{many_at}
use Rattle.raft_wire.proofs.Lists.{with_front}
use Rattle.raft_kv.specs.Map.{nothing_left, pair_at}
use Rattle.raft_kv.specs.Pairs.{plain_pair}
use Rattle.raft_kv.proofs.pairs.pairs_behind.Given as goal

abbrev pub invariant-loop : goal.invariant-loop
invariant-loop l =
    with_front (map plain_pair l.pairs.items) (many_at (λ _. pair_at) nothing_left (l.count - l.counter) None l.rest) ≡ many_at (λ _. pair_at) nothing_left l.count None l.bytes
