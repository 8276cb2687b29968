use Rattle.std.proofs.Common.{◌≡◌, ◌++◌, map, length}
use Rattle.std.specs.BTreeMap.{IsOrdered}
use Rattle.raft_kv.specs.Map.{plain, tree_order}
use Rattle.raft_kv.specs.Pairs.{plain_pair}
use Rattle.raft_kv.proofs.pairs.rising_pairs.Given as goal

abbrev pub invariant-loop-pair : goal.invariant-loop-pair
invariant-loop-pair l = record {
  ordered : IsOrdered tree_order l.rising;
  left : map plain_pair l.fn.pairs.items ≡ map plain_pair l.pairs.items ++ map plain l.rising.entries;
}

abbrev pub decreases-loop-pair : goal.decreases-loop-pair
decreases-loop-pair l = length l.pairs.items
