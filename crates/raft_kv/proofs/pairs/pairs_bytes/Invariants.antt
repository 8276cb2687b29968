use Rattle.std.proofs.Common.{◌≡◌, ◌++◌, map, length}
use Rattle.std.specs.Int.{w32, to_be_bytes}
use Rattle.std.specs.List.{All, flat_map}
use Rattle.std.specs.Map.{keys_of, values_of}
use Rattle.raft_kv.specs.Map.{plain, spelled_pair, KeyFits, ValueFits}
use Rattle.raft_kv.proofs.pairs.pairs_bytes.Given as goal

abbrev pub invariant-loop-key : goal.invariant-loop-key
invariant-loop-key l = record {
  keys : All KeyFits (keys_of l.key-iterator);
  values : All ValueFits (values_of l.key-iterator);
  written : l.out.items ++ flat_map spelled_pair (map plain l.key-iterator) ≡ to_be_bytes w32 (length l.pairs.entries) ++ flat_map spelled_pair (map plain l.pairs.entries);
}
