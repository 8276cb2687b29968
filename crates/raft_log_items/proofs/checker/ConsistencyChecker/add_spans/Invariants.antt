use Rattle.std.proofs.Common.{◌≡◌, ℕ}
use Rattle.std.specs.BTreeMap.{get, is_at}
use Rattle.std.specs.List.Sorted.{IsStrictlySortedBy}
use Rattle.std.specs.Map.{keys_of, lookup}
use Rattle.std.specs.Ordering.{nat_cmp}
use Rattle.raft_log_items.specs.Holes.{with_spans}
use Rattle.raft_log_items.proofs.checker.ConsistencyChecker.add_spans.Given as goal

abbrev pub invariant-loop-group : goal.invariant-loop-group
invariant-loop-group l = record {
  rising : IsStrictlySortedBy nat_cmp (keys_of l.group-iterator);
  spans : (n : ℕ) → with_spans (get nat_cmp l.self.spans n) (lookup (is_at (nat_cmp n)) l.group-iterator) ≡ with_spans (get nat_cmp l.initial.self.spans n) (get nat_cmp l.fn.spans n);
}
