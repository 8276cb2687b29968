use Rattle.std.proofs.Common.{◌≡◌, ℕ, take}
use Rattle.std.specs.BTreeMap.{get}
use Rattle.std.specs.Ordering.{nat_cmp}
use Rattle.raft_log_records.specs.Item.{items_of}
use Rattle.raft_log_items.specs.Holes.{span_in, with_spans, written_by}
use Rattle.raft_log_items.proofs.checker.ConsistencyChecker.add_items.Given as goal

abbrev pub invariant-loop-item : goal.invariant-loop-item
invariant-loop-item l = (n : ℕ) → get nat_cmp l.self.spans n ≡ with_spans (get nat_cmp l.initial.self.spans n) (span_in (written_by n (items_of (take l.item-index l.items))))
