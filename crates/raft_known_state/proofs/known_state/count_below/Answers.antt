use Rattle.std.proofs.Common.{rules, arith}
use Rattle.std.proofs.lemmas.List.Sorted.{IsPartitionPoint-from_clause}
use Rattle.raft_known_state.specs.KnownState.{AreInOrder, is_below}
use Rattle.raft_known_state.proofs.OrderLemmas.{parted, take_counted, drop_counted}
use Rattle.raft_known_state.proofs.known_state.count_below.Goals as goal

pub returns : goal.returns
returns c =
    let ms = c.args.memberships.now in
    let n = c.partition_point.result in
    let point = λ (h : AreInOrder ms).
    IsPartitionPoint-from_clause (λ m. is_below c.args.place m.log_id) _ _ c.partition_point.ensures.partitioned (parted c.args.place ms h) (λ a r q k. search rules) in
    record {
      below = λ h. take_counted c.args.place ms n c.partition_point.ensures.bound (λ k d l. (point h).0 k d (omega arith) l) (λ d l. (point h).1 n d (omega arith) l);
      above = λ h. drop_counted c.args.place ms n c.partition_point.ensures.bound (λ k d l. (point h).0 k d (omega arith) l) (λ d l. (point h).1 n d (omega arith) l);
      within = c.partition_point.ensures.bound;
    }
