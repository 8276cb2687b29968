use Rattle.std.proofs.Common.{leb, leb-true, leb-false, arith, rules}
use Rattle.std.proofs.lemmas.List.Sorted.{IsPartitionPoint-from_clause, IsPartitionedBy-leb}
use Rattle.raft_log_ids.specs.LogIdList.{PlacesRise}
use Rattle.raft_log_ids.proofs.KeyCutLemmas.{places-non_decreasing}
use Rattle.raft_log_ids.proofs.log_id_list.count_up_to.Goals as goal

pub returns : goal.returns
returns g c =
    let point = λ (rise : PlacesRise c.args.keys.now).
    IsPartitionPoint-from_clause (λ key. leb key.index c.args.index) _ _ c.partition_point.ensures.partitioned
    (IsPartitionedBy-leb (λ key. key.index) c.args.keys.now c.args.index (places-non_decreasing c.args.keys.now rise)) (λ a r q k. search rules) in
    record {
      within = c.partition_point.ensures.bound;
      below = λ rise k d h. leb-true _ _ ((point rise).0 k d (omega arith) h);
      above = λ rise d h. leb-false _ _ ((point rise).1 c.partition_point.result d (omega arith) h);
    }
