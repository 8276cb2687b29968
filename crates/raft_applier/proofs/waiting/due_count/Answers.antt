use Rattle.std.proofs.Common.{◌∙◌, rules, arith}
use Rattle.std.proofs.lemmas.List.Sorted.{IsPartitionPoint-from_clause}
use Rattle.std.proofs.lemmas.List.Sums.{length-filter}
use Rattle.raft_values.specs.LogId.{reaches}
use Rattle.raft_machines.specs.declared.telling.Untold.{Untold}
use Rattle.raft_applier.proofs.Tokens.{due_first, passing}
use Rattle.raft_applier.proofs.waiting.due_count.Goals as goal

pub returns : goal.returns
returns c =
    let ws = c.args.waiting.now in
    let upto = c.args.upto.now in
    let n = c.partition_point.result in
    record {
      due = λ place rises.
          let point = IsPartitionPoint-from_clause (λ (w : Untold). reaches upto w.place) _ _ c.partition_point.ensures.partitioned (due_first upto place ws rises) (λ a r q k. search rules) in
          passing (λ (w : Untold). reaches upto w.place) ws n c.partition_point.ensures.bound
          (λ k d l. point.0 k d (omega arith) l) (λ k d a l. point.1 k d a l)
          ∙ length-filter (λ (w : Untold). reaches upto w.place) ws;
      within = c.partition_point.ensures.bound;
    }
