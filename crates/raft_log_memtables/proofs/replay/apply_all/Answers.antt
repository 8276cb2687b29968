use Rattle.std.proofs.Common.{◌≡◌, ℕ, List, ◌∷◌, length, Option, sym, ap, ◌∙◌, arith}
use Rattle.std.specs.Vec.Iter.{into_iter_items}
use Rattle.raft_log_records.specs.declared.item.EntryIndex.{EntryIndex}
use Rattle.raft_log_memtables.specs.declared.replay.PlacedBatch.{PlacedBatch}
use Rattle.raft_log_memtables.specs.Content.{Content, after_batch, reach_after_batch}
use Rattle.raft_log_memtables.specs.MemTables.{content_in, reach_in}
use Rattle.raft_log_memtables.specs.Records.{record_items, all_items}
use Rattle.raft_log_memtables.proofs.Folds.{after_batch-append, reach_after_batch-append}
use Rattle.raft_log_memtables.proofs.replay.apply_all.Goals as goal

pub loop-placed-preserved : goal.loop-placed-preserved
loop-placed-preserved c =
    let at = c.loop-placed in
    let rest = into_iter_items c.next.new.self in
    let steps : into_iter_items at.placed-iterator ≡ c.in-Some.placed ∷ rest = c.in-Some.ensures.steps.0 in
    let fewer = c.in-Some.ensures.steps.1 in
    let count = at.invariant.count in
    let short = ap length steps in
    record {
      content = ap (λ (s : Content EntryIndex). after_batch (all_items rest) s) c.in_ok-apply.ensures.content
          ∙ sym (after_batch-append (record_items c.in-Some.placed) (all_items rest) (content_in at.memtables))
          ∙ ap (λ (l : List PlacedBatch). after_batch (all_items l) (content_in at.memtables)) (sym steps) ∙ at.invariant.content;
      reach = ap (λ (s : ℕ → Option ℕ). reach_after_batch (all_items rest) s) c.in_ok-apply.ensures.reach
          ∙ sym (reach_after_batch-append (record_items c.in-Some.placed) (all_items rest) (reach_in at.memtables))
          ∙ ap (λ (l : List PlacedBatch). reach_after_batch (all_items l) (reach_in at.memtables)) (sym steps) ∙ at.invariant.reach;
      count = omega arith;
    }
