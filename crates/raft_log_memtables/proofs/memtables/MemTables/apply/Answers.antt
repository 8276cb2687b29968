use Rattle.std.proofs.Common.{◌≡◌, ℕ, List, [], ◌∷◌, length, Option, sym, ap, ◌∙◌, arith}
use Rattle.std.specs.Vec.Iter.{into_iter_items}
use Rattle.raft_log_records.specs.declared.item.EntryIndex.{EntryIndex}
use Rattle.raft_log_records.specs.declared.item.LogItem.{LogItem}
use Rattle.raft_log_records.specs.Item.{items_of}
use Rattle.raft_log_memtables.specs.Content.{Content, after_batch, reach_after_batch}
use Rattle.raft_log_memtables.specs.MemTable.{items_in}
use Rattle.raft_log_memtables.specs.MemTables.{content_in, reach_in}
use Rattle.raft_log_memtables.specs.Tables.{table_at, reach_at}
use Rattle.raft_log_memtables.proofs.Folds.{nothing_left}
use Rattle.raft_log_memtables.proofs.memtables.MemTables.apply.Goals as goal

pub loop-item-preserved : goal.loop-item-preserved
loop-item-preserved c =
    let at = c.loop-item in
    let rest = into_iter_items c.next.new.self in
    let steps : into_iter_items at.item-iterator ≡ c.in-Some.item ∷ rest = c.in-Some.ensures.steps.0 in
    let fewer = c.in-Some.ensures.steps.1 in
    let count = at.invariant.count in
    let short = ap length steps in
    record {
      content = ap (λ (s : Content EntryIndex). after_batch (items_in c.args.handle (items_of rest)) s) c.in_ok-apply_item.ensures.content
          ∙ ap (λ (l : List LogItem). after_batch (items_in c.args.handle (items_of l)) (table_at at.self.tables)) (sym steps) ∙ at.invariant.content;
      reach = ap (λ (s : ℕ → Option ℕ). reach_after_batch (items_in c.args.handle (items_of rest)) s) c.in_ok-apply_item.ensures.reach
          ∙ ap (λ (l : List LogItem). reach_after_batch (items_in c.args.handle (items_of l)) (reach_at at.self.tables)) (sym steps) ∙ at.invariant.reach;
      count = omega arith;
    }

pub returns-clause-content : goal.returns-clause-content
unfolding content_in
returns-clause-content c =
    let none = c.in-None.ensures.steps in
    let empty : into_iter_items c.loop-item.item-iterator ≡ [] = nothing_left _ (sym c.loop-item.invariant.count ∙ none.0) in
    ap (λ (l : List LogItem). after_batch (items_in c.args.handle (items_of l)) (table_at c.loop-item.self.tables)) (sym empty) ∙ c.loop-item.invariant.content
    ∙ ap (λ (l : List LogItem). after_batch (items_in c.args.handle (items_of l)) (table_at c.args.self.now.tables)) c.into_iter-item-iterator.ensures.into_iter_gives.0

pub returns-clause-reach : goal.returns-clause-reach
unfolding reach_in
returns-clause-reach c =
    let none = c.in-None.ensures.steps in
    let empty : into_iter_items c.loop-item.item-iterator ≡ [] = nothing_left _ (sym c.loop-item.invariant.count ∙ none.0) in
    ap (λ (l : List LogItem). reach_after_batch (items_in c.args.handle (items_of l)) (reach_at c.loop-item.self.tables)) (sym empty) ∙ c.loop-item.invariant.reach
    ∙ ap (λ (l : List LogItem). reach_after_batch (items_in c.args.handle (items_of l)) (reach_at c.args.self.now.tables)) c.into_iter-item-iterator.ensures.into_iter_gives.0
