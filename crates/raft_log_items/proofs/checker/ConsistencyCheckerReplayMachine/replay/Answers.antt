use Rattle.std.proofs.Common.{[], ◌∷◌, List, ap, sym, ◌∙◌, append-nil}
use Rattle.std.specs.BTreeMap.{get}
use Rattle.std.specs.Ordering.{nat_cmp}
use Rattle.raft_log_records.specs.declared.item.EntryIndex.{EntryIndex}
use Rattle.raft_log_records.specs.declared.item.LogItem.{LogItem}
use Rattle.raft_log_records.specs.Item.{Item, items_of}
use Rattle.raft_log_items.specs.Holes.{span_in, with_spans, written_by}
use Rattle.raft_log_items.proofs.HoleLemmas.{placed_more}
use Rattle.raft_log_items.proofs.checker.ConsistencyCheckerReplayMachine.replay.Goals as goal

pub returns-clause-replayed : goal.returns-clause-replayed
returns-clause-replayed c = λ placed has group.
    let items = items_of c.args.batch.items.items in
    placed_more c.args.self.now placed (record { handle = c.args._handle; items = items } ∷ []) (get nat_cmp c.add_items.new.self.spans) group has
    (c.in_ok-add_items.ensures group
    ∙ ap (λ (l : List LogItem). with_spans (get nat_cmp c.args.self.now.spans group) (span_in (written_by group (items_of l)))) c.deref.ensures.value
    ∙ ap (λ (l : List (Item EntryIndex)). with_spans (get nat_cmp c.args.self.now.spans group) (span_in (written_by group l))) (sym (append-nil items)))
