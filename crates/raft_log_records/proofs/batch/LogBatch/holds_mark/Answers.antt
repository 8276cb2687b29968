use Rattle.std.proofs.Common.{sym, ap, ◌∙◌}
use Rattle.std.specs.List.{list_any}
use Rattle.raft_log_records.specs.declared.item.LogItem.{LogItem}
use Rattle.raft_log_records.specs.Item.{item_of, items_of, entry_bytes}
use Rattle.raft_log_records.specs.Spelling.{holds_mark}
use Rattle.raft_log_records.specs.Batch.{Batch}
use Rattle.std.proofs.Common.{List}
use Rattle.raft_log_records.proofs.Lists.{any_of_map}
use Rattle.raft_log_records.proofs.Laid.{any_marked}
use Rattle.raft_log_records.proofs.batch.LogBatch.holds_mark.Goals as goal

pub returns : goal.returns
returns c =
    let a = c.self.inside in
    c.any_marks.ensures
    ∙ ap (λ (l : List LogItem). list_any (λ item. holds_mark (item_of item)) l) c.deref.ensures.value
    ∙ sym (any_of_map holds_mark item_of a.items.items)
    ∙ sym (any_marked (entry_bytes a.entries.items) (items_of a.items.items))
    ∙ ap (λ (b : Batch). list_any holds_mark b.items) c.self.view_is
