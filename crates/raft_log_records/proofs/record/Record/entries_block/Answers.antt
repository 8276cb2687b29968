use Rattle.std.proofs.Common.{◌≡◌, ◌+◌, List, length, true, sym, ap, ◌∙◌, arith}
use Rattle.std.specs.List.{list_any}
use Rattle.raft_log_records.specs.declared.item.LogItem.{LogItem}
use Rattle.raft_log_records.specs.Item.{item_of, items_of}
use Rattle.raft_log_records.specs.Spelling.{holds_entries}
use Rattle.raft_log_records.proofs.Lists.{any_of_map}
use Rattle.raft_log_records.proofs.Blocks.{stands_in_bytes}
use Rattle.raft_log_records.proofs.record.Record.entries_block.Goals as goal

pub returns-then-any_entries : goal.returns-then-any_entries
returns-then-any_entries c = λ signature bytes fits e.
    let r = c.args.self.now in
    let held : list_any holds_entries (items_of r.batch.items.items) ≡ true =
    any_of_map holds_entries item_of r.batch.items.items ∙ sym (ap (λ (l : List LogItem). list_any (λ item. holds_entries (item_of item)) l) c.deref.ensures.value)
    ∙ sym c.any_entries.ensures ∙ c.if-any_entries.true in
    let len : c.holding.result.len ≡ length r.entries.now + 4 = omega (arith, c.holding.ensures.len) in
    stands_in_bytes signature bytes (items_of r.batch.items.items) r.entries.now r.len c.holding.result fits e held c.holding.ensures.offset len

pub returns-else-any_entries : goal.returns-else-any_entries
returns-else-any_entries c = λ signature bytes fits e.
    any_of_map holds_entries item_of c.args.self.now.batch.items.items
    ∙ sym (ap (λ (l : List LogItem). list_any (λ item. holds_entries (item_of item)) l) c.deref.ensures.value)
    ∙ sym c.any_entries.ensures ∙ c.if-any_entries.false
