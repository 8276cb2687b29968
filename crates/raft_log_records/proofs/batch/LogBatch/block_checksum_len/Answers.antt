use Rattle.std.proofs.Common.{◌≡◌, ◌-◌, Bool, true, false, [], length, sym, ap, ◌∙◌}
use Rattle.std.specs.List.{list_any}
use Rattle.raft_log_records.specs.Item.{items_of, entry_bytes, with_bytes}
use Rattle.raft_log_records.specs.Spelling.{holds_entries, block_part}
use Rattle.raft_log_records.specs.Batch.{Batch}
use Rattle.raft_log_records.proofs.Laid.{any_held}
use Rattle.raft_log_records.proofs.batch.LogBatch.block_checksum_len.Goals as goal

pub returns-then-self-clause-len : goal.returns-then-self-clause-len
returns-then-self-clause-len c =
    let a = c.self.inside in
    let e : list_any holds_entries (with_bytes a.entries.items (items_of a.items.items)) ≡ true = any_held (entry_bytes a.entries.items) (items_of a.items.items) ∙ sym c.self.invariant.sound.entries_held ∙ c.if-self.true in
    let f = sym (ap (λ (b : Batch). list_any holds_entries b.items) c.self.view_is) ∙ e in
    sym (ap (λ (b : Bool). 4 - length (block_part b [])) f)

pub returns-else-self-clause-len : goal.returns-else-self-clause-len
returns-else-self-clause-len c =
    let a = c.self.inside in
    let e : list_any holds_entries (with_bytes a.entries.items (items_of a.items.items)) ≡ false = any_held (entry_bytes a.entries.items) (items_of a.items.items) ∙ sym c.self.invariant.sound.entries_held ∙ c.if-self.false in
    let f = sym (ap (λ (b : Batch). list_any holds_entries b.items) c.self.view_is) ∙ e in
    sym (ap (λ (b : Bool). 4 - length (block_part b [])) f)
