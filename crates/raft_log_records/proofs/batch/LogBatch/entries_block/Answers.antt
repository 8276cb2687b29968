use Rattle.std.proofs.Common.{◌≡◌, ◌+◌, true, false, length, sym, ap, ◌∙◌, arith}
use Rattle.std.specs.List.{list_any}
use Rattle.raft_log_records.specs.Item.{items_of, entry_bytes, with_bytes}
use Rattle.raft_log_records.specs.Spelling.{holds_entries, block_of}
use Rattle.raft_log_records.specs.Batch.{Batch}
use Rattle.raft_log_records.proofs.Laid.{any_held, block_is}
use Rattle.raft_log_records.proofs.Blocks.{stands_in_batch}
use Rattle.raft_log_records.proofs.batch.LogBatch.entries_block.Goals as goal

pub returns-then-self : goal.returns-then-self
returns-then-self c = λ signature.
    let a = c.self.inside in
    let e : list_any holds_entries (with_bytes a.entries.items (items_of a.items.items)) ≡ true = any_held (entry_bytes a.entries.items) (items_of a.items.items) ∙ sym c.self.invariant.sound.entries_held ∙ c.if-self.true in
    let f = sym (ap (λ (b : Batch). list_any holds_entries b.items) c.self.view_is) ∙ e in
    let block = sym (ap (λ (b : Batch). block_of b.items) c.self.view_is) ∙ block_is a.entries.items (items_of a.items.items) c.self.invariant.sound.laid in
    let len : c.holding.result.len ≡ length (block_of c.args.self.now.items) + 4 = omega (arith, c.holding.ensures.len, c.len.ensures, ap length block) in
    stands_in_batch signature c.args.self.now.items c.holding.result f c.holding.ensures.offset len

pub returns-else-self : goal.returns-else-self
returns-else-self c = λ signature.
    let a = c.self.inside in
    let e : list_any holds_entries (with_bytes a.entries.items (items_of a.items.items)) ≡ false = any_held (entry_bytes a.entries.items) (items_of a.items.items) ∙ sym c.self.invariant.sound.entries_held ∙ c.if-self.false in
    sym (ap (λ (b : Batch). list_any holds_entries b.items) c.self.view_is) ∙ e
