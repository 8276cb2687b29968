use Rattle.std.proofs.Common.{◌≡◌, ℕ, List, None, ◌∙◌, ap, subst, sym, arith, length}
use Rattle.raft_log_records.specs.declared.item.LogItem.{LogItem}
use Rattle.raft_log_records.specs.Item.{items_of, with_bytes, with_lengths}
use Rattle.raft_log_records.specs.Spelling.{AreItems, block_part, spell_items, spell_parts, record_len}
use Rattle.raft_log_records.specs.Batch.{Batch}
use Rattle.raft_log_records.proofs.Sound.{sound_items, sound_len, sound_spelled}
use Rattle.raft_log_records.proofs.batch.LogBatch.populate.Goals as goal

pub write_record-requires-clause-room : goal.write_record-requires-clause-room
write_record-requires-clause-room c = rw c.deref-2.ensures.value (omega (arith, c.self.invariant.sound.bytes))

pub write_record-requires-clause-len : goal.write_record-requires-clause-len
write_record-requires-clause-len c =
    let a = c.self.inside in
    let whole = sound_len a.items.items a.entries.items a.holds_entries a.items_len c.self.invariant.sound in
    let view : record_len (with_bytes a.entries.items (items_of a.items.items)) ≡ c.record_len-len.result = ap (λ (b : Batch). record_len b.items) c.self.view_is ∙ sym c.record_len-len.ensures.len in
    rw (c.deref-2.ensures.value, c.deref.ensures.value) (omega (arith, c.self.invariant.sound.sum))

pub invariant_of-self-2 : goal.invariant_of-self-2
invariant_of-self-2 c =
    let a = c.self.inside in
    record {
      sound = c.self.invariant.sound;
      encoded = c.in_ok-encoded.ensures.bytes
          ∙ ap (λ (l : List ℕ). spell_parts None (block_part a.holds_entries l) (spell_items (with_lengths (items_of c.deref.result.now)))) c.deref-2.ensures.value
          ∙ ap (λ (l : List LogItem). spell_parts None (block_part a.holds_entries a.entries.items) (spell_items (with_lengths (items_of l)))) c.deref.ensures.value
          ∙ sym (sound_spelled None a.items.items a.entries.items a.holds_entries a.items_len c.self.invariant.sound);
      checksum = rw c.deref.ensures.value at c.in_ok-encoded.ensures.sum;
    }
