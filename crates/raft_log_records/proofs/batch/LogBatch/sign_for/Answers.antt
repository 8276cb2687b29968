use Rattle.std.proofs.Common.{◌∙◌, ap, sym, arith}
use Rattle.std.proofs.lemmas.List.{with_items_is}
use Rattle.raft_log_records.specs.Item.{items_of, with_bytes, with_lengths}
use Rattle.raft_log_records.specs.Spelling.{block_part, spell_items, signed}
use Rattle.raft_log_records.proofs.Sound.{sound_spelled, parts_long, parts_signed_again, encoded_is, checksum_is}
use Rattle.raft_log_records.proofs.batch.LogBatch.sign_for.Goals as goal

pub sign_again-requires : goal.sign_again-requires
sign_again-requires c =
    let a = c.self.inside in
    let is = encoded_is (with_bytes a.entries.items (items_of a.items.items)) a.encoded.items a.buf_state c.in-Encoded.checksum c.in-Encoded.signature c.self.invariant.encoded c.in-Encoded.is in
    let parts = is ∙ sound_spelled c.in-Encoded.signature a.items.items a.entries.items a.holds_entries a.items_len c.self.invariant.sound in
    parts_long c.in-Encoded.signature (block_part a.holds_entries a.entries.items) (spell_items (with_lengths (items_of a.items.items))) c.deref_mut.result.now (c.deref_mut.ensures.value ∙ parts)

pub invariant_of-self : goal.invariant_of-self
invariant_of-self c =
    let a = c.self.inside in
    let body = spell_items (with_lengths (items_of a.items.items)) in
    let is = encoded_is (with_bytes a.entries.items (items_of a.items.items)) a.encoded.items a.buf_state c.in-Encoded.checksum c.in-Encoded.signature c.self.invariant.encoded c.in-Encoded.is in
    let parts = is ∙ sound_spelled c.in-Encoded.signature a.items.items a.entries.items a.holds_entries a.items_len c.self.invariant.sound in
    let sum = checksum_is body a.buf_state c.in-Encoded.checksum c.in-Encoded.signature c.self.invariant.checksum c.in-Encoded.is in
    let signature = c.args.signature in
    record {
      sound = c.self.invariant.sound;
      encoded = with_items_is a.encoded c.sign_again.new.bytes (omega (arith, c.sign_again.auto.bytes, c.deref_mut.ensures.len)) ∙ c.sign_again.ensures
          ∙ parts_signed_again c.in-Encoded.signature signature (block_part a.holds_entries a.entries.items) body c.deref_mut.result.now c.sign.result (c.deref_mut.ensures.value ∙ parts) (c.sign.ensures ∙ ap (signed signature) sum)
          ∙ sym (sound_spelled signature a.items.items a.entries.items a.holds_entries a.items_len c.self.invariant.sound);
      checksum = sum;
    }
