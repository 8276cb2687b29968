use Rattle.std.proofs.Common.{◌≡◌, ap, sym, ◌∙◌}
use Rattle.std.specs.Prelude.{bit_xor, fold}
use Rattle.std.proofs.lemmas.List.Sums.{fold-append}
use Rattle.raft_log_records.specs.Checksum.{after_byte, crc32_of}
use Rattle.raft_log_records.proofs.RegisterLemmas.{same_from_xor}
use Rattle.raft_log_records.proofs.checksum.Checksum.update.Goals as goal

pub returns : goal.returns
unfolding crc32_of
returns c = λ before is_checksum.
    let bytes = c.args.bytes.now in
    let register = c.self.inside.register in
    let so_far : register ≡ fold after_byte 0xFFFF_FFFF before =
    same_from_xor register (fold after_byte 0xFFFF_FFFF before) 0xFFFF_FFFF (c.self.view_is ∙ is_checksum) in
    ap (λ x. bit_xor x 0xFFFF_FFFF)
    (c.take_all-self-inside.ensures ∙ ap (λ x. fold after_byte x bytes) so_far ∙ sym (fold-append after_byte 0xFFFF_FFFF before bytes))
