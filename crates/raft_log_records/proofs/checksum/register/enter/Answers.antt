use Rattle.std.proofs.Common.{◌≡◌, ◌<◌, ℕ, ap, ◌∙◌, rules, length, get_or}
use Rattle.std.specs.Prelude.{fold}
use Rattle.raft_log_records.specs.Checksum.{after_byte}
use Rattle.raft_log_records.proofs.BlockLemmas.{enter_four}
use Rattle.raft_log_records.proofs.checksum.register.enter.Goals as goal

pub returns : goal.returns
returns c =
    let bytes = c.args.bytes in
    let four : length bytes ≡ 4 = search rules in
    let fits : (i : ℕ) → i < 4 → get_or bytes i 0 < 256 = search rules in
    let word = c.from_le_bytes in
    ap (fold after_byte 0) c.to_le_bytes.ensures
    ∙ enter_four c.args.register word.result bytes four fits c.ranges.register.fits word.type_inv word.ensures
