use Rattle.std.proofs.Common.{◌/◌, ap, ◌∙◌, sym}
use Rattle.std.specs.Prelude.{bit_xor}
use Rattle.std.proofs.lemmas.Nat.{and_mask}
use Rattle.raft_log_records.specs.Checksum.{after_byte, after_zeros}
use Rattle.raft_log_records.proofs.RegisterLemmas.{after_byte-split}
use Rattle.raft_log_records.proofs.checksum.register.take_byte.Goals as goal

pub returns : goal.returns
unfolding after_zeros
returns c =
    ap (bit_xor (c.args.register / 256)) (c.entry.ensures ∙ ap (λ x. after_byte (bit_xor x c.args.byte) 0) (and_mask c.args.register 8))
    ∙ sym (after_byte-split c.args.register c.args.byte c.ranges.byte.fits)
