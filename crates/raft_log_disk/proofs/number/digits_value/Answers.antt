use Rattle.std.proofs.Common.{◌<◌, ◌*◌, ◌+◌, ◌^◌, ◌∙◌, arith}
use Rattle.raft_log_disk.proofs.DigitLemmas.{too_large, whole_value}
use Rattle.raft_log_disk.proofs.number.digits_value.Goals as goal

pub returns-in_err-checked_mul : goal.returns-in_err-checked_mul
returns-in_err-checked_mul c =
    let large : ¬ (c.loop-byte.value * 10 < 2 ^ 64) = c.in_err-checked_mul.ensures in
    c.from_residual.ensures ∙ too_large c.args.text.now c.loop-byte.byte-index c.loop-byte-test.true (omega (arith, c.loop-byte.invariant.value))

pub returns-in_err-value : goal.returns-in_err-value
returns-in_err-value c =
    let large : ¬ (c.in_ok-checked_mul.field-0 + c.from.result < 2 ^ 64) = c.in_err-value.ensures in
    c.from_residual-in_err-value.ensures
    ∙ too_large c.args.text.now c.loop-byte.byte-index c.loop-byte-test.true (omega (arith, c.loop-byte.invariant.value, c.in_ok-checked_mul.ensures, c.from.ensures))

pub returns : goal.returns
returns c = whole_value c.args.text.now c.loop-byte.value c.loop-byte.byte-index c.loop-byte-test.false c.loop-byte.invariant.value c.loop-byte.invariant.below
