use Rattle.std.proofs.Common.{sym, ◌∙◌}
use Rattle.raft_log_disk.proofs.DigitLemmas.{short_value-is}
use Rattle.raft_log_disk.proofs.name.short_value.Goals as goal

pub returns-then-are_digits : goal.returns-then-are_digits
returns-then-are_digits c =
    short_value-is c.args.text.now c.digits_value.result c.requires (sym c.are_digits.ensures ∙ c.if-are_digits.true) c.digits_value.ensures
