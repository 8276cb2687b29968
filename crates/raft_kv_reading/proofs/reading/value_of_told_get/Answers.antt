use Rattle.std.proofs.Common.{ap, ◌∙◌}
use Rattle.raft_kv_reading.specs.Answers.{value_in}
use Rattle.raft_kv_reading.proofs.Telling.{told_value}
use Rattle.raft_kv_reading.proofs.reading.value_of_told_get.Goals as goal

pub returns : goal.returns
returns c = λ list key told is.
    c.value_in.ensures ∙ ap value_in c.as_slice.ensures ∙ told_value list c.args.told.now.place c.args.told.now.answer key told is
