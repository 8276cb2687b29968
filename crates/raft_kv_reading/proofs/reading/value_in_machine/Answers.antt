use Rattle.std.proofs.Common.{◌∙◌}
use Rattle.raft_kv_reading.proofs.Telling.{value_lent}
use Rattle.raft_kv_reading.proofs.reading.value_in_machine.Goals as goal

pub returns : goal.returns
returns c = λ list place is. c.get.ensures ∙ value_lent c.args.machine.now c.len-count.ensures.within list place is c.args.key.now
