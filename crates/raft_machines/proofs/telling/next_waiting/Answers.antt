use Rattle.std.proofs.Common.{◌∙◌}
use Rattle.raft_machines.proofs.TellingLemmas.{looked_up}
use Rattle.raft_machines.proofs.telling.next_waiting.Goals as goal

pub returns : goal.returns
returns c = c.copied.ensures ∙ looked_up c.args.waiting.now c.args.count c.get.result c.get.ensures.lookup.0 c.get.ensures.lookup.1
