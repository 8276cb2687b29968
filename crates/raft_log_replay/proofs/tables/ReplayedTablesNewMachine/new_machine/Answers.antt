use Rattle.std.proofs.Common.{None, ◌∙◌}
use Rattle.raft_log_replay.proofs.tables.ReplayedTablesNewMachine.new_machine.Goals as goal

pub returns : goal.returns
returns c = record {
  content = c.new.ensures.content ∙ (λ i. record { state = c.new-tables.ensures.content i; begun = None });
  reach = c.new.ensures.reach ∙ (λ i. record { state = λ group. c.new-tables.ensures.reach group i; begun = None });
}
