use Rattle.std.proofs.Common.{◌∙◌}
use Rattle.raft_log_records.proofs.RegisterLemmas.{after_zeros-none}
use Rattle.raft_log_records.proofs.checksum.register.take_group.Goals as goal

pub returns : goal.returns
returns c = c.after_group.ensures ∙ after_zeros-none _ ∙ c.enter.ensures
