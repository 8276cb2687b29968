use Rattle.raft_log_recovery.proofs.TailLemmas.{torn_opened}
use Rattle.raft_log_recovery.proofs.laws.torn_tails_are_opened.Goals as goal

pub returns : goal.returns
returns c = torn_opened
