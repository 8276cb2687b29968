use Rattle.raft_log_recovery.proofs.CrashLemmas.{crashed_found}
use Rattle.raft_log_recovery.proofs.laws.crashed_pipes_are_found.Goals as goal

pub returns : goal.returns
returns c = crashed_found
