use Rattle.std.proofs.Common.{sym}
use Rattle.std.proofs.lemmas.Bool.{false≢true}
use Rattle.raft_log_recovery.proofs.laws.any_fault_is_tolerated.Goals as goal

pub returns : goal.returns
returns c = λ directories queue names d any. false≢true (sym any.4.4)
