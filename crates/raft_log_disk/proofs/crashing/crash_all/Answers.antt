use Rattle.raft_log_disk.proofs.CrashLemmas.{crashed_more}
use Rattle.raft_log_disk.proofs.EndLemmas.{not_given}
use Rattle.raft_log_disk.proofs.crashing.crash_all.Goals as goal

pub loop-file-preserved : goal.loop-file-preserved
loop-file-preserved c = crashed_more _ _ _ _ _ _ _ c.loop-file.invariant c.loop-file-test.true c.file-item.is c.in_ok-next.ensures.path c.in_ok-next.ensures.number c.in_ok-next.ensures.state c.in_ok-push.ensures.items

pub returns-in_err-next : goal.returns-in_err-next
returns-in_err-next c = not_given _ _ c.from_residual.result c.from_residual.ensures.1

pub returns-in_err-push : goal.returns-in_err-push
returns-in_err-push c = not_given _ _ c.from_residual-in_err-push.result c.from_residual-in_err-push.ensures.1
