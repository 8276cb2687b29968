use Rattle.std.proofs.Common.{take}
use Rattle.raft_log_purge.specs.Listeners.{IsLeastKept}
use Rattle.raft_log_purge.proofs.listener.least_kept.Given as goal

abbrev pub invariant-loop-listener : goal.invariant-loop-listener
invariant-loop-listener g l = IsLeastKept g.L.EventListener.kept l.queue (take l.listener-index l.listeners) l.least
