use Rattle.raft_log_purge.specs.Heard.Heard.{Gone}
use Rattle.raft_log_purge.proofs.HeardLemmas.{HaveHeard}
use Rattle.raft_log_purge.proofs.listener.tell_gone.Given as goal

abbrev pub invariant-loop-listener : goal.invariant-loop-listener
invariant-loop-listener g l = HaveHeard g.L.EventListener.hears (Gone l.id) l.listener-index l.fn.listeners l.listeners
