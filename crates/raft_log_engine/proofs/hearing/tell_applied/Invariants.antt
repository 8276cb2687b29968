use Rattle.raft_log_purge.specs.Heard.Heard.{Applied}
use Rattle.raft_log_purge.proofs.HeardLemmas.{HaveHeard}
use Rattle.raft_log_engine.proofs.hearing.tell_applied.Given as goal

abbrev pub invariant-loop-listener : goal.invariant-loop-listener
invariant-loop-listener g l = HaveHeard g.L.EventListener.hears (Applied l.id) l.listener-index l.fn.listeners l.listeners
