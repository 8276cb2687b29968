use Rattle.raft_log_purge.specs.Heard.Heard.{Appended}
use Rattle.raft_log_purge.proofs.HeardLemmas.{HaveHeard}
use Rattle.raft_log_engine.proofs.hearing.tell_appended.Given as goal

abbrev pub invariant-loop-listener : goal.invariant-loop-listener
invariant-loop-listener g l = HaveHeard g.L.EventListener.hears (Appended l.written) l.listener-index l.initial.listeners l.listeners
