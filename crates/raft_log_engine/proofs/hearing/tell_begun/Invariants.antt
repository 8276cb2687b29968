-- They heard of the files up to here. Where none is behind that one, none was told.
use Rattle.std.proofs.Common.{◌≡◌, ◌≤◌, ◌+◌, ◌-◌}
use Rattle.raft_log_purge.specs.Heard.{HearAll, files_from}
use Rattle.raft_log_engine.proofs.hearing.tell_begun.Given as goal

abbrev pub invariant-loop-seq : goal.invariant-loop-seq
invariant-loop-seq g l = HearAll g.L.EventListener.hears (files_from l.queue (l.before + 1) (l.seq - l.before)) l.fn.listeners l.listeners × (l.last ≤ l.before → l.seq ≡ l.before)
