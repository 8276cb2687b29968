use Rattle.raft_log_purge.proofs.HeardLemmas.{gone_told}
use Rattle.raft_log_engine.proofs.listening.tell_last.Goals as goal

pub returns-then-before-behind : goal.returns-then-before-behind
returns-then-before-behind g c =
    record {
      told = gone_told g.L.EventListener.hears c.args.queue c.new.result c.args.before c.args.behind c.args.listeners.now c.tell_gone.new.listeners
          c.if-before-behind.true c.new.ensures.queue c.new.ensures.seq c.tell_gone.ensures.told;
    }
