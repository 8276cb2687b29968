use Rattle.std.proofs.Common.{arith}
use Rattle.raft_log_purge.specs.Heard.Heard.{Applied}
use Rattle.raft_log_purge.proofs.HeardLemmas.{none_heard, one_more, one_told}
use Rattle.raft_log_engine.proofs.hearing.tell_applied.Goals as goal

pub loop-listener-init : goal.loop-listener-init
loop-listener-init g c = none_heard g.L.EventListener.hears (Applied c.args.id) c.args.listeners.now

pub loop-listener-preserved : goal.loop-listener-preserved
loop-listener-preserved g c =
    let olds = c.args.listeners.now in
    let news = c.loop-listener.listeners in
    let at = c.loop-listener.listener-index in
    one_more g.L.EventListener.hears (Applied c.args.id) at olds news c.listener-item.result c.post_apply_memtables.new.self c.loop-listener.invariant
    (omega (arith, c.loop-listener-test.true, c.loop-listener.auto.listeners)) c.post_apply_memtables.ensures.heard

pub returns : goal.returns
returns g c =
    record {
      told = one_told g.L.EventListener.hears (Applied c.args.id) c.loop-listener.listener-index c.args.listeners.now c.loop-listener.listeners c.loop-listener.invariant
          (omega (arith, c.loop-listener-test.false, c.loop-listener.auto.listeners));
    }
