use Rattle.std.proofs.Common.{arith, ◌∷◌, []}
use Rattle.raft_log_purge.specs.Heard.{files_behind}
use Rattle.raft_log_purge.specs.Heard.Heard.{Appended}
use Rattle.raft_log_purge.proofs.HeardLemmas.{hear_more, none_heard, one_more, one_told}
use Rattle.raft_log_engine.proofs.hearing.tell_appended.Goals as goal

pub loop-listener-init : goal.loop-listener-init
loop-listener-init g c = none_heard g.L.EventListener.hears (Appended c.args.written) c.tell_begun.new.listeners

pub loop-listener-preserved : goal.loop-listener-preserved
loop-listener-preserved g c =
    let olds = c.tell_begun.new.listeners in
    let news = c.loop-listener.listeners in
    let at = c.loop-listener.listener-index in
    one_more g.L.EventListener.hears (Appended c.args.written) at olds news c.listener-item.result c.on_append_log_file.new.self c.loop-listener.invariant
    (omega (arith, c.loop-listener-test.true, c.loop-listener.auto.listeners)) c.on_append_log_file.ensures.heard

pub returns : goal.returns
returns g c =
    let id = c.args.written.id in
    record {
      told = hear_more g.L.EventListener.hears (files_behind id.queue c.args.last id.seq) (Appended c.args.written ∷ []) c.args.listeners.now c.tell_begun.new.listeners c.loop-listener.listeners
          c.tell_begun.ensures.told
          (one_told g.L.EventListener.hears (Appended c.args.written) c.loop-listener.listener-index c.tell_begun.new.listeners c.loop-listener.listeners c.loop-listener.invariant
          (omega (arith, c.loop-listener-test.false, c.loop-listener.auto.listeners)));
    }
