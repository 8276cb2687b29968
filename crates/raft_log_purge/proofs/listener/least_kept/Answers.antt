use Rattle.std.proofs.Common.{◌++◌, ◌∷◌, [], ◌+◌, take, sym, ap, subst, ◌∙◌}
use Rattle.std.proofs.lemmas.List.{take_all, take_more}
use Rattle.raft_log_purge.specs.Listeners.{IsLeastKept}
use Rattle.raft_log_purge.proofs.ListenerLemmas.{one_asked}
use Rattle.raft_log_purge.proofs.listener.least_kept.Goals as goal

pub loop-listener-preserved : goal.loop-listener-preserved
loop-listener-preserved g c =
    let all = c.args.listeners.now in
    let index = c.loop-listener.listener-index in
    let one = c.listener-item.result in
    one_asked g.L.EventListener.kept c.args.queue (take index all) (take (index + 1) all) one c.loop-listener.least c.lesser-least.result c.first_file_not_ready_for_purge.result
    (take_more all index one c.loop-listener-test.true ∙ ap (λ x. take index all ++ x ∷ []) (sym c.listener-item.is))
    c.first_file_not_ready_for_purge.ensures c.lesser-least.ensures c.loop-listener.invariant

pub returns : goal.returns
returns g c = subst (λ x. IsLeastKept g.L.EventListener.kept c.args.queue x c.loop-listener.least) (take_all c.loop-listener.listener-index c.args.listeners.now c.loop-listener-test.false) c.loop-listener.invariant
