-- The next peer is looked at, too.
use Rattle.std.proofs.Common.{◌∙◌, ap}
use Rattle.std.proofs.lemmas.List.{take_all}
use Rattle.std.specs.Prelude.{filter}
use Rattle.raft_node_clock.specs.View.{waits_for}
use Rattle.raft_node_clock.proofs.Waiting.{one_more}
use Rattle.raft_node_clock.proofs.view.waiting_for.Goals as goal

pub loop-peer-preserved : goal.loop-peer-preserved
loop-peer-preserved g c = λ s up at.
    one_more (waits_for s) c.args.peers.now c.loop-peer.peer-index c.loop-peer.waiting.items c.push_if.new.waiting.items c.is_waiting_for.result
    c.loop-peer-test.true (c.loop-peer.invariant s up at) (c.is_waiting_for.ensures.up s up at) c.in_ok-push_if.ensures

pub returns : goal.returns
returns g c = λ s up at. c.loop-peer.invariant s up at ∙ ap (filter (waits_for s)) (take_all c.loop-peer.peer-index c.args.peers.now c.loop-peer-test.false)
