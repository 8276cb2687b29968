use Rattle.std.proofs.Common.{take}
use Rattle.raft_cluster_script.proofs.StopLemmas.{one_more, tokens_more}
use Rattle.raft_cluster_script.proofs.stops.push_all.Goals as goal

pub loop-one-preserved : goal.loop-one-preserved
loop-one-preserved c =
    let at = c.loop-one in
    let xs = c.args.unknown.now in
    tokens_more c.args.all.now.items at.all.items c.push_tokens.new.all.items c.as_slice.result.now (take at.one-index xs) _ c.one-item.result
    (one_more xs at.one-index c.one-item.result c.loop-one-test.true c.one-item.is) at.invariant c.as_slice.ensures.value c.in_ok-push_tokens.ensures
