use Rattle.raft_log_items.proofs.HoleLemmas.{items_more}
use Rattle.raft_log_items.proofs.checker.ConsistencyChecker.add_items.Goals as goal

pub loop-item-preserved : goal.loop-item-preserved
loop-item-preserved c = λ n. items_more c.args.items.now c.loop-item.item-index c.item-item.result n _ _ _ c.loop-item-test.true c.item-item.is (c.loop-item.invariant n) (c.in_ok-add_item.ensures n)
