use Rattle.std.proofs.Common.{◌++◌, subst, take}
use Rattle.raft_log_records.specs.Item.{items_of}
use Rattle.raft_log_tool.specs.Sizes.{HasSizes}
use Rattle.raft_log_tool.proofs.SizeLemmas.{items_next}
use Rattle.raft_log_tool.proofs.sizes.GroupSizes.add_items.Goals as goal

pub loop-item-preserved : goal.loop-item-preserved
loop-item-preserved c = λ before has.
    subst (HasSizes c.add_item.new.self) (items_next c.args.items.now c.loop-item.item-index c.item-item.result before c.loop-item-test.true c.item-item.is)
    (c.in_ok-add_item.ensures (before ++ items_of (take c.loop-item.item-index c.args.items.now)) (c.loop-item.invariant before has))
