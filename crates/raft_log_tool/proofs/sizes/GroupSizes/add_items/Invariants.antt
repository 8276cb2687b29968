use Rattle.std.proofs.Common.{◌++◌, List, take}
use Rattle.raft_log_records.specs.declared.item.EntryIndex.{EntryIndex}
use Rattle.raft_log_records.specs.Item.{Item, items_of}
use Rattle.raft_log_tool.specs.Sizes.{HasSizes}
use Rattle.raft_log_tool.proofs.sizes.GroupSizes.add_items.Given as goal

abbrev pub invariant-loop-item : goal.invariant-loop-item
invariant-loop-item l = (before : List (Item EntryIndex)) → HasSizes l.initial.self before → HasSizes l.self (before ++ items_of (take l.item-index l.items))
