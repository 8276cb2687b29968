use Rattle.std.proofs.Common.{◌≡◌, ◌++◌, take}
use Rattle.std.specs.List.{flat_map}
use Rattle.raft_log_records.specs.Item.{items_of, with_lengths}
use Rattle.raft_log_records.specs.Spelling.{spell_item}
use Rattle.raft_log_records.proofs.writing.put_items.Given as goal

abbrev pub invariant-loop-item : goal.invariant-loop-item
invariant-loop-item l = l.out.items ≡ l.fn.out.items ++ flat_map spell_item (with_lengths (items_of (take l.item-index l.items)))
