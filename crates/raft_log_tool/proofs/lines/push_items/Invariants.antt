use Rattle.std.proofs.Common.{◌≡◌, ◌++◌, string_bytes, take}
use Rattle.std.specs.List.{flat_map}
use Rattle.raft_log_records.specs.Item.{items_of}
use Rattle.raft_log_tool.specs.Lines.{item_text}
use Rattle.raft_log_tool.proofs.lines.push_items.Given as goal

abbrev pub invariant-loop-item : goal.invariant-loop-item
invariant-loop-item l = string_bytes l.text ≡ string_bytes l.initial.text ++ flat_map (item_text l.id) (items_of (take l.item-index l.items))
