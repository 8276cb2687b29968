use Rattle.std.proofs.Common.{◌≡◌, map, take}
use Rattle.raft_log_records.specs.declared.item.EntryIndex.{EntryIndex}
use Rattle.raft_log_tool.specs.Lines.{sum_of}
use Rattle.raft_log_tool.proofs.lines.entries_len.Given as goal

abbrev pub invariant-loop-entry : goal.invariant-loop-entry
invariant-loop-entry l = l.total ≡ sum_of (map (λ (e : EntryIndex). e.entry_len) (take l.entry-index l.entries))
