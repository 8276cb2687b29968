use Rattle.std.proofs.Common.{◌≡◌, ◌++◌, map, take}
use Rattle.std.specs.List.{flat_map}
use Rattle.raft_log_records.specs.Spelling.{spell_entry}
use Rattle.raft_log_records.proofs.writing.put_entries.Given as goal

abbrev pub invariant-loop-entry : goal.invariant-loop-entry
invariant-loop-entry l = l.out.items ≡ l.fn.out.items ++ flat_map spell_entry (map (λ e. (e.index, e.entry_len)) (take l.entry-index l.entries))
