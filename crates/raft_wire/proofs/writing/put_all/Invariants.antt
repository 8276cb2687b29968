use Rattle.std.proofs.Common.{◌≡◌, ◌++◌, take}
use Rattle.std.specs.List.{flat_map, AllWithin}
use Rattle.raft_wire.specs.Entries.{spelled_entry, FitsEntry}
use Rattle.raft_wire.proofs.writing.put_all.Given as goal

abbrev pub invariant-loop-entry : goal.invariant-loop-entry
invariant-loop-entry l = record {
  written : l.out.items ≡ l.fn.out.items ++ flat_map spelled_entry (take l.entry-index l.entries);
  fit : AllWithin FitsEntry l.entries 0 l.entry-index;
}
