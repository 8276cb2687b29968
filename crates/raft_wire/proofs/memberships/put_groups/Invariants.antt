use Rattle.std.proofs.Common.{◌≡◌, ◌++◌, length, take}
use Rattle.std.specs.List.{flat_map, AllWithin}
use Rattle.std.specs.Int.{w32, to_be_bytes}
use Rattle.raft_wire.specs.Memberships.{spelled_ids, FitsIds}
use Rattle.raft_wire.proofs.memberships.put_groups.Given as goal

abbrev pub invariant-loop-group : goal.invariant-loop-group
invariant-loop-group l = record {
  written : l.out.items ≡ l.fn.out.items ++ to_be_bytes w32 (length l.groups) ++ flat_map spelled_ids (take l.group-index l.groups);
  fit : AllWithin FitsIds l.groups 0 l.group-index;
}
