use Rattle.std.proofs.Common.{◌≡◌, ◌++◌, length, take}
use Rattle.std.specs.List.{flat_map, AllWithin}
use Rattle.std.specs.Int.{w32, to_be_bytes}
use Rattle.raft_wire.specs.Memberships.{spelled_node}
use Rattle.raft_wire.proofs.InOrder.{IsNodeShort}
use Rattle.raft_wire.proofs.memberships.put_nodes.Given as goal

abbrev pub invariant-loop-id : goal.invariant-loop-id
invariant-loop-id l = record {
  written : l.out.items ≡ l.fn.out.items ++ to_be_bytes w32 (length l.nodes) ++ flat_map spelled_node (take l.id-index l.nodes);
  fit : AllWithin IsNodeShort l.nodes 0 l.id-index;
}
