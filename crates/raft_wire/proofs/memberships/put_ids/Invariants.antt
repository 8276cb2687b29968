use Rattle.std.proofs.Common.{◌≡◌, ◌++◌, length, take}
use Rattle.std.specs.List.{flat_map}
use Rattle.std.specs.Int.{w32, to_be_bytes}
use Rattle.raft_wire.specs.Memberships.{spelled_id}
use Rattle.raft_wire.proofs.memberships.put_ids.Given as goal

abbrev pub invariant-loop-id : goal.invariant-loop-id
invariant-loop-id l = l.out.items ≡ l.fn.out.items ++ to_be_bytes w32 (length l.ids) ++ flat_map spelled_id (take l.id-index l.ids)
