use Rattle.std.proofs.Common.{◌≡◌, ◌-◌, None}
use Rattle.raft_wire.specs.Reader.{many_at}
use Rattle.raft_wire.specs.Memberships.{id_above, that_id}
use Rattle.raft_wire.proofs.Lists.{with_front}
use Rattle.raft_wire.proofs.memberships.ids_behind.Given as goal

abbrev pub invariant-loop : goal.invariant-loop
invariant-loop l =
    with_front l.ids.items (many_at id_above that_id (l.count - l.counter) l.last l.rest) ≡ many_at id_above that_id l.count None l.bytes
