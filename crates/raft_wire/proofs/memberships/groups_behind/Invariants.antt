use Rattle.std.proofs.Common.{◌≡◌, ◌-◌, None}
use Rattle.raft_wire.specs.Reader.{many_at}
use Rattle.raft_wire.specs.Memberships.{ids_at, nothing_left}
use Rattle.raft_wire.proofs.Lists.{with_front}
use Rattle.raft_wire.proofs.memberships.groups_behind.Given as goal

abbrev pub invariant-loop : goal.invariant-loop
invariant-loop l =
    with_front l.groups.items (many_at (λ _. ids_at) nothing_left (l.count - l.counter) None l.rest) ≡ many_at (λ _. ids_at) nothing_left l.count None l.bytes
