use Rattle.std.proofs.Common.{◌≡◌, ◌-◌, None}
use Rattle.raft_wire.specs.Reader.{many_at}
use Rattle.raft_wire.specs.Memberships.{node_above, that_node}
use Rattle.raft_wire.proofs.Lists.{with_front}
use Rattle.raft_wire.proofs.memberships.nodes_behind.Given as goal

abbrev pub invariant-loop : goal.invariant-loop
invariant-loop l =
    with_front l.nodes.items (many_at node_above that_node (l.count - l.counter) l.last l.rest) ≡ many_at node_above that_node l.count None l.bytes
