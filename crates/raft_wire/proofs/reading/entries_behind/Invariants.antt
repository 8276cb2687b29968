use Rattle.std.proofs.Common.{◌≡◌, ◌-◌, None}
use Rattle.raft_wire.specs.Reader.{many_at}
use Rattle.raft_wire.specs.Entries.{entry_behind, that_place}
use Rattle.raft_wire.proofs.Lists.{with_front}
use Rattle.raft_wire.proofs.reading.entries_behind.Given as goal

abbrev pub invariant-loop : goal.invariant-loop
invariant-loop l =
    with_front l.entries (many_at entry_behind that_place (l.count - l.counter) l.last l.rest) ≡ many_at entry_behind that_place l.count None l.bytes
