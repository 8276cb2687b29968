use Rattle.std.proofs.Common.{arith}
use Rattle.raft_wire.specs.Entries.{spelled_entry, FitsEntry, entry_at}
use Rattle.raft_wire.proofs.Values.{entry_alone_reads}
use Rattle.raft_wire.proofs.Whole.{is_found, is_only}
use Rattle.raft_wire.proofs.entries.read_entry.Goals as goal

pub returns-clause-found : goal.returns-clause-found
returns-clause-found c = is_found entry_at spelled_entry FitsEntry entry_alone_reads c.args.bytes.now c.whole_entry.result (λ i. omega (arith, c.type_inv.bytes i)) c.whole_entry.ensures

pub returns-clause-only : goal.returns-clause-only
returns-clause-only c = λ e fits is. is_only entry_at spelled_entry FitsEntry entry_alone_reads c.args.bytes.now c.whole_entry.result e c.whole_entry.ensures fits is
