use Rattle.std.proofs.Common.{arith}
use Rattle.raft_wire.specs.Bodies.{spelled_snapshot, FitsSnapshot, snapshot_at}
use Rattle.raft_wire.proofs.Bodies.{snapshot_reads}
use Rattle.raft_wire.proofs.Whole.{is_found, is_only}
use Rattle.raft_wire.proofs.snapshots.read_snapshot_body.Goals as goal

pub returns-clause-found : goal.returns-clause-found
returns-clause-found c = is_found snapshot_at spelled_snapshot FitsSnapshot snapshot_reads c.args.bytes.now c.whole_snapshot.result (λ i. omega (arith, c.type_inv.bytes i)) c.whole_snapshot.ensures

pub returns-clause-only : goal.returns-clause-only
returns-clause-only c = λ s fits is. is_only snapshot_at spelled_snapshot FitsSnapshot snapshot_reads c.args.bytes.now c.whole_snapshot.result s c.whole_snapshot.ensures fits is
