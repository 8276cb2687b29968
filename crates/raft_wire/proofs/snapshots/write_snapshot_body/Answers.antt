use Rattle.std.proofs.Common.{◌≡◌, Ok, List, ℕ, sym, subst}
use Rattle.raft_wire.specs.Reader.{all_of}
use Rattle.raft_wire.specs.Bodies.{snapshot_with, spelled_snapshot, FitsSnapshot, snapshot_at}
use Rattle.raft_wire.proofs.Bodies.{snapshot_reads}
use Rattle.raft_wire.proofs.Whole.{whole_again}
use Rattle.raft_wire.proofs.snapshots.write_snapshot_body.Goals as goal

pub returns-clause-found : goal.returns-clause-found
returns-clause-found c =
    let s = snapshot_with c.args.meta.now c.args.bytes.now in
    let written : c.in_ok-snapshot_bytes.field-0.items ≡ spelled_snapshot s = c.in_ok-snapshot_bytes.ensures.items in
    let again = whole_again snapshot_at spelled_snapshot FitsSnapshot snapshot_reads s c.in_ok-snapshot_bytes.ensures.fits in
    subst (λ (text : List ℕ). all_of snapshot_at text ≡ Ok s) (sym written) again
