use Rattle.std.proofs.Common.{◌≡◌, List, ℕ, sym, subst}
use Rattle.raft_wire.specs.Frames.{spelled_frame}
use Rattle.raft_wire.specs.Stream.{AreFoundAs}
use Rattle.raft_wire.proofs.StreamProofs.{spelled_is_found}
use Rattle.raft_wire.proofs.writing.write_frame.Goals as goal

pub returns-clause-found : goal.returns-clause-found
returns-clause-found c =
    let f = c.args.frame.now in
    let written : c.in_ok-frame_bytes.field-0.items ≡ spelled_frame f = c.in_ok-frame_bytes.ensures.items in
    subst (λ (bytes : List ℕ). AreFoundAs bytes f) (sym written) (λ more. spelled_is_found f more c.in_ok-frame_bytes.ensures.fits)
