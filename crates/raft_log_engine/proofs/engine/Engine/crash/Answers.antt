-- A crash leaves the image that is chosen, and the engine is stopped.
use Rattle.std.specs.Prelude.{IfErr}
use Rattle.std.proofs.Common.{◌≡◌, ap, subst, sym}
use Rattle.std.proofs.lemmas.Result.{err_from_is_err_and}
use Rattle.raft_log_disk.specs.Chance.{IsGenuineImage}
use Rattle.raft_log_disk.specs.Disk.{Disk}
use Rattle.raft_log_disk.specs.Image.{Image, IsImage, after_crash}
use Rattle.raft_log_recovery.specs.Crashed.{IsCrashed}
use Rattle.raft_log_engine.specs.Cached.{HoldsBlocks}
use Rattle.raft_log_engine.specs.Log.{CantBeLeftSo}
use Rattle.raft_log_engine.proofs.Crashes.{crashed_in_tail, refused_so}
use Rattle.raft_log_engine.proofs.engine.Engine.crash.Goals as goal

-- the disk has the names and the bytes of the image
has_image : (d e : Disk) (image : Image) → IsImage d image → IsGenuineImage d image → e ≡ after_crash d image → IsCrashed d image e
has_image d e image is genuine same = record {
  is = is;
  genuine = genuine;
  names = ap (λ (x : Disk). x.names) same;
  bytes = λ n. ap (λ (x : Disk). (x.file n).bytes) same;
}

pub returns-clause-crashed : goal.returns-clause-crashed
returns-clause-crashed g c = rw (← c.self.view_is) (has_image _ _ _ c.in_ok-crash.ensures.image.1 c.in_ok-crash.ensures.genuine c.in_ok-crash.ensures.crashed)

pub returns-clause-chosen : goal.returns-clause-chosen
returns-clause-chosen g c =
    let e = c.in_ok-crash.ensures in
    rw (← c.self.view_is) (record { image = e.image; genuine = e.genuine; left = e.crashed; fuse = e.meter })

pub returns-clause-in_tail : goal.returns-clause-in_tail
returns-clause-in_tail g c = rw (← c.self.view_is) (λ directories.
    crashed_in_tail directories _ _ c.self.inside.pipes _ (has_image _ _ _ c.in_ok-crash.ensures.image.1 c.in_ok-crash.ensures.genuine c.in_ok-crash.ensures.crashed) c.in_ok-crash.ensures.crashed)

pub returns-in_err-crash-clause-why : goal.returns-in_err-crash-clause-why
returns-in_err-crash-clause-why g c =
    let choice = c.args.choice.now in
    let d = g.F.FileSystem.disk c.self.inside.files in
    let p = err_from_is_err_and c.from_residual.result c.from_residual.ensures.1 in
    let m = c.crash.ensures in
    let why = refused_so choice d c.crash.result m.not_an_image m.is_an_image m.by_chance in
    rw (← c.self.view_is) (rw (p.1, p.2) (subst (λ r. IfErr r (λ w. CantBeLeftSo choice w d)) c.in_err-crash.was why))

pub invariant_of-self : goal.invariant_of-self
invariant_of-self g c =
    λ goes_on. subst (λ f. HoldsBlocks (g.F.FileSystem.disk f) c.self.inside.pipes c.self.inside.traced c.self.inside.wrote_unsynced c.self.inside.blocks) (sym c.in_err-crash.ensures.err) (c.self.invariant goes_on)
