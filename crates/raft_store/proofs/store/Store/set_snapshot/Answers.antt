use Rattle.std.proofs.Common.{[], ◌∷◌}
use Rattle.raft_group_step.specs.StoredGroup.{StoredGroup, SetSnapshot, after_storing}
use Rattle.raft_store.specs.Batches.{ShowsIn, snapshot_changes}
use Rattle.raft_store.proofs.Carrying.{carries_snapshot}
use Rattle.raft_store.proofs.Storing.{on_err_all, on_err_any, on_ok_all, shows_either}
use Rattle.raft_store.proofs.store.Store.set_snapshot.Goals as goal

pub returns-clause-ok : goal.returns-clause-ok
returns-clause-ok g c = λ rules y sound stands.
    on_ok_all (λ (s : StoredGroup). ShowsIn rules (g.L.ContentLog.is_sound c.args.self.now.log) (g.L.ContentLog.answers c.args.self.now.log) (g.L.ContentLog.leaves c.args.self.now.log) c.args.self.now.recent c.args.group (s ∷ [])) (λ (s : StoredGroup). ShowsIn rules (g.L.ContentLog.is_sound c.store.new.self.log) (g.L.ContentLog.answers c.store.new.self.log) (g.L.ContentLog.leaves c.store.new.self.log) c.store.new.self.recent c.args.group ((after_storing (SetSnapshot y) s) ∷ [])) c.store.result
    (λ s shown. c.store.ensures.ok rules c.args.group (snapshot_changes c.args.snapshot.now) s (after_storing (SetSnapshot y) s) c.in_ok-batch.ensures.items (carries_snapshot rules s c.args.snapshot.now y c.in_ok-batch.ensures.fits stands) sound shown)

pub returns-clause-err : goal.returns-clause-err
returns-clause-err g c = λ rules y sound stands.
    on_err_all (λ (s : StoredGroup). ShowsIn rules (g.L.ContentLog.is_sound c.args.self.now.log) (g.L.ContentLog.answers c.args.self.now.log) (g.L.ContentLog.leaves c.args.self.now.log) c.args.self.now.recent c.args.group (s ∷ [])) (λ (s : StoredGroup). ShowsIn rules (g.L.ContentLog.is_sound c.store.new.self.log) (g.L.ContentLog.answers c.store.new.self.log) (g.L.ContentLog.leaves c.store.new.self.log) c.store.new.self.recent c.args.group (s ∷ (after_storing (SetSnapshot y) s) ∷ [])) c.store.result
    (λ s shown. c.store.ensures.err rules c.args.group (snapshot_changes c.args.snapshot.now) s (after_storing (SetSnapshot y) s) c.in_ok-batch.ensures.items (carries_snapshot rules s c.args.snapshot.now y c.in_ok-batch.ensures.fits stands) sound shown)

pub returns-clause-others : goal.returns-clause-others
returns-clause-others g c = λ rules. c.store.ensures.others rules c.args.group (snapshot_changes c.args.snapshot.now) c.in_ok-batch.ensures.items

pub returns-in_err-batch-clause-err : goal.returns-in_err-batch-clause-err
returns-in_err-batch-clause-err g c = λ rules y sound stands.
    on_err_any ((s : StoredGroup) → ShowsIn rules (g.L.ContentLog.is_sound c.args.self.now.log) (g.L.ContentLog.answers c.args.self.now.log) (g.L.ContentLog.leaves c.args.self.now.log) c.args.self.now.recent c.args.group (s ∷ []) → ShowsIn rules (g.L.ContentLog.is_sound c.args.self.now.log) (g.L.ContentLog.answers c.args.self.now.log) (g.L.ContentLog.leaves c.args.self.now.log) c.args.self.now.recent c.args.group (s ∷ (after_storing (SetSnapshot y) s) ∷ [])) c.from_residual.result
    (λ s shown. shows_either rules (g.L.ContentLog.is_sound c.args.self.now.log) (g.L.ContentLog.answers c.args.self.now.log) (g.L.ContentLog.leaves c.args.self.now.log) c.args.self.now.recent c.args.group s (after_storing (SetSnapshot y) s) shown)

pub returns-in_err-batch-clause-others : goal.returns-in_err-batch-clause-others
returns-in_err-batch-clause-others g c = λ rules other parts ne shown. shown

pub returns-clause-fits : goal.returns-clause-fits
returns-clause-fits g c = λ rules s y sound stands shown.
    c.store.ensures.fits rules c.args.group (snapshot_changes c.args.snapshot.now) s (after_storing (SetSnapshot y) s) c.in_ok-batch.ensures.items (carries_snapshot rules s c.args.snapshot.now y c.in_ok-batch.ensures.fits stands) sound shown

pub returns-clause-takes : goal.returns-clause-takes
returns-clause-takes g c = λ rules s y sound stands shown is.
    c.store.ensures.takes rules c.args.group (snapshot_changes c.args.snapshot.now) s (after_storing (SetSnapshot y) s) c.in_ok-batch.ensures.items (carries_snapshot rules s c.args.snapshot.now y c.in_ok-batch.ensures.fits stands) sound shown
