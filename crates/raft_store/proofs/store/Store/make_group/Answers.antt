use Rattle.std.proofs.Common.{[], ◌∷◌}
use Rattle.raft_group_step.specs.StoredGroup.{StoredGroup, MakeGroup, after_storing}
use Rattle.raft_store.specs.Batches.{ShowsIn, make_changes}
use Rattle.raft_store.proofs.Carrying.{carries_make}
use Rattle.raft_store.proofs.Storing.{on_err_all, on_err_any, on_ok_all, shows_either}
use Rattle.raft_store.proofs.store.Store.make_group.Goals as goal

pub returns-clause-ok : goal.returns-clause-ok
returns-clause-ok g c = λ rules sound.
    on_ok_all (λ (s : StoredGroup). ShowsIn rules (g.L.ContentLog.is_sound c.args.self.now.log) (g.L.ContentLog.answers c.args.self.now.log) (g.L.ContentLog.leaves c.args.self.now.log) c.args.self.now.recent c.args.group (s ∷ [])) (λ (s : StoredGroup). ShowsIn rules (g.L.ContentLog.is_sound c.store.new.self.log) (g.L.ContentLog.answers c.store.new.self.log) (g.L.ContentLog.leaves c.store.new.self.log) c.store.new.self.recent c.args.group ((after_storing MakeGroup s) ∷ [])) c.store.result
    (λ s shown. c.store.ensures.ok rules c.args.group make_changes s (after_storing MakeGroup s) c.in_ok-batch.ensures.items (carries_make rules s) sound shown)

pub returns-clause-err : goal.returns-clause-err
returns-clause-err g c = λ rules sound.
    on_err_all (λ (s : StoredGroup). ShowsIn rules (g.L.ContentLog.is_sound c.args.self.now.log) (g.L.ContentLog.answers c.args.self.now.log) (g.L.ContentLog.leaves c.args.self.now.log) c.args.self.now.recent c.args.group (s ∷ [])) (λ (s : StoredGroup). ShowsIn rules (g.L.ContentLog.is_sound c.store.new.self.log) (g.L.ContentLog.answers c.store.new.self.log) (g.L.ContentLog.leaves c.store.new.self.log) c.store.new.self.recent c.args.group (s ∷ (after_storing MakeGroup s) ∷ [])) c.store.result
    (λ s shown. c.store.ensures.err rules c.args.group make_changes s (after_storing MakeGroup s) c.in_ok-batch.ensures.items (carries_make rules s) sound shown)

pub returns-clause-others : goal.returns-clause-others
returns-clause-others g c = λ rules. c.store.ensures.others rules c.args.group make_changes c.in_ok-batch.ensures.items

pub returns-in_err-batch-clause-err : goal.returns-in_err-batch-clause-err
returns-in_err-batch-clause-err g c = λ rules sound.
    on_err_any ((s : StoredGroup) → ShowsIn rules (g.L.ContentLog.is_sound c.args.self.now.log) (g.L.ContentLog.answers c.args.self.now.log) (g.L.ContentLog.leaves c.args.self.now.log) c.args.self.now.recent c.args.group (s ∷ []) → ShowsIn rules (g.L.ContentLog.is_sound c.args.self.now.log) (g.L.ContentLog.answers c.args.self.now.log) (g.L.ContentLog.leaves c.args.self.now.log) c.args.self.now.recent c.args.group (s ∷ (after_storing MakeGroup s) ∷ [])) c.from_residual.result
    (λ s shown. shows_either rules (g.L.ContentLog.is_sound c.args.self.now.log) (g.L.ContentLog.answers c.args.self.now.log) (g.L.ContentLog.leaves c.args.self.now.log) c.args.self.now.recent c.args.group s (after_storing MakeGroup s) shown)

pub returns-in_err-batch-clause-others : goal.returns-in_err-batch-clause-others
returns-in_err-batch-clause-others g c = λ rules other parts ne shown. shown

pub returns-clause-fits : goal.returns-clause-fits
returns-clause-fits g c = λ rules s sound shown.
    c.store.ensures.fits rules c.args.group make_changes s (after_storing MakeGroup s) c.in_ok-batch.ensures.items (carries_make rules s) sound shown

pub returns-clause-takes : goal.returns-clause-takes
returns-clause-takes g c = λ rules s sound shown is.
    c.store.ensures.takes rules c.args.group make_changes s (after_storing MakeGroup s) c.in_ok-batch.ensures.items (carries_make rules s) sound shown
