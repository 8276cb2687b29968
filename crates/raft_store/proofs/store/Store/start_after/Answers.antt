use Rattle.std.proofs.Common.{◌≤◌, ◌+◌, ℕ, [], ◌∷◌, subst}
use Rattle.raft_group_step.specs.StoredGroup.{StoredGroup, StartAfter, after_storing}
use Rattle.raft_store.specs.Batches.{ShowsIn, end_changes, purge_changes}
use Rattle.raft_store.proofs.Carrying.{carries_start}
use Rattle.raft_store.proofs.Storing.{on_err_all, on_err_any, on_ok_all, shows_either}
use Rattle.raft_store.proofs.store.Store.start_after.Goals as goal

pub returns-clause-ok : goal.returns-clause-ok
returns-clause-ok g c = λ rules sound.
    on_ok_all (λ (s : StoredGroup). ShowsIn rules (g.L.ContentLog.is_sound c.args.self.now.log) (g.L.ContentLog.answers c.args.self.now.log) (g.L.ContentLog.leaves c.args.self.now.log) c.args.self.now.recent c.args.group (s ∷ [])) (λ (s : StoredGroup). ShowsIn rules (g.L.ContentLog.is_sound c.store.new.self.log) (g.L.ContentLog.answers c.store.new.self.log) (g.L.ContentLog.leaves c.store.new.self.log) c.store.new.self.recent c.args.group ((after_storing (StartAfter c.args.id) s) ∷ [])) c.store.result
    (λ s shown.
    let first = c.in_ok-bounds.ensures.first rules s sound shown in
    let end = c.in_ok-bounds.ensures.end rules s sound shown in
    c.store.ensures.ok rules c.args.group (purge_changes c.args.id (end_changes (c.args.id.index + 1))) s (after_storing (StartAfter c.args.id) s) c.in_ok-batch.ensures.items (carries_start rules s c.args.id c.in_ok-batch.ensures.fits (subst (λ (n : ℕ). n ≤ c.args.id.index + 1) first c.in_ok-check_purge.ensures.low) c.in_ok-batch.ensures.places) (c.in_ok-bounds.ensures.well sound) (c.in_ok-bounds.ensures.kept rules c.args.group (s ∷ []) shown))

pub returns-clause-err : goal.returns-clause-err
returns-clause-err g c = λ rules sound.
    on_err_all (λ (s : StoredGroup). ShowsIn rules (g.L.ContentLog.is_sound c.args.self.now.log) (g.L.ContentLog.answers c.args.self.now.log) (g.L.ContentLog.leaves c.args.self.now.log) c.args.self.now.recent c.args.group (s ∷ [])) (λ (s : StoredGroup). ShowsIn rules (g.L.ContentLog.is_sound c.store.new.self.log) (g.L.ContentLog.answers c.store.new.self.log) (g.L.ContentLog.leaves c.store.new.self.log) c.store.new.self.recent c.args.group (s ∷ (after_storing (StartAfter c.args.id) s) ∷ [])) c.store.result
    (λ s shown.
    let first = c.in_ok-bounds.ensures.first rules s sound shown in
    let end = c.in_ok-bounds.ensures.end rules s sound shown in
    c.store.ensures.err rules c.args.group (purge_changes c.args.id (end_changes (c.args.id.index + 1))) s (after_storing (StartAfter c.args.id) s) c.in_ok-batch.ensures.items (carries_start rules s c.args.id c.in_ok-batch.ensures.fits (subst (λ (n : ℕ). n ≤ c.args.id.index + 1) first c.in_ok-check_purge.ensures.low) c.in_ok-batch.ensures.places) (c.in_ok-bounds.ensures.well sound) (c.in_ok-bounds.ensures.kept rules c.args.group (s ∷ []) shown))

pub returns-clause-others : goal.returns-clause-others
returns-clause-others g c = λ rules other parts ne shown. c.store.ensures.others rules c.args.group (purge_changes c.args.id (end_changes (c.args.id.index + 1))) c.in_ok-batch.ensures.items other parts ne (c.in_ok-bounds.ensures.kept rules other parts shown)

pub returns-in_err-bounds-clause-err : goal.returns-in_err-bounds-clause-err
returns-in_err-bounds-clause-err g c = λ rules sound.
    on_err_any ((s : StoredGroup) → ShowsIn rules (g.L.ContentLog.is_sound c.args.self.now.log) (g.L.ContentLog.answers c.args.self.now.log) (g.L.ContentLog.leaves c.args.self.now.log) c.args.self.now.recent c.args.group (s ∷ []) → ShowsIn rules (g.L.ContentLog.is_sound c.bounds.new.self.log) (g.L.ContentLog.answers c.bounds.new.self.log) (g.L.ContentLog.leaves c.bounds.new.self.log) c.bounds.new.self.recent c.args.group (s ∷ (after_storing (StartAfter c.args.id) s) ∷ [])) c.from_residual.result
    (λ s shown. shows_either rules (g.L.ContentLog.is_sound c.bounds.new.self.log) (g.L.ContentLog.answers c.bounds.new.self.log) (g.L.ContentLog.leaves c.bounds.new.self.log) c.bounds.new.self.recent c.args.group s (after_storing (StartAfter c.args.id) s) (c.in_err-bounds.ensures.kept rules c.args.group (s ∷ []) shown))

pub returns-in_err-bounds-clause-others : goal.returns-in_err-bounds-clause-others
returns-in_err-bounds-clause-others g c = λ rules other parts ne shown. c.in_err-bounds.ensures.kept rules other parts shown

pub returns-in_err-check_purge-clause-err : goal.returns-in_err-check_purge-clause-err
returns-in_err-check_purge-clause-err g c = λ rules sound.
    on_err_any ((s : StoredGroup) → ShowsIn rules (g.L.ContentLog.is_sound c.args.self.now.log) (g.L.ContentLog.answers c.args.self.now.log) (g.L.ContentLog.leaves c.args.self.now.log) c.args.self.now.recent c.args.group (s ∷ []) → ShowsIn rules (g.L.ContentLog.is_sound c.bounds.new.self.log) (g.L.ContentLog.answers c.bounds.new.self.log) (g.L.ContentLog.leaves c.bounds.new.self.log) c.bounds.new.self.recent c.args.group (s ∷ (after_storing (StartAfter c.args.id) s) ∷ [])) c.from_residual-in_err-check_purge.result
    (λ s shown. shows_either rules (g.L.ContentLog.is_sound c.bounds.new.self.log) (g.L.ContentLog.answers c.bounds.new.self.log) (g.L.ContentLog.leaves c.bounds.new.self.log) c.bounds.new.self.recent c.args.group s (after_storing (StartAfter c.args.id) s) (c.in_ok-bounds.ensures.kept rules c.args.group (s ∷ []) shown))

pub returns-in_err-check_purge-clause-others : goal.returns-in_err-check_purge-clause-others
returns-in_err-check_purge-clause-others g c = λ rules other parts ne shown. c.in_ok-bounds.ensures.kept rules other parts shown

pub returns-in_err-batch-clause-err : goal.returns-in_err-batch-clause-err
returns-in_err-batch-clause-err g c = λ rules sound.
    on_err_any ((s : StoredGroup) → ShowsIn rules (g.L.ContentLog.is_sound c.args.self.now.log) (g.L.ContentLog.answers c.args.self.now.log) (g.L.ContentLog.leaves c.args.self.now.log) c.args.self.now.recent c.args.group (s ∷ []) → ShowsIn rules (g.L.ContentLog.is_sound c.bounds.new.self.log) (g.L.ContentLog.answers c.bounds.new.self.log) (g.L.ContentLog.leaves c.bounds.new.self.log) c.bounds.new.self.recent c.args.group (s ∷ (after_storing (StartAfter c.args.id) s) ∷ [])) c.from_residual-in_err-batch.result
    (λ s shown. shows_either rules (g.L.ContentLog.is_sound c.bounds.new.self.log) (g.L.ContentLog.answers c.bounds.new.self.log) (g.L.ContentLog.leaves c.bounds.new.self.log) c.bounds.new.self.recent c.args.group s (after_storing (StartAfter c.args.id) s) (c.in_ok-bounds.ensures.kept rules c.args.group (s ∷ []) shown))

pub returns-in_err-batch-clause-others : goal.returns-in_err-batch-clause-others
returns-in_err-batch-clause-others g c = λ rules other parts ne shown. c.in_ok-bounds.ensures.kept rules other parts shown

pub returns-clause-fits : goal.returns-clause-fits
returns-clause-fits g c = λ rules s sound shown.
    let first = c.in_ok-bounds.ensures.first rules s sound shown in
    let end = c.in_ok-bounds.ensures.end rules s sound shown in
    c.store.ensures.fits rules c.args.group (purge_changes c.args.id (end_changes (c.args.id.index + 1))) s (after_storing (StartAfter c.args.id) s) c.in_ok-batch.ensures.items (carries_start rules s c.args.id c.in_ok-batch.ensures.fits (subst (λ (n : ℕ). n ≤ c.args.id.index + 1) first c.in_ok-check_purge.ensures.low) c.in_ok-batch.ensures.places) (c.in_ok-bounds.ensures.well sound) (c.in_ok-bounds.ensures.kept rules c.args.group (s ∷ []) shown)

pub returns-clause-takes : goal.returns-clause-takes
returns-clause-takes g c = λ rules s sound shown is.
    let first = c.in_ok-bounds.ensures.first rules s sound shown in
    let end = c.in_ok-bounds.ensures.end rules s sound shown in
    c.store.ensures.takes rules c.args.group (purge_changes c.args.id (end_changes (c.args.id.index + 1))) s (after_storing (StartAfter c.args.id) s) c.in_ok-batch.ensures.items (carries_start rules s c.args.id c.in_ok-batch.ensures.fits (subst (λ (n : ℕ). n ≤ c.args.id.index + 1) first c.in_ok-check_purge.ensures.low) c.in_ok-batch.ensures.places) (c.in_ok-bounds.ensures.well sound) (c.in_ok-bounds.ensures.kept rules c.args.group (s ∷ []) shown)
