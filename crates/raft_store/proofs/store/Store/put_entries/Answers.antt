-- What is put is shown, and remembered as the end of the log.
use Rattle.std.proofs.Common.{◌≤◌, ◌+◌, ℕ, [], ◌∷◌, length, refl, subst, sym, ◌∙◌}
use Rattle.raft_group_step.specs.StoredGroup.{StoredGroup, PutEntries, after_storing, end_place, first_place}
use Rattle.raft_store.specs.Batches.{ShowsIn, entry_changes}
use Rattle.raft_store.specs.Faults.{IsLogOrMemory}
use Rattle.raft_store.specs.declared.fault.StoreFault.TheVariants.{Refused}
use Rattle.raft_store.proofs.Carrying.{carries_entries}
use Rattle.raft_store.proofs.Recalling.{recalls_put}
use Rattle.raft_store.proofs.Records.{err_as, put_for_memory}
use Rattle.raft_store.proofs.Storing.{on_err_any, only_one, refused_so}
use Rattle.raft_store.proofs.store.Store.put_entries.Goals as goal

pub returns-clause-ok : goal.returns-clause-ok
returns-clause-ok g c = λ rules sound s shown.
    let entries = c.args.entries.now in
    let place = c.args.place in
    let low : first_place s ≤ place = subst (λ (n : ℕ). n ≤ place) (c.in_ok-bounds.ensures.first rules s sound shown) c.in_ok-check_place.ensures.low in
    let high : place ≤ end_place s = subst (λ (n : ℕ). place ≤ n) (c.in_ok-bounds.ensures.end rules s sound shown) c.in_ok-check_place.ensures.high in
    let batch = c.in_ok-batch.ensures in
    let after = c.in_ok-store.ensures.ok rules c.args.group (entry_changes place entries (place + length entries)) s (after_storing (PutEntries place entries) s) batch.items
    (carries_entries rules s place low high entries (place + length entries) batch.fits refl batch.places) (c.in_ok-bounds.ensures.well sound) (c.in_ok-bounds.ensures.kept rules c.args.group (s ∷ []) shown) in
    let content = g.L.ContentLog.answers c.store.new.self.log c.args.group in
    record {
      answered = after.answered;
      left = after.left;
      recalled = λ is. recalls_put rules content s place entries low high (only_one rules content (after_storing (PutEntries place entries) s) (after.answered is)) c.in_ok-batch.recent c.args.group batch.place batch.bytes;
    }

pub returns-in_err-store-clause-err : goal.returns-in_err-store-clause-err
returns-in_err-store-clause-err g c = λ rules sound.
    let entries = c.args.entries.now in
    let place = c.args.place in
    let batch = c.in_ok-batch.ensures in
    on_err_any ((s : StoredGroup) → ShowsIn rules (g.L.ContentLog.is_sound c.args.self.now.log) (g.L.ContentLog.answers c.args.self.now.log) (g.L.ContentLog.leaves c.args.self.now.log) c.args.self.now.recent c.args.group (s ∷ []) → ShowsIn rules (g.L.ContentLog.is_sound c.store.new.self.log) (g.L.ContentLog.answers c.store.new.self.log) (g.L.ContentLog.leaves c.store.new.self.log) c.store.new.self.recent c.args.group (s ∷ (after_storing (PutEntries c.args.place c.args.entries.now) s) ∷ [])) c.from_residual-in_err-store.result
    (λ s shown.
    let low : first_place s ≤ place = subst (λ (n : ℕ). n ≤ place) (c.in_ok-bounds.ensures.first rules s sound shown) c.in_ok-check_place.ensures.low in
    let high : place ≤ end_place s = subst (λ (n : ℕ). place ≤ n) (c.in_ok-bounds.ensures.end rules s sound shown) c.in_ok-check_place.ensures.high in
    c.in_err-store.ensures.err rules c.args.group (entry_changes place entries (place + length entries)) s (after_storing (PutEntries place entries) s) batch.items
    (carries_entries rules s place low high entries (place + length entries) batch.fits refl batch.places) (c.in_ok-bounds.ensures.well sound) (c.in_ok-bounds.ensures.kept rules c.args.group (s ∷ []) shown))

pub returns-clause-others : goal.returns-clause-others
returns-clause-others g c = λ rules other parts ne shown.
    let entries = c.args.entries.now in
    let place = c.args.place in
    let after = c.in_ok-store.ensures.others rules c.args.group (entry_changes place entries (place + length entries)) c.in_ok-batch.ensures.items other parts ne (c.in_ok-bounds.ensures.kept rules other parts shown) in
    record {
      answered = after.answered;
      left = after.left;
      recalled = λ is same. absurd (ne (sym same ∙ c.in_ok-batch.ensures.group));
    }

pub returns-in_err-store-clause-fits : goal.returns-in_err-store-clause-fits
returns-in_err-store-clause-fits g c = λ rules s sound shown.
    let entries = c.args.entries.now in
    let place = c.args.place in
    let batch = c.in_ok-batch.ensures in
    let low : first_place s ≤ place = subst (λ (n : ℕ). n ≤ place) (c.in_ok-bounds.ensures.first rules s sound shown) c.in_ok-check_place.ensures.low in
    let high : place ≤ end_place s = subst (λ (n : ℕ). place ≤ n) (c.in_ok-bounds.ensures.end rules s sound shown) c.in_ok-check_place.ensures.high in
    refused_so g.L.ContentLog.is_misuse c.from_residual-in_err-store.result c.in_err-store.field-0.0 c.from_residual-in_err-store.ensures.1
    (c.in_err-store.ensures.fits rules c.args.group (entry_changes place entries (place + length entries)) s (after_storing (PutEntries place entries) s) batch.items
    (carries_entries rules s place low high entries (place + length entries) batch.fits refl batch.places) (c.in_ok-bounds.ensures.well sound) (c.in_ok-bounds.ensures.kept rules c.args.group (s ∷ []) shown))

pub returns-in_err-store-clause-takes : goal.returns-in_err-store-clause-takes
returns-in_err-store-clause-takes g c = λ rules s sound shown is.
    let entries = c.args.entries.now in
    let place = c.args.place in
    let batch = c.in_ok-batch.ensures in
    let low : first_place s ≤ place = subst (λ (n : ℕ). n ≤ place) (c.in_ok-bounds.ensures.first rules s sound shown) c.in_ok-check_place.ensures.low in
    let high : place ≤ end_place s = subst (λ (n : ℕ). place ≤ n) (c.in_ok-bounds.ensures.end rules s sound shown) c.in_ok-check_place.ensures.high in
    err_as (IsLogOrMemory g.L.ContentLog.is_misuse) c.from_residual-in_err-store.result c.in_err-store.field-0.0 c.from_residual-in_err-store.ensures.1
    (c.in_err-store.ensures.takes rules c.args.group (entry_changes place entries (place + length entries)) s (after_storing (PutEntries place entries) s) batch.items
    (carries_entries rules s place low high entries (place + length entries) batch.fits refl batch.places) (c.in_ok-bounds.ensures.well sound) (c.in_ok-bounds.ensures.kept rules c.args.group (s ∷ []) shown))

pub returns-in_err-batch-clause-takes : goal.returns-in_err-batch-clause-takes
returns-in_err-batch-clause-takes g c = λ rules s sound shown is.
    err_as (IsLogOrMemory g.L.ContentLog.is_misuse) c.from_residual-in_err-batch.result (Refused c.in_err-batch.field-0.0) c.from_residual-in_err-batch.ensures.1
    (put_for_memory c.args.group c.args.place c.args.entries.now c.in_err-batch.field-0.0 is.places is.count is.entries c.in_err-batch.ensures.refused)
