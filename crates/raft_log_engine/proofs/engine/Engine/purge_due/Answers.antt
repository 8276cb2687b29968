-- A cleaning, or none where nothing is due.
use Rattle.std.proofs.Common.{◌≡◌, Err, ⊎_elim, true, ap, refl, subst, sym, ◌∙◌}
use Rattle.std.specs.List.Sorted.{IsStrictlySortedBy}
use Rattle.std.specs.Ordering.{nat_cmp}
use Rattle.raft_log_cleaner.proofs.Calls.{barrier_same}
use Rattle.raft_log_disk.proofs.RefusalLemmas.{no_more_same}
use Rattle.raft_log_engine.specs.declared.fault.EngineFault.{EngineFault}
use Rattle.raft_log_engine.specs.contracts.fault.EngineFault.{the_type}
use denote.Enum.Declared.{tag_of}
use Rattle.raft_log_engine.proofs.Caused.{unmarked_cause}
use Rattle.raft_log_engine.specs.Barred.{IsBarred}
use Rattle.raft_log_cleaning.specs.declared.cleaning.Extent.TheVariants.{Expired}
use Rattle.raft_log_engine.proofs.Clauses.{kept_by, parts}
use Rattle.raft_log_engine.proofs.Cleaned.{told_places}
use Rattle.raft_log_engine.proofs.Reopened.{kept_opens}
use Rattle.raft_log_engine.proofs.Tails.{held_in_tail}
use Rattle.raft_log_engine.proofs.engine.Engine.purge_due.Goals as goal

pub due_of-requires : goal.due_of-requires
due_of-requires g c =
    told_places (g.F.FileSystem.disk c.self.inside.files) c.self.inside.pipes c.self.inside.traced c.self.inside.wrote_unsynced c.self.inside.blocks (c.self.invariant c.if-self.false)

pub returns-in_default-clause-opens_still : goal.returns-in_default-clause-opens_still
returns-in_default-clause-opens_still g c =
    let met = g.met.F.FileSystem g.world.𝓛 g.world.𝓜 g.world.𝓡 ((λ s x. x), (λ x. x), (λ x. x), λ x. x) in
    let d = g.F.FileSystem.disk c.self.inside.files in
    let p = c.self.inside.pipes in
    rw (← c.self.view_is) (λ sound alone.
    let kept = kept_by (g.F.FileSystem.disk) (parts c.self.inside.files c.self.inside.pipes c.self.inside.traced.tables c.self.inside.is_stopped c.self.inside.wrote_unsynced c.self.inside.blocks.reads c.self.inside.traced c.self.inside.manager.purge_threshold) (c.self.invariant c.if-self.false).batches sound.synced in
    kept_opens d p c.self.inside.traced.tables kept.0 kept.1 (met.is_named c.self.inside.files) alone kept.2)

pub returns-in_default-clause-opens_in_tail : goal.returns-in_default-clause-opens_in_tail
returns-in_default-clause-opens_in_tail g c =
    let met = g.met.F.FileSystem g.world.𝓛 g.world.𝓜 g.world.𝓡 ((λ s x. x), (λ x. x), (λ x. x), λ x. x) in
    let held = (c.self.invariant c.if-self.false).batches in
    rw (← c.self.view_is) (λ going alone. held_in_tail (g.F.FileSystem.disk c.self.inside.files) c.self.inside.pipes held.rewrites held.synced held.unsynced (met.is_named c.self.inside.files) alone held.held.rewrite held.held.append)

pub returns-in_default-due-clause-opens_still : goal.returns-in_default-due-clause-opens_still
returns-in_default-due-clause-opens_still g c =
    let met = g.met.F.FileSystem g.world.𝓛 g.world.𝓜 g.world.𝓡 ((λ s x. x), (λ x. x), (λ x. x), λ x. x) in
    let d = g.F.FileSystem.disk c.self.inside.files in
    let p = c.self.inside.pipes in
    rw (← c.self.view_is) (λ sound alone.
    let kept = kept_by (g.F.FileSystem.disk) (parts c.self.inside.files c.self.inside.pipes c.self.inside.traced.tables c.self.inside.is_stopped c.self.inside.wrote_unsynced c.self.inside.blocks.reads c.self.inside.traced c.self.inside.manager.purge_threshold) (c.self.invariant c.if-self.false).batches sound.synced in
    kept_opens d p c.self.inside.traced.tables kept.0 kept.1 (met.is_named c.self.inside.files) alone kept.2)

pub returns-in_default-due-clause-opens_in_tail : goal.returns-in_default-due-clause-opens_in_tail
returns-in_default-due-clause-opens_in_tail g c =
    let met = g.met.F.FileSystem g.world.𝓛 g.world.𝓜 g.world.𝓡 ((λ s x. x), (λ x. x), (λ x. x), λ x. x) in
    let held = (c.self.invariant c.if-self.false).batches in
    rw (← c.self.view_is) (λ going alone. held_in_tail (g.F.FileSystem.disk c.self.inside.files) c.self.inside.pipes held.rewrites held.synced held.unsynced (met.is_named c.self.inside.files) alone held.held.rewrite held.held.append)

pub returns-in_default-due-clause-rising : goal.returns-in_default-due-clause-rising
unfolding IsStrictlySortedBy
returns-in_default-due-clause-rising g c = subst (IsStrictlySortedBy nat_cmp) (sym c.new-none.ensures.items) tt

pub returns-in-Err-Marked-clause-rising : goal.returns-in-Err-Marked-clause-rising
unfolding IsStrictlySortedBy
returns-in-Err-Marked-clause-rising g c = subst (IsStrictlySortedBy nat_cmp) (sym c.new-none.ensures.items) tt

pub returns-in-Err-Marked-clause-alone : goal.returns-in-Err-Marked-clause-alone
returns-in-Err-Marked-clause-alone g c =
    let same = c.clean_by.ensures.marked (c.in-Err-Marked.is ∙ ap (λ (fault : EngineFault). Err fault) c.in-Err-Marked.field-0-is) in
    λ alone. rw same alone

pub returns-in-Err-Marked-clause-barrier : goal.returns-in-Err-Marked-clause-barrier
returns-in-Err-Marked-clause-barrier g c =
    let same = c.clean_by.ensures.marked (c.in-Err-Marked.is ∙ ap (λ (fault : EngineFault). Err fault) c.in-Err-Marked.field-0-is) in
    rw same (barrier_same c.args.barrier c.args.self.now.pipes c.args.self.now.pipes refl)

pub returns-in-Err-Marked-clause-held : goal.returns-in-Err-Marked-clause-held
returns-in-Err-Marked-clause-held g c =
    let same = c.clean_by.ensures.marked (c.in-Err-Marked.is ∙ ap (λ (fault : EngineFault). Err fault) c.in-Err-Marked.field-0-is) in
    λ held. rw same refl

pub returns-in-Ok-clean_by-clause-held : goal.returns-in-Ok-clean_by-clause-held
returns-in-Ok-clean_by-clause-held g c = λ held. c.in-Ok-clean_by.ensures.held (c.free_of-free.ensures.held held)

pub returns-in-Ok-clean_by-clause-expired : goal.returns-in-Ok-clean_by-clause-expired
returns-in-Ok-clean_by-clause-expired g c = λ unmarked large. c.in-Ok-clean_by.ensures.expired c.free_of-free.result refl large

pub returns-in-Err-clause-expired : goal.returns-in-Err-clause-expired
returns-in-Err-clause-expired g c = λ unmarked large. tt

-- the fault is another one than that of the arm before
pub returns-in-Err-clause-stops : goal.returns-in-Err-clause-stops
returns-in-Err-clause-stops g c = ⊎_elim (λ same. absurd (c.in-Err.in-Err-own'.refused-1.1 (ap (tag_of the_type) same))) (λ stopped. stopped) c.in-Err.ensures.stops

-- ---- why it was refused

pub returns-in-Err-clause-cause : goal.returns-in-Err-clause-cause
returns-in-Err-clause-cause g c =
    unmarked_cause (c.args.self.now.is_stopped ≡ true) (IsBarred (Expired c.free_of-free.result) c.args.self.now) (g.F.FileSystem.meter c.args.self.now.files) (g.F.FileSystem.meter c.clean_by.new.self.files) c.in-Err.fault
    (λ same. absurd (c.in-Err.in-Err-own'.refused-1.1 (ap (tag_of the_type) same))) c.in-Err.ensures.cause

pub returns-in-Err-Marked-clause-cause : goal.returns-in-Err-Marked-clause-cause
returns-in-Err-Marked-clause-cause g c = tt

pub returns-in-Ok-clean_by-clause-cause : goal.returns-in-Ok-clean_by-clause-cause
returns-in-Ok-clean_by-clause-cause g c = tt

-- ---- as the cleaning left it

pub returns-in-Ok-clean_by-clause-rising : goal.returns-in-Ok-clean_by-clause-rising
returns-in-Ok-clean_by-clause-rising g c = c.in-Ok-clean_by.ensures.rising

pub returns-in-Ok-clean_by-clause-there : goal.returns-in-Ok-clean_by-clause-there
returns-in-Ok-clean_by-clause-there g c = c.in-Ok-clean_by.ensures.there

pub returns-in-Ok-clean_by-clause-answers : goal.returns-in-Ok-clean_by-clause-answers
returns-in-Ok-clean_by-clause-answers g c = c.in-Ok-clean_by.ensures.answers

pub returns-in-Ok-clean_by-clause-paths : goal.returns-in-Ok-clean_by-clause-paths
returns-in-Ok-clean_by-clause-paths g c = c.in-Ok-clean_by.ensures.paths

pub returns-in-Ok-clean_by-clause-set : goal.returns-in-Ok-clean_by-clause-set
returns-in-Ok-clean_by-clause-set g c = c.in-Ok-clean_by.ensures.set

pub returns-in-Ok-clean_by-clause-alone : goal.returns-in-Ok-clean_by-clause-alone
returns-in-Ok-clean_by-clause-alone g c = c.in-Ok-clean_by.ensures.alone

pub returns-in-Ok-clean_by-clause-opens_still : goal.returns-in-Ok-clean_by-clause-opens_still
returns-in-Ok-clean_by-clause-opens_still g c = c.in-Ok-clean_by.ensures.opens_still

pub returns-in-Ok-clean_by-clause-opens_in_tail : goal.returns-in-Ok-clean_by-clause-opens_in_tail
returns-in-Ok-clean_by-clause-opens_in_tail g c = c.in-Ok-clean_by.ensures.opens_in_tail

pub returns-in-Ok-clean_by-clause-barrier : goal.returns-in-Ok-clean_by-clause-barrier
returns-in-Ok-clean_by-clause-barrier g c = c.in-Ok-clean_by.ensures.barrier

pub returns-in-Ok-clean_by-clause-threshold : goal.returns-in-Ok-clean_by-clause-threshold
returns-in-Ok-clean_by-clause-threshold g c = c.in-Ok-clean_by.ensures.threshold

pub returns-in-Ok-clean_by-clause-reads : goal.returns-in-Ok-clean_by-clause-reads
returns-in-Ok-clean_by-clause-reads g c = c.in-Ok-clean_by.ensures.reads

pub returns-in-Ok-clean_by-clause-later : goal.returns-in-Ok-clean_by-clause-later
returns-in-Ok-clean_by-clause-later g c = c.in-Ok-clean_by.ensures.later

pub returns-in-Ok-clean_by-clause-sound : goal.returns-in-Ok-clean_by-clause-sound
returns-in-Ok-clean_by-clause-sound g c = λ sound. c.in-Ok-clean_by.ensures.sound

pub returns-in-Ok-clean_by-clause-stops : goal.returns-in-Ok-clean_by-clause-stops
returns-in-Ok-clean_by-clause-stops g c = tt

-- ---- as a refused cleaning left it

pub returns-in-Err-clause-paths : goal.returns-in-Err-clause-paths
returns-in-Err-clause-paths g c = c.in-Err.ensures.paths

pub returns-in-Err-clause-set : goal.returns-in-Err-clause-set
returns-in-Err-clause-set g c = c.in-Err.ensures.set

pub returns-in-Err-clause-opens_still : goal.returns-in-Err-clause-opens_still
returns-in-Err-clause-opens_still g c = c.in-Err.ensures.opens_still

pub returns-in-Err-clause-opens_in_tail : goal.returns-in-Err-clause-opens_in_tail
returns-in-Err-clause-opens_in_tail g c = c.in-Err.ensures.opens_in_tail

pub returns-in-Err-clause-threshold : goal.returns-in-Err-clause-threshold
returns-in-Err-clause-threshold g c = c.in-Err.ensures.threshold

pub returns-in-Err-clause-reads : goal.returns-in-Err-clause-reads
returns-in-Err-clause-reads g c = c.in-Err.ensures.reads

pub returns-in-Err-clause-later : goal.returns-in-Err-clause-later
returns-in-Err-clause-later g c = c.in-Err.ensures.later

pub returns-in-Err-clause-rising : goal.returns-in-Err-clause-rising
returns-in-Err-clause-rising g c = tt

pub returns-in-Err-clause-there : goal.returns-in-Err-clause-there
returns-in-Err-clause-there g c = tt

pub returns-in-Err-clause-answers : goal.returns-in-Err-clause-answers
returns-in-Err-clause-answers g c = tt

pub returns-in-Err-clause-barrier : goal.returns-in-Err-clause-barrier
returns-in-Err-clause-barrier g c = tt

pub returns-in-Err-clause-sound : goal.returns-in-Err-clause-sound
returns-in-Err-clause-sound g c = λ sound. tt

pub returns-in-Err-clause-alone : goal.returns-in-Err-clause-alone
returns-in-Err-clause-alone g c = λ alone. tt

pub returns-in-Err-clause-held : goal.returns-in-Err-clause-held
returns-in-Err-clause-held g c = λ held. tt

-- ---- nothing was cleaned

pub returns-in-Err-Marked-clause-paths : goal.returns-in-Err-Marked-clause-paths
returns-in-Err-Marked-clause-paths g c = c.clean_by.ensures.paths

pub returns-in-Err-Marked-clause-set : goal.returns-in-Err-Marked-clause-set
returns-in-Err-Marked-clause-set g c = c.clean_by.ensures.set

pub returns-in-Err-Marked-clause-opens_still : goal.returns-in-Err-Marked-clause-opens_still
returns-in-Err-Marked-clause-opens_still g c = c.clean_by.ensures.opens_still

pub returns-in-Err-Marked-clause-opens_in_tail : goal.returns-in-Err-Marked-clause-opens_in_tail
returns-in-Err-Marked-clause-opens_in_tail g c = c.clean_by.ensures.opens_in_tail

pub returns-in-Err-Marked-clause-threshold : goal.returns-in-Err-Marked-clause-threshold
returns-in-Err-Marked-clause-threshold g c = c.clean_by.ensures.threshold

pub returns-in-Err-Marked-clause-reads : goal.returns-in-Err-Marked-clause-reads
returns-in-Err-Marked-clause-reads g c = c.clean_by.ensures.reads

pub returns-in-Err-Marked-clause-later : goal.returns-in-Err-Marked-clause-later
returns-in-Err-Marked-clause-later g c = c.clean_by.ensures.later

pub returns-in-Err-Marked-clause-stops : goal.returns-in-Err-Marked-clause-stops
returns-in-Err-Marked-clause-stops g c = tt

pub returns-in-Err-Marked-clause-answers : goal.returns-in-Err-Marked-clause-answers
returns-in-Err-Marked-clause-answers g c =
    let same = c.clean_by.ensures.marked (c.in-Err-Marked.is ∙ ap (λ (fault : EngineFault). Err fault) c.in-Err-Marked.field-0-is) in
    rw same refl

pub returns-in-Err-Marked-clause-sound : goal.returns-in-Err-Marked-clause-sound
returns-in-Err-Marked-clause-sound g c =
    let same = c.clean_by.ensures.marked (c.in-Err-Marked.is ∙ ap (λ (fault : EngineFault). Err fault) c.in-Err-Marked.field-0-is) in
    λ sound. rw same sound

pub returns-in-Err-Marked-clause-few : goal.returns-in-Err-Marked-clause-few
returns-in-Err-Marked-clause-few g c =
    let same = c.clean_by.ensures.marked (c.in-Err-Marked.is ∙ ap (λ (fault : EngineFault). Err fault) c.in-Err-Marked.field-0-is) in
    λ going appends rewrites. (c.new-none.ensures.items, same)

pub returns-in_default-clause-later : goal.returns-in_default-clause-later
returns-in_default-clause-later g c = rw (← c.self.view_is) (no_more_same (g.F.FileSystem.is_bounded c.self.inside.files) (g.F.FileSystem.meter c.self.inside.files))
