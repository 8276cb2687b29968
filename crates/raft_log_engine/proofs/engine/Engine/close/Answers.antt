-- What a close leaves, refused or not.
use Rattle.std.proofs.Common.{[], ◌++◌, sym, ◌∙◌}
use Rattle.std.proofs.lemmas.Bool.{false≢true}
use Rattle.raft_log_disk.proofs.RefusalLemmas.{no_more_same, no_more_then}
use Rattle.raft_log_engine.specs.Left.{answers_on}
use Rattle.raft_log_engine.proofs.Clauses.{kept_by, parts}
use Rattle.raft_log_engine.proofs.Reopened.{all_closed, both_closed, closed_opens, first_closed}
use Rattle.raft_log_engine.proofs.Since.{closed_front, written_opens}
use Rattle.raft_log_blocks.proofs.HeldLemmas.{answered, held_answered}
use Rattle.raft_log_engine.proofs.Tails.{both_in_tail, first_in_tail}
use Rattle.raft_log_disk.specs.Cause.{Rises}
use Rattle.raft_log_pipe.proofs.CausedLemmas.{caused_for, rises_then}
use Rattle.raft_log_engine.proofs.engine.Engine.close.Goals as goal

pub returns-then-self-clause-opens_front : goal.returns-then-self-clause-opens_front
returns-then-self-clause-opens_front g c =
    let met = g.met.F.FileSystem g.world.𝓛 g.world.𝓜 g.world.𝓡 ((λ s x. x), (λ x. x), (λ x. x), λ x. x) in
    rw (← c.self.view_is) (λ before batches alone w. written_opens (g.F.FileSystem.disk) (parts c.self.inside.files c.self.inside.pipes c.self.inside.traced.tables c.self.inside.is_stopped c.self.inside.wrote_unsynced c.self.inside.blocks.reads c.self.inside.traced c.self.inside.manager.purge_threshold) before batches (met.is_named c.self.inside.files) alone w)

-- closing the append queue was refused

pub returns-in-Err-clause-opens : goal.returns-in-Err-clause-opens
returns-in-Err-clause-opens g c =
    let met = g.met.F.FileSystem g.world.𝓛 g.world.𝓜 g.world.𝓡 ((λ s x. x), (λ x. x), (λ x. x), λ x. x) in
    let old = (parts c.self.inside.files c.self.inside.pipes c.self.inside.traced.tables c.self.inside.is_stopped c.self.inside.wrote_unsynced c.self.inside.blocks.reads c.self.inside.traced c.self.inside.manager.purge_threshold) in
    let p = c.self.inside.pipes in
    let q = c.close.new.self in
    let d = g.F.FileSystem.disk c.self.inside.files in
    let e = g.F.FileSystem.disk c.close.new.files in
    rw (← c.self.view_is) (λ sound alone.
    let kept = kept_by (g.F.FileSystem.disk) old (c.self.invariant c.if-self.false).batches sound.synced in
    closed_opens p q e kept.0 kept.1 (answers_on (g.F.FileSystem.disk) old) (met.is_named c.close.new.files) (first_closed p q d e c.close.result c.close.ensures.call c.close.ensures.other alone kept.0 kept.1 [] kept.2.rewrite kept.2.append)
    (answered d p c.self.inside.traced.tables kept.0 kept.1 kept.2))

pub returns-in-Err-clause-opens_front : goal.returns-in-Err-clause-opens_front
returns-in-Err-clause-opens_front g c =
    let met = g.met.F.FileSystem g.world.𝓛 g.world.𝓜 g.world.𝓡 ((λ s x. x), (λ x. x), (λ x. x), λ x. x) in
    let p = c.self.inside.pipes in
    let q = c.close.new.self in
    let d = g.F.FileSystem.disk c.self.inside.files in
    let e = g.F.FileSystem.disk c.close.new.files in
    rw (← c.self.view_is) (λ before batches alone w.
    closed_front p q e w.first w.rewrites w.synced w.unsynced before batches (met.is_named c.close.new.files) (first_closed p q d e c.close.result c.close.ensures.call c.close.ensures.other alone w.rewrites w.synced w.unsynced w.rewrite w.append) w.on_disk w.plain w.split)

-- that of the rewrite queue was

pub returns-in-Err-close-clause-opens : goal.returns-in-Err-close-clause-opens
returns-in-Err-close-clause-opens g c =
    let met = g.met.F.FileSystem g.world.𝓛 g.world.𝓜 g.world.𝓡 ((λ s x. x), (λ x. x), (λ x. x), λ x. x) in
    let old = (parts c.self.inside.files c.self.inside.pipes c.self.inside.traced.tables c.self.inside.is_stopped c.self.inside.wrote_unsynced c.self.inside.blocks.reads c.self.inside.traced c.self.inside.manager.purge_threshold) in
    let p = c.self.inside.pipes in
    let q = c.close.new.self in
    let d = g.F.FileSystem.disk c.self.inside.files in
    let e = g.F.FileSystem.disk c.close.new.files in
    let t = c.close-2.new.self in
    let f = g.F.FileSystem.disk c.close-2.new.files in
    rw (← c.self.view_is) (λ sound alone.
    let kept = kept_by (g.F.FileSystem.disk) old (c.self.invariant c.if-self.false).batches sound.synced in
    closed_opens p t f kept.0 kept.1 (answers_on (g.F.FileSystem.disk) old) (met.is_named c.close-2.new.files) (both_closed p q t d e f _ c.close-2.result c.in_default.ensures.call c.in_default.ensures.other c.close-2.ensures.call c.close-2.ensures.other alone kept.0 kept.1 [] kept.2.rewrite kept.2.append)
    (answered d p c.self.inside.traced.tables kept.0 kept.1 kept.2))

pub returns-in-Err-close-clause-opens_front : goal.returns-in-Err-close-clause-opens_front
returns-in-Err-close-clause-opens_front g c =
    let met = g.met.F.FileSystem g.world.𝓛 g.world.𝓜 g.world.𝓡 ((λ s x. x), (λ x. x), (λ x. x), λ x. x) in
    let p = c.self.inside.pipes in
    let q = c.close.new.self in
    let d = g.F.FileSystem.disk c.self.inside.files in
    let e = g.F.FileSystem.disk c.close.new.files in
    let t = c.close-2.new.self in
    let f = g.F.FileSystem.disk c.close-2.new.files in
    rw (← c.self.view_is) (λ before batches alone w.
    closed_front p t f w.first w.rewrites w.synced w.unsynced before batches (met.is_named c.close-2.new.files) (both_closed p q t d e f _ c.close-2.result c.in_default.ensures.call c.in_default.ensures.other c.close-2.ensures.call c.close-2.ensures.other alone w.rewrites w.synced w.unsynced w.rewrite w.append) w.on_disk w.plain w.split)

pub returns-in-Err-close-clause-later : goal.returns-in-Err-close-clause-later
returns-in-Err-close-clause-later g c = rw (← c.self.view_is) (no_more_then c.in_default.ensures.later c.close-2.ensures.later)

-- both were closed

pub returns-clause-opens : goal.returns-clause-opens
returns-clause-opens g c =
    let met = g.met.F.FileSystem g.world.𝓛 g.world.𝓜 g.world.𝓡 ((λ s x. x), (λ x. x), (λ x. x), λ x. x) in
    let old = (parts c.self.inside.files c.self.inside.pipes c.self.inside.traced.tables c.self.inside.is_stopped c.self.inside.wrote_unsynced c.self.inside.blocks.reads c.self.inside.traced c.self.inside.manager.purge_threshold) in
    let p = c.self.inside.pipes in
    let q = c.close.new.self in
    let d = g.F.FileSystem.disk c.self.inside.files in
    let e = g.F.FileSystem.disk c.close.new.files in
    let t = c.close-2.new.self in
    let f = g.F.FileSystem.disk c.close-2.new.files in
    rw (← c.self.view_is) (λ sound alone.
    let kept = kept_by (g.F.FileSystem.disk) old (c.self.invariant c.if-self.false).batches sound.synced in
    closed_opens p t f kept.0 kept.1 (answers_on (g.F.FileSystem.disk) old) (met.is_named c.close-2.new.files) (both_closed p q t d e f _ c.close-2.result c.in_default.ensures.call c.in_default.ensures.other c.close-2.ensures.call c.close-2.ensures.other alone kept.0 kept.1 [] kept.2.rewrite kept.2.append)
    (answered d p c.self.inside.traced.tables kept.0 kept.1 kept.2))

pub returns-clause-opens_front : goal.returns-clause-opens_front
returns-clause-opens_front g c =
    let met = g.met.F.FileSystem g.world.𝓛 g.world.𝓜 g.world.𝓡 ((λ s x. x), (λ x. x), (λ x. x), λ x. x) in
    let p = c.self.inside.pipes in
    let q = c.close.new.self in
    let d = g.F.FileSystem.disk c.self.inside.files in
    let e = g.F.FileSystem.disk c.close.new.files in
    let t = c.close-2.new.self in
    let f = g.F.FileSystem.disk c.close-2.new.files in
    rw (← c.self.view_is) (λ before batches alone w.
    closed_front p t f w.first w.rewrites w.synced w.unsynced before batches (met.is_named c.close-2.new.files) (both_closed p q t d e f _ c.close-2.result c.in_default.ensures.call c.in_default.ensures.other c.close-2.ensures.call c.close-2.ensures.other alone w.rewrites w.synced w.unsynced w.rewrite w.append) w.on_disk w.plain w.split)

pub returns-clause-later : goal.returns-clause-later
returns-clause-later g c = rw (← c.self.view_is) (no_more_then c.in_default.ensures.later c.close-2.ensures.later)

-- why a close is refused

pub returns-in-Err-clause-cause : goal.returns-in-Err-clause-cause
returns-in-Err-clause-cause g c = rw (← c.self.view_is) c.in-Err.ensures.cause

pub returns-in-Err-close-clause-cause : goal.returns-in-Err-close-clause-cause
returns-in-Err-close-clause-cause g c =
    let a = g.F.FileSystem.meter c.self.inside.files in
    let b = g.F.FileSystem.meter c.close.new.files in
    let e = g.F.FileSystem.meter c.close-2.new.files in
    rw (← c.self.view_is) (caused_for (Rises 1 b e) ⊥ ⊥ ⊥ (Rises 1 a e) ⊥ ⊥ ⊥ c.in-Err-close.error (rises_then 0 1 a b e c.in_default.ensures.later.counts) (λ x. x) (λ x. x) (λ x. x) c.in-Err-close.ensures.cause)

pub returns-clause-opens_all : goal.returns-clause-opens_all
returns-clause-opens_all g c =
    let met = g.met.F.FileSystem g.world.𝓛 g.world.𝓜 g.world.𝓡 ((λ s x. x), (λ x. x), (λ x. x), λ x. x) in
    let old = (parts c.self.inside.files c.self.inside.pipes c.self.inside.traced.tables c.self.inside.is_stopped c.self.inside.wrote_unsynced c.self.inside.blocks.reads c.self.inside.traced c.self.inside.manager.purge_threshold) in
    let held = (c.self.invariant c.if-self.false).batches in
    let p = c.self.inside.pipes in
    let q = c.close.new.self in
    let d = g.F.FileSystem.disk c.self.inside.files in
    let e = g.F.FileSystem.disk c.close.new.files in
    let t = c.close-2.new.self in
    let f = g.F.FileSystem.disk c.close-2.new.files in
    rw (← c.self.view_is) (λ alone.
    closed_opens p t f held.rewrites (held.synced ++ held.unsynced) (answers_on (g.F.FileSystem.disk) old) (met.is_named c.close-2.new.files)
    (all_closed p q t d e f _ c.close-2.result c.in_default.ensures.call c.in_default.ensures.other c.close-2.ensures.call c.close-2.ensures.other alone held.rewrites held.synced held.unsynced held.held.rewrite held.held.append)
    (held_answered d p c.self.inside.traced.tables held.rewrites held.synced held.unsynced held.held))

-- ---- what an opening that tolerates a torn tail refuses then

pub returns-then-self-clause-opens_in_tail : goal.returns-then-self-clause-opens_in_tail
returns-then-self-clause-opens_in_tail g c =
    rw (← c.self.view_is) (λ going alone. absurd (false≢true (sym going ∙ c.if-self.true)))

pub returns-in-Err-clause-opens_in_tail : goal.returns-in-Err-clause-opens_in_tail
returns-in-Err-clause-opens_in_tail g c =
    let met = g.met.F.FileSystem g.world.𝓛 g.world.𝓜 g.world.𝓡 ((λ s x. x), (λ x. x), (λ x. x), λ x. x) in
    let held = (c.self.invariant c.if-self.false).batches in
    let d = g.F.FileSystem.disk c.self.inside.files in
    let e = g.F.FileSystem.disk c.close.new.files in
    rw (← c.self.view_is) (λ going alone.
    first_in_tail c.self.inside.pipes c.close.new.self d e c.close.result c.close.ensures.call c.close.ensures.other alone held.rewrites held.synced held.unsynced held.held.rewrite held.held.append (met.is_named c.close.new.files))

pub returns-in-Err-close-clause-opens_in_tail : goal.returns-in-Err-close-clause-opens_in_tail
returns-in-Err-close-clause-opens_in_tail g c =
    let met = g.met.F.FileSystem g.world.𝓛 g.world.𝓜 g.world.𝓡 ((λ s x. x), (λ x. x), (λ x. x), λ x. x) in
    let held = (c.self.invariant c.if-self.false).batches in
    let d = g.F.FileSystem.disk c.self.inside.files in
    let e = g.F.FileSystem.disk c.close.new.files in
    let f = g.F.FileSystem.disk c.close-2.new.files in
    rw (← c.self.view_is) (λ going alone.
    both_in_tail c.self.inside.pipes c.close.new.self d e c.close.result c.close.ensures.call c.close.ensures.other alone held.rewrites held.synced held.unsynced held.held.rewrite held.held.append
    c.close-2.new.self f c.close-2.result c.close-2.ensures.call c.close-2.ensures.other (met.is_named c.close-2.new.files))

pub returns-clause-opens_in_tail : goal.returns-clause-opens_in_tail
returns-clause-opens_in_tail g c =
    let met = g.met.F.FileSystem g.world.𝓛 g.world.𝓜 g.world.𝓡 ((λ s x. x), (λ x. x), (λ x. x), λ x. x) in
    let held = (c.self.invariant c.if-self.false).batches in
    let d = g.F.FileSystem.disk c.self.inside.files in
    let e = g.F.FileSystem.disk c.close.new.files in
    let f = g.F.FileSystem.disk c.close-2.new.files in
    rw (← c.self.view_is) (λ going alone.
    both_in_tail c.self.inside.pipes c.close.new.self d e c.close.result c.close.ensures.call c.close.ensures.other alone held.rewrites held.synced held.unsynced held.held.rewrite held.held.append
    c.close-2.new.self f c.close-2.result c.close-2.ensures.call c.close-2.ensures.other (met.is_named c.close-2.new.files))

pub returns-then-self-clause-later : goal.returns-then-self-clause-later
returns-then-self-clause-later g c = rw (← c.self.view_is) (no_more_same (g.F.FileSystem.is_bounded c.self.inside.files) (g.F.FileSystem.meter c.self.inside.files))
