-- A cleaning: the content stays, and whatever a crash leaves of one that was refused reads as it.
use Rattle.std.proofs.Common.{◌≡◌, ◌⊎◌, ℕ, ◌+◌, ◌≤◌, [], ap, refl, rules, sym, subst, ◌∙◌}
use Rattle.std.specs.Prelude.{IfSome}
use Rattle.std.proofs.lemmas.Bool.{false≢true}
use Rattle.raft_log_disk.proofs.RefusalLemmas.{no_more_same, no_more_then}
use Rattle.raft_log_pipe.specs.declared.pipe.SinglePipe.{SinglePipe}
use Rattle.raft_log_pipe.specs.Pipe.{first_of}
use Rattle.raft_log_pipe.proofs.FirstLemmas.{same_first}
use Rattle.raft_log_blocks.specs.Held.{seen_on}
use Rattle.raft_log_engine.specs.Reopened.{OpensAs, directories_of_pipes}
use Rattle.raft_log_engine.proofs.Clauses.{kept_by, parts}
use Rattle.raft_log_traces.specs.GroupTraces.{traces_in}
use Rattle.raft_log_cleaner.proofs.Caused.{call_cause, cause_behind}
use Rattle.raft_log_engine.proofs.Barred.{barred}
use Rattle.raft_log_engine.proofs.Cleaned.{both_stand, can_clean, cleaned_holds, cleaned_kept, cleaned_left, cleaned_seen, cleaned_written, gone_since, large_still, only_new_since, set_then, standing_in_tail, standing_opens}
use Rattle.raft_log_engine.proofs.Reopened.{kept_opens, synced_stands}
use Rattle.raft_log_engine.proofs.Tails.{held_in_tail}
use Rattle.raft_log_engine.proofs.engine.Engine.clean_by.Goals as goal

pub clean-requires-clause-can : goal.clean-requires-clause-can
clean-requires-clause-can g c κs within =
    let d = g.F.FileSystem.disk c.self.inside.files in
    let e = g.F.FileSystem.disk c.sync_unsynced.new.files in
    let p = c.self.inside.pipes in
    let q = c.sync_unsynced.new.pipes in
    let traced = c.self.inside.traced in
    let can = can_clean d e p q traced c.self.inside.wrote_unsynced c.self.inside.blocks (c.self.invariant c.if-self.false) c.in_default.ensures.still c.in_default.ensures.synced (c.may_clean.ensures.0 c.if-not-may_clean.false).unmarked in
    (seen_on d p traced.tables, can)

pub clean-requires-clause-may : goal.clean-requires-clause-may
clean-requires-clause-may g c κs within = c.may_clean.ensures.0 c.if-not-may_clean.false

pub invariant_of-self-in-Ok : goal.invariant_of-self-in-Ok
invariant_of-self-in-Ok g c =
    let d = g.F.FileSystem.disk c.self.inside.files in
    let e = g.F.FileSystem.disk c.sync_unsynced.new.files in
    let p = c.self.inside.pipes in
    let q = c.sync_unsynced.new.pipes in
    let traced = c.self.inside.traced in
    let can = can_clean d e p q traced c.self.inside.wrote_unsynced c.self.inside.blocks (c.self.invariant c.if-self.false) c.in_default.ensures.still c.in_default.ensures.synced (c.may_clean.ensures.0 c.if-not-may_clean.false).unmarked in
    let f = g.F.FileSystem.disk c.clean.new.files in
    let t = c.clean.new.pipes in
    let now = c.clean.new.log in
    let content = seen_on d p traced.tables in
    let cleaned = c.in-Ok.ensures.cleans.ok content can in
    λ goes_on. cleaned_holds f t now content cleaned _ (search rules)

-- ---- after Ok

pub returns-in-Ok-clause-answers : goal.returns-in-Ok-clause-answers
returns-in-Ok-clause-answers g c =
    let d = g.F.FileSystem.disk c.self.inside.files in
    let e = g.F.FileSystem.disk c.sync_unsynced.new.files in
    let p = c.self.inside.pipes in
    let q = c.sync_unsynced.new.pipes in
    let traced = c.self.inside.traced in
    let can = can_clean d e p q traced c.self.inside.wrote_unsynced c.self.inside.blocks (c.self.invariant c.if-self.false) c.in_default.ensures.still c.in_default.ensures.synced (c.may_clean.ensures.0 c.if-not-may_clean.false).unmarked in
    let f = g.F.FileSystem.disk c.clean.new.files in
    let t = c.clean.new.pipes in
    let now = c.clean.new.log in
    let content = seen_on d p traced.tables in
    let cleaned = c.in-Ok.ensures.cleans.ok content can in
    rw (← c.self.view_is) (cleaned_seen f t now content cleaned)

pub returns-in-Ok-clause-goes_on : goal.returns-in-Ok-clause-goes_on
returns-in-Ok-clause-goes_on g c =
    let d = g.F.FileSystem.disk c.self.inside.files in
    let e = g.F.FileSystem.disk c.sync_unsynced.new.files in
    let p = c.self.inside.pipes in
    let q = c.sync_unsynced.new.pipes in
    let traced = c.self.inside.traced in
    let can = can_clean d e p q traced c.self.inside.wrote_unsynced c.self.inside.blocks (c.self.invariant c.if-self.false) c.in_default.ensures.still c.in_default.ensures.synced (c.may_clean.ensures.0 c.if-not-may_clean.false).unmarked in
    let f = g.F.FileSystem.disk c.clean.new.files in
    let t = c.clean.new.pipes in
    let now = c.clean.new.log in
    let content = seen_on d p traced.tables in
    let cleaned = c.in-Ok.ensures.cleans.ok content can in
    rw (← c.self.view_is) (λ going. cleaned_seen f t now content cleaned)

pub returns-in-Ok-clause-left : goal.returns-in-Ok-clause-left
returns-in-Ok-clause-left g c =
    let d = g.F.FileSystem.disk c.self.inside.files in
    let e = g.F.FileSystem.disk c.sync_unsynced.new.files in
    let p = c.self.inside.pipes in
    let q = c.sync_unsynced.new.pipes in
    let traced = c.self.inside.traced in
    let can = can_clean d e p q traced c.self.inside.wrote_unsynced c.self.inside.blocks (c.self.invariant c.if-self.false) c.in_default.ensures.still c.in_default.ensures.synced (c.may_clean.ensures.0 c.if-not-may_clean.false).unmarked in
    let f = g.F.FileSystem.disk c.clean.new.files in
    let t = c.clean.new.pipes in
    let now = c.clean.new.log in
    let content = seen_on d p traced.tables in
    let cleaned = c.in-Ok.ensures.cleans.ok content can in
    rw (← c.self.view_is) (cleaned_left (g.F.FileSystem.disk) (parts c.self.inside.files c.self.inside.pipes c.self.inside.traced.tables c.self.inside.is_stopped c.self.inside.wrote_unsynced c.self.inside.blocks.reads c.self.inside.traced c.self.inside.manager.purge_threshold) (c.self.invariant c.if-self.false).batches c.clean.new.files t now cleaned c.self.inside.is_stopped c.if-self.false)

pub returns-in-Ok-clause-all_written : goal.returns-in-Ok-clause-all_written
returns-in-Ok-clause-all_written g c =
    let d = g.F.FileSystem.disk c.self.inside.files in
    let e = g.F.FileSystem.disk c.sync_unsynced.new.files in
    let p = c.self.inside.pipes in
    let q = c.sync_unsynced.new.pipes in
    let traced = c.self.inside.traced in
    let can = can_clean d e p q traced c.self.inside.wrote_unsynced c.self.inside.blocks (c.self.invariant c.if-self.false) c.in_default.ensures.still c.in_default.ensures.synced (c.may_clean.ensures.0 c.if-not-may_clean.false).unmarked in
    let f = g.F.FileSystem.disk c.clean.new.files in
    let t = c.clean.new.pipes in
    let now = c.clean.new.log in
    let content = seen_on d p traced.tables in
    let cleaned = c.in-Ok.ensures.cleans.ok content can in
    cleaned_written (g.F.FileSystem.disk) (parts c.self.inside.files c.self.inside.pipes c.self.inside.traced.tables c.self.inside.is_stopped c.self.inside.wrote_unsynced c.self.inside.blocks.reads c.self.inside.traced c.self.inside.manager.purge_threshold) (c.self.invariant c.if-self.false).batches c.clean.new.files t now cleaned c.self.inside.is_stopped _ _

pub returns-in-Ok-clause-paths : goal.returns-in-Ok-clause-paths
returns-in-Ok-clause-paths g c = rw (← c.self.view_is) (c.in-Ok.ensures.both.0.paths ∙ c.in_default.ensures.still.paths)

pub returns-in-Ok-clause-set : goal.returns-in-Ok-clause-set
returns-in-Ok-clause-set g c =
    rw (← c.self.view_is) (set_then c.self.inside.pipes c.sync_unsynced.new.pipes c.clean.new.pipes c.in_default.ensures.set (c.in-Ok.ensures.both.0.set, c.in-Ok.ensures.both.1.set))

pub returns-in-Ok-clause-alone : goal.returns-in-Ok-clause-alone
returns-in-Ok-clause-alone g c =
    let d = g.F.FileSystem.disk c.self.inside.files in
    let e = g.F.FileSystem.disk c.sync_unsynced.new.files in
    let p = c.self.inside.pipes in
    let q = c.sync_unsynced.new.pipes in
    let traced = c.self.inside.traced in
    let f = g.F.FileSystem.disk c.clean.new.files in
    let t = c.clean.new.pipes in
    let still = c.in_default.ensures.still in
    rw (← c.self.view_is) (λ alone. both_stand e f q t c.in-Ok.ensures.both (synced_stands p q d e still.same still.paths still.names still.other alone))

pub returns-in-Ok-clause-opens : goal.returns-in-Ok-clause-opens
returns-in-Ok-clause-opens g c =
    let met = g.met.F.FileSystem g.world.𝓛 g.world.𝓜 g.world.𝓡 ((λ s x. x), (λ x. x), (λ x. x), λ x. x) in
    let d = g.F.FileSystem.disk c.self.inside.files in
    let e = g.F.FileSystem.disk c.sync_unsynced.new.files in
    let p = c.self.inside.pipes in
    let q = c.sync_unsynced.new.pipes in
    let traced = c.self.inside.traced in
    let can = can_clean d e p q traced c.self.inside.wrote_unsynced c.self.inside.blocks (c.self.invariant c.if-self.false) c.in_default.ensures.still c.in_default.ensures.synced (c.may_clean.ensures.0 c.if-not-may_clean.false).unmarked in
    let f = g.F.FileSystem.disk c.clean.new.files in
    let t = c.clean.new.pipes in
    let now = c.clean.new.log in
    let content = seen_on d p traced.tables in
    let cleaned = c.in-Ok.ensures.cleans.ok content can in
    let still = c.in_default.ensures.still in
    rw (← c.self.view_is) (λ alone. kept_opens f t now.tables cleaned.rewrites cleaned.appends (met.is_named c.clean.new.files) (both_stand e f q t c.in-Ok.ensures.both (synced_stands p q d e still.same still.paths still.names still.other alone))
    (cleaned_kept f t now content cleaned))

pub returns-in-Ok-clause-opens_still : goal.returns-in-Ok-clause-opens_still
returns-in-Ok-clause-opens_still g c =
    let met = g.met.F.FileSystem g.world.𝓛 g.world.𝓜 g.world.𝓡 ((λ s x. x), (λ x. x), (λ x. x), λ x. x) in
    let d = g.F.FileSystem.disk c.self.inside.files in
    let e = g.F.FileSystem.disk c.sync_unsynced.new.files in
    let p = c.self.inside.pipes in
    let q = c.sync_unsynced.new.pipes in
    let traced = c.self.inside.traced in
    let can = can_clean d e p q traced c.self.inside.wrote_unsynced c.self.inside.blocks (c.self.invariant c.if-self.false) c.in_default.ensures.still c.in_default.ensures.synced (c.may_clean.ensures.0 c.if-not-may_clean.false).unmarked in
    let f = g.F.FileSystem.disk c.clean.new.files in
    let t = c.clean.new.pipes in
    let now = c.clean.new.log in
    let content = seen_on d p traced.tables in
    let cleaned = c.in-Ok.ensures.cleans.ok content can in
    let still = c.in_default.ensures.still in
    rw (← c.self.view_is) (λ sound alone.
    subst (OpensAs (directories_of_pipes t) f) (cleaned_seen f t now content cleaned)
    (kept_opens f t now.tables cleaned.rewrites cleaned.appends (met.is_named c.clean.new.files) (both_stand e f q t c.in-Ok.ensures.both (synced_stands p q d e still.same still.paths still.names still.other alone)) (cleaned_kept f t now content cleaned)))

pub returns-in-Ok-clause-opens_in_tail : goal.returns-in-Ok-clause-opens_in_tail
returns-in-Ok-clause-opens_in_tail g c =
    let met = g.met.F.FileSystem g.world.𝓛 g.world.𝓜 g.world.𝓡 ((λ s x. x), (λ x. x), (λ x. x), λ x. x) in
    let d = g.F.FileSystem.disk c.self.inside.files in
    let e = g.F.FileSystem.disk c.sync_unsynced.new.files in
    let p = c.self.inside.pipes in
    let q = c.sync_unsynced.new.pipes in
    let traced = c.self.inside.traced in
    let can = can_clean d e p q traced c.self.inside.wrote_unsynced c.self.inside.blocks (c.self.invariant c.if-self.false) c.in_default.ensures.still c.in_default.ensures.synced (c.may_clean.ensures.0 c.if-not-may_clean.false).unmarked in
    let f = g.F.FileSystem.disk c.clean.new.files in
    let t = c.clean.new.pipes in
    let now = c.clean.new.log in
    let content = seen_on d p traced.tables in
    let cleaned = c.in-Ok.ensures.cleans.ok content can in
    let still = c.in_default.ensures.still in
    rw (← c.self.view_is) (λ going alone.
    held_in_tail f t cleaned.rewrites cleaned.appends [] (met.is_named c.clean.new.files) (both_stand e f q t c.in-Ok.ensures.both (synced_stands p q d e still.same still.paths still.names still.other alone)) cleaned.rewrite cleaned.append)

pub returns-in-Ok-clause-goes_on_in_tail : goal.returns-in-Ok-clause-goes_on_in_tail
returns-in-Ok-clause-goes_on_in_tail g c =
    let met = g.met.F.FileSystem g.world.𝓛 g.world.𝓜 g.world.𝓡 ((λ s x. x), (λ x. x), (λ x. x), λ x. x) in
    let d = g.F.FileSystem.disk c.self.inside.files in
    let e = g.F.FileSystem.disk c.sync_unsynced.new.files in
    let p = c.self.inside.pipes in
    let q = c.sync_unsynced.new.pipes in
    let traced = c.self.inside.traced in
    let can = can_clean d e p q traced c.self.inside.wrote_unsynced c.self.inside.blocks (c.self.invariant c.if-self.false) c.in_default.ensures.still c.in_default.ensures.synced (c.may_clean.ensures.0 c.if-not-may_clean.false).unmarked in
    let f = g.F.FileSystem.disk c.clean.new.files in
    let t = c.clean.new.pipes in
    let now = c.clean.new.log in
    let content = seen_on d p traced.tables in
    let cleaned = c.in-Ok.ensures.cleans.ok content can in
    let still = c.in_default.ensures.still in
    rw (← c.self.view_is) (λ alone going.
    let stand = both_stand e f q t c.in-Ok.ensures.both (synced_stands p q d e still.same still.paths still.names still.other alone) in
    record { alone = stand; opens = held_in_tail f t cleaned.rewrites cleaned.appends [] (met.is_named c.clean.new.files) stand cleaned.rewrite cleaned.append })

pub returns-in-Ok-clause-barrier : goal.returns-in-Ok-clause-barrier
returns-in-Ok-clause-barrier g c =
    let still = c.in_default.ensures.still in
    rw (← c.self.view_is) (subst (λ (n : ℕ). IfSome c.args.barrier (λ file. (first_of c.clean.new.pipes.append ≡ n) ⊎ (first_of c.clean.new.pipes.append ≤ file))) (same_first c.self.inside.pipes.append c.sync_unsynced.new.pipes.append still.same) c.in-Ok.ensures.barrier)

pub returns-in-Ok-clause-gone : goal.returns-in-Ok-clause-gone
returns-in-Ok-clause-gone g c =
    let still = c.in_default.ensures.still in
    rw (← c.self.view_is) (λ all. gone_since (traces_in c.clean.new.log.traces) c.args.barrier c.self.inside.pipes.append c.sync_unsynced.new.pipes.append c.clean.new.pipes.append still.same (c.in-Ok.ensures.gone all))

pub returns-in-Ok-clause-stale : goal.returns-in-Ok-clause-stale
returns-in-Ok-clause-stale g c =
    let still = c.in_default.ensures.still in
    rw (← c.self.view_is) (λ is. gone_since (traces_in c.clean.new.log.traces) c.args.barrier c.self.inside.pipes.append c.sync_unsynced.new.pipes.append c.clean.new.pipes.append still.same (c.in-Ok.ensures.stale is).gone)

pub returns-in-Ok-clause-expired : goal.returns-in-Ok-clause-expired
returns-in-Ok-clause-expired g c =
    let still = c.in_default.ensures.still in
    let p = c.self.inside.pipes.append in
    let q = c.sync_unsynced.new.pipes.append in
    rw (← c.self.view_is) (λ due is large.
    gone_since (traces_in c.clean.new.log.traces) c.args.barrier p q c.clean.new.pipes.append still.same (c.in-Ok.ensures.expired due is (large_still p q c.self.inside.manager.purge_threshold still.same c.in_default.ensures.set.0.0 large)))

pub returns-in-Ok-clause-stale_count : goal.returns-in-Ok-clause-stale_count
returns-in-Ok-clause-stale_count g c =
    let still = c.in_default.ensures.still in
    rw (← c.self.view_is) (λ is. subst (λ (n : ℕ). n + c.in-Ok.done.went ≡ first_of c.clean.new.pipes.append) (same_first c.self.inside.pipes.append c.sync_unsynced.new.pipes.append still.same) (c.in-Ok.ensures.stale_count is))

pub returns-then-not-may_clean-clause-barred : goal.returns-then-not-may_clean-clause-barred
returns-then-not-may_clean-clause-barred g c =
    rw (← c.self.view_is) (λ is.
    barred (parts c.self.inside.files c.self.inside.pipes c.self.inside.traced.tables c.self.inside.is_stopped c.self.inside.wrote_unsynced c.self.inside.blocks.reads c.self.inside.traced c.self.inside.manager.purge_threshold) c.self.inside.traced refl refl c.args.extent
    (λ may. false≢true (sym c.if-not-may_clean.true ∙ c.may_clean.ensures.1 may)))

pub returns-in-Ok-clause-count : goal.returns-in-Ok-clause-count
returns-in-Ok-clause-count g c =
    let still = c.in_default.ensures.still in
    rw (← c.self.view_is) (λ all. subst (λ (n : ℕ). n + c.in-Ok.done.went ≡ first_of c.clean.new.pipes.append) (same_first c.self.inside.pipes.append c.sync_unsynced.new.pipes.append still.same) (c.in-Ok.ensures.count all))

pub returns-in-Ok-clause-anew : goal.returns-in-Ok-clause-anew
returns-in-Ok-clause-anew g c =
    let still = c.in_default.ensures.still in
    rw (← c.self.view_is) (λ is. only_new_since c.self.inside.pipes c.sync_unsynced.new.pipes c.clean.new.pipes still.same still.other.same (c.in-Ok.ensures.anew is))

pub returns-in-Ok-clause-held : goal.returns-in-Ok-clause-held
returns-in-Ok-clause-held g c = rw (← c.self.view_is) (λ kept. c.in-Ok.ensures.held kept ∙ ap first_of c.in_default.ensures.still.other.same)

pub returns-in-Ok-clause-replaced : goal.returns-in-Ok-clause-replaced
returns-in-Ok-clause-replaced g c = rw (← c.self.view_is) (λ anew. c.in-Ok.ensures.replaced anew ∙ ap (λ (x : SinglePipe). x.active.seq + 1) c.in_default.ensures.still.other.same)

pub returns-in-Ok-clause-there : goal.returns-in-Ok-clause-there
returns-in-Ok-clause-there g c = rw (← c.self.view_is) c.in-Ok.ensures.there

pub returns-in-Ok-clause-later : goal.returns-in-Ok-clause-later
returns-in-Ok-clause-later g c = rw (← c.self.view_is) (no_more_then c.in_default.ensures.later c.in-Ok.ensures.later)

-- ---- after it was refused

pub returns-in-Err-clean-clause-paths : goal.returns-in-Err-clean-clause-paths
returns-in-Err-clean-clause-paths g c =
    let d = g.F.FileSystem.disk c.self.inside.files in
    let e = g.F.FileSystem.disk c.sync_unsynced.new.files in
    let p = c.self.inside.pipes in
    let q = c.sync_unsynced.new.pipes in
    let traced = c.self.inside.traced in
    let can = can_clean d e p q traced c.self.inside.wrote_unsynced c.self.inside.blocks (c.self.invariant c.if-self.false) c.in_default.ensures.still c.in_default.ensures.synced (c.may_clean.ensures.0 c.if-not-may_clean.false).unmarked in
    rw (← c.self.view_is) ((c.in-Err-clean.ensures.stands (seen_on d p traced.tables) can).append.paths.0 ∙ c.in_default.ensures.still.paths)

pub returns-in-Err-clean-clause-set : goal.returns-in-Err-clean-clause-set
returns-in-Err-clean-clause-set g c =
    let d = g.F.FileSystem.disk c.self.inside.files in
    let e = g.F.FileSystem.disk c.sync_unsynced.new.files in
    let p = c.self.inside.pipes in
    let q = c.sync_unsynced.new.pipes in
    let traced = c.self.inside.traced in
    let can = can_clean d e p q traced c.self.inside.wrote_unsynced c.self.inside.blocks (c.self.invariant c.if-self.false) c.in_default.ensures.still c.in_default.ensures.synced (c.may_clean.ensures.0 c.if-not-may_clean.false).unmarked in
    let stands = c.in-Err-clean.ensures.stands (seen_on d p traced.tables) can in
    rw (← c.self.view_is) (set_then p q c.clean.new.pipes c.in_default.ensures.set (stands.append.set, stands.rewrite.set))

pub returns-in-Err-clean-clause-opens_still : goal.returns-in-Err-clean-clause-opens_still
returns-in-Err-clean-clause-opens_still g c =
    let met = g.met.F.FileSystem g.world.𝓛 g.world.𝓜 g.world.𝓡 ((λ s x. x), (λ x. x), (λ x. x), λ x. x) in
    let d = g.F.FileSystem.disk c.self.inside.files in
    let e = g.F.FileSystem.disk c.sync_unsynced.new.files in
    let p = c.self.inside.pipes in
    let q = c.sync_unsynced.new.pipes in
    let traced = c.self.inside.traced in
    let can = can_clean d e p q traced c.self.inside.wrote_unsynced c.self.inside.blocks (c.self.invariant c.if-self.false) c.in_default.ensures.still c.in_default.ensures.synced (c.may_clean.ensures.0 c.if-not-may_clean.false).unmarked in
    let still = c.in_default.ensures.still in
    let content = seen_on d p traced.tables in
    rw (← c.self.view_is) (λ sound alone.
    standing_opens e (g.F.FileSystem.disk c.clean.new.files) q c.clean.new.pipes content (met.is_named c.clean.new.files) (c.in-Err-clean.ensures.stands content can) (synced_stands p q d e still.same still.paths still.names still.other alone))

pub returns-in-Err-clean-clause-opens_in_tail : goal.returns-in-Err-clean-clause-opens_in_tail
returns-in-Err-clean-clause-opens_in_tail g c =
    let met = g.met.F.FileSystem g.world.𝓛 g.world.𝓜 g.world.𝓡 ((λ s x. x), (λ x. x), (λ x. x), λ x. x) in
    let d = g.F.FileSystem.disk c.self.inside.files in
    let e = g.F.FileSystem.disk c.sync_unsynced.new.files in
    let p = c.self.inside.pipes in
    let q = c.sync_unsynced.new.pipes in
    let traced = c.self.inside.traced in
    let can = can_clean d e p q traced c.self.inside.wrote_unsynced c.self.inside.blocks (c.self.invariant c.if-self.false) c.in_default.ensures.still c.in_default.ensures.synced (c.may_clean.ensures.0 c.if-not-may_clean.false).unmarked in
    let still = c.in_default.ensures.still in
    let content = seen_on d p traced.tables in
    rw (← c.self.view_is) (λ going alone.
    standing_in_tail e (g.F.FileSystem.disk c.clean.new.files) q c.clean.new.pipes content (met.is_named c.clean.new.files) (c.in-Err-clean.ensures.stands content can) (synced_stands p q d e still.same still.paths still.names still.other alone))

pub returns-in-Err-clean-clause-goes_on_in_tail : goal.returns-in-Err-clean-clause-goes_on_in_tail
returns-in-Err-clean-clause-goes_on_in_tail g c = λ alone going. absurd (false≢true (sym going))

pub returns-in-Err-clean-clause-later : goal.returns-in-Err-clean-clause-later
returns-in-Err-clean-clause-later g c = rw (← c.self.view_is) (no_more_then c.in_default.ensures.later c.in-Err-clean.ensures.later)

-- ---- the sync before it was refused

pub returns-in-Err-clause-paths : goal.returns-in-Err-clause-paths
returns-in-Err-clause-paths g c = rw (← c.self.view_is) c.in-Err.ensures.still.paths

pub returns-in-Err-clause-set : goal.returns-in-Err-clause-set
returns-in-Err-clause-set g c = rw (← c.self.view_is) c.in-Err.ensures.set

pub returns-in-Err-clause-opens_still : goal.returns-in-Err-clause-opens_still
returns-in-Err-clause-opens_still g c = rw (← c.self.view_is) (λ sound. absurd (false≢true (c.in-Err.ensures.needed sound.synced)))

pub returns-in-Err-clause-opens_in_tail : goal.returns-in-Err-clause-opens_in_tail
returns-in-Err-clause-opens_in_tail g c =
    let met = g.met.F.FileSystem g.world.𝓛 g.world.𝓜 g.world.𝓡 ((λ s x. x), (λ x. x), (λ x. x), λ x. x) in
    let d = g.F.FileSystem.disk c.self.inside.files in
    let e = g.F.FileSystem.disk c.sync_unsynced.new.files in
    let p = c.self.inside.pipes in
    let q = c.sync_unsynced.new.pipes in
    let still = c.in-Err.ensures.still in
    let held = (c.self.invariant c.if-self.false).batches in
    rw (← c.self.view_is) (λ going alone.
    held_in_tail e q held.rewrites held.synced held.unsynced (met.is_named c.sync_unsynced.new.files) (synced_stands p q d e still.same still.paths still.names still.other alone) (still.other.holds held.rewrites [] held.held.rewrite)
    (c.in-Err.ensures.err held.synced held.unsynced held.held.append))

pub returns-in-Err-clause-goes_on_in_tail : goal.returns-in-Err-clause-goes_on_in_tail
returns-in-Err-clause-goes_on_in_tail g c = λ alone going. absurd (false≢true (sym going))

pub returns-in-Err-clause-later : goal.returns-in-Err-clause-later
returns-in-Err-clause-later g c = rw (← c.self.view_is) c.in-Err.ensures.later

-- ---- nothing was done

pub returns-then-not-may_clean-clause-paths : goal.returns-then-not-may_clean-clause-paths
returns-then-not-may_clean-clause-paths g c = rw (← c.self.view_is) refl

pub returns-then-not-may_clean-clause-set : goal.returns-then-not-may_clean-clause-set
returns-then-not-may_clean-clause-set g c = rw (← c.self.view_is) ((refl, refl, refl), (refl, refl, refl))

pub returns-then-not-may_clean-clause-opens_still : goal.returns-then-not-may_clean-clause-opens_still
returns-then-not-may_clean-clause-opens_still g c =
    let met = g.met.F.FileSystem g.world.𝓛 g.world.𝓜 g.world.𝓡 ((λ s x. x), (λ x. x), (λ x. x), λ x. x) in
    let d = g.F.FileSystem.disk c.self.inside.files in
    let p = c.self.inside.pipes in
    rw (← c.self.view_is) (λ sound alone.
    let kept = kept_by (g.F.FileSystem.disk) (parts c.self.inside.files c.self.inside.pipes c.self.inside.traced.tables c.self.inside.is_stopped c.self.inside.wrote_unsynced c.self.inside.blocks.reads c.self.inside.traced c.self.inside.manager.purge_threshold) (c.self.invariant c.if-self.false).batches sound.synced in
    kept_opens d p c.self.inside.traced.tables kept.0 kept.1 (met.is_named c.self.inside.files) alone kept.2)

pub returns-then-not-may_clean-clause-opens_in_tail : goal.returns-then-not-may_clean-clause-opens_in_tail
returns-then-not-may_clean-clause-opens_in_tail g c =
    let met = g.met.F.FileSystem g.world.𝓛 g.world.𝓜 g.world.𝓡 ((λ s x. x), (λ x. x), (λ x. x), λ x. x) in
    let held = (c.self.invariant c.if-self.false).batches in
    rw (← c.self.view_is) (λ going alone. held_in_tail (g.F.FileSystem.disk c.self.inside.files) c.self.inside.pipes held.rewrites held.synced held.unsynced (met.is_named c.self.inside.files) alone held.held.rewrite held.held.append)

pub returns-then-not-may_clean-clause-goes_on_in_tail : goal.returns-then-not-may_clean-clause-goes_on_in_tail
returns-then-not-may_clean-clause-goes_on_in_tail g c =
    let met = g.met.F.FileSystem g.world.𝓛 g.world.𝓜 g.world.𝓡 ((λ s x. x), (λ x. x), (λ x. x), λ x. x) in
    let held = (c.self.invariant c.if-self.false).batches in
    rw (← c.self.view_is) (λ alone going. record {
      alone = alone;
      opens = held_in_tail (g.F.FileSystem.disk c.self.inside.files) c.self.inside.pipes held.rewrites held.synced held.unsynced (met.is_named c.self.inside.files) alone held.held.rewrite held.held.append;
    })

pub returns-then-not-may_clean-clause-later : goal.returns-then-not-may_clean-clause-later
returns-then-not-may_clean-clause-later g c = rw (← c.self.view_is) (no_more_same _ _)

pub returns-then-self-clause-paths : goal.returns-then-self-clause-paths
returns-then-self-clause-paths g c = rw (← c.self.view_is) refl

pub returns-then-self-clause-set : goal.returns-then-self-clause-set
returns-then-self-clause-set g c = rw (← c.self.view_is) ((refl, refl, refl), (refl, refl, refl))

pub returns-then-self-clause-opens_still : goal.returns-then-self-clause-opens_still
returns-then-self-clause-opens_still g c = rw (← c.self.view_is) (λ sound. absurd (false≢true (sym sound.goes_on ∙ c.if-self.true)))

pub returns-then-self-clause-opens_in_tail : goal.returns-then-self-clause-opens_in_tail
returns-then-self-clause-opens_in_tail g c = rw (← c.self.view_is) (λ going alone. absurd (false≢true (sym going ∙ c.if-self.true)))

pub returns-then-self-clause-goes_on_in_tail : goal.returns-then-self-clause-goes_on_in_tail
returns-then-self-clause-goes_on_in_tail g c = rw (← c.self.view_is) (λ alone going. absurd (false≢true (sym going ∙ c.if-self.true)))

pub returns-then-self-clause-later : goal.returns-then-self-clause-later
returns-then-self-clause-later g c = rw (← c.self.view_is) (no_more_same _ _)

-- ---- why it was refused

pub returns-then-self-clause-cause : goal.returns-then-self-clause-cause
returns-then-self-clause-cause g c = rw (← c.self.view_is) c.if-self.true

pub returns-then-not-may_clean-clause-cause : goal.returns-then-not-may_clean-clause-cause
returns-then-not-may_clean-clause-cause g c =
    rw (← c.self.view_is) (barred (parts c.self.inside.files c.self.inside.pipes c.self.inside.traced.tables c.self.inside.is_stopped c.self.inside.wrote_unsynced c.self.inside.blocks.reads c.self.inside.traced c.self.inside.manager.purge_threshold) c.self.inside.traced refl refl c.args.extent
    (λ may. false≢true (sym c.if-not-may_clean.true ∙ c.may_clean.ensures.1 may)))

pub returns-in-Err-clause-cause : goal.returns-in-Err-clause-cause
returns-in-Err-clause-cause g c = rw (← c.self.view_is) (call_cause (g.F.FileSystem.meter c.self.inside.files) (g.F.FileSystem.meter c.sync_unsynced.new.files) ⊥ ⊥ c.in-Err.error c.in-Err.ensures.cause)

pub returns-in-Err-clean-clause-cause : goal.returns-in-Err-clean-clause-cause
returns-in-Err-clean-clause-cause g c = rw (← c.self.view_is) (cause_behind c.in_default.ensures.later (g.F.FileSystem.meter c.clean.new.files) c.in-Err-clean.error c.in-Err-clean.ensures.cause)
