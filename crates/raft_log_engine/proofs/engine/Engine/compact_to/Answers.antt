use Rattle.std.proofs.Common.{ℕ, [], ◌∷◌, ◌++◌, refl, sym, subst, ◌∙◌}
use Rattle.std.proofs.lemmas.Bool.{false≢true}
use Rattle.raft_log_disk.proofs.CauseLemmas.{at_err}
use Rattle.raft_log_memtables.specs.MemTables.{content_in}
use Rattle.raft_log_blocks.specs.Placed.{bytes_on}
use Rattle.raft_content_log.specs.Leaving.{LeavesElsewhere}
use Rattle.raft_log_engine.specs.Left.{answers_on, leaves_on}
use Rattle.raft_log_memtables.specs.Content.{after_batch}
use Rattle.raft_log_engine.specs.Reads.{compaction}
use Rattle.raft_log_engine.specs.Reopened.{OpensAsEither, OpensAsFront, directories_of_engine}
use Rattle.raft_log_engine.specs.Since.{HasWritten, written_batch}
use Rattle.raft_log_engine.proofs.Clauses.{kept_by, parts, refused}
use Rattle.raft_log_engine.proofs.Reopened.{refused_opens}
use Rattle.raft_log_engine.proofs.Seen.{count_seen}
use Rattle.raft_log_engine.proofs.Tails.{held_in_tail, stands_in_tail}
use Rattle.raft_log_engine.proofs.Since.{refused_front}
use Rattle.raft_log_engine.proofs.Taken.{compaction_taken, compaction_unmade}
use Rattle.raft_log_engine.proofs.Caused.{compaction_cause, compaction_memory_cause}
use Rattle.raft_log_engine.specs.Caused.{IsCompactionFault}
use Rattle.raft_log_engine.specs.declared.fault.EngineFault.{EngineFault}
use Rattle.raft_log_pipe.proofs.CausedLemmas.{told_cause}
use Rattle.raft_log_pipe.proofs.EndLemmas.{not_given, not_ok}
use Rattle.raft_log_engine.proofs.engine.Engine.compact_to.Goals as goal

pub returns-in_err-batch-clause-err : goal.returns-in_err-batch-clause-err
returns-in_err-batch-clause-err g c =
    rw (← c.self.view_is) (λ sound. at_err _ _ (refused (g.F.FileSystem.disk) (parts c.self.inside.files c.self.inside.pipes c.self.inside.traced.tables c.self.inside.is_stopped c.self.inside.wrote_unsynced c.self.inside.blocks.reads c.self.inside.traced c.self.inside.manager.purge_threshold) (kept_by (g.F.FileSystem.disk) (parts c.self.inside.files c.self.inside.pipes c.self.inside.traced.tables c.self.inside.is_stopped c.self.inside.wrote_unsynced c.self.inside.blocks.reads c.self.inside.traced c.self.inside.manager.purge_threshold) (c.self.invariant c.if-self.false).batches sound.synced) sound.synced (compaction c.args.group c.args.index ∷ [])))

pub returns-clause-count : goal.returns-clause-count
returns-clause-count g c =
    rw (← c.self.view_is) (c.count_before-count.ensures ∙ sym (count_seen (bytes_on (g.F.FileSystem.disk c.self.inside.files) c.self.inside.pipes) (content_in c.self.inside.traced.tables c.args.group).entry c.args.index))

pub returns-clause-others : goal.returns-clause-others
returns-clause-others g c =
    subst (λ l. LeavesElsewhere l (leaves_on (g.F.FileSystem.disk) c.args.self.now) (leaves_on (g.F.FileSystem.disk) c.write.new.self)) c.in_ok-batch.ensures.items (c.write.ensures.others refl)

pub returns-in_err-write-clause-others : goal.returns-in_err-write-clause-others
returns-in_err-write-clause-others g c =
    subst (λ l. LeavesElsewhere l (leaves_on (g.F.FileSystem.disk) c.args.self.now) (leaves_on (g.F.FileSystem.disk) c.write.new.self)) c.in_ok-batch.ensures.items (c.write.ensures.others refl)

-- ---- why it is refused where nothing is set to refuse

pub returns-then-self-clause-taken : goal.returns-then-self-clause-taken
returns-then-self-clause-taken g c = rw (← c.self.view_is) (λ free. c.if-self.true)

pub returns-in_err-batch-clause-taken : goal.returns-in_err-batch-clause-taken
returns-in_err-batch-clause-taken g c =
    λ free. compaction_unmade (g.F.FileSystem.disk) c.args.self.now c.args.group c.args.index c.from_residual.result c.in_err-batch.field-0.0 c.from_residual.ensures.1 c.in_err-batch.ensures.err

pub returns-in_err-write-clause-taken : goal.returns-in_err-write-clause-taken
returns-in_err-write-clause-taken g c =
    λ free. compaction_taken ℕ (g.F.FileSystem.disk) c.args.self.now c.args.group c.args.index c.in_ok-batch.batch.items c.from_residual-in_err-write.result c.in_err-write.field-0.0 c.in_ok-batch.ensures.items
    c.from_residual-in_err-write.ensures.1 (c.in_err-write.ensures.taken free)

-- ---- what an opening finds

pub returns-in_err-batch-clause-opens_either : goal.returns-in_err-batch-clause-opens_either
returns-in_err-batch-clause-opens_either g c =
    let met = g.met.F.FileSystem g.world.𝓛 g.world.𝓜 g.world.𝓡 ((λ s x. x), (λ x. x), (λ x. x), λ x. x) in
    rw (← c.self.view_is) (λ sound alone. at_err _ _ (refused_opens (g.F.FileSystem.disk) (parts c.self.inside.files c.self.inside.pipes c.self.inside.traced.tables c.self.inside.is_stopped c.self.inside.wrote_unsynced c.self.inside.blocks.reads c.self.inside.traced c.self.inside.manager.purge_threshold) alone (kept_by (g.F.FileSystem.disk) (parts c.self.inside.files c.self.inside.pipes c.self.inside.traced.tables c.self.inside.is_stopped c.self.inside.wrote_unsynced c.self.inside.blocks.reads c.self.inside.traced c.self.inside.manager.purge_threshold) (c.self.invariant c.if-self.false).batches sound.synced) (met.is_named c.self.inside.files) (compaction c.args.group c.args.index ∷ [])))

pub returns-in_err-write-clause-opens_either : goal.returns-in_err-write-clause-opens_either
returns-in_err-write-clause-opens_either g c =
    λ sound alone. at_err _ _ (subst (λ l. OpensAsEither (directories_of_engine c.write.new.self) (g.F.FileSystem.disk c.write.new.self.files) (answers_on (g.F.FileSystem.disk) c.args.self.now) (after_batch l (answers_on (g.F.FileSystem.disk) c.args.self.now)))
    c.in_ok-batch.ensures.items (c.in_err-write.ensures.opens_either sound alone))

pub returns-clause-written : goal.returns-clause-written
returns-clause-written g c =
    λ before batches w. subst (λ l. HasWritten (g.F.FileSystem.disk) c.write.new.self before (batches ++ written_batch l)) c.in_ok-batch.ensures.items (c.in_ok-write.ensures.written before batches w)

pub returns-then-self-clause-opens_front : goal.returns-then-self-clause-opens_front
returns-then-self-clause-opens_front g c =
    let met = g.met.F.FileSystem g.world.𝓛 g.world.𝓜 g.world.𝓡 ((λ s x. x), (λ x. x), (λ x. x), λ x. x) in
    rw (← c.self.view_is) (λ before batches alone w. refused_front (g.F.FileSystem.disk) (parts c.self.inside.files c.self.inside.pipes c.self.inside.traced.tables c.self.inside.is_stopped c.self.inside.wrote_unsynced c.self.inside.blocks.reads c.self.inside.traced c.self.inside.manager.purge_threshold) before batches _ (met.is_named c.self.inside.files) alone w)

pub returns-in_err-batch-clause-opens_front : goal.returns-in_err-batch-clause-opens_front
returns-in_err-batch-clause-opens_front g c =
    let met = g.met.F.FileSystem g.world.𝓛 g.world.𝓜 g.world.𝓡 ((λ s x. x), (λ x. x), (λ x. x), λ x. x) in
    rw (← c.self.view_is) (λ before batches alone w. refused_front (g.F.FileSystem.disk) (parts c.self.inside.files c.self.inside.pipes c.self.inside.traced.tables c.self.inside.is_stopped c.self.inside.wrote_unsynced c.self.inside.blocks.reads c.self.inside.traced c.self.inside.manager.purge_threshold) before batches _ (met.is_named c.self.inside.files) alone w)

pub returns-in_err-write-clause-opens_front : goal.returns-in_err-write-clause-opens_front
returns-in_err-write-clause-opens_front g c =
    λ before batches alone w. subst (λ l. OpensAsFront (directories_of_engine c.write.new.self) (g.F.FileSystem.disk c.write.new.self.files) before (batches ++ written_batch l)) c.in_ok-batch.ensures.items (c.write.ensures.opens_front before batches alone w)

pub returns-clause-opens_front : goal.returns-clause-opens_front
returns-clause-opens_front g c =
    λ before batches alone w. subst (λ l. OpensAsFront (directories_of_engine c.write.new.self) (g.F.FileSystem.disk c.write.new.self.files) before (batches ++ written_batch l)) c.in_ok-batch.ensures.items (c.write.ensures.opens_front before batches alone w)

pub returns-clause-opens : goal.returns-clause-opens
returns-clause-opens g c = λ alone. c.in_ok-write.ensures.opens alone refl

pub returns-clause-all_written : goal.returns-clause-all_written
returns-clause-all_written g c = c.in_ok-write.ensures.all_written refl

-- ---- why it is refused

pub returns-then-self-clause-cause : goal.returns-then-self-clause-cause
returns-then-self-clause-cause g c = rw (← c.self.view_is) c.if-self.true

pub returns-in_err-batch-clause-cause : goal.returns-in_err-batch-clause-cause
returns-in_err-batch-clause-cause g c =
    let m = g.F.FileSystem.meter c.args.self.now.files in
    told_cause c.from_residual.result c.in_err-batch.field-0.0 (λ (x : EngineFault). IsCompactionFault (g.F.FileSystem.disk) c.args.self.now m m x) c.from_residual.ensures.1
    (compaction_memory_cause (g.F.FileSystem.disk) c.args.self.now m m c.in_err-batch.field-0.0 c.in_err-batch.ensures.err)

pub returns-in_err-write-clause-cause : goal.returns-in_err-write-clause-cause
returns-in_err-write-clause-cause g c =
    let a = g.F.FileSystem.meter c.args.self.now.files in
    let b = g.F.FileSystem.meter c.write.new.self.files in
    told_cause c.from_residual-in_err-write.result c.in_err-write.field-0.0 (λ (x : EngineFault). IsCompactionFault (g.F.FileSystem.disk) c.args.self.now a b x) c.from_residual-in_err-write.ensures.1
    (compaction_cause (g.F.FileSystem.disk) c.args.self.now c.in_ok-batch.batch.items a b c.args.group c.args.index c.in_ok-batch.ensures.items c.in_err-write.field-0.0 c.in_err-write.ensures.cause)

-- ---- where it goes on

pub returns-then-self-clause-goes_on_in_tail : goal.returns-then-self-clause-goes_on_in_tail
returns-then-self-clause-goes_on_in_tail g c = rw (← c.self.view_is) (λ alone going. absurd (false≢true (sym going ∙ c.if-self.true)))

pub returns-in_err-batch-clause-goes_on_in_tail : goal.returns-in_err-batch-clause-goes_on_in_tail
returns-in_err-batch-clause-goes_on_in_tail g c =
    let met = g.met.F.FileSystem g.world.𝓛 g.world.𝓜 g.world.𝓡 ((λ s x. x), (λ x. x), (λ x. x), λ x. x) in
    rw (← c.self.view_is) (λ alone going. stands_in_tail (g.F.FileSystem.disk) (parts c.self.inside.files c.self.inside.pipes c.self.inside.traced.tables c.self.inside.is_stopped c.self.inside.wrote_unsynced c.self.inside.blocks.reads c.self.inside.traced c.self.inside.manager.purge_threshold) (met.is_named c.self.inside.files) alone (c.self.invariant c.if-self.false).batches)

pub returns-in_err-write-clause-goes_on_in_tail : goal.returns-in_err-write-clause-goes_on_in_tail
returns-in_err-write-clause-goes_on_in_tail g c = c.in_err-write.ensures.goes_on_in_tail

pub returns-clause-goes_on_in_tail : goal.returns-clause-goes_on_in_tail
returns-clause-goes_on_in_tail g c = c.in_ok-write.ensures.goes_on_in_tail

-- ---- what an opening that tolerates a torn tail refuses

pub returns-then-self-clause-opens_in_tail : goal.returns-then-self-clause-opens_in_tail
returns-then-self-clause-opens_in_tail g c =
    rw (← c.self.view_is) (λ going alone. absurd (false≢true (sym going ∙ c.if-self.true)))

pub returns-in_err-batch-clause-opens_in_tail : goal.returns-in_err-batch-clause-opens_in_tail
returns-in_err-batch-clause-opens_in_tail g c =
    let met = g.met.F.FileSystem g.world.𝓛 g.world.𝓜 g.world.𝓡 ((λ s x. x), (λ x. x), (λ x. x), λ x. x) in
    let held = (c.self.invariant c.if-self.false).batches in
    rw (← c.self.view_is) (λ going alone. held_in_tail (g.F.FileSystem.disk c.self.inside.files) c.self.inside.pipes held.rewrites held.synced held.unsynced (met.is_named c.self.inside.files) alone held.held.rewrite held.held.append)

pub returns-in_err-write-clause-opens_in_tail : goal.returns-in_err-write-clause-opens_in_tail
returns-in_err-write-clause-opens_in_tail g c = c.in_err-write.ensures.opens_in_tail

pub returns-clause-opens_in_tail : goal.returns-clause-opens_in_tail
returns-clause-opens_in_tail g c = c.in_ok-write.ensures.opens_in_tail

-- ---- what is written, where nothing is

pub returns-in_err-batch-clause-count : goal.returns-in_err-batch-clause-count
returns-in_err-batch-clause-count g c = not_given _ _ c.from_residual.result c.from_residual.ensures.1

pub returns-in_err-batch-clause-ok : goal.returns-in_err-batch-clause-ok
returns-in_err-batch-clause-ok g c = λ sound. not_ok _ _ c.from_residual.result c.from_residual.ensures.1

pub returns-in_err-batch-clause-sound : goal.returns-in_err-batch-clause-sound
returns-in_err-batch-clause-sound g c = λ sound. not_ok _ _ c.from_residual.result c.from_residual.ensures.1

pub returns-in_err-batch-clause-alone : goal.returns-in_err-batch-clause-alone
returns-in_err-batch-clause-alone g c = λ alone. not_ok _ _ c.from_residual.result c.from_residual.ensures.1

pub returns-in_err-batch-clause-opens : goal.returns-in_err-batch-clause-opens
returns-in_err-batch-clause-opens g c = λ alone. not_ok _ _ c.from_residual.result c.from_residual.ensures.1

pub returns-in_err-batch-clause-written : goal.returns-in_err-batch-clause-written
returns-in_err-batch-clause-written g c = λ before batches held. not_ok _ _ c.from_residual.result c.from_residual.ensures.1

pub returns-in_err-batch-clause-all_written : goal.returns-in_err-batch-clause-all_written
returns-in_err-batch-clause-all_written g c = not_ok _ _ c.from_residual.result c.from_residual.ensures.1

pub returns-in_err-write-clause-count : goal.returns-in_err-write-clause-count
returns-in_err-write-clause-count g c = not_given _ _ c.from_residual-in_err-write.result c.from_residual-in_err-write.ensures.1

pub returns-in_err-write-clause-ok : goal.returns-in_err-write-clause-ok
returns-in_err-write-clause-ok g c = λ sound. not_ok _ _ c.from_residual-in_err-write.result c.from_residual-in_err-write.ensures.1

pub returns-in_err-write-clause-sound : goal.returns-in_err-write-clause-sound
returns-in_err-write-clause-sound g c = λ sound. not_ok _ _ c.from_residual-in_err-write.result c.from_residual-in_err-write.ensures.1

pub returns-in_err-write-clause-alone : goal.returns-in_err-write-clause-alone
returns-in_err-write-clause-alone g c = λ alone. not_ok _ _ c.from_residual-in_err-write.result c.from_residual-in_err-write.ensures.1

pub returns-in_err-write-clause-opens : goal.returns-in_err-write-clause-opens
returns-in_err-write-clause-opens g c = λ alone. not_ok _ _ c.from_residual-in_err-write.result c.from_residual-in_err-write.ensures.1

pub returns-in_err-write-clause-written : goal.returns-in_err-write-clause-written
returns-in_err-write-clause-written g c = λ before batches held. not_ok _ _ c.from_residual-in_err-write.result c.from_residual-in_err-write.ensures.1

pub returns-in_err-write-clause-all_written : goal.returns-in_err-write-clause-all_written
returns-in_err-write-clause-all_written g c = not_ok _ _ c.from_residual-in_err-write.result c.from_residual-in_err-write.ensures.1

-- ---- as the write leaves it

pub returns-in_err-write-clause-paths : goal.returns-in_err-write-clause-paths
returns-in_err-write-clause-paths g c = c.in_err-write.ensures.paths

pub returns-in_err-write-clause-set : goal.returns-in_err-write-clause-set
returns-in_err-write-clause-set g c = c.in_err-write.ensures.set

pub returns-in_err-write-clause-threshold : goal.returns-in_err-write-clause-threshold
returns-in_err-write-clause-threshold g c = c.in_err-write.ensures.threshold

pub returns-in_err-write-clause-marks : goal.returns-in_err-write-clause-marks
returns-in_err-write-clause-marks g c = c.in_err-write.ensures.marks

pub returns-in_err-write-clause-later : goal.returns-in_err-write-clause-later
returns-in_err-write-clause-later g c = c.in_err-write.ensures.later
