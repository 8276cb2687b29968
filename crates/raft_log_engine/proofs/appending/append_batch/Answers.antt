-- An append without a sync, with one, and with one that is refused.
use Rattle.std.proofs.Common.{Bool, sym, subst, ◌++◌, ◌∷◌, [], ◌∙◌}
use Rattle.raft_log_disk.proofs.CauseLemmas.{at_err}
use Rattle.raft_log_pipe.specs.Alone.{IsAlone, IsNearlyAlone}
use Rattle.raft_log_pipe.proofs.AloneLemmas.{alone_on, nearly_on}
use Rattle.raft_log_pipe.proofs.BlockLemmas.{same_files, then_files}
use Rattle.raft_log_blocks.specs.Held.{HoldsMore}
use Rattle.raft_log_blocks.proofs.HeldLemmas.{then_as_before}
use Rattle.raft_log_engine.proofs.Appended.{appended_more, set_then, still_stands, synced_more, unsynced_leaves, unsynced_torn}
use Rattle.raft_log_disk.proofs.RefusalLemmas.{no_more_then, spends_then, still_free}
use Rattle.raft_log_records.specs.declared.file_id.FileBlockHandle.{FileBlockHandle}
use Rattle.raft_log_engine.proofs.Taken.{sync_for}
use Rattle.std.proofs.Common.{ℕ}
use Rattle.raft_log_disk.specs.Cause.{Lacks, Rises}
use Rattle.raft_log_files.specs.declared.error.Error.{Error}
use Rattle.raft_log_pipe.specs.Caused.{BeginsFiles, IsAppendFault, LacksNumber, LacksPlace}
use Rattle.raft_log_pipe.specs.Taken.{IsFull}
use Rattle.raft_log_pipe.proofs.CausedLemmas.{caused_for, rises_then, told_cause}
use Rattle.raft_log_pipe.specs.Torn.{TearsAtEnd}
use Rattle.raft_log_engine.proofs.appending.append_batch.Goals as goal

pub returns-then-not-sync-clause-ok : goal.returns-then-not-sync-clause-ok
returns-then-not-sync-clause-ok g c =
    λ s u holds. subst (λ (b : Bool). HoldsMore c.append.new.self.append (g.F.FileSystem.disk c.append.new.files) b s (u ++ (c.in_ok-handle.handle.id.seq, c.args.batch.now.items) ∷ [])) (sym c.if-not-sync.true)
    (appended_more c.args.pipes.now.append c.append.new.self.append (g.F.FileSystem.disk c.args.files.now) (g.F.FileSystem.disk c.append.new.files) c.in_ok-handle.handle.id.seq c.args.batch.now.items c.in_ok-handle.ensures.call.ok s u holds)

pub returns-in_err-sync-clause-err : goal.returns-in_err-sync-clause-err
returns-in_err-sync-clause-err g c =
    at_err _ _ (unsynced_leaves c.args.pipes.now.append c.append.new.self.append c.sync.new.self.append (g.F.FileSystem.disk c.args.files.now) (g.F.FileSystem.disk c.append.new.files) (g.F.FileSystem.disk c.sync.new.files) c.in_ok-handle.handle.id.seq c.args.batch.now.items
    c.in_ok-handle.ensures.call.ok c.in_err-sync.ensures.call.err)

pub returns-in_err-sync-clause-nearly : goal.returns-in_err-sync-clause-nearly
returns-in_err-sync-clause-nearly g c =
    let same = c.in_err-sync.ensures.call.same in
    at_err _ (IsAlone c.args.pipes.now.append (g.F.FileSystem.disk c.args.files.now) → IsNearlyAlone c.sync.new.self.append (g.F.FileSystem.disk c.sync.new.files))
    (λ alone. nearly_on c.append.new.self.append c.sync.new.self.append (g.F.FileSystem.disk c.append.new.files) (g.F.FileSystem.disk c.sync.new.files) (same.0, same.1, c.sync.new.self.appends ∙ sym c.append.new.self.appends) c.in_err-sync.ensures.call.paths c.in_err-sync.ensures.call.names
    (c.in_ok-handle.ensures.call.alone alone))

pub returns-clause-ok : goal.returns-clause-ok
returns-clause-ok g c =
    λ s u holds. subst (λ (b : Bool). HoldsMore c.sync.new.self.append (g.F.FileSystem.disk c.sync.new.files) b s (u ++ (c.in_ok-handle.handle.id.seq, c.args.batch.now.items) ∷ [])) (sym c.if-not-sync.false)
    (synced_more c.args.pipes.now.append c.append.new.self.append c.sync.new.self.append (g.F.FileSystem.disk c.args.files.now) (g.F.FileSystem.disk c.append.new.files) (g.F.FileSystem.disk c.sync.new.files) c.in_ok-handle.handle.id.seq c.args.batch.now.items
    c.in_ok-handle.ensures.call.ok c.in_ok-sync.ensures.call.ok s u holds)

pub returns-clause-stands : goal.returns-clause-stands
returns-clause-stands g c =
    still_stands c.args.pipes.now.append c.append.new.self.append c.sync.new.self.append (g.F.FileSystem.disk c.args.files.now) c.args.batch.now.items c.in_ok-handle.handle
    c.in_ok-handle.ensures.call.stands (c.sync.new.self.appends ∙ sym c.append.new.self.appends) c.in_ok-sync.ensures.call.same.0

pub returns-clause-files : goal.returns-clause-files
returns-clause-files g c =
    then_files c.args.pipes.now.append c.append.new.self.append c.sync.new.self.append c.in_ok-handle.ensures.call.files (same_files c.append.new.self.append c.sync.new.self.append c.in_ok-sync.ensures.call.same.0 c.in_ok-sync.ensures.call.same.1)

pub returns-clause-alone : goal.returns-clause-alone
returns-clause-alone g c =
    let same = c.in_ok-sync.ensures.call.same in
    λ alone. alone_on c.append.new.self.append c.sync.new.self.append (g.F.FileSystem.disk c.append.new.files) (g.F.FileSystem.disk c.sync.new.files) (same.0, same.1, c.sync.new.self.appends ∙ sym c.append.new.self.appends) c.in_ok-sync.ensures.call.paths c.in_ok-sync.ensures.call.names
    (c.in_ok-handle.ensures.call.alone alone)

pub returns-in_err-sync-clause-other : goal.returns-in_err-sync-clause-other
returns-in_err-sync-clause-other g c = then_as_before _ _ _ _ _ _ c.in_ok-handle.ensures.other c.in_err-sync.ensures.other

pub returns-clause-other : goal.returns-clause-other
returns-clause-other g c = then_as_before _ _ _ _ _ _ c.in_ok-handle.ensures.other c.in_ok-sync.ensures.other

pub returns-in_err-sync-clause-later : goal.returns-in_err-sync-clause-later
returns-in_err-sync-clause-later g c = no_more_then c.in_ok-handle.ensures.later c.in_err-sync.ensures.later

pub returns-clause-later : goal.returns-clause-later
returns-clause-later g c = no_more_then c.in_ok-handle.ensures.later c.in_ok-sync.ensures.later

pub returns-clause-spends : goal.returns-clause-spends
returns-clause-spends g c = λ synced.
    spends_then (g.F.FileSystem.meter c.args.files.now) (g.F.FileSystem.meter c.append.new.files) (g.F.FileSystem.meter c.sync.new.files) c.in_ok-handle.ensures.later c.in_ok-sync.ensures.spends

pub returns-in_err-sync-clause-taken : goal.returns-in_err-sync-clause-taken
returns-in_err-sync-clause-taken g c = λ free.
    sync_for FileBlockHandle c.args.pipes.now.append (g.F.FileSystem.disk c.args.files.now) c.args.batch.now.items c.from_residual-in_err-sync.result c.in_err-sync.field-0.0 c.from_residual-in_err-sync.ensures.1
    (c.in_err-sync.ensures.taken (still_free free c.in_ok-handle.ensures.later))

-- ---- what the append itself says

pub returns-in_err-handle-clause-nearly : goal.returns-in_err-handle-clause-nearly
returns-in_err-handle-clause-nearly g c = at_err _ _ c.in_err-handle.ensures.call.nearly

pub returns-in_err-handle-clause-err : goal.returns-in_err-handle-clause-err
returns-in_err-handle-clause-err g c = at_err _ _ c.in_err-handle.ensures.call.err

pub returns-in_err-handle-clause-paths : goal.returns-in_err-handle-clause-paths
returns-in_err-handle-clause-paths g c = c.in_err-handle.ensures.call.paths

pub returns-then-not-sync-clause-paths : goal.returns-then-not-sync-clause-paths
returns-then-not-sync-clause-paths g c = c.in_ok-handle.ensures.call.paths

pub returns-then-not-sync-clause-alone : goal.returns-then-not-sync-clause-alone
returns-then-not-sync-clause-alone g c = c.in_ok-handle.ensures.call.alone

pub returns-then-not-sync-clause-files : goal.returns-then-not-sync-clause-files
returns-then-not-sync-clause-files g c = c.in_ok-handle.ensures.call.files

pub returns-then-not-sync-clause-stands : goal.returns-then-not-sync-clause-stands
returns-then-not-sync-clause-stands g c = c.in_ok-handle.ensures.call.stands

pub returns-then-not-sync-clause-fits : goal.returns-then-not-sync-clause-fits
returns-then-not-sync-clause-fits g c = c.in_ok-handle.ensures.call.fits

pub returns-in_err-sync-clause-paths : goal.returns-in_err-sync-clause-paths
returns-in_err-sync-clause-paths g c = c.in_err-sync.ensures.call.paths ∙ c.in_ok-handle.ensures.call.paths

pub returns-clause-paths : goal.returns-clause-paths
returns-clause-paths g c = c.in_ok-sync.ensures.call.paths ∙ c.in_ok-handle.ensures.call.paths

pub returns-clause-fits : goal.returns-clause-fits
returns-clause-fits g c = c.in_ok-handle.ensures.call.fits

pub returns-in_err-handle-clause-cause : goal.returns-in_err-handle-clause-cause
returns-in_err-handle-clause-cause g c =
    told_cause c.from_residual.result c.in_err-handle.field-0.0 (λ (x : Error). IsAppendFault c.args.pipes.now.append (g.F.FileSystem.disk c.args.files.now) (g.F.FileSystem.meter c.args.files.now) (g.F.FileSystem.meter c.append.new.files) x)
    c.from_residual.ensures.1 c.in_err-handle.ensures.cause

pub returns-in_err-sync-clause-cause : goal.returns-in_err-sync-clause-cause
returns-in_err-sync-clause-cause g c =
    let p = c.args.pipes.now.append in
    let d = g.F.FileSystem.disk c.args.files.now in
    let a = g.F.FileSystem.meter c.args.files.now in
    let b = g.F.FileSystem.meter c.append.new.files in
    let e = g.F.FileSystem.meter c.sync.new.files in
    told_cause c.from_residual-in_err-sync.result c.in_err-sync.field-0.0 (λ (x : Error). IsAppendFault p d a e x) c.from_residual-in_err-sync.ensures.1
    (caused_for (Rises 1 b e) ⊥ ⊥ ⊥ (Rises 1 a e) (Lacks 2 a e) ((n : ℕ) × BeginsFiles (IsFull p) a e n × LacksNumber p n) ((n : ℕ) × BeginsFiles (IsFull p) a e n × LacksPlace p d n) c.in_err-sync.field-0.0
    (rises_then 0 1 a b e c.in_ok-handle.ensures.later.counts) (λ x. absurd x) (λ x. absurd x) (λ x. absurd x) c.in_err-sync.ensures.cause)

-- ---- which file may be torn

pub returns-in_err-handle-clause-torn : goal.returns-in_err-handle-clause-torn
returns-in_err-handle-clause-torn g c = at_err _ _ c.in_err-handle.ensures.call.torn

pub returns-in_err-sync-clause-torn : goal.returns-in_err-sync-clause-torn
returns-in_err-sync-clause-torn g c =
    let same = c.in_err-sync.ensures.call.same in
    at_err _ (TearsAtEnd c.args.pipes.now.append (g.F.FileSystem.disk c.args.files.now) c.sync.new.self.append (g.F.FileSystem.disk c.sync.new.files))
    (unsynced_torn c.args.pipes.now.append c.append.new.self.append c.sync.new.self.append (g.F.FileSystem.disk c.args.files.now) (g.F.FileSystem.disk c.append.new.files) (g.F.FileSystem.disk c.sync.new.files) c.in_ok-handle.handle.id.seq c.args.batch.now.items
    (λ alone. alone_on c.append.new.self.append c.sync.new.self.append (g.F.FileSystem.disk c.append.new.files) (g.F.FileSystem.disk c.sync.new.files) (same.0, same.1, c.sync.new.self.appends ∙ sym c.append.new.self.appends) c.in_err-sync.ensures.call.paths c.in_err-sync.ensures.call.names
    (c.in_ok-handle.ensures.call.alone alone))
    c.in_ok-handle.ensures.call.ok c.in_err-sync.ensures.call.err)

-- ---- the settings stay

pub returns-in_err-sync-clause-set : goal.returns-in_err-sync-clause-set
returns-in_err-sync-clause-set g c = set_then c.args.pipes.now c.append.new.self c.sync.new.self c.in_ok-handle.ensures.set c.in_err-sync.ensures.set

pub returns-clause-set : goal.returns-clause-set
returns-clause-set g c = set_then c.args.pipes.now c.append.new.self c.sync.new.self c.in_ok-handle.ensures.set c.in_ok-sync.ensures.set
