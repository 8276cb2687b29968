use Rattle.raft_log_disk.proofs.CauseLemmas.{at_err}
use Rattle.raft_log_pipe.specs.Alone.{IsAlone, IsNearlyAlone}
use Rattle.raft_log_pipe.proofs.ExitLemmas.{again_err, again_ok, put_after, still_before, unless_no_space, unput_after, unput_from}
use Rattle.std.proofs.Common.{refl, Err}
use Rattle.raft_log_pipe.proofs.BlockLemmas.{after_files, same_files, stands_after, stands_ok, then_files}
use Rattle.raft_log_pipe.proofs.AloneLemmas.{alone_on, err_after, nearly_on, ok_after}
use Rattle.raft_log_pipe.proofs.FirstLemmas.{same_first}
use Rattle.raft_log_pipe.proofs.OthersLemmas.{others_on}
use Rattle.raft_log_disk.proofs.RefusalLemmas.{lacks_then, no_more_then, still_free}
use Rattle.std.proofs.Common.{◌≡◌, ◌⊎◌, inr, ap, ◌∙◌}
use Rattle.raft_log_disk.specs.Disk.{Disk}
use Rattle.raft_log_files.specs.Error.{io_error}
use Rattle.raft_log_records.specs.declared.file_id.FileBlockHandle.{FileBlockHandle}
use Rattle.raft_log_pipe.specs.declared.pipe.SinglePipe.{SinglePipe}
use Rattle.raft_log_pipe.specs.Taken.{IsBarred, IsFull, IsTooLarge, IsUnmade, IsUnnumbered}
use Rattle.raft_log_pipe.proofs.TakenLemmas.{large_before, no_space_large, same_main, still_taken, taken_io, taken_more, told_error, unmade_before, unnumbered_before}
use Rattle.std.proofs.Common.{ℕ, ◌+◌, ◌<◌, ◌^◌, subst}
use Rattle.std.specs.Prelude.{IfOk}
use Rattle.raft_log_records.specs.Spelling.{record_len}
use Rattle.raft_log_file.specs.Laws.{Batch}
use Rattle.raft_log_disk.specs.Cause.{Lacks, Rises}
use Rattle.raft_log_files.specs.declared.error.Error.{Error}
use Rattle.raft_log_pipe.specs.Caused.{BeginsFiles, IsAppendFault, LacksNumber, LacksPlace}
use Rattle.raft_log_pipe.proofs.CausedLemmas.{append_behind, begins_first, caused_for, rises_then, seq_on, told_cause, told_io}
use Rattle.std.proofs.lemmas.Result.{on_err_weaker, on_ok_weaker}
use Rattle.raft_log_pipe.proofs.TornLemmas.{torn_then}
use Rattle.raft_log_pipe.proofs.PurgeLemmas.{last_on}
use Rattle.raft_log_pipe.proofs.ReuseLemmas.{left_same}
use Rattle.raft_log_pipe.proofs.EndLemmas.{not_given, not_ok}
use Rattle.raft_log_pipe.proofs.pipe.SinglePipe.append.Goals as goal

pub returns-in_err-make_room-clause-err : goal.returns-in_err-make_room-clause-err
returns-in_err-make_room-clause-err g c = at_err _ _ (unput_from c.args.self.now c.make_room.new.self (g.F.FileSystem.disk c.args.files.now) (g.F.FileSystem.disk c.make_room.new.files) c.args.batch.now.items c.in_err-make_room.ensures.err)

pub returns-in-Ok-clause-ok : goal.returns-in-Ok-clause-ok
returns-in-Ok-clause-ok g c =
    put_after c.args.self.now c.make_room.new.self (g.F.FileSystem.disk c.args.files.now) (g.F.FileSystem.disk c.make_room.new.files) c.put.new.self (g.F.FileSystem.disk c.put.new.files) c.in-Ok.handle c.args.batch.now.items
    c.in_ok-make_room.ensures.ok c.in-Ok.ensures.ok.0 c.in-Ok.ensures.ok.1

pub returns-in-Err-NoSpace-clause-ok : goal.returns-in-Err-NoSpace-clause-ok
returns-in-Err-NoSpace-clause-ok g c =
    again_ok c.put_again.result c.args.self.now c.put.new.self (g.F.FileSystem.disk c.args.files.now) (g.F.FileSystem.disk c.put.new.files) c.put_again.new.self (g.F.FileSystem.disk c.put_again.new.files) c.args.batch.now.items c.put.new.batch.items
    (still_before c.args.self.now c.make_room.new.self c.put.new.self (g.F.FileSystem.disk c.args.files.now) (g.F.FileSystem.disk c.make_room.new.files) (g.F.FileSystem.disk c.put.new.files) c.in_ok-make_room.ensures.ok (unless_no_space c.in-Err-NoSpace.field-0 _ c.in-Err-NoSpace.field-0-is c.in-Err-NoSpace.ensures.unwritten)) c.in-Err-NoSpace.ensures.batch.0 c.put_again.ensures.ok

pub returns-in-Err-NoSpace-clause-err : goal.returns-in-Err-NoSpace-clause-err
returns-in-Err-NoSpace-clause-err g c =
    again_err c.put_again.result c.args.self.now c.put.new.self (g.F.FileSystem.disk c.args.files.now) (g.F.FileSystem.disk c.put.new.files) c.put_again.new.self (g.F.FileSystem.disk c.put_again.new.files) c.args.batch.now.items c.put.new.batch.items
    (still_before c.args.self.now c.make_room.new.self c.put.new.self (g.F.FileSystem.disk c.args.files.now) (g.F.FileSystem.disk c.make_room.new.files) (g.F.FileSystem.disk c.put.new.files) c.in_ok-make_room.ensures.ok (unless_no_space c.in-Err-NoSpace.field-0 _ c.in-Err-NoSpace.field-0-is c.in-Err-NoSpace.ensures.unwritten)) c.in-Err-NoSpace.ensures.batch.0 c.put_again.ensures.err

pub returns-in-Err-clause-err : goal.returns-in-Err-clause-err
returns-in-Err-clause-err g c =
    unput_after c.args.self.now c.make_room.new.self (g.F.FileSystem.disk c.args.files.now) (g.F.FileSystem.disk c.make_room.new.files) c.put.new.self (g.F.FileSystem.disk c.put.new.files) c.make_room.new.self.active.seq c.args.batch.now.items
    c.in_ok-make_room.ensures.ok c.in-Err.ensures.err

pub returns-in-Ok-clause-stands : goal.returns-in-Ok-clause-stands
returns-in-Ok-clause-stands g c =
    stands_after c.args.self.now c.make_room.new.self (g.F.FileSystem.disk c.args.files.now) (g.F.FileSystem.disk c.make_room.new.files) c.put.new.self c.args.batch.now.items c.args.batch.now.items c.in-Ok.handle
    c.in_ok-make_room.ensures.ok refl c.in-Ok.ensures.stands

pub returns-in-Err-NoSpace-clause-stands : goal.returns-in-Err-NoSpace-clause-stands
returns-in-Err-NoSpace-clause-stands g c =
    stands_ok c.put_again.result c.args.self.now c.put.new.self (g.F.FileSystem.disk c.args.files.now) (g.F.FileSystem.disk c.put.new.files) c.put_again.new.self c.args.batch.now.items c.put.new.batch.items
    (still_before c.args.self.now c.make_room.new.self c.put.new.self (g.F.FileSystem.disk c.args.files.now) (g.F.FileSystem.disk c.make_room.new.files) (g.F.FileSystem.disk c.put.new.files) c.in_ok-make_room.ensures.ok (unless_no_space c.in-Err-NoSpace.field-0 _ c.in-Err-NoSpace.field-0-is c.in-Err-NoSpace.ensures.unwritten)) c.in-Err-NoSpace.ensures.batch.0 c.put_again.ensures.stands

pub returns-in-Ok-clause-files : goal.returns-in-Ok-clause-files
returns-in-Ok-clause-files g c =
    then_files c.args.self.now c.make_room.new.self c.put.new.self c.in_ok-make_room.ensures.files (same_files c.make_room.new.self c.put.new.self c.in-Ok.ensures.same.0 c.in-Ok.ensures.same.1)

pub returns-in-Err-NoSpace-clause-files : goal.returns-in-Err-NoSpace-clause-files
returns-in-Err-NoSpace-clause-files g c =
    after_files c.put_again.result c.args.self.now c.put.new.self c.put_again.new.self
    (then_files c.args.self.now c.make_room.new.self c.put.new.self c.in_ok-make_room.ensures.files (same_files c.make_room.new.self c.put.new.self c.in-Err-NoSpace.ensures.same.0 c.in-Err-NoSpace.ensures.same.1))
    c.put_again.ensures.files

pub returns-in-Ok-clause-first : goal.returns-in-Ok-clause-first
returns-in-Ok-clause-first g c = same_first c.make_room.new.self c.put.new.self (c.in-Ok.ensures.same.0, c.in-Ok.ensures.same.1) ∙ c.in_ok-make_room.ensures.first

pub returns-in-Err-NoSpace-clause-first : goal.returns-in-Err-NoSpace-clause-first
returns-in-Err-NoSpace-clause-first g c =
    on_ok_weaker c.put_again.result (λ first. first ∙ same_first c.make_room.new.self c.put.new.self (c.in-Err-NoSpace.ensures.same.0, c.in-Err-NoSpace.ensures.same.1) ∙ c.in_ok-make_room.ensures.first) c.put_again.ensures.first

pub returns-in-Ok-clause-alone : goal.returns-in-Ok-clause-alone
returns-in-Ok-clause-alone g c = λ alone. alone_on c.make_room.new.self c.put.new.self (g.F.FileSystem.disk c.make_room.new.files) (g.F.FileSystem.disk c.put.new.files) c.in-Ok.ensures.same c.in-Ok.ensures.paths c.in-Ok.ensures.names (c.in_ok-make_room.ensures.alone alone)

pub returns-in-Err-NoSpace-clause-alone : goal.returns-in-Err-NoSpace-clause-alone
returns-in-Err-NoSpace-clause-alone g c =
    ok_after (IsAlone c.args.self.now (g.F.FileSystem.disk c.args.files.now)) (IsAlone c.put.new.self (g.F.FileSystem.disk c.put.new.files)) (IsAlone c.put_again.new.self (g.F.FileSystem.disk c.put_again.new.files)) c.put_again.result
    (λ alone. alone_on c.make_room.new.self c.put.new.self (g.F.FileSystem.disk c.make_room.new.files) (g.F.FileSystem.disk c.put.new.files) c.in-Err-NoSpace.ensures.same c.in-Err-NoSpace.ensures.paths c.in-Err-NoSpace.ensures.names (c.in_ok-make_room.ensures.alone alone)) c.put_again.ensures.alone

pub returns-in-Err-NoSpace-clause-nearly : goal.returns-in-Err-NoSpace-clause-nearly
returns-in-Err-NoSpace-clause-nearly g c =
    err_after (IsAlone c.args.self.now (g.F.FileSystem.disk c.args.files.now)) (IsAlone c.put.new.self (g.F.FileSystem.disk c.put.new.files)) (IsNearlyAlone c.put_again.new.self (g.F.FileSystem.disk c.put_again.new.files)) c.put_again.result
    (λ alone. alone_on c.make_room.new.self c.put.new.self (g.F.FileSystem.disk c.make_room.new.files) (g.F.FileSystem.disk c.put.new.files) c.in-Err-NoSpace.ensures.same c.in-Err-NoSpace.ensures.paths c.in-Err-NoSpace.ensures.names (c.in_ok-make_room.ensures.alone alone)) c.put_again.ensures.nearly

pub returns-in-Err-clause-nearly : goal.returns-in-Err-clause-nearly
returns-in-Err-clause-nearly g c = λ alone. nearly_on c.make_room.new.self c.put.new.self (g.F.FileSystem.disk c.make_room.new.files) (g.F.FileSystem.disk c.put.new.files) c.in-Err.ensures.same c.in-Err.ensures.paths c.in-Err.ensures.names (c.in_ok-make_room.ensures.alone alone)

pub returns-in-Ok-clause-others : goal.returns-in-Ok-clause-others
returns-in-Ok-clause-others g c =
    others_on c.args.self.now.queue c.make_room.new.self.queue (g.F.FileSystem.disk c.args.files.now) (g.F.FileSystem.disk c.make_room.new.files) (g.F.FileSystem.disk c.put.new.files) (c.in_ok-make_room.ensures.queue) (c.in_ok-make_room.ensures.others) (c.in-Ok.ensures.others)

pub returns-in-Err-clause-others : goal.returns-in-Err-clause-others
returns-in-Err-clause-others g c =
    others_on c.args.self.now.queue c.make_room.new.self.queue (g.F.FileSystem.disk c.args.files.now) (g.F.FileSystem.disk c.make_room.new.files) (g.F.FileSystem.disk c.put.new.files) (c.in_ok-make_room.ensures.queue) (c.in_ok-make_room.ensures.others) (c.in-Err.ensures.others)

pub returns-in-Err-NoSpace-clause-others : goal.returns-in-Err-NoSpace-clause-others
returns-in-Err-NoSpace-clause-others g c =
    others_on c.args.self.now.queue c.make_room.new.self.queue (g.F.FileSystem.disk c.args.files.now) (g.F.FileSystem.disk c.make_room.new.files) (g.F.FileSystem.disk c.put_again.new.files) (c.in_ok-make_room.ensures.queue) (c.in_ok-make_room.ensures.others) (others_on c.make_room.new.self.queue c.put.new.self.queue (g.F.FileSystem.disk c.make_room.new.files) (g.F.FileSystem.disk c.put.new.files) (g.F.FileSystem.disk c.put_again.new.files) c.in-Err-NoSpace.ensures.same.2 c.in-Err-NoSpace.ensures.others c.put_again.ensures.others)

pub returns-in-Ok-clause-later : goal.returns-in-Ok-clause-later
returns-in-Ok-clause-later g c = no_more_then c.in_ok-make_room.ensures.later c.in-Ok.ensures.later

pub returns-in-Err-clause-later : goal.returns-in-Err-clause-later
returns-in-Err-clause-later g c = no_more_then c.in_ok-make_room.ensures.later c.in-Err.ensures.later

pub returns-in-Err-NoSpace-clause-later : goal.returns-in-Err-NoSpace-clause-later
returns-in-Err-NoSpace-clause-later g c = no_more_then c.in_ok-make_room.ensures.later (no_more_then c.in-Err-NoSpace.ensures.later c.put_again.ensures.later)

pub returns-in-Err-clause-taken : goal.returns-in-Err-clause-taken
returns-in-Err-clause-taken g c =
    let p = c.args.self.now in
    let d = g.F.FileSystem.disk c.args.files.now in
    let items = c.args.batch.now.items in
    let needs : Type 0 = IsFull p ⊎ IsTooLarge p items in
    λ free.
    told_error FileBlockHandle (needs × IsUnnumbered p) (needs × IsUnmade p d) ((IsFull p × IsBarred p d) ⊎ IsTooLarge p items) c.from.result (io_error c.in-Err.fault) c.from.ensures
    (taken_io FileBlockHandle FileBlockHandle (needs × IsUnnumbered p) (needs × IsUnmade p d) ((IsFull p × IsBarred p d) ⊎ IsTooLarge p items) c.in-Err.fault
    (still_taken FileBlockHandle FileBlockHandle ⊥ (IsTooLarge c.make_room.new.self items) (needs × IsUnmade p d) ((IsFull p × IsBarred p d) ⊎ IsTooLarge p items) c.in-Err.fault
    (λ x. absurd x) (λ large. inr (large_before p c.make_room.new.self _ items c.in_ok-make_room.ensures.room c.requires.items large).0)
    (c.in-Err.ensures.taken (still_free free c.in_ok-make_room.ensures.later))))

pub returns-in-Err-NoSpace-clause-taken : goal.returns-in-Err-NoSpace-clause-taken
returns-in-Err-NoSpace-clause-taken g c =
    let p = c.args.self.now in
    let m = c.make_room.new.self in
    let q = c.put.new.self in
    let d = g.F.FileSystem.disk c.args.files.now in
    let e = g.F.FileSystem.disk c.put.new.files in
    let items = c.args.batch.now.items in
    let needs : Type 0 = IsFull p ⊎ IsTooLarge p items in
    λ free.
    let large = large_before p m _ items c.in_ok-make_room.ensures.room c.requires.items
    (no_space_large FileBlockHandle ⊥ (IsTooLarge m items) c.in-Err-NoSpace.field-0 c.in-Err-NoSpace.field-0-is (c.in-Err-NoSpace.ensures.taken (still_free free c.in_ok-make_room.ensures.later))) in
    let active : q.active ≡ p.active = c.in-Err-NoSpace.ensures.same.0 ∙ ap (λ (x : SinglePipe). x.active) large.1 in
    let path = same_main p q active (c.in-Err-NoSpace.ensures.same.2 ∙ ap (λ (x : SinglePipe). x.queue) large.1) (c.in-Err-NoSpace.ensures.paths ∙ ap (λ (x : SinglePipe). x.paths) large.1) in
    let directories : e.directories ≡ d.directories = c.in-Err-NoSpace.ensures.others.directories ∙ ap (λ (x : Disk). x.directories) large.2 in
    taken_more (IsUnnumbered q) (IsUnmade q e) (IsBarred q e) (needs × IsUnnumbered p) (needs × IsUnmade p d) ((IsFull p × IsBarred p d) ⊎ IsTooLarge p items) c.put_again.result
    (λ x. (inr large.0, unnumbered_before p q active x)) (λ x. (inr large.0, unmade_before p q d e path directories x)) (λ x. inr large.0)
    (c.put_again.ensures.taken (still_free free (no_more_then c.in_ok-make_room.ensures.later c.in-Err-NoSpace.ensures.later)))

pub returns-in_err-make_room-clause-cause : goal.returns-in_err-make_room-clause-cause
returns-in_err-make_room-clause-cause g c =
    let p = c.args.self.now in
    let d = g.F.FileSystem.disk c.args.files.now in
    let a = g.F.FileSystem.meter c.args.files.now in
    let b = g.F.FileSystem.meter c.make_room.new.files in
    let before : Lacks 0 a b = c.in_err-make_room.ensures.later.spaces in
    told_cause c.from_residual.result c.in_err-make_room.field-0.0 (λ (e : Error). IsAppendFault p d a b e) c.from_residual.ensures.1
    (caused_for (Rises 1 a b) ⊥ (IsFull p × IsUnnumbered p) (IsFull p × LacksPlace p d 1)
    (Rises 1 a b) (Lacks 2 a b) ((n : ℕ) × BeginsFiles (IsFull p) a b n × LacksNumber p n) ((n : ℕ) × BeginsFiles (IsFull p) a b n × LacksPlace p d n) c.in_err-make_room.field-0.0
    (λ x. x) (λ x. absurd x) (λ (full, x). (1, begins_first (IsFull p) a b full before, x)) (λ (full, x). (1, begins_first (IsFull p) a b full before, x)) c.in_err-make_room.ensures.cause)

pub returns-in-Err-clause-cause : goal.returns-in-Err-clause-cause
returns-in-Err-clause-cause g c =
    let p = c.args.self.now in
    let d = g.F.FileSystem.disk c.args.files.now in
    let a = g.F.FileSystem.meter c.args.files.now in
    let b = g.F.FileSystem.meter c.make_room.new.files in
    let e = g.F.FileSystem.meter c.put.new.files in
    let place : Type 0 = (n : ℕ) × BeginsFiles (IsFull p) a e n × LacksPlace p d n in
    told_io FileBlockHandle (Rises 1 a e) (Lacks 2 a e) ((n : ℕ) × BeginsFiles (IsFull p) a e n × LacksNumber p n) place c.from.result c.in-Err.fault c.from.ensures
    (still_taken FileBlockHandle FileBlockHandle ⊥ (Rises 1 b e) place (Rises 1 a e) c.in-Err.fault (λ x. absurd x) (rises_then 0 1 a b e c.in_ok-make_room.ensures.later.counts) c.in-Err.ensures.cause)

pub returns-in-Err-NoSpace-clause-cause : goal.returns-in-Err-NoSpace-clause-cause
returns-in-Err-NoSpace-clause-cause g c =
    let p = c.args.self.now in
    let m = c.make_room.new.self in
    let q = c.put.new.self in
    let d = g.F.FileSystem.disk c.args.files.now in
    let y = g.F.FileSystem.disk c.put.new.files in
    let a = g.F.FileSystem.meter c.args.files.now in
    let b = g.F.FileSystem.meter c.make_room.new.files in
    let e = g.F.FileSystem.meter c.put.new.files in
    let i = g.F.FileSystem.meter c.put_again.new.files in
    append_behind p q d y a e i c.put_again.result (seq_on p m q c.in_ok-make_room.ensures.begins c.in-Err-NoSpace.ensures.same.0) (c.in-Err-NoSpace.ensures.others.directories ∙ c.in_ok-make_room.ensures.others.directories)
    (c.in-Err-NoSpace.ensures.paths ∙ c.in_ok-make_room.ensures.paths) (c.in-Err-NoSpace.ensures.same.2 ∙ c.in_ok-make_room.ensures.queue)
    (rises_then 0 0 a b e c.in_ok-make_room.ensures.later.counts c.in-Err-NoSpace.ensures.later.counts)
    (lacks_then 0 1 a b e c.in_ok-make_room.ensures.later.spaces (c.in-Err-NoSpace.ensures.lacks (ap Err c.in-Err-NoSpace.field-0-is)))
    c.put_again.ensures.cause

-- ---- which file may be torn

pub returns-in_err-make_room-clause-torn : goal.returns-in_err-make_room-clause-torn
returns-in_err-make_room-clause-torn g c = at_err _ _ c.in_err-make_room.ensures.torn

pub returns-in-Err-clause-torn : goal.returns-in-Err-clause-torn
returns-in-Err-clause-torn g c =
    torn_then c.args.self.now c.make_room.new.self c.put.new.self (g.F.FileSystem.disk c.args.files.now) (g.F.FileSystem.disk c.make_room.new.files) (g.F.FileSystem.disk c.put.new.files)
    c.in_ok-make_room.ensures.alone c.in_ok-make_room.ensures.ok c.in-Err.ensures.torn

pub returns-in-Err-NoSpace-clause-torn : goal.returns-in-Err-NoSpace-clause-torn
returns-in-Err-NoSpace-clause-torn g c = on_err_weaker c.put_again.result
    (torn_then c.args.self.now c.put.new.self c.put_again.new.self (g.F.FileSystem.disk c.args.files.now) (g.F.FileSystem.disk c.put.new.files) (g.F.FileSystem.disk c.put_again.new.files)
    (λ alone. alone_on c.make_room.new.self c.put.new.self (g.F.FileSystem.disk c.make_room.new.files) (g.F.FileSystem.disk c.put.new.files) c.in-Err-NoSpace.ensures.same c.in-Err-NoSpace.ensures.paths c.in-Err-NoSpace.ensures.names (c.in_ok-make_room.ensures.alone alone))
    (still_before c.args.self.now c.make_room.new.self c.put.new.self (g.F.FileSystem.disk c.args.files.now) (g.F.FileSystem.disk c.make_room.new.files) (g.F.FileSystem.disk c.put.new.files) c.in_ok-make_room.ensures.ok
    (unless_no_space c.in-Err-NoSpace.field-0 _ c.in-Err-NoSpace.field-0-is c.in-Err-NoSpace.ensures.unwritten))) c.put_again.ensures.torn

-- ---- reserved files

pub returns-in-Err-NoSpace-clause-reserved : goal.returns-in-Err-NoSpace-clause-reserved
returns-in-Err-NoSpace-clause-reserved g c =
    last_on c.args.self.now.reserved.items c.make_room.new.self.reserved.items c.put_again.new.self.reserved.items c.in_ok-make_room.ensures.reserved
    (last_on c.make_room.new.self.reserved.items c.put.new.self.reserved.items c.put_again.new.self.reserved.items (left_same c.make_room.new.self.reserved c.put.new.self.reserved c.in-Err-NoSpace.ensures.reserved)
    c.put_again.ensures.reserved)

pub returns-in-Err-NoSpace-clause-fits : goal.returns-in-Err-NoSpace-clause-fits
returns-in-Err-NoSpace-clause-fits g c =
    subst (λ (items : Batch). IfOk c.put_again.result (λ h. h.offset + record_len items < 2 ^ 64)) c.in-Err-NoSpace.ensures.batch.0 c.put_again.ensures.fits

pub returns-in_err-make_room-clause-pipe : goal.returns-in_err-make_room-clause-pipe
returns-in_err-make_room-clause-pipe g c = not_ok _ _ c.from_residual.result c.from_residual.ensures.1

pub returns-in_err-make_room-clause-alone : goal.returns-in_err-make_room-clause-alone
returns-in_err-make_room-clause-alone g c = not_ok _ _ c.from_residual.result c.from_residual.ensures.1

pub returns-in_err-make_room-clause-files : goal.returns-in_err-make_room-clause-files
returns-in_err-make_room-clause-files g c = not_ok _ _ c.from_residual.result c.from_residual.ensures.1

pub returns-in_err-make_room-clause-first : goal.returns-in_err-make_room-clause-first
returns-in_err-make_room-clause-first g c = not_ok _ _ c.from_residual.result c.from_residual.ensures.1

pub returns-in_err-make_room-clause-ok : goal.returns-in_err-make_room-clause-ok
returns-in_err-make_room-clause-ok g c = not_given _ _ c.from_residual.result c.from_residual.ensures.1

pub returns-in_err-make_room-clause-stands : goal.returns-in_err-make_room-clause-stands
returns-in_err-make_room-clause-stands g c = not_given _ _ c.from_residual.result c.from_residual.ensures.1

pub returns-in_err-make_room-clause-fits : goal.returns-in_err-make_room-clause-fits
returns-in_err-make_room-clause-fits g c = not_given _ _ c.from_residual.result c.from_residual.ensures.1
