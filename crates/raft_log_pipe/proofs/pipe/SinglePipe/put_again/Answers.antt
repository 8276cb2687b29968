use Rattle.raft_log_disk.proofs.CauseLemmas.{at_err}
use Rattle.raft_log_pipe.proofs.ExitLemmas.{all_or, put_after, still_leaves, then_holds, then_leaves, unless_no_space, unput_after, unput_from}
use Rattle.std.proofs.Common.{refl, Err}
use Rattle.raft_log_pipe.proofs.BlockLemmas.{more_files, same_files, stands_after, then_files}
use Rattle.raft_log_pipe.proofs.FirstLemmas.{begun_first, same_first}
use Rattle.raft_log_pipe.proofs.GiveUpLemmas.{given_up}
use Rattle.raft_log_pipe.proofs.AloneLemmas.{alone_on, nearly_on}
use Rattle.raft_log_pipe.proofs.OthersLemmas.{others_on}
use Rattle.raft_log_disk.proofs.RefusalLemmas.{lacks_then, no_more_then, still_free}
use Rattle.raft_log_files.specs.Error.{io_error, second_append_error}
use Rattle.raft_log_records.specs.declared.file_id.FileBlockHandle.{FileBlockHandle}
use Rattle.raft_log_pipe.specs.Taken.{IsBarred, IsTooLarge, IsUnmade, IsUnnumbered}
use Rattle.raft_log_pipe.proofs.TakenLemmas.{barred_before, fits_new, no_space_large, same_main, same_next, still_taken, taken_io, taken_second, told_error, unmade_before}
use Rattle.std.proofs.Common.{◌≡◌, ◌+◌, ◌∙◌, ℕ, inr, ap, arith}
use Rattle.raft_log_disk.specs.Cause.{Lacks, Rises}
use Rattle.raft_log_files.specs.declared.error.Error.{Error}
use Rattle.raft_log_pipe.specs.declared.file.File.{File}
use Rattle.raft_log_pipe.specs.Caused.{BeginsFiles, IsSecondAppendFault, LacksNumber, LacksPlace}
use Rattle.raft_log_pipe.proofs.CausedLemmas.{begins_first, caused_for, number_before, place_before, rises_then, told_cause, told_io, told_second}
use Rattle.std.proofs.Common.{inl, ◌++◌, []}
use Rattle.raft_log_pipe.specs.Torn.{TearsAtEnd}
use Rattle.raft_log_pipe.proofs.TornLemmas.{held_torn, torn_next, torn_then}
use Rattle.raft_log_pipe.proofs.PurgeLemmas.{last_on}
use Rattle.raft_log_pipe.proofs.ReuseLemmas.{left_same}
use Rattle.raft_log_pipe.proofs.EndLemmas.{not_given, not_ok}
use Rattle.raft_log_pipe.proofs.pipe.SinglePipe.put_again.Goals as goal

pub returns-in_err-finish-clause-err : goal.returns-in_err-finish-clause-err
returns-in_err-finish-clause-err g c = at_err _ _ (unput_from c.args.self.now c.finish.new.self (g.F.FileSystem.disk c.args.files.now) (g.F.FileSystem.disk c.finish.new.files) c.args.batch.now.items (still_leaves c.args.self.now c.finish.new.self (g.F.FileSystem.disk c.args.files.now) (g.F.FileSystem.disk c.finish.new.files) c.in_err-finish.ensures.err))

pub returns-in-Err-clause-err : goal.returns-in-Err-clause-err
returns-in-Err-clause-err g c =
    unput_from c.args.self.now c.go_on.new.self (g.F.FileSystem.disk c.args.files.now) (g.F.FileSystem.disk c.go_on.new.files) c.args.batch.now.items
    (then_leaves c.args.self.now c.finish.new.self c.go_on.new.self (g.F.FileSystem.disk c.args.files.now) (g.F.FileSystem.disk c.finish.new.files) (g.F.FileSystem.disk c.go_on.new.files) c.in_ok-finish.ensures.ok c.in-Err.ensures.err)

pub returns-in-Ok-put-clause-ok : goal.returns-in-Ok-put-clause-ok
returns-in-Ok-put-clause-ok g c =
    put_after c.args.self.now c.go_on.new.self (g.F.FileSystem.disk c.args.files.now) (g.F.FileSystem.disk c.go_on.new.files) c.put.new.self (g.F.FileSystem.disk c.put.new.files) c.in-Ok-put.handle c.args.batch.now.items
    (all_or c.args.self.now c.go_on.new.self (g.F.FileSystem.disk c.args.files.now) (g.F.FileSystem.disk c.go_on.new.files)
    (then_holds c.args.self.now c.finish.new.self c.go_on.new.self (g.F.FileSystem.disk c.args.files.now) (g.F.FileSystem.disk c.finish.new.files) (g.F.FileSystem.disk c.go_on.new.files) c.in_ok-finish.ensures.ok c.in-Ok.ensures.ok))
    c.in-Ok-put.ensures.ok.0 c.in-Ok-put.ensures.ok.1

pub returns-in-Err-put-clause-err : goal.returns-in-Err-put-clause-err
returns-in-Err-put-clause-err g c =
    unput_after c.args.self.now c.go_on.new.self (g.F.FileSystem.disk c.args.files.now) (g.F.FileSystem.disk c.go_on.new.files) c.put.new.self (g.F.FileSystem.disk c.put.new.files) c.go_on.new.self.active.seq c.args.batch.now.items
    (all_or c.args.self.now c.go_on.new.self (g.F.FileSystem.disk c.args.files.now) (g.F.FileSystem.disk c.go_on.new.files)
    (then_holds c.args.self.now c.finish.new.self c.go_on.new.self (g.F.FileSystem.disk c.args.files.now) (g.F.FileSystem.disk c.finish.new.files) (g.F.FileSystem.disk c.go_on.new.files) c.in_ok-finish.ensures.ok c.in-Ok.ensures.ok))
    c.in-Err-put.ensures.err

pub returns-in-Ok-put-clause-stands : goal.returns-in-Ok-put-clause-stands
returns-in-Ok-put-clause-stands g c =
    stands_after c.args.self.now c.go_on.new.self (g.F.FileSystem.disk c.args.files.now) (g.F.FileSystem.disk c.go_on.new.files) c.put.new.self c.args.batch.now.items c.args.batch.now.items c.in-Ok-put.handle
    (all_or c.args.self.now c.go_on.new.self (g.F.FileSystem.disk c.args.files.now) (g.F.FileSystem.disk c.go_on.new.files)
    (then_holds c.args.self.now c.finish.new.self c.go_on.new.self (g.F.FileSystem.disk c.args.files.now) (g.F.FileSystem.disk c.finish.new.files) (g.F.FileSystem.disk c.go_on.new.files) c.in_ok-finish.ensures.ok c.in-Ok.ensures.ok))
    refl c.in-Ok-put.ensures.stands

pub returns-in-Err-NoSpace-clause-err : goal.returns-in-Err-NoSpace-clause-err
returns-in-Err-NoSpace-clause-err g c =
    given_up c.args.self.now c.go_on.new.self c.put.new.self c.give_up.new.self (g.F.FileSystem.disk c.args.files.now) (g.F.FileSystem.disk c.go_on.new.files) (g.F.FileSystem.disk c.put.new.files) (g.F.FileSystem.disk c.give_up.new.files) c.args.batch.now.items
    (then_holds c.args.self.now c.finish.new.self c.go_on.new.self (g.F.FileSystem.disk c.args.files.now) (g.F.FileSystem.disk c.finish.new.files) (g.F.FileSystem.disk c.go_on.new.files) c.in_ok-finish.ensures.ok c.in-Ok.ensures.ok)
    (unless_no_space c.in-Err-NoSpace.field-0 _ c.in-Err-NoSpace.field-0-is c.in-Err-NoSpace.ensures.unwritten) c.give_up.ensures.leaves

pub returns-in-Ok-put-clause-files : goal.returns-in-Ok-put-clause-files
returns-in-Ok-put-clause-files g c =
    then_files c.args.self.now c.finish.new.self c.put.new.self (same_files c.args.self.now c.finish.new.self c.in_ok-finish.ensures.same.0 c.in_ok-finish.ensures.same.1)
    (then_files c.finish.new.self c.go_on.new.self c.put.new.self (more_files c.finish.new.self c.go_on.new.self c.in-Ok.ensures.next.1)
    (same_files c.go_on.new.self c.put.new.self c.in-Ok-put.ensures.same.0 c.in-Ok-put.ensures.same.1))

pub returns-in-Ok-put-clause-first : goal.returns-in-Ok-put-clause-first
returns-in-Ok-put-clause-first g c =
    same_first c.go_on.new.self c.put.new.self (c.in-Ok-put.ensures.same.0, c.in-Ok-put.ensures.same.1)
    ∙ begun_first c.finish.new.self c.go_on.new.self c.in-Ok.ensures.next
    ∙ same_first c.args.self.now c.finish.new.self (c.in_ok-finish.ensures.same.0, c.in_ok-finish.ensures.same.1)

pub returns-in_err-finish-clause-nearly : goal.returns-in_err-finish-clause-nearly
returns-in_err-finish-clause-nearly g c = at_err _ _ (nearly_on c.args.self.now c.finish.new.self (g.F.FileSystem.disk c.args.files.now) (g.F.FileSystem.disk c.finish.new.files) c.in_err-finish.ensures.same c.in_err-finish.ensures.paths c.in_err-finish.ensures.names)

pub returns-in-Err-clause-nearly : goal.returns-in-Err-clause-nearly
returns-in-Err-clause-nearly g c = λ alone. c.in-Err.ensures.nearly (alone_on c.args.self.now c.finish.new.self (g.F.FileSystem.disk c.args.files.now) (g.F.FileSystem.disk c.finish.new.files) c.in_ok-finish.ensures.same c.in_ok-finish.ensures.paths c.in_ok-finish.ensures.names alone)

pub returns-in-Ok-put-clause-alone : goal.returns-in-Ok-put-clause-alone
returns-in-Ok-put-clause-alone g c =
    λ alone. alone_on c.go_on.new.self c.put.new.self (g.F.FileSystem.disk c.go_on.new.files) (g.F.FileSystem.disk c.put.new.files) c.in-Ok-put.ensures.same c.in-Ok-put.ensures.paths c.in-Ok-put.ensures.names
    (c.in-Ok.ensures.alone (alone_on c.args.self.now c.finish.new.self (g.F.FileSystem.disk c.args.files.now) (g.F.FileSystem.disk c.finish.new.files) c.in_ok-finish.ensures.same c.in_ok-finish.ensures.paths c.in_ok-finish.ensures.names alone))

pub returns-in-Err-put-clause-nearly : goal.returns-in-Err-put-clause-nearly
returns-in-Err-put-clause-nearly g c =
    λ alone. nearly_on c.go_on.new.self c.put.new.self (g.F.FileSystem.disk c.go_on.new.files) (g.F.FileSystem.disk c.put.new.files) c.in-Err-put.ensures.same c.in-Err-put.ensures.paths c.in-Err-put.ensures.names
    (c.in-Ok.ensures.alone (alone_on c.args.self.now c.finish.new.self (g.F.FileSystem.disk c.args.files.now) (g.F.FileSystem.disk c.finish.new.files) c.in_ok-finish.ensures.same c.in_ok-finish.ensures.paths c.in_ok-finish.ensures.names alone))

pub returns-in-Err-NoSpace-clause-nearly : goal.returns-in-Err-NoSpace-clause-nearly
returns-in-Err-NoSpace-clause-nearly g c =
    λ alone. c.give_up.ensures.nearly (alone_on c.go_on.new.self c.put.new.self (g.F.FileSystem.disk c.go_on.new.files) (g.F.FileSystem.disk c.put.new.files) c.in-Err-NoSpace.ensures.same c.in-Err-NoSpace.ensures.paths c.in-Err-NoSpace.ensures.names
    (c.in-Ok.ensures.alone (alone_on c.args.self.now c.finish.new.self (g.F.FileSystem.disk c.args.files.now) (g.F.FileSystem.disk c.finish.new.files) c.in_ok-finish.ensures.same c.in_ok-finish.ensures.paths c.in_ok-finish.ensures.names alone)))

pub returns-in-Err-clause-others : goal.returns-in-Err-clause-others
returns-in-Err-clause-others g c =
    others_on c.args.self.now.queue c.finish.new.self.queue (g.F.FileSystem.disk c.args.files.now) (g.F.FileSystem.disk c.finish.new.files) (g.F.FileSystem.disk c.go_on.new.files) (c.in_ok-finish.ensures.same.2) (c.in_ok-finish.ensures.others) (c.in-Err.ensures.others)

pub returns-in-Ok-put-clause-others : goal.returns-in-Ok-put-clause-others
returns-in-Ok-put-clause-others g c =
    others_on c.args.self.now.queue c.finish.new.self.queue (g.F.FileSystem.disk c.args.files.now) (g.F.FileSystem.disk c.finish.new.files) (g.F.FileSystem.disk c.put.new.files) (c.in_ok-finish.ensures.same.2) (c.in_ok-finish.ensures.others) (others_on c.finish.new.self.queue c.go_on.new.self.queue (g.F.FileSystem.disk c.finish.new.files) (g.F.FileSystem.disk c.go_on.new.files) (g.F.FileSystem.disk c.put.new.files) c.in-Ok.ensures.queue c.in-Ok.ensures.others (c.in-Ok-put.ensures.others))

pub returns-in-Err-put-clause-others : goal.returns-in-Err-put-clause-others
returns-in-Err-put-clause-others g c =
    others_on c.args.self.now.queue c.finish.new.self.queue (g.F.FileSystem.disk c.args.files.now) (g.F.FileSystem.disk c.finish.new.files) (g.F.FileSystem.disk c.put.new.files) (c.in_ok-finish.ensures.same.2) (c.in_ok-finish.ensures.others) (others_on c.finish.new.self.queue c.go_on.new.self.queue (g.F.FileSystem.disk c.finish.new.files) (g.F.FileSystem.disk c.go_on.new.files) (g.F.FileSystem.disk c.put.new.files) c.in-Ok.ensures.queue c.in-Ok.ensures.others (c.in-Err-put.ensures.others))

pub returns-in-Err-NoSpace-clause-others : goal.returns-in-Err-NoSpace-clause-others
returns-in-Err-NoSpace-clause-others g c =
    others_on c.args.self.now.queue c.finish.new.self.queue (g.F.FileSystem.disk c.args.files.now) (g.F.FileSystem.disk c.finish.new.files) (g.F.FileSystem.disk c.give_up.new.files) (c.in_ok-finish.ensures.same.2) (c.in_ok-finish.ensures.others) (others_on c.finish.new.self.queue c.go_on.new.self.queue (g.F.FileSystem.disk c.finish.new.files) (g.F.FileSystem.disk c.go_on.new.files) (g.F.FileSystem.disk c.give_up.new.files) c.in-Ok.ensures.queue c.in-Ok.ensures.others (others_on c.go_on.new.self.queue c.put.new.self.queue (g.F.FileSystem.disk c.go_on.new.files) (g.F.FileSystem.disk c.put.new.files) (g.F.FileSystem.disk c.give_up.new.files) c.in-Err-NoSpace.ensures.same.2 c.in-Err-NoSpace.ensures.others c.give_up.ensures.others))

pub returns-in-Ok-put-clause-later : goal.returns-in-Ok-put-clause-later
returns-in-Ok-put-clause-later g c = no_more_then c.in_ok-finish.ensures.later (no_more_then c.in-Ok.ensures.later c.in-Ok-put.ensures.later)

pub returns-in-Err-put-clause-later : goal.returns-in-Err-put-clause-later
returns-in-Err-put-clause-later g c = no_more_then c.in_ok-finish.ensures.later (no_more_then c.in-Ok.ensures.later c.in-Err-put.ensures.later)

pub returns-in-Err-NoSpace-clause-later : goal.returns-in-Err-NoSpace-clause-later
returns-in-Err-NoSpace-clause-later g c = no_more_then c.in_ok-finish.ensures.later (no_more_then c.in-Ok.ensures.later (no_more_then c.in-Err-NoSpace.ensures.later c.give_up.ensures.later))

pub returns-in-Err-clause-taken : goal.returns-in-Err-clause-taken
returns-in-Err-clause-taken g c =
    let d = g.F.FileSystem.disk c.args.files.now in
    let e = g.F.FileSystem.disk c.finish.new.files in
    let main = same_main c.args.self.now c.finish.new.self c.in_ok-finish.ensures.same.0 c.in_ok-finish.ensures.same.2 c.in_ok-finish.ensures.paths in
    let path = same_next c.args.self.now c.finish.new.self c.in_ok-finish.ensures.same.0 c.in_ok-finish.ensures.same.2 c.in_ok-finish.ensures.paths c.in_ok-finish.ensures.reserved in
    λ free.
    told_error FileBlockHandle (IsUnnumbered c.args.self.now) (IsUnmade c.args.self.now d) (IsBarred c.args.self.now d) c.of_second_append.result (second_append_error c.in-Err.fault) c.of_second_append.ensures
    (taken_second (Unit {0}) FileBlockHandle (IsUnnumbered c.args.self.now) (IsUnmade c.args.self.now d) (IsBarred c.args.self.now d) c.in-Err.fault
    (still_taken (Unit {0}) (Unit {0}) (IsUnmade c.finish.new.self e) (IsBarred c.finish.new.self e) (IsUnmade c.args.self.now d) (IsBarred c.args.self.now d) c.in-Err.fault
    (unmade_before c.args.self.now c.finish.new.self d e main c.in_ok-finish.ensures.others.directories)
    (barred_before c.args.self.now c.finish.new.self d e path c.in_ok-finish.ensures.others.directories c.in_ok-finish.ensures.next)
    (c.in-Err.ensures.taken (still_free free c.in_ok-finish.ensures.later))))

pub returns-in-Err-put-clause-taken : goal.returns-in-Err-put-clause-taken
returns-in-Err-put-clause-taken g c =
    let d = g.F.FileSystem.disk c.args.files.now in
    λ free.
    told_error FileBlockHandle (IsUnnumbered c.args.self.now) (IsUnmade c.args.self.now d) (IsBarred c.args.self.now d) c.from.result (io_error c.in-Err-put.fault) c.from.ensures
    (taken_io FileBlockHandle FileBlockHandle (IsUnnumbered c.args.self.now) (IsUnmade c.args.self.now d) (IsBarred c.args.self.now d) c.in-Err-put.fault
    (still_taken FileBlockHandle FileBlockHandle ⊥ (IsTooLarge c.go_on.new.self c.args.batch.now.items) (IsUnmade c.args.self.now d) (IsBarred c.args.self.now d) c.in-Err-put.fault
    (λ x. absurd x) (λ large. absurd (fits_new c.go_on.new.self c.args.batch.now.items c.in-Ok.ensures.begun c.requires.items large))
    (c.in-Err-put.ensures.taken (still_free free (no_more_then c.in_ok-finish.ensures.later c.in-Ok.ensures.later)))))

pub returns-in-Err-NoSpace-clause-taken : goal.returns-in-Err-NoSpace-clause-taken
returns-in-Err-NoSpace-clause-taken g c = λ free.
    absurd (fits_new c.go_on.new.self c.args.batch.now.items c.in-Ok.ensures.begun c.requires.items
    (no_space_large FileBlockHandle ⊥ (IsTooLarge c.go_on.new.self c.args.batch.now.items) c.in-Err-NoSpace.field-0 c.in-Err-NoSpace.field-0-is
    (c.in-Err-NoSpace.ensures.taken (still_free free (no_more_then c.in_ok-finish.ensures.later c.in-Ok.ensures.later)))))

pub returns-in_err-finish-clause-cause : goal.returns-in_err-finish-clause-cause
returns-in_err-finish-clause-cause g c =
    let p = c.args.self.now in
    let d = g.F.FileSystem.disk c.args.files.now in
    let a = g.F.FileSystem.meter c.args.files.now in
    let b = g.F.FileSystem.meter c.finish.new.files in
    told_cause c.from_residual.result c.in_err-finish.field-0.0 (λ (e : Error). IsSecondAppendFault p d a b e) c.from_residual.ensures.1
    (caused_for (Rises 1 a b) ⊥ (IsUnnumbered p) ⊥
    (Rises 1 a b) (Lacks 1 a b) ((n : ℕ) × BeginsFiles (Unit {0}) a b n × LacksNumber p n) ((n : ℕ) × BeginsFiles (Unit {0}) a b n × LacksPlace p d n) c.in_err-finish.field-0.0
    (λ x. x) (λ x. absurd x) (λ x. (1, begins_first (Unit {0}) a b tt c.in_err-finish.ensures.later.spaces, x)) (λ x. absurd x) c.in_err-finish.ensures.cause)

pub returns-in-Err-clause-cause : goal.returns-in-Err-clause-cause
returns-in-Err-clause-cause g c =
    let p = c.args.self.now in
    let q = c.finish.new.self in
    let d = g.F.FileSystem.disk c.args.files.now in
    let y = g.F.FileSystem.disk c.finish.new.files in
    let a = g.F.FileSystem.meter c.args.files.now in
    let b = g.F.FileSystem.meter c.finish.new.files in
    let e = g.F.FileSystem.meter c.go_on.new.files in
    let same : q.active.seq ≡ p.active.seq = ap (λ (f : File). f.seq) c.in_ok-finish.ensures.same.0 in
    let before : Lacks 0 a e = lacks_then 0 0 a b e c.in_ok-finish.ensures.later.spaces c.in-Err.ensures.later.spaces in
    let place : Type 0 = (n : ℕ) × BeginsFiles (Unit {0}) a e n × LacksPlace p d n in
    told_second (Unit {0}) (Rises 1 a e) (Lacks 1 a e) ((n : ℕ) × BeginsFiles (Unit {0}) a e n × LacksNumber p n) place c.of_second_append.result c.in-Err.fault c.of_second_append.ensures (λ none. lacks_then 0 1 a b e c.in_ok-finish.ensures.later.spaces (c.in-Err.ensures.lacks none))
    (still_taken (Unit {0}) (Unit {0}) (LacksPlace q y 1) (Rises 1 b e) place (Rises 1 a e) c.in-Err.fault
    (λ lacks. (1, begins_first (Unit {0}) a e tt before, place_before p q d y 0 1 c.in_ok-finish.ensures.others.directories c.in_ok-finish.ensures.paths c.in_ok-finish.ensures.same.2 (omega (arith, same)) lacks))
    (rises_then 0 1 a b e c.in_ok-finish.ensures.later.counts) c.in-Err.ensures.cause)

pub returns-in-Err-put-clause-cause : goal.returns-in-Err-put-clause-cause
returns-in-Err-put-clause-cause g c =
    let p = c.args.self.now in
    let d = g.F.FileSystem.disk c.args.files.now in
    let a = g.F.FileSystem.meter c.args.files.now in
    let b = g.F.FileSystem.meter c.finish.new.files in
    let e = g.F.FileSystem.meter c.go_on.new.files in
    let i = g.F.FileSystem.meter c.put.new.files in
    let place : Type 0 = (n : ℕ) × BeginsFiles (Unit {0}) a i n × LacksPlace p d n in
    told_io FileBlockHandle (Rises 1 a i) (Lacks 1 a i) ((n : ℕ) × BeginsFiles (Unit {0}) a i n × LacksNumber p n) place c.from.result c.in-Err-put.fault c.from.ensures
    (still_taken FileBlockHandle FileBlockHandle ⊥ (Rises 1 e i) place (Rises 1 a i) c.in-Err-put.fault (λ x. absurd x)
    (rises_then 0 1 a e i (rises_then 0 0 a b e c.in_ok-finish.ensures.later.counts c.in-Ok.ensures.later.counts)) c.in-Err-put.ensures.cause)

pub returns-in-Err-NoSpace-clause-cause : goal.returns-in-Err-NoSpace-clause-cause
returns-in-Err-NoSpace-clause-cause g c =
    let p = c.args.self.now in
    let q = c.put.new.self in
    let d = g.F.FileSystem.disk c.args.files.now in
    let y = g.F.FileSystem.disk c.put.new.files in
    let a = g.F.FileSystem.meter c.args.files.now in
    let b = g.F.FileSystem.meter c.finish.new.files in
    let e = g.F.FileSystem.meter c.go_on.new.files in
    let i = g.F.FileSystem.meter c.put.new.files in
    let o = g.F.FileSystem.meter c.give_up.new.files in
    let one : Rises 1 a i = rises_then 0 1 a e i (rises_then 0 0 a b e c.in_ok-finish.ensures.later.counts c.in-Ok.ensures.later.counts)
    (no_space_large FileBlockHandle ⊥ (Rises 1 e i) c.in-Err-NoSpace.field-0 c.in-Err-NoSpace.field-0-is c.in-Err-NoSpace.ensures.cause) in
    let all : Rises 1 a o = rises_then 1 0 a i o one c.give_up.ensures.later.counts in
    let lack : Lacks 1 a i = lacks_then 0 1 a e i (lacks_then 0 0 a b e c.in_ok-finish.ensures.later.spaces c.in-Ok.ensures.later.spaces) (c.in-Err-NoSpace.ensures.lacks (ap Err c.in-Err-NoSpace.field-0-is)) in
    let lacks : Lacks 1 a o = lacks_then 1 0 a i o lack c.give_up.ensures.later.spaces in
    let begins : BeginsFiles (Unit {0}) a o 2 = record { some = omega arith; counts = inr (tt, lacks) } in
    let closed : c.finish.new.self.active.seq ≡ p.active.seq = ap (λ (f : File). f.seq) c.in_ok-finish.ensures.same.0 in
    let same : q.active.seq ≡ c.go_on.new.self.active.seq = ap (λ (f : File). f.seq) c.in-Err-NoSpace.ensures.same.0 in
    let next : q.active.seq ≡ p.active.seq + 1 = omega (arith, same, c.in-Ok.ensures.next.0, closed) in
    caused_for (Rises 1 i o) (Unit {0}) (LacksNumber q 1) (LacksPlace q y 1)
    (Rises 1 a o) (Lacks 1 a o) ((n : ℕ) × BeginsFiles (Unit {0}) a o n × LacksNumber p n) ((n : ℕ) × BeginsFiles (Unit {0}) a o n × LacksPlace p d n) c.give_up.result
    (λ x. all) (λ x. lacks) (λ lacks. (2, begins, number_before p q 1 1 next lacks))
    (λ lacks. (
      2,
      begins,
      place_before p q d y 1 1 (c.in-Err-NoSpace.ensures.others.directories ∙ c.in-Ok.ensures.others.directories ∙ c.in_ok-finish.ensures.others.directories)
          (c.in-Err-NoSpace.ensures.paths ∙ c.in-Ok.ensures.paths ∙ c.in_ok-finish.ensures.paths) (c.in-Err-NoSpace.ensures.same.2 ∙ c.in-Ok.ensures.queue ∙ c.in_ok-finish.ensures.same.2) next lacks,
    )) c.give_up.ensures.cause

-- ---- which file may be torn

pub returns-in_err-finish-clause-torn : goal.returns-in_err-finish-clause-torn
returns-in_err-finish-clause-torn g c =
    at_err _ (TearsAtEnd c.args.self.now (g.F.FileSystem.disk c.args.files.now) c.finish.new.self (g.F.FileSystem.disk c.finish.new.files))
    (torn_then c.args.self.now c.finish.new.self c.finish.new.self (g.F.FileSystem.disk c.args.files.now) (g.F.FileSystem.disk c.finish.new.files) (g.F.FileSystem.disk c.finish.new.files)
    (λ alone. alone_on c.args.self.now c.finish.new.self (g.F.FileSystem.disk c.args.files.now) (g.F.FileSystem.disk c.finish.new.files) c.in_err-finish.ensures.same c.in_err-finish.ensures.paths c.in_err-finish.ensures.names alone)
    (λ s u h. inl (c.in_err-finish.ensures.err s u h)) (held_torn c.finish.new.self (g.F.FileSystem.disk c.finish.new.files)))

pub returns-in-Err-clause-torn : goal.returns-in-Err-clause-torn
returns-in-Err-clause-torn g c =
    torn_next c.args.self.now c.finish.new.self c.go_on.new.self (g.F.FileSystem.disk c.args.files.now) (g.F.FileSystem.disk c.finish.new.files) (g.F.FileSystem.disk c.go_on.new.files)
    (λ alone. alone_on c.args.self.now c.finish.new.self (g.F.FileSystem.disk c.args.files.now) (g.F.FileSystem.disk c.finish.new.files) c.in_ok-finish.ensures.same c.in_ok-finish.ensures.paths c.in_ok-finish.ensures.names alone)
    c.in_ok-finish.ensures.ok c.in-Err.ensures.torn

pub returns-in-Err-put-clause-torn : goal.returns-in-Err-put-clause-torn
returns-in-Err-put-clause-torn g c =
    torn_then c.args.self.now c.go_on.new.self c.put.new.self (g.F.FileSystem.disk c.args.files.now) (g.F.FileSystem.disk c.go_on.new.files) (g.F.FileSystem.disk c.put.new.files)
    (λ alone. c.in-Ok.ensures.alone (alone_on c.args.self.now c.finish.new.self (g.F.FileSystem.disk c.args.files.now) (g.F.FileSystem.disk c.finish.new.files) c.in_ok-finish.ensures.same c.in_ok-finish.ensures.paths c.in_ok-finish.ensures.names alone))
    (λ s u h. inr (c.in-Ok.ensures.ok (s ++ u) (c.in_ok-finish.ensures.ok s u h))) c.in-Err-put.ensures.torn

pub returns-in-Err-NoSpace-clause-torn : goal.returns-in-Err-NoSpace-clause-torn
returns-in-Err-NoSpace-clause-torn g c =
    torn_then c.args.self.now c.put.new.self c.give_up.new.self (g.F.FileSystem.disk c.args.files.now) (g.F.FileSystem.disk c.put.new.files) (g.F.FileSystem.disk c.give_up.new.files)
    (λ alone. alone_on c.go_on.new.self c.put.new.self (g.F.FileSystem.disk c.go_on.new.files) (g.F.FileSystem.disk c.put.new.files) c.in-Err-NoSpace.ensures.same c.in-Err-NoSpace.ensures.paths c.in-Err-NoSpace.ensures.names
    (c.in-Ok.ensures.alone (alone_on c.args.self.now c.finish.new.self (g.F.FileSystem.disk c.args.files.now) (g.F.FileSystem.disk c.finish.new.files) c.in_ok-finish.ensures.same c.in_ok-finish.ensures.paths c.in_ok-finish.ensures.names alone)))
    (λ s u h. inr (unless_no_space c.in-Err-NoSpace.field-0 _ c.in-Err-NoSpace.field-0-is c.in-Err-NoSpace.ensures.unwritten (s ++ u) [] (c.in-Ok.ensures.ok (s ++ u) (c.in_ok-finish.ensures.ok s u h)))) c.give_up.ensures.torn

-- ---- reserved files

pub returns-in_err-finish-clause-reserved : goal.returns-in_err-finish-clause-reserved
returns-in_err-finish-clause-reserved g c = left_same c.args.self.now.reserved c.finish.new.self.reserved c.in_err-finish.ensures.reserved

pub returns-in-Err-clause-later : goal.returns-in-Err-clause-later
returns-in-Err-clause-later g c = no_more_then c.in_ok-finish.ensures.later c.in-Err.ensures.later

pub returns-in-Err-NoSpace-clause-reserved : goal.returns-in-Err-NoSpace-clause-reserved
returns-in-Err-NoSpace-clause-reserved g c =
    let one = left_same c.args.self.now.reserved c.finish.new.self.reserved c.in_ok-finish.ensures.reserved in
    let two = last_on c.args.self.now.reserved.items c.finish.new.self.reserved.items c.go_on.new.self.reserved.items one c.in-Ok.ensures.reserved in
    let three = last_on c.args.self.now.reserved.items c.go_on.new.self.reserved.items c.put.new.self.reserved.items two (left_same c.go_on.new.self.reserved c.put.new.self.reserved c.in-Err-NoSpace.ensures.reserved) in
    last_on c.args.self.now.reserved.items c.put.new.self.reserved.items c.give_up.new.self.reserved.items three c.give_up.ensures.reserved

pub returns-in_err-finish-clause-pipe : goal.returns-in_err-finish-clause-pipe
returns-in_err-finish-clause-pipe g c = not_ok _ _ c.from_residual.result c.from_residual.ensures.1

pub returns-in_err-finish-clause-alone : goal.returns-in_err-finish-clause-alone
returns-in_err-finish-clause-alone g c = not_ok _ _ c.from_residual.result c.from_residual.ensures.1

pub returns-in_err-finish-clause-files : goal.returns-in_err-finish-clause-files
returns-in_err-finish-clause-files g c = not_ok _ _ c.from_residual.result c.from_residual.ensures.1

pub returns-in_err-finish-clause-first : goal.returns-in_err-finish-clause-first
returns-in_err-finish-clause-first g c = not_ok _ _ c.from_residual.result c.from_residual.ensures.1

pub returns-in_err-finish-clause-ok : goal.returns-in_err-finish-clause-ok
returns-in_err-finish-clause-ok g c = not_given _ _ c.from_residual.result c.from_residual.ensures.1

pub returns-in_err-finish-clause-stands : goal.returns-in_err-finish-clause-stands
returns-in_err-finish-clause-stands g c = not_given _ _ c.from_residual.result c.from_residual.ensures.1

pub returns-in_err-finish-clause-fits : goal.returns-in_err-finish-clause-fits
returns-in_err-finish-clause-fits g c = not_given _ _ c.from_residual.result c.from_residual.ensures.1
