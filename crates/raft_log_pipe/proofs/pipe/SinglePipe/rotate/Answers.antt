use Rattle.raft_log_pipe.specs.Alone.{IsAlone, IsNearlyAlone}
use Rattle.raft_log_disk.proofs.CauseLemmas.{at_err}
use Rattle.raft_log_pipe.proofs.ExitLemmas.{still_leaves, then_holds, then_leaves}
use Rattle.raft_log_pipe.proofs.AloneLemmas.{alone_on, nearly_on}
use Rattle.raft_log_pipe.proofs.OthersLemmas.{others_on}
use Rattle.raft_log_disk.proofs.RefusalLemmas.{no_more_then}
use Rattle.std.proofs.Common.{ap, ◌≡◌, arith}
use Rattle.raft_log_disk.specs.Cause.{Rises}
use Rattle.raft_log_pipe.specs.declared.file.File.{File}
use Rattle.raft_log_pipe.specs.Caused.{IsCaused, LacksPlace}
use Rattle.raft_log_pipe.specs.Taken.{IsUnnumbered}
use Rattle.raft_log_files.specs.declared.error.Error.{Error}
use Rattle.raft_log_pipe.proofs.TakenLemmas.{still_taken}
use Rattle.raft_log_pipe.proofs.CausedLemmas.{caused_for, exit_cause, place_before, rises_then, told_cause}
use Rattle.std.proofs.Common.{inl}
use Rattle.raft_log_pipe.specs.Torn.{TearsAtEnd}
use Rattle.raft_log_pipe.proofs.TornLemmas.{held_torn, torn_next, torn_then}
use Rattle.raft_log_pipe.proofs.ReuseLemmas.{left_same, takes_before}
use Rattle.raft_log_pipe.proofs.EndLemmas.{not_ok}
use Rattle.raft_log_pipe.proofs.pipe.SinglePipe.rotate.Goals as goal

pub returns-in_err-go_on-clause-err : goal.returns-in_err-go_on-clause-err
returns-in_err-go_on-clause-err g c =
    at_err _ _ (then_leaves c.args.self.now c.finish.new.self c.go_on.new.self (g.F.FileSystem.disk c.args.files.now) (g.F.FileSystem.disk c.finish.new.files) (g.F.FileSystem.disk c.go_on.new.files) c.in_ok-finish.ensures.ok c.in_err-go_on.ensures.err)

pub returns-clause-ok : goal.returns-clause-ok
returns-clause-ok g c =
    then_holds c.args.self.now c.finish.new.self c.go_on.new.self (g.F.FileSystem.disk c.args.files.now) (g.F.FileSystem.disk c.finish.new.files) (g.F.FileSystem.disk c.go_on.new.files) c.in_ok-finish.ensures.ok c.in_ok-go_on.ensures.ok

pub returns-in_err-finish-clause-nearly : goal.returns-in_err-finish-clause-nearly
returns-in_err-finish-clause-nearly g c = at_err _ _ (nearly_on c.args.self.now c.finish.new.self (g.F.FileSystem.disk c.args.files.now) (g.F.FileSystem.disk c.finish.new.files) c.in_err-finish.ensures.same c.in_err-finish.ensures.paths c.in_err-finish.ensures.names)

pub returns-in_err-go_on-clause-nearly : goal.returns-in_err-go_on-clause-nearly
returns-in_err-go_on-clause-nearly g c =
    at_err _ (IsAlone c.args.self.now (g.F.FileSystem.disk c.args.files.now) → IsNearlyAlone c.go_on.new.self (g.F.FileSystem.disk c.go_on.new.files)) (λ alone. c.in_err-go_on.ensures.nearly (alone_on c.args.self.now c.finish.new.self (g.F.FileSystem.disk c.args.files.now) (g.F.FileSystem.disk c.finish.new.files) c.in_ok-finish.ensures.same c.in_ok-finish.ensures.paths c.in_ok-finish.ensures.names alone))

pub returns-clause-alone : goal.returns-clause-alone
returns-clause-alone g c = λ alone. c.in_ok-go_on.ensures.alone (alone_on c.args.self.now c.finish.new.self (g.F.FileSystem.disk c.args.files.now) (g.F.FileSystem.disk c.finish.new.files) c.in_ok-finish.ensures.same c.in_ok-finish.ensures.paths c.in_ok-finish.ensures.names alone)

pub returns-in_err-go_on-clause-others : goal.returns-in_err-go_on-clause-others
returns-in_err-go_on-clause-others g c =
    others_on c.args.self.now.queue c.finish.new.self.queue (g.F.FileSystem.disk c.args.files.now) (g.F.FileSystem.disk c.finish.new.files) (g.F.FileSystem.disk c.go_on.new.files) (c.in_ok-finish.ensures.same.2) (c.in_ok-finish.ensures.others) (c.in_err-go_on.ensures.others)

pub returns-clause-others : goal.returns-clause-others
returns-clause-others g c =
    others_on c.args.self.now.queue c.finish.new.self.queue (g.F.FileSystem.disk c.args.files.now) (g.F.FileSystem.disk c.finish.new.files) (g.F.FileSystem.disk c.go_on.new.files) (c.in_ok-finish.ensures.same.2) (c.in_ok-finish.ensures.others) (c.in_ok-go_on.ensures.others)

pub returns-clause-later : goal.returns-clause-later
returns-clause-later g c = no_more_then c.in_ok-finish.ensures.later c.in_ok-go_on.ensures.later

pub returns-in_err-go_on-clause-later : goal.returns-in_err-go_on-clause-later
returns-in_err-go_on-clause-later g c = no_more_then c.in_ok-finish.ensures.later c.in_err-go_on.ensures.later

pub returns-in_err-finish-clause-cause : goal.returns-in_err-finish-clause-cause
returns-in_err-finish-clause-cause g c =
    let rises : Type 0 = Rises 1 (g.F.FileSystem.meter c.args.files.now) (g.F.FileSystem.meter c.finish.new.files) in
    let place : Type 0 = LacksPlace c.args.self.now (g.F.FileSystem.disk c.args.files.now) 1 in
    told_cause c.from_residual.result c.in_err-finish.field-0.0 (λ (e : Error). IsCaused rises ⊥ (IsUnnumbered c.args.self.now) place e) c.from_residual.ensures.1
    (caused_for rises ⊥ (IsUnnumbered c.args.self.now) ⊥ rises ⊥ (IsUnnumbered c.args.self.now) place c.in_err-finish.field-0.0 (λ x. x) (λ x. x) (λ x. x) (λ x. absurd x) c.in_err-finish.ensures.cause)

pub returns-in_err-go_on-clause-cause : goal.returns-in_err-go_on-clause-cause
returns-in_err-go_on-clause-cause g c =
    let p = c.args.self.now in
    let q = c.finish.new.self in
    let d = g.F.FileSystem.disk c.args.files.now in
    let y = g.F.FileSystem.disk c.finish.new.files in
    let a = g.F.FileSystem.meter c.args.files.now in
    let b = g.F.FileSystem.meter c.finish.new.files in
    let e = g.F.FileSystem.meter c.go_on.new.files in
    let same : q.active.seq ≡ p.active.seq = ap (λ (f : File). f.seq) c.in_ok-finish.ensures.same.0 in
    exit_cause (Unit {0}) (Rises 1 a e) ⊥ (IsUnnumbered p) (LacksPlace p d 1) c.from_residual-in_err-go_on.result c.in_err-go_on.field-0.0 c.from_residual-in_err-go_on.ensures.1
    (still_taken (Unit {0}) (Unit {0}) (LacksPlace q y 1) (Rises 1 b e) (LacksPlace p d 1) (Rises 1 a e) c.in_err-go_on.field-0.0
    (place_before p q d y 0 1 c.in_ok-finish.ensures.others.directories c.in_ok-finish.ensures.paths c.in_ok-finish.ensures.same.2 (omega (arith, same)))
    (rises_then 0 1 a b e c.in_ok-finish.ensures.later.counts) c.in_err-go_on.ensures.cause)

-- ---- which file may be torn

pub returns-in_err-finish-clause-err : goal.returns-in_err-finish-clause-err
returns-in_err-finish-clause-err g c =
    at_err _ _ (still_leaves c.args.self.now c.finish.new.self (g.F.FileSystem.disk c.args.files.now) (g.F.FileSystem.disk c.finish.new.files) c.in_err-finish.ensures.err)

pub returns-in_err-finish-clause-torn : goal.returns-in_err-finish-clause-torn
returns-in_err-finish-clause-torn g c =
    at_err _ (TearsAtEnd c.args.self.now (g.F.FileSystem.disk c.args.files.now) c.finish.new.self (g.F.FileSystem.disk c.finish.new.files))
    (torn_then c.args.self.now c.finish.new.self c.finish.new.self (g.F.FileSystem.disk c.args.files.now) (g.F.FileSystem.disk c.finish.new.files) (g.F.FileSystem.disk c.finish.new.files)
    (λ alone. alone_on c.args.self.now c.finish.new.self (g.F.FileSystem.disk c.args.files.now) (g.F.FileSystem.disk c.finish.new.files) c.in_err-finish.ensures.same c.in_err-finish.ensures.paths c.in_err-finish.ensures.names alone)
    (λ s u h. inl (c.in_err-finish.ensures.err s u h)) (held_torn c.finish.new.self (g.F.FileSystem.disk c.finish.new.files)))

pub returns-in_err-go_on-clause-torn : goal.returns-in_err-go_on-clause-torn
returns-in_err-go_on-clause-torn g c =
    at_err _ (TearsAtEnd c.args.self.now (g.F.FileSystem.disk c.args.files.now) c.go_on.new.self (g.F.FileSystem.disk c.go_on.new.files))
    (torn_next c.args.self.now c.finish.new.self c.go_on.new.self (g.F.FileSystem.disk c.args.files.now) (g.F.FileSystem.disk c.finish.new.files) (g.F.FileSystem.disk c.go_on.new.files)
    (λ alone. alone_on c.args.self.now c.finish.new.self (g.F.FileSystem.disk c.args.files.now) (g.F.FileSystem.disk c.finish.new.files) c.in_ok-finish.ensures.same c.in_ok-finish.ensures.paths c.in_ok-finish.ensures.names alone)
    c.in_ok-finish.ensures.ok c.in_err-go_on.ensures.torn)

-- ---- reserved files

pub returns-in_err-finish-clause-reserved : goal.returns-in_err-finish-clause-reserved
returns-in_err-finish-clause-reserved g c = left_same c.args.self.now.reserved c.finish.new.self.reserved c.in_err-finish.ensures.reserved

pub returns-clause-takes : goal.returns-clause-takes
returns-clause-takes g c =
    takes_before c.args.self.now c.finish.new.self (g.F.FileSystem.disk c.args.files.now) (g.F.FileSystem.disk c.finish.new.files) (g.F.FileSystem.disk c.go_on.new.files) c.go_on.new.self.reserved.items c.go_on.new.self.active
    c.in_ok-finish.ensures.same.0 c.in_ok-finish.ensures.same.2 c.in_ok-finish.ensures.paths c.in_ok-finish.ensures.reserved c.in_ok-finish.ensures.next c.in_ok-finish.ensures.names c.in_ok-go_on.ensures.takes

pub returns-in_err-finish-clause-pipe : goal.returns-in_err-finish-clause-pipe
returns-in_err-finish-clause-pipe g c = not_ok _ _ c.from_residual.result c.from_residual.ensures.1

pub returns-in_err-finish-clause-next : goal.returns-in_err-finish-clause-next
returns-in_err-finish-clause-next g c = not_ok _ _ c.from_residual.result c.from_residual.ensures.1

pub returns-in_err-finish-clause-takes : goal.returns-in_err-finish-clause-takes
returns-in_err-finish-clause-takes g c = not_ok _ _ c.from_residual.result c.from_residual.ensures.1

pub returns-in_err-finish-clause-alone : goal.returns-in_err-finish-clause-alone
returns-in_err-finish-clause-alone g c = not_ok _ _ c.from_residual.result c.from_residual.ensures.1

pub returns-in_err-finish-clause-ok : goal.returns-in_err-finish-clause-ok
returns-in_err-finish-clause-ok g c = not_ok _ _ c.from_residual.result c.from_residual.ensures.1

pub returns-in_err-finish-clause-begun : goal.returns-in_err-finish-clause-begun
returns-in_err-finish-clause-begun g c = not_ok _ _ c.from_residual.result c.from_residual.ensures.1

pub returns-in_err-go_on-clause-pipe : goal.returns-in_err-go_on-clause-pipe
returns-in_err-go_on-clause-pipe g c = not_ok _ _ c.from_residual-in_err-go_on.result c.from_residual-in_err-go_on.ensures.1

pub returns-in_err-go_on-clause-next : goal.returns-in_err-go_on-clause-next
returns-in_err-go_on-clause-next g c = not_ok _ _ c.from_residual-in_err-go_on.result c.from_residual-in_err-go_on.ensures.1

pub returns-in_err-go_on-clause-takes : goal.returns-in_err-go_on-clause-takes
returns-in_err-go_on-clause-takes g c = not_ok _ _ c.from_residual-in_err-go_on.result c.from_residual-in_err-go_on.ensures.1

pub returns-in_err-go_on-clause-alone : goal.returns-in_err-go_on-clause-alone
returns-in_err-go_on-clause-alone g c = not_ok _ _ c.from_residual-in_err-go_on.result c.from_residual-in_err-go_on.ensures.1

pub returns-in_err-go_on-clause-ok : goal.returns-in_err-go_on-clause-ok
returns-in_err-go_on-clause-ok g c = not_ok _ _ c.from_residual-in_err-go_on.result c.from_residual-in_err-go_on.ensures.1

pub returns-in_err-go_on-clause-begun : goal.returns-in_err-go_on-clause-begun
returns-in_err-go_on-clause-begun g c = not_ok _ _ c.from_residual-in_err-go_on.result c.from_residual-in_err-go_on.ensures.1
