use Rattle.raft_log_pipe.proofs.ExitLemmas.{still_leaves, then_holds, then_leaves}
use Rattle.raft_log_pipe.proofs.GiveUpLemmas.{ended_leaves}
use Rattle.raft_log_pipe.proofs.AloneLemmas.{alone_on, nearly, nearly_on}
use Rattle.raft_log_pipe.proofs.OthersLemmas.{others_on}
use Rattle.raft_log_disk.proofs.RefusalLemmas.{no_more_then}
use Rattle.std.proofs.Common.{◌≡◌, ◌++◌, ap, arith}
use Rattle.raft_log_disk.specs.Cause.{Rises}
use Rattle.raft_log_pipe.specs.declared.file.File.{File}
use Rattle.raft_log_pipe.specs.Caused.{LacksNumber, LacksPlace}
use Rattle.raft_log_pipe.specs.Taken.{IsUnnumbered}
use Rattle.raft_log_pipe.proofs.TakenLemmas.{still_taken}
use Rattle.raft_log_pipe.proofs.CausedLemmas.{caused_for, place_before, rises_then, told_second}
use Rattle.std.proofs.Common.{inl, inr}
use Rattle.raft_log_pipe.proofs.TornLemmas.{held_torn, torn_next, torn_then}
use Rattle.raft_log_pipe.proofs.ReuseLemmas.{left_same}
use Rattle.raft_log_pipe.proofs.pipe.SinglePipe.give_up.Goals as goal

pub returns-in-Ok-clause-leaves : goal.returns-in-Ok-clause-leaves
returns-in-Ok-clause-leaves g c =
    ended_leaves c.args.self.now c.go_on.new.self (g.F.FileSystem.disk c.args.files.now) (g.F.FileSystem.disk c.go_on.new.files)
    (then_holds c.args.self.now c.finish.new.self c.go_on.new.self (g.F.FileSystem.disk c.args.files.now) (g.F.FileSystem.disk c.finish.new.files) (g.F.FileSystem.disk c.go_on.new.files) c.in_default.ensures.ok c.in-Ok.ensures.ok)

pub returns-in-Err-go_on-clause-leaves : goal.returns-in-Err-go_on-clause-leaves
returns-in-Err-go_on-clause-leaves g c =
    then_leaves c.args.self.now c.finish.new.self c.go_on.new.self (g.F.FileSystem.disk c.args.files.now) (g.F.FileSystem.disk c.finish.new.files) (g.F.FileSystem.disk c.go_on.new.files) c.in_default.ensures.ok c.in-Err-go_on.ensures.err

pub returns-in-Err-clause-nearly : goal.returns-in-Err-clause-nearly
returns-in-Err-clause-nearly g c = nearly_on c.args.self.now c.finish.new.self (g.F.FileSystem.disk c.args.files.now) (g.F.FileSystem.disk c.finish.new.files) c.in-Err.ensures.same c.in-Err.ensures.paths c.in-Err.ensures.names

pub returns-in-Ok-clause-nearly : goal.returns-in-Ok-clause-nearly
returns-in-Ok-clause-nearly g c =
    λ alone. nearly c.go_on.new.self (g.F.FileSystem.disk c.go_on.new.files) (c.in-Ok.ensures.alone (alone_on c.args.self.now c.finish.new.self (g.F.FileSystem.disk c.args.files.now) (g.F.FileSystem.disk c.finish.new.files) c.in_default.ensures.same c.in_default.ensures.paths c.in_default.ensures.names alone))

pub returns-in-Err-go_on-clause-nearly : goal.returns-in-Err-go_on-clause-nearly
returns-in-Err-go_on-clause-nearly g c =
    λ alone. c.in-Err-go_on.ensures.nearly (alone_on c.args.self.now c.finish.new.self (g.F.FileSystem.disk c.args.files.now) (g.F.FileSystem.disk c.finish.new.files) c.in_default.ensures.same c.in_default.ensures.paths c.in_default.ensures.names alone)

pub returns-in-Ok-clause-others : goal.returns-in-Ok-clause-others
returns-in-Ok-clause-others g c =
    others_on c.args.self.now.queue c.finish.new.self.queue (g.F.FileSystem.disk c.args.files.now) (g.F.FileSystem.disk c.finish.new.files) (g.F.FileSystem.disk c.go_on.new.files) (c.in_default.ensures.same.2) (c.in_default.ensures.others) (c.in-Ok.ensures.others)

pub returns-in-Err-go_on-clause-others : goal.returns-in-Err-go_on-clause-others
returns-in-Err-go_on-clause-others g c =
    others_on c.args.self.now.queue c.finish.new.self.queue (g.F.FileSystem.disk c.args.files.now) (g.F.FileSystem.disk c.finish.new.files) (g.F.FileSystem.disk c.go_on.new.files) (c.in_default.ensures.same.2) (c.in_default.ensures.others) (c.in-Err-go_on.ensures.others)

pub returns-in-Err-go_on-clause-later : goal.returns-in-Err-go_on-clause-later
returns-in-Err-go_on-clause-later g c = no_more_then c.in_default.ensures.later c.in-Err-go_on.ensures.later

pub returns-in-Err-clause-cause : goal.returns-in-Err-clause-cause
returns-in-Err-clause-cause g c =
    let p = c.args.self.now in
    let rises : Type 0 = Rises 1 (g.F.FileSystem.meter c.args.files.now) (g.F.FileSystem.meter c.finish.new.files) in
    caused_for rises ⊥ (IsUnnumbered p) ⊥ rises (Unit {0}) (LacksNumber p 1) (LacksPlace p (g.F.FileSystem.disk c.args.files.now) 1) c.in-Err.error (λ x. x) (λ x. absurd x) (λ x. x) (λ x. absurd x) c.in-Err.ensures.cause

pub returns-in-Err-go_on-clause-cause : goal.returns-in-Err-go_on-clause-cause
returns-in-Err-go_on-clause-cause g c =
    let p = c.args.self.now in
    let q = c.finish.new.self in
    let d = g.F.FileSystem.disk c.args.files.now in
    let y = g.F.FileSystem.disk c.finish.new.files in
    let a = g.F.FileSystem.meter c.args.files.now in
    let b = g.F.FileSystem.meter c.finish.new.files in
    let e = g.F.FileSystem.meter c.go_on.new.files in
    let same : q.active.seq ≡ p.active.seq = ap (λ (f : File). f.seq) c.in_default.ensures.same.0 in
    told_second (Unit {0}) (Rises 1 a e) (Unit {0}) (LacksNumber p 1) (LacksPlace p d 1) c.of_second_append.result c.in-Err-go_on.fault c.of_second_append.ensures (λ x. tt)
    (still_taken (Unit {0}) (Unit {0}) (LacksPlace q y 1) (Rises 1 b e) (LacksPlace p d 1) (Rises 1 a e) c.in-Err-go_on.fault
    (place_before p q d y 0 1 c.in_default.ensures.others.directories c.in_default.ensures.paths c.in_default.ensures.same.2 (omega (arith, same)))
    (rises_then 0 1 a b e c.in_default.ensures.later.counts) c.in-Err-go_on.ensures.cause)

pub returns-in-Ok-clause-later : goal.returns-in-Ok-clause-later
returns-in-Ok-clause-later g c = no_more_then c.in_default.ensures.later c.in-Ok.ensures.later

-- ---- which file may be torn

pub returns-in-Err-clause-leaves : goal.returns-in-Err-clause-leaves
returns-in-Err-clause-leaves g c =
    still_leaves c.args.self.now c.finish.new.self (g.F.FileSystem.disk c.args.files.now) (g.F.FileSystem.disk c.finish.new.files) c.in-Err.ensures.err

pub returns-in-Err-clause-torn : goal.returns-in-Err-clause-torn
returns-in-Err-clause-torn g c =
    torn_then c.args.self.now c.finish.new.self c.finish.new.self (g.F.FileSystem.disk c.args.files.now) (g.F.FileSystem.disk c.finish.new.files) (g.F.FileSystem.disk c.finish.new.files)
    (λ alone. alone_on c.args.self.now c.finish.new.self (g.F.FileSystem.disk c.args.files.now) (g.F.FileSystem.disk c.finish.new.files) c.in-Err.ensures.same c.in-Err.ensures.paths c.in-Err.ensures.names alone)
    (λ s u h. inl (c.in-Err.ensures.err s u h)) (held_torn c.finish.new.self (g.F.FileSystem.disk c.finish.new.files))

pub returns-in-Ok-clause-torn : goal.returns-in-Ok-clause-torn
returns-in-Ok-clause-torn g c =
    torn_then c.args.self.now c.go_on.new.self c.go_on.new.self (g.F.FileSystem.disk c.args.files.now) (g.F.FileSystem.disk c.go_on.new.files) (g.F.FileSystem.disk c.go_on.new.files)
    (λ alone. c.in-Ok.ensures.alone (alone_on c.args.self.now c.finish.new.self (g.F.FileSystem.disk c.args.files.now) (g.F.FileSystem.disk c.finish.new.files) c.in_default.ensures.same c.in_default.ensures.paths c.in_default.ensures.names alone))
    (λ s u h. inr (c.in-Ok.ensures.ok (s ++ u) (c.in_default.ensures.ok s u h))) (held_torn c.go_on.new.self (g.F.FileSystem.disk c.go_on.new.files))

pub returns-in-Err-go_on-clause-torn : goal.returns-in-Err-go_on-clause-torn
returns-in-Err-go_on-clause-torn g c =
    torn_next c.args.self.now c.finish.new.self c.go_on.new.self (g.F.FileSystem.disk c.args.files.now) (g.F.FileSystem.disk c.finish.new.files) (g.F.FileSystem.disk c.go_on.new.files)
    (λ alone. alone_on c.args.self.now c.finish.new.self (g.F.FileSystem.disk c.args.files.now) (g.F.FileSystem.disk c.finish.new.files) c.in_default.ensures.same c.in_default.ensures.paths c.in_default.ensures.names alone)
    c.in_default.ensures.ok c.in-Err-go_on.ensures.torn

-- ---- reserved files

pub returns-in-Err-clause-reserved : goal.returns-in-Err-clause-reserved
returns-in-Err-clause-reserved g c = left_same c.args.self.now.reserved c.finish.new.self.reserved c.in-Err.ensures.reserved
