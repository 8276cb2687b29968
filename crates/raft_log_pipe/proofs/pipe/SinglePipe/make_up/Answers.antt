use Rattle.std.proofs.Common.{◌≡◌, inr, ⊎_elim, Bool, true, false, ◌-◌, ◌<◌, length, refl, arith}
use Rattle.raft_log_disk.specs.Cause.{Rises}
use Rattle.raft_log_disk.proofs.RefusalLemmas.{no_more_same, no_more_then, still_free}
use Rattle.raft_log_pipe.specs.Prepared.{LacksNumbers}
use Rattle.raft_log_pipe.proofs.CausedLemmas.{rises_then}
use Rattle.raft_log_pipe.proofs.PrefillLemmas.{lacks_more}
use Rattle.raft_log_pipe.proofs.TakenLemmas.{still_taken}
use Rattle.raft_log_pipe.proofs.TrimLemmas.{front_same, front_then, reserved_again}
use Rattle.raft_log_pipe.proofs.UnreservedLemmas.{same_unreserved, unreserved_then}
use Rattle.raft_log_pipe.proofs.pipe.SinglePipe.make_up.Goals as goal

pub loop-made-init : goal.loop-made-init
loop-made-init g c =
    record {
      pipe = c.requires.pipe;
      same = refl;
      count = omega arith;
      front = front_same c.args.self.now.reserved.items c.args.self.now.reserved.items refl;
      unreserved = same_unreserved (g.F.FileSystem.disk c.args.files.now) (g.F.FileSystem.disk c.args.files.now) refl;
      next = omega arith;
      later = no_more_same _ _;
    }

pub loop-made-preserved : goal.loop-made-preserved
loop-made-preserved g c =
    let p = c.args.self.now in
    let q = c.loop-made.self in
    let r = c.prepare_next.new.self in
    let d = g.F.FileSystem.disk c.args.files.now in
    let y = g.F.FileSystem.disk c.loop-made.files in
    let e = g.F.FileSystem.disk c.prepare_next.new.files in
    let was = c.loop-made.invariant in
    let now = c.in-Ok-true.ensures in
    record {
      pipe = now.pipe;
      same = reserved_again p q r was.same now.same;
      count = omega (arith, now.more c.in-Ok-true.field-0-test, was.count);
      front = front_then p.reserved.items q.reserved.items r.reserved.items was.front now.front;
      unreserved = unreserved_then d y e was.unreserved now.unreserved;
      next = omega (arith, was.next, now.next);
      later = no_more_then was.later now.later;
    }

pub returns-in-Ok-false-clause-ok : goal.returns-in-Ok-false-clause-ok
returns-in-Ok-false-clause-ok g c =
    ⊎_elim
    (λ made. let yes : c.in-Ok-false.field-0 ≡ true = made in let no : c.in-Ok-false.field-0 ≡ false = c.in-Ok-false.field-0-test in absurd cc)
    (λ obstructed. inr obstructed)
    c.in-Ok-false.ensures.obstructed

pub returns-in-Ok-false-clause-front : goal.returns-in-Ok-false-clause-front
returns-in-Ok-false-clause-front g c =
    let p = c.args.self.now in
    let q = c.loop-made.self in
    let r = c.prepare_next.new.self in
    let d = g.F.FileSystem.disk c.args.files.now in
    let y = g.F.FileSystem.disk c.loop-made.files in
    let e = g.F.FileSystem.disk c.prepare_next.new.files in
    let was = c.loop-made.invariant in
    front_then p.reserved.items q.reserved.items r.reserved.items was.front c.in-Ok-false.ensures.front

pub returns-in-Ok-false-clause-unreserved : goal.returns-in-Ok-false-clause-unreserved
returns-in-Ok-false-clause-unreserved g c =
    let p = c.args.self.now in
    let q = c.loop-made.self in
    let r = c.prepare_next.new.self in
    let d = g.F.FileSystem.disk c.args.files.now in
    let y = g.F.FileSystem.disk c.loop-made.files in
    let e = g.F.FileSystem.disk c.prepare_next.new.files in
    let was = c.loop-made.invariant in
    unreserved_then d y e was.unreserved c.in-Ok-false.ensures.unreserved

pub returns-in-Ok-false-clause-later : goal.returns-in-Ok-false-clause-later
returns-in-Ok-false-clause-later g c =
    let p = c.args.self.now in
    let q = c.loop-made.self in
    let r = c.prepare_next.new.self in
    let d = g.F.FileSystem.disk c.args.files.now in
    let y = g.F.FileSystem.disk c.loop-made.files in
    let e = g.F.FileSystem.disk c.prepare_next.new.files in
    let was = c.loop-made.invariant in
    no_more_then was.later c.in-Ok-false.ensures.later

pub returns-in-Err-clause-front : goal.returns-in-Err-clause-front
returns-in-Err-clause-front g c =
    let p = c.args.self.now in
    let q = c.loop-made.self in
    let r = c.prepare_next.new.self in
    let d = g.F.FileSystem.disk c.args.files.now in
    let y = g.F.FileSystem.disk c.loop-made.files in
    let e = g.F.FileSystem.disk c.prepare_next.new.files in
    let was = c.loop-made.invariant in
    front_then p.reserved.items q.reserved.items r.reserved.items was.front c.in-Err.ensures.front

pub returns-in-Err-clause-unreserved : goal.returns-in-Err-clause-unreserved
returns-in-Err-clause-unreserved g c =
    let p = c.args.self.now in
    let q = c.loop-made.self in
    let r = c.prepare_next.new.self in
    let d = g.F.FileSystem.disk c.args.files.now in
    let y = g.F.FileSystem.disk c.loop-made.files in
    let e = g.F.FileSystem.disk c.prepare_next.new.files in
    let was = c.loop-made.invariant in
    unreserved_then d y e was.unreserved c.in-Err.ensures.unreserved

pub returns-in-Err-clause-later : goal.returns-in-Err-clause-later
returns-in-Err-clause-later g c =
    let p = c.args.self.now in
    let q = c.loop-made.self in
    let r = c.prepare_next.new.self in
    let d = g.F.FileSystem.disk c.args.files.now in
    let y = g.F.FileSystem.disk c.loop-made.files in
    let e = g.F.FileSystem.disk c.prepare_next.new.files in
    let was = c.loop-made.invariant in
    no_more_then was.later c.in-Err.ensures.later

pub returns-in-Err-clause-taken : goal.returns-in-Err-clause-taken
returns-in-Err-clause-taken g c =
    let p = c.args.self.now in
    let q = c.loop-made.self in
    let r = c.prepare_next.new.self in
    let d = g.F.FileSystem.disk c.args.files.now in
    let y = g.F.FileSystem.disk c.loop-made.files in
    let e = g.F.FileSystem.disk c.prepare_next.new.files in
    let was = c.loop-made.invariant in
    let lt : c.loop-made._made < c.args.wanted - length p.reserved.items = omega (arith, c.loop-made-test.true, c.saturating_sub-missing.ensures, c.len.ensures, c.args.self.now.reserved.ok.0) in
    λ free.
    still_taken Bool (Unit {0}) ⊥ (LacksNumbers y 1) ⊥ (LacksNumbers d (c.args.wanted - length p.reserved.items)) c.in-Err.fault (λ x. x) (lacks_more d y c.loop-made._made (c.args.wanted - length p.reserved.items) was.next lt)
    (c.in-Err.ensures.taken (still_free free was.later))

pub returns-in-Err-clause-cause : goal.returns-in-Err-clause-cause
returns-in-Err-clause-cause g c =
    let p = c.args.self.now in
    let q = c.loop-made.self in
    let r = c.prepare_next.new.self in
    let d = g.F.FileSystem.disk c.args.files.now in
    let y = g.F.FileSystem.disk c.loop-made.files in
    let e = g.F.FileSystem.disk c.prepare_next.new.files in
    let was = c.loop-made.invariant in
    let a = g.F.FileSystem.meter c.args.files.now in
    let b = g.F.FileSystem.meter c.loop-made.files in
    let z = g.F.FileSystem.meter c.prepare_next.new.files in
    still_taken Bool (Unit {0}) ⊥ (Rises 1 b z) ⊥ (Rises 1 a z) c.in-Err.fault (λ x. x) (rises_then 0 1 a b z was.later.counts) c.in-Err.ensures.cause
