use Rattle.std.proofs.Common.{refl, ap, arith}
use Rattle.raft_log_disk.specs.Cause.{Rises}
use Rattle.raft_log_disk.proofs.RefusalLemmas.{no_more_same, no_more_then, still_free}
use Rattle.raft_log_files.specs.declared.error.Error.{Error}
use Rattle.raft_log_pipe.specs.declared.pipe.SinglePipe.{SinglePipe}
use Rattle.raft_log_pipe.specs.Caused.{IsRefusalOrMemory}
use Rattle.raft_log_pipe.proofs.CausedLemmas.{caused_for, rises_then, told_cause}
use Rattle.raft_log_pipe.proofs.TakenLemmas.{exit_error, taken_for}
use Rattle.raft_log_pipe.proofs.TrimLemmas.{front_same, front_then, reserved_again, trim_alone, trim_holds, trimmed_same, trimmed_then}
use Rattle.raft_log_pipe.proofs.UnreservedLemmas.{same_unreserved, unreserved_then}
use Rattle.raft_log_pipe.proofs.pipe.SinglePipe.trim_reserved.Goals as goal

pub loop-gone-init : goal.loop-gone-init
loop-gone-init g c = record {
  pipe = c.requires;
  same = refl;
  count = omega arith;
  front = front_same c.args.self.now.reserved.items c.args.self.now.reserved.items refl;
  gone = trimmed_same c.args.self.now c.args.self.now (g.F.FileSystem.disk c.args.files.now) refl;
  unreserved = same_unreserved (g.F.FileSystem.disk c.args.files.now) (g.F.FileSystem.disk c.args.files.now) refl;
  later = no_more_same _ _;
}

pub loop-gone-preserved : goal.loop-gone-preserved
loop-gone-preserved g c =
    let p = c.args.self.now in
    let q = c.loop-gone.self in
    let r = c.delete_last.new.self in
    let now = c.in_ok-delete_last.ensures in
    let was = c.loop-gone.invariant in
    record {
      pipe = now.pipe;
      same = reserved_again p q r was.same now.same;
      count = omega (arith, now.fewer, was.count);
      front = front_then r.reserved.items q.reserved.items p.reserved.items now.front was.front;
      gone = trimmed_then p q r (g.F.FileSystem.disk c.loop-gone.files) (g.F.FileSystem.disk c.delete_last.new.files) (ap (λ (x : SinglePipe). x.paths) was.same) now.none was.gone now.gone;
      unreserved = unreserved_then (g.F.FileSystem.disk c.args.files.now) (g.F.FileSystem.disk c.loop-gone.files) (g.F.FileSystem.disk c.delete_last.new.files) was.unreserved now.unreserved;
      later = no_more_then was.later now.later;
    }

-- ---- a refused one

pub returns-in_err-delete_last-clause-same : goal.returns-in_err-delete_last-clause-same
returns-in_err-delete_last-clause-same g c = reserved_again c.args.self.now c.loop-gone.self c.delete_last.new.self c.loop-gone.invariant.same c.in_err-delete_last.ensures.same

pub returns-in_err-delete_last-clause-front : goal.returns-in_err-delete_last-clause-front
returns-in_err-delete_last-clause-front g c = front_then c.delete_last.new.self.reserved.items c.loop-gone.self.reserved.items c.args.self.now.reserved.items c.in_err-delete_last.ensures.front c.loop-gone.invariant.front

pub returns-in_err-delete_last-clause-unreserved : goal.returns-in_err-delete_last-clause-unreserved
returns-in_err-delete_last-clause-unreserved g c =
    unreserved_then (g.F.FileSystem.disk c.args.files.now) (g.F.FileSystem.disk c.loop-gone.files) (g.F.FileSystem.disk c.delete_last.new.files) c.loop-gone.invariant.unreserved c.in_err-delete_last.ensures.unreserved

pub returns-in_err-delete_last-clause-later : goal.returns-in_err-delete_last-clause-later
returns-in_err-delete_last-clause-later g c = no_more_then c.loop-gone.invariant.later c.in_err-delete_last.ensures.later

pub returns-in_err-delete_last-clause-taken : goal.returns-in_err-delete_last-clause-taken
returns-in_err-delete_last-clause-taken g c =
    λ free.
    exit_error ⊥ ⊥ ⊥ c.from_residual.result c.in_err-delete_last.field-0.0 c.from_residual.ensures.1
    (taken_for (Unit {0}) (Unit {0}) ⊥ ⊥ ⊥ ⊥ ⊥ ⊥ c.in_err-delete_last.field-0.0 (λ x. x) (λ x. x) (λ x. x) (c.in_err-delete_last.ensures.taken (still_free free c.loop-gone.invariant.later)))

pub returns-in_err-delete_last-clause-cause : goal.returns-in_err-delete_last-clause-cause
returns-in_err-delete_last-clause-cause g c =
    let a = g.F.FileSystem.meter c.args.files.now in
    let b = g.F.FileSystem.meter c.loop-gone.files in
    let e = g.F.FileSystem.meter c.delete_last.new.files in
    told_cause c.from_residual.result c.in_err-delete_last.field-0.0 (λ (x : Error). IsRefusalOrMemory a e x) c.from_residual.ensures.1
    (caused_for (Rises 1 b e) ⊥ ⊥ ⊥ (Rises 1 a e) ⊥ ⊥ ⊥ c.in_err-delete_last.field-0.0 (rises_then 0 1 a b e c.loop-gone.invariant.later.counts) (λ x. x) (λ x. x) (λ x. x) c.in_err-delete_last.ensures.cause)

pub returns-in_err-delete_last-clause-holds : goal.returns-in_err-delete_last-clause-holds
returns-in_err-delete_last-clause-holds g c =
    let met = g.met.F.FileSystem g.world.𝓛 g.world.𝓜 g.world.𝓡 ((λ s x. x), (λ x. x), (λ x. x), λ x. x) in
    trim_holds c.args.self.now c.delete_last.new.self (g.F.FileSystem.disk c.args.files.now) (g.F.FileSystem.disk c.delete_last.new.files) (met.is_named c.args.files.now) (met.is_named c.delete_last.new.files)
    (returns-in_err-delete_last-clause-same g c) (returns-in_err-delete_last-clause-unreserved g c)

pub returns-in_err-delete_last-clause-alone : goal.returns-in_err-delete_last-clause-alone
returns-in_err-delete_last-clause-alone g c =
    let met = g.met.F.FileSystem g.world.𝓛 g.world.𝓜 g.world.𝓡 ((λ s x. x), (λ x. x), (λ x. x), λ x. x) in
    trim_alone c.args.self.now c.delete_last.new.self (g.F.FileSystem.disk c.args.files.now) (g.F.FileSystem.disk c.delete_last.new.files) (met.is_named c.args.files.now) (met.is_named c.delete_last.new.files)
    (returns-in_err-delete_last-clause-same g c) (returns-in_err-delete_last-clause-unreserved g c)

-- ---- all went

pub returns-clause-ok : goal.returns-clause-ok
returns-clause-ok g c = omega (arith, c.loop-gone.invariant.count, c.saturating_sub-surplus.ensures, c.len.ensures, c.args.self.now.reserved.ok.0)

pub returns-clause-holds : goal.returns-clause-holds
returns-clause-holds g c =
    let met = g.met.F.FileSystem g.world.𝓛 g.world.𝓜 g.world.𝓡 ((λ s x. x), (λ x. x), (λ x. x), λ x. x) in
    trim_holds c.args.self.now c.loop-gone.self (g.F.FileSystem.disk c.args.files.now) (g.F.FileSystem.disk c.loop-gone.files) (met.is_named c.args.files.now) (met.is_named c.loop-gone.files)
    c.loop-gone.invariant.same c.loop-gone.invariant.unreserved

pub returns-clause-alone : goal.returns-clause-alone
returns-clause-alone g c =
    let met = g.met.F.FileSystem g.world.𝓛 g.world.𝓜 g.world.𝓡 ((λ s x. x), (λ x. x), (λ x. x), λ x. x) in
    trim_alone c.args.self.now c.loop-gone.self (g.F.FileSystem.disk c.args.files.now) (g.F.FileSystem.disk c.loop-gone.files) (met.is_named c.args.files.now) (met.is_named c.loop-gone.files)
    c.loop-gone.invariant.same c.loop-gone.invariant.unreserved
