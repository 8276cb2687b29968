use Rattle.std.proofs.Common.{inl, inr, ℕ, ◌+◌, ◌≤◌, refl, subst, arith, ◌∙◌}
use Rattle.raft_log_records.specs.declared.file_id.LogQueue.{LogQueue}
use Rattle.raft_log_pipe.specs.Pipe.{first_of}
use Rattle.raft_log_pipe.specs.Purging.{KeepsFrom}
use Rattle.raft_log_disk.proofs.RefusalLemmas.{no_more_same, no_more_then, still_free}
use Rattle.raft_log_pipe.specs.Taken.{HasLost}
use Rattle.raft_log_pipe.proofs.LostLemmas.{alone_purge, lost_more}
use Rattle.raft_log_pipe.proofs.TakenLemmas.{exit_error, taken_for}
use Rattle.raft_log_pipe.proofs.PurgeLemmas.{first_more, first_or_more, first_or_next, goes_on, gone_on, holds_all, in_files, last_on, none_gone, rest_on, same_keeps}
use Rattle.raft_log_pipe.proofs.KeepLemmas.{first_on, first_self, fresh_on, kept_on, none_fresh, none_went}
use Rattle.raft_log_disk.specs.Cause.{Rises}
use Rattle.raft_log_files.specs.declared.error.Error.{Error}
use Rattle.raft_log_pipe.specs.Caused.{IsPurgeFault}
use Rattle.raft_log_pipe.proofs.CausedLemmas.{caused_for, purge_found, rises_then, told_cause}
use Rattle.raft_log_disk.proofs.CauseLemmas.{at_err}
use Rattle.raft_log_pipe.specs.Purging.{StandsFrom}
use Rattle.raft_log_pipe.proofs.RestLemmas.{rest_alone, stands_from, stands_whole}
use Rattle.raft_log_pipe.proofs.EndLemmas.{not_given, not_ok}
use Rattle.raft_log_pipe.proofs.pipe.SinglePipe.purge_to.Goals as goal

pub returns-in_default-clause-holds : goal.returns-in_default-clause-holds
returns-in_default-clause-holds g c = holds_all c.args.self.now (g.F.FileSystem.disk c.args.files.now) (g.F.FileSystem.disk c.args.files.now) c.requires.pipe refl

pub loop-gone-init : goal.loop-gone-init
loop-gone-init g c =
    let within = in_files c.args.self.now (g.F.FileSystem.disk c.args.files.now) c.in-Some.file c.args.seq c.requires.pipe c.in-Some.ensures.found.0 c.in-Some.ensures.found.1 in
    record {
      pipe = c.requires.pipe;
      count = omega arith;
      span = omega (arith, within.0, within.1, c.in-Some.ensures.found.1, c.file_span-first.ensures.first);
      active = refl;
      queue = refl;
      paths = refl;
      front = first_self c.args.self.now.reserved.items;
      bound = omega arith;
      kept = none_went c.args.self.now (g.F.FileSystem.disk c.args.files.now) (g.F.FileSystem.disk c.args.files.now) c.saturating_sub-room.result;
      fresh = none_fresh c.args.self.now (g.F.FileSystem.disk c.args.files.now);
      set = (refl, refl, refl);
      holds = holds_all c.args.self.now (g.F.FileSystem.disk c.args.files.now) (g.F.FileSystem.disk c.args.files.now) c.requires.pipe refl;
      keeps = same_keeps c.args.self.now.queue (first_of c.args.self.now) (g.F.FileSystem.disk c.args.files.now) (g.F.FileSystem.disk c.args.files.now) refl;
      rest = (0, refl);
      gone = none_gone c.args.self.now (g.F.FileSystem.disk c.args.files.now);
      lost = λ seq x. x;
      later = no_more_same _ _;
    }

pub returns-in_default-clause-rest : goal.returns-in_default-clause-rest
returns-in_default-clause-rest g c = (0, refl)

pub returns-in_err-purge_first-clause-rest : goal.returns-in_err-purge_first-clause-rest
returns-in_err-purge_first-clause-rest g c = last_on c.args.self.now.older.items c.loop-gone.self.older.items c.purge_first.new.self.older.items c.loop-gone.invariant.rest c.in_err-purge_first.ensures.rest

pub returns-in_err-purge_first-clause-holds : goal.returns-in_err-purge_first-clause-holds
returns-in_err-purge_first-clause-holds g c =
    rest_on c.args.self.now c.loop-gone.self c.purge_first.new.self (g.F.FileSystem.disk c.args.files.now) (g.F.FileSystem.disk c.loop-gone.files) (g.F.FileSystem.disk c.purge_first.new.files)
    (first_or_more c.loop-gone.self c.purge_first.new.self (g.F.FileSystem.disk c.loop-gone.files) c.loop-gone.invariant.pipe c.in_err-purge_first.ensures.same.0 c.in_err-purge_first.ensures.err)
    c.loop-gone.invariant.holds c.in_err-purge_first.ensures.holds

pub returns-in_err-purge_first-clause-keeps : goal.returns-in_err-purge_first-clause-keeps
returns-in_err-purge_first-clause-keeps g c =
    goes_on c.args.self.now c.loop-gone.self c.purge_first.new.self (g.F.FileSystem.disk c.args.files.now) (g.F.FileSystem.disk c.loop-gone.files) (g.F.FileSystem.disk c.purge_first.new.files)
    c.loop-gone.invariant.pipe c.in_err-purge_first.ensures.pipe
    (first_or_more c.loop-gone.self c.purge_first.new.self (g.F.FileSystem.disk c.loop-gone.files) c.loop-gone.invariant.pipe c.in_err-purge_first.ensures.same.0 c.in_err-purge_first.ensures.err)
    c.loop-gone.invariant.queue c.loop-gone.invariant.keeps c.in_err-purge_first.ensures.keeps

pub loop-gone-preserved : goal.loop-gone-preserved
loop-gone-preserved g c =
    let met = g.met.F.FileSystem g.world.𝓛 g.world.𝓜 g.world.𝓡 ((λ s x. x), (λ x. x), (λ x. x), λ x. x) in
    let more = first_more c.loop-gone.self c.purge_first.new.self (g.F.FileSystem.disk c.loop-gone.files) (g.F.FileSystem.disk c.purge_first.new.files) c.loop-gone.invariant.pipe c.in_ok-purge_first.ensures.same.0
    c.in_ok-purge_first.ensures.ok in
    let le = first_or_more c.loop-gone.self c.purge_first.new.self (g.F.FileSystem.disk c.loop-gone.files) c.loop-gone.invariant.pipe c.in_ok-purge_first.ensures.same.0 (inl c.in_ok-purge_first.ensures.ok) in
    record {
      pipe = c.in_ok-purge_first.ensures.pipe;
      count = omega (arith, more, c.loop-gone.invariant.count);
      span = c.loop-gone.invariant.span;
      active = c.in_ok-purge_first.ensures.same.0 ∙ c.loop-gone.invariant.active;
      queue = c.in_ok-purge_first.ensures.same.1 ∙ c.loop-gone.invariant.queue;
      paths = c.in_ok-purge_first.ensures.same.2 ∙ c.loop-gone.invariant.paths;
      front = first_on c.args.self.now.reserved.items c.loop-gone.self.reserved.items c.purge_first.new.self.reserved.items c.loop-gone.invariant.front c.in_ok-purge_first.ensures.front;
      bound = omega (arith, c.loop-gone.invariant.bound, c.in_ok-purge_first.ensures.bound);
      kept = kept_on c.args.self.now c.loop-gone.self c.purge_first.new.self (g.F.FileSystem.disk c.args.files.now) (g.F.FileSystem.disk c.loop-gone.files) (g.F.FileSystem.disk c.purge_first.new.files)
          c.loop-gone.invariant.queue c.loop-gone.invariant.paths c.in_ok-purge_first.ensures.same.2 c.in_ok-purge_first.ensures.front c.loop-gone.invariant.fresh c.saturating_sub-room.result
          (met.is_named c.args.files.now) (met.is_named c.loop-gone.files) (met.is_named c.purge_first.new.files) c.requires.pipe c.loop-gone.invariant.pipe c.in_ok-purge_first.ensures.pipe c.loop-gone.invariant.front
          (first_of c.loop-gone.self) (first_of c.purge_first.new.self) c.loop-gone.invariant.keeps c.in_ok-purge_first.ensures.keeps c.loop-gone.invariant.kept c.in_ok-purge_first.ensures.kept;
      fresh = fresh_on c.args.self.now c.loop-gone.self c.purge_first.new.self (g.F.FileSystem.disk c.args.files.now) (g.F.FileSystem.disk c.loop-gone.files) (g.F.FileSystem.disk c.purge_first.new.files)
          c.loop-gone.invariant.queue c.loop-gone.invariant.paths c.in_ok-purge_first.ensures.same.2 c.in_ok-purge_first.ensures.front c.loop-gone.invariant.fresh c.in_ok-purge_first.ensures.fresh;
      set = (c.in_ok-purge_first.ensures.set.0 ∙ c.loop-gone.invariant.set.0, c.in_ok-purge_first.ensures.set.1 ∙ c.loop-gone.invariant.set.1, c.in_ok-purge_first.ensures.set.2 ∙ c.loop-gone.invariant.set.2);
      holds = rest_on c.args.self.now c.loop-gone.self c.purge_first.new.self (g.F.FileSystem.disk c.args.files.now) (g.F.FileSystem.disk c.loop-gone.files) (g.F.FileSystem.disk c.purge_first.new.files) le
          c.loop-gone.invariant.holds c.in_ok-purge_first.ensures.holds;
      keeps = goes_on c.args.self.now c.loop-gone.self c.purge_first.new.self (g.F.FileSystem.disk c.args.files.now) (g.F.FileSystem.disk c.loop-gone.files) (g.F.FileSystem.disk c.purge_first.new.files)
          c.loop-gone.invariant.pipe c.in_ok-purge_first.ensures.pipe le c.loop-gone.invariant.queue c.loop-gone.invariant.keeps c.in_ok-purge_first.ensures.keeps;
      rest = last_on c.args.self.now.older.items c.loop-gone.self.older.items c.purge_first.new.self.older.items c.loop-gone.invariant.rest c.in_ok-purge_first.ensures.rest;
      gone = gone_on c.args.self.now c.loop-gone.self c.purge_first.new.self (first_of c.purge_first.new.self) (g.F.FileSystem.disk c.args.files.now) (g.F.FileSystem.disk c.loop-gone.files) (g.F.FileSystem.disk c.purge_first.new.files) c.requires.pipe
          c.loop-gone.invariant.queue c.loop-gone.invariant.paths
          (subst (λ (x : LogQueue). KeepsFrom x (first_of c.purge_first.new.self) (g.F.FileSystem.disk c.loop-gone.files) (g.F.FileSystem.disk c.purge_first.new.files)) c.loop-gone.invariant.queue c.in_ok-purge_first.ensures.keeps)
          c.loop-gone.invariant.gone c.in_ok-purge_first.ensures.gone;
      lost = λ seq x. c.loop-gone.invariant.lost seq (c.in_ok-purge_first.ensures.lost seq x);
      later = no_more_then c.loop-gone.invariant.later c.in_ok-purge_first.ensures.later;
    }

pub returns-in_err-purge_first-clause-later : goal.returns-in_err-purge_first-clause-later
returns-in_err-purge_first-clause-later g c = no_more_then c.loop-gone.invariant.later c.in_err-purge_first.ensures.later

pub returns-in_err-purge_first-clause-taken : goal.returns-in_err-purge_first-clause-taken
returns-in_err-purge_first-clause-taken g c =
    let p = c.args.self.now in
    let d = g.F.FileSystem.disk c.args.files.now in
    let q = c.loop-gone.self in
    let e = g.F.FileSystem.disk c.loop-gone.files in
    let next : first_of q + 1 ≤ c.args.seq = omega (arith, c.loop-gone.invariant.count, c.file_span-first.ensures.first, c.in-Some.ensures.found.1) in
    λ free.
    inr (exit_error ⊥ (HasLost p d c.args.seq) ⊥ c.from_residual.result c.in_err-purge_first.field-0.0 c.from_residual.ensures.1
    (taken_for (Unit {0}) ℕ ⊥ (HasLost q e (first_of q + 1)) ⊥ ⊥ (HasLost p d c.args.seq) ⊥ c.in_err-purge_first.field-0.0 (λ x. x)
    (λ lost. lost_more p d (first_of q + 1) c.args.seq next (c.loop-gone.invariant.lost (first_of q + 1) lost)) (λ x. x)
    (c.in_err-purge_first.ensures.taken (still_free free c.loop-gone.invariant.later))))

pub returns-in_err-purge_first-clause-there : goal.returns-in_err-purge_first-clause-there
returns-in_err-purge_first-clause-there g c = λ free. alone_purge c.args.self.now (g.F.FileSystem.disk c.args.files.now) c.args.seq c.from_residual.result (returns-in_err-purge_first-clause-taken g c free)

pub returns-in_err-purge_first-clause-cause : goal.returns-in_err-purge_first-clause-cause
returns-in_err-purge_first-clause-cause g c =
    let p = c.args.self.now in
    let d = g.F.FileSystem.disk c.args.files.now in
    let q = c.loop-gone.self in
    let y = g.F.FileSystem.disk c.loop-gone.files in
    let a = g.F.FileSystem.meter c.args.files.now in
    let b = g.F.FileSystem.meter c.loop-gone.files in
    let e = g.F.FileSystem.meter c.purge_first.new.files in
    let next : first_of q + 1 ≤ c.args.seq = omega (arith, c.loop-gone.invariant.count, c.file_span-first.ensures.first, c.in-Some.ensures.found.1) in
    told_cause c.from_residual.result c.in_err-purge_first.field-0.0 (λ (x : Error). IsPurgeFault p d c.args.seq a e x) c.from_residual.ensures.1
    (inr (caused_for (Rises 1 b e) ⊥ ⊥ (HasLost q y (first_of q + 1)) (Rises 1 a e) ⊥ ⊥ (HasLost p d c.args.seq) c.in_err-purge_first.field-0.0 (rises_then 0 1 a b e c.loop-gone.invariant.later.counts) (λ x. x) (λ x. x)
    (λ lost. lost_more p d (first_of q + 1) c.args.seq next (c.loop-gone.invariant.lost (first_of q + 1) lost)) c.in_err-purge_first.ensures.cause))

pub returns-in_err-purge_first-clause-found : goal.returns-in_err-purge_first-clause-found
returns-in_err-purge_first-clause-found g c =
    purge_found c.args.self.now (g.F.FileSystem.disk c.args.files.now) c.args.seq (g.F.FileSystem.meter c.args.files.now) (g.F.FileSystem.meter c.purge_first.new.files) c.from_residual.result (returns-in_err-purge_first-clause-cause g c)

pub returns-in_err-purge_first-clause-bound : goal.returns-in_err-purge_first-clause-bound
returns-in_err-purge_first-clause-bound g c =
    let q = c.loop-gone.self in
    let r = c.purge_first.new.self in
    let e = g.F.FileSystem.disk c.loop-gone.files in
    let low = first_or_more q r e c.loop-gone.invariant.pipe c.in_err-purge_first.ensures.same.0 c.in_err-purge_first.ensures.err in
    let high = first_or_next q r e c.loop-gone.invariant.pipe c.in_err-purge_first.ensures.same.0 c.in_err-purge_first.ensures.err in
    let next : first_of q + 1 ≤ c.args.seq = omega (arith, c.loop-gone.invariant.count, c.file_span-first.ensures.first, c.in-Some.ensures.found.1) in
    (omega (arith, c.loop-gone.invariant.count, low), λ h. omega (arith, high, next))

-- ---- what is left are the last files of the queue still

pub returns-clause-alone : goal.returns-clause-alone
returns-clause-alone g c =
    let met = g.met.F.FileSystem g.world.𝓛 g.world.𝓜 g.world.𝓡 ((λ s x. x), (λ x. x), (λ x. x), λ x. x) in
    let was = c.loop-gone.invariant in
    rest_alone c.args.self.now c.loop-gone.self (g.F.FileSystem.disk c.args.files.now) (g.F.FileSystem.disk c.loop-gone.files) (met.is_named c.args.files.now) (met.is_named c.loop-gone.files)
    c.requires.pipe was.active was.queue was.paths was.rest was.gone was.keeps

pub returns-in_default-clause-stands : goal.returns-in_default-clause-stands
returns-in_default-clause-stands g c = stands_whole c.args.self.now (g.F.FileSystem.disk c.args.files.now) c.requires.pipe

pub returns-in_err-purge_first-clause-stands : goal.returns-in_err-purge_first-clause-stands
returns-in_err-purge_first-clause-stands g c =
    let met = g.met.F.FileSystem g.world.𝓛 g.world.𝓜 g.world.𝓡 ((λ s x. x), (λ x. x), (λ x. x), λ x. x) in
    let was = c.loop-gone.invariant in
    let p = c.args.self.now in
    let q = c.loop-gone.self in
    let r = c.purge_first.new.self in
    let d = g.F.FileSystem.disk c.args.files.now in
    let y = g.F.FileSystem.disk c.loop-gone.files in
    let e = g.F.FileSystem.disk c.purge_first.new.files in
    let now = c.in_err-purge_first.ensures in
    let more = first_or_more q r y was.pipe now.same.0 now.err in
    at_err c.from_residual.result (StandsFrom p d r e)
    (stands_from p q r d y e (met.is_named c.args.files.now) (met.is_named c.loop-gone.files) (met.is_named c.purge_first.new.files) c.requires.pipe was.pipe was.active was.queue was.paths was.rest was.gone was.keeps (omega (arith, was.count))
    was.holds now.same.0 now.same.1 now.same.2 now.rest now.keeps more (rest_on p q r d y e more was.holds now.holds) now.stays)

pub returns-in_err-purge_first-clause-front : goal.returns-in_err-purge_first-clause-front
returns-in_err-purge_first-clause-front g c =
    first_on c.args.self.now.reserved.items c.loop-gone.self.reserved.items c.purge_first.new.self.reserved.items c.loop-gone.invariant.front c.in_err-purge_first.ensures.front

pub returns-in_err-purge_first-clause-kept : goal.returns-in_err-purge_first-clause-kept
returns-in_err-purge_first-clause-kept g c = not_ok _ _ c.from_residual.result c.from_residual.ensures.1

pub returns-in_err-purge_first-clause-fresh : goal.returns-in_err-purge_first-clause-fresh
returns-in_err-purge_first-clause-fresh g c = not_ok _ _ c.from_residual.result c.from_residual.ensures.1

pub returns-in_err-purge_first-clause-alone : goal.returns-in_err-purge_first-clause-alone
returns-in_err-purge_first-clause-alone g c = not_ok _ _ c.from_residual.result c.from_residual.ensures.1

pub returns-in_err-purge_first-clause-ok : goal.returns-in_err-purge_first-clause-ok
returns-in_err-purge_first-clause-ok g c = not_given _ _ c.from_residual.result c.from_residual.ensures.1

pub returns-in_err-purge_first-clause-gone : goal.returns-in_err-purge_first-clause-gone
returns-in_err-purge_first-clause-gone g c = not_ok _ _ c.from_residual.result c.from_residual.ensures.1
