use Rattle.std.proofs.Common.{◌≡◌, ℕ, ◌+◌, ◌-◌, ◌^◌, ◌<◌, ◌≤◌, List, length, min, take, replicate, refl, ap, ◌∙◌, arith, length-take}
use Rattle.std.specs.Prelude.{Err}
use Rattle.raft_log_disk.specs.Cause.{NothingRefuses, Rises}
use Rattle.raft_log_disk.specs.Disk.{FileState, IsNoFile, LacksRoom, after_write, put}
use Rattle.raft_log_disk.proofs.RefusalLemmas.{lacks_most, no_more_call, no_more_same, no_more_then, still_free, taken_call}
use Rattle.raft_log_pipe.proofs.CausedLemmas.{rises_then}
use Rattle.raft_log_pipe.proofs.PipeLemmas.{changes, changes_on, file_there, stays}
use Rattle.raft_log_pipe.proofs.PrefillLemmas.{write_cause, write_changes, zeros_long, zeros_more}
use Rattle.raft_log_pipe.proofs.TakenLemmas.{no_file_before, still_taken}
use Rattle.raft_log_pipe.proofs.prefilling.fill_zeros.Goals as goal

pub pieces-init : goal.pieces-init
pieces-init g c = record {
  within = omega arith;
  bytes = c.requires.bare;
  change = stays (g.F.FileSystem.disk c.args.files.now) (g.F.FileSystem.disk c.args.files.now) c.args.handle.0 refl;
  later = no_more_same _ _;
}

pub returns-in_err-zeros-clause-change : goal.returns-in_err-zeros-clause-change
returns-in_err-zeros-clause-change g c = stays (g.F.FileSystem.disk c.args.files.now) (g.F.FileSystem.disk c.args.files.now) c.args.handle.0 refl

pub write_at-requires : goal.write_at-requires
write_at-requires g c = omega (arith, zeros_long _ c.pieces.at c.pieces.invariant.bytes)

pub pieces-smaller : goal.pieces-smaller
pieces-smaller g c = omega (arith, c.pieces-test.true, c.min-len.ensures)

pub pieces-preserved : goal.pieces-preserved
pieces-preserved g c =
    let d = g.F.FileSystem.disk c.args.files.now in
    let e = g.F.FileSystem.disk c.pieces.files in
    let n = g.F.FileSystem.disk c.write_at.new.self in
    let fd = c.args.handle.0 in
    let at = c.pieces.at in
    let len = c.min-len.result in
    let was = c.pieces.invariant in
    let piece : List ℕ = take len c.deref.result.now in
    let absent : Type 0 = IsNoFile e fd in
    let cramped : Type 0 = LacksRoom (g.F.FileSystem.room c.pieces.files) e fd (at + length piece - length (e.file fd).bytes) in
    let barred : Type 0 = 2 ^ 64 ≤ at + length piece in
    let state : FileState = after_write (e.file fd) at piece (put (e.file fd).bytes at piece) in
    let all = min 16777216 c.args.size in
    let zeros : c.deref.result.now ≡ replicate all 0 = c.deref.ensures.value ∙ c.in_ok-zeros.ensures.items_if_clones_equal (λ y same. same) ∙ ap (λ (k : ℕ). replicate k 0) c.min.ensures in
    record {
      within = omega (arith, c.pieces-test.true, c.min-len.ensures);
      bytes = ap (λ (f : FileState). f.bytes) (file_there e n fd state c.in-Ok.ensures.ok) ∙ zeros_more (e.file fd).bytes piece at len all was.bytes (ap (take len) zeros) (omega (arith, c.pieces-test.true, c.min-len.ensures));
      change = changes_on d e n fd was.change (changes e n fd state c.in-Ok.ensures.ok);
      later = no_more_then was.later (no_more_call absent cramped barred _ _ _ _ _ c.in-Ok.ensures.cause c.in-Ok.ensures.call c.in-Ok.ensures.bound);
    }

pub returns-in-Err-clause-change : goal.returns-in-Err-clause-change
returns-in-Err-clause-change g c =
    let d = g.F.FileSystem.disk c.args.files.now in
    let e = g.F.FileSystem.disk c.pieces.files in
    let n = g.F.FileSystem.disk c.write_at.new.self in
    let fd = c.args.handle.0 in
    let at = c.pieces.at in
    let len = c.min-len.result in
    let was = c.pieces.invariant in
    let piece : List ℕ = take len c.deref.result.now in
    changes_on d e n fd was.change (write_changes e n fd at piece c.in-Err.ensures.err)

pub returns-in-Err-clause-later : goal.returns-in-Err-clause-later
returns-in-Err-clause-later g c =
    let d = g.F.FileSystem.disk c.args.files.now in
    let e = g.F.FileSystem.disk c.pieces.files in
    let n = g.F.FileSystem.disk c.write_at.new.self in
    let fd = c.args.handle.0 in
    let at = c.pieces.at in
    let len = c.min-len.result in
    let was = c.pieces.invariant in
    let piece : List ℕ = take len c.deref.result.now in
    let absent : Type 0 = IsNoFile e fd in
    let cramped : Type 0 = LacksRoom (g.F.FileSystem.room c.pieces.files) e fd (at + length piece - length (e.file fd).bytes) in
    let barred : Type 0 = 2 ^ 64 ≤ at + length piece in
    no_more_then was.later (no_more_call absent cramped barred _ _ _ _ _ c.in-Err.ensures.cause c.in-Err.ensures.call c.in-Err.ensures.bound)

pub returns-in-Err-clause-taken : goal.returns-in-Err-clause-taken
returns-in-Err-clause-taken g c =
    let met = g.met.F.FileSystem g.world.𝓛 g.world.𝓜 g.world.𝓡 ((λ s x. x), (λ x. x), (λ x. x), λ x. x) in
    let d = g.F.FileSystem.disk c.args.files.now in
    let e = g.F.FileSystem.disk c.pieces.files in
    let n = g.F.FileSystem.disk c.write_at.new.self in
    let fd = c.args.handle.0 in
    let at = c.pieces.at in
    let len = c.min-len.result in
    let was = c.pieces.invariant in
    let piece : List ℕ = take len c.deref.result.now in
    let absent : Type 0 = IsNoFile e fd in
    let cramped : Type 0 = LacksRoom (g.F.FileSystem.room c.pieces.files) e fd (at + length piece - length (e.file fd).bytes) in
    let barred : Type 0 = 2 ^ 64 ≤ at + length piece in
    let short : at + length piece < 2 ^ 64 = omega (arith, length-take len c.deref.result.now, c.pieces-test.true, c.min-len.ensures, c.ranges.size.fits) in
    λ free.
    let now : NothingRefuses (g.F.FileSystem.is_bounded c.pieces.files) (g.F.FileSystem.meter c.pieces.files) = still_free free was.later in
    still_taken (Unit {0}) (Unit {0}) absent barred ⊥ ⊥ c.in-Err.fault (λ none. c.requires.there (no_file_before d e fd fd refl was.change none)) (λ many. absurd (omega (arith, many, short)))
    (taken_call {T = Unit {0}} absent cramped barred (g.F.FileSystem.is_bounded c.pieces.files) _ _ (Err c.in-Err.fault)
    (λ lacks. let many = lacks_most _ e fd _ (met.has_room c.pieces.files now.room) lacks in absurd (omega (arith, many, short))) now c.in-Err.ensures.cause c.in-Err.ensures.call)

pub returns-in-Err-clause-cause : goal.returns-in-Err-clause-cause
returns-in-Err-clause-cause g c =
    let d = g.F.FileSystem.disk c.args.files.now in
    let e = g.F.FileSystem.disk c.pieces.files in
    let n = g.F.FileSystem.disk c.write_at.new.self in
    let fd = c.args.handle.0 in
    let at = c.pieces.at in
    let len = c.min-len.result in
    let was = c.pieces.invariant in
    let piece : List ℕ = take len c.deref.result.now in
    let absent : Type 0 = IsNoFile e fd in
    let cramped : Type 0 = LacksRoom (g.F.FileSystem.room c.pieces.files) e fd (at + length piece - length (e.file fd).bytes) in
    let barred : Type 0 = 2 ^ 64 ≤ at + length piece in
    let a = g.F.FileSystem.meter c.args.files.now in
    let b = g.F.FileSystem.meter c.pieces.files in
    let z = g.F.FileSystem.meter c.write_at.new.self in
    still_taken (Unit {0}) (Unit {0}) ⊥ (Rises 1 b z) ⊥ (Rises 1 a z) c.in-Err.fault (λ x. x) (rises_then 0 1 a b z was.later.counts)
    (write_cause (Unit {0}) (Unit {0}) absent cramped _ b z c.in-Err.fault (λ none. c.requires.there (no_file_before d e fd fd refl was.change none)) c.in-Err.ensures.cause)

pub returns-clause-ok : goal.returns-clause-ok
returns-clause-ok g c = c.pieces.invariant.bytes ∙ ap (λ (k : ℕ). replicate k 0) (omega (arith, c.pieces.invariant.within, c.pieces-test.false))
