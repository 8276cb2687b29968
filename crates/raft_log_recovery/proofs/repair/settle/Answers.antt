use Rattle.std.proofs.lemmas.Result.{err_from_is_err_and}
use Rattle.raft_log_recovery.proofs.RepairLemmas.{settle_cut, settle_unsynced}
use Rattle.std.proofs.Common.{◌^◌, ◌<◌, map, sym, subst, arith}
use Rattle.std.specs.Prelude.{Ok, Err}
use Rattle.raft_log_disk.specs.Disk.{Disk, IsIn, IsNoFile}
use Rattle.raft_log_disk.specs.Cause.{RefusesNoMore}
use Rattle.raft_log_disk.proofs.RefusalLemmas.{lacks_most, no_more_call, no_more_then, taken_call}
use Rattle.raft_log_pipe.proofs.TakenLemmas.{still_taken}
use Rattle.raft_log_pipe.proofs.CausedLemmas.{call_cause, exit_cause}
use Rattle.raft_log_recovery.specs.Caused.{IsRefusal}
use Rattle.raft_log_recovery.proofs.CausedLemmas.{refusal_then, refused_io}
use Rattle.raft_log_recovery.proofs.repair.settle.Goals as goal

pub returns-in_ok-sync-in-Some-clause-settles : goal.returns-in_ok-sync-in-Some-clause-settles
returns-in_ok-sync-in-Some-clause-settles g c =
    settle_cut (g.F.FileSystem.disk c.args.files.now) _ _ c.args.fd.0 c.in-Some.len c.args.cut c.in-Some.is c.in_ok-truncate-in-Some.ensures.ok c.in_ok-sync-in-Some.ensures.ok

pub returns-in_err-sync-in-Some-clause-settles : goal.returns-in_err-sync-in-Some-clause-settles
returns-in_err-sync-in-Some-clause-settles g c =
    let p = err_from_is_err_and c.from_residual-in_err-sync-in-Some.result c.from_residual-in_err-sync-in-Some.ensures.1 in
    rw p.1 (settle_unsynced p.0 (g.F.FileSystem.disk c.args.files.now) _ _ c.args.fd.0 c.in-Some.len c.args.cut c.in-Some.is c.in_ok-truncate-in-Some.ensures.ok c.in_err-sync-in-Some.ensures.err)

-- ---- what is set to refuse, and why it is refused

pub returns-in_err-sync-in-None-clause-later : goal.returns-in_err-sync-in-None-clause-later
returns-in_err-sync-in-None-clause-later g c = no_more_call _ _ _ _ _ _ _ (Err c.in_err-sync-in-None.field-0.0) c.in_err-sync-in-None.ensures.cause c.in_err-sync-in-None.ensures.call c.in_err-sync-in-None.ensures.bound

pub returns-in_ok-sync-in-None-clause-later : goal.returns-in_ok-sync-in-None-clause-later
returns-in_ok-sync-in-None-clause-later g c = no_more_call _ _ _ _ _ _ _ (Ok tt) c.in_ok-sync-in-None.ensures.cause c.in_ok-sync-in-None.ensures.call c.in_ok-sync-in-None.ensures.bound

pub returns-in_err-truncate-in-Some-clause-later : goal.returns-in_err-truncate-in-Some-clause-later
returns-in_err-truncate-in-Some-clause-later g c = no_more_call _ _ _ _ _ _ _ (Err c.in_err-truncate-in-Some.field-0.0) c.in_err-truncate-in-Some.ensures.cause c.in_err-truncate-in-Some.ensures.call c.in_err-truncate-in-Some.ensures.bound

pub returns-in_err-sync-in-Some-clause-later : goal.returns-in_err-sync-in-Some-clause-later
returns-in_err-sync-in-Some-clause-later g c =
    no_more_then (no_more_call _ _ _ _ _ _ _ (Ok tt) c.in_ok-truncate-in-Some.ensures.cause c.in_ok-truncate-in-Some.ensures.call c.in_ok-truncate-in-Some.ensures.bound)
    (no_more_call _ _ _ _ _ _ _ (Err c.in_err-sync-in-Some.field-0.0) c.in_err-sync-in-Some.ensures.cause c.in_err-sync-in-Some.ensures.call c.in_err-sync-in-Some.ensures.bound)

pub returns-in_ok-sync-in-Some-clause-later : goal.returns-in_ok-sync-in-Some-clause-later
returns-in_ok-sync-in-Some-clause-later g c =
    no_more_then (no_more_call _ _ _ _ _ _ _ (Ok tt) c.in_ok-truncate-in-Some.ensures.cause c.in_ok-truncate-in-Some.ensures.call c.in_ok-truncate-in-Some.ensures.bound)
    (no_more_call _ _ _ _ _ _ _ (Ok tt) c.in_ok-sync-in-Some.ensures.cause c.in_ok-sync-in-Some.ensures.call c.in_ok-sync-in-Some.ensures.bound)

pub returns-in_err-sync-in-None-clause-cause : goal.returns-in_err-sync-in-None-clause-cause
returns-in_err-sync-in-None-clause-cause g c =
    let free : Type 0 = g.F.FileSystem.is_bounded c.args.files.now in
    let a = g.F.FileSystem.meter c.args.files.now in
    let b = g.F.FileSystem.meter c.sync.new.self in
    let gone : Type 0 = IsNoFile (g.F.FileSystem.disk c.args.files.now) c.args.fd.0 in
    exit_cause (Unit {0}) (IsRefusal free ⊥ a b) ⊥ ⊥ gone c.from_residual.result c.in_err-sync-in-None.field-0.0 c.from_residual.ensures.1
    (refused_io (Unit {0}) gone free ⊥ a b c.in_err-sync-in-None.field-0.0 (call_cause (Unit {0}) (Unit {0}) gone ⊥ a b c.in_err-sync-in-None.field-0.0 c.in_err-sync-in-None.ensures.cause)
    (λ none. taken_call gone ⊥ ⊥ free a b (Err c.in_err-sync-in-None.field-0.0) (λ x. x) none c.in_err-sync-in-None.ensures.cause c.in_err-sync-in-None.ensures.call))

pub returns-in_err-truncate-in-Some-clause-cause : goal.returns-in_err-truncate-in-Some-clause-cause
returns-in_err-truncate-in-Some-clause-cause g c =
    let met = g.met.F.FileSystem g.world.𝓛 g.world.𝓜 g.world.𝓡 ((λ s x. x), (λ x. x), (λ x. x), λ x. x) in
    let free : Type 0 = g.F.FileSystem.is_bounded c.args.files.now in
    let d = g.F.FileSystem.disk c.args.files.now in
    let a = g.F.FileSystem.meter c.args.files.now in
    let b = g.F.FileSystem.meter c.truncate.new.self in
    let gone : Type 0 = IsNoFile d c.args.fd.0 in
    let small : c.in-Some.len < 2 ^ 64 = omega arith in
    exit_cause (Unit {0}) (IsRefusal free ⊥ a b) ⊥ ⊥ gone c.from_residual-in_err-truncate-in-Some.result c.in_err-truncate-in-Some.field-0.0 c.from_residual-in_err-truncate-in-Some.ensures.1
    (refused_io (Unit {0}) gone free ⊥ a b c.in_err-truncate-in-Some.field-0.0 (call_cause (Unit {0}) (Unit {0}) gone _ a b c.in_err-truncate-in-Some.field-0.0 c.in_err-truncate-in-Some.ensures.cause)
    (λ none. taken_call gone _ ⊥ free a b (Err c.in_err-truncate-in-Some.field-0.0)
    (λ lacks. let many = lacks_most _ d c.args.fd.0 _ (met.has_room c.args.files.now none.room) lacks in omega (arith, many, small)) none
    c.in_err-truncate-in-Some.ensures.cause c.in_err-truncate-in-Some.ensures.call))

pub returns-in_err-sync-in-Some-clause-cause : goal.returns-in_err-sync-in-Some-clause-cause
returns-in_err-sync-in-Some-clause-cause g c =
    let free : Type 0 = g.F.FileSystem.is_bounded c.args.files.now in
    let free_then : Type 0 = g.F.FileSystem.is_bounded c.truncate.new.self in
    let d = g.F.FileSystem.disk c.args.files.now in
    let y = g.F.FileSystem.disk c.truncate.new.self in
    let a = g.F.FileSystem.meter c.args.files.now in
    let b = g.F.FileSystem.meter c.truncate.new.self in
    let e = g.F.FileSystem.meter c.sync-in-Some.new.self in
    let gone : Type 0 = IsNoFile y c.args.fd.0 in
    let before : RefusesNoMore free free_then a b = no_more_call _ _ _ _ _ _ _ (Ok tt) c.in_ok-truncate-in-Some.ensures.cause c.in_ok-truncate-in-Some.ensures.call c.in_ok-truncate-in-Some.ensures.bound in
    exit_cause (Unit {0}) (IsRefusal free ⊥ a e) ⊥ ⊥ (IsNoFile d c.args.fd.0) c.from_residual-in_err-sync-in-Some.result c.in_err-sync-in-Some.field-0.0 c.from_residual-in_err-sync-in-Some.ensures.1
    (still_taken (Unit {0}) (Unit {0}) gone (IsRefusal free_then ⊥ b e) (IsNoFile d c.args.fd.0) (IsRefusal free ⊥ a e) c.in_err-sync-in-Some.field-0.0
    (λ none there. none (subst (λ (z : Disk). IsIn c.args.fd.0 (map (λ x. x.1) z.names)) (sym c.in_ok-truncate-in-Some.ensures.ok) there)) (refusal_then free free_then ⊥ ⊥ a b e before (λ x. x))
    (refused_io (Unit {0}) gone free_then ⊥ b e c.in_err-sync-in-Some.field-0.0 (call_cause (Unit {0}) (Unit {0}) gone ⊥ b e c.in_err-sync-in-Some.field-0.0 c.in_err-sync-in-Some.ensures.cause)
    (λ none. taken_call gone ⊥ ⊥ free_then b e (Err c.in_err-sync-in-Some.field-0.0) (λ x. x) none c.in_err-sync-in-Some.ensures.cause c.in_err-sync-in-Some.ensures.call)))
