-- What is done is planned by what the traces tell, and then it is done.
use Rattle.std.proofs.Common.{refl, subst, sym}
use Rattle.std.specs.List.Sorted.{IsStrictlySortedBy}
use Rattle.std.specs.Ordering.{nat_cmp}
use Rattle.raft_log_cleaner.proofs.Calls.{barrier_same, cleans_refused, cleans_stopped}
use Rattle.raft_log_cleaner.proofs.Ends.{can_be_left, can_leave}
use Rattle.raft_log_cleaner.proofs.Going.{when_err, when_ok}
use Rattle.raft_log_cleaner.proofs.Keeping.{same_pipe, same_pipes}
use Rattle.raft_log_cleaner.proofs.Stood.{refused_stands}
use Rattle.raft_log_cleaner.proofs.Telling.{tells}
use Rattle.raft_log_cleaner.proofs.manager.PurgeManager.purge_expired_files.Goals as goal

pub returns-in_default-clause-both : goal.returns-in_default-clause-both
returns-in_default-clause-both g c =
    let d = g.F.FileSystem.disk c.args.files.now in
    (same_pipe c.args.pipes.now.append d, same_pipe c.args.pipes.now.rewrite d)

pub returns-in_default-clause-barrier : goal.returns-in_default-clause-barrier
returns-in_default-clause-barrier g c = barrier_same c.args.barrier c.args.pipes.now c.args.pipes.now refl

pub returns-in_default-clause-gone : goal.returns-in_default-clause-gone
returns-in_default-clause-gone g c = λ large. absurd (c.in_default.ensures.none large)

pub returns-in_default-clause-rising : goal.returns-in_default-clause-rising
unfolding IsStrictlySortedBy
returns-in_default-clause-rising g c = subst (IsStrictlySortedBy nat_cmp) (sym c.new.ensures.items) tt

pub plan_for-requires-clause-entries : goal.plan_for-requires-clause-entries
plan_for-requires-clause-entries g c = tells (g.F.FileSystem.disk c.args.files.now) c.args.pipes.now c.args.log.now c.requires.0 c.requires.1

pub returns-in_err-plan-clause-cleans : goal.returns-in_err-plan-clause-cleans
returns-in_err-plan-clause-cleans g c = cleans_stopped _ (g.F.FileSystem.disk c.args.files.now) c.args.pipes.now c.args.log.now c.from_residual.result c.from_residual.ensures.1

pub returns-in_err-plan-clause-stands : goal.returns-in_err-plan-clause-stands
returns-in_err-plan-clause-stands g c =
    let d = g.F.FileSystem.disk c.args.files.now in
    let p = c.args.pipes.now in
    let log = c.args.log.now in
    when_err c.from_residual.result (λ content can. refused_stands d d p p content (can_leave d p log content can) (can_be_left d d p p log content can (same_pipes d p)))

pub returns-in_err-clean_planned-clause-cleans : goal.returns-in_err-clean_planned-clause-cleans
returns-in_err-clean_planned-clause-cleans g c =
    cleans_refused _ c.from_residual-in_err-clean_planned.result c.in_err-clean_planned.field-0.0 c.from_residual-in_err-clean_planned.ensures.1 c.in_err-clean_planned.ensures.cleans

pub returns-in_err-clean_planned-clause-stands : goal.returns-in_err-clean_planned-clause-stands
returns-in_err-clean_planned-clause-stands g c = when_err c.from_residual-in_err-clean_planned.result c.in_err-clean_planned.ensures.stands
