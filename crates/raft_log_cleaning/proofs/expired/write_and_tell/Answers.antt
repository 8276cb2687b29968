-- Groups are judged before the queue is written anew.
use Rattle.raft_log_cleaner.proofs.Calls.{cleans_refused, cleans_stopped}
use Rattle.raft_log_cleaner.proofs.Going.{when_err}
use Rattle.raft_log_cleaner.proofs.Telling.{tells}
use Rattle.raft_log_cleaning.proofs.Behind.{unchanged_stands}
use Rattle.raft_log_cleaning.proofs.expired.write_and_tell.Goals as goal

pub many_rewritten-requires : goal.many_rewritten-requires
many_rewritten-requires g c = tells (g.F.FileSystem.disk c.args.files.now) c.args.pipes.now c.args.log.now c.requires.can.0 c.requires.can.1

pub returns-in_err-many-clause-cleans : goal.returns-in_err-many-clause-cleans
returns-in_err-many-clause-cleans g c = cleans_stopped _ (g.F.FileSystem.disk c.args.files.now) c.args.pipes.now c.args.log.now c.from_residual.result c.from_residual.ensures.1

pub returns-in_err-many-clause-stands : goal.returns-in_err-many-clause-stands
returns-in_err-many-clause-stands g c = when_err c.from_residual.result (unchanged_stands (g.F.FileSystem.disk c.args.files.now) c.args.pipes.now c.args.log.now)

pub returns-in_err-write_anew-clause-cleans : goal.returns-in_err-write_anew-clause-cleans
returns-in_err-write_anew-clause-cleans g c =
    cleans_refused _ c.from_residual-in_err-write_anew.result c.in_err-write_anew.field-0.0 c.from_residual-in_err-write_anew.ensures.1 c.in_err-write_anew.ensures.cleans

pub returns-in_err-write_anew-clause-stands : goal.returns-in_err-write_anew-clause-stands
returns-in_err-write_anew-clause-stands g c = when_err c.from_residual-in_err-write_anew.result c.in_err-write_anew.ensures.stands
