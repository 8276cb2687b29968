-- Marks of a group, in the batch.
use Rattle.std.proofs.Common.{refl}
use Rattle.raft_log_cleaner.proofs.Caused.{mark_cause, told_as}
use Rattle.raft_log_cleaner.proofs.Chunks.{are_there}
use Rattle.raft_log_cleaner.proofs.Going.{added, stopped}
use Rattle.raft_log_cleaner.proofs.entries.add_marks.Goals as goal

pub returns-in-Ok-clause-goes_on : goal.returns-in-Ok-clause-goes_on
returns-in-Ok-clause-goes_on g c =
    let d = g.F.FileSystem.disk c.args.files.now in
    added d c.args.pipes.now c.args.log.now (record c.args.log.now { traces = c.mark_group.new.traces }) c.args.writer.now.batch.items c.mark_group.new.batch.items tt refl refl
    (λ content s. c.in-Ok.ensures.steps content (are_there d c.args.pipes.now c.args.log.now c.args.writer.now.batch.items content s))

pub returns-in-Err-clause-goes_on : goal.returns-in-Err-clause-goes_on
returns-in-Err-clause-goes_on g c =
    stopped (g.F.FileSystem.disk c.args.files.now) c.args.pipes.now c.args.log.now (record c.args.log.now { traces = c.mark_group.new.traces }) c.args.writer.now.batch.items c.mark_group.new.batch.items c.of_mark.result

pub returns-in-Err-clause-cause : goal.returns-in-Err-clause-cause
returns-in-Err-clause-cause g c =
    let meter = g.F.FileSystem.meter c.args.files.now in
    told_as meter meter c.of_mark.result _ c.of_mark.ensures (mark_cause meter meter c.in-Err.error c.in-Err.ensures.cause)
