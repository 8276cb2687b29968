-- The cleaning goes on with each group.
use Rattle.raft_log_disk.specs.Cause.{RefusesNoMore}
use Rattle.raft_log_cleaner.proofs.Going.{HasGone}
use Rattle.raft_log_cleaner.proofs.manager.mark_each.Given as goal

abbrev pub invariant-loop-group : goal.invariant-loop-group
invariant-loop-group g l = record {
  gone : HasGone (g.F.FileSystem.disk l.fn.files) l.fn.pipes l.fn.log l.fn.writer.batch.items (g.F.FileSystem.disk l.files) l.pipes l.log l.writer.batch.items;
  later : RefusesNoMore (g.F.FileSystem.is_bounded l.fn.files) (g.F.FileSystem.is_bounded l.files) (g.F.FileSystem.meter l.fn.files) (g.F.FileSystem.meter l.files);
}
