-- The cleaning goes on with each chunk.
use Rattle.raft_log_disk.specs.Cause.{RefusesNoMore}
use Rattle.raft_log_cleaner.proofs.Going.{HasGone}
use Rattle.raft_log_cleaner.proofs.entries.rewrite_all_entries.Given as goal

abbrev pub invariant-loop : goal.invariant-loop
invariant-loop g l = record {
  gone : HasGone (g.F.FileSystem.disk l.fn.files) l.fn.pipes l.fn.log l.fn.writer.batch.items (g.F.FileSystem.disk l.files) l.pipes l.log l.writer.batch.items;
  later : RefusesNoMore (g.F.FileSystem.is_bounded l.fn.files) (g.F.FileSystem.is_bounded l.files) (g.F.FileSystem.meter l.fn.files) (g.F.FileSystem.meter l.files);
}
