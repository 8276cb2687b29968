-- It goes on with each group.
use Rattle.std.proofs.Common.{◌≡◌, ◌++◌, take}
use Rattle.std.specs.Prelude.{None}
use Rattle.raft_log_disk.specs.Cause.{RefusesNoMore}
use Rattle.raft_log_rewriter.specs.Parts.Stage.{between}
use Rattle.raft_log_rewriter.specs.Rewriting.{at}
use Rattle.raft_log_rewriter.proofs.Steps.{HasCome}
use Rattle.raft_log_rewriter.proofs.manager.rewrite_each.Given as goal

abbrev pub invariant-loop-group : goal.invariant-loop-group
invariant-loop-group g l = record {
  come : HasCome (g.F.FileSystem.disk l.fn.files) l.fn.pipes l.fn.log l.fn.writer (at between) (g.F.FileSystem.disk l.files) l.pipes l.log l.writer (λ done. at between (done ++ take l.group-index l.groups));
  group : l.writer.group ≡ None;
  later : RefusesNoMore (g.F.FileSystem.is_bounded l.fn.files) (g.F.FileSystem.is_bounded l.files) (g.F.FileSystem.meter l.fn.files) (g.F.FileSystem.meter l.files);
}
