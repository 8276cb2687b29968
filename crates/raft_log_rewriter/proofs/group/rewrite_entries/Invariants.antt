-- It goes on with each chunk.
use Rattle.std.proofs.Common.{◌≡◌, ◌≤◌, ◌-◌}
use Rattle.raft_log_disk.specs.Cause.{RefusesNoMore}
use Rattle.raft_log_rewriter.specs.Parts.Stage.{entries_to}
use Rattle.raft_log_rewriter.specs.Rewriting.{at}
use Rattle.raft_log_rewriter.proofs.Steps.{HasCome}
use Rattle.raft_log_rewriter.proofs.group.rewrite_entries.Given as goal

abbrev pub invariant-loop-begin : goal.invariant-loop-begin
invariant-loop-begin g l = record {
  come : HasCome (g.F.FileSystem.disk l.fn.files) l.fn.pipes l.fn.log l.fn.writer (at (entries_to l.group l.fn.range.0 l.fn.range.0)) (g.F.FileSystem.disk l.files) l.pipes l.log l.writer (at (entries_to l.group l.fn.range.0 l.begin));
  low : l.fn.range.0 ≤ l.begin;
  high : l.begin ≤ l.fn.range.1;
  traces : l.log.traces ≡ l.fn.log.traces;
  later : RefusesNoMore (g.F.FileSystem.is_bounded l.fn.files) (g.F.FileSystem.is_bounded l.files) (g.F.FileSystem.meter l.fn.files) (g.F.FileSystem.meter l.files);
}

abbrev pub decreases-loop-begin : goal.decreases-loop-begin
decreases-loop-begin g l = l.fn.range.1 - l.begin
