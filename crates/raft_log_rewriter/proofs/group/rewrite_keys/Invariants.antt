-- It goes on with each key.
use Rattle.std.proofs.Common.{◌≡◌, ℕ, [], take}
use Rattle.raft_log_disk.specs.Cause.{RefusesNoMore}
use Rattle.raft_log_records.specs.Batch.{payloads}
use Rattle.raft_log_rewriter.specs.Parts.Stage.{keys_to}
use Rattle.raft_log_rewriter.specs.Rewriting.{at}
use Rattle.raft_log_rewriter.proofs.Steps.{HasCome}
use Rattle.raft_log_rewriter.proofs.group.rewrite_keys.Given as goal

abbrev pub invariant-loop-name : goal.invariant-loop-name
invariant-loop-name g l = record {
  come : (first stop : ℕ) → HasCome (g.F.FileSystem.disk l.fn.files) l.fn.pipes l.fn.log l.fn.writer (at (keys_to l.group first stop [])) (g.F.FileSystem.disk l.files) l.pipes l.log l.writer (at (keys_to l.group first stop (payloads (take l.name-index l.names))));
  traces : l.log.traces ≡ l.fn.log.traces;
  later : RefusesNoMore (g.F.FileSystem.is_bounded l.fn.files) (g.F.FileSystem.is_bounded l.files) (g.F.FileSystem.meter l.fn.files) (g.F.FileSystem.meter l.files);
}
