-- The end of a group.
use Rattle.raft_log_rewriter.specs.Parts.Stage.{between}
use Rattle.raft_log_rewriter.specs.Rewriting.{at}
use Rattle.raft_log_rewriter.proofs.Steps.{come_done, not_yet}
use Rattle.raft_log_rewriter.proofs.writer.Writer.end_group.Goals as goal

pub returns-then-approximate_size-lt-MOST_BATCH_BYTES-clause-goes_on : goal.returns-then-approximate_size-lt-MOST_BATCH_BYTES-clause-goes_on
returns-then-approximate_size-lt-MOST_BATCH_BYTES-clause-goes_on g c =
    come_done tt (not_yet (g.F.FileSystem.disk c.args.files.now) c.args.pipes.now c.args.log.now c.args.self.now (at between))
