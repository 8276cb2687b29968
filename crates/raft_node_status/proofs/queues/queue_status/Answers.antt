use Rattle.std.proofs.Common.{arith}
use Rattle.raft_log_pipes.specs.Pipes.{pipe_of}
use Rattle.raft_node_status.proofs.QueueLemmas.{numbers_count}
use Rattle.raft_node_status.proofs.queues.queue_status.Goals as goal

pub returns-clause-files : goal.returns-clause-files
returns-clause-files g c consecutive =
    let pipe = pipe_of c.args.engine.now.pipes c.args.queue in
    let counted = numbers_count pipe.older.items pipe.active.seq consecutive in
    omega (arith, counted)
