-- What counts of the queue is counted.
use Rattle.raft_log_cleaning.proofs.Judged.{due_told}
use Rattle.raft_log_cleaning.proofs.due.has_due_garbage.Goals as goal

pub returns : goal.returns
returns c =
    due_told c.args.manager.now c.args.pipes.now c.args.log.now c.in_ok-live.live c.args.files c.rewrite_threshold-threshold.result c.garbage_percent-percent.result c.is_due.result
    c.requires.files c.rewrite_threshold-threshold.ensures c.garbage_percent-percent.ensures c.requires.together c.in_ok-live.ensures c.is_due.ensures
