use Rattle.raft_node_logs.proofs.Images.{bytes_more}
use Rattle.raft_node_logs.proofs.file_log.all_bytes.Goals as goal

pub loop-image-preserved : goal.loop-image-preserved
loop-image-preserved c = bytes_more _ _ _ _ _ _ c.loop-image.invariant c.loop-image-test.true c.image-item.is c.in_ok-bytes.ensures c.in_ok-push.ensures.items
