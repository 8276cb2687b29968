use Rattle.std.proofs.Common.{length}
use Rattle.raft_log_disk.proofs.image.+has_span.Given as goal

abbrev pub decreases-has_span : goal.decreases-has_span
decreases-has_span l = length l.writes.now
