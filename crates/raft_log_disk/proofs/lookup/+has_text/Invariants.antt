use Rattle.std.proofs.Common.{length}
use Rattle.raft_log_disk.proofs.lookup.+has_text.Given as goal

abbrev pub decreases-has_text : goal.decreases-has_text
decreases-has_text l = length l.texts.now
