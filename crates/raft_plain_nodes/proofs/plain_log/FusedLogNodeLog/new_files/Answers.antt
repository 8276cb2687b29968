use Rattle.std.proofs.Common.{◌∙◌}
use Rattle.raft_plain_nodes.proofs.plain_log.FusedLogNodeLog.new_files.Goals as goal

pub returns : goal.returns
returns c = record { fresh = c.new.ensures.unfused; none = λ content found. found.1.1 ∙ c.new.ensures.content }
