use Rattle.std.proofs.Common.{sym, ◌∙◌}
use Rattle.raft_log_pipe.specs.Alone.{directories_of_pipe}
use Rattle.raft_log_pipe.proofs.ReuseLemmas.{all_reserved}
use Rattle.raft_log_pipe.proofs.pipe.SinglePipe.+are_reserved.Goals as goal

pub returns-else-not-rises-clause-yes : goal.returns-else-not-rises-clause-yes
returns-else-not-rises-clause-yes g t c =
    all_reserved c.are_reserved.result c.args.self.now.queue (directories_of_pipe c.args.self.now) (g.F.FileSystem.disk c.args.files.now) c.args.found.now _ c.in-len1-up.len_at_least
    (c.in_ok-is_reserved-in-len1-up.ensures.yes c.if-not-branch.false) (sym c.rises.ensures ∙ c.if-not-rises.false) c.are_reserved.ensures.yes
