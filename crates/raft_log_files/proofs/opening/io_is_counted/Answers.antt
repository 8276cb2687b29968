use Rattle.raft_log_files.proofs.OpeningLemmas.{io_counted}
use Rattle.raft_log_files.proofs.opening.io_is_counted.Goals as goal

pub returns : goal.returns
returns c = λ f refusal refusals is. io_counted f refusal refusals is
