use Rattle.raft_log_file.proofs.LawLemmas.{written_batches_are_read}
use Rattle.raft_log_file.proofs.laws.written_batches_are_read.Goals as goal

pub returns : goal.returns
returns c = written_batches_are_read
