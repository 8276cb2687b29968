use Rattle.raft_log_file.proofs.WriterLemmas.{counted_from}
use Rattle.raft_log_file.proofs.writer.LogFileWriter.close.Goals as goal

pub returns-clause-counted : goal.returns-clause-counted
returns-clause-counted g c = counted_from _ _ _ _ c.in_ok-truncate.ensures.no_refusal c.sync.ensures.counted
