use Rattle.raft_log_records.proofs.Locality.{zeros_are_no_record}
use Rattle.raft_log_records.proofs.laws.zeros_are_no_record.Goals as goal

pub returns : goal.returns
returns c = zeros_are_no_record
