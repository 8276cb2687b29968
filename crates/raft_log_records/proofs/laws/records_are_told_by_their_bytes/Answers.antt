use Rattle.raft_log_records.proofs.Locality.{answers_stay, records_need_their_length}
use Rattle.raft_log_records.proofs.laws.records_are_told_by_their_bytes.Goals as goal

pub returns-clause-stay : goal.returns-clause-stay
returns-clause-stay c = answers_stay

pub returns-clause-cut_short : goal.returns-clause-cut_short
returns-clause-cut_short c = records_need_their_length
