use Rattle.raft_log_records.proofs.Locality.{lengths_stay, lengths_need_eight, records_have_their_length}
use Rattle.raft_log_records.proofs.laws.lengths_are_told.Goals as goal

pub returns-clause-stay : goal.returns-clause-stay
returns-clause-stay c = lengths_stay

pub returns-clause-eight : goal.returns-clause-eight
returns-clause-eight c = lengths_need_eight

pub returns-clause-read : goal.returns-clause-read
returns-clause-read c = records_have_their_length
