use Rattle.raft_laws.proofs.ListLaws.{log_ids_agree}
use Rattle.raft_laws.proofs.one_list.log_id_stands_for_one_entry.Goals as goal

pub returns : goal.returns
returns c = log_ids_agree
