use Rattle.raft_list_laws.proofs.Matching.{noted_lists_agree}
use Rattle.raft_list_laws.proofs.accounts.noted_lists_agree.Goals as goal

pub returns : goal.returns
returns c = noted_lists_agree
