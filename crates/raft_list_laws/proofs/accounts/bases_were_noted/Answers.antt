use Rattle.raft_list_laws.proofs.Bases.{bases_were_noted}
use Rattle.raft_list_laws.proofs.accounts.bases_were_noted.Goals as goal

pub returns : goal.returns
returns c = bases_were_noted
