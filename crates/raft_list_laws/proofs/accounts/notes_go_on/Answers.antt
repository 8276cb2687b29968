use Rattle.raft_list_laws.proofs.GoingOn.{notes_go_on}
use Rattle.raft_list_laws.proofs.accounts.notes_go_on.Goals as goal

pub returns : goal.returns
returns c = notes_go_on
