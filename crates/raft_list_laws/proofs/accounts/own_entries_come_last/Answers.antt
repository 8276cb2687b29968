use Rattle.raft_list_laws.proofs.OwnEntries.{own_entries_come_last}
use Rattle.raft_list_laws.proofs.accounts.own_entries_come_last.Goals as goal

pub returns : goal.returns
returns c = own_entries_come_last
