use Rattle.raft_list_laws.proofs.NewEntries.{new_entries_are_few}
use Rattle.raft_list_laws.proofs.accounts.new_entries_are_few.Goals as goal

pub returns : goal.returns
returns c = new_entries_are_few
