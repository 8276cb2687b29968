use Rattle.raft_list_reports.proofs.NewNotes.{new_entries_are_asked}
use Rattle.raft_list_reports.proofs.laws.new_entries_are_asked.Goals as goal

pub returns : goal.returns
returns c = new_entries_are_asked
