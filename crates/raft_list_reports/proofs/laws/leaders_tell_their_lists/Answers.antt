use Rattle.raft_list_reports.proofs.TellingLists.{bases_are_told, notes_are_told}
use Rattle.raft_list_reports.proofs.laws.leaders_tell_their_lists.Goals as goal

pub returns-clause-notes : goal.returns-clause-notes
returns-clause-notes c = notes_are_told

pub returns-clause-bases : goal.returns-clause-bases
returns-clause-bases c = bases_are_told
