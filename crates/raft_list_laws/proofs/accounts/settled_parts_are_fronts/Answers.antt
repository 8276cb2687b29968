use Rattle.raft_list_laws.proofs.Fronts.{fronts_before_messages, fronts_before_notes, parts_of_histories}
use Rattle.raft_list_laws.proofs.accounts.settled_parts_are_fronts.Goals as goal

pub returns-clause-histories : goal.returns-clause-histories
returns-clause-histories c = parts_of_histories

pub returns-clause-notes : goal.returns-clause-notes
returns-clause-notes c = fronts_before_notes

pub returns-clause-messages : goal.returns-clause-messages
returns-clause-messages c = fronts_before_messages
