use Rattle.raft_history_laws.proofs.LeaderLists.{lists_are_stored, lists_grow}
use Rattle.raft_history_laws.proofs.leader_lists.leaders_append_only.Goals as goal

pub returns-clause-grow : goal.returns-clause-grow
returns-clause-grow c = lists_grow

pub returns-clause-stored : goal.returns-clause-stored
returns-clause-stored c = lists_are_stored
