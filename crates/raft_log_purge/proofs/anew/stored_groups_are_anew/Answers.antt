use Rattle.raft_log_purge.proofs.RewrittenAnew.{stored_groups_are_anew, gone_groups_are_anew, begun_groups_are_anew, entries_stand_below, written_groups_are_named}
use Rattle.raft_log_purge.proofs.anew.stored_groups_are_anew.Goals as goal

pub returns-clause-stored : goal.returns-clause-stored
returns-clause-stored c = stored_groups_are_anew

pub returns-clause-gone : goal.returns-clause-gone
returns-clause-gone c = gone_groups_are_anew

pub returns-clause-begun : goal.returns-clause-begun
returns-clause-begun c = begun_groups_are_anew

pub returns-clause-below : goal.returns-clause-below
returns-clause-below c = entries_stand_below

pub returns-clause-named : goal.returns-clause-named
returns-clause-named c = written_groups_are_named
