use Rattle.raft_cluster_lists.proofs.ListsKept.{events_keep_lists, kept_lists_are_the_groups, lists_begin, lists_grow, new_lists_are_kept}
use Rattle.raft_cluster_lists.proofs.keeping.lists_are_kept.Goals as goal

pub returns-clause-new : goal.returns-clause-new
returns-clause-new c = new_lists_are_kept

pub returns-clause-begin : goal.returns-clause-begin
returns-clause-begin c = lists_begin

pub returns-clause-events : goal.returns-clause-events
returns-clause-events c = events_keep_lists

pub returns-clause-grow : goal.returns-clause-grow
returns-clause-grow c = lists_grow

pub returns-clause-lists : goal.returns-clause-lists
returns-clause-lists c = kept_lists_are_the_groups
