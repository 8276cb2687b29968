use Rattle.raft_cluster_lists.proofs.EventsOn.{away_goes_on, events_go_on}
use Rattle.raft_cluster_lists.proofs.keeping.events_go_on.Goals as goal

pub returns-clause-events : goal.returns-clause-events
returns-clause-events c = events_go_on

pub returns-clause-away : goal.returns-clause-away
returns-clause-away c = away_goes_on
