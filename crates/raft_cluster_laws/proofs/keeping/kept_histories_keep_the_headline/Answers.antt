use Rattle.raft_cluster_laws.proofs.EventKept.{candidates_stand, have_applied, kept_is_headline}
use Rattle.raft_cluster_laws.proofs.keeping.kept_histories_keep_the_headline.Goals as goal

pub returns-clause-headline : goal.returns-clause-headline
returns-clause-headline c = kept_is_headline

pub returns-clause-stand : goal.returns-clause-stand
returns-clause-stand c = candidates_stand

pub returns-clause-applied : goal.returns-clause-applied
returns-clause-applied c = have_applied
