use Rattle.raft_log_items.proofs.FoundLemmas.{behind_slash, no_slash}
use Rattle.raft_log_items.proofs.found.name_of.Goals as goal

pub returns-in-Some : goal.returns-in-Some
returns-in-Some c = behind_slash c.args.path.now _ _ c.in-Some.ensures.cases

pub returns-in-None : goal.returns-in-None
returns-in-None c = no_slash c.args.path.now c.in-None.ensures.cases
