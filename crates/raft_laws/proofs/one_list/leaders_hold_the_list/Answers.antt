use Rattle.raft_laws.proofs.ListLaws.{leaders_hold}
use Rattle.raft_laws.proofs.one_list.leaders_hold_the_list.Goals as goal

pub returns : goal.returns
returns c = leaders_hold
