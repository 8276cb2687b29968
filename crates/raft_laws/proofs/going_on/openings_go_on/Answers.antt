use Rattle.raft_laws.proofs.GoingOn.{openings_go_on}
use Rattle.raft_laws.proofs.going_on.openings_go_on.Goals as goal

pub returns : goal.returns
returns c = openings_go_on
