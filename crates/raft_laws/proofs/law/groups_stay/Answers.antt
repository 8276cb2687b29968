use Rattle.raft_laws.proofs.GroupsStay.{groups_stay}
use Rattle.raft_laws.proofs.law.groups_stay.Goals as goal

pub returns : goal.returns
returns c = groups_stay
