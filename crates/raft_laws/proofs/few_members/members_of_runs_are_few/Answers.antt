use Rattle.raft_laws.proofs.FewMembers.{members_few}
use Rattle.raft_laws.proofs.few_members.members_of_runs_are_few.Goals as goal

pub returns : goal.returns
returns c = members_few
