-- By computing: with another definition `search` would break off at a limit before it finds them apart.
use Rattle.std.specs.Prelude.{refl}
use Rattle.raft_history_laws.proofs.leader_lists.lists_of_leaders.Goals as goal

pub returns-clause-other_vote : goal.returns-clause-other_vote
returns-clause-other_vote c = refl
