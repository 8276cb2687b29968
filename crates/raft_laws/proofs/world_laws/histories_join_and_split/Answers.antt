use Rattle.raft_laws.proofs.Histories.{histories-join, histories-split}
use Rattle.raft_laws.proofs.world_laws.histories_join_and_split.Goals as goal

pub returns-clause-join : goal.returns-clause-join
returns-clause-join c = histories-join

pub returns-clause-split : goal.returns-clause-split
returns-clause-split c = histories-split
