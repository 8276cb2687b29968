use Rattle.raft_history_laws.proofs.LackedQuorums.{candidates_lack_quorums}
use Rattle.raft_history_laws.proofs.candidates.candidates_lack_quorums.Goals as goal

pub returns : goal.returns
returns c = candidates_lack_quorums
