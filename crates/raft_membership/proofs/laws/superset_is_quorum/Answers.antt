use Rattle.raft_quorums.specs.QuorumLaws.{wider_quorum}
use Rattle.raft_membership.proofs.laws.superset_is_quorum.Goals as goal

pub returns : goal.returns
returns g c = λ p r wider h. wider_quorum p r wider c.args.membership.now.configs h
