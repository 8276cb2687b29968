use Rattle.raft_membership.proofs.LawLemmas.{two_quorums_meet}
use Rattle.raft_membership.proofs.laws.quorums_share_a_voter.Goals as goal

pub returns : goal.returns
returns g c = λ p r f h. two_quorums_meet g.NID.PartialEq.eq g.met.NID.Eq.laws p r c.args.membership.now.configs c.requires f h
