use Rattle.raft_membership.proofs.LawLemmas.{change_shares}
use Rattle.raft_membership.proofs.laws.changes_are_coherent.Goals as goal

pub returns : goal.returns
returns g c = λ change retain. change_shares g.NID.PartialEq.eq g.NID.Ord.cmp g.met.NID.Eq.laws c.args.membership.now c.requires change retain
