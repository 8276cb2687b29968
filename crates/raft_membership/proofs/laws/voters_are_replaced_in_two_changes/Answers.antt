use Rattle.raft_membership.proofs.ReplaceLemmas.{replaced_in_two, has_some}
use Rattle.raft_membership.proofs.laws.voters_are_replaced_in_two_changes.Goals as goal

pub returns : goal.returns
returns g c = λ retain. replaced_in_two g.NID.PartialEq.eq g.NID.Ord.cmp g.met.NID.Eq.laws g.met.NID.NodeIdEssential.equal_is_same c.args.membership.now c.args.goal.now retain c.requires.valid (has_some c.args.goal.now c.requires.some) c.requires.present
