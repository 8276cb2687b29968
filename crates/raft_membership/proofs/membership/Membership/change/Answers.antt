use Rattle.raft_membership.specs.Membership.{has_empty_group, least_outside}
use Rattle.raft_membership.specs.MembershipChange.{changed}
use Rattle.raft_quorums.specs.Nodes.{has_node}
use Rattle.raft_membership.proofs.FaultLemmas.{told-fault}
use Rattle.raft_membership.proofs.membership.Membership.change.Goals as goal

pub returns-in-Some-clause-err : goal.returns-in-Some-clause-err
returns-in-Some-clause-err g c =
    let next = changed g.NID.PartialEq.eq g.NID.Ord.cmp c.args.self.now c.args.change c.args.retain in
    told-fault (has_empty_group next.configs) (least_outside g.NID.Ord.cmp (has_node g.NID.PartialEq.eq next.nodes) next.configs)
    c.in-Some.fault (c.in-Some.ensures c.args.retain)
