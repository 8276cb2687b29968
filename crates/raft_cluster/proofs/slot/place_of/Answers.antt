use Rattle.std.proofs.Common.{◌==◌, ◌∙◌, List, map, sym, ap}
use Rattle.raft_cluster.specs.Facts.{place_in}
use Rattle.raft_cluster.proofs.FactLemmas.{position_of_mapped}
use Rattle.raft_cluster.proofs.slot.place_of.Goals as goal

pub returns-in-Some-clause-first : goal.returns-in-Some-clause-first
returns-in-Some-clause-first g c =
    let acts = g.N.ClusterNode.acts in
    let nodes : List g.row.N.Denot = map (λ slot. slot.node) c.args.slots.now in
    c.position_of.ensures.first ∙ position_of_mapped (λ slot. slot.node) (λ node. acts.id node == c.in-Some.id) c.args.slots.now ∙ sym (ap (place_in acts nodes) c.in-Some.is)
