use Rattle.std.proofs.Common.{◌≡◌, ◌==◌, ◌∙◌, Some, None, ap}
use Rattle.std.specs.List.{find}
use Rattle.std.specs.Option.{option_map}
use Rattle.raft_cluster.specs.Facts.{node_in}
use Rattle.raft_cluster.proofs.FactLemmas.{find_of_mapped}
use Rattle.raft_cluster.proofs.cluster.Cluster.node.Goals as goal

pub returns-in-Some : goal.returns-in-Some
returns-in-Some g c =
    let acts = g.N.ClusterNode.acts in
    let slots = c.self.inside.slots.items in
    let first : Some c.in-Some.slot.now ≡ find (λ slot. acts.id slot.node == c.args.id) slots = c.in-Some.ensures ∙ ap (find (λ slot. acts.id slot.node == c.args.id)) c.as_slice.ensures.value in
    ap (option_map (λ slot. slot.node)) first ∙ find_of_mapped (λ slot. slot.node) (λ node. acts.id node == c.args.id) slots ∙ ap (λ v. node_in acts v.nodes c.args.id) c.self.view_is

pub returns-in-None : goal.returns-in-None
returns-in-None g c =
    let acts = g.N.ClusterNode.acts in
    let slots = c.self.inside.slots.items in
    let first : None ≡ find (λ slot. acts.id slot.node == c.args.id) slots = c.in-None.ensures ∙ ap (find (λ slot. acts.id slot.node == c.args.id)) c.as_slice.ensures.value in
    ap (option_map (λ slot. slot.node)) first ∙ find_of_mapped (λ slot. slot.node) (λ node. acts.id node == c.args.id) slots ∙ ap (λ v. node_in acts v.nodes c.args.id) c.self.view_is
