use Rattle.std.proofs.Common.{◌∙◌, ap, [], ◌∷◌, ◌++◌}
use Rattle.raft_quorums.proofs.CoherentLemmas.{step_joint}
use Rattle.raft_quorums.proofs.coherent.next_children.Goals as goal

pub returns : goal.returns
returns g c =
    c.in_ok-push-3.ensures.items
    ∙ ap (λ xs. xs ++ c.args.goal ∷ []) (c.in_ok-push-2.ensures.items ∙ ap (λ xs. xs ++ c.in_ok-last.last ∷ []) c.new-next.ensures.items)
    ∙ step_joint g.QS.PartialEq.eq c.args.goal c.args.children.now c.in_ok-last.last c.index-children-children.result c.requires.some
    (c.requires.clones _ _ c.in_ok-last.ensures.cases ∙ c.index-children-children.is) c.if-contains.ensures.value
