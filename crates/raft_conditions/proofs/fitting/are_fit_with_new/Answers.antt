use Rattle.std.proofs.Common.{ap, ◌∙◌}
use Rattle.raft_conditions.proofs.SizeLemmas.{fit_with_new, is_fit_with_new}
use Rattle.raft_conditions.proofs.fitting.are_fit_with_new.Goals as goal

pub returns : goal.returns
returns c =
    let nodes = c.args.old.now.nodes in
    c.are_few_and_short.ensures
    ∙ ap (λ xs. is_fit_with_new xs c.as_slice.result.now) c.nodes.ensures.nodes
    ∙ ap (is_fit_with_new nodes) c.as_slice.ensures.nodes
    ∙ fit_with_new nodes c.args.more.now c.nodes.ensures.rising c.as_slice.ensures.rising
