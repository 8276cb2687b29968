use Rattle.std.proofs.Common.{ap, ◌∙◌}
use Rattle.raft_conditions.proofs.SizeLemmas.{fit_without, is_fit_without}
use Rattle.raft_conditions.proofs.fitting.are_fit_without.Goals as goal

pub returns : goal.returns
returns c =
    c.are_left_short.ensures
    ∙ ap (λ xs. is_fit_without xs c.args.ids.now) c.nodes.ensures.nodes
    ∙ fit_without c.args.old.now.nodes c.args.ids.now
