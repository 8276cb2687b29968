-- Tokens that were named in the order of their groups are those of each group.
use Rattle.std.proofs.Common.{ap, ◌∙◌}
use Rattle.raft_node.specs.Waiting.{of_group}
use Rattle.raft_node.proofs.NamedTokens.{by_group}
use Rattle.raft_node.proofs.machines.Machines.into_unknown.Goals as goal

pub returns : goal.returns
returns g c = λ group.
    ap (λ xs. of_group xs group) c.waiting_tokens.ensures.named
    ∙ by_group g.M.StateMachine.state c.args.self.appliers.entries group c.waiting_tokens.ensures.ordered
