-- One token more is named behind those that waited.
use Rattle.std.proofs.Common.{◌≡◌, [], ◌∷◌, ◌++◌, ap, ◌∙◌, refl, arith}
use Rattle.std.proofs.lemmas.Grind.{common_steps}
use Rattle.raft_node.specs.Waiting.{named_of, of_group, one_more}
use Rattle.raft_node.proofs.NamedTokens.{by_group, one_named}
use Rattle.raft_node.proofs.machines.Machines.into_unknown_with.Goals as goal

pub returns : goal.returns
returns g c = λ other.
    let none : c.args.self.spare.items ≡ [] = grind (arith, common_steps) in
    ap (λ xs. named_of xs other) c.with_one.ensures
    ∙ one_named c.waiting_tokens-unknown.result.items _ c.args.token c.args.group other refl (c.with_one-tokens.ensures ∙ ap (λ xs. xs ++ c.args.token ∷ []) none)
    ∙ ap (λ ts. ts ++ one_more other c.args.group c.args.token) (ap (λ xs. of_group xs other) c.waiting_tokens-unknown.ensures.named ∙ by_group g.M.StateMachine.state c.args.self.appliers.entries other c.waiting_tokens-unknown.ensures.ordered)
