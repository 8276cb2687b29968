-- What is heard is what the answer shows.
use Rattle.std.proofs.Common.{◌∙◌, subst, sym}
use Rattle.raft_engine.specs.Clock.{HearsAfter}
use Rattle.raft_engine.proofs.ClockLemmas.{hears_nothing, hears_of}
use Rattle.raft_engine.proofs.engine.Engine.hear_answer.Goals as goal

pub returns-in_default-clause-heard : goal.returns-in_default-clause-heard
returns-in_default-clause-heard g c =
    let old = c.args.self.now.leader in
    subst (λ time. HearsAfter c.args.peer time old old) (sym c.in_default.is ∙ c.moment_shown.ensures) (hears_nothing c.args.peer old)

pub returns-clause-heard : goal.returns-clause-heard
returns-clause-heard g c =
    let old = c.args.self.now.leader in
    let new = c.hear.new.self.leader in
    subst (λ time. HearsAfter c.args.peer time old new) (sym c.in-Some.is ∙ c.moment_shown.ensures) (hears_of c.args.peer c.in-Some.moment old new c.hear.ensures.heard)
