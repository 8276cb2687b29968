use Rattle.std.specs.Prelude.{map}
use Rattle.std.proofs.Common.{◌∙◌, ap}
use Rattle.raft_machines.specs.declared.telling.Untold.{Untold}
use Rattle.raft_applier.specs.Applied.{answers_of}
use Rattle.raft_applier.proofs.Folds.{told_none}
use Rattle.raft_applier.proofs.Tokens.{their_tokens}
use Rattle.raft_applier.proofs.applier.Applier.forget.Goals as goal

pub returns-clause-told : goal.returns-clause-told
returns-clause-told g c = λ list are run.
    told_none (answers_of g.M.StateMachine.rules list) c.in_ok-told.told.items (c.in_ok-told.ensures.told list are run tt)

pub returns-clause-unknown : goal.returns-clause-unknown
returns-clause-unknown g c =
    c.in_ok-unknown.ensures ∙ ap (map (λ (x : Untold). x.token)) c.as_slice.ensures ∙ their_tokens c.args.self.now.applied.waiting
