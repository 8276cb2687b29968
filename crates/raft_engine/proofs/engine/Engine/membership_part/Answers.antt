-- The engine keeps no tokens, and the membership in force is changed.
use Rattle.std.proofs.Common.{subst, OnOk}
use Rattle.raft_engine.specs.Standing.{IsStepOf}
use Rattle.raft_engine.proofs.AppendLemmas.{change_appended, whatever_tokens, with_token}
use Rattle.raft_engine.proofs.engine.Engine.membership_part.Goals as goal

pub returns-clause-step : goal.returns-clause-step
returns-clause-step g c = λ x own r lead token m change step leads in_force is.
    let waits = with_token token r in
    subst (λ y. OnOk c.append.result (IsStepOf x own c.append.new.self y)) (change_appended r m change token c.args.changed in_force is)
    (c.append.ensures.step x own waits lead (whatever_tokens x own c.args.self.now r waits.state.untold step) leads)

pub returns-clause-heard : goal.returns-clause-heard
returns-clause-heard g c = c.append.ensures.heard
