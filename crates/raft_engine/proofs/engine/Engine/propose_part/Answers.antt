-- The engine keeps no tokens.
use Rattle.raft_engine.proofs.AppendLemmas.{whatever_tokens, with_token}
use Rattle.raft_engine.proofs.engine.Engine.propose_part.Goals as goal

pub returns-clause-step : goal.returns-clause-step
returns-clause-step g c = λ x own r lead token step leads.
    let waits = with_token token r in
    c.append.ensures.step x own waits lead (whatever_tokens x own c.args.self.now r waits.state.untold step) leads

pub returns-clause-heard : goal.returns-clause-heard
returns-clause-heard g c = c.append.ensures.heard
