use Rattle.raft_engine.proofs.AlternatingLemmas.{leads_in_turn}
use Rattle.raft_engine.proofs.alternating.leads_alternate.Goals as goal

pub returns : goal.returns
returns g = leads_in_turn
