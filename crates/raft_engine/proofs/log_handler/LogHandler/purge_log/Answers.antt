use Rattle.std.proofs.lemmas.Result.{on_ok_weaker}
use Rattle.raft_group_step.specs.Lead.{purge_as_wished}
use Rattle.raft_engine.specs.Standing.{IsStepOf}
use Rattle.raft_engine.proofs.HandlerLemmas.{purged_within}
use Rattle.raft_engine.proofs.log_handler.LogHandler.purge_log.Goals as goal

pub returns-clause-within : goal.returns-clause-within
returns-clause-within g c = λ x own r step fits may.
    let after = purge_as_wished r.state.role r.state.wish r in
    on_ok_weaker c.purge_as_wished.result
    (λ (h : IsStepOf x own c.purge_as_wished.new.self after). purged_within own c.purge_as_wished.new.self after.state h.state)
    (c.purge_as_wished.ensures.step x own r step fits may)
