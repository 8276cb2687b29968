use Rattle.std.proofs.lemmas.Result.{on_ok_weaker}
use Rattle.raft_group_step.specs.PurgeTrigger.{purge_trigger_step}
use Rattle.raft_engine.specs.Standing.{IsStepOf}
use Rattle.raft_engine.proofs.HandlerLemmas.{purged_within}
use Rattle.raft_engine.proofs.log_handler.LogHandler.update_purge_upto.Goals as goal

pub returns-clause-within : goal.returns-clause-within
returns-clause-within g c = λ x own r step fits.
    let after = purge_trigger_step c.args.place r in
    on_ok_weaker c.purge_trigger.result
    (λ (h : IsStepOf x own c.purge_trigger.new.self after). purged_within own c.purge_trigger.new.self after.state h.state)
    (c.purge_trigger.ensures.step x own r step fits)
