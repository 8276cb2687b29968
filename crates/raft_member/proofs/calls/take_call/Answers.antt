-- Each call is the engine's.
use Rattle.std.proofs.Common.{OnOk, sym, subst}
use Rattle.raft_group_step.specs.GroupEvent.{Call}
use Rattle.raft_engine.specs.Events.{HasTaken, MayTake}
use Rattle.raft_member.proofs.calls.take_call.Goals as goal

pub returns-in-Initialize : goal.returns-in-Initialize
returns-in-Initialize c = λ x own at s moment not_snapshot may.
    subst (λ call. OnOk c.initialize.result (HasTaken x own c.args.engine.now c.initialize.new.engine s (Call call at))) (sym c.in-Initialize.is)
    (c.initialize.ensures x own at s moment (subst (λ call. MayTake own c.args.engine.now s (Call call at)) c.in-Initialize.is may))
