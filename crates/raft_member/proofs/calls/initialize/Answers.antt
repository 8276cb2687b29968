-- The engine takes the membership's copy.
use Rattle.std.proofs.Common.{◌≡◌, sym, subst}
use Rattle.raft_group_step.specs.GroupEvent.{Call}
use Rattle.raft_group_step.specs.declared.group_call.GroupCall.TheVariants.{Initialize}
use Rattle.raft_engine.specs.Events.{HasTaken, MayTake}
use Rattle.raft_member.proofs.calls.initialize.Goals as goal

pub returns : goal.returns
returns c = λ x own at s moment may.
    let same : c.in_ok-copy.copy ≡ c.args.membership.now = c.in_ok-copy.ensures.cases in
    subst (λ m. HasTaken x own c.args.engine.now c.initialize.new.self s (Call (Initialize m) at)) same
    (c.in_ok-_answer.ensures.taken x own at s moment (subst (λ m. MayTake own c.args.engine.now s (Call (Initialize m) at)) (sym same) may)).1
