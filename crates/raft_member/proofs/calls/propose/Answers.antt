-- A command that isn't refused has room.
use Rattle.std.proofs.Common.{◌≡◌, sym, subst}
use Rattle.std.proofs.lemmas.Bool.{both_ways}
use Rattle.raft_group_step.specs.GroupEvent.{Call}
use Rattle.raft_group_step.specs.declared.group_call.GroupCall.TheVariants.{Propose}
use Rattle.raft_engine.specs.Events.{HasTaken, MayTake}
use Rattle.raft_member.proofs.CallLemmas.{has_room_when_ready}
use Rattle.raft_member.proofs.calls.propose.Goals as goal

pub returns-then-not-has_room : goal.returns-then-not-has_room
returns-then-not-has_room c = λ x own at token s may.
    absurd (both_ways c.has_room.result c.if-not-has_room.true (c.has_room.ensures.1 (has_room_when_ready own _ s may.stands may.ready)))

pub returns : goal.returns
returns c = λ x own at token s may.
    let same : c.in_ok-clone.field-0 ≡ c.args.command.now = c.in_ok-clone.ensures in
    subst (λ m. HasTaken x own c.args.engine.now c.propose.new.self s (Call (Propose m token) at)) same
    (c.in_ok-_answer.ensures.taken x own at token s (subst (λ m. MayTake own c.args.engine.now s (Call (Propose m token) at)) (sym same) may)).1
