use Rattle.std.proofs.Common.{sym, subst}
use Rattle.raft_laws.specs.declared.world_event.WorldEvent.{WorldEvent}
use Rattle.raft_world.specs.World.{HasCome, HasHappened}
use Rattle.raft_world.proofs.world.World.event.Goals as goal

pub returns-in-Add : goal.returns-in-Add
returns-in-Add c = λ ids rs g history h.
    subst (λ (e : WorldEvent). HasCome g e c.args.planned.now.stop c.add.new.self c.add.result) (sym c.in-Add.is) (c.add.ensures ids rs g c.args.planned.now.stop history h)

pub returns-in-Crash : goal.returns-in-Crash
returns-in-Crash c = λ ids rs g history h.
    subst (λ (e : WorldEvent). HasHappened g e c.args.planned.now.stop c.crash.new.self c.crash.result) (sym c.in-Crash.is) (c.crash.ensures g c.args.planned.now.stop h)

pub returns-in-Halt : goal.returns-in-Halt
returns-in-Halt c = λ ids rs g history h.
    subst (λ (e : WorldEvent). HasHappened g e c.args.planned.now.stop c.halt.new.self c.halt.result) (sym c.in-Halt.is) (c.halt.ensures g c.args.planned.now.stop h)
