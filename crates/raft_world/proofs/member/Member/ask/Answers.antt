-- The call ends so at what is stored in memory.
use Rattle.std.proofs.Common.{Option, sym, subst}
use Rattle.std.proofs.lemmas.Result.{IfErr-weaker, IfOk-weaker}
use Rattle.raft_group_step.specs.GroupEvent.{Call}
use Rattle.raft_group_step.specs.StoredGroup.{Snapshot}
use Rattle.raft_executor.proofs.PlainLemmas.{Same}
use Rattle.raft_member.specs.Member.{IsBuilt}
use Rattle.raft_world.proofs.MemberLemmas.{broken_plain, down_stays, ended_plain}
use Rattle.raft_world.proofs.member.Member.ask.Goals as goal

pub returns-clause-ok : goal.returns-clause-ok
returns-clause-ok c = λ s up lawful.
    let event = Call c.args.call.now c.args.now in
    IfOk-weaker c.ask.result _ _ (ended_plain c.args.self.now.replica.id s event (record { replica = c.ask.new.self; stored = c.ask.new.storage }) c.args.stop)
    (c.ask.ensures.ok s (λ triggers. subst (λ (o : Option Snapshot). IsBuilt Same o s) (sym c.as_ref.ensures.value) (c.in-Ok.ensures.up s up triggers)) up lawful)

pub returns-clause-err : goal.returns-clause-err
returns-clause-err c = λ s up lawful.
    let event = Call c.args.call.now c.args.now in
    IfErr-weaker c.ask.result _ _ (broken_plain c.args.self.now.replica.id s event (record { replica = c.ask.new.self; stored = c.ask.new.storage }) _ up.present)
    (c.ask.ensures.err s (λ triggers. subst (λ (o : Option Snapshot). IsBuilt Same o s) (sym c.as_ref.ensures.value) (c.in-Ok.ensures.up s up triggers)) up lawful)

pub returns-in-Err-clause-err : goal.returns-in-Err-clause-err
returns-in-Err-clause-err c = λ s up lawful. c.crash.ensures.up s up

pub returns-clause-down : goal.returns-clause-down
returns-clause-down c = λ stored down.
    let stays = c.ask.ensures.down down.no_engine in
    (stays.0, down_stays c.args.self.now (record { replica = c.ask.new.self; stored = c.ask.new.storage }) stays.1 stays.2 stored down)
