-- The message ends so at what is stored in memory.
use Rattle.std.proofs.lemmas.Result.{IfOk-weaker, on_err_weaker}
use Rattle.raft_messages.specs.Messages.{message_of}
use Rattle.raft_group_step.specs.GroupEvent.{Receive}
use Rattle.raft_world.proofs.MemberLemmas.{down_stays, ended_plain, says_itself, stopped_plain}
use Rattle.raft_world.proofs.member.Member.receive.Goals as goal

pub returns-clause-ok : goal.returns-clause-ok
returns-clause-ok c = λ s up lawful.
    let m = message_of c.args.message.now in
    let event = Receive c.args.message.now.sender m c.args.now in
    IfOk-weaker c.receive.result _ _ (ended_plain c.args.self.now.replica.id s event (record { replica = c.receive.new.self; stored = c.receive.new.storage }) c.args.stop)
    (c.receive.ensures.ok m s (says_itself c.args.message.now) up lawful)

pub returns-clause-err : goal.returns-clause-err
returns-clause-err c = λ s up lawful.
    let m = message_of c.args.message.now in
    let event = Receive c.args.message.now.sender m c.args.now in
    on_err_weaker c.receive.result (stopped_plain c.args.self.now.replica.id s event (record { replica = c.receive.new.self; stored = c.receive.new.storage }) _ up.present)
    (c.receive.ensures.err m s (says_itself c.args.message.now) up lawful)

pub returns-clause-down : goal.returns-clause-down
returns-clause-down c = λ stored down.
    let stays = c.receive.ensures.down down.no_engine in
    (stays.0, down_stays c.args.self.now (record { replica = c.receive.new.self; stored = c.receive.new.storage }) stays.1 stays.2 stored down)
