-- The opening ends so at what is stored in memory.
use Rattle.std.proofs.Common.{ap, is_some}
use Rattle.std.proofs.lemmas.Result.{IfOk-weaker, on_err_weaker}
use Rattle.raft_group_step.specs.GroupState.{state_of}
use Rattle.raft_group_step.specs.GroupEvent.{Open}
use Rattle.raft_world.proofs.MemberLemmas.{ended_plain, stopped_plain, up_stays}
use Rattle.raft_world.proofs.member.Member.open.Goals as goal

pub returns-clause-ok : goal.returns-clause-ok
returns-clause-ok c = λ st down openable.
    IfOk-weaker c.open.result _ _ (ended_plain c.args.self.now.replica.id (state_of st) Open (record { replica = c.open.new.self; stored = c.open.new.storage }) c.args.stop)
    (c.open.ensures.ok st down openable)

pub returns-clause-err : goal.returns-clause-err
returns-clause-err c = λ st down openable.
    on_err_weaker c.open.result (stopped_plain c.args.self.now.replica.id (state_of st) Open (record { replica = c.open.new.self; stored = c.open.new.storage }) _ down.present)
    (c.open.ensures.err st down openable)

pub returns-clause-up : goal.returns-clause-up
returns-clause-up c = λ s up.
    let stays = c.open.ensures.up (ap is_some up.has_engine) in
    (stays.0, up_stays c.args.self.now (record { replica = c.open.new.self; stored = c.open.new.storage }) stays.1 stays.2 s up)
