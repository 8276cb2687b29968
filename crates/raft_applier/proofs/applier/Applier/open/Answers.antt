use Rattle.raft_group_step.specs.GroupState.{state_of}
use Rattle.raft_group_step.specs.GroupEvent.{Open}
use Rattle.raft_applier.proofs.Steps.{opening_is_step}
use Rattle.raft_applier.proofs.applier.Applier.open.Goals as goal

pub returns-clause-ok : goal.returns-clause-ok
returns-clause-ok g c = λ st of taken up whole.
    c.in_ok-_progress.ensures.ok (state_of st) Open of (opening_is_step c.args.member.now.id st taken whole) up (c.in_ok-applier.ensures st)
