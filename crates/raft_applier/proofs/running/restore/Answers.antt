use Rattle.std.proofs.Common.{◌∙◌, ap}
use Rattle.raft_applier.proofs.Restoring.{restored}
use Rattle.raft_applier.proofs.running.restore.Goals as goal

pub returns-clause-ok : goal.returns-clause-ok
returns-clause-ok g c = λ s of well shown same h run.
    let rules = g.M.StateMachine.rules in
    let state = c.in_ok-restore.ensures.ok ∙ ap rules.restored c.as_slice.ensures in
    restored rules g.S.GroupStorage.stands of s h c.in_ok-stored.stored c.in-Some.stored c.args.snapshot (g.M.StateMachine.state c.restore.new.self) same c.in-Some.is state
    (c.in_ok-stored.ensures.ok s.stored well shown)
