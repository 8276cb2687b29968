-- The group's machine follows its member.
use Rattle.std.proofs.Common.{rules, ◌≡◌, ℕ, Option, Some, refl, subst, ◌∙◌}
use Rattle.std.specs.Ordering.{nat_cmp}
use Rattle.std.specs.BTreeMap.{get}
use Rattle.raft_applier.specs.Following.{with_brought}
use Rattle.raft_node.specs.Running.{RunsAt, running_of}
use Rattle.raft_node.specs.Standing.{running_in, value_of}
use Rattle.raft_node.proofs.Follows.{caught, runs_some}
use Rattle.raft_node.proofs.node.Node.catch_up.Goals as goal

pub returns-clause-ok : goal.returns-clause-ok
returns-clause-ok g c = λ s e of step behind.
    let members : ℕ → Option _ = get nat_cmp c.args.self.now.groups.members in
    let has : members c.args.group ≡ Some c.in-Some.member.now = search rules in
    let here = subst (λ m. RunsAt g.M.StateMachine.rules (running_in g.M.StateMachine.state m c.args.group) (with_brought s e)) c.in-Some-machines.is behind.runs in
    caught g.M.StateMachine.rules (value_of g.M.StateMachine.state g.S.GroupStorage.is_well g.S.GroupStorage.shows g.S.GroupStorage.fails c.args.self.now)
    (value_of g.M.StateMachine.state g.S.GroupStorage.is_well g.S.GroupStorage.shows g.S.GroupStorage.fails (record c.args.self.now { groups = record c.args.self.now.groups { storage = c.catch_up.new.storage }; machines = Some c.catch_up.new.self }))
    c.args.group s e refl refl c.catch_up.ensures.kept behind c.in-Some.member.now c.catch_up.result has step
    (c.catch_up.ensures.there ∙ runs_some g.M.StateMachine.rules (running_of g.M.StateMachine.state) (get nat_cmp c.in-Some-machines.machines.appliers c.args.group) (with_brought s e) here)
    c.catch_up.ensures.well (λ own up. c.catch_up.ensures.ok s e of own up here) (λ own up. c.catch_up.ensures.gone s e of own up here)
