-- Nothing but the group's machine moved.
use Rattle.std.proofs.Common.{ap, subst, OnOk}
use Rattle.std.specs.Ordering.{nat_cmp}
use Rattle.std.specs.BTreeMap.{get}
use Rattle.raft_node.specs.Standing.{feeding_of, value_of}
use Rattle.raft_node.proofs.Follows.{absent_elsewhere, moved_elsewhere}
use Rattle.raft_node.proofs.node.Node.follow.Goals as goal

pub returns-in-Some-Ok-clause-elsewhere : goal.returns-in-Some-Ok-clause-elsewhere
returns-in-Some-Ok-clause-elsewhere g c =
    moved_elsewhere (value_of g.M.StateMachine.state g.S.GroupStorage.is_well g.S.GroupStorage.shows g.S.GroupStorage.fails c.args.self.now) (value_of g.M.StateMachine.state g.S.GroupStorage.is_well g.S.GroupStorage.shows g.S.GroupStorage.fails c.catch_up.new.self) c.args.group
    (ap (λ x. x.id) c.catch_up.ensures.groups) (ap (λ x. x.has_failed) c.catch_up.ensures.groups) (λ other. ap (λ x. get nat_cmp x.members other) c.catch_up.ensures.groups)
    (λ well. subst (λ r. OnOk r (g.S.GroupStorage.is_well c.catch_up.new.self.groups.storage)) c.in-Some-Ok.field-0-is (c.in-Some-Ok.ensures.well well)) c.catch_up.ensures.kept c.catch_up.ensures.others (λ peer. ap (λ x. feeding_of (get nat_cmp x peer)) c.catch_up.ensures.feeders) _

pub returns-in-None-clause-elsewhere : goal.returns-in-None-clause-elsewhere
returns-in-None-clause-elsewhere g c =
    absent_elsewhere (value_of g.M.StateMachine.state g.S.GroupStorage.is_well g.S.GroupStorage.shows g.S.GroupStorage.fails c.args.self.now) (value_of g.M.StateMachine.state g.S.GroupStorage.is_well g.S.GroupStorage.shows g.S.GroupStorage.fails c.catch_up.new.self) c.args.group
    (ap (λ x. x.id) c.catch_up.ensures.groups) (ap (λ x. x.has_failed) c.catch_up.ensures.groups) (λ other. ap (λ x. get nat_cmp x.members other) c.catch_up.ensures.groups)
    c.in-None.ensures.absent c.catch_up.ensures.kept c.catch_up.ensures.others (λ peer. ap (λ x. feeding_of (get nat_cmp x peer)) c.catch_up.ensures.feeders)
