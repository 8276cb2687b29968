-- A stop leaves the group stored, or not.
use Rattle.std.proofs.Common.{◌≡◌, [], ◌∷◌, true, ap, subst, sym}
use Rattle.std.specs.BTreeMap.{get}
use Rattle.std.specs.Ordering.{nat_cmp}
use Rattle.raft_group_step.specs.GroupState.{no_group}
use Rattle.raft_node.specs.Standing.{feeding_of, running_in, value_of}
use Rattle.raft_node.proofs.Adding.{behind_adds, fault_adds, unless_err}
use Rattle.raft_node.proofs.node.Node.add_group.Goals as goal

pub returns-in-Err-clause-added : goal.returns-in-Err-clause-added
returns-in-Err-clause-added g c = λ going absent.
    let made = c.add_group.new.self in
    fault_adds g.M.StateMachine.rules g.S.GroupStorage.stands (value_of g.M.StateMachine.state g.S.GroupStorage.is_well g.S.GroupStorage.shows g.S.GroupStorage.fails c.groups_fault.new.self) c.args.group
    (record { own = made.id; has_failed = made.has_failed; members = get nat_cmp made.members; is_well = g.S.GroupStorage.is_well made.storage; shows = g.S.GroupStorage.shows made.storage; fails = g.S.GroupStorage.fails made.storage })
    (running_in g.M.StateMachine.state c.args.self.now.machines) (λ peer. feeding_of (get nat_cmp c.args.self.now.feeders peer))
    (c.groups_fault.new.self ≡ record c.args.self.now { groups = made }) c.in-Err.fault c.groups_fault.result
    (c.in-Err.ensures.err going absent) c.groups_fault.ensures.why c.groups_fault.ensures.told

pub returns-in-Err-seat_new-clause-added : goal.returns-in-Err-seat_new-clause-added
returns-in-Err-seat_new-clause-added g c = λ going absent.
    let made = unless_err _ _ c.in_default.not-Err (c.add_group.ensures.ok going absent) in
    let same = c.stop.ensures.groups in
    behind_adds g.M.StateMachine.rules g.S.GroupStorage.stands (value_of g.M.StateMachine.state g.S.GroupStorage.is_well g.S.GroupStorage.shows g.S.GroupStorage.fails c.stop.new.self) c.args.group
    _ _ c.stop.result tt c.stop.ensures.stops (ap (λ x. x.has_failed) same) (g.met.S.GroupStorage.shows_more c.stop.new.self.groups.storage)
    (g.met.S.GroupStorage.well_fails c.stop.new.self.groups.storage
    (subst (λ x. g.S.GroupStorage.is_well x.storage) (sym same) (subst (λ x. g.S.GroupStorage.is_well x.storage) (sym c.seat_new.ensures.groups) made.holds.well)))
    (subst (λ x. g.S.GroupStorage.shows x.storage c.args.group (record no_group { present = true } ∷ [])) (sym same)
    (subst (λ x. g.S.GroupStorage.shows x.storage c.args.group (record no_group { present = true } ∷ [])) (sym c.seat_new.ensures.groups) made.holds.stored))
