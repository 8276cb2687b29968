-- The group's member is opened, its machine is seated, and what it says is framed.
use Rattle.std.proofs.Common.{◌≡◌, [], ◌∷◌, sym, ap, subst, ◌∙◌}
use Rattle.std.specs.Ordering.{nat_cmp}
use Rattle.std.specs.BTreeMap.{get}
use Rattle.raft_group_step.specs.GroupEvent.{Open}
use Rattle.raft_group_step.specs.GroupState.{state_of}
use Rattle.raft_group_storage.specs.Keeping.{FailsAnyhow}
use Rattle.raft_group_step.specs.GroupStep.{group_step}
use Rattle.raft_applier.specs.Following.{HasWholeSnapshot}
use Rattle.raft_node.specs.Standing.{IsAt, running_in, value_of}
use Rattle.raft_node.specs.Waiting.{waiting_of}
use Rattle.raft_node.proofs.Follows.{on_ok_map}
use Rattle.raft_node.proofs.OpeningSteps.{behind_opens, fault_opens, opened_up, opening_ends, same_waiting, stops_for}
use Rattle.raft_node.proofs.node.Node.open_group.Goals as goal

pub returns-in-Err-clause-opened : goal.returns-in-Err-clause-opened
returns-in-Err-clause-opened g c = λ st of going well untouched present reached.
    fault_opens g.M.StateMachine.rules g.S.GroupStorage.stands (value_of g.M.StateMachine.state g.S.GroupStorage.is_well g.S.GroupStorage.shows g.S.GroupStorage.fails c.args.self.now) (value_of g.M.StateMachine.state g.S.GroupStorage.is_well g.S.GroupStorage.shows g.S.GroupStorage.fails c.groups_fault.new.self) c.args.group st (c.groups_fault.ensures.told.own ∙ c.open_group.ensures.id) (g.met.S.GroupStorage.shows_more c.groups_fault.new.self.groups.storage)
    (record { own = c.open_group.new.self.id; has_failed = c.open_group.new.self.has_failed; members = get nat_cmp c.open_group.new.self.members; is_well = g.S.GroupStorage.is_well c.open_group.new.self.storage; shows = g.S.GroupStorage.shows c.open_group.new.self.storage; fails = g.S.GroupStorage.fails c.open_group.new.self.storage }) (c.groups_fault.new.self ≡ record c.args.self.now { groups = c.open_group.new.self }) c.in-Err.fault c.groups_fault.result
    (c.in-Err.ensures.err st going untouched.no_member well untouched.stored present reached.openable) c.groups_fault.ensures.why c.groups_fault.ensures.told

pub returns-in-Err-seat_opened-clause-opened : goal.returns-in-Err-seat_opened-clause-opened
returns-in-Err-seat_opened-clause-opened g c = λ st of going well untouched present reached.
    let done =
    opened_up g.S.GroupStorage.stands c.args.self.now.groups.id c.open_group.new.self.id c.open_group.ensures.id (get nat_cmp c.open_group.new.self.members) (g.S.GroupStorage.is_well c.open_group.new.self.storage) (g.S.GroupStorage.shows c.open_group.new.self.storage) c.args.group st c.in-Ok-Done.field-0 c.in-Ok-Done.messages c.in-Ok-Done.field-0-is
    (c.in-Ok-Done.ensures.ok st going untouched.no_member well untouched.stored present reached.openable) in
    let stopped = c.stop.ensures.groups in
    let shown = subst (λ x. g.S.GroupStorage.shows x.storage c.args.group ((group_step c.args.self.now.groups.id (state_of st) Open).state.stored ∷ [])) (sym stopped) (c.seat_opened.ensures.kept c.args.group _ done.2) in
    behind_opens g.M.StateMachine.rules g.S.GroupStorage.stands (value_of g.M.StateMachine.state g.S.GroupStorage.is_well g.S.GroupStorage.shows g.S.GroupStorage.fails c.args.self.now) (value_of g.M.StateMachine.state g.S.GroupStorage.is_well g.S.GroupStorage.shows g.S.GroupStorage.fails c.stop.new.self) c.args.group st (ap (λ x. x.id) stopped ∙ ap (λ x. x.id) c.seat_opened.ensures.groups ∙ c.open_group.ensures.id) (g.met.S.GroupStorage.shows_more c.stop.new.self.groups.storage)
    c.stop.result (ap (λ x. x.has_failed) stopped)
    (stops_for (running_in g.M.StateMachine.state c.args.self.now.machines) (λ group. waiting_of (running_in g.M.StateMachine.state c.seat_opened.new.self.machines group)) _ c.stop.result (λ group. ap waiting_of (c.in-Err-seat_opened.ensures.err group)) c.stop.ensures.stops)
    (subst (λ x. FailsAnyhow (g.S.GroupStorage.fails x.storage)) (sym stopped) (c.in-Err-seat_opened.ensures.failed _ done.1.holds.well done.2))
    shown

pub returns-clause-opened : goal.returns-clause-opened
returns-clause-opened g c = λ st of going well untouched present reached.
    let done =
    opened_up g.S.GroupStorage.stands c.args.self.now.groups.id c.open_group.new.self.id c.open_group.ensures.id (get nat_cmp c.open_group.new.self.members) (g.S.GroupStorage.is_well c.open_group.new.self.storage) (g.S.GroupStorage.shows c.open_group.new.self.storage) c.args.group st c.in-Ok-Done.field-0 c.in-Ok-Done.messages c.in-Ok-Done.field-0-is
    (c.in-Ok-Done.ensures.ok st going untouched.no_member well untouched.stored present reached.openable) in
    let id = c.open_group.ensures.id in
    let at : IsAt g.M.StateMachine.rules (value_of g.M.StateMachine.state g.S.GroupStorage.is_well g.S.GroupStorage.shows g.S.GroupStorage.fails c.seat_opened.new.self) c.args.group (group_step c.open_group.new.self.id (state_of st) Open).state =
    c.in_default.ensures.ok st of done.1 (subst (λ k. HasWholeSnapshot (group_step k (state_of st) Open).state) (sym id) reached.whole) in
    let here = subst (λ k. IsAt g.M.StateMachine.rules (value_of g.M.StateMachine.state g.S.GroupStorage.is_well g.S.GroupStorage.shows g.S.GroupStorage.fails c.seat_opened.new.self) c.args.group (group_step k (state_of st) Open).state) id at in
    opening_ends g.M.StateMachine.rules g.S.GroupStorage.stands (value_of g.M.StateMachine.state g.S.GroupStorage.is_well g.S.GroupStorage.shows g.S.GroupStorage.fails c.args.self.now) (value_of g.M.StateMachine.state g.S.GroupStorage.is_well g.S.GroupStorage.shows g.S.GroupStorage.fails c.seat_opened.new.self) (value_of g.M.StateMachine.state g.S.GroupStorage.is_well g.S.GroupStorage.shows g.S.GroupStorage.fails c.opened.new.self) c.args.group st
    (c.opened.ensures.id ∙ ap (λ x. x.id) c.seat_opened.ensures.groups ∙ id) (g.met.S.GroupStorage.shows_more c.opened.new.self.groups.storage) (c.opened.new.self ≡ c.seat_opened.new.self)
    c.in-Ok-Done.messages.items c.opened.result
    (on_ok_map c.opened.result (λ same. subst (λ n. IsAt g.M.StateMachine.rules (value_of g.M.StateMachine.state g.S.GroupStorage.is_well g.S.GroupStorage.shows g.S.GroupStorage.fails n) c.args.group (group_step c.args.self.now.groups.id (state_of st) Open).state) (sym same) here) c.opened.ensures.same)
    done.0 c.opened.ensures.group c.opened.ensures.frames c.opened.ensures.told c.opened.ensures.unknown c.opened.ensures.names c.opened.ensures.err
    (same_waiting g.M.StateMachine.rules c.args.self.now.groups.id st c.args.group (running_in g.M.StateMachine.state c.seat_opened.new.self.machines) (running_in g.M.StateMachine.state c.args.self.now.machines) here.runs untouched.idle c.seat_opened.ensures.others)
    (g.met.S.GroupStorage.well_fails c.seat_opened.new.self.groups.storage here.up.holds.well) (c.seat_opened.ensures.kept c.args.group _ done.2)

pub returns-clause-feeders : goal.returns-clause-feeders
returns-clause-feeders g c = on_ok_map c.opened.result (λ same. ap (λ n. n.feeders) same ∙ c.seat_opened.ensures.feeders) c.opened.ensures.same
