-- The machine that has caught up is there, and the others stay.
use Rattle.std.proofs.Common.{rules, ◌≡◌, ℕ, Option, Some, refl, sym, ap, subst, ◌∙◌}
use Rattle.std.specs.Prelude.{option_map}
use Rattle.std.specs.Ordering.{nat_cmp}
use Rattle.std.specs.BTreeMap.{get}
use Rattle.raft_log_ids.proofs.GrowthLemmas.{on_err}
use Rattle.raft_group_step.specs.GroupEvent.{Open}
use Rattle.raft_group_step.specs.GroupState.{state_of}
use Rattle.raft_group_step.specs.GroupStep.{group_step}
use Rattle.raft_node.specs.Running.{RunsAt, running_of}
use Rattle.raft_node.specs.Standing.{value_of}
use Rattle.raft_node.proofs.Follows.{running_in-applier}
use Rattle.raft_node.proofs.OpeningSteps.{seats}
use Rattle.raft_node.proofs.node.Node.seat_opened.Goals as goal

pub returns-in_err-seat-clause-others : goal.returns-in_err-seat-clause-others
returns-in_err-seat-clause-others g c = λ other apart.
    running_in-applier g.M.StateMachine.state c.seat.new.self.machines other
    ∙ ap (λ o. option_map (running_of g.M.StateMachine.state) o) (c.seat.ensures.others other apart)
    ∙ sym (running_in-applier g.M.StateMachine.state c.args.self.now.machines other)

pub returns-in_err-seat-clause-err : goal.returns-in_err-seat-clause-err
returns-in_err-seat-clause-err g c = λ other.
    on_err _
    (running_in-applier g.M.StateMachine.state c.seat.new.self.machines other
    ∙ ap (λ o. option_map (running_of g.M.StateMachine.state) o) (c.in_err-seat.ensures.err other)
    ∙ sym (running_in-applier g.M.StateMachine.state c.args.self.now.machines other))

pub returns-clause-ok : goal.returns-clause-ok
returns-clause-ok g c = λ st of up whole.
    let members : ℕ → Option _ = get nat_cmp c.args.self.now.groups.members in
    let has : members c.args.group ≡ Some c.in-Some.member.now = search rules in
    let same = c.seat.ensures.groups in
    seats g.M.StateMachine.rules (value_of g.M.StateMachine.state g.S.GroupStorage.is_well g.S.GroupStorage.shows g.S.GroupStorage.fails c.args.self.now) (value_of g.M.StateMachine.state g.S.GroupStorage.is_well g.S.GroupStorage.shows g.S.GroupStorage.fails c.seat.new.self) c.args.group st c.in-Some.member.now
    (ap (λ x. x.id) same) (ap (λ x. get nat_cmp x.members c.args.group) same) (subst (λ x. g.S.GroupStorage.is_well x.storage) (sym same) (c.in_ok-applier.ensures.well up.holds.well))
    (λ parts shown. subst (λ x. g.S.GroupStorage.shows x.storage c.args.group parts) (sym same) (c.in_ok-applier.ensures.kept c.args.group parts shown)) has up
    (λ here all. subst (λ o. RunsAt g.M.StateMachine.rules o (group_step c.in-Some.member.now.id (state_of st) Open).state)
    (sym (running_in-applier g.M.StateMachine.state c.seat.new.self.machines c.args.group ∙ ap (λ o. option_map (running_of g.M.StateMachine.state) o) c.in_ok-seat.ensures.ok)) (c.in_ok-applier.ensures.ok st of refl here all))
    whole

pub returns-clause-others : goal.returns-clause-others
returns-clause-others g c = λ other apart.
    running_in-applier g.M.StateMachine.state c.seat.new.self.machines other
    ∙ ap (λ o. option_map (running_of g.M.StateMachine.state) o) (c.seat.ensures.others other apart)
    ∙ sym (running_in-applier g.M.StateMachine.state c.args.self.now.machines other)
