use Rattle.std.proofs.Common.{◌<◌, ◌∙◌, [], ◌∷◌, ◌++◌, ap, arith, length, refl, rules, subst, sym}
use Rattle.std.proofs.lemmas.Bool.Decides.{nat_tests}
use Rattle.std.proofs.Math.Bool.{true≢false}
use Rattle.raft_group_step.specs.StoredGroup.{SetSnapshot, after_storing, membership_in_force}
use Rattle.raft_group_step.specs.StepResult.{store}
use Rattle.raft_group_step.specs.GroupStep.{begun}
use Rattle.raft_known_state.specs.KnownState.{KeepsRest, Knows}
use Rattle.raft_commands.specs.Output.{following_seq}
use Rattle.raft_engine.specs.Building.{build_command}
use Rattle.raft_engine.specs.Leading.{CountsOn}
use Rattle.raft_engine.specs.Numbering.{Follow, NumbersFollow, numbers_in}
use Rattle.raft_engine.specs.Standing.{Engine, IsStepOf, given}
use Rattle.raft_engine.proofs.BuildingLemmas.{build_taken, builder_finishes, snapshot_stored, trigger_in_range}
use Rattle.raft_engine.proofs.ForceLemmas.{counts_still, snapshot_keeps_force}
use Rattle.raft_engine.proofs.RoomLemmas.{can_finish_when_ready}
use Rattle.raft_engine.specs.Clock.{KeepsHeard}
use Rattle.raft_engine.proofs.ClockLemmas.{keeps_same, keeps_then, keeps_untouched}
use Rattle.raft_engine.proofs.engine.Engine.finish_building_snapshot.Goals as goal

pub returns-then-not-building_snapshot-clause-built : goal.returns-then-not-building_snapshot-clause-built
returns-then-not-building_snapshot-clause-built g c = λ own at before s x asked empty stands ready accepted meta built.
    absurd (true≢false (sym (ap (λ (y : Engine _ _). y.state.state.io_state.building_snapshot) asked) ∙ sym c.building_snapshot.ensures ∙ c.if-not-building_snapshot.true))

pub returns-clause-built : goal.returns-clause-built
returns-clause-built g c = λ own at before s x asked empty stands ready accepted meta built.
    let e = c.args.self.now in
    let seq = following_seq before.output.last_sm_seq in
    let queue = ap (λ (y : Engine _ _). y.output.queue) asked ∙ ap (λ q. q ++ build_command seq ∷ []) empty in
    let numbers =
    subst (λ (y : Engine _ _). NumbersFollow before.output.last_sm_seq y.output) (sym asked)
    (subst (λ q. Follow before.output.last_sm_seq (numbers_in (q ++ build_command seq ∷ [])) seq) (sym empty) (refl, refl)) in
    let old = stands.knows in
    let lent =
    record e { state = record e.state { state = record e.state.state { io_state = c.set_building_snapshot.new.self } } } in
    let lent_back = c.update_snapshot.new.self.engine.now in
    let known : Knows lent.state s.stored =
    record { vote = old.vote; ids = old.ids; terms = old.terms; purged = old.purged; snapshot = old.snapshot; memberships = old.memberships; in_force = old.in_force; last_committed = old.last_committed; goal = old.goal } in
    let knows = c.in_ok-is_updated.ensures.known s.stored x (subst (λ e. Knows e.state s.stored) (sym c.snapshot_handler.ensures.value) known) meta c.if-not-is_updated.false in
    let kept : KeepsRest lent.state lent_back.state = subst (λ e. KeepsRest e.state lent_back.state) c.snapshot_handler.ensures.value c.in_ok-is_updated.ensures.rest.0 in
    let after = store (SetSnapshot x) (begun at s) in
    let same = c.in_ok-is_updated.ensures.rest.1 ∙ ap (λ (e : Engine _ _). record e { state = lent_back.state }) c.snapshot_handler.ensures.value in
    let group = after_storing (SetSnapshot x) s.stored in
    let counted =
    c.in_ok-count_if.ensures.counts (membership_in_force group) (c.effective_membership-membership.ensures group (subst (λ (y : Engine _ _). Knows y.state group) {x = lent_back} {y = c.self-1.given.0} (search rules) knows))
    (λ h. subst (λ (y : Engine _ _). CountsOn (membership_in_force group) y.leader y.leader) {x = lent_back} {y = c.self-1.given.0} (search rules)
    (subst (λ (y : Engine _ _). CountsOn (membership_in_force group) y.leader y.leader) (sym same)
    (counts_still own e.leader e.candidate s.stored group s.role stands.role
    (snapshot_keeps_force e.state s.stored x old (let some : 0 < length e.state.memberships = grind (arith, nat_tests, h, c.len-is_changed.ensures) in some))))) in
    let back : CountsOn (membership_in_force group) lent_back.leader c.count_if.new.leader = subst (λ (y : Engine _ _). CountsOn (membership_in_force group) y.leader c.count_if.new.leader) {x = c.self-1.given.0} {y = lent_back} (search rules) counted in
    let leader : CountsOn (membership_in_force group) e.leader c.count_if.new.leader = subst (λ (y : Engine _ _). CountsOn (membership_in_force group) y.leader c.count_if.new.leader) same back in
    let step = snapshot_stored s x built own at e (record lent { state = lent_back.state; leader = c.count_if.new.leader }) stands (given x before s) refl (ap (λ (y : Engine _ _). y.seen_greater_log) asked) numbers (ap (λ (y : Engine _ _). y.state.state.committed) asked) refl refl refl leader refl knows
    (record { vote = kept.vote; committed = kept.committed; wish = kept.wish }) seq queue in
    let can = builder_finishes s x built own at ready s.role (can_finish_when_ready own s (at ∷ []) ready (trigger_in_range own at s accepted)) in
    build_taken s x built own at e c.finish.new.self stands (given x before s) accepted
    (c.in_ok-finish.ensures.step (given x before s) own after (subst (λ e. IsStepOf (given x before s) own e after) (search rules) (subst (λ e. IsStepOf (given x before s) own (record e { leader = c.count_if.new.leader }) after) (sym same) step)) can)

pub returns-then-not-building_snapshot-clause-heard : goal.returns-then-not-building_snapshot-clause-heard
returns-then-not-building_snapshot-clause-heard g c = keeps_same c.args.self.now.leader

pub returns-then-not-is_updated-clause-heard : goal.returns-then-not-is_updated-clause-heard
returns-then-not-is_updated-clause-heard g c =
    let old = c.args.self.now.leader in
    let back = c.update_snapshot.new.self.engine.now in
    let same = ap (λ (y : Engine _ _). y.leader) c.in_ok-is_updated.ensures.rest.1 ∙ ap (λ (y : Engine _ _). y.leader) c.snapshot_handler.ensures.value in
    subst (λ (y : Engine _ _). KeepsHeard old y.leader) {x = back} {y = c.self-1.given.0} (search rules) (keeps_untouched old back.leader same)

pub returns-clause-heard : goal.returns-clause-heard
returns-clause-heard g c =
    let old = c.args.self.now.leader in
    let back = c.update_snapshot.new.self.engine.now in
    let counted = c.count_if.new.leader in
    let same = ap (λ (y : Engine _ _). y.leader) c.in_ok-is_updated.ensures.rest.1 ∙ ap (λ (y : Engine _ _). y.leader) c.snapshot_handler.ensures.value in
    let heard : KeepsHeard back.leader counted = subst (λ (y : Engine _ _). KeepsHeard y.leader counted) {x = c.self-1.given.0} {y = back} (search rules) c.in_ok-count_if.ensures.heard in
    keeps_then old counted c.finish.new.self.leader (keeps_then old back.leader counted (keeps_untouched old back.leader same) heard) c.in_ok-finish.ensures.heard
