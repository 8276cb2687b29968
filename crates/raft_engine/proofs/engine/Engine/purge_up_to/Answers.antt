-- The entry at the place goes, and those before it.
use Rattle.std.proofs.Common.{◌≡◌, ◌<◌, ◌∙◌, sym, subst, refl, arith, length}
use Rattle.std.proofs.lemmas.Bool.Decides.{nat_tests}
use Rattle.std.proofs.lemmas.Result.{on_ok_weaker}
use Rattle.raft_group_step.specs.StoredGroup.{RemoveUpTo, after_storing, end_place, membership_in_force}
use Rattle.raft_engine.specs.Standing.{IsStepOf}
use Rattle.raft_engine.proofs.ForceLemmas.{counts_still, purge_keeps_force}
use Rattle.raft_engine.proofs.PurgeLemmas.{has_its_id, is_of_entry, none_to_purge, purged_to}
use Rattle.raft_progress.proofs.PartsLemmas.{on_ok}
use Rattle.raft_engine.proofs.ClockLemmas.{keeps_same}
use Rattle.raft_engine.proofs.engine.Engine.purge_up_to.Goals as goal

pub returns-clause-step : goal.returns-clause-step
returns-clause-step g c = λ x own r step fits may.
    let s = r.state.stored in
    let knows = step.state.knows in
    let placed = step.state.order.placed in
    let some = sym (c.has_entry_at.ensures s knows placed) ∙ c.if-not-has_entry_at.false in
    let entrys = is_of_entry s c.args.place c.in-Some.upto placed some (c.in-Some.ensures s knows placed) in
    let purged = c.in_ok-purge.ensures.known s knows placed entrys.above entrys.is_entrys in
    let after = after_storing (RemoveUpTo c.in-Some.upto) s in
    on_ok_weaker c.push_command.result
    (λ h. purged_to x own c.args.self.now _ r step c.args.place c.in-Some.upto entrys may refl refl
    (c.in_ok-count_if.ensures.counts (membership_in_force after) (c.effective_membership-membership.ensures after purged)
    (λ h. counts_still own c.args.self.now.leader c.args.self.now.candidate s after r.state.role step.state.role
    (purge_keeps_force c.args.self.now.state c.purge.new.self s c.in-Some.upto knows purged
    (let many : length c.purge.new.self.memberships ≡ length c.args.self.now.state.memberships = grind (arith, nat_tests, h, c.len.ensures, c.len-before.ensures) in many)))) refl
    purged c.in_ok-purge.ensures.rest h)
    c.push_command.ensures.ok

pub returns-then-not-has_entry_at-clause-step : goal.returns-then-not-has_entry_at-clause-step
returns-then-not-has_entry_at-clause-step g c = λ x own r step fits may.
    subst (IsStepOf x own c.args.self.now) (sym (none_to_purge c.args.place r (sym (c.has_entry_at.ensures r.state.stored step.state.knows step.state.order.placed) ∙ c.if-not-has_entry_at.true))) step

pub returns-in_default-clause-step : goal.returns-in_default-clause-step
returns-in_default-clause-step g c = λ x own r step fits may.
    let s = r.state.stored in
    let placed = step.state.order.placed in
    let some = sym (c.has_entry_at.ensures s step.state.knows placed) ∙ c.if-not-has_entry_at.false in
    has_its_id s c.args.place placed some (c.in_default.ensures s step.state.knows placed)

pub returns-then-upto-clause-step : goal.returns-then-upto-clause-step
returns-then-upto-clause-step g c = λ x own r step fits may.
    let s = r.state.stored in
    let placed = step.state.order.placed in
    let some = sym (c.has_entry_at.ensures s step.state.knows placed) ∙ c.if-not-has_entry_at.false in
    let entrys = is_of_entry s c.args.place c.in-Some.upto placed some (c.in-Some.ensures s step.state.knows placed) in
    let within : c.in-Some.upto.index < end_place s = entrys.within in
    let greatest : c.in-Some.upto.index ≡ 18446744073709551615 = c.if-upto.true in
    absurd (omega arith)

pub returns-clause-heard : goal.returns-clause-heard
returns-clause-heard g c = on_ok c.push_command.result c.in_ok-count_if.ensures.heard

pub returns-then-not-has_entry_at-clause-heard : goal.returns-then-not-has_entry_at-clause-heard
returns-then-not-has_entry_at-clause-heard g c = keeps_same c.args.self.now.leader

pub returns-in_default-clause-heard : goal.returns-in_default-clause-heard
returns-in_default-clause-heard g c = keeps_same c.args.self.now.leader

pub returns-then-upto-clause-heard : goal.returns-then-upto-clause-heard
returns-then-upto-clause-heard g c = keeps_same c.args.self.now.leader
