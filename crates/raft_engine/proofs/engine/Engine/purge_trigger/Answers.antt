-- As far as the snapshot goes.
use Rattle.std.proofs.Common.{◌<◌, ◌∙◌, ap, sym, subst, not, nat_lt, min, if◌then◌else◌, OnOk, Some, arith}
use Rattle.raft_values.specs.LogId.{next_place}
use Rattle.raft_group_step.specs.StoredGroup.{first_place, snapshot_last}
use Rattle.raft_group_step.specs.StepResult.{later_place}
use Rattle.raft_group_step.specs.Lead.{purge_up_to, with_wish}
use Rattle.raft_engine.specs.Standing.{IsStepOf}
use Rattle.raft_engine.proofs.PurgeLemmas.{covers_last, leader_wishes, others_purge}
use Rattle.raft_engine.proofs.ClockLemmas.{keeps_same, keeps_untouched}
use Rattle.raft_engine.proofs.engine.Engine.purge_trigger.Goals as goal

pub returns-clause-step : goal.returns-clause-step
returns-clause-step g c = λ x own r step fits.
    let s = r.state.stored in
    let old = c.args.self.now in
    let last = c.in-Some.last in
    let covered : min c.args.place last.index < next_place (snapshot_last s) = subst (λ found. min c.args.place last.index < next_place found) (sym (covers_last x own old r step c.args.place last c.in-Some.is)) (omega arith) in
    let least = c.min-place.ensures in
    let wishes = c.wish_to_purge.ensures.step x own r step (subst (λ n. n < next_place (snapshot_last s)) (sym least) covered) in
    subst (IsStepOf x own c.wish_to_purge.new.self)
    (ap (λ n. if nat_lt n (first_place s) then r else with_wish (later_place r.state.wish (Some n)) r) least
    ∙ sym (leader_wishes x own old r step c.args.place last c.in-Some.is (c.is_none.ensures ∙ ap not c.if-is_none.false)))
    wishes

pub returns-then-is_none-clause-step : goal.returns-then-is_none-clause-step
returns-then-is_none-clause-step g c = λ x own r step fits.
    let s = r.state.stored in
    let old = c.args.self.now in
    let last = c.in-Some.last in
    let covered : min c.args.place last.index < next_place (snapshot_last s) = subst (λ found. min c.args.place last.index < next_place found) (sym (covers_last x own old r step c.args.place last c.in-Some.is)) (omega arith) in
    let least = c.min-place.ensures in
    let purges = c.purge_up_to.ensures.step x own r step fits (subst (λ n. n < next_place (snapshot_last s)) (sym least) covered) in
    subst (λ y. OnOk c.purge_up_to.result (IsStepOf x own c.purge_up_to.new.self y))
    (ap (λ n. purge_up_to n r) least ∙ sym (others_purge x own old r step c.args.place last c.in-Some.is (c.is_none.ensures ∙ ap not c.if-is_none.true)))
    purges

pub returns-in_default-clause-heard : goal.returns-in_default-clause-heard
returns-in_default-clause-heard g c = keeps_same c.args.self.now.leader

pub returns-then-is_none-clause-heard : goal.returns-then-is_none-clause-heard
returns-then-is_none-clause-heard g c = c.purge_up_to.ensures.heard

pub returns-clause-heard : goal.returns-clause-heard
returns-clause-heard g c = keeps_untouched c.args.self.now.leader c.wish_to_purge.new.self.leader c.wish_to_purge.ensures.leader
