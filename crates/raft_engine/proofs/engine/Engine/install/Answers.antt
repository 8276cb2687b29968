use Rattle.std.proofs.Common.{◌≡◌, ◌∙◌, ap, inr, sym, subst, true, false}
use Rattle.std.specs.Prelude.{Some}
use Rattle.std.proofs.lemmas.Result.{on_ok_weaker}
use Rattle.raft_values.specs.declared.log_id.LogId.{LogId}
use Rattle.std.specs.Prelude.{ℕ}
use Rattle.raft_group_step.specs.StoredGroup.{RemoveUpTo, SetSnapshot}
use Rattle.raft_group_step.specs.StepResult.{apply_up_to, is_within, store}
use Rattle.raft_group_step.specs.SnapshotRequest.{cut_other}
use Rattle.raft_known_state.specs.KnownState.{SnapshotMeta}
use Rattle.raft_engine.specs.Standing.{IsStepOf}
use Rattle.raft_engine.proofs.CommandLemmas.{gained_after}
use Rattle.raft_engine.proofs.FollowingLemmas.{committed_place}
use Rattle.raft_engine.proofs.SnapshotLemmas.{cut_other_keeps, is_entry_or_past}
use Rattle.raft_engine.proofs.engine.Engine.install.Goals as goal

same_last : (a b : LogId ℕ) → Some a ≡ Some b → a ≡ b
same_last a b e = cc

pub returns-then-is_committed-clause-step : goal.returns-then-is_committed-clause-step
returns-then-is_committed-clause-step g c = λ x own r step follows meta.
    let last = same_last c.in-Some.last x.snapshot.last (sym c.in-Some.is ∙ ap (λ (y : SnapshotMeta). y.last_log_id) meta) in
    let all : is_within x.snapshot.last.index r.state.committed ≡ true =
    ap (λ (id : LogId ℕ). is_within id.index r.state.committed) (sym last) ∙ ap (is_within c.in-Some.last.index) (sym (committed_place own c.args.self.now r.state step.state))
    ∙ sym c.is_committed.ensures ∙ c.if-is_committed.true in
    rw all step

pub returns-clause-step : goal.returns-clause-step
returns-clause-step g c = λ x own r step follows meta.
    let last = same_last c.in-Some.last x.snapshot.last (sym c.in-Some.is ∙ ap (λ (y : SnapshotMeta). y.last_log_id) meta) in
    let past : is_within c.in-Some.last.index r.state.committed ≡ false =
    ap (is_within c.in-Some.last.index) (sym (committed_place own c.args.self.now r.state step.state)) ∙ sym c.is_committed.ensures ∙ c.if-is_committed.false in
    let more : is_within x.snapshot.last.index r.state.committed ≡ false = ap (λ (id : LogId ℕ). is_within id.index r.state.committed) (sym last) ∙ past in
    let cut = cut_other c.in-Some.last r in
    let keeps = cut_other_keeps c.in-Some.last r in
    rw more
    (on_ok_weaker c.put_snapshot.result
    (λ h. subst (λ (id : LogId ℕ). IsStepOf x own c.put_snapshot.new.self (apply_up_to (Some id.index) (store (RemoveUpTo id) (store (SetSnapshot x.snapshot) (cut_other id r))))) last h)
    (c.put_snapshot.ensures.step x own cut (c.in_ok-cut_other.ensures.step x own r step follows past) (keeps.0 ∙ follows) meta last
    (ap (is_within c.in-Some.last.index) keeps.1 ∙ past) (is_entry_or_past r c.in-Some.last step.state.order past)))

pub returns-clause-numbers : goal.returns-clause-numbers
returns-clause-numbers g c =
    let kept = c.in_ok-cut_other.ensures.numbers in
    on_ok_weaker c.put_snapshot.result (λ gained. inr (gained_after c.args.self.now.output c.cut_other.new.self.output c.put_snapshot.new.self.output kept gained))
    c.put_snapshot.ensures.numbers

pub returns-clause-leader : goal.returns-clause-leader
returns-clause-leader g c = c.put_snapshot.ensures.leader ∙ c.cut_other.ensures.leader
