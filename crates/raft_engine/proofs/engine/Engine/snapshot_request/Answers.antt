use Rattle.std.proofs.Common.{◌≡◌, ◌≤◌, ◌∙◌, ap, sym, subst, refl, true, false, arith}
use Rattle.std.proofs.lemmas.Result.{on_ok_weaker}
use Rattle.raft_group_step.specs.Values.{vote_lt}
use Rattle.raft_group_step.specs.StepResult.{is_within, take_over}
use Rattle.raft_group_step.specs.Message.{HigherVote, Success}
use Rattle.raft_group_step.specs.SnapshotRequest.{install_unless, reply_snapshot}
use Rattle.raft_engine.specs.Commands.{snapshot_result}
use Rattle.raft_engine.specs.Standing.{IsStepOf}
use Rattle.std.proofs.Math.Bool.{true≢false}
use Rattle.raft_values.specs.LogId.{next_place}
use Rattle.raft_group_step.specs.Frames.{committed_id}
use Rattle.raft_engine.proofs.FollowingLemmas.{before_next}
use Rattle.raft_engine.proofs.OtherVotes.{follows_after, not_below_after}
use Rattle.raft_engine.proofs.SnapshotLemmas.{install_keeps_vote, install_reaches, says_higher, says_success}
use Rattle.raft_progress.proofs.PartsLemmas.{on_ok}
use Rattle.raft_engine.proofs.ClockLemmas.{keeps_then, keeps_untouched}
use Rattle.raft_engine.proofs.engine.Engine.snapshot_request.Goals as goal

pub returns-then-is_lower-clause-step : goal.returns-then-is_lower-clause-step
returns-then-is_lower-clause-step g c = λ x own r id step now meta asked repeats another.
    let lower : vote_lt c.args.vote r.state.stored.vote ≡ true =
    ap (vote_lt c.args.vote) (sym (c.vote_ref.ensures ∙ step.state.knows.vote)) ∙ sym c.is_lower-is_lower.ensures ∙ c.if-is_lower.true in
    let says = ap (λ v. snapshot_result v (record { vote = r.state.stored.vote })) asked ∙ says_higher c.args.vote r.state.stored.vote lower in
    rw lower
    (on_ok_weaker c.answer_snapshot.result
    (λ h. subst (λ v. IsStepOf x own c.answer_snapshot.new.self (reply_snapshot own c.args.tx.peer v id x.snapshot (HigherVote r.state.stored.vote) r)) asked
    (subst (λ o. IsStepOf x own c.answer_snapshot.new.self (reply_snapshot own c.args.tx.peer c.args.tx.vote id x.snapshot o r)) says h))
    (c.answer_snapshot.ensures.step x own r id step repeats
    (refl, λ no. absurd (true≢false (sym lower ∙ ap (λ v. vote_lt v r.state.stored.vote) (sym asked) ∙ no)))))

pub returns-clause-step : goal.returns-clause-step
returns-clause-step g c = λ x own r id step now meta asked repeats another.
    let no_lower : vote_lt c.args.vote r.state.stored.vote ≡ false =
    ap (vote_lt c.args.vote) (sym (c.vote_ref.ensures ∙ step.state.knows.vote)) ∙ sym c.is_lower-is_lower.ensures ∙ c.if-is_lower.false in
    let taken = take_over c.args.vote r in
    let follows = follows_after x own c.args.self.now r c.args.vote step another no_lower in
    let after = install_unless (is_within x.snapshot.last.index taken.state.committed) x.snapshot taken in
    let installed = c.in_ok-install.ensures.step x own taken (c.in_ok-take_over.ensures.step x own r step now) follows meta in
    let reached = install_reaches (is_within x.snapshot.last.index taken.state.committed) x.snapshot taken refl in
    let level : vote_lt c.args.vote after.state.stored.vote ≡ false =
    ap (vote_lt c.args.vote) (install_keeps_vote (is_within x.snapshot.last.index taken.state.committed) x.snapshot taken) ∙ not_below_after c.args.vote r no_lower in
    let says = ap (λ v. snapshot_result v (record { vote = after.state.stored.vote })) asked ∙ says_success c.args.vote after.state.stored.vote level in
    rw no_lower
    (on_ok_weaker c.answer_snapshot-2.result
    (λ h. subst (λ v. IsStepOf x own c.answer_snapshot-2.new.self (reply_snapshot own c.args.tx.peer v id x.snapshot Success after)) asked
    (subst (λ o. IsStepOf x own c.answer_snapshot-2.new.self (reply_snapshot own c.args.tx.peer c.args.tx.vote id x.snapshot o after)) says h))
    (c.answer_snapshot-2.ensures.step x own after id installed repeats (
      refl,
      λ _. subst (λ k. next_place c.args.tx.last ≤ next_place k) (sym installed.state.committed)
          (subst (λ k. next_place k ≤ next_place (committed_id after.state)) (sym repeats.last) (let covered = before_next (committed_id after.state) after.state.committed x.snapshot.last.index installed.state.order.committed reached in omega (arith, covered))),
    )))

pub returns-then-is_lower-clause-heard : goal.returns-then-is_lower-clause-heard
returns-then-is_lower-clause-heard g c =
    on_ok c.answer_snapshot.result (keeps_untouched c.args.self.now.leader c.answer_snapshot.new.self.leader c.answer_snapshot.ensures.leader)

pub returns-clause-heard : goal.returns-clause-heard
returns-clause-heard g c =
    let taken = c.take_over.new.self.leader in
    let answered = c.answer_snapshot-2.new.self.leader in
    on_ok c.answer_snapshot-2.result
    (keeps_then c.args.self.now.leader taken answered c.in_ok-take_over.ensures.heard
    (keeps_untouched taken answered (c.answer_snapshot-2.ensures.leader ∙ c.install.ensures.leader)))
