use Rattle.std.proofs.Common.{◌≡◌, ◌∙◌, ap, ap₂, sym, subst, true, false}
use Rattle.raft_values.specs.LogId.{place_of}
use Rattle.raft_engine.specs.Ordering.{EndsBefore}
use Rattle.raft_group_step.specs.StepResult.{apply_up_to, later_place}
use Rattle.raft_group_step.specs.AppendRequest.{above_committed, cut_at, is_held, lesser_place, missing_entries, put_entries}
use Rattle.raft_group_step.specs.Refusal.{do_follow}
use Rattle.raft_group_step.specs.Message.{last_sent}
use Rattle.raft_engine.specs.Standing.{IsStepOf}
use Rattle.raft_engine.specs.Following.{EndsWithin}
use Rattle.raft_engine.proofs.FollowingLemmas.{committed_place}
use Rattle.raft_engine.proofs.MissingEntries.{cut_at_keeps_vote, cut_before, put_keeps_committed, put_keeps_vote, request_held, request_within}
use Rattle.raft_engine.proofs.engine.Engine.join_entries.Goals as goal

pub returns-then-not-is_held-clause-step : goal.returns-then-not-is_held-clause-step
returns-then-not-is_held-clause-step g c = λ x own r m step follows voted says repeats follow.
    let test : is_held r.state.stored r.state.committed m.previous ≡ false =
    ap₂ (is_held r.state.stored) (sym (committed_place own c.args.self.now r.state step.state)) (sym says.previous)
    ∙ sym (c.is_held.ensures r.state.stored step.state.knows step.state.order.placed) ∙ c.if-not-is_held.true in
    let cut = c.in_ok-cut_at.ensures.step x own r step follows (subst (λ p. is_held r.state.stored r.state.committed p ≡ false) (sym says.previous) test) in
    rw test
    (c.answer_append.ensures.step x own (cut_at m.previous r) m (subst (λ p. IsStepOf x own c.cut_at.new.self (cut_at p r)) says.previous cut) repeats
    (cut_at_keeps_vote m.previous r ∙ voted ∙ sym repeats.vote, subst (λ p. EndsBefore p (cut_at m.previous r).state.stored) (sym repeats.previous) (cut_before r m.previous step.state.order test)))

pub returns-clause-step : goal.returns-clause-step
returns-clause-step g c = λ x own r m step follows voted says repeats follow.
    let s = r.state.stored in
    let test : is_held s r.state.committed m.previous ≡ true =
    ap₂ (is_held s) (sym (committed_place own c.args.self.now r.state step.state)) (sym says.previous)
    ∙ sym (c.is_held.ensures s step.state.knows step.state.order.placed) ∙ c.if-not-is_held.false in
    let said : do_follow c.args.req.vote m.previous c.args.req.entries ≡ true =
    subst (λ v. do_follow v m.previous c.args.req.entries ≡ true) (sym says.vote) (subst (λ es. do_follow m.vote m.previous es ≡ true) (sym says.entries) follow) in
    let put = c.in_ok-put_missing.ensures.step x own r c.args.req.vote m.previous step follows said test in
    let joined = subst (λ es. IsStepOf x own c.put_missing.new.self (put_entries (missing_entries s (above_committed r.state.committed es)) r)) says.entries put in
    let after = put_entries (missing_entries s (above_committed r.state.committed m.entries)) r in
    let said = lesser_place (place_of m.committed) (place_of (last_sent m.previous m.entries)) in
    let upto : c.lesser_place.result ≡ said = c.lesser_place.ensures ∙ ap₂ (λ a b. lesser_place (place_of a) (place_of b)) says.committed repeats.last in
    let within = request_within r m.vote m.previous m.entries (place_of m.committed) step.state.order follow test in
    let done = subst (λ p. IsStepOf x own c.commit_up_to.new.self (apply_up_to p after)) upto (c.in_ok-commit_up_to.ensures.step x own after joined (subst (λ p. EndsWithin p after.state.stored) (sym upto) within)) in
    let committed = committed_place own c.commit_up_to.new.self (apply_up_to said after).state done.state ∙ ap (λ before. later_place before said) (put_keeps_committed (missing_entries s (above_committed r.state.committed m.entries)) r) in
    rw test
    (c.answer_append-2.ensures.step x own (apply_up_to said after) m done repeats (
      put_keeps_vote (missing_entries s (above_committed r.state.committed m.entries)) r ∙ voted ∙ sym repeats.vote,
      ap₂ (is_held after.state.stored) committed repeats.last ∙ request_held r m.vote m.previous m.entries said step.state.order follow test,
    ))

pub returns-then-not-is_held-clause-leader : goal.returns-then-not-is_held-clause-leader
returns-then-not-is_held-clause-leader g c = c.answer_append.ensures.leader ∙ c.cut_at.ensures.leader

pub returns-clause-leader : goal.returns-clause-leader
returns-clause-leader g c = c.answer_append-2.ensures.leader ∙ c.commit_up_to.ensures.leader ∙ c.put_missing.ensures.leader

pub returns-in_err-commit_up_to-clause-leader : goal.returns-in_err-commit_up_to-clause-leader
returns-in_err-commit_up_to-clause-leader g c = c.commit_up_to.ensures.leader ∙ c.put_missing.ensures.leader
