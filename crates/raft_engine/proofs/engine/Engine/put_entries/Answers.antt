-- The first entry stands at the place, and there the log ends once it is cut.
use Rattle.std.proofs.Common.{◌≡◌, ◌≤◌, ◌∙◌, ap, ap₂, sym, subst, refl, true, false, None, arith}
use Rattle.std.specs.Prelude.{Some}
use Rattle.std.specs.List.{slice_get}
use Rattle.std.specs.Option.{option_copied}
use Rattle.std.proofs.lemmas.Result.{on_ok_weaker}
use Rattle.raft_log_ids.specs.LogIdList.{last_id}
use Rattle.raft_commands.specs.declared.command.Command.TheVariants.{AppendInputEntries}
use Rattle.raft_group_step.specs.StoredGroup.{PutEntries, after_storing, end_place}
use Rattle.raft_group_step.specs.StepResult.{is_within}
use Rattle.raft_group_step.specs.AppendRequest.{cut_from}
use Rattle.raft_group_step.proofs.Words.{cut_keeps_role}
use Rattle.raft_known_state.specs.KnownState.{ArePlaced, Knows}
use Rattle.raft_messages.specs.Entries.{all_go_on}
use Rattle.raft_engine.proofs.PlacedEntries.{found_at, go_on, some_within}
use Rattle.raft_engine.proofs.FollowingLemmas.{cut_ends, known_go_on, log_stored, order_of_put, put_all_as, put_as, put_keeps_id, put_none}
use Rattle.raft_engine.proofs.engine.Engine.put_entries.Goals as goal

pub append-requires : goal.append-requires
append-requires g c =
    go_on c.as_slice-3.result.now (last_id c.cut_from.new.self.state.state.log_ids)
    (ap₂ all_go_on (sym c.last.ensures ∙ sym c.copied-last.ensures) (c.as_slice-3.ensures ∙ sym c.as_slice-2.ensures) ∙ sym c.all_go_on.ensures ∙ c.if-not-all_go_on.false)

pub returns-in_default-clause-step : goal.returns-in_default-clause-step
returns-in_default-clause-step g c = λ x own r place step follows placed past l.
    let none : slice_get c.args.entries 0 ≡ None = ap (λ xs. slice_get xs 0) (sym c.as_slice.ensures) ∙ sym c.first.ensures.value ∙ ap option_copied c.in_default.is in
    rw (put_none c.args.entries none r) step

pub returns-then-not-all_go_on-clause-step : goal.returns-then-not-all_go_on-clause-step
returns-then-not-all_go_on-clause-step g c = λ x own r place step follows placed past l.
    let first = c.in-Some.first.now in
    let found : slice_get c.args.entries 0 ≡ Some first = ap (λ xs. slice_get xs 0) (sym c.as_slice.ensures) ∙ sym c.first.ensures.value ∙ ap option_copied c.in-Some.is in
    let at : place ≡ first.log_id.index = let f = found_at c.args.entries place 0 first placed found in omega arith in
    let cut_past = ap (λ n. is_within n r.state.committed) (sym at) ∙ past in
    let cut = c.in_ok-cut_from.ensures.step x own r step follows cut_past in
    let ends = cut_ends r first.log_id.index step.state.order cut_past (subst (λ n. n ≤ end_place r.state.stored) at l) in
    let goes = known_go_on (cut_from first.log_id.index r).state.stored c.cut_from.new.self.state.state.log_ids c.args.entries first.log_id.index
    cut.state.order.placed cut.state.knows.ids ends (subst (λ n. ArePlaced n c.args.entries) at placed) in
    let no : false ≡ true =
    sym c.if-not-all_go_on.true ∙ c.all_go_on.ensures ∙ ap₂ all_go_on (c.copied-last.ensures ∙ c.last.ensures) c.as_slice-2.ensures ∙ goes in
    absurd (let none : false ≡ true = no in cc)

pub returns-clause-step : goal.returns-clause-step
returns-clause-step g c = λ x own r place step follows placed past l.
    let first = c.in-Some.first.now in
    let found : slice_get c.args.entries 0 ≡ Some first = ap (λ xs. slice_get xs 0) (sym c.as_slice.ensures) ∙ sym c.first.ensures.value ∙ ap option_copied c.in-Some.is in
    let at : place ≡ first.log_id.index = let f = found_at c.args.entries place 0 first placed found in omega arith in
    let cut_past = ap (λ n. is_within n r.state.committed) (sym at) ∙ past in
    let cut = c.in_ok-cut_from.ensures.step x own r step follows cut_past in
    let ends = cut_ends r first.log_id.index step.state.order cut_past (subst (λ n. n ≤ end_place r.state.stored) at l) in
    let after = cut_from first.log_id.index r in
    let at_end = subst (λ n. ArePlaced n c.args.entries) (at ∙ sym ends) placed in
    let known =
    subst (λ es. Knows c.append.new.self (after_storing (PutEntries first.log_id.index es) after.state.stored)) c.as_slice-3.ensures
    (subst (λ n. Knows c.append.new.self (after_storing (PutEntries n c.as_slice-3.result.now) after.state.stored)) ends
    (c.in_ok-append.ensures.known after.state.stored cut.state.knows cut.state.order.placed (subst (ArePlaced (end_place after.state.stored)) (sym c.as_slice-3.ensures) at_end))) in
    on_ok_weaker c.push_command.result
    (λ h. rw (put_as c.args.entries first found r)
    (log_stored x own c.cut_from.new.self _ after cut refl refl refl refl (PutEntries first.log_id.index c.args.entries) (AppendInputEntries c.vote_ref-vote.result.now c.args.entries)
    (cut_keeps_role first.log_id.index r ∙ follows) known c.in_ok-append.ensures.rest
    (order_of_put after.state cut.state.order c.args.entries at_end first.log_id.index ends) (put_keeps_id after.state cut.state.order c.args.entries at_end first.log_id.index ends)
    h (put_all_as c.args.entries first found) refl tt (sym (c.vote_ref-vote.ensures ∙ known.vote), at_end, some_within c.args.entries 0 first found) refl (λ s upto. refl)))
    c.push_command.ensures.ok
