-- The leader's last log id is the log's, and its entry goes behind it.
use Rattle.std.proofs.Common.{◌∙◌, ap, sym, subst, refl, ◌++◌, ◌∷◌, []}
use Rattle.std.specs.Prelude.{ℕ, nat_eq, Some}
use Rattle.std.proofs.lemmas.Result.{on_ok_weaker}
use Rattle.raft_values.specs.LogId.{next_place}
use Rattle.raft_group_step.specs.Values.{entry_of}
use Rattle.raft_group_step.specs.StoredGroup.{PutEntries, after_storing, end_place}
use Rattle.raft_known_state.specs.KnownState.{ArePlaced, Knows}
use Rattle.raft_leaders.specs.Leader.{LeaderValue, peer_at}
use Rattle.raft_engine.specs.Standing.{EffectiveMembership}
use Rattle.raft_engine.specs.Leading.{KnowsMembers}
use Rattle.raft_engine.proofs.AppendLemmas.{appended, lasts_agree}
use Rattle.raft_engine.specs.Clock.{KeepsHeard, heard_at}
use Rattle.raft_progress.proofs.PartsLemmas.{on_ok}
use Rattle.raft_engine.proofs.ClockLemmas.{keeps_same, keeps_untouched}
use Rattle.raft_engine.proofs.engine.Engine.append.Goals as goal

abbrev LeaderOf : Type 0
LeaderOf = LeaderValue ℕ EffectiveMembership

pub returns-then-not-share_place-clause-step : goal.returns-then-not-share_place-clause-step
returns-then-not-share_place-clause-step g c = λ x own r lead step leads.
    let agree = lasts_agree x own c.args.self.now r step lead leads c.in-Some.leader c.in-Some.is in
    cc (c.if-not-share_place.ensures.1 (ap next_place (c.last_log_id.ensures ∙ agree ∙ sym c.last.ensures)))

pub returns-clause-step : goal.returns-clause-step
returns-clause-step g c = λ x own r lead step leads.
    let l = c.in-Some.leader in
    let given = c.next_log_id-log_id.ensures.rest in
    let counted = c.in_ok-count_by_entry.ensures in
    let id = c.next_log_id-log_id.result in
    let entries = c.in_ok-push.ensures.ok ∙ ap (λ es. es ++ entry_of id c.args.payload ∷ []) c.new-entries.ensures in
    on_ok_weaker c.push_command.result
    (λ h. appended x own c.args.self.now r step lead leads l c.in-Some.is _ c.args.payload c.count_by_entry.new.leader c.vote_ref-vote.result.now c.push.new.self id
    refl refl refl refl c.next_log_id-log_id.ensures.id entries (c.vote_ref-vote.ensures ∙ ap (λ (y : LeaderOf). y.vote) given)
    (λ s k p q. subst (λ es. Knows c.append.new.self (after_storing (PutEntries (end_place s) es) s)) c.as_slice.ensures
    (c.in_ok-append.ensures.known s k p (subst (ArePlaced (end_place s)) (sym c.as_slice.ensures) q)))
    c.in_ok-append.ensures.rest
    (ap (λ (y : LeaderOf). y.vote) counted.rest ∙ ap (λ (y : LeaderOf). y.vote) given)
    (ap (λ (y : LeaderOf). y.noop_log_id) counted.rest ∙ ap (λ (y : LeaderOf). y.noop_log_id) given)
    (ap (λ (y : LeaderOf). y.last_log_id) counted.rest ∙ ap (λ (y : LeaderOf). y.last_log_id) given)
    (ap (λ (y : LeaderOf). y.began) counted.rest ∙ ap (λ (y : LeaderOf). y.began) given)
    (λ n. counted.peers n ∙ ap (λ (y : LeaderOf). peer_at nat_eq y n) given)
    (λ before knows. counted.members before (subst (λ (y : LeaderOf). KnowsMembers y before) (sym given) knows))
    h)
    c.push_command.ensures.ok

pub returns-in_default-clause-heard : goal.returns-in_default-clause-heard
returns-in_default-clause-heard g c = keeps_same c.args.self.now.leader

pub returns-then-not-share_place-clause-heard : goal.returns-then-not-share_place-clause-heard
returns-then-not-share_place-clause-heard g c = keeps_untouched c.args.self.now.leader (Some c.in-Some.leader) (sym c.in-Some.is)

pub returns-clause-heard : goal.returns-clause-heard
returns-clause-heard g c =
    let counted : KeepsHeard (Some c.in-Some.leader) (Some c.count_by_entry.new.leader) =
    λ n. c.in_ok-count_by_entry.ensures.heard n ∙ ap (λ (y : LeaderOf). heard_at y n) c.next_log_id-log_id.ensures.rest in
    on_ok c.push_command.result (subst (λ o. KeepsHeard o (Some c.count_by_entry.new.leader)) (sym c.in-Some.is) counted)
