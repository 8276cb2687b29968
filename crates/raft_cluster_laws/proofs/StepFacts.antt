-- What a step that isn't refused has at a node that is up, wherever a history leads: what its machine needs to follow it.
use Rattle.std.specs.Prelude.{◌≡◌, ℕ, ◌+◌, ◌≤◌, true, false, List, [], ◌∷◌, ◌++◌, length, option_map, take, Option, Some, None, refl}
use Rattle.std.proofs.Common.{ap, ◌∙◌, subst, arith, ⊎_elim}
use Rattle.raft_values.specs.LogId.{next_place}
use Rattle.raft_group_step.specs.StoredGroup.{Snapshot, entry_at, prefix_of, snapshot_last}
use Rattle.raft_group_step.specs.GroupState.{GroupState}
use Rattle.raft_group_step.specs.GroupEvent.{GroupEvent, Open}
use Rattle.raft_group_step.specs.StepResult.{StepResult}
use Rattle.raft_group_step.specs.SnapshotRequest.{place_above}
use Rattle.raft_group_step.specs.Refusal.{refusal_of}
use Rattle.raft_group_step.specs.GroupStep.{group_step}
use Rattle.raft_laws.specs.declared.world_event.WorldEvent.{WorldEvent}
use Rattle.raft_laws.specs.GroupWorld.{GroupWorld, Up, Outcome, Recorded, is_stop, new_world}
use Rattle.raft_laws.specs.GroupWorld.{Done as Ended}
use Rattle.raft_laws.specs.NodeEvent.{Comes, outcome_at, outcome_of_end, state_after}
use Rattle.raft_laws.specs.GroupRun.{At, Replays, after_scene, happens, outcome_in, outcome_of, scene_of, stop_at}
use Rattle.raft_laws.specs.OneList.{IsGroupHistory, applied_list}
use Rattle.raft_laws.specs.VotesRise.{stored_of}
use Rattle.raft_laws.proofs.Histories.{histories-join}
use Rattle.raft_laws.proofs.Numbers.{state_here}
use Rattle.raft_laws.proofs.Runs.{scene-tells-stop}
use Rattle.raft_laws.proofs.StepFits.{world_after}
use Rattle.raft_laws.proofs.StepMoments.{refusals_told}
use Rattle.raft_laws.proofs.WorldFits.{NodeStateFits}
use Rattle.raft_laws.proofs.WorldStart.{founded}
use Rattle.raft_step_laws.specs.Tokens.{HasItsOwnVote, RiseFrom, WaitsLeading, brought, leads_on}
use Rattle.raft_history_laws.proofs.FittingWorlds.{committed_within}
use Rattle.raft_history_laws.proofs.ServedNodes.{has_own_vote}
use Rattle.raft_history_laws.proofs.WaitingTokens.{waits_own}
use Rattle.raft_headline.proofs.AsGroup.{SceneFits, scene_fits}
use Rattle.raft_headline.proofs.NodeFacts.{applied_committed, applied_stays, placed_log, snapshot_applied, snapshot_size}
use Rattle.raft_headline.proofs.StepRuns.{id_placed, step_applies}
use Rattle.raft_headline.proofs.WorldMachines.{NotOpening}
use Rattle.raft_snapshot_laws.specs.Snapshots.{IsOfApplied}
use Rattle.raft_snapshot_laws.proofs.StoredSnapshots.{leaders_build}
use Rattle.raft_cluster_laws.proofs.Rising.{all_rise, waits_leading}

module _ (ids : List ℕ) (rs : List Recorded) (w : GroupWorld) (h : IsGroupHistory ids rs w) (n : ℕ) (s : GroupState) (is : w.nodes n ≡ Up s) where
  -- a leader's vote is its own
  pub own_vote : HasItsOwnVote n s
  own_vote =
      let f = founded ids h.node_ids rs w h.replays in
      let b = world_after f.membership f.is.matches.before in
      has_own_vote f.membership b n s (subst (NodeStateFits f.membership b n) is (f.is.matches.fits.nodes n)).1

  pub leading : WaitsLeading s
  leading = waits_leading s (waits_own ids rs w h n s is).0

  pub rising : (e : GroupEvent) → RiseFrom (place_above s.applied) (s.untold ++ brought s e)
  rising e =
      let waits = waits_own ids rs w h n s is in
      all_rise s waits.0 waits.1 (applied_committed ids rs w h n s is) (committed_within ids rs w h n s is).ends e

  module _ (e : WorldEvent) (ge : GroupEvent) (here : scene_of w e ≡ At n (Comes ge)) (taken : refusal_of n s ge ≡ None) where
    abbrev q : StepResult
    q = group_step n s ge

    abbrev pub what : Outcome
    what = outcome_of w e false

    abbrev pub after : GroupWorld
    after = happens w e what 0

    abbrev noted : Recorded
    noted = record { event = e; outcome = what }

    pub fine : NotOpening (Comes ge)
    fine = subst SceneFits here (scene_fits w e)

    pub not_open : ge ≡ Open → ⊥
    not_open o = subst (λ x. NotOpening (Comes x)) o fine

    pub what_is : what ≡ Ended q.messages q.told q.unknown
    what_is =
        ap (outcome_in w false) here
        ∙ ap (outcome_at n (Comes ge) false) is
        ∙ ap (outcome_of_end q) (refusals_told n s ge ∙ taken)

    pub run : Replays w (noted ∷ []) after
    run = (scene-tells-stop w false (scene_of w e), (0, refl))

    pub next : IsGroupHistory ids (rs ++ noted ∷ []) after
    next = record { node_ids = h.node_ids; replays = histories-join rs (noted ∷ []) (new_world ids) w after h.replays run }

    pub now : after.nodes n ≡ Up q.state
    now =
        ap (λ o. (after_scene w e o (stop_at (is_stop o) 0) (scene_of w e)).nodes n) what_is
        ∙ ap (λ scene. (after_scene w e (Ended q.messages q.told q.unknown) None scene).nodes n) here
        ∙ state_here n (state_after n (Comes ge) None (w.nodes n)) w.nodes
        ∙ ap (state_after n (Comes ge) None) is

    -- what was applied stays the front of what is applied
    pub grows : place_above s.applied ≤ place_above q.state.applied
    grows =
        let before : place_above s.applied ≡ place_above s.committed = ap place_above (applied_committed ids rs w h n s is) in
        let behind : place_above q.state.applied ≡ place_above q.state.committed = ap place_above (applied_committed ids (rs ++ noted ∷ []) after next n q.state now) in
        let more = (step_applies n s (applied_committed ids rs w h n s is) (placed_log ids rs w h n s is) ge not_open).grows in
        omega arith

    pub front : take (place_above s.applied) (applied_list q.state) ≡ applied_list s
    front = applied_stays ids rs (noted ∷ []) w after h next run n n s q.state is now grows

    pub whole : (x : Snapshot) → q.state.stored.snapshot ≡ Some x → length x.«prefix» ≡ x.last.index + 1
    whole x f = snapshot_size ids (rs ++ noted ∷ []) after next n q.state.stored x (ap stored_of now) f

    -- a node that leads on has snapshots of what it had applied alone
    pub covered : leads_on s q.state ≡ true → (x : Snapshot) → q.state.stored.snapshot ≡ Some x → x.last.index + 1 ≤ place_above s.applied
    covered on x f =
        ⊎_elim
        (λ old.
        let size = snapshot_size ids rs w h n s.stored x (ap stored_of is) old in
        let reach = snapshot_applied ids rs w h n s is in
        let same : length (prefix_of s.stored.snapshot) ≡ length x.«prefix» = ap (λ o. length (prefix_of o)) old in
        omega arith)
        (λ b. of_applied b)
        (leaders_build n s ge own_vote taken on x f)
      where
        of_applied : IsOfApplied s x → x.last.index + 1 ≤ place_above s.applied
        of_applied b =
            let index : (b.last).index ≡ b.place = id_placed (entry_at s.stored b.place) b.place b.last (placed_log ids rs w h n s is b.place) b.stands in
            let last : x.last.index ≡ (b.last).index = ap (λ (y : Snapshot). y.last.index) b.built in
            let above : place_above s.applied ≡ b.place + 1 = ap place_above b.applied in
            omega arith

    pub built : leads_on s q.state ≡ true → next_place (snapshot_last q.state.stored) ≤ place_above s.applied
    built on = go q.state.stored.snapshot refl
      where
        go : (o : Option Snapshot) → q.state.stored.snapshot ≡ o → next_place (option_map (λ (x : Snapshot). x.last) o) ≤ place_above s.applied
        go None f = omega arith
        go (Some x) f = let l = covered on x f in omega arith
