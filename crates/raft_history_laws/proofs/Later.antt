-- Worlds along a history, with the ballot machine's worlds, of which each is later than the one before.
use Rattle.std.specs.Prelude.{◌≡◌, ℕ, ◌<◌, ◌==◌, Bool, true, false, List, [], ◌∷◌, ◌++◌, length, refl}
use Rattle.std.proofs.Common.{sym, subst, ⊎_elim, eqb-true}
use Rattle.std.proofs.lemmas.Bool.{eqb-false}
use Rattle.raft_group_step.specs.Values.{Membership}
use Rattle.raft_laws.specs.BallotWorld.{BallotWorld, BallotEvent}
use Rattle.raft_laws.specs.declared.world_event.WorldEvent.{WorldEvent}
use Rattle.raft_laws.specs.GroupWorld.{GroupWorld, NodeState, Outcome, Recorded, is_stop, new_world, state_or, with_node_state}
use Rattle.raft_laws.specs.NodeEvent.{NodeEvent, outcome_at, state_after}
use Rattle.raft_laws.specs.GroupRun.{Scene, Nowhere, At, Replays, after_scene, ended, happens, led_after, outcome_in, outcome_of, scene_of, sent_in, stop_at}
use Rattle.raft_laws.specs.OneList.{AreNodeIds}
use Rattle.raft_laws.proofs.BallotStep.{Later, later_refl, later_trans}
use Rattle.raft_laws.proofs.StepFits.{world_after}
use Rattle.raft_laws.proofs.Standing.{message_on}
use Rattle.raft_laws.proofs.WorldFits.{NodeStateFits, WorldFits, led_on, node_on}
use Rattle.raft_laws.proofs.WorldSteps.{NodeEnd, MayHappen, node_event}
use Rattle.raft_laws.proofs.WorldRuns.{Matches, MayTakePlace, SetUpWith, among_either, may_take_place, setup_stays}
use Rattle.raft_laws.proofs.WorldStart.{Founded, founded, history_matches}
use Rattle.raft_laws.proofs.Histories.{histories-join}

-- one node has this state, the others what they had
pub one_node : (P : ℕ → NodeState → Type 0) (n j : ℕ) (state : NodeState) (nodes : ℕ → NodeState) → (j ≡ n → P j state) → ((j ≡ n → ⊥) → P j (nodes j)) → P j (with_node_state n state nodes j)
one_node P n j state nodes same other = go (j == n) refl
  where
    go : (t : Bool) → (j == n) ≡ t → P j (state_or t state (nodes j))
    go true e = same (eqb-true j n e)
    go false e = other (eqb-false j n e)

module _ (m : Membership) (some : 0 < length m.configs) (b : BallotWorld) where
  -- a world that fits the ballot machine at a later one of its worlds
  pub record MatchesLater (w : GroupWorld) : Type 0 where
    pub before : List BallotEvent
    pub fits : WorldFits m (world_after m before) w
    pub later : Later b (world_after m before)

  module _ (w : GroupWorld) (h : MatchesLater w) where
    at_later : (e : WorldEvent) (n : ℕ) (at_node : NodeEvent) (stopped : Bool) (k : ℕ) → MayHappen m (world_after m h.before) n at_node (w.nodes n) → MatchesLater (ended w e (outcome_at n at_node stopped (w.nodes n)) n (state_after n at_node (stop_at stopped k) (w.nodes n)))
    at_later e n at_node stopped k may =
        let o = outcome_at n at_node stopped (w.nodes n) in
        let state = state_after n at_node (stop_at stopped k) (w.nodes n) in
        let end : NodeEnd m h.before n state (sent_in o) (led_after o n state) = node_event m some h.before n at_node stopped k (w.nodes n) (h.fits.nodes n) may in
        record {
          before = end.after;
          fits =
              record {
                nodes = λ j.
                    one_node (NodeStateFits m (world_after m end.after)) n j state w.nodes
                    (λ same. subst (λ i. NodeStateFits m (world_after m end.after) i state) (sym same) end.fits)
                    (λ other. node_on end.extends j other m (w.nodes j) (h.fits.nodes j));
                messages = λ x a.
                    ⊎_elim
                    (λ old. message_on end.extends m x (h.fits.messages x old))
                    (λ new. end.messages x new)
                    (among_either x w.messages (sent_in o) a);
                led = λ l a.
                    ⊎_elim
                    (λ old. led_on end.later (h.fits.led l old))
                    (λ new. end.notes l new)
                    (among_either l w.led (led_after o n state) a);
              };
          later = later_trans h.later end.later;
        }

    scene_later : (e : WorldEvent) (stopped : Bool) (k : ℕ) (scene : Scene) → MayTakePlace m some w h.before h.fits scene → MatchesLater (after_scene w e (outcome_in w stopped scene) (stop_at stopped k) scene)
    scene_later e stopped k Nowhere may = h
    scene_later e stopped k (At n at_node) may = at_later e n at_node stopped k may

    happens_later : (known : SetUpWith m w) (e : WorldEvent) (o : Outcome) (k : ℕ) → o ≡ outcome_of w e (is_stop o) → SetUpWith m (happens w e o k) → MatchesLater (happens w e o k)
    happens_later known e o k is noted =
        subst (λ v. MatchesLater (after_scene w e v (stop_at (is_stop o) k) (scene_of w e))) (sym is)
        (scene_later e (is_stop o) k (scene_of w e) (may_take_place m some w h.before h.fits known e o k is noted))

  pub run_later : (rs : List Recorded) (w end : GroupWorld) → MatchesLater w → Replays w rs end → SetUpWith m end → MatchesLater end
  run_later [] w end h run known = subst MatchesLater (sym run) h
  run_later (r ∷ rs) w end h run known =
      let next = happens w r.event r.outcome run.1.0 in
      let known' : SetUpWith m next = λ x e. known x (setup_stays rs next end run.1.1 x e) in
      let known_first : SetUpWith m w = λ x e. known x (setup_stays (r ∷ rs) w end run x e) in
      run_later rs next end (happens_later w h known_first r.event r.outcome run.1.0 run.0 known') run.1.1 known

-- two worlds of one history, and the ballot machine's worlds that they fit
pub record BothMatch (middle end : GroupWorld) : Type 0 where
  pub membership : Membership
  pub some : 0 < length membership.configs
  pub first : Matches membership some middle
  pub second : MatchesLater membership some (world_after membership first.before) end
  pub known : SetUpWith membership end

pub both_match : (ids : List ℕ) → AreNodeIds ids → (rs more : List Recorded) (middle end : GroupWorld) → Replays (new_world ids) rs middle → Replays middle more end → BothMatch middle end
both_match ids small rs more middle end run on =
    let f : Founded end = founded ids small (rs ++ more) end (histories-join rs more (new_world ids) middle end run on) in
    let known : SetUpWith f.membership middle = λ x e. f.known x (setup_stays more middle end on x e) in
    let first : Matches f.membership f.some middle = history_matches f.membership f.some ids small rs middle run known in
    record {
      membership = f.membership;
      some = f.some;
      first = first;
      second =
          run_later f.membership f.some (world_after f.membership first.before) more middle end
          (record { before = first.before; fits = first.fits; later = later_refl (world_after f.membership first.before) })
          on f.known;
      known = f.known;
    }
