-- What holds of each node along every history, event by event at one node.
use Rattle.std.specs.Prelude.{◌≡◌, ℕ, ◌<◌, Bool, List, [], ◌∷◌, ◌++◌, length, refl}
use Rattle.std.proofs.Common.{sym, subst}
use Rattle.raft_group_step.specs.Values.{Membership, has_id}
use Rattle.raft_group_step.specs.GroupState.{no_group, state_of}
use Rattle.raft_laws.specs.BallotWorld.{BallotEvent}
use Rattle.raft_laws.specs.GroupWorld.{GroupWorld, NodeState, Absent, Up, Recorded, is_stop, new_world, state_or}
use Rattle.raft_laws.specs.NodeEvent.{NodeEvent, state_after}
use Rattle.raft_laws.specs.GroupRun.{Scene, Nowhere, At, Replays, after_scene, happens, outcome_in, outcome_of, scene_of, stop_at}
use Rattle.raft_laws.specs.OneList.{AreNodeIds}
use Rattle.raft_laws.specs.declared.world_event.WorldEvent.{WorldEvent}
use Rattle.raft_laws.proofs.StepFits.{world_after}
use Rattle.raft_laws.proofs.WorldFits.{NodeStateFits, WorldFits}
use Rattle.raft_laws.proofs.WorldSteps.{MayHappen}
use Rattle.raft_laws.proofs.WorldRuns.{Matches, MayTakePlace, SetUpWith, may_take_place, setup_stays}
use Rattle.raft_laws.proofs.WorldStart.{Founded, IsFounded, founded, history_matches}
use Rattle.raft_history_laws.proofs.Along.{along, one_more}
use Rattle.raft_history_laws.proofs.Later.{one_node}

-- an event of a history, with the ballot machine's world before it
pub record MayFollow (w : GroupWorld) (r : Recorded) (k : ℕ) : Type 0 where
  pub membership : Membership
  pub some : 0 < length membership.configs
  pub first : Matches membership some w
  pub before_known : SetUpWith membership w
  pub known : SetUpWith membership (happens w r.event r.outcome k)
  pub may : MayTakePlace membership some w first.before first.fits (scene_of w r.event)
  pub founded_next : IsFounded membership some (happens w r.event r.outcome k)

pub may_follow : (ids : List ℕ) → AreNodeIds ids → (rs : List Recorded) (w : GroupWorld) → Replays (new_world ids) rs w → (r : Recorded) (k : ℕ) → r.outcome ≡ outcome_of w r.event (is_stop r.outcome) → MayFollow w r k
may_follow ids small rs w run r k is =
    let next = happens w r.event r.outcome k in
    let f : Founded next = founded ids small (rs ++ r ∷ []) next (one_more rs (new_world ids) w run r k is) in
    let known : SetUpWith f.membership w = λ x e. f.known x (setup_stays (r ∷ []) w next (is, (k, refl)) x e) in
    let first : Matches f.membership f.some w = history_matches f.membership f.some ids small rs w run known in
    record {
      membership = f.membership;
      some = f.some;
      first = first;
      before_known = known;
      known = f.known;
      may = may_take_place f.membership f.some w first.before first.fits known r.event r.outcome k is f.known;
      founded_next = f.is;
    }

-- what each event keeps at the node where it happens
abbrev pub NodesKeep : (ℕ → NodeState → Type 0) → Type 0
NodesKeep N =
    (m : Membership) → 0 < length m.configs → (before : List BallotEvent) (n : ℕ) (e : NodeEvent) (stopped : Bool) (k : ℕ) (x : NodeState)
    → NodeStateFits m (world_after m before) n x → MayHappen m (world_after m before) n e x
    → N n x → N n (state_after n e (stop_at stopped k) x)

-- the same, where this is given of the event and its node
abbrev pub NodesKeepGiven : (NodeEvent → NodeState → Type 0) → (ℕ → NodeState → Type 0) → Type 0
NodesKeepGiven G N =
    (m : Membership) → 0 < length m.configs → (before : List BallotEvent) (n : ℕ) (e : NodeEvent) (stopped : Bool) (k : ℕ) (x : NodeState)
    → NodeStateFits m (world_after m before) n x → MayHappen m (world_after m before) n e x
    → G e x
    → N n x → N n (state_after n e (stop_at stopped k) x)

-- it is given of the scene's event and its node
abbrev pub GivenIn : (NodeEvent → NodeState → Type 0) → GroupWorld → Scene → Type 0
GivenIn G w Nowhere = Unit {0}
GivenIn G w (At n e) = G e (w.nodes n)

-- it is given wherever a history has come to
abbrev pub IsGivenAlong : (NodeEvent → NodeState → Type 0) → List ℕ → Type 0
IsGivenAlong G ids = (early : List Recorded) (w : GroupWorld) → Replays (new_world ids) early w → (e : WorldEvent) → GivenIn G w (scene_of w e)

module _ (G : NodeEvent → NodeState → Type 0) (N : ℕ → NodeState → Type 0) (keep : NodesKeepGiven G N) where
  scene_keeps : (m : Membership) (some : 0 < length m.configs) (before : List BallotEvent) (w : GroupWorld) (fits : WorldFits m (world_after m before) w) (e : WorldEvent) (stopped : Bool) (k : ℕ) (scene : Scene) → MayTakePlace m some w before fits scene → GivenIn G w scene → ((n : ℕ) → N n (w.nodes n)) → (n : ℕ) → N n ((after_scene w e (outcome_in w stopped scene) (stop_at stopped k) scene).nodes n)
  scene_keeps m some before w fits e stopped k Nowhere may given h n = h n
  scene_keeps m some before w fits e stopped k (At i at_node) may given h n =
      let state = state_after i at_node (stop_at stopped k) (w.nodes i) in
      one_node N i n state w.nodes
      (λ same. subst (λ j. N j state) (sym same) (keep m some before i at_node stopped k (w.nodes i) (fits.nodes i) may given (h i)))
      (λ other. h n)

  pub along_given : (ids : List ℕ) → AreNodeIds ids → IsGivenAlong G ids → ((n : ℕ) (b : Bool) → N n (state_or b (Up (state_of no_group)) Absent)) → (rs : List Recorded) (end : GroupWorld) → Replays (new_world ids) rs end → (n : ℕ) → N n (end.nodes n)
  along_given ids small given start rs end run =
      along ids (λ (w : GroupWorld). (n : ℕ) → N n (w.nodes n))
      (λ early w past r k is h.
      let f = may_follow ids small early w past r k is in
      subst (λ o. (n : ℕ) → N n ((after_scene w r.event o (stop_at (is_stop r.outcome) k) (scene_of w r.event)).nodes n)) (sym is)
      (scene_keeps f.membership f.some f.first.before w f.first.fits r.event (is_stop r.outcome) k (scene_of w r.event) f.may (given early w past r.event) h))
      (λ n. start n (has_id ids n)) rs end run

nothing_given : (w : GroupWorld) (scene : Scene) → GivenIn (λ (e : NodeEvent) (x : NodeState). Unit {0}) w scene
nothing_given w Nowhere = tt
nothing_given w (At n e) = tt

module _ (N : ℕ → NodeState → Type 0) (keep : NodesKeep N) where
  pub along_nodes : (ids : List ℕ) → AreNodeIds ids → ((n : ℕ) (b : Bool) → N n (state_or b (Up (state_of no_group)) Absent)) → (rs : List Recorded) (end : GroupWorld) → Replays (new_world ids) rs end → (n : ℕ) → N n (end.nodes n)
  along_nodes ids small start rs end run =
      along_given (λ (e : NodeEvent) (x : NodeState). Unit {0}) N
      (λ m some before n e stopped k x fits may none h. keep m some before n e stopped k x fits may h)
      ids small (λ early w past e. nothing_given w (scene_of w e)) start rs end run
