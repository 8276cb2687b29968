-- Every history that replays keeps a world that fits the ballot machine.
use Rattle.std.specs.Prelude.{◌≡◌, ◌⊎◌, ℕ, ◌<◌, ◌==◌, ◌&&◌, not, Bool, true, false, List, [], ◌∷◌, ◌++◌, length, slice_get, Option, Some, None, refl}
use Rattle.std.proofs.Common.{inl, inr, sym, ap, ◌∙◌, subst, ⊎_elim, eqb-true}
use Rattle.std.proofs.lemmas.Bool.{eqb-false}
use Rattle.raft_group_step.specs.Values.{Membership, is_valid, is_within_limits}
use Rattle.raft_group_step.specs.Message.{Message}
use Rattle.raft_group_step.specs.GroupState.{GroupState}
use Rattle.raft_group_step.specs.declared.group_call.GroupCall.TheVariants.{Initialize, Elect, Propose, ChangeMembership, Heartbeat, Lost, TriggerSnapshot, TriggerPurge}
use Rattle.raft_group_step.specs.GroupEvent.{GroupCall, GroupEvent, AddGroup, Call, Receive}
use Rattle.raft_group_step.specs.StepResult.{StepResult, RefusalReason, MembershipRefused, UnknownGroup}
use Rattle.raft_group_step.specs.Refusal.{first_of_reasons, is_first_membership, refusal_of, unless}
use Rattle.raft_group_step.specs.Initialize.{initialize_step}
use Rattle.raft_group_step.specs.GroupStep.{begun, finished, group_step, step_unless}
use Rattle.raft_laws.specs.BallotWorld.{BallotWorld, BallotEvent}
use Rattle.raft_laws.specs.declared.world_event.WorldEvent.{WorldEvent}
use Rattle.raft_laws.specs.declared.world_event.WorldEvent.TheVariants.{Add, Ask, Deliver, Crash, Halt, Restart}
use Rattle.raft_laws.specs.GroupWorld.{GroupWorld, NodeState, Absent, Up, Down, Outcome, Recorded, is_stop, state_or, with_node_state}
use Rattle.raft_laws.specs.NodeEvent.{NodeEvent, Comes, outcome_at, outcome_of_end, outcome_of_step, outcome_of_stop, state_after}
use Rattle.raft_laws.specs.GroupRun.{Scene, Nowhere, At, Replays, after_scene, ended, happens, is_same_setup, led_after, outcome_in, outcome_of, scene_of, scene_of_call, scene_of_delivery, sent_in, setup_after, setup_in_call, stop_at}
use Rattle.raft_laws.proofs.BallotSafe.{Among, among_at}
use Rattle.raft_laws.proofs.StepFits.{world_after}
use Rattle.raft_laws.proofs.Standing.{MessageFits, message_on}
use Rattle.raft_laws.proofs.WorldFits.{NodeStateFits, WorldFits, led_on, node_on}
use Rattle.raft_laws.proofs.WorldSteps.{NodeEnd, MayCome, MayHappen, node_event}
use Rattle.raft_laws.proofs.SameMemberships.{same_membership}
use Rattle.raft_laws.proofs.StepMoments.{step_goes}

pub among_either : {A : Type 0} (x : A) (xs ys : List A) → Among x (xs ++ ys) → Among x xs ⊎ Among x ys
among_either x [] ys h = inr h
among_either x (z ∷ xs) ys h =
    ⊎_elim (λ e. inl (inl e)) (λ t. ⊎_elim (λ a. inl (inr a)) (λ b. inr b) (among_either x xs ys t)) h

-- a group is set up with this membership, or with one that each node refuses, since it has no voters
abbrev pub IsSetUp : Membership → Membership → Type 0
IsSetUp m x = (x ≡ m) ⊎ (x.configs ≡ [])

abbrev pub SetUpWith : Membership → GroupWorld → Type 0
SetUpWith m w = (x : Membership) → w.setup ≡ Some x → IsSetUp m x

no_and : (a b c : Bool) → c ≡ false → (a && b && c) ≡ false
no_and false b c e = refl
no_and true false c e = refl
no_and true true c e = e

first_refusal : (present first : Bool) (rest : List (Option RefusalReason)) → first ≡ false → (why : RefusalReason) × (first_of_reasons (unless present UnknownGroup ∷ unless first MembershipRefused ∷ rest) ≡ Some why)
first_refusal false first rest e = (UnknownGroup, refl)
first_refusal true first rest e = (MembershipRefused, ap (λ b. first_of_reasons (unless b MembershipRefused ∷ rest)) e)

-- a set-up without voters is refused
no_voters : (n : ℕ) (s : GroupState) (x : Membership) (now : ℕ) → x.configs ≡ [] → (why : RefusalReason) × (refusal_of n s (Call (Initialize x) now) ≡ Some why)
no_voters n s x now e =
    first_refusal s.stored.present (is_first_membership x) _
    (no_and (is_valid x) (is_within_limits x) (not (length x.configs == 0)) (ap (λ (cs : List (List ℕ)). not (length cs == 0)) e))

-- ---- the set-up stays

kept_setup : (o : Option Membership) (e : WorldEvent) (out : Outcome) (x : Membership) → o ≡ Some x → setup_after o e out ≡ Some x
kept_setup None e out x h = absurd (let f : None ≡ Some x = h in cc)
kept_setup (Some m) e out x h = h

scene_keeps_setup : (w : GroupWorld) (e : WorldEvent) (o : Outcome) (stop : Option ℕ) (scene : Scene) (x : Membership) → w.setup ≡ Some x → (after_scene w e o stop scene).setup ≡ Some x
scene_keeps_setup w e o stop Nowhere x h = h
scene_keeps_setup w e o stop (At n at_node) x h = kept_setup w.setup e o x h

pub setup_stays : (rs : List Recorded) (w end : GroupWorld) → Replays w rs end → (x : Membership) → w.setup ≡ Some x → end.setup ≡ Some x
setup_stays [] w end h x s = subst (λ (v : GroupWorld). v.setup ≡ Some x) (sym h) s
setup_stays (r ∷ rs) w end h x s =
    setup_stays rs (happens w r.event r.outcome h.1.0) end h.1.1 x
    (scene_keeps_setup w r.event r.outcome (stop_at (is_stop r.outcome) h.1.0) (scene_of w r.event) x s)

-- ---- what comes to a node may come

module _ (m : Membership) (b : BallotWorld) where
  -- a set-up is that of the group, or refused
  named : (n : ℕ) (s : GroupState) (x : Membership) (now : ℕ) → IsSetUp m x → MayCome m b n s (Call (Initialize x) now)
  named n s x now h = ⊎_elim (λ e. inl e) (λ none. inr (no_voters n s x now none)) h

  -- a set-up that isn't refused sets the group up, whether it stops or not
  module _ (n : ℕ) (s : GroupState) (x : Membership) (now : ℕ) where
    abbrev set_up_event : GroupEvent
    set_up_event = Call (Initialize x) now

    abbrev taken_set_up : StepResult
    taken_set_up = finished n s.committed (initialize_step n x (begun now s))

    abbrev set_up_by : Outcome → Option Membership
    set_up_by o = setup_after None (Ask n (Initialize x) now) o

    sets_up : (stopped : Bool) → set_up_by (outcome_of_step stopped s set_up_event taken_set_up) ≡ Some x
    sets_up true = ap (λ o. set_up_by (outcome_of_stop s set_up_event taken_set_up o)) (step_goes n s set_up_event).taken
    sets_up false = ap (λ o. set_up_by (outcome_of_end taken_set_up o)) (step_goes n s set_up_event).taken

    set_up_comes : (stopped : Bool) → ((y : Membership) → set_up_by (outcome_of_step stopped s set_up_event (group_step n s set_up_event)) ≡ Some y → IsSetUp m y) → MayCome m b n s set_up_event
    set_up_comes stopped noted = go (refusal_of n s set_up_event) refl
      where
        go : (o : Option RefusalReason) → refusal_of n s set_up_event ≡ o → MayCome m b n s set_up_event
        go (Some why) is = inr (why, is)
        go None is =
            let same : group_step n s set_up_event ≡ taken_set_up = ap (λ o. step_unless o n s set_up_event) is in
            named n s x now (noted x (ap (λ (q : StepResult). set_up_by (outcome_of_step stopped s set_up_event q)) same ∙ sets_up stopped))

  call_comes : (first : Option Membership) → ((y : Membership) → first ≡ Some y → IsSetUp m y) → (n : ℕ) (s : GroupState) (call : GroupCall) (now : ℕ) (stopped : Bool) → is_same_setup first (setup_in_call call) ≡ true → ((y : Membership) → setup_after first (Ask n call now) (outcome_of_step stopped s (Call call now) (group_step n s (Call call now))) ≡ Some y → IsSetUp m y) → MayCome m b n s (Call call now)
  call_comes None known n s (Initialize x) now stopped t noted = set_up_comes n s x now stopped noted
  call_comes (Some first) known n s (Initialize x) now stopped t noted = named n s x now (subst (IsSetUp m) (same_membership first x t) (known first refl))
  call_comes first known n s Elect now stopped t noted = inl tt
  call_comes first known n s (Propose command token) now stopped t noted = inl tt
  call_comes first known n s (ChangeMembership change token) now stopped t noted = inl tt
  call_comes first known n s Heartbeat now stopped t noted = inl tt
  call_comes first known n s (Lost peer) now stopped t noted = inl tt
  call_comes first known n s TriggerSnapshot now stopped t noted = inl tt
  call_comes first known n s (TriggerPurge place) now stopped t noted = inl tt

  pub call_happens : (first : Option Membership) → ((y : Membership) → first ≡ Some y → IsSetUp m y) → (n : ℕ) (x : NodeState) (call : GroupCall) (now : ℕ) (stopped : Bool) → is_same_setup first (setup_in_call call) ≡ true → ((y : Membership) → setup_after first (Ask n call now) (outcome_at n (Comes (Call call now)) stopped x) ≡ Some y → IsSetUp m y) → MayHappen m b n (Comes (Call call now)) x
  call_happens first known n Absent call now stopped t noted = tt
  call_happens first known n (Up s) call now stopped t noted = call_comes first known n s call now stopped t noted
  call_happens first known n (Down stored) call now stopped t noted = tt

  pub message_happens : (n : ℕ) (x : NodeState) (y : Message) (now : ℕ) → MessageFits m b y → MayHappen m b n (Comes (Receive y.sender y now)) x
  message_happens n Absent y now h = tt
  message_happens n (Up s) y now h = inl h
  message_happens n (Down stored) y now h = tt

  pub group_happens : (n : ℕ) (x : NodeState) → MayHappen m b n (Comes AddGroup) x
  group_happens n Absent = tt
  group_happens n (Up s) = inl tt
  group_happens n (Down stored) = tt

-- ---- each event of the world

module _ (m : Membership) (some : 0 < length m.configs) where
  -- a world that fits the ballot machine after some events
  pub record Matches (w : GroupWorld) : Type 0 where
    pub before : List BallotEvent
    pub fits : WorldFits m (world_after m before) w

  module _ (w : GroupWorld) (before : List BallotEvent) (fits : WorldFits m (world_after m before) w) where
    one_node : (n j : ℕ) (state : NodeState) (b : BallotWorld) → (j ≡ n → NodeStateFits m b j state) → ((j ≡ n → ⊥) → NodeStateFits m b j (w.nodes j)) → NodeStateFits m b j (with_node_state n state w.nodes j)
    one_node n j state b same other = go (j == n) refl
      where
        go : (t : Bool) → (j == n) ≡ t → NodeStateFits m b j (state_or t state (w.nodes j))
        go true e = same (eqb-true j n e)
        go false e = other (eqb-false j n e)

    at_matches : (e : WorldEvent) (n : ℕ) (at_node : NodeEvent) (stopped : Bool) (k : ℕ) → MayHappen m (world_after m before) n at_node (w.nodes n) → Matches (ended w e (outcome_at n at_node stopped (w.nodes n)) n (state_after n at_node (stop_at stopped k) (w.nodes n)))
    at_matches e n at_node stopped k may =
        let o = outcome_at n at_node stopped (w.nodes n) in
        let state = state_after n at_node (stop_at stopped k) (w.nodes n) in
        let end : NodeEnd m before n state (sent_in o) (led_after o n state) = node_event m some before n at_node stopped k (w.nodes n) (fits.nodes n) may in
        record {
          before = end.after;
          fits =
              record {
                nodes = λ j.
                    one_node n j state (world_after m end.after)
                    (λ same. subst (λ i. NodeStateFits m (world_after m end.after) i state) (sym same) end.fits)
                    (λ other. node_on end.extends j other m (w.nodes j) (fits.nodes j));
                messages = λ x a.
                    ⊎_elim
                    (λ old. message_on end.extends m x (fits.messages x old))
                    (λ new. end.messages x new)
                    (among_either x w.messages (sent_in o) a);
                led = λ l a.
                    ⊎_elim
                    (λ old. led_on end.later (fits.led l old))
                    (λ new. end.notes l new)
                    (among_either l w.led (led_after o n state) a);
              };
        }

    abbrev pub Noted : WorldEvent → Bool → Scene → Type 0
    Noted e stopped scene = SetUpWith m (after_scene w e (outcome_in w stopped scene) (stop_at stopped 0) scene)

    same_noted : (e : WorldEvent) (stopped : Bool) (k : ℕ) (scene : Scene) → SetUpWith m (after_scene w e (outcome_in w stopped scene) (stop_at stopped k) scene) → SetUpWith m (after_scene w e (outcome_in w stopped scene) (stop_at stopped 0) scene)
    same_noted e stopped k Nowhere h = h
    same_noted e stopped k (At n at_node) h = h

    -- what happens at a node may happen there
    abbrev pub MayTakePlace : Scene → Type 0
    MayTakePlace Nowhere = Unit {0}
    MayTakePlace (At n at_node) = MayHappen m (world_after m before) n at_node (w.nodes n)

    call_takes_place : (known : SetUpWith m w) (n : ℕ) (call : GroupCall) (now : ℕ) (stopped : Bool) (t : Bool) → is_same_setup w.setup (setup_in_call call) ≡ t → Noted (Ask n call now) stopped (scene_of_call t n call now) → MayTakePlace (scene_of_call t n call now)
    call_takes_place known n call now stopped true is noted =
        call_happens m (world_after m before) w.setup known n (w.nodes n) call now stopped is noted
    call_takes_place known n call now stopped false is noted = tt

    delivery_takes_place : (number now : ℕ) (o : Option Message) → slice_get w.messages number ≡ o → MayTakePlace (scene_of_delivery o now)
    delivery_takes_place number now None is = tt
    delivery_takes_place number now (Some x) is =
        message_happens m (world_after m before) x.addressee (w.nodes x.addressee) x now (fits.messages x (among_at w.messages number x is))

    event_takes_place : (known : SetUpWith m w) (e : WorldEvent) (stopped : Bool) → Noted e stopped (scene_of w e) → MayTakePlace (scene_of w e)
    event_takes_place known (Add n) stopped noted = group_happens m (world_after m before) n (w.nodes n)
    event_takes_place known (Ask n call now) stopped noted = call_takes_place known n call now stopped (is_same_setup w.setup (setup_in_call call)) refl noted
    event_takes_place known (Deliver number now) stopped noted = delivery_takes_place number now (slice_get w.messages number) refl
    event_takes_place known (Crash n) stopped noted = tt
    event_takes_place known (Halt n) stopped noted = tt
    event_takes_place known (Restart n) stopped noted = tt

    -- each event that has this outcome may take place
    pub may_take_place : (known : SetUpWith m w) (e : WorldEvent) (o : Outcome) (k : ℕ) → o ≡ outcome_of w e (is_stop o) → SetUpWith m (happens w e o k) → MayTakePlace (scene_of w e)
    may_take_place known e o k is noted =
        event_takes_place known e (is_stop o)
        (same_noted e (is_stop o) k (scene_of w e) (subst (λ v. SetUpWith m (after_scene w e v (stop_at (is_stop o) k) (scene_of w e))) is noted))

    scene_matches : (e : WorldEvent) (stopped : Bool) (k : ℕ) (scene : Scene) → MayTakePlace scene → Matches (after_scene w e (outcome_in w stopped scene) (stop_at stopped k) scene)
    scene_matches e stopped k Nowhere may = record { before = before; fits = fits }
    scene_matches e stopped k (At n at_node) may = at_matches e n at_node stopped k may

    pub happens_matches : (known : SetUpWith m w) (e : WorldEvent) (o : Outcome) (k : ℕ) → o ≡ outcome_of w e (is_stop o) → SetUpWith m (happens w e o k) → Matches (happens w e o k)
    happens_matches known e o k is noted =
        subst (λ v. Matches (after_scene w e v (stop_at (is_stop o) k) (scene_of w e))) (sym is)
        (scene_matches e (is_stop o) k (scene_of w e) (may_take_place known e o k is noted))

  pub run_matches : (rs : List Recorded) (w end : GroupWorld) → Matches w → Replays w rs end → SetUpWith m end → Matches end
  run_matches [] w end h run known = subst Matches (sym run) h
  run_matches (r ∷ rs) w end h run known =
      let next = happens w r.event r.outcome run.1.0 in
      let known' : SetUpWith m next = λ x e. known x (setup_stays rs next end run.1.1 x e) in
      let known_first : SetUpWith m w = λ x e. known x (setup_stays (r ∷ rs) w end run x e) in
      run_matches rs next end (happens_matches w h.before h.fits known_first r.event r.outcome run.1.0 run.0 known') run.1.1 known
