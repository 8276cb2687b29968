-- A call that was taken, as a call of the group's own run.
use Rattle.std.specs.Prelude.{◌≡◌, ◌==◌, ℕ, Bool, true, false, List, slice_get, Option, Some, None, refl}
use Rattle.std.proofs.Common.{sym, ap, ◌∙◌, subst}
use Rattle.std.proofs.lemmas.Bool.{eq-eqb}
use Rattle.raft_group_step.specs.GroupState.{GroupState}
use Rattle.raft_group_step.specs.declared.group_call.GroupCall.TheVariants.{Initialize, Elect, Propose, ChangeMembership, Heartbeat, Lost, TriggerSnapshot, TriggerPurge}
use Rattle.raft_group_step.specs.GroupEvent.{Call, GroupCall, GroupEvent}
use Rattle.raft_group_step.specs.StepResult.{RefusalReason}
use Rattle.raft_group_step.specs.Refusal.{refusal_of}
use Rattle.raft_group_step.specs.GroupStep.{group_step}
use Rattle.raft_laws.specs.declared.world_event.WorldEvent.{WorldEvent}
use Rattle.raft_laws.specs.declared.world_event.WorldEvent.TheVariants as event
use Rattle.raft_laws.specs.GroupWorld.{GroupWorld, NodeState, Absent, Up, Down, Skipped, new_world}
use Rattle.raft_laws.specs.GroupWorld.{Refused as Declined}
use Rattle.raft_laws.specs.NodeEvent.{Comes, outcome_at, outcome_of_end, outcome_of_stop}
use Rattle.raft_laws.specs.GroupRun.{At, is_same_setup, outcome_in, scene_of, scene_of_call, setup_in_call, stop_at}
use Rattle.raft_laws.specs.Origins.{Events, world_before}
use Rattle.raft_laws.proofs.StepMoments.{refusals_told}
use Rattle.raft_laws.proofs.BallotAgreement.{same_some}
use Rattle.raft_history_laws.specs.NotedIds.{is_noted}
use Rattle.raft_machines.specs.Machine.{MachineRules}
use Rattle.raft_headline.specs.ClusterEvent.{Ask, ClusterOutcome, Done, Opened, Refused, Stopped, Fused, PassedOver, TurnedAway, Recorded, is_stopped, is_turned_away}
use Rattle.raft_headline.specs.Seen.{Passed, Own, own_or_aside, seen_by, seen_of, seen_unless}
use Rattle.raft_headline.specs.Machines.{Replicas, new_replicas}
use Rattle.raft_headline.specs.OwnEvents.{own_event, own_events, own_number}
use Rattle.raft_headline.specs.Replaying.{OwnStep, ReplaysWith, Says, StepsTo, is_opening}
use Rattle.raft_headline.specs.Told.{is_taken}
use Rattle.raft_headline.proofs.OwnRuns.{SeenAt, seen_is_own}
use Rattle.raft_history_laws.proofs.EndedOnce.{no_setup}
use Rattle.raft_headline.proofs.Same.{first_is}

-- ---- calls that set nothing up

-- nor does what is noted
pub noted_setup : (call : GroupCall) → is_noted call ≡ true → setup_in_call call ≡ None
noted_setup (Initialize membership) e = absurd (let f : false ≡ true = e in cc)
noted_setup Elect e = refl
noted_setup (Propose command t) e = refl
noted_setup (ChangeMembership change t) e = refl
noted_setup Heartbeat e = refl
noted_setup (Lost peer) e = refl
noted_setup TriggerSnapshot e = refl
noted_setup (TriggerPurge place) e = refl

pub same_setup : (w : GroupWorld) (call : GroupCall) → setup_in_call call ≡ None → is_same_setup w.setup (setup_in_call call) ≡ true
same_setup w call none = ap (is_same_setup w.setup) none ∙ no_setup w.setup

-- it comes to its node
pub comes_here : (w : GroupWorld) (n : ℕ) (call : GroupCall) (now : ℕ) → setup_in_call call ≡ None → scene_of w (event.Ask n call now) ≡ At n (Comes (Call call now))
comes_here w n call now none = ap (λ b. scene_of_call b n call now) (same_setup w call none)

-- ---- calls that were taken

-- what the group sees of a call that was taken
asked_seen : (h n : ℕ) (call : GroupCall) (now : ℕ) (r : Recorded) → r.event ≡ Ask n h call now → is_taken r.outcome ≡ true → seen_by h r ≡ Own (event.Ask n call now)
asked_seen h n call now r is t =
    ap (λ x. seen_unless (is_turned_away r.outcome) (seen_of h x r.node r.outcome)) is
    ∙ ap (λ b. seen_unless b (own_or_aside (h == h) (event.Ask n call now) n r.outcome)) (not_away r.outcome t)
    ∙ ap (λ b. own_or_aside b (event.Ask n call now) n r.outcome) (eq-eqb h h refl)
  where
    not_away : (o : ClusterOutcome) → is_taken o ≡ true → is_turned_away o ≡ false
    not_away (Done said) e = refl
    not_away (Opened parts) e = refl
    not_away (Refused why) e = refl
    not_away (Stopped unknown) e = refl
    not_away Fused e = refl
    not_away PassedOver e = refl
    not_away TurnedAway e = absurd (let f : false ≡ true = e in cc)

-- a call that was taken came to a node that was up, and wasn't refused
record TakenAt (n : ℕ) (ge : GroupEvent) (x : NodeState) : Type 0 where
  state : GroupState
  is_up : x ≡ Up state
  passed : refusal_of n state ge ≡ None

module _ (h : ℕ) (opening : Bool) (answers : ℕ → Option (List ℕ)) (o : ClusterOutcome) (taken : is_taken o ≡ true) where
  not_passed : {P : Type 0} → Says h opening answers o Skipped → P
  not_passed s = absurd (let f : false ≡ true = ap is_taken (sym s) ∙ taken in cc)

  not_refused : {P : Type 0} (why : RefusalReason) → Says h opening answers o (Declined why) → P
  not_refused why s = absurd (let f : false ≡ true = ap is_taken (sym s) ∙ taken in cc)

  up_taken : (n : ℕ) (ge : GroupEvent) (s : GroupState) (stopped : Bool) → Says h opening answers o (outcome_at n (Comes ge) stopped (Up s)) → (why : Option RefusalReason) → refusal_of n s ge ≡ why → TakenAt n ge (Up s)
  up_taken n ge s stopped says None passed = record { state = s; is_up = refl; passed = passed }
  up_taken n ge s true says (Some why) refused =
      not_refused why (subst (λ x. Says h opening answers o (outcome_of_stop s ge (group_step n s ge) x)) (refusals_told n s ge ∙ refused) says)
  up_taken n ge s false says (Some why) refused =
      not_refused why (subst (λ x. Says h opening answers o (outcome_of_end (group_step n s ge) x)) (refusals_told n s ge ∙ refused) says)

  node_taken : (n : ℕ) (ge : GroupEvent) (stopped : Bool) (x : NodeState) → Says h opening answers o (outcome_at n (Comes ge) stopped x) → TakenAt n ge x
  node_taken n ge stopped Absent says = not_passed says
  node_taken n ge stopped (Up s) says = up_taken n ge s stopped says (refusal_of n s ge) refl
  node_taken n ge stopped (Down st) says = not_passed says

-- ---- in the group's run

-- the event with this number in the group asks its node for the call: the node is up, the group is set up with no other
-- membership, and the call isn't refused
pub record CameTo (ids : List ℕ) (h : ℕ) (history : List Recorded) (numbers : List ℕ) (number n : ℕ) (call : GroupCall) (now : ℕ) : Type 0 where
  pub stop : Option ℕ
  pub state : GroupState
  pub event : slice_get (own_events h history numbers) number ≡ Some (event.Ask n call now, stop)
  pub is_up : (world_before (own_events h history numbers) number (new_world ids)).nodes n ≡ Up state
  pub set_up : is_same_setup (world_before (own_events h history numbers) number (new_world ids)).setup (setup_in_call call) ≡ true
  pub passed : refusal_of n state (Call call now) ≡ None

module _ (rules : MachineRules) (ids : List ℕ) (h : ℕ) (history : List Recorded) (end : Replicas) (numbers : List ℕ) (run : ReplaysWith rules h (new_replicas rules ids) history numbers end) where
  module _ (number : ℕ) (r : Recorded) (is : slice_get history number ≡ Some r) (n : ℕ) (call : GroupCall) (now : ℕ) (asks : r.event ≡ Ask n h call now) (none : setup_in_call call ≡ None) (taken : is_taken r.outcome ≡ true) where
    abbrev es : Events
    es = own_events h history numbers

    abbrev own : WorldEvent
    own = event.Ask n call now

    seen : seen_by h r ≡ Own own
    seen = asked_seen h n call now r asks taken

    it : SeenAt rules h history es (new_world ids) number (own_number h history number)
    it = seen_is_own rules h history numbers (new_replicas rules ids) end run number r is (λ passed. absurd (let f : Passed ≡ Own own = sym passed ∙ seen in cc))

    same_record : it.recorded ≡ r
    same_record = let f : Some it.recorded ≡ Some r = sym it.stands ∙ is in same_some f

    seen_there : seen_by h it.recorded ≡ Own own
    seen_there = ap (seen_by h) same_record ∙ seen

    step : OwnStep rules h own it.recorded it.k it.old it.new
    step = subst (λ y. StepsTo rules h y it.recorded it.k it.old it.new) seen_there it.step

    here : scene_of it.old.world own ≡ At n (Comes (Call call now))
    here = comes_here it.old.world n call now none

    at_node : TakenAt n (Call call now) (it.old.world.nodes n)
    at_node =
        node_taken h (is_opening own) step.answers it.recorded.outcome (ap (λ (y : Recorded). is_taken y.outcome) same_record ∙ taken) n (Call call now) (is_stopped it.recorded.outcome) (it.old.world.nodes n)
        (subst (λ scene. Says h (is_opening own) step.answers it.recorded.outcome (outcome_in it.old.world (is_stopped it.recorded.outcome) scene)) here step.says)

    abbrev stop : Option ℕ
    stop = stop_at (is_stopped it.recorded.outcome) it.k

    event_there : slice_get es (own_number h history number) ≡ Some (own, stop)
    event_there =
        it.there ∙ ap Some (first_is (own, stop) it.event (sym (ap (λ y. own_event y it.recorded.outcome it.k) seen_there) ∙ it.is_event))

    -- a call that was taken, and sets nothing up
    pub taken_came : CameTo ids h history numbers (own_number h history number) n call now
    taken_came = record {
      stop = stop;
      state = at_node.state;
      event = event_there;
      is_up = ap (λ (g : GroupWorld). g.nodes n) it.before ∙ at_node.is_up;
      set_up = same_setup (world_before es (own_number h history number) (new_world ids)) call none;
      passed = at_node.passed;
    }
