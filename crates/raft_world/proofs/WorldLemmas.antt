-- What an event leaves in the world.
use Rattle.std.specs.Prelude.{◌≡◌, ℕ, Bool, true, false, List, [], ◌++◌, length, map, slice_get, Option, Some, None, is_some, unwrap_or, Result, Ok, Err, Vec, slice_set as set, option_map, refl}
use Rattle.std.proofs.Common.{sym, ap, ◌∙◌, subst}
use Rattle.std.proofs.lemmas.List.{append-nil, map-append}
use Rattle.std.proofs.lemmas.Option.{slice_get-map}
use Rattle.std.specs.List.{slice_index_or as get_or}
use Rattle.std.specs.Vec.{with_item}
use Rattle.std.specs.declared.alloc.Global.{Global}
use Rattle.raft_group_step.specs.Message.{Message as Sent}
use Rattle.raft_group_step.specs.Values.{Membership}
use Rattle.raft_group_step.specs.StoredGroup.{StoredGroup}
use Rattle.raft_group_step.specs.GroupState.{GroupState, Untold, state_of}
use Rattle.raft_group_step.specs.GroupEvent.{GroupCall, GroupEvent, Call, Receive, Open}
use Rattle.raft_group_step.specs.GroupStep.{group_step}
use Rattle.raft_group_step.specs.Refusal.{refusal_of}
use Rattle.raft_group_step.specs.StepResult.{RefusalReason, tokens_of}
use Rattle.raft_conditions.specs.Reason.{reason_of}
use Rattle.raft_conditions.specs.declared.refusal.Refusal.{Refusal}
use Rattle.raft_messages.specs.Messages.{message_of}
use Rattle.raft_group_step.specs.StoredGroup.{Snapshot}
use Rattle.raft_messages.specs.declared.message.Message.{Message as SentMessage}
use Rattle.raft_laws.specs.declared.world_event.WorldEvent.{WorldEvent}
use Rattle.raft_laws.specs.declared.world_event.WorldEvent.TheVariants.{Add, Ask, Deliver, Crash, Halt, Restart}
use Rattle.raft_laws.specs.GroupWorld.{GroupWorld, NodeState, Absent, Up, Down, Outcome, Done, Refused, Stopped, Skipped, is_stop, with_node_state}
use Rattle.raft_laws.specs.GroupRun.{Scene, Nowhere, At, after_scene, ended, is_same_setup, led_after, led_by, outcome_in, outcome_of, ran, scene_of, scene_of_call, scene_of_delivery, sent_in, setup_after, setup_in, setup_in_call, stop_at}
use Rattle.raft_laws.specs.NodeEvent.{NodeEvent, Comes, Crashes, Halts, Restarts, after_step, outcome_at, outcome_of_end, outcome_of_step, outcome_of_stop, state_after}
use Rattle.raft_laws.specs.Stop.{stopped_after, unknown_at_stop}
use Rattle.raft_world.specs.Settled.{led_of}
use Rattle.raft_world.specs.Ending.{BreaksAt, EndsAt, HasConcluded, IsCut, IsEndOf, IsWorldBut, down_of, first_setup, set_up_with}
use Rattle.raft_world.specs.World.{AreNodes, GoesDown, HasBroken, HasCome, HasHappened, IsMarkOf, IsPlace, IsWorldOf, Stops, addressee_of, node_of}
use Rattle.raft_world.specs.Member.{IsAt}
use Rattle.raft_world.specs.Member.{Ended}
use Rattle.raft_member.specs.declared.member.Ended.TheVariants as end_of
use Rattle.raft_world.specs.declared.member.Member.{Member}
use Rattle.raft_world.specs.declared.world.World.{World}
use Rattle.raft_world.specs.declared.world.Mark.{Mark}
use Rattle.raft_world.specs.declared.world.Mark.TheVariants as mark
use Rattle.raft_group_step.proofs.Refusals.{refused_keeps}
use Rattle.raft_world.proofs.EndingLemmas.{stopped_as, told_as}
use Rattle.raft_laws.proofs.StepOrder.{stopped_at_end}
use Rattle.raft_world.proofs.PlaceLemmas.{nodes_left, nodes_same, nodes_with, still_placed}

-- ---- worlds after events

module _ (g : GroupWorld) (e : WorldEvent) (n : ℕ) (at_node : NodeEvent) (there : scene_of g e ≡ At n at_node) where
  abbrev outcome_there : Option ℕ → Outcome
  outcome_there stop = outcome_at n at_node (is_some stop) (g.nodes n)

  abbrev state_there : Option ℕ → NodeState
  state_there stop = state_after n at_node (stop_at (is_stop (outcome_there stop)) (unwrap_or stop 0)) (g.nodes n)

  pub ran_there : (stop : Option ℕ) → ended g e (outcome_there stop) n (state_there stop) ≡ ran g e stop
  ran_there stop =
      ap
      (λ (x : Scene). after_scene g e (outcome_in g (is_some stop) x) (stop_at (is_stop (outcome_in g (is_some stop) x)) (unwrap_or stop 0)) x)
      (sym there)

  pub became_there : (stopped : Bool) → outcome_of g e stopped ≡ outcome_at n at_node stopped (g.nodes n)
  became_there stopped = ap (outcome_in g stopped) there

  -- the world after the event, by its outcome and the node's state
  pub landed : (w : World) (stop : Option ℕ) (o : Outcome) (state : NodeState) → outcome_at n at_node (is_some stop) (g.nodes n) ≡ o
      → state_after n at_node (stop_at (is_stop o) (unwrap_or stop 0)) (g.nodes n) ≡ state → IsWorldOf w (ended g e o n state) → IsWorldOf w (ran g e stop)
  landed w stop o state is state_is h =
      subst (IsWorldOf w)
      (ap (ended g e o n) (sym state_is)
      ∙ ap (λ (x : Outcome). ended g e x n (state_after n at_node (stop_at (is_stop x) (unwrap_or stop 0)) (g.nodes n))) (sym is)
      ∙ ran_there stop)
      h

-- the set-up stays where the outcome is neither an end nor a stop
setup_refused : (known : Option Membership) (e : WorldEvent) (why : RefusalReason) → setup_after known e (Refused why) ≡ known
setup_refused None e why = refl
setup_refused (Some m) e why = refl

setup_skipped : (known : Option Membership) (e : WorldEvent) → setup_after known e Skipped ≡ known
setup_skipped None e = refl
setup_skipped (Some m) e = refl

setup_crashed : (known : Option Membership) (n : ℕ) → setup_after known (Crash n) (Done [] [] []) ≡ known
setup_crashed None n = refl
setup_crashed (Some m) n = refl

setup_halted : (known : Option Membership) (n : ℕ) (lost : List ℕ) → setup_after known (Halt n) (Stopped lost) ≡ known
setup_halted None n lost = refl
setup_halted (Some m) n lost = refl

same_setup : (o : Option Membership) → set_up_with o None ≡ o
same_setup None = refl
same_setup (Some m) = refl

pub setup_stopped : (known : Option Membership) (e : WorldEvent) (lost : List ℕ) → set_up_with (first_setup known e) known ≡ setup_after known e (Stopped lost)
setup_stopped None e lost = same_setup (setup_in e)
setup_stopped (Some m) e lost = refl

pub setup_done : (known : Option Membership) (e : WorldEvent) (sent : List Sent) (told : List Untold) (lost : List ℕ) → set_up_with (first_setup known e) known ≡ setup_after known e (Done sent told lost)
setup_done None e sent told lost = same_setup (setup_in e)
setup_done (Some m) e sent told lost = refl

-- an event that sends nothing and leaves no note
quiet : (w : World) (g : GroupWorld) (e : WorldEvent) (o : Outcome) (n : ℕ) (state : NodeState) → IsWorldBut w g n state → sent_in o ≡ [] → led_after o n state ≡ [] → setup_after g.setup e o ≡ g.setup
    → IsWorldOf w (ended g e o n state)
quiet w g e o n state h sends leads sets = record {
  nodes = h.nodes;
  messages = h.messages ∙ sym (append-nil g.messages) ∙ ap (λ l. g.messages ++ l) (sym sends);
  setup = h.setup ∙ sym sets;
  led = h.led ∙ sym (append-nil g.led) ∙ ap (λ l. g.led ++ l) (sym leads);
}

-- a node that stays as it is
pub but_same : (w : World) (g : GroupWorld) (n : ℕ) (state : NodeState) → IsWorldOf w g → g.nodes n ≡ state → IsWorldBut w g n state
but_same w g n state h same = record {
  nodes = nodes_same w.members.items g.nodes n state same h.nodes;
  messages = h.messages;
  setup = h.setup;
  led = h.led;
}

-- ---- events that are passed over

pub nowhere : (w : World) (g : GroupWorld) (e : WorldEvent) (stop : Option ℕ) → scene_of g e ≡ Nowhere → IsWorldOf w g → IsWorldOf w (ran g e stop)
nowhere w g e stop is h =
    subst (IsWorldOf w)
    (ap
    (λ (x : Scene). after_scene g e (outcome_in g (is_some stop) x) (stop_at (is_stop (outcome_in g (is_some stop) x)) (unwrap_or stop 0)) x)
    (sym is))
    h

pub passed_nowhere : (w : World) (g : GroupWorld) (e : WorldEvent) (stop : Option ℕ) → scene_of g e ≡ Nowhere → IsWorldOf w g → HasHappened g e stop w mark.Skipped
passed_nowhere w g e stop is h = record {
  world = nowhere w g e stop is h;
  marked = subst (IsMarkOf mark.Skipped) (ap (outcome_in g (is_some stop)) (sym is)) tt;
}

pub passed_absent : (w : World) (g : GroupWorld) (e : WorldEvent) (stop : Option ℕ) (n : ℕ) (at_node : NodeEvent) → scene_of g e ≡ At n at_node → g.nodes n ≡ Absent → IsWorldOf w g
    → HasHappened g e stop w mark.Skipped
passed_absent w g e stop n at_node there none h =
    let is : (b : Bool) → outcome_at n at_node b (g.nodes n) ≡ Skipped = λ b. ap (outcome_at n at_node b) none in
    record {
      world =
          landed g e n at_node there w stop Skipped Absent (is (is_some stop)) (ap (state_after n at_node None) none)
          (quiet w g e Skipped n Absent (but_same w g n Absent h none) refl refl (setup_skipped g.setup e));
      marked = subst (IsMarkOf mark.Skipped) (sym (became_there g e n at_node there (is_some stop) ∙ is (is_some stop))) tt;
    }

-- ---- crashes

crashed_at : (w : World) (g : GroupWorld) (n k : ℕ) (b : Bool) (state : NodeState) → IsWorldBut w g n (down_of state)
    → IsWorldOf w (ended g (Crash n) (outcome_at n Crashes b state) n (state_after n Crashes (stop_at (is_stop (outcome_at n Crashes b state)) k) state))
crashed_at w g n k b Absent h = quiet w g (Crash n) Skipped n Absent h refl refl (setup_skipped g.setup (Crash n))
crashed_at w g n k b (Up s) h = quiet w g (Crash n) (Done [] [] []) n (Down s.stored) h refl refl (setup_crashed g.setup n)
crashed_at w g n k b (Down st) h = quiet w g (Crash n) Skipped n (Down st) h refl refl (setup_skipped g.setup (Crash n))

pub crashed : (w : World) (g : GroupWorld) (n : ℕ) (stop : Option ℕ) → IsWorldBut w g n (down_of (g.nodes n)) → IsWorldOf w (ran g (Crash n) stop)
crashed w g n stop h = crashed_at w g n (unwrap_or stop 0) (is_some stop) (g.nodes n) h

halted_at : (w : World) (g : GroupWorld) (n k : ℕ) (b : Bool) (state : NodeState) → IsWorldBut w g n (down_of state)
    → IsWorldOf w (ended g (Halt n) (outcome_at n Halts b state) n (state_after n Halts (stop_at (is_stop (outcome_at n Halts b state)) k) state))
halted_at w g n k b Absent h = quiet w g (Halt n) Skipped n Absent h refl refl (setup_skipped g.setup (Halt n))
halted_at w g n k b (Up s) h =
    let lost = tokens_of s.untold in quiet w g (Halt n) (Stopped lost) n (Down s.stored) h refl refl (setup_halted g.setup n lost)
halted_at w g n k b (Down st) h = quiet w g (Halt n) Skipped n (Down st) h refl refl (setup_skipped g.setup (Halt n))

-- another group's event stopped the node
pub halted : (w : World) (g : GroupWorld) (n : ℕ) (stop : Option ℕ) → IsWorldBut w g n (down_of (g.nodes n)) → IsWorldOf w (ran g (Halt n) stop)
halted w g n stop h = halted_at w g n (unwrap_or stop 0) (is_some stop) (g.nodes n) h

-- the node went down before the event
pub goes_down : (w : World) (g : GroupWorld) (e : WorldEvent) (n : ℕ) → node_of g e ≡ Some n → IsWorldBut w g n (down_of (g.nodes n)) → HasBroken g e w
goes_down w g e n is h = record { break = GoesDown n is; world = crashed w g n None h }

-- ---- the node of a scene

node_of_call : (b : Bool) (n m : ℕ) (call : GroupCall) (now : ℕ) (at_node : NodeEvent) → scene_of_call b m call now ≡ At n at_node → m ≡ n
node_of_call true n m call now at_node is = cc is
node_of_call false n m call now at_node is = absurd (let no : Nowhere ≡ At n at_node = is in cc)

node_of_delivery : (o : Option Sent) (n now : ℕ) (at_node : NodeEvent) → scene_of_delivery o now ≡ At n at_node → addressee_of o ≡ Some n
node_of_delivery None n now at_node is = absurd (let no : Nowhere ≡ At n at_node = is in cc)
node_of_delivery (Some m) n now at_node is = ap Some (cc is)

pub node_of_scene : (g : GroupWorld) (e : WorldEvent) (n : ℕ) (at_node : NodeEvent) → scene_of g e ≡ At n at_node → node_of g e ≡ Some n
node_of_scene g (Add m) n at_node is = ap Some (cc is)
node_of_scene g (Ask m call now) n at_node is = ap Some (node_of_call (is_same_setup g.setup (setup_in_call call)) n m call now at_node is)
node_of_scene g (Deliver number now) n at_node is = node_of_delivery (slice_get g.messages number) n now at_node is
node_of_scene g (Crash m) n at_node is = ap Some (cc is)
node_of_scene g (Halt m) n at_node is = ap Some (cc is)
node_of_scene g (Restart m) n at_node is = ap Some (cc is)

-- ---- events that broke off

-- one that stopped at its member
pub breaks : (w : World) (g : GroupWorld) (e : WorldEvent) (n : ℕ) (at_node : NodeEvent) (number : ℕ) (lost : List ℕ) (state : NodeState) → scene_of g e ≡ At n at_node
    → outcome_at n at_node true (g.nodes n) ≡ Stopped lost → state_after n at_node (Some number) (g.nodes n) ≡ state → IsWorldOf w (ended g e (Stopped lost) n state) → HasBroken g e w
breaks w g e n at_node number lost state there is state_is h = record {
  break = Stops number;
  world = landed g e n at_node there w (Some number) (Stopped lost) state is state_is h;
}

-- it broke off at the member, and the world knows of the set-up
pub broke_there : (w : World) (m : Member) (g : GroupWorld) (e : WorldEvent) (n : ℕ) (at_node : NodeEvent) (setup : Option Membership) → scene_of g e ≡ At n at_node → (b : BreaksAt n at_node (g.nodes n) m)
    → IsWorldBut w g n (state_after n at_node (Some b.number) (g.nodes n)) → setup ≡ first_setup g.setup e → HasBroken g e (record w { setup = set_up_with setup w.setup })
broke_there w m g e n at_node setup there b h is =
    breaks (record w { setup = set_up_with setup w.setup }) g e n at_node b.number b.unknown (state_after n at_node (Some b.number) (g.nodes n)) there b.outcome refl
    (record {
      nodes = h.nodes;
      messages = h.messages ∙ sym (append-nil g.messages);
      setup = ap (λ o. set_up_with o w.setup) is ∙ ap (set_up_with (first_setup g.setup e)) h.setup ∙ setup_stopped g.setup e b.unknown;
      led = h.led ∙ sym (append-nil g.led);
    })

-- ---- events that were concluded

module _ (w : World) (g : GroupWorld) (e : WorldEvent) (n : ℕ) (o : Outcome) (state : NodeState) (h : IsWorldBut w g n state) where
  -- nothing came of it
  pub concluded_skipped : o ≡ Skipped → IsWorldOf w (ended g e o n state) × IsMarkOf mark.Skipped o
  concluded_skipped is = (
    subst (λ (x : Outcome). IsWorldOf w (ended g e x n state)) (sym is) (quiet w g e Skipped n state h refl refl (setup_skipped g.setup e)),
    subst (IsMarkOf mark.Skipped) (sym is) tt,
  )

  pub concluded_stopped : (new : World) (setup : Option Membership) (lost : List ℕ) → o ≡ Stopped lost → setup ≡ first_setup g.setup e → new ≡ record w { setup = set_up_with setup w.setup }
      → IsWorldOf new (ended g e o n state) × IsMarkOf mark.Stopped o
  concluded_stopped new setup lost is first made = (
    subst (λ (x : World). IsWorldOf x (ended g e o n state)) (sym made)
        (subst (λ (x : Outcome). IsWorldOf (record w { setup = set_up_with setup w.setup }) (ended g e x n state)) (sym is)
        (record {
          nodes = h.nodes;
          messages = h.messages ∙ sym (append-nil g.messages);
          setup = ap (λ k. set_up_with k w.setup) first ∙ ap (set_up_with (first_setup g.setup e)) h.setup ∙ setup_stopped g.setup e lost;
          led = h.led ∙ sym (append-nil g.led);
        })),
    subst (IsMarkOf mark.Stopped) (sym is) tt,
  )

  -- the refusal is noted
  pub concluded_refused : (new : World) (refusal : Refusal ℕ) → o ≡ Refused (reason_of refusal) → new.members ≡ w.members → new.messages ≡ w.messages → new.setup ≡ w.setup
      → map led_of new.led.items ≡ map led_of w.led.items ++ led_by n state → IsWorldOf new (ended g e o n state) × IsMarkOf (mark.Refused refusal) o
  concluded_refused new refusal is members messages setup led = (
    subst (λ (x : Outcome). IsWorldOf new (ended g e x n state)) (sym is)
        (record {
          nodes = subst (λ (v : Vec Member Global). AreNodes v.items (with_node_state n state g.nodes)) (sym members) h.nodes;
          messages = ap (λ (v : Vec (SentMessage Snapshot) Global). map message_of v.items) messages ∙ h.messages ∙ sym (append-nil g.messages);
          setup = setup ∙ h.setup ∙ sym (setup_refused g.setup e (reason_of refusal));
          led = led ∙ ap (λ l. l ++ led_by n state) h.led;
        }),
    subst (IsMarkOf (mark.Refused refusal)) (sym is) refl,
  )

  -- it is not
  pub but_kept : (new : World) → new.members ≡ w.members → new.messages.items ≡ w.messages.items → new.setup ≡ w.setup → new.led.items ≡ w.led.items → IsWorldBut new g n state
  but_kept new members messages setup led = record {
    nodes = subst (λ (v : Vec Member Global). AreNodes v.items (with_node_state n state g.nodes)) (sym members) h.nodes;
    messages = ap (map message_of) messages ∙ h.messages;
    setup = setup ∙ h.setup;
    led = ap (map led_of) led ∙ h.led;
  }

  pub cut_refused : (new : World) (why : RefusalReason) → o ≡ Refused why → IsWorldBut new g n (down_of state) → IsCut new g e n state o
  cut_refused new why is cut = subst (IsCut new g e n state) (sym is) cut

  pub concluded_done : (new : World) (setup : Option Membership) (sent : Vec (SentMessage Snapshot) Global) → IsEndOf (end_of.Done sent) o → setup ≡ first_setup g.setup e
      → new.members ≡ w.members → new.setup ≡ set_up_with setup w.setup → new.messages.items ≡ w.messages.items ++ sent.items → map led_of new.led.items ≡ map led_of w.led.items ++ led_by n state
      → IsWorldOf new (ended g e o n state) × IsMarkOf mark.Done o
  concluded_done new setup sent is first members sets messages led = (
    subst (λ (x : Outcome). IsWorldOf new (ended g e x n state)) (sym is.2)
        (record {
          nodes = subst (λ (v : Vec Member Global). AreNodes v.items (with_node_state n state g.nodes)) (sym members) h.nodes;
          messages = ap (map message_of) messages ∙ map-append message_of w.messages.items sent.items ∙ ap (λ l. l ++ map message_of sent.items) h.messages;
          setup = sets ∙ ap (λ k. set_up_with k w.setup) first ∙ ap (set_up_with (first_setup g.setup e)) h.setup ∙ setup_done g.setup e (map message_of sent.items) is.0 is.1;
          led = led ∙ ap (λ l. l ++ led_by n state) h.led;
        }),
    subst (IsMarkOf mark.Done) (sym is.2) tt,
  )

  -- it is done, and the node goes down before it sends: it stopped after all that it stores
  pub cut_done : (new : World) (setup : Option Membership) (sent : Vec (SentMessage Snapshot) Global) → IsEndOf (end_of.Done sent) o → setup ≡ first_setup g.setup e
      → IsWorldBut new (record g { setup = set_up_with setup g.setup }) n (down_of state) → IsCut new g e n state o
  cut_done new setup sent is first cut =
      subst (IsCut new g e n state) (sym is.2)
      (λ lost. record {
        nodes = cut.nodes;
        messages = cut.messages ∙ sym (append-nil g.messages);
        setup = cut.setup ∙ ap (λ k. set_up_with k g.setup) first ∙ setup_stopped g.setup e lost;
        led = cut.led ∙ sym (append-nil g.led);
      })

  -- the world but for the node, once the set-up is known
  pub but_set_up : (new : World) (setup : Option Membership) → new ≡ record w { setup = set_up_with setup w.setup } → IsWorldBut new (record g { setup = set_up_with setup g.setup }) n state
  but_set_up new setup made =
      subst (λ (x : World). IsWorldBut x (record g { setup = set_up_with setup g.setup }) n state) (sym made)
      (record { nodes = h.nodes; messages = h.messages; setup = ap (set_up_with setup) h.setup; led = h.led })

-- ---- from the end at a member to the event

-- an event that a node may stop in
abbrev pub MayStop : NodeEvent → Type 0
MayStop (Comes e) = Unit {0}
MayStop Crashes = ⊥
MayStop Halts = ⊥
MayStop Restarts = Unit {0}

module _ (w : World) (g : GroupWorld) (e : WorldEvent) (n : ℕ) (at_node : NodeEvent) (there : scene_of g e ≡ At n at_node) where
  cut_by_reason : (s : GroupState) (event : GroupEvent) (why : Option RefusalReason) → refusal_of n s event ≡ why → ((b : ℕ) → state_after n at_node (Some b) (g.nodes n) ≡ Down (stopped_after b s.stored (group_step n s event)))
      → outcome_at n at_node true (g.nodes n) ≡ outcome_of_stop s event (group_step n s event) why → down_of (g.nodes n) ≡ Down s.stored
      → IsCut w g e n (after_step (stop_at (is_stop (outcome_of_end (group_step n s event) why)) 0) s (group_step n s event)) (outcome_of_end (group_step n s event) why) → HasBroken g e w
  cut_by_reason s event None is state_is outcome_is down cut =
      let r = group_step n s event in
      breaks w g e n at_node (length r.commands) (unknown_at_stop s event r) (Down r.state.stored) there outcome_is
      (state_is (length r.commands) ∙ ap (λ (k : StoredGroup). Down k) (sym (stopped_at_end n s event)))
      (cut (unknown_at_stop s event r))
  cut_by_reason s event (Some why) is state_is outcome_is down cut =
      goes_down w g e n (node_of_scene g e n at_node there)
      (subst (IsWorldBut w g n) (ap (λ (x : GroupState). Down x.stored) (refused_keeps n s event why is) ∙ sym down) cut)

  cut_by_step : (s : GroupState) (event : GroupEvent) → ((b : ℕ) → state_after n at_node (Some b) (g.nodes n) ≡ Down (stopped_after b s.stored (group_step n s event)))
      → outcome_at n at_node true (g.nodes n) ≡ outcome_of_step true s event (group_step n s event) → down_of (g.nodes n) ≡ Down s.stored
      → IsCut w g e n (after_step (stop_at (is_stop (outcome_of_end (group_step n s event) (group_step n s event).refused)) 0) s (group_step n s event)) (outcome_of_end (group_step n s event) (group_step n s event).refused)
      → HasBroken g e w
  cut_by_step s event state_is outcome_is down cut =
      cut_by_reason s event (refusal_of n s event) refl state_is (outcome_is ∙ stopped_as n s event (refusal_of n s event) refl) down
      (subst (λ (o : Outcome). IsCut w g e n (after_step (stop_at (is_stop o) 0) s (group_step n s event)) o) (told_as n s event (refusal_of n s event) refl) cut)

  -- one that was to stop had stopped, or it was refused
  cut_refused_stop : (k : ℕ) (s : GroupState) (event : GroupEvent) (why : Option RefusalReason) → refusal_of n s event ≡ why → down_of (g.nodes n) ≡ Down s.stored
      → IsCut w g e n (after_step (stop_at (is_stop (outcome_of_stop s event (group_step n s event) why)) k) s (group_step n s event)) (outcome_of_stop s event (group_step n s event) why)
      → HasBroken g e w
  cut_refused_stop k s event None is down cut = absurd cut
  cut_refused_stop k s event (Some why) is down cut =
      goes_down w g e n (node_of_scene g e n at_node there)
      (subst (IsWorldBut w g n) (ap (λ (x : GroupState). Down x.stored) (refused_keeps n s event why is) ∙ sym down) cut)

  cut_by_stop : (k : ℕ) (s : GroupState) (event : GroupEvent) → down_of (g.nodes n) ≡ Down s.stored
      → IsCut w g e n (after_step (stop_at (is_stop (outcome_of_step true s event (group_step n s event))) k) s (group_step n s event)) (outcome_of_step true s event (group_step n s event))
      → HasBroken g e w
  cut_by_stop k s event down cut =
      cut_refused_stop k s event (refusal_of n s event) refl down
      (subst (λ (o : Outcome). IsCut w g e n (after_step (stop_at (is_stop o) k) s (group_step n s event)) o) (stopped_as n s event (refusal_of n s event) refl) cut)

module _ (w : World) (g : GroupWorld) (e : WorldEvent) (n : ℕ) where
  cut_at : (at_node : NodeEvent) (stop : Option ℕ) (state : NodeState) → scene_of g e ≡ At n at_node → MayStop at_node → g.nodes n ≡ state
      → IsCut w g e n (state_after n at_node (stop_at (is_stop (outcome_at n at_node (is_some stop) state)) (unwrap_or stop 0)) state) (outcome_at n at_node (is_some stop) state) → HasBroken g e w
  cut_at Crashes stop state there may is cut = absurd may
  cut_at Halts stop state there may is cut = absurd may
  cut_at (Comes event) stop Absent there may is cut = absurd cut
  cut_at (Comes event) stop (Down st) there may is cut = absurd cut
  cut_at (Comes event) (Some k) (Up s) there may is cut =
      cut_by_stop w g e n (Comes event) there k s event (ap down_of is) cut
  cut_at (Comes event) None (Up s) there may is cut =
      cut_by_step w g e n (Comes event) there s event (λ b. ap (state_after n (Comes event) (Some b)) is) (ap (outcome_at n (Comes event) true) is) (ap down_of is) cut
  cut_at Restarts stop Absent there may is cut = absurd cut
  cut_at Restarts stop (Up s) there may is cut = absurd cut
  cut_at Restarts (Some k) (Down st) there may is cut =
      cut_by_stop w g e n Restarts there k (state_of st) Open (ap down_of is) cut
  cut_at Restarts None (Down st) there may is cut =
      cut_by_step w g e n Restarts there (state_of st) Open (λ b. ap (state_after n Restarts (Some b)) is) (ap (outcome_at n Restarts true) is) (ap down_of is) cut

  -- what was concluded is what the event leaves
  pub concluded : {E : Type 0} (at_node : NodeEvent) (stop : Option ℕ) (r : Result Mark E) → scene_of g e ≡ At n at_node → MayStop at_node
      → HasConcluded g e n (state_after n at_node (stop_at (is_stop (outcome_at n at_node (is_some stop) (g.nodes n))) (unwrap_or stop 0)) (g.nodes n)) (outcome_at n at_node (is_some stop) (g.nodes n)) w r
      → HasCome g e stop w r
  concluded at_node stop (Ok made) there may h = record {
    world = subst (IsWorldOf w) (ran_there g e n at_node there stop) h.0;
    marked = subst (IsMarkOf made) (sym (became_there g e n at_node there (is_some stop))) h.1;
  }
  concluded at_node stop (Err met) there may h = cut_at at_node stop (g.nodes n) there may refl h

-- ---- the whole way of an event

pub none_first : (known : Option Membership) (e : WorldEvent) → setup_in e ≡ None → None ≡ first_setup known e
none_first None e is = sym is
none_first (Some m) e is = refl

module _ (w : World) (g : GroupWorld) (e : WorldEvent) (n place : ℕ) (h : IsWorldOf w g) (at_place : IsPlace w.members.items n place) where
  -- the world with the member that the event left
  pub but_came : (new : Member) (state : NodeState) → new.replica.id ≡ n → IsAt new state → IsWorldBut (record w { members = with_item w.members place new }) g n state
  but_came new state same at = record {
    nodes = nodes_with w.members.items g.nodes n place new state at_place h.nodes same at;
    messages = h.messages;
    setup = h.setup;
    led = h.led;
  }

  -- the event ended at its member, and was concluded
  pub came : {E : Type 0} (last : World) (at_node : NodeEvent) (stop : Option ℕ) (new : Member) (end : Ended) (setup : Option Membership) (r : Result Mark E) → scene_of g e ≡ At n at_node → MayStop at_node → new.replica.id ≡ n
      → EndsAt n at_node stop (g.nodes n) new end → setup ≡ first_setup g.setup e
      → ((x : GroupWorld) (event : WorldEvent) (k : ℕ) (o : Outcome) (state : NodeState) → IsPlace (set w.members.items place new) k place → IsWorldBut (record w { members = with_item w.members place new }) x k state
      → setup ≡ first_setup x.setup event → IsEndOf end o → HasConcluded x event k state o last r)
      → HasCome g e stop last r
  came last at_node stop new end setup r there may same ends first done =
      concluded last g e n at_node stop r there may
      (done g e n (outcome_at n at_node (is_some stop) (g.nodes n))
      (state_after n at_node (stop_at (is_stop (outcome_at n at_node (is_some stop) (g.nodes n))) (unwrap_or stop 0)) (g.nodes n))
      (still_placed w.members.items n place new same at_place)
      (but_came new (state_after n at_node (stop_at (is_stop (outcome_at n at_node (is_some stop) (g.nodes n))) (unwrap_or stop 0)) (g.nodes n)) same ends.after)
      first ends.outcome)

  -- the event ended at its member, which stayed as it was
  pub but_stayed : (m : Member) (state : NodeState) → m ≡ get_or w.members.items place m → IsAt m state → IsWorldBut w g n state
  but_stayed m state there at = record {
    nodes = nodes_left w.members.items g.nodes n place m state at_place h.nodes there at;
    messages = h.messages;
    setup = h.setup;
    led = h.led;
  }

  -- the event broke off at its member
  pub broke : (at_node : NodeEvent) (new : Member) (setup : Option Membership) → scene_of g e ≡ At n at_node → new.replica.id ≡ n → BreaksAt n at_node (g.nodes n) new → setup ≡ first_setup g.setup e
      → HasBroken g e (record w { members = with_item w.members place new; setup = set_up_with setup w.setup })
  broke at_node new setup there same b first =
      broke_there (record w { members = with_item w.members place new }) new g e n at_node setup there b
      (but_came new (state_after n at_node (Some b.number) (g.nodes n)) same b.after) first

  -- its member met want of memory before it was begun
  pub went_down_there : (at_node : NodeEvent) (new : Member) → scene_of g e ≡ At n at_node → new.replica.id ≡ n → IsAt new (down_of (g.nodes n)) → HasBroken g e (record w { members = with_item w.members place new })
  went_down_there at_node new there same at =
      goes_down (record w { members = with_item w.members place new }) g e n (node_of_scene g e n at_node there) (but_came new (down_of (g.nodes n)) same at)

  -- its node went down before it
  pub went_down : (last : World) → node_of g e ≡ Some n → ((x : GroupWorld) (k : ℕ) (state : NodeState) → IsPlace w.members.items k place → IsWorldBut w x k state → IsWorldBut last x k (down_of state)) → HasBroken g e last
  went_down last is down = goes_down last g e n is (down g n (g.nodes n) at_place (but_same w g n (g.nodes n) h refl))

-- ---- marks of crashes

pub crash_done : (last : World) (g : GroupWorld) (n : ℕ) (stop : Option ℕ) (m : Member) → IsAt m (g.nodes n) → is_some m.replica.engine ≡ true → IsWorldBut last g n (down_of (g.nodes n)) → HasHappened g (Crash n) stop last mark.Done
crash_done last g n stop m at up down = record {
  world = crashed last g n stop down;
  marked = marked_done (g.nodes n) (is_some stop) at;
}
  where
    marked_done : (state : NodeState) (b : Bool) → IsAt m state → IsMarkOf mark.Done (outcome_at n Crashes b state)
    marked_done Absent b here = absurd here
    marked_done (Up s) b here = tt
    marked_done (Down st) b here = absurd (let no : false ≡ true = sym (ap is_some here.no_engine) ∙ up in cc)

pub crash_skipped : (w : World) (g : GroupWorld) (n : ℕ) (stop : Option ℕ) (m : Member) → IsAt m (g.nodes n) → is_some m.replica.engine ≡ false → IsWorldOf w g → HasHappened g (Crash n) stop w mark.Skipped
crash_skipped w g n stop m at down h = record {
  world = crashed w g n stop (but_same w g n (down_of (g.nodes n)) h (stays (g.nodes n) at));
  marked = marked_skipped (g.nodes n) (is_some stop) at;
}
  where
    stays : (state : NodeState) → IsAt m state → state ≡ down_of state
    stays Absent here = absurd here
    stays (Up s) here = absurd (let no : true ≡ false = sym (ap is_some here.has_engine) ∙ down in cc)
    stays (Down st) here = refl

    marked_skipped : (state : NodeState) (b : Bool) → IsAt m state → IsMarkOf mark.Skipped (outcome_at n Crashes b state)
    marked_skipped Absent b here = tt
    marked_skipped (Up s) b here = absurd (let no : true ≡ false = sym (ap is_some here.has_engine) ∙ down in cc)
    marked_skipped (Down st) b here = tt

-- ---- marks of halts

pub halt_done : (last : World) (g : GroupWorld) (n : ℕ) (stop : Option ℕ) (m : Member) → IsAt m (g.nodes n) → is_some m.replica.engine ≡ true → IsWorldBut last g n (down_of (g.nodes n)) → HasHappened g (Halt n) stop last mark.Stopped
halt_done last g n stop m at up down = record {
  world = halted last g n stop down;
  marked = marked_stopped (g.nodes n) (is_some stop) at;
}
  where
    marked_stopped : (state : NodeState) (b : Bool) → IsAt m state → IsMarkOf mark.Stopped (outcome_at n Halts b state)
    marked_stopped Absent b here = absurd here
    marked_stopped (Up s) b here = tt
    marked_stopped (Down st) b here = absurd (let no : false ≡ true = sym (ap is_some here.no_engine) ∙ up in cc)

pub halt_skipped : (w : World) (g : GroupWorld) (n : ℕ) (stop : Option ℕ) (m : Member) → IsAt m (g.nodes n) → is_some m.replica.engine ≡ false → IsWorldOf w g → HasHappened g (Halt n) stop w mark.Skipped
halt_skipped w g n stop m at down h = record {
  world = halted w g n stop (but_same w g n (down_of (g.nodes n)) h (stays (g.nodes n) at));
  marked = marked_skipped (g.nodes n) (is_some stop) at;
}
  where
    stays : (state : NodeState) → IsAt m state → state ≡ down_of state
    stays Absent here = absurd here
    stays (Up s) here = absurd (let no : true ≡ false = sym (ap is_some here.has_engine) ∙ down in cc)
    stays (Down st) here = refl

    marked_skipped : (state : NodeState) (b : Bool) → IsAt m state → IsMarkOf mark.Skipped (outcome_at n Halts b state)
    marked_skipped Absent b here = tt
    marked_skipped (Up s) b here = absurd (let no : true ≡ false = sym (ap is_some here.has_engine) ∙ down in cc)
    marked_skipped (Down st) b here = tt

-- ---- nodes that go down before an event

-- there is no node that the event comes to
nowhere_of : (g : GroupWorld) (e : WorldEvent) → node_of g e ≡ None → scene_of g e ≡ Nowhere
nowhere_of g (Add m) is = absurd (let no : Some m ≡ None = is in cc)
nowhere_of g (Ask m call now) is = absurd (let no : Some m ≡ None = is in cc)
nowhere_of g (Deliver number now) is = undelivered (slice_get g.messages number) is
  where
    undelivered : (o : Option Sent) → addressee_of o ≡ None → scene_of_delivery o now ≡ Nowhere
    undelivered None is = refl
    undelivered (Some m) is = absurd (let no : Some m.addressee ≡ None = is in cc)
nowhere_of g (Crash m) is = absurd (let no : Some m ≡ None = is in cc)
nowhere_of g (Halt m) is = absurd (let no : Some m ≡ None = is in cc)
nowhere_of g (Restart m) is = absurd (let no : Some m ≡ None = is in cc)

pub broke_nowhere : (w : World) (g : GroupWorld) (e : WorldEvent) → node_of g e ≡ None → IsWorldOf w g → HasBroken g e w
broke_nowhere w g e is h = record { break = Stops 0; world = nowhere w g e (Some 0) (nowhere_of g e is) h }

pub broke_crashed : (w : World) (g : GroupWorld) (e : WorldEvent) (n : ℕ) (made : Mark) → node_of g e ≡ Some n → HasHappened g (Crash n) None w made → HasBroken g e w
broke_crashed w g e n made is h = record { break = GoesDown n is; world = h.world }

-- ---- scenes

pub scene_asked : (g : GroupWorld) (w : World) (b : Bool) (n : ℕ) (call : GroupCall) (now : ℕ) → IsWorldOf w g → b ≡ is_same_setup w.setup (setup_in_call call) → b ≡ true → scene_of g (Ask n call now) ≡ At n (Comes (Call call now))
scene_asked g w b n call now h is same =
    ap (λ x. scene_of_call x n call now) (ap (λ o. is_same_setup o (setup_in_call call)) (sym h.setup) ∙ sym is ∙ same)

pub scene_refused : (g : GroupWorld) (w : World) (b : Bool) (n : ℕ) (call : GroupCall) (now : ℕ) → IsWorldOf w g → b ≡ is_same_setup w.setup (setup_in_call call) → b ≡ false → scene_of g (Ask n call now) ≡ Nowhere
scene_refused g w b n call now h is other =
    ap (λ x. scene_of_call x n call now) (ap (λ o. is_same_setup o (setup_in_call call)) (sym h.setup) ∙ sym is ∙ other)

pub scene_delivered : (g : GroupWorld) (w : World) (number now : ℕ) (m : SentMessage Snapshot) → IsWorldOf w g → slice_get w.messages.items number ≡ Some m
    → scene_of g (Deliver number now) ≡ At m.addressee (Comes (Receive m.sender (message_of m) now))
scene_delivered g w number now m h is =
    ap (λ o. scene_of_delivery o now)
    (ap (λ l. slice_get l number) (sym h.messages) ∙ slice_get-map message_of w.messages.items number ∙ ap (option_map message_of) is)

pub scene_lost : (g : GroupWorld) (w : World) (number now : ℕ) → IsWorldOf w g → slice_get w.messages.items number ≡ None → scene_of g (Deliver number now) ≡ Nowhere
scene_lost g w number now h is =
    ap (λ o. scene_of_delivery o now)
    (ap (λ l. slice_get l number) (sym h.messages) ∙ slice_get-map message_of w.messages.items number ∙ ap (option_map message_of) is)

pub known_first : (known other : Option Membership) (e : WorldEvent) (o : Option Membership) → known ≡ other → o ≡ first_setup known e → o ≡ first_setup other e
known_first known other e o same is = is ∙ ap (λ k. first_setup k e) same
