-- Where the entries of a group's world come from: what holds of each entry that a call writes, and of each blank one,
-- holds of each that a node has, that a message carries, and that a leader had.
use Rattle.std.specs.Prelude.{◌≡◌, ℕ, zero, suc, ◌<◌, ◌==◌, Bool, true, false, [], slice_get, Option, Some, None, is_some, unwrap_or, refl}
use Rattle.std.proofs.Common.{sym, ◌∙◌, subst, arith}
use Rattle.raft_values.specs.declared.log_id.LogId.{LogId}
use Rattle.raft_state.specs.declared.entry.EntryPayload.TheVariants.{Blank}
use Rattle.raft_group_step.specs.Values.{ChangeMembers, Entry, entry_of, LoggedMembership}
use Rattle.raft_group_step.specs.StoredGroup.{StoredGroup, held, membership_in_force}
use Rattle.raft_group_step.specs.Message.{Message}
use Rattle.raft_group_step.specs.GroupState.{GroupState, Role, Follower, Candidate, Leader, state_of}
use Rattle.raft_group_step.specs.declared.group_call.GroupCall.TheVariants.{Initialize, Elect, Propose, ChangeMembership, Heartbeat, Lost, TriggerSnapshot, TriggerPurge}
use Rattle.raft_group_step.specs.GroupEvent.{GroupCall, GroupEvent, AddGroup, Call, Receive, Open}
use Rattle.raft_group_step.specs.StepResult.{RefusalReason, StepResult, tokens_of}
use Rattle.raft_group_step.specs.Refusal.{refusal_of}
use Rattle.raft_group_step.specs.GroupStep.{group_step}
use Rattle.raft_laws.specs.declared.world_event.WorldEvent.{WorldEvent}
use Rattle.raft_laws.specs.declared.world_event.WorldEvent.TheVariants.{Add, Ask, Deliver, Crash, Halt, Restart}
use Rattle.raft_laws.specs.GroupWorld.{GroupWorld, NodeState, Absent, Up, Down, Led, Outcome, Done, Stopped, Skipped, is_stop, state_or}
use Rattle.raft_laws.specs.NodeEvent.{NodeEvent, Comes, Crashes, Halts, Restarts, after_step, outcome_at, outcome_of_end, outcome_of_step, outcome_of_stop, state_after}
use Rattle.raft_laws.specs.GroupRun.{Scene, At, after_scene, is_same_setup, led_after, led_as, outcome_in, ran, scene_of, scene_of_call, scene_of_delivery, sent_in, setup_in_call, stop_at}
use Rattle.raft_laws.specs.Origins.{changed_entry, entry_of_call}
use Rattle.raft_laws.proofs.StepMoments.{refusals_told}
use Rattle.raft_laws.proofs.StepEntries.{Each, each_append, each_at, BodyEach, BroughtEach, CallEach, ChangedEach, EntriesKept, StoredEach, entries_kept}

module _ (P : Entry → Type 0) (blank : (id : LogId ℕ) → P (entry_of id Blank)) where
  abbrev pub NodeEach : NodeState → Type 0
  NodeEach Absent = Unit {0}
  NodeEach (Up s) = StoredEach P s.stored
  NodeEach (Down stored) = StoredEach P stored

  abbrev SentEach : Message → Type 0
  SentEach x = BodyEach P x.body

  abbrev pub LedEach : Led → Type 0
  LedEach l = Each P l.list

  pub record EntriesFit (w : GroupWorld) : Type 0 where
    pub nodes : (n : ℕ) → NodeEach (w.nodes n)
    pub messages : Each SentEach w.messages
    pub led : Each LedEach w.led

  -- what an event leaves at its node, and what it adds to the world
  record NodeLeft (n : ℕ) (state : NodeState) (o : Outcome) : Type 0 where
    state_each : NodeEach state
    sent : Each SentEach (sent_in o)
    notes : Each LedEach (led_after o n state)

  -- nothing is added
  left : (n : ℕ) (state : NodeState) (o : Outcome) → sent_in o ≡ [] → led_after o n state ≡ [] → NodeEach state → NodeLeft n state o
  left n state o e f h =
      record { state_each = h; sent = subst (Each SentEach) (sym e) tt; notes = subst (Each LedEach) (sym f) tt }

  led_each : (n : ℕ) (s : GroupState) (role : Role) → Each P (held s.stored) → Each LedEach (led_as n s role)
  led_each n s Follower h = tt
  led_each n s (Candidate granters) h = tt
  led_each n s (Leader lead) h = (h, tt)

  end_left : (n : ℕ) (base : StoredGroup) (r : StepResult) (why : Option RefusalReason) → EntriesKept P blank base r → NodeLeft n (Up r.state) (outcome_of_end r why)
  end_left n base r None h =
      record { state_each = h.end.1; sent = h.messages; notes = led_each n r.state r.state.role h.end.0 }
  end_left n base r (Some why) h =
      record { state_each = h.end.1; sent = tt; notes = led_each n r.state r.state.role h.end.0 }

  -- a step that is to stop
  stop_left : (n : ℕ) (k : ℕ) (s : GroupState) (e : GroupEvent) (why : Option RefusalReason) → refusal_of n s e ≡ why → StoredEach P s.stored → (0 < k → refusal_of n s e ≡ None → BroughtEach P s.stored e) → NodeLeft n (after_step (stop_at (is_stop (outcome_of_stop s e (group_step n s e) why)) k) s (group_step n s e)) (outcome_of_stop s e (group_step n s e) why)
  stop_left n zero s e None is h brought = record { state_each = h; sent = tt; notes = tt }
  stop_left n (suc k) s e None is h brought =
      let kept = entries_kept P blank n s e h (brought (omega arith)) in
      record { state_each = kept.stops (suc k); sent = tt; notes = tt }
  stop_left n k s e (Some why) is h brought =
      end_left n s.stored (group_step n s e) (Some why)
      (entries_kept P blank n s e h (λ taken. absurd (let f : None ≡ Some why = sym taken ∙ is in cc)))

  -- a step, which may stop
  step_left : (n : ℕ) (stopped : Bool) (k : ℕ) (s : GroupState) (e : GroupEvent) → StoredEach P s.stored → ((stopped ≡ true → 0 < k) → refusal_of n s e ≡ None → BroughtEach P s.stored e) → NodeLeft n (after_step (stop_at (is_stop (outcome_of_step stopped s e (group_step n s e))) k) s (group_step n s e)) (outcome_of_step stopped s e (group_step n s e))
  step_left n true k s e h brought =
      let r = group_step n s e in
      subst (λ why. NodeLeft n (after_step (stop_at (is_stop (outcome_of_stop s e r why)) k) s r) (outcome_of_stop s e r why)) (sym (refusals_told n s e))
      (stop_left n k s e (refusal_of n s e) refl h (λ some. brought (λ t. some)))
  step_left n false k s e h brought =
      let r = group_step n s e in
      let kept = entries_kept P blank n s e h (λ taken. brought (λ t. absurd (let f : false ≡ true = t in cc)) taken) in
      go r.refused (end_left n s.stored r r.refused kept)
    where
      go : (why : Option RefusalReason) → NodeLeft n (Up (group_step n s e).state) (outcome_of_end (group_step n s e) why) → NodeLeft n (after_step (stop_at (is_stop (outcome_of_end (group_step n s e) why)) k) s (group_step n s e)) (outcome_of_end (group_step n s e) why)
      go None l = l
      go (Some why) l = l

  -- what an event brings to a node that is up
  abbrev BringsEach : ℕ → Bool → ℕ → NodeEvent → NodeState → Type 0
  BringsEach n stopped k (Comes e) (Up s) = (stopped ≡ true → 0 < k) → refusal_of n s e ≡ None → BroughtEach P s.stored e
  BringsEach n stopped k (Comes e) Absent = Unit {0}
  BringsEach n stopped k (Comes e) (Down stored) = Unit {0}
  BringsEach n stopped k Crashes x = Unit {0}
  BringsEach n stopped k Halts x = Unit {0}
  BringsEach n stopped k Restarts x = Unit {0}

  node_left : (n : ℕ) (e : NodeEvent) (stopped : Bool) (k : ℕ) (x : NodeState) → NodeEach x → BringsEach n stopped k e x → NodeLeft n (state_after n e (stop_at (is_stop (outcome_at n e stopped x)) k) x) (outcome_at n e stopped x)
  node_left n e stopped k Absent h brought = left n Absent Skipped refl refl tt
  node_left n (Comes e) stopped k (Up s) h brought = step_left n stopped k s e h brought
  node_left n Crashes stopped k (Up s) h brought = left n (Down s.stored) (Done [] [] []) refl refl h
  node_left n Halts stopped k (Up s) h brought = left n (Down s.stored) (Stopped (tokens_of s.untold)) refl refl h
  node_left n Restarts stopped k (Up s) h brought = left n (Up s) Skipped refl refl h
  node_left n (Comes e) stopped k (Down stored) h brought = left n (Down stored) Skipped refl refl h
  node_left n Crashes stopped k (Down stored) h brought = left n (Down stored) Skipped refl refl h
  node_left n Halts stopped k (Down stored) h brought = left n (Down stored) Skipped refl refl h
  node_left n Restarts stopped k (Down stored) h brought = step_left n stopped k (state_of stored) Open h (λ t taken. tt)

  -- ---- the world

  one_node : (w : GroupWorld) (n : ℕ) (state : NodeState) (j : ℕ) (same : Bool) → NodeEach state → NodeEach (w.nodes j) → NodeEach (state_or same state (w.nodes j))
  one_node w n state j true h k = h
  one_node w n state j false h k = k

  scene_each : (w : GroupWorld) (e : WorldEvent) (n : ℕ) (at_node : NodeEvent) (stopped : Bool) (k : ℕ) → EntriesFit w → BringsEach n stopped k at_node (w.nodes n) → EntriesFit (after_scene w e (outcome_in w stopped (At n at_node)) (stop_at (is_stop (outcome_in w stopped (At n at_node))) k) (At n at_node))
  scene_each w e n at_node stopped k h brought =
      let o = outcome_at n at_node stopped (w.nodes n) in
      let state = state_after n at_node (stop_at (is_stop o) k) (w.nodes n) in
      let l = node_left n at_node stopped k (w.nodes n) (h.nodes n) brought in
      record {
        nodes = λ j. one_node w n state j (j == n) l.state_each (h.nodes j);
        messages = each_append SentEach w.messages (sent_in o) h.messages l.sent;
        led = each_append LedEach w.led (led_after o n state) h.led l.notes;
      }

  changed_each : (st : StoredGroup) (o : Option LoggedMembership) (change : ChangeMembers) → ((e : Entry) → changed_entry st o change ≡ Some e → P e) → ChangedEach P st o change
  changed_each st None change f = tt
  changed_each st (Some x) change f = f _ refl

  -- the entry that a call writes
  call_each : (st : StoredGroup) (call : GroupCall) → ((e : Entry) → entry_of_call st call ≡ Some e → P e) → CallEach P st call
  call_each st (Initialize first) f = f _ refl
  call_each st Elect f = tt
  call_each st (Propose command token) f = f _ refl
  call_each st (ChangeMembership change token) f = changed_each st (membership_in_force st) change f
  call_each st Heartbeat f = tt
  call_each st (Lost peer) f = tt
  call_each st TriggerSnapshot f = tt
  call_each st (TriggerPurge place) f = tt

  -- each entry that a call of this event writes is so
  abbrev pub CallsWrite : GroupWorld → WorldEvent → Bool → ℕ → Type 0
  CallsWrite w event stopped k =
      (n : ℕ) (call : GroupCall) (now : ℕ) (s : GroupState) → event ≡ Ask n call now → w.nodes n ≡ Up s
      → is_same_setup w.setup (setup_in_call call) ≡ true → refusal_of n s (Call call now) ≡ None → (stopped ≡ true → 0 < k)
      → (e : Entry) → entry_of_call s.stored call ≡ Some e → P e

  call_brings : (n : ℕ) (stopped : Bool) (k : ℕ) (call : GroupCall) (now : ℕ) (x : NodeState) → ((s : GroupState) → x ≡ Up s → refusal_of n s (Call call now) ≡ None → (stopped ≡ true → 0 < k) → (e : Entry) → entry_of_call s.stored call ≡ Some e → P e) → BringsEach n stopped k (Comes (Call call now)) x
  call_brings n stopped k call now Absent f = tt
  call_brings n stopped k call now (Up s) f = λ t taken. call_each s.stored call (f s refl taken t)
  call_brings n stopped k call now (Down stored) f = tt

  message_brings : (n : ℕ) (stopped : Bool) (k : ℕ) (m : Message) (now : ℕ) (x : NodeState) → BodyEach P m.body → BringsEach n stopped k (Comes (Receive m.sender m now)) x
  message_brings n stopped k m now Absent h = tt
  message_brings n stopped k m now (Up s) h = λ t taken. h
  message_brings n stopped k m now (Down stored) h = tt

  group_brings : (n : ℕ) (stopped : Bool) (k : ℕ) (x : NodeState) → BringsEach n stopped k (Comes AddGroup) x
  group_brings n stopped k Absent = tt
  group_brings n stopped k (Up s) = λ t taken. tt
  group_brings n stopped k (Down stored) = tt

  module _ (w : GroupWorld) (stopped : Bool) (k : ℕ) (h : EntriesFit w) where
    abbrev After : WorldEvent → Scene → Type 0
    After e scene = EntriesFit (after_scene w e (outcome_in w stopped scene) (stop_at (is_stop (outcome_in w stopped scene)) k) scene)

    asked_each : (n : ℕ) (call : GroupCall) (now : ℕ) → CallsWrite w (Ask n call now) stopped k → (t : Bool) → is_same_setup w.setup (setup_in_call call) ≡ t → After (Ask n call now) (scene_of_call t n call now)
    asked_each n call now calls true is =
        scene_each w (Ask n call now) n (Comes (Call call now)) stopped k h
        (call_brings n stopped k call now (w.nodes n) (λ s up taken t. calls n call now s refl up is taken t))
    asked_each n call now calls false is = h

    delivered_each : (number now : ℕ) (o : Option Message) → slice_get w.messages number ≡ o → After (Deliver number now) (scene_of_delivery o now)
    delivered_each number now None is = h
    delivered_each number now (Some m) is =
        scene_each w (Deliver number now) m.addressee (Comes (Receive m.sender m now)) stopped k h
        (message_brings m.addressee stopped k m now (w.nodes m.addressee) (each_at SentEach w.messages number m h.messages is))

    event_each : (e : WorldEvent) → CallsWrite w e stopped k → After e (scene_of w e)
    event_each (Add n) calls = scene_each w (Add n) n (Comes AddGroup) stopped k h (group_brings n stopped k (w.nodes n))
    event_each (Ask n call now) calls = asked_each n call now calls (is_same_setup w.setup (setup_in_call call)) refl
    event_each (Deliver number now) calls = delivered_each number now (slice_get w.messages number) refl
    event_each (Crash n) calls = scene_each w (Crash n) n Crashes stopped k h tt
    event_each (Halt n) calls = scene_each w (Halt n) n Halts stopped k h tt
    event_each (Restart n) calls = scene_each w (Restart n) n Restarts stopped k h tt

  -- one event, which runs to its end or stops
  pub ran_each : (w : GroupWorld) (e : WorldEvent) (stop : Option ℕ) → EntriesFit w → CallsWrite w e (is_some stop) (unwrap_or stop 0) → EntriesFit (ran w e stop)
  ran_each w e stop h calls = event_each w (is_some stop) (unwrap_or stop 0) h e calls
