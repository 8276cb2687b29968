-- Once an event stopped a node, nothing comes of the group's events there until the node is opened.
use Rattle.std.specs.Prelude.{◌≡◌, ◌==◌, ◌&&◌, ℕ, suc, Bool, true, false, if◌then◌else◌, List, [], ◌∷◌, ◌++◌, Option, Some, None, slice_get, Contains, refl}
use Rattle.std.proofs.Common.{sym, ap, ◌∙◌, subst, arith, append_assoc, eqb-true}
use Rattle.std.proofs.lemmas.Bool.{eqb-false}
use Rattle.raft_group_step.specs.StoredGroup.{StoredGroup}
use Rattle.raft_group_step.specs.Message.{Message}
use Rattle.raft_group_step.specs.GroupState.{state_of}
use Rattle.raft_group_step.specs.GroupEvent.{AddGroup as AddsGroup, Call, GroupCall, GroupEvent, Open, Receive}
use Rattle.raft_group_step.specs.GroupStep.{group_step}
use Rattle.raft_laws.specs.declared.world_event.WorldEvent.{WorldEvent}
use Rattle.raft_laws.specs.declared.world_event.WorldEvent.TheVariants as event
use Rattle.raft_laws.specs.GroupWorld.{GroupWorld, NodeState, Absent, Up, Down, Outcome, Skipped, is_stop, state_or}
use Rattle.raft_laws.specs.GroupWorld.{Done as Ended, Refused as Declined, Stopped as Broken}
use Rattle.raft_laws.specs.NodeEvent.{NodeEvent, Comes, Crashes, Halts, Restarts, outcome_at, outcome_of_end, outcome_of_stop, state_after}
use Rattle.raft_laws.specs.GroupRun.{Scene, Nowhere, At, after_scene, is_same_setup, outcome_in, outcome_of, scene_of, scene_of_call, scene_of_delivery, setup_in_call, stop_at}
use Rattle.raft_laws.specs.Stop.{unknown_at_stop}
use Rattle.raft_laws.proofs.StepMoments.{refusals_told}
use Rattle.raft_machines.specs.Machine.{MachineRules}
use Rattle.raft_headline.specs.ClusterEvent.{ClusterEvent, AddGroup, Ask, Deliver, ResetPeer, Clean, Fuse, Crash, Reopen, Halt, ClusterOutcome, Done, Opened, Refused, Stopped, Fused, PassedOver, TurnedAway, Recorded, is_stopped, is_turned_away}
use Rattle.raft_headline.specs.Seen.{Seen, Passed, Halted, aside, own_or_aside, seen_by, seen_of, seen_unless}
use Rattle.raft_headline.specs.Machines.{Replicas}
use Rattle.raft_headline.specs.Replaying.{CrashStep, HaltStep, IsThere, SaysCrash, OwnStep, ReplaysFor, ReplaysWith, Says, SaysEnd, StepsTo, is_opening}
use Rattle.raft_headline.specs.Stops.{StopsStay, is_of_group, is_opened, is_passed, node_at, node_in, opens, opens_by}
use Rattle.raft_headline.proofs.Filtering.{stopped_stays}
use Rattle.raft_headline.proofs.Splitting.{split}

-- ---- a node that is down

abbrev IsDown : NodeState → Type 0
IsDown x = (st : StoredGroup) × (x ≡ Down st)

abbrev DownAt : GroupWorld → ℕ → Type 0
DownAt w n = IsDown (w.nodes n)

-- the node's state after an event at some node
after_here : (w : GroupWorld) (e : WorldEvent) (o : Outcome) (stop : Option ℕ) (m : ℕ) (at_node : NodeEvent) (n : ℕ) → (n ≡ m → IsDown (state_after m at_node stop (w.nodes m))) → ((n ≡ m → ⊥) → DownAt w n) → DownAt (after_scene w e o stop (At m at_node)) n
after_here w e o stop m at_node n here others = go (n == m) refl
  where
    go : (b : Bool) → (n == m) ≡ b → IsDown (state_or b (state_after m at_node stop (w.nodes m)) (w.nodes n))
    go true t = here (eqb-true n m t)
    go false t = others (eqb-false n m t)

-- what isn't an opening leaves it down
down_stays : (m : ℕ) (at_node : NodeEvent) (stop : Option ℕ) (x : NodeState) → (at_node ≡ Restarts → ⊥) → IsDown x → IsDown (state_after m at_node stop x)
down_stays m at_node stop Absent other d = absurd (let f : Absent ≡ Down d.0 = d.1 in cc)
down_stays m at_node stop (Up s) other d = absurd (let f : Up s ≡ Down d.0 = d.1 in cc)
down_stays m (Comes e) stop (Down st) other d = (st, refl)
down_stays m Crashes stop (Down st) other d = (st, refl)
down_stays m Halts stop (Down st) other d = (st, refl)
down_stays m Restarts stop (Down st) other d = absurd (other refl)

-- a stop leaves it down
stops_down : (m : ℕ) (at_node : NodeEvent) (stopped : Bool) (x : NodeState) (k : ℕ) (lost : List ℕ) → outcome_at m at_node stopped x ≡ Broken lost → IsDown (state_after m at_node (Some k) x)
stops_down m at_node stopped Absent k lost e = absurd (let f : Skipped ≡ Broken lost = e in cc)
stops_down m (Comes e) stopped (Up s) k lost is = (_, refl)
stops_down m Crashes stopped (Up s) k lost e = (s.stored, refl)
stops_down m Halts stopped (Up s) k lost e = (s.stored, refl)
stops_down m Restarts stopped (Up s) k lost e = absurd (let f : Skipped ≡ Broken lost = e in cc)
stops_down m (Comes e) stopped (Down st) k lost is = (st, refl)
stops_down m Crashes stopped (Down st) k lost e = (st, refl)
stops_down m Halts stopped (Down st) k lost e = (st, refl)
stops_down m Restarts stopped (Down st) k lost e = (_, refl)

-- nothing comes of what isn't an opening
down_skips : (m : ℕ) (e : GroupEvent) (stopped : Bool) (x : NodeState) → IsDown x → outcome_at m (Comes e) stopped x ≡ Skipped
down_skips m e stopped Absent d = refl
down_skips m e stopped (Up s) d = absurd (let f : Up s ≡ Down d.0 = d.1 in cc)
down_skips m e stopped (Down st) d = refl

-- an opening that doesn't stop ends, and one that is to stop stops
opening_end : (m : ℕ) (st : StoredGroup) → outcome_at m Restarts false (Down st) ≡ Ended (group_step m (state_of st) Open).messages (group_step m (state_of st) Open).told (group_step m (state_of st) Open).unknown
opening_end m st =
    ap (outcome_of_end (group_step m (state_of st) Open)) (refusals_told m (state_of st) Open)

opening_stop : (m : ℕ) (st : StoredGroup) → outcome_at m Restarts true (Down st) ≡ Broken (unknown_at_stop (state_of st) Open (group_step m (state_of st) Open))
opening_stop m st =
    ap (outcome_of_stop (state_of st) Open (group_step m (state_of st) Open)) (refusals_told m (state_of st) Open)

-- ---- scenes

scene_node : (b : Bool) (n m : ℕ) (call : GroupCall) (now : ℕ) (at_node : NodeEvent) → scene_of_call b n call now ≡ At m at_node → n ≡ m
scene_node true n m call now at_node e = let f : At n (Comes (Call call now)) ≡ At m at_node = e in cc
scene_node false n m call now at_node e = absurd (let f : Nowhere ≡ At m at_node = e in cc)

-- the scene is nowhere, or at the node with a call or a message
data Where (n : ℕ) (scene : Scene) : Type 0 where
  IsNowhere : scene ≡ Nowhere → Where n scene
  IsHere : (e : GroupEvent) → scene ≡ At n (Comes e) → Where n scene

call_where : (b : Bool) (n : ℕ) (call : GroupCall) (now : ℕ) → Where n (scene_of_call b n call now)
call_where true n call now = IsHere (Call call now) refl
call_where false n call now = IsNowhere refl

delivery_where : (o : Option Message) (now node : ℕ) → IsThere (scene_of_delivery o now) node → Where node (scene_of_delivery o now)
delivery_where None now node there = IsNowhere refl
delivery_where (Some m) now node there =
    IsHere (Receive m.sender m now) (ap (λ k. At k (Comes (Receive m.sender m now))) there)

module _ (rules : MachineRules) (h : ℕ) where
  -- ---- a stop

  -- an outcome that stopped is that of a step that stopped
  stopped_what : (op : Bool) (answers : ℕ → Option (List ℕ)) (o : ClusterOutcome) (what : Outcome) → is_stopped o ≡ true → Says h op answers o what → (lost : List ℕ) × (what ≡ Broken lost)
  stopped_what op answers o (Broken lost) t s = (lost, refl)
  stopped_what op answers (Done said) what t s = absurd (let f : false ≡ true = t in cc)
  stopped_what op answers (Opened parts) what t s = absurd (let f : false ≡ true = t in cc)
  stopped_what op answers (Refused why) what t s = absurd (let f : false ≡ true = t in cc)
  stopped_what op answers PassedOver what t s = absurd (let f : false ≡ true = t in cc)
  stopped_what op answers TurnedAway what t s = absurd (let f : false ≡ true = t in cc)
  stopped_what op answers (Stopped unknown) (Ended sent told lost) t s = absurd (no_end op s)
    where
      no_end : (op : Bool) → SaysEnd h op answers (Stopped unknown) sent told lost → ⊥
      no_end true s = s
      no_end false s = s
  stopped_what op answers (Stopped unknown) (Declined why) t s = absurd (let f : Stopped unknown ≡ Refused why = s in cc)
  stopped_what op answers (Stopped unknown) Skipped t s = absurd (let f : Stopped unknown ≡ PassedOver = s in cc)
  stopped_what op answers Fused (Ended sent told lost) t s = absurd (no_end op s)
    where
      no_end : (op : Bool) → SaysEnd h op answers Fused sent told lost → ⊥
      no_end true s = s
      no_end false s = s
  stopped_what op answers Fused (Declined why) t s = absurd (let f : Fused ≡ Refused why = s in cc)
  stopped_what op answers Fused Skipped t s = absurd (let f : Fused ≡ PassedOver = s in cc)

  scene_stops : (w : GroupWorld) (e : WorldEvent) (o : Outcome) (k : ℕ) (scene : Scene) (n : ℕ) (stopped : Bool) (lost : List ℕ) → outcome_in w stopped scene ≡ Broken lost → ((m : ℕ) (at_node : NodeEvent) → scene ≡ At m at_node → m ≡ n)
      → DownAt (after_scene w e o (Some k) scene) n
  scene_stops w e o k Nowhere n stopped lost is at = absurd (let f : Skipped ≡ Broken lost = is in cc)
  scene_stops w e o k (At m at_node) n stopped lost is at =
      after_here w e o (Some k) m at_node n (λ same. stops_down m at_node stopped (w.nodes m) k lost is) (λ other. absurd (other (sym (at m at_node refl))))

  own_stops : (e : WorldEvent) (r : Recorded) (k : ℕ) (old new : Replicas) (n : ℕ) → is_stopped r.outcome ≡ true → OwnStep rules h e r k old new → ((m : ℕ) (at_node : NodeEvent) → scene_of old.world e ≡ At m at_node → m ≡ n) → DownAt new.world n
  own_stops e r k old new n t step at =
      let what = outcome_of old.world e (is_stopped r.outcome) in
      let b = stopped_what (is_opening e) step.answers r.outcome what t step.says in
      subst (λ w. DownAt w n)
      (sym (step.world ∙ ap (λ c. after_scene old.world e what (stop_at c k) (scene_of old.world e)) (ap is_stop b.1)))
      (scene_stops old.world e what k (scene_of old.world e) n (is_stopped r.outcome) b.0 b.1 at)

  halt_stops : (n : ℕ) (o : ClusterOutcome) (old new : Replicas) → is_stopped o ≡ true → HaltStep rules h n o old new → DownAt new.world n
  halt_stops n o old new t step =
      let what = outcome_of old.world (event.Halt n) true in
      let b = stopped_what false (λ place. None) o what t step.says in
      subst (λ w. DownAt w n)
      (sym (step.world ∙ ap (λ c. after_scene old.world (event.Halt n) what (stop_at c 0) (At n Halts)) (ap is_stop b.1)))
      (scene_stops old.world (event.Halt n) what 0 (At n Halts) n true b.0 b.1 (λ m at_node e. let f : At n Halts ≡ At m at_node = e in let same : n ≡ m = cc in sym same))

  module _ (r : Recorded) (k : ℕ) (old new : Replicas) (t : is_stopped r.outcome ≡ true) where
    abbrev Steps : Seen → Type 0
    Steps seen = StepsTo rules h seen r k old new

    aside_stops : (n : ℕ) → Steps (aside n r.outcome) → DownAt new.world n
    aside_stops n s =
        halt_stops n r.outcome old new t (subst (λ b. Steps (if b then Halted n else Passed)) t s)

    own_or_stops : (b : Bool) (e : WorldEvent) (n : ℕ) → ((there : IsThere (scene_of old.world e) r.node) (m : ℕ) (at_node : NodeEvent) → scene_of old.world e ≡ At m at_node → m ≡ n) → Steps (own_or_aside b e n r.outcome) → DownAt new.world n
    own_or_stops true e n at s = own_stops e r k old new n t s (at s.there)
    own_or_stops false e n at s = aside_stops n s

    -- where it happens at a node, that is the event's
    there_at : (scene : Scene) → IsThere scene r.node → (m : ℕ) (at_node : NodeEvent) → scene ≡ At m at_node → m ≡ r.node
    there_at scene there m at_node e = subst (λ x. IsThere x r.node) e there

    event_stops : (e : ClusterEvent) → Steps (seen_of h e r.node r.outcome) → DownAt new.world (node_in e r.node)
    event_stops (AddGroup n g) s =
        own_or_stops (g == h) (event.Add n) n (λ there m at_node e. let f : At n (Comes AddsGroup) ≡ At m at_node = e in let same : n ≡ m = cc in sym same) s
    event_stops (Ask n g call now) s =
        own_or_stops (g == h) (event.Ask n call now) n
        (λ there m at_node e. sym (scene_node (is_same_setup (old.world).setup (setup_in_call call)) n m call now at_node e)) s
    event_stops (Deliver g number now) s =
        own_or_stops (g == h) (event.Deliver number now) r.node (λ there m at_node e. there_at (scene_of old.world (event.Deliver number now)) there m at_node e) s
    event_stops (ResetPeer n peer) s = aside_stops n s
    event_stops (Clean n) s = aside_stops n s
    event_stops (Fuse n) s = aside_stops n s
    event_stops (Crash n) s = absurd (no_crash r.outcome t (outcome_of old.world (event.Crash n) false) s.says)
      where
        no_crash : (o : ClusterOutcome) → is_stopped o ≡ true → (what : Outcome) → SaysCrash o what → ⊥
        no_crash (Done said) q what c = absurd (let f : false ≡ true = q in cc)
        no_crash (Opened parts) q what c = c
        no_crash (Refused why) q what c = c
        no_crash (Stopped unknown) q what c = c
        no_crash Fused q what c = c
        no_crash PassedOver q what c = absurd (let f : false ≡ true = q in cc)
        no_crash TurnedAway q what c = c
    event_stops (Reopen n) s =
        own_stops (event.Restart n) r k old new n t s (λ m at_node e. let f : At n Restarts ≡ At m at_node = e in let same : n ≡ m = cc in sym same)
    event_stops (Halt n) s = aside_stops n s

    -- its node is down
    pub stop_goes_down : Steps (seen_by h r) → DownAt new.world (node_at r)
    stop_goes_down s =
        event_stops r.event (subst (λ b. Steps (seen_unless b (seen_of h r.event r.node r.outcome))) (stopped_stays r.outcome t) s)

  -- ---- and stays so

  scene_stays : (w : GroupWorld) (e : WorldEvent) (o : Outcome) (stop : Option ℕ) (scene : Scene) (n : ℕ) → DownAt w n → ((m : ℕ) → scene ≡ At m Restarts → n ≡ m → IsDown (state_after m Restarts stop (w.nodes m))) → DownAt (after_scene w e o stop scene) n
  scene_stays w e o stop Nowhere n d opening = d
  scene_stays w e o stop (At m at_node) n d opening =
      after_here w e o stop m at_node n (λ same. at m at_node refl same (subst (DownAt w) same d)) (λ other. d)
    where
      at : (j : ℕ) (x : NodeEvent) → At m at_node ≡ At j x → n ≡ j → DownAt w j → IsDown (state_after j x stop (w.nodes j))
      at j (Comes c) is same dj = down_stays j (Comes c) stop (w.nodes j) (λ f. absurd (let g : Comes c ≡ Restarts = f in cc)) dj
      at j Crashes is same dj = down_stays j Crashes stop (w.nodes j) (λ f. absurd (let g : Crashes ≡ Restarts = f in cc)) dj
      at j Halts is same dj = down_stays j Halts stop (w.nodes j) (λ f. absurd (let g : Halts ≡ Restarts = f in cc)) dj
      at j Restarts is same dj = opening j is same

  -- an opening of the node that isn't one stops again
  restart_stays : (r : Recorded) (k : ℕ) (old new : Replicas) (m : ℕ) → is_opened r.outcome ≡ false → OwnStep rules h (event.Restart m) r k old new → DownAt old.world m → IsDown (state_after m Restarts (stop_at (is_stop (outcome_of old.world (event.Restart m) (is_stopped r.outcome))) k) (old.world.nodes m))
  restart_stays r k old new m closed step d = go (is_stopped r.outcome) refl
    where
      ended : (o : ClusterOutcome) → is_opened o ≡ false → (sent : _) (told : _) (lost : _) → SaysEnd h true step.answers o sent told lost → ⊥
      ended (Done said) q sent told lost s = s
      ended (Opened parts) q sent told lost s = absurd (let f : true ≡ false = q in cc)
      ended (Refused why) q sent told lost s = s
      ended (Stopped unknown) q sent told lost s = s
      ended Fused q sent told lost s = s
      ended PassedOver q sent told lost s = s
      ended TurnedAway q sent told lost s = s

      go : (b : Bool) → is_stopped r.outcome ≡ b → IsDown (state_after m Restarts (stop_at (is_stop (outcome_of old.world (event.Restart m) (is_stopped r.outcome))) k) (old.world.nodes m))
      go true t =
          let b = stopped_what true step.answers r.outcome _ t step.says in
          subst (λ c. IsDown (state_after m Restarts (stop_at c k) (old.world.nodes m))) (sym (ap is_stop b.1))
          (stops_down m Restarts (is_stopped r.outcome) (old.world.nodes m) k b.0 b.1)
      go false t =
          let is : outcome_of old.world (event.Restart m) (is_stopped r.outcome) ≡ Ended _ _ _ = ap (outcome_at m Restarts (is_stopped r.outcome)) d.1 ∙ ap (λ b. outcome_at m Restarts b (Down d.0)) t ∙ opening_end m d.0 in
          absurd (ended r.outcome closed _ _ _ (subst (λ what. Says h true step.answers r.outcome what) is step.says))

  module _ (r : Recorded) (k : ℕ) (old new : Replicas) (n : ℕ) (d : DownAt old.world n) where
    abbrev Goes : Seen → Type 0
    Goes seen = StepsTo rules h seen r k old new

    own_stays : (e : WorldEvent) → ((m : ℕ) → scene_of old.world e ≡ At m Restarts → n ≡ m → IsDown (state_after m Restarts (stop_at (is_stop (outcome_of old.world e (is_stopped r.outcome))) k) (old.world.nodes m))) → OwnStep rules h e r k old new → DownAt new.world n
    own_stays e opening step =
        subst (λ w. DownAt w n) (sym step.world)
        (scene_stays old.world e (outcome_of old.world e (is_stopped r.outcome)) (stop_at (is_stop (outcome_of old.world e (is_stopped r.outcome))) k) (scene_of old.world e) n d opening)

    halt_stays : (m : ℕ) → HaltStep rules h m r.outcome old new → DownAt new.world n
    halt_stays m step =
        let what = outcome_of old.world (event.Halt m) true in
        subst (λ w. DownAt w n) (sym step.world)
        (scene_stays old.world (event.Halt m) what (stop_at (is_stop what) 0) (At m Halts) n d (λ j e same. absurd (let f : At m Halts ≡ At j Restarts = e in cc)))

    crash_stays : (m : ℕ) → CrashStep rules h m r.outcome old new → DownAt new.world n
    crash_stays m step =
        let what = outcome_of old.world (event.Crash m) false in
        subst (λ w. DownAt w n) (sym step.world)
        (scene_stays old.world (event.Crash m) what (stop_at (is_stop what) 0) (At m Crashes) n d (λ j e same. absurd (let f : At m Crashes ≡ At j Restarts = e in cc)))

    aside_stays : (m : ℕ) (b : Bool) → Goes (if b then Halted m else Passed) → DownAt new.world n
    aside_stays m true s = halt_stays m s
    aside_stays m false s = subst (λ (x : Replicas). DownAt x.world n) (sym s) d

    -- a call or a message isn't an opening
    no_opening : (scene : Scene) (m : ℕ) → Where m scene → (j : ℕ) → scene ≡ At j Restarts → ⊥
    no_opening scene m (IsNowhere is) j e = absurd (let f : Nowhere ≡ At j Restarts = sym is ∙ e in cc)
    no_opening scene m (IsHere c is) j e = absurd (let f : At m (Comes c) ≡ At j Restarts = sym is ∙ e in cc)

    any_delivery : (o : Option Message) (now j : ℕ) → scene_of_delivery o now ≡ At j Restarts → ⊥
    any_delivery None now j e = absurd (let f : Nowhere ≡ At j Restarts = e in cc)
    any_delivery (Some m) now j e = absurd (let f : At m.addressee (Comes (Receive m.sender m now)) ≡ At j Restarts = e in cc)

    own_or_stays : (b : Bool) (e : WorldEvent) (m : ℕ) → ((j : ℕ) → scene_of old.world e ≡ At j Restarts → ⊥) → Goes (own_or_aside b e m r.outcome) → DownAt new.world n
    own_or_stays true e m none s = own_stays e (λ j is same. absurd (none j is)) s
    own_or_stays false e m none s = aside_stays m (is_stopped r.outcome) s

    reopen_stays : (m : ℕ) (b : Bool) → (m == n) ≡ b → (b && is_opened r.outcome) ≡ false → OwnStep rules h (event.Restart m) r k old new → DownAt new.world n
    reopen_stays m true t closed s =
        own_stays (event.Restart m)
        (λ j is same.
        let f : At m Restarts ≡ At j Restarts = is in
        let to : m ≡ j = cc in
        subst (λ i. IsDown (state_after i Restarts (stop_at (is_stop (outcome_of old.world (event.Restart m) (is_stopped r.outcome))) k) (old.world.nodes i))) to
        (restart_stays r k old new m closed s (subst (DownAt old.world) (sym (eqb-true m n t)) d)))
        s
    reopen_stays m false t closed s =
        own_stays (event.Restart m)
        (λ j is same.
        let f : At m Restarts ≡ At j Restarts = is in
        let to : m ≡ j = cc in
        absurd (eqb-false m n t (to ∙ sym same)))
        s

    event_stays : (e : ClusterEvent) → opens_by n e r.outcome ≡ false → Goes (seen_of h e r.node r.outcome) → DownAt new.world n
    event_stays (AddGroup m g) closed s = own_or_stays (g == h) (event.Add m) m (λ j e. absurd (let f : At m (Comes AddsGroup) ≡ At j Restarts = e in cc)) s
    event_stays (Ask m g call now) closed s =
        own_or_stays (g == h) (event.Ask m call now) m
        (no_opening (scene_of old.world (event.Ask m call now)) m (call_where (is_same_setup (old.world).setup (setup_in_call call)) m call now)) s
    event_stays (Deliver g number now) closed s =
        own_or_stays (g == h) (event.Deliver number now) r.node (any_delivery (slice_get (old.world).messages number) now) s
    event_stays (ResetPeer m peer) closed s = aside_stays m (is_stopped r.outcome) s
    event_stays (Clean m) closed s = aside_stays m (is_stopped r.outcome) s
    event_stays (Fuse m) closed s = aside_stays m (is_stopped r.outcome) s
    event_stays (Crash m) closed s = crash_stays m s
    event_stays (Reopen m) closed s = reopen_stays m (m == n) refl closed s
    event_stays (Halt m) closed s = aside_stays m (is_stopped r.outcome) s

    away_stays : (away : Bool) → opens n r ≡ false → Goes (seen_unless away (seen_of h r.event r.node r.outcome)) → DownAt new.world n
    away_stays true closed s = subst (λ (x : Replicas). DownAt x.world n) (sym s) d
    away_stays false closed s = event_stays r.event closed s

    pub step_stays : opens n r ≡ false → Goes (seen_by h r) → DownAt new.world n
    step_stays closed s = away_stays (is_turned_away r.outcome) closed s

    -- ---- nothing comes of the group's events there

    skipped_passes : (op : Bool) (answers : ℕ → Option (List ℕ)) (what : Outcome) → what ≡ Skipped → Says h op answers r.outcome what → is_passed r.outcome ≡ true
    skipped_passes op answers what is s =
        let passed : r.outcome ≡ PassedOver = subst (λ w. Says h op answers r.outcome w) is s in ap is_passed passed

    where_skips : (e : WorldEvent) (stopped : Bool) → Where n (scene_of old.world e) → outcome_of old.world e stopped ≡ Skipped
    where_skips e stopped (IsNowhere is) = ap (outcome_in old.world stopped) is
    where_skips e stopped (IsHere c is) = ap (outcome_in old.world stopped) is ∙ down_skips n c stopped (old.world.nodes n) d

    own_passes : (e : WorldEvent) → OwnStep rules h e r k old new → Where n (scene_of old.world e) → is_passed r.outcome ≡ true
    own_passes e step there =
        skipped_passes (is_opening e) step.answers (outcome_of old.world e (is_stopped r.outcome)) (where_skips e (is_stopped r.outcome) there) step.says

    group_passes : (b : Bool) (e : WorldEvent) (m : ℕ) → b ≡ true → (IsThere (scene_of old.world e) r.node → Where n (scene_of old.world e)) → Goes (own_or_aside b e m r.outcome) → is_passed r.outcome ≡ true
    group_passes true e m t there s = own_passes e s (there s.there)
    group_passes false e m t there s = absurd (let f : false ≡ true = t in cc)

    event_passes : (e : ClusterEvent) → node_in e r.node ≡ n → is_of_group h e ≡ true → Goes (seen_of h e r.node r.outcome) → is_passed r.outcome ≡ true
    event_passes (AddGroup m g) at t s = group_passes (g == h) (event.Add m) m t (λ there. IsHere AddsGroup (ap (λ j. At j (Comes AddsGroup)) at)) s
    event_passes (Ask m g call now) at t s =
        group_passes (g == h) (event.Ask m call now) m t
        (λ there. subst (λ j. Where j (scene_of old.world (event.Ask m call now))) at (call_where (is_same_setup (old.world).setup (setup_in_call call)) m call now)) s
    event_passes (Deliver g number now) at t s =
        group_passes (g == h) (event.Deliver number now) r.node t
        (λ there. subst (λ j. Where j (scene_of old.world (event.Deliver number now))) at (delivery_where (slice_get (old.world).messages number) now r.node there)) s
    event_passes (ResetPeer m peer) at t s = absurd (let f : false ≡ true = t in cc)
    event_passes (Clean m) at t s = absurd (let f : false ≡ true = t in cc)
    event_passes (Fuse m) at t s = absurd (let f : false ≡ true = t in cc)
    event_passes (Crash m) at t s = absurd (let f : false ≡ true = t in cc)
    event_passes (Reopen m) at t s = absurd (let f : false ≡ true = t in cc)
    event_passes (Halt m) at t s = absurd (let f : false ≡ true = t in cc)

    turned_away : (o : ClusterOutcome) → is_turned_away o ≡ true → is_passed o ≡ true
    turned_away (Done said) q = absurd (let f : false ≡ true = q in cc)
    turned_away (Opened parts) q = absurd (let f : false ≡ true = q in cc)
    turned_away (Refused why) q = absurd (let f : false ≡ true = q in cc)
    turned_away (Stopped unknown) q = absurd (let f : false ≡ true = q in cc)
    turned_away Fused q = absurd (let f : false ≡ true = q in cc)
    turned_away PassedOver q = refl
    turned_away TurnedAway q = refl

    away_passes : (away : Bool) → is_turned_away r.outcome ≡ away → node_at r ≡ n → is_of_group h r.event ≡ true → Goes (seen_unless away (seen_of h r.event r.node r.outcome)) → is_passed r.outcome ≡ true
    away_passes true is at t s = turned_away r.outcome is
    away_passes false is at t s = event_passes r.event at t s

    pub step_passes : node_at r ≡ n → is_of_group h r.event ≡ true → Goes (seen_by h r) → is_passed r.outcome ≡ true
    step_passes at t s = away_passes (is_turned_away r.outcome) refl at t s

  -- ---- histories

  all_stay : (n : ℕ) (rs : List Recorded) (numbers : List ℕ) (old end : Replicas) → ((y : Recorded) → Contains rs y → opens n y ≡ false) → ReplaysWith rules h old rs numbers end → DownAt old.world n → DownAt end.world n
  all_stay n [] numbers old end closed run d = subst (λ (x : Replicas). DownAt x.world n) (sym run.1) d
  all_stay n (r ∷ rs) numbers old end closed run d =
      all_stay n rs run.0.others run.0.new end (λ y has. closed y (suc has.0, omega (arith, has.1), has.2)) run.1
      (step_stays r run.0.number old run.0.new n d (closed r (0, omega arith, refl)) run.0.step)

  pub stops_stay : (old end : Replicas) (history : List Recorded) → ReplaysFor rules h old history end → StopsStay h history
  stops_stay old end history run before between after r x is t closed at of =
      let one = split rules h before (r ∷ between ++ x ∷ after) run.0 old end (subst (λ l. ReplaysWith rules h old l run.0 end) (is ∙ append_assoc before (r ∷ between) (x ∷ after)) run.1) in
      let stop = (one.after).1.0 in
      let two = split rules h between (x ∷ after) stop.others stop.new end (one.after).1.1 in
      let down = stop_goes_down r stop.number one.middle stop.new t stop.step in
      let still = all_stay (node_at r) between (two.before).0 stop.new two.middle closed (two.before).1 down in
      let next = (two.after).1.0 in
      step_passes x next.number two.middle next.new (node_at r) still at of next.step
