-- The messages and the set-up of a group's world are those that the cluster's history says.
use Rattle.std.specs.Prelude.{◌≡◌, ℕ, ◌==◌, if◌then◌else◌, Bool, true, false, List, [], ◌∷◌, ◌++◌, Option, Some, None, refl}
use Rattle.std.specs.Option.{option_or}
use Rattle.std.proofs.Common.{sym, ap, ◌∙◌, subst, append_assoc}
use Rattle.std.proofs.lemmas.List.{append-nil}
use Rattle.raft_group_step.specs.Values.{Membership}
use Rattle.raft_group_step.specs.Message.{Message}
use Rattle.raft_group_step.specs.GroupEvent.{GroupCall}
use Rattle.raft_laws.specs.declared.world_event.WorldEvent.{WorldEvent}
use Rattle.raft_laws.specs.declared.world_event.WorldEvent.TheVariants as event
use Rattle.raft_laws.specs.GroupWorld.{GroupWorld, NodeState, Absent, Up, Down, Outcome, Skipped, is_stop}
use Rattle.raft_laws.specs.GroupWorld.{Done as Ended, Refused as Declined, Stopped as Broken}
use Rattle.raft_laws.specs.NodeEvent.{Crashes, Halts, outcome_at}
use Rattle.raft_laws.specs.GroupRun.{Scene, Nowhere, At, after_scene, outcome_in, outcome_of, scene_of, sent_in, setup_after, setup_in, stop_at}
use Rattle.raft_machines.specs.Machine.{MachineRules}
use Rattle.raft_headline.specs.ClusterEvent.{ClusterEvent, AddGroup, Ask, Deliver, ResetPeer, Clean, Fuse, Crash, Reopen, Halt, ClusterOutcome, Done, Opened, Stopped, Fused, TurnedAway, Recorded, Said, is_stopped, is_turned_away}
use Rattle.raft_headline.specs.Machines.{Replicas}
use Rattle.raft_headline.specs.Replaying.{OwnStep, ReplaysWith, Says, StepsTo, is_opening}
use Rattle.raft_headline.specs.Seen.{Halted, Passed, own_or_aside, seen_by, seen_of, seen_unless}
use Rattle.raft_headline.specs.Told.{is_taken, said_at_opening, said_by, said_if}
use Rattle.raft_cluster_laws.specs.Along.{sent_by, setup_asked, setup_by, setup_if, world_seen}

-- ---- what an event leaves of a world

pub moved_messages : (w : GroupWorld) (e : WorldEvent) (stopped : Bool) (stop : Option ℕ) (scene : Scene) → (after_scene w e (outcome_in w stopped scene) stop scene).messages ≡ w.messages ++ sent_in (outcome_in w stopped scene)
moved_messages w e stopped stop Nowhere = sym (append-nil w.messages)
moved_messages w e stopped stop (At n x) = refl

skipped_setup : (first : Option Membership) (e : WorldEvent) → first ≡ setup_after first e Skipped
skipped_setup None e = refl
skipped_setup (Some m) e = refl

moved_setup : (w : GroupWorld) (e : WorldEvent) (stopped : Bool) (stop : Option ℕ) (scene : Scene) → (after_scene w e (outcome_in w stopped scene) stop scene).setup ≡ setup_after w.setup e (outcome_in w stopped scene)
moved_setup w e stopped stop Nowhere = skipped_setup w.setup e
moved_setup w e stopped stop (At n x) = refl

first_setup : (first : Option Membership) (e : WorldEvent) (what : Outcome) → setup_after first e what ≡ option_or first (setup_after None e what)
first_setup None e what = refl
first_setup (Some m) e what = refl

no_setup : (e : WorldEvent) (what : Outcome) → setup_in e ≡ None → setup_after None e what ≡ None
no_setup e (Ended sent told lost) none = none
no_setup e (Declined why) none = refl
no_setup e (Broken lost) none = none
no_setup e Skipped none = refl

pub or_none : (o : Option Membership) → option_or o None ≡ o
or_none None = refl
or_none (Some m) = refl

or_or : (a b c : Option Membership) → option_or (option_or a b) c ≡ option_or a (option_or b c)
or_or None b c = refl
or_or (Some m) b c = refl

pub halt_sends : (n : ℕ) (x : NodeState) → sent_in (outcome_at n Halts true x) ≡ []
halt_sends n Absent = refl
halt_sends n (Up s) = refl
halt_sends n (Down st) = refl

pub crash_sends : (n : ℕ) (x : NodeState) → sent_in (outcome_at n Crashes false x) ≡ []
crash_sends n Absent = refl
crash_sends n (Up s) = refl
crash_sends n (Down st) = refl

-- ---- what an outcome says

module _ (h : ℕ) where
  abbrev said_for : Bool → ClusterOutcome → Said
  said_for true o = said_at_opening h o
  said_for false o = said_if true o

  module _ (answers : ℕ → Option (List ℕ)) where
    says_sent : (b : Bool) (o : ClusterOutcome) (what : Outcome) → Says h b answers o what → sent_in what ≡ (said_for b o).sent
    says_sent true (Opened parts) (Ended sent told lost) e = sym e.sent
    says_sent true o (Ended sent told lost) e = absurd e
    says_sent false (Done said) (Ended sent told lost) e = sym e.sent
    says_sent false o (Ended sent told lost) e = absurd e
    says_sent true (Stopped names) (Broken lost) e = refl
    says_sent true Fused (Broken lost) e = refl
    says_sent true o (Broken lost) e = absurd e
    says_sent false (Stopped names) (Broken lost) e = refl
    says_sent false Fused (Broken lost) e = refl
    says_sent false o (Broken lost) e = absurd e
    says_sent true o (Declined why) e = sym (ap (λ x. (said_for true x).sent) e)
    says_sent false o (Declined why) e = sym (ap (λ x. (said_for false x).sent) e)
    says_sent true o Skipped e = sym (ap (λ x. (said_for true x).sent) e)
    says_sent false o Skipped e = sym (ap (λ x. (said_for false x).sent) e)

    says_setup : (o : ClusterOutcome) (what : Outcome) → Says h false answers o what → (n : ℕ) (call : GroupCall) (now : ℕ) → setup_after None (event.Ask n call now) what ≡ setup_if true (is_taken o) call
    says_setup (Done said) (Ended sent told lost) e n call now = refl
    says_setup o (Ended sent told lost) e n call now = absurd e
    says_setup (Stopped names) (Broken lost) e n call now = refl
    says_setup Fused (Broken lost) e n call now = refl
    says_setup o (Broken lost) e n call now = absurd e
    says_setup o (Declined why) e n call now = sym (ap (λ x. setup_if true (is_taken x) call) e)
    says_setup o Skipped e n call now = sym (ap (λ x. setup_if true (is_taken x) call) e)

  turned : (o : ClusterOutcome) → is_turned_away o ≡ true → o ≡ TurnedAway
  turned TurnedAway t = refl
  turned o t = absurd (let f : false ≡ true = t in cc)

  turned_said : (b : Bool) → (said_if b TurnedAway).sent ≡ []
  turned_said true = refl
  turned_said false = refl

  turned_setup : (b : Bool) (call : GroupCall) → setup_if b false call ≡ None
  turned_setup true call = refl
  turned_setup false call = refl

  turned_sent : (e : ClusterEvent) → (said_by h e TurnedAway).sent ≡ []
  turned_sent (AddGroup n g) = turned_said (g == h)
  turned_sent (Ask n g call now) = turned_said (g == h)
  turned_sent (Deliver g number now) = turned_said (g == h)
  turned_sent (ResetPeer n peer) = refl
  turned_sent (Clean n) = refl
  turned_sent (Fuse n) = refl
  turned_sent (Crash n) = refl
  turned_sent (Reopen n) = refl
  turned_sent (Halt n) = refl

  turned_asks : (e : ClusterEvent) → setup_asked h e TurnedAway ≡ None
  turned_asks (AddGroup n g) = refl
  turned_asks (Ask n g call now) = turned_setup (g == h) call
  turned_asks (Deliver g number now) = refl
  turned_asks (ResetPeer n peer) = refl
  turned_asks (Clean n) = refl
  turned_asks (Fuse n) = refl
  turned_asks (Crash n) = refl
  turned_asks (Reopen n) = refl
  turned_asks (Halt n) = refl

  -- ---- one event

  -- the messages and the set-up behind an event
  record Tracks (more : List Message) (asked : Option Membership) (old new : GroupWorld) : Type 0 where
    messages : new.messages ≡ old.messages ++ more
    setup : new.setup ≡ option_or old.setup asked

  stayed : (old new : Replicas) → new ≡ old → Tracks [] None old.world new.world
  stayed old new e = record {
    messages = ap (λ (g : Replicas). g.world.messages) e ∙ sym (append-nil old.world.messages);
    setup = ap (λ (g : Replicas). g.world.setup) e ∙ sym (or_none old.world.setup);
  }

  -- another group's event, or a crash
  quiet : (old : GroupWorld) (new : Replicas) (e : WorldEvent) (stopped : Bool) (k : Option ℕ) → setup_in e ≡ None → sent_in (outcome_of old e stopped) ≡ []
      → new.world ≡ after_scene old e (outcome_of old e stopped) k (scene_of old e) → Tracks [] None old new.world
  quiet old new e stopped k none silent_one is = record {
    messages =
        ap (λ (w : GroupWorld). w.messages) is
        ∙ moved_messages old e stopped k (scene_of old e)
        ∙ ap (λ ms. old.messages ++ ms) silent_one;
    setup =
        ap (λ (w : GroupWorld). w.setup) is
        ∙ moved_setup old e stopped k (scene_of old e)
        ∙ first_setup old.setup e (outcome_of old e stopped)
        ∙ ap (option_or old.setup) (no_setup e (outcome_of old e stopped) none);
  }

  module _ (rules : MachineRules) (r : Recorded) (number : ℕ) (old new : Replicas) where
    aside_tracks : (n : ℕ) (b : Bool) → StepsTo rules h (if b then Halted n else Passed) r number old new → Tracks [] None old.world new.world
    aside_tracks n true step =
        quiet old.world new (event.Halt n) true (stop_at (is_stop (outcome_of old.world (event.Halt n) true)) 0) refl (halt_sends n (old.world.nodes n)) step.world
    aside_tracks n false step = stayed old new step

    own_messages : (e : WorldEvent) (b : Bool) → is_opening e ≡ b → OwnStep rules h e r number old new → new.world.messages ≡ old.world.messages ++ (said_for b r.outcome).sent
    own_messages e b opening step =
        let what = outcome_of old.world e (is_stopped r.outcome) in
        ap (λ (w : GroupWorld). w.messages) step.world
        ∙ moved_messages old.world e (is_stopped r.outcome) (stop_at (is_stop what) number) (scene_of old.world e)
        ∙ ap (λ ms. old.world.messages ++ ms) (says_sent step.answers b r.outcome what (subst (λ c. Says h c step.answers r.outcome what) opening step.says))

    own_setup : (e : WorldEvent) → OwnStep rules h e r number old new → new.world.setup ≡ option_or old.world.setup (setup_after None e (outcome_of old.world e (is_stopped r.outcome)))
    own_setup e step =
        let what = outcome_of old.world e (is_stopped r.outcome) in
        ap (λ (w : GroupWorld). w.setup) step.world
        ∙ moved_setup old.world e (is_stopped r.outcome) (stop_at (is_stop what) number) (scene_of old.world e)
        ∙ first_setup old.world.setup e what

    -- an event that sets nothing up
    plain_tracks : (e : WorldEvent) (n : ℕ) (b : Bool) → is_opening e ≡ false → setup_in e ≡ None → StepsTo rules h (own_or_aside b e n r.outcome) r number old new → Tracks (said_if b r.outcome).sent None old.world new.world
    plain_tracks e n true opening none step = record {
      messages = own_messages e false opening step;
      setup = own_setup e step ∙ ap (option_or old.world.setup) (no_setup e _ none);
    }
    plain_tracks e n false opening none step = aside_tracks n (is_stopped r.outcome) step

    asked_tracks : (n : ℕ) (call : GroupCall) (now : ℕ) (b : Bool) → StepsTo rules h (own_or_aside b (event.Ask n call now) n r.outcome) r number old new
        → Tracks (said_if b r.outcome).sent (setup_if b (is_taken r.outcome) call) old.world new.world
    asked_tracks n call now true step = record {
      messages = own_messages (event.Ask n call now) false refl step;
      setup =
          own_setup (event.Ask n call now) step
          ∙ ap (option_or old.world.setup) (says_setup step.answers r.outcome (outcome_of old.world (event.Ask n call now) (is_stopped r.outcome)) step.says n call now);
    }
    asked_tracks n call now false step = aside_tracks n (is_stopped r.outcome) step

    opened_tracks : (n : ℕ) → OwnStep rules h (event.Restart n) r number old new → Tracks (said_at_opening h r.outcome).sent None old.world new.world
    opened_tracks n step = record {
      messages = own_messages (event.Restart n) true refl step;
      setup = own_setup (event.Restart n) step ∙ ap (option_or old.world.setup) (no_setup (event.Restart n) _ refl);
    }

    by_event : (e : ClusterEvent) → StepsTo rules h (seen_of h e r.node r.outcome) r number old new → Tracks (said_by h e r.outcome).sent (setup_asked h e r.outcome) old.world new.world
    by_event (AddGroup n g) step = plain_tracks (event.Add n) n (g == h) refl refl step
    by_event (Ask n g call now) step = asked_tracks n call now (g == h) step
    by_event (Deliver g num now) step = plain_tracks (event.Deliver num now) r.node (g == h) refl refl step
    by_event (ResetPeer n peer) step = aside_tracks n (is_stopped r.outcome) step
    by_event (Clean n) step = aside_tracks n (is_stopped r.outcome) step
    by_event (Fuse n) step = aside_tracks n (is_stopped r.outcome) step
    by_event (Crash n) step =
        quiet old.world new (event.Crash n) false (stop_at (is_stop (outcome_of old.world (event.Crash n) false)) 0) refl (crash_sends n (old.world.nodes n)) step.world
    by_event (Reopen n) step = opened_tracks n step
    by_event (Halt n) step = aside_tracks n (is_stopped r.outcome) step

    tracks : StepsTo rules h (seen_by h r) r number old new → Tracks (said_by h r.event r.outcome).sent (setup_asked h r.event r.outcome) old.world new.world
    tracks step = go (is_turned_away r.outcome) refl step
      where
        go : (b : Bool) → is_turned_away r.outcome ≡ b → StepsTo rules h (seen_unless b (seen_of h r.event r.node r.outcome)) r number old new
            → Tracks (said_by h r.event r.outcome).sent (setup_asked h r.event r.outcome) old.world new.world
        go true t same =
            let away = turned r.outcome t in
            let none : (said_by h r.event r.outcome).sent ≡ [] = ap (λ o. (said_by h r.event o).sent) away ∙ turned_sent r.event in
            let asks : setup_asked h r.event r.outcome ≡ None = ap (setup_asked h r.event) away ∙ turned_asks r.event in
            subst (λ ms. Tracks ms (setup_asked h r.event r.outcome) old.world new.world) (sym none)
            (subst (λ o. Tracks [] o old.world new.world) (sym asks) (stayed old new same))
        go false t own = by_event r.event own

  -- ---- a history

  module _ (rules : MachineRules) where
    pub said_along : (rs : List Recorded) (numbers : List ℕ) (old end : Replicas) → ReplaysWith rules h old rs numbers end
        → (end.world.messages ≡ old.world.messages ++ sent_by h rs) × (end.world.setup ≡ option_or old.world.setup (setup_by h rs))
    said_along [] numbers old end run = let t = stayed old end run.1 in (t.messages, t.setup)
    said_along (r ∷ rs) numbers old end run =
        let one = run.0 in
        let t = tracks rules r one.number old one.new one.step in
        let rest = said_along rs one.others one.new end run.1 in (
          rest.0
              ∙ ap (λ ms. ms ++ sent_by h rs) t.messages
              ∙ append_assoc old.world.messages (said_by h r.event r.outcome).sent (sent_by h rs),
          rest.1
              ∙ ap (λ o. option_or o (setup_by h rs)) t.setup
              ∙ or_or old.world.setup (setup_asked h r.event r.outcome) (setup_by h rs),
        )

-- where the next event happens goes by messages and set-up alone
pub same_scene : (w : GroupWorld) (e : WorldEvent) → scene_of w e ≡ scene_of (world_seen w.setup w.messages) e
same_scene w (event.Add n) = refl
same_scene w (event.Ask n call now) = refl
same_scene w (event.Deliver number now) = refl
same_scene w (event.Crash n) = refl
same_scene w (event.Halt n) = refl
same_scene w (event.Restart n) = refl
