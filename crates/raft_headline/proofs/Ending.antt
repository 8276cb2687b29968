-- Each token is told once, or unknown once, or lost once, or waits at a leader.
use Rattle.std.specs.Prelude.{◌≡◌, ◌==◌, ℕ, zero, suc, Bool, true, false, if◌then◌else◌, List, [], ◌∷◌, slice_get, Option, Some, None, is_some, option_map, Contains, refl}
use Rattle.std.proofs.Common.{inl, inr, sym, ap, ◌∙◌, subst, ⊎_elim}
use Rattle.std.proofs.lemmas.Option.{slice_get-map}
use Rattle.raft_group_step.specs.StoredGroup.{end_place}
use Rattle.raft_group_step.specs.Message.{Message}
use Rattle.raft_group_step.specs.GroupState.{Untold, is_leader}
use Rattle.raft_group_step.specs.GroupEvent.{Call, GroupCall, GroupEvent}
use Rattle.raft_laws.specs.declared.world_event.WorldEvent.{WorldEvent}
use Rattle.raft_laws.specs.declared.world_event.WorldEvent.TheVariants as event
use Rattle.raft_laws.specs.GroupWorld.{GroupWorld, NodeState, Absent, Up, Down, Outcome, Skipped, new_world}
use Rattle.raft_laws.specs.GroupWorld.{Done as Ended, Refused as Declined, Stopped as Broken}
use Rattle.raft_laws.specs.NodeEvent.{NodeEvent, Comes, Crashes, Halts, Restarts}
use Rattle.raft_laws.specs.GroupRun.{Nowhere, At, is_same_setup, outcome_of, scene_of, scene_of_call, scene_of_delivery, setup_in_call, stop_at}
use Rattle.raft_laws.specs.OneList.{AreNodeIds}
use Rattle.raft_laws.specs.Origins.{Events, world_before}
use Rattle.raft_laws.specs.Stop.{token_of_call}
use Rattle.raft_laws.proofs.Counts.{at_contains, contains_at}
use Rattle.raft_laws.proofs.BallotAgreement.{same_some}
use Rattle.raft_history_laws.specs.TokenEnds.{EndsAt, IsBrought, Names, NamesUnlessCrash, Numbered, at_stake, ledger_of, that_ended, told_in, unknown_in, untold_in, untolds}
use Rattle.raft_history_laws.proofs.EndedOnce.{tokens_end_once}
use Rattle.raft_history_laws.proofs.RunLedgers.{ends_are_named, ledgers_have_the_untold}
use Rattle.raft_history_laws.proofs.WaitingTokens.{waits_own}
use Rattle.raft_machines.specs.Machine.{MachineRules}
use Rattle.raft_headline.specs.ClusterEvent.{ClusterEvent, AddGroup, Ask, Deliver, ResetPeer, Clean, Fuse, Crash, Reopen, Halt, ClusterOutcome, Done, Opened, Refused, Stopped, Fused, PassedOver, TurnedAway, Recorded, Said, is_stopped, is_turned_away, said_of}
use Rattle.raft_machines.specs.declared.telling.Told.{Told}
use Rattle.raft_headline.specs.Seen.{Seen, Passed, Own, Halted, Crashed, own_or_aside, seen_by, seen_of, seen_unless}
use Rattle.raft_headline.specs.Machines.{Replicas, new_replicas}
use Rattle.raft_headline.specs.OwnEvents.{own_event, own_events, own_number}
use Rattle.raft_headline.specs.Replaying.{ReplaysWith, Says, StepsTo, is_opening}
use Rattle.raft_machines.specs.Telling.{AreToldAs}
use Rattle.raft_headline.specs.Told.{is_taken, said_in}
use Rattle.raft_headline.specs.Tokens.{EndedOnce, EndsIn, IsAccountedFor, IsEndedBy, IsLost, IsNamedUnknown, IsToldThere, TokensEnd, WaitsOn, loses_silently, named_unknown}
use Rattle.raft_headline.proofs.Headlines.{group_history}
use Rattle.raft_headline.proofs.OwnRuns.{SeenAt, own_is_seen, runs}
use Rattle.raft_history_laws.proofs.EndedOnce.{token_setup}
use Rattle.raft_headline.proofs.TakenCalls.{CameTo, taken_came}
use Rattle.raft_headline.proofs.Same.{first_is}

-- ---- what an outcome names

-- what is told of the group is told by the outcome
pub record ToldAmong (ts : List Told) (x : Untold) : Type 0 where
  pub told : Told
  pub has : Contains ts told
  pub token : told.token ≡ x.token
  pub place : told.place ≡ x.place

told_behind : (u : Told) (ts : List Told) (x : Untold) → ToldAmong ts x → ToldAmong (u ∷ ts) x
told_behind u ts x t =
    let at = contains_at ts t.told t.has in
    record { told = t.told; has = at_contains (u ∷ ts) t.told (suc at.0) at.1; token = t.token; place = t.place }

pub told_at : (answers : ℕ → Option (List ℕ)) (ts : List Told) (xs : List Untold) (i : ℕ) (x : Untold) → AreToldAs answers ts xs → slice_get xs i ≡ Some x → ToldAmong ts x
told_at answers ts [] i x are is = absurd (let f : None ≡ Some x = is in cc)
told_at answers [] (y ∷ xs) i x are is = absurd are
told_at answers (u ∷ ts) (y ∷ xs) zero x are is =
    let same : y ≡ x = (let f : Some y ≡ Some x = is in cc) in
    record {
      told = u;
      has = at_contains (u ∷ ts) u 0 refl;
      token = are.0.token ∙ ap (λ (v : Untold). v.token) same;
      place = are.0.place ∙ ap (λ (v : Untold). v.place) same;
    }
told_at answers (u ∷ ts) (y ∷ xs) (suc i) x are is = told_behind u ts x (told_at answers ts xs i x are.1 is)

none_there : {A : Type 0} {P : Type 0} (i : ℕ) (x : A) → slice_get [] i ≡ Some x → P
none_there i x is = absurd (let f : None ≡ Some x = is in cc)

-- the outcome of a group's event that names a token says so in the cluster's
module _ (h : ℕ) (r : Recorded) (opening : Bool) (answers : ℕ → Option (List ℕ)) (x : Untold) (i : ℕ) where
  abbrev Ends : Type 0
  Ends = IsEndedBy h r x

  said_told : (o : ClusterOutcome) → r.outcome ≡ o → (said : Said) → said_in h o ≡ said → (tells : List Untold) → AreToldAs answers said.told tells → slice_get tells i ≡ Some x → Ends
  said_told o is said s tells are there =
      let t = told_at answers said.told tells i x are there in
      IsToldThere t.told (subst (λ (y : Said). Contains y.told t.told) (sym (ap (said_in h) is ∙ s)) t.has) t.token t.place

  said_lost : (o : ClusterOutcome) → r.outcome ≡ o → (lost : List ℕ) → named_unknown h o ≡ lost → slice_get lost i ≡ Some x.token → Ends
  said_lost o is lost s there =
      IsNamedUnknown (subst (λ l. Contains l x.token) (sym (ap (named_unknown h) is ∙ s)) (at_contains lost x.token i there))

  told_names : (o : ClusterOutcome) → r.outcome ≡ o → (what : Outcome) → Says h opening answers o what → slice_get (told_in what) i ≡ Some x → Ends
  told_names o is (Declined why) says there = none_there i x there
  told_names o is (Broken lost) says there = none_there i x there
  told_names o is Skipped says there = none_there i x there
  told_names o is (Ended sent tells lost) says there = by_end opening o is says
    where
      by_end : (b : Bool) (c : ClusterOutcome) → r.outcome ≡ c → Says h b answers c (Ended sent tells lost) → Ends
      by_end true (Opened parts) same s = said_told (Opened parts) same (said_of h parts) refl tells s.told there
      by_end false (Done said) same s = said_told (Done said) same said refl tells s.told there
      by_end true (Done said) same s = absurd s
      by_end false (Opened parts) same s = absurd s
      by_end b (Refused why) same s = absurd s
      by_end b (Stopped us) same s = absurd s
      by_end b Fused same s = absurd s
      by_end b PassedOver same s = absurd s
      by_end b TurnedAway same s = absurd s

  unknown_names : (fuses : r.outcome ≡ Fused → loses_silently (seen_by h r) Fused ≡ true) (o : ClusterOutcome) → r.outcome ≡ o → (what : Outcome) → Says h opening answers o what → slice_get (unknown_in what) i ≡ Some x.token → Ends
  unknown_names fuses o is (Declined why) says there = none_there i x.token there
  unknown_names fuses o is Skipped says there = none_there i x.token there
  unknown_names fuses o is (Ended sent tells lost) says there = by_end opening o is says
    where
      by_end : (b : Bool) (c : ClusterOutcome) → r.outcome ≡ c → Says h b answers c (Ended sent tells lost) → Ends
      by_end true (Opened parts) same s = said_lost (Opened parts) same lost s.unknown there
      by_end false (Done said) same s = said_lost (Done said) same lost s.unknown there
      by_end true (Done said) same s = absurd s
      by_end false (Opened parts) same s = absurd s
      by_end b (Refused why) same s = absurd s
      by_end b (Stopped us) same s = absurd s
      by_end b Fused same s = absurd s
      by_end b PassedOver same s = absurd s
      by_end b TurnedAway same s = absurd s
  unknown_names fuses o is (Broken lost) says there = by_stop o is says
    where
      by_stop : (c : ClusterOutcome) → r.outcome ≡ c → Says h opening answers c (Broken lost) → Ends
      by_stop (Stopped us) same s = said_lost (Stopped us) same lost s there
      by_stop Fused same s = IsLost (ap (loses_silently (seen_by h r)) same ∙ fuses same)
      by_stop (Done said) same s = absurd s
      by_stop (Opened parts) same s = absurd s
      by_stop (Refused why) same s = absurd s
      by_stop PassedOver same s = absurd s
      by_stop TurnedAway same s = absurd s

  -- the outcome names what ended
  names_end : (fuses : r.outcome ≡ Fused → loses_silently (seen_by h r) Fused ≡ true) (what : Outcome) → Says h opening answers r.outcome what → (ended : List Numbered) (v : Numbered) → v.untold ≡ x → slice_get ended i ≡ Some v → Names what ended → Ends
  names_end fuses what says ended v same there names =
      let placed : slice_get (untolds ended) i ≡ Some x = slice_get-map (λ (w : Numbered). w.untold) ended i ∙ ap (option_map (λ (w : Numbered). w.untold)) there ∙ ap Some same in
      ⊎_elim
      (λ told. told_names r.outcome refl what says (ap (λ l. slice_get l i) told.0 ∙ placed))
      (λ unknown. unknown_names fuses r.outcome refl what says (ap (λ l. slice_get l i) unknown.1 ∙ slice_get-map (λ (u : Untold). u.token) (untolds ended) i ∙ ap (option_map (λ (u : Untold). u.token)) placed))
      names

-- ---- the group's own events are calls, messages and openings

abbrev is_own : WorldEvent → Bool
is_own (event.Add n) = true
is_own (event.Ask n call now) = true
is_own (event.Deliver number now) = true
is_own (event.Crash n) = false
is_own (event.Halt n) = false
is_own (event.Restart n) = true

module _ (h : ℕ) (x : WorldEvent) where
  own_aside : (b : Bool) (n : ℕ) → (if b then Halted n else Passed) ≡ Own x → is_own x ≡ true
  own_aside true n e = absurd (let f : Halted n ≡ Own x = e in cc)
  own_aside false n e = absurd (let f : Passed ≡ Own x = e in cc)

  own_or : (b : Bool) (y : WorldEvent) (n : ℕ) (o : ClusterOutcome) → is_own y ≡ true → own_or_aside b y n o ≡ Own x → is_own x ≡ true
  own_or true y n o t e = subst (λ z. is_own z ≡ true) (let f : Own y ≡ Own x = e in let g : y ≡ x = cc in g) t
  own_or false y n o t e = own_aside (is_stopped o) n e

  own_event_is : (e : ClusterEvent) (at : ℕ) (o : ClusterOutcome) (away : Bool) → seen_unless away (seen_of h e at o) ≡ Own x → is_own x ≡ true
  own_event_is e at o true s = absurd (let f : Passed ≡ Own x = s in cc)
  own_event_is (AddGroup m g) at o false s = own_or (g == h) (event.Add m) m o refl s
  own_event_is (Ask m g c now) at o false s = own_or (g == h) (event.Ask m c now) m o refl s
  own_event_is (Deliver g number now) at o false s = own_or (g == h) (event.Deliver number now) at o refl s
  own_event_is (ResetPeer m peer) at o false s = own_aside (is_stopped o) m s
  own_event_is (Clean m) at o false s = own_aside (is_stopped o) m s
  own_event_is (Fuse m) at o false s = own_aside (is_stopped o) m s
  own_event_is (Crash m) at o false s = absurd (let f : Crashed m ≡ Own x = s in cc)
  own_event_is (Reopen m) at o false s = subst (λ z. is_own z ≡ true) (let f : Own (event.Restart m) ≡ Own x = s in let g : event.Restart m ≡ x = cc in g) refl
  own_event_is (Halt m) at o false s = own_aside (is_stopped o) m s

-- none of them is a crash
call_no_crash : (b : Bool) (m : ℕ) (call : GroupCall) (now n : ℕ) → scene_of_call b m call now ≡ At n Crashes → ⊥
call_no_crash true m call now n e = let f : At m (Comes (Call call now)) ≡ At n Crashes = e in cc
call_no_crash false m call now n e = let f : Nowhere ≡ At n Crashes = e in cc

delivery_no_crash : (o : Option Message) (now n : ℕ) → scene_of_delivery o now ≡ At n Crashes → ⊥
delivery_no_crash None now n e = let f : Nowhere ≡ At n Crashes = e in cc
delivery_no_crash (Some m) now n e = no m.addressee _ e
  where
    no : (k : ℕ) (ge : GroupEvent) → At k (Comes ge) ≡ At n Crashes → ⊥
    no k ge f = cc

no_crash : (w : GroupWorld) (x : WorldEvent) (n : ℕ) → is_own x ≡ true → scene_of w x ≡ At n Crashes → ⊥
no_crash w (event.Add m) n t e = no m _ e
  where
    no : (k : ℕ) (ge : GroupEvent) → At k (Comes ge) ≡ At n Crashes → ⊥
    no k ge f = cc
no_crash w (event.Ask m call now) n t e = call_no_crash (is_same_setup w.setup (setup_in_call call)) m call now n e
no_crash w (event.Deliver number now) n t e = delivery_no_crash (slice_get w.messages number) now n e
no_crash w (event.Crash m) n t e = let f : false ≡ true = t in cc
no_crash w (event.Halt m) n t e = let f : false ≡ true = t in cc
no_crash w (event.Restart m) n t e = let f : At m Restarts ≡ At n Crashes = e in cc

named : (a : NodeEvent) (what : Outcome) (ended : List Numbered) → (a ≡ Crashes → ⊥) → NamesUnlessCrash a what ended → Names what ended
named (Comes e) what ended other names = names
named Crashes what ended other names = absurd (other refl)
named Halts what ended other names = names
named Restarts what ended other names = names

some_stop : (b : Bool) (k : ℕ) → is_some (stop_at b k) ≡ b
some_stop true k = refl
some_stop false k = refl

-- ---- in a history

module _ (rules : MachineRules) (ids : List ℕ) (fit : AreNodeIds ids) (h : ℕ) (history : List Recorded) (end : Replicas) (numbers : List ℕ) (run : ReplaysWith rules h (new_replicas rules ids) history numbers end) where
  abbrev es : Events
  es = own_events h history numbers

  abbrev w : GroupWorld
  w = new_world ids

  -- how the event ends a token
  module _ (n : ℕ) (x : Numbered) (number : ℕ) (q : EndsAt es w n x number) (place : ℕ) (s : SeenAt rules h history es w place number) where
    abbrev r : Recorded
    r = s.recorded

    abbrev what : Outcome
    what = outcome_of (world_before es number w) q.event (is_some q.stop)

    same_event : (q.event, q.stop) ≡ s.event
    same_event = let f : Some (q.event, q.stop) ≡ Some s.event = sym q.happened ∙ s.there in same_some f

    same_outcome : (e : WorldEvent) (stop : Option ℕ) → s.event ≡ (e, stop) → what ≡ outcome_of s.old.world e (is_some stop)
    same_outcome e stop is =
        ap (λ v. outcome_of v q.event (is_some q.stop)) s.before
        ∙ ap (λ (p : WorldEvent × Option ℕ). outcome_of s.old.world p.0 (is_some p.1)) (same_event ∙ is)

    names : NamesUnlessCrash q.at_node what (that_ended ((world_before es (suc number) w).nodes n) (at_stake es w number n q.at_node))
    names = ends_are_named ids fit es number n q.event q.stop q.at_node q.happened q.here

    -- an event that isn't a crash names it
    names_it : (opening : Bool) (answers : ℕ → Option (List ℕ)) → (r.outcome ≡ Fused → loses_silently (seen_by h r) Fused ≡ true) → Says h opening answers r.outcome what → (q.at_node ≡ Crashes → ⊥) → IsEndedBy h r x.untold
    names_it opening answers fuses says other =
        let ended = that_ended ((world_before es (suc number) w).nodes n) (at_stake es w number n q.at_node) in
        let at = contains_at ended x q.ended in
        names_end h r opening answers x.untold at.0 fuses what says ended x refl at.1 (named q.at_node what ended other names)

    ended_by : (seen : Seen) → seen_by h r ≡ seen → StepsTo rules h seen r s.k s.old s.new → own_event seen r.outcome s.k ≡ s.event ∷ [] → IsEndedBy h r x.untold
    ended_by Passed is step e = absurd (let f : [] ≡ s.event ∷ [] = e in cc)
    ended_by (Own v) is step e =
        let same : s.event ≡ (v, stop_at (is_stopped r.outcome) s.k) = first_is _ s.event e in
        let out : what ≡ outcome_of s.old.world v (is_stopped r.outcome) = same_outcome v (stop_at (is_stopped r.outcome) s.k) same ∙ ap (outcome_of s.old.world v) (some_stop (is_stopped r.outcome) s.k) in
        let own : is_own v ≡ true = own_event_is h v r.event r.node r.outcome (is_turned_away r.outcome) is in
        let event_is : q.event ≡ v = ap (λ (p : WorldEvent × Option ℕ). p.0) (same_event ∙ same) in
        names_it (is_opening v) step.answers (λ f. ap (λ y. loses_silently y Fused) is)
        (subst (Says h (is_opening v) step.answers r.outcome) (sym out) step.says)
        (λ f. no_crash (world_before es number w) v n own (ap (scene_of (world_before es number w)) (sym event_is) ∙ q.here ∙ ap (At n) f))
    ended_by (Halted m) is step e =
        let same : s.event ≡ (event.Halt m, Some 0) = first_is _ s.event e in
        let event_is : q.event ≡ event.Halt m = ap (λ (p : WorldEvent × Option ℕ). p.0) (same_event ∙ same) in
        let here : At m Halts ≡ At n q.at_node = sym (ap (scene_of (world_before es number w)) event_is) ∙ q.here in
        names_it false (λ place. None) (λ f. ap (λ y. loses_silently y Fused) is)
        (subst (Says h false (λ place. None) r.outcome) (sym (same_outcome (event.Halt m) (Some 0) same)) step.says)
        (λ f. no_halt m (here ∙ ap (At n) f))
      where
        no_halt : (k : ℕ) → At k Halts ≡ At n Crashes → ⊥
        no_halt k f = cc
    ended_by (Crashed m) is step e = IsLost (ap (λ y. loses_silently y r.outcome) is)

    ends_in : EndsIn ids h history es n x place
    ends_in = record {
      recorded = r;
      stands = s.stands;
      ends = subst (EndsAt es w n x) (sym s.is_number) q;
      ended = ended_by (seen_by h r) refl s.step s.is_event;
    }

  ended_once : (n : ℕ) (x : Numbered) (number : ℕ) → EndsAt es w n x number → ((other : ℕ) → EndsAt es w n x other → other ≡ number) → EndedOnce ids h history es n x
  ended_once n x number q once =
      let s = own_is_seen rules h history numbers (new_replicas rules ids) end run number (q.event, q.stop) q.happened in
      record {
        number = s.0;
        ends = ends_in n x number q s.0 s.1;
        once = λ other e. once other e ∙ sym s.1.is_number;
      }

  -- ---- what waits

  waits_up : (n : ℕ) (x : Untold) (y : NodeState) → end.world.nodes n ≡ y → Contains (untold_in y) x → (v : Numbered) → v.untold ≡ x → ((number : ℕ) → EndsAt es w n v number → ⊥) → WaitsOn ids es end n v
  waits_up n x Absent is has v same never = let at = contains_at [] x has in none_there at.0 x at.1
  waits_up n x (Down st) is has v same never = let at = contains_at [] x has in none_there at.0 x at.1
  waits_up n x (Up s) is has v same never =
      let waiting = (waits_own ids _ end.world (group_history rules ids fit h history end (numbers, run)) n s is).0 x has in
      record {
        state = s;
        is_up = is;
        leads = ap is_leader waiting.leads;
        waits = subst (Contains s.untold) (sym same) has;
        not_ended = never;
      }

  waits_on : (n : ℕ) (v : Numbered) → Contains (ledger_of es w n) v → ((number : ℕ) → EndsAt es w n v number → ⊥) → WaitsOn ids es end n v
  waits_on n v has never =
      let at = contains_at (ledger_of es w n) v has in
      let untold : slice_get (untolds (ledger_of es w n)) at.0 ≡ Some v.untold = slice_get-map (λ (u : Numbered). u.untold) (ledger_of es w n) at.0 ∙ ap (option_map (λ (u : Numbered). u.untold)) at.1 in
      let there : untolds (ledger_of es w n) ≡ untold_in (end.world.nodes n) =
      ledgers_have_the_untold ids fit es n ∙ ap (λ (g : GroupWorld). untold_in (g.nodes n)) (runs rules h history numbers (new_replicas rules ids) end run)
      in
      waits_up n v.untold (end.world.nodes n) refl (at_contains (untold_in (end.world.nodes n)) v.untold at.0 (sym (ap (λ l. slice_get l at.0) there) ∙ untold)) v refl never

  -- ---- each token

  module _ (number n token now : ℕ) (r : Recorded) (call : GroupCall) (is : slice_get history number ≡ Some r) (asks : r.event ≡ Ask n h call now) (brings : token_of_call call ≡ token ∷ []) (taken : is_taken r.outcome ≡ true) where
    came : CameTo ids h history numbers (own_number h history number) n call now
    came = taken_came rules ids h history end numbers run number r is n call now asks (token_setup call token brings) taken

    abbrev brought_token : Untold
    brought_token = record { token = token; place = end_place came.state.stored }

    is_brought : IsBrought es w (own_number h history number) n brought_token
    is_brought = record {
      call = call;
      now = now;
      stop = came.stop;
      state = came.state;
      event = came.event;
      is_up = came.is_up;
      taken = came.passed;
      token = brings;
      place = refl;
    }

    pub accounted_for : IsAccountedFor ids h history es end n number token
    accounted_for =
        let v : Numbered = record { number = own_number h history number; untold = brought_token } in
        record {
          place = end_place came.state.stored;
          brought = is_brought;
          fate =
              ⊎_elim
              (λ wait. inl (waits_on n v wait.0 wait.1))
              (λ ends. inr (ended_once n v ends.0 ends.1 ends.2))
              (tokens_end_once ids fit es (own_number h history number) n brought_token is_brought);
        }

pub tokens_end : (rules : MachineRules) (ids : List ℕ) → AreNodeIds ids → (h : ℕ) (history : List Recorded) (end : Replicas) → TokensEnd rules ids h history end
tokens_end rules ids fit h history end numbers run number n token now r call is asks brings taken =
    accounted_for rules ids fit h history end numbers run number n token now r call is asks brings taken
