-- Where a cluster's history has what a group was asked for.
use Rattle.std.specs.Prelude.{◌≡◌, ◌==◌, ℕ, ◌<◌, Bool, true, false, if◌then◌else◌, List, [], ◌∷◌, Option, Some, None, refl}
use Rattle.std.proofs.Common.{sym, ap, ◌∙◌, subst, arith, eqb-true}
use Rattle.raft_values.specs.declared.log_id.LogId.{LogId}
use Rattle.raft_group_step.specs.Values.{ChangeMembers, Entry, LoggedMembership}
use Rattle.raft_group_step.specs.StoredGroup.{StoredGroup, membership_in_force}
use Rattle.raft_group_step.specs.GroupState.{GroupState}
use Rattle.raft_group_step.specs.declared.group_call.GroupCall.TheVariants.{Initialize, Elect, Propose, ChangeMembership, Heartbeat, Lost, TriggerSnapshot, TriggerPurge}
use Rattle.raft_group_step.specs.GroupEvent.{Call, GroupCall, GroupEvent}
use Rattle.raft_group_step.specs.Refusal.{refusal_of}
use Rattle.raft_group_step.specs.GroupStep.{group_step}
use Rattle.raft_laws.specs.declared.world_event.WorldEvent.{WorldEvent}
use Rattle.raft_laws.specs.declared.world_event.WorldEvent.TheVariants as event
use Rattle.raft_laws.specs.GroupWorld.{GroupWorld, Outcome, Skipped, Up, new_world}
use Rattle.raft_laws.specs.GroupWorld.{Done as Ended, Refused as Declined, Stopped as Broken}
use Rattle.raft_laws.specs.NodeEvent.{Comes, outcome_at, outcome_of_end, outcome_of_stop}
use Rattle.raft_laws.specs.GroupRun.{At, is_same_setup, outcome_in, outcome_of, scene_of, scene_of_call, setup_in_call, stop_at}
use Rattle.raft_laws.specs.OneList.{AreNodeIds}
use Rattle.raft_laws.specs.Origins.{Events, IsAskedAt, changed_entry, entry_of_call, world_before}
use Rattle.raft_laws.specs.Origins.{is_taken as is_taken_there}
use Rattle.raft_laws.proofs.StepMoments.{refusals_told}
use Rattle.raft_laws.proofs.WorldOrigins.{same_up}
use Rattle.raft_laws.proofs.BallotAgreement.{same_some}
use Rattle.raft_history_laws.specs.NotedIds.{IsNotedAt, IsOrigin, is_noted, next_id}
use Rattle.raft_history_laws.proofs.LastNoted.{origin_is_last}
use Rattle.raft_machines.specs.Machine.{MachineRules}
use Rattle.raft_headline.specs.ClusterEvent.{ClusterEvent, AddGroup, Ask, Deliver, ResetPeer, Clean, Fuse, Crash, Reopen, Halt, ClusterOutcome, Done, Opened, Refused, Stopped, Fused, PassedOver, TurnedAway, Recorded, is_stopped, is_turned_away}
use Rattle.raft_headline.specs.Seen.{Seen, Passed, Own, Halted, Crashed, own_or_aside, seen_by, seen_of, seen_unless}
use Rattle.raft_headline.specs.Machines.{Replicas, new_replicas}
use Rattle.raft_headline.specs.OwnEvents.{own_event, own_events, own_number}
use Rattle.raft_headline.specs.Replaying.{OwnStep, ReplaysWith, Says, StepsTo}
use Rattle.raft_headline.specs.Told.{IsAskedFor, IsLastNoted, IsNotedBy, IsOriginOf, is_taken}
use Rattle.raft_headline.proofs.OwnRuns.{SeenAt, own_is_seen, own_number_rises}
use Rattle.raft_headline.proofs.TakenCalls.{CameTo, noted_setup, same_setup, taken_came}
use Rattle.raft_headline.proofs.Same.{first_is}

-- ---- what an entry was asked for

changed_for : (st : StoredGroup) (o : Option LoggedMembership) (change : ChangeMembers) (token : ℕ) (e : Entry) → changed_entry st o change ≡ Some e → IsAskedFor (ChangeMembership change token) e.payload
changed_for st None change token e is = absurd (let f : None ≡ Some e = is in cc)
changed_for st (Some m) change token e is = (
  m.membership,
  ap (λ (x : Entry). x.payload) (let f : changed_entry st (Some m) change ≡ Some e = is in let g : e ≡ _ = same_of f in g),
)
  where
    same_of : {x y : Entry} → Some x ≡ Some y → y ≡ x
    same_of f = cc

pub asked_for : (st : StoredGroup) (call : GroupCall) (e : Entry) → entry_of_call st call ≡ Some e → IsAskedFor call e.payload
asked_for st (Initialize m) e is = payload_of _ e is
  where
    payload_of : (x y : Entry) → Some x ≡ Some y → y.payload ≡ x.payload
    payload_of x y f = let g : y ≡ x = cc in ap (λ (z : Entry). z.payload) g
asked_for st Elect e is = absurd (let f : None ≡ Some e = is in cc)
asked_for st (Propose command token) e is = payload_of _ e is
  where
    payload_of : (x y : Entry) → Some x ≡ Some y → y.payload ≡ x.payload
    payload_of x y f = let g : y ≡ x = cc in ap (λ (z : Entry). z.payload) g
asked_for st (ChangeMembership change token) e is = changed_for st (membership_in_force st) change token e is
asked_for st Heartbeat e is = absurd (let f : None ≡ Some e = is in cc)
asked_for st (Lost peer) e is = absurd (let f : None ≡ Some e = is in cc)
asked_for st TriggerSnapshot e is = absurd (let f : None ≡ Some e = is in cc)
asked_for st (TriggerPurge place) e is = absurd (let f : None ≡ Some e = is in cc)

-- ---- what the group saw

module _ (h n : ℕ) (call : GroupCall) (now : ℕ) where
  abbrev wanted : WorldEvent
  wanted = event.Ask n call now

  passed : {P : Type 0} → Passed ≡ Own wanted → P
  passed e = absurd (let f : Passed ≡ Own wanted = e in cc)

  halted : {P : Type 0} (m : ℕ) → Halted m ≡ Own wanted → P
  halted m e = absurd (let f : Halted m ≡ Own wanted = e in cc)

  no_aside : {P : Type 0} (b : Bool) (m : ℕ) → (if b then Halted m else Passed) ≡ Own wanted → P
  no_aside true m e = halted m e
  no_aside false m e = passed e

  other_event : {P : Type 0} (b : Bool) (x : WorldEvent) (m : ℕ) (o : ClusterOutcome) → (x ≡ wanted → P) → own_or_aside b x m o ≡ Own wanted → P
  other_event true x m o f e = f (let g : Own x ≡ Own wanted = e in cc)
  other_event false x m o f e = no_aside (is_stopped o) m e

  asked_by : (m g : ℕ) (c : GroupCall) (at : ℕ) (o : ClusterOutcome) (b : Bool) → (g == h) ≡ b → own_or_aside b (event.Ask m c at) m o ≡ Own wanted → Ask m g c at ≡ Ask n h call now
  asked_by m g c at o true t e =
      let f : event.Ask m c at ≡ wanted = (let k : Own (event.Ask m c at) ≡ Own wanted = e in cc) in
      let group : g ≡ h = eqb-true g h t in
      let node : m ≡ n = cc in
      let same : c ≡ call = cc in
      let moment : at ≡ now = cc in
      cc
  asked_by m g c at o false t e = no_aside (is_stopped o) m e

  -- a group's call is a call of the cluster
  own_ask : (e : ClusterEvent) (at : ℕ) (o : ClusterOutcome) (away : Bool) → seen_unless away (seen_of h e at o) ≡ Own wanted → e ≡ Ask n h call now
  own_ask e at o true s = passed s
  own_ask (AddGroup m g) at o false s = other_event (g == h) _ m o (λ f. absurd (let k : event.Add m ≡ wanted = f in cc)) s
  own_ask (Ask m g c moment) at o false s = asked_by m g c moment o (g == h) refl s
  own_ask (Deliver g number moment) at o false s = other_event (g == h) _ at o (λ f. absurd (let k : event.Deliver number moment ≡ wanted = f in cc)) s
  own_ask (ResetPeer m peer) at o false s = no_aside (is_stopped o) m s
  own_ask (Clean m) at o false s = no_aside (is_stopped o) m s
  own_ask (Fuse m) at o false s = no_aside (is_stopped o) m s
  own_ask (Crash m) at o false s = absurd (let f : Crashed m ≡ Own wanted = s in cc)
  own_ask (Reopen m) at o false s = absurd (let f : Own (event.Restart m) ≡ Own wanted = s in let g : event.Restart m ≡ wanted = cc in cc)
  own_ask (Halt m) at o false s = no_aside (is_stopped o) m s

  -- what was neither refused nor skipped was taken
  ends_taken : (o : ClusterOutcome) (answers : ℕ → Option (List ℕ)) (what : Outcome) → Says h false answers o what → is_taken_there what ≡ true → is_taken o ≡ true
  ends_taken (Done said) answers what s t = refl
  ends_taken (Opened parts) answers (Ended sent told unknown) s t = absurd s
  ends_taken (Opened parts) answers (Declined why) s t = absurd (let f : false ≡ true = t in cc)
  ends_taken (Opened parts) answers (Broken unknown) s t = absurd s
  ends_taken (Opened parts) answers Skipped s t = absurd (let f : false ≡ true = t in cc)
  ends_taken (Refused why) answers (Ended sent told unknown) s t = absurd s
  ends_taken (Refused why) answers (Declined reason) s t = absurd (let f : false ≡ true = t in cc)
  ends_taken (Refused why) answers (Broken unknown) s t = absurd s
  ends_taken (Refused why) answers Skipped s t = absurd (let f : false ≡ true = t in cc)
  ends_taken (Stopped lost) answers what s t = refl
  ends_taken Fused answers what s t = refl
  ends_taken PassedOver answers (Ended sent told unknown) s t = absurd s
  ends_taken PassedOver answers (Declined why) s t = absurd (let f : false ≡ true = t in cc)
  ends_taken PassedOver answers (Broken unknown) s t = absurd s
  ends_taken PassedOver answers Skipped s t = absurd (let f : false ≡ true = t in cc)
  ends_taken TurnedAway answers (Ended sent told unknown) s t = absurd s
  ends_taken TurnedAway answers (Declined why) s t = absurd (let f : false ≡ true = t in cc)
  ends_taken TurnedAway answers (Broken unknown) s t = absurd s
  ends_taken TurnedAway answers Skipped s t = absurd (let f : false ≡ true = t in cc)

  -- the record of a call that was taken
  pub record AskedThere (r : Recorded) : Type 0 where
    pub event : r.event ≡ Ask n h call now
    pub taken : is_taken r.outcome ≡ true

-- what came to its node, and wasn't refused, is taken
taken_outcome : (n : ℕ) (s : GroupState) (e : GroupEvent) (stopped : Bool) → refusal_of n s e ≡ None → is_taken_there (outcome_at n (Comes e) stopped (Up s)) ≡ true
taken_outcome n s e true goes = ap (λ o. is_taken_there (outcome_of_stop s e (group_step n s e) o)) (refusals_told n s e ∙ goes)
taken_outcome n s e false goes = ap (λ o. is_taken_there (outcome_of_end (group_step n s e) o)) (refusals_told n s e ∙ goes)

-- ---- what the group's run asked for

module _ (rules : MachineRules) (ids : List ℕ) (h : ℕ) (history : List Recorded) (end : Replicas) (numbers : List ℕ) (run : ReplaysWith rules h (new_replicas rules ids) history numbers end) where
  abbrev es : Events
  es = own_events h history numbers

  abbrev first : GroupWorld
  first = new_world ids

  -- the group's event with this number stands at a place of the cluster's history
  module _ (place number : ℕ) (s : SeenAt rules h history es first place number) where
    abbrev r : Recorded
    r = s.recorded

    -- so does what it asked for
    module _ (n : ℕ) (call : GroupCall) (now : ℕ) (c : CameTo ids h history numbers number n call now) where
      abbrev asked_for_it : WorldEvent
      asked_for_it = event.Ask n call now

      same_event : s.event ≡ (asked_for_it, c.stop)
      same_event = let f : Some s.event ≡ Some (asked_for_it, c.stop) = sym s.there ∙ c.event in same_some f

      event_is : (e : WorldEvent) (stop : Option ℕ) → (e, stop) ∷ [] ≡ s.event ∷ [] → e ≡ asked_for_it
      event_is e stop f = ap (λ (p : WorldEvent × Option ℕ). p.0) (sym (first_is (e, stop) s.event f) ∙ same_event)

      here : scene_of s.old.world asked_for_it ≡ At n (Comes (Call call now))
      here =
          ap (λ b. scene_of_call b n call now)
          (ap (λ (w : GroupWorld). is_same_setup w.setup (setup_in_call call)) (sym s.before) ∙ c.set_up)

      is_taken_so : (stopped : Bool) → is_taken_there (outcome_of s.old.world asked_for_it stopped) ≡ true
      is_taken_so stopped =
          ap (λ scene. is_taken_there (outcome_in s.old.world stopped scene)) here
          ∙ ap (λ x. is_taken_there (outcome_at n (Comes (Call call now)) stopped x)) (ap (λ (w : GroupWorld). w.nodes n) (sym s.before) ∙ c.is_up)
          ∙ taken_outcome n c.state (Call call now) stopped c.passed

      asked_as : (seen : Seen) → seen_by h r ≡ seen → StepsTo rules h seen r s.k s.old s.new → own_event seen r.outcome s.k ≡ s.event ∷ [] → AskedThere h n call now r
      asked_as Passed is step e = absurd (let f : [] ≡ s.event ∷ [] = e in cc)
      asked_as (Own v) is step e =
          let same : v ≡ asked_for_it = event_is v (stop_at (is_stopped r.outcome) s.k) e in
          let own : OwnStep rules h asked_for_it r s.k s.old s.new = subst (λ x. OwnStep rules h x r s.k s.old s.new) same step in
          record {
            event = own_ask h n call now r.event r.node r.outcome (is_turned_away r.outcome) (is ∙ ap Own same);
            taken = ends_taken h n call now r.outcome own.answers (outcome_of s.old.world asked_for_it (is_stopped r.outcome)) own.says (is_taken_so (is_stopped r.outcome));
          }
      asked_as (Halted m) is step e = absurd (let f : event.Halt m ≡ asked_for_it = event_is (event.Halt m) (Some 0) e in cc)
      asked_as (Crashed m) is step e = absurd (let f : event.Crash m ≡ asked_for_it = event_is (event.Crash m) None e in cc)

      pub asked_there : AskedThere h n call now r
      asked_there = asked_as (seen_by h r) refl s.step s.is_event

    -- and what it noted
    noted_by : (id : LogId ℕ) → IsNotedAt es first number id → IsNotedBy ids h history numbers place id
    noted_by id x =
        let a : AskedThere h x.node x.call x.now r =
        asked_there x.node x.call x.now
        (record {
          stop = x.stop;
          state = x.state;
          event = x.event;
          is_up = x.is_up;
          set_up = same_setup (world_before es number first) x.call (noted_setup x.call x.noted);
          passed = x.taken;
        })
        in
        record {
          call = x.call;
          node = x.node;
          now = x.now;
          recorded = r;
          stands = s.stands;
          event = a.event;
          noted = x.noted;
          taken = a.taken;
          state = x.state;
          is_up = ap (λ k. (world_before es k first).nodes x.node) s.is_number ∙ x.is_up;
          next = x.next;
        }

    is_seen : seen_by h r ≡ Passed → ⊥
    is_seen passed = let f : [] ≡ s.event ∷ [] = sym (ap (λ seen. own_event seen r.outcome s.k) passed) ∙ s.is_event in cc

  -- what an event of the cluster noted, its event in the group's run noted
  noted_at : (place : ℕ) (id : LogId ℕ) → IsNotedBy ids h history numbers place id → IsNotedAt es first (own_number h history place) id
  noted_at place id x =
      let c : CameTo ids h history numbers (own_number h history place) x.node x.call x.now =
      taken_came rules ids h history end numbers run place x.recorded x.stands x.node x.call x.now x.event (noted_setup x.call x.noted) x.taken
      in
      record {
        node = x.node;
        call = x.call;
        now = x.now;
        stop = c.stop;
        state = c.state;
        event = c.event;
        is_up = c.is_up;
        noted = x.noted;
        taken = c.passed;
        next = ap (λ (y : GroupState). next_id y.stored) (same_up c.state x.state (sym c.is_up ∙ x.is_up)) ∙ x.next;
      }

  pub last_noted : AreNodeIds ids → (number : ℕ) (call : GroupCall) (e : Entry) → IsAskedAt es first number call e → (place : ℕ) → SeenAt rules h history es first place number → is_noted call ≡ true → IsLastNoted ids h history numbers place e.log_id
  last_noted fit number call e a place s noted =
      let o : IsOrigin es first number e.log_id = origin_is_last ids fit es number call e a noted in
      record {
        noted = noted_by place number s e.log_id o.noted;
        last = λ later behind x.
            let rises : own_number h history place < own_number h history later = own_number_rises h history place later s.recorded s.stands (is_seen place number s) behind in
            let is = s.is_number in
            o.last (own_number h history later) (omega (arith, rises, is)) (noted_at later e.log_id x);
      }

  -- the event that asked for an entry in the group's run is its origin in the cluster's history
  abbrev pub origin_at : AreNodeIds ids → (number : ℕ) (call : GroupCall) (e : Entry) → IsAskedAt es first number call e → (place : ℕ) → SeenAt rules h history es first place number → IsOriginOf ids h history numbers place e
  origin_at fit number call e a place s =
      let there : AskedThere h a.node call a.now s.recorded =
      asked_there place number s a.node call a.now
      (record { stop = a.stop; state = a.state; event = a.event; is_up = a.is_up; set_up = a.set_up; passed = a.taken })
      in
      record {
        asked = call;
        node = a.node;
        now = a.now;
        recorded = s.recorded;
        stands = s.stands;
        event = there.event;
        taken = there.taken;
        holds = asked_for a.state.stored call e a.writes;
        last = last_noted fit number call e a place s;
      }

  pub seen_asked : (number : ℕ) (call : GroupCall) (e : Entry) → IsAskedAt es first number call e → (place : ℕ) × SeenAt rules h history es first place number
  seen_asked number call e a = own_is_seen rules h history numbers (new_replicas rules ids) end run number (event.Ask a.node call a.now, a.stop) a.event
