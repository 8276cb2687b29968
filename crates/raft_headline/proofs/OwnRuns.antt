-- The group's own events lead where a history leads, each from the world in which it happened.
use Rattle.std.specs.Prelude.{◌≡◌, ℕ, zero, suc, ◌<◌, Bool, true, false, List, [], ◌∷◌, ◌++◌, slice_get, Option, Some, None, refl}
use Rattle.std.proofs.Common.{sym, ap, ◌∙◌, subst, arith}
use Rattle.raft_laws.specs.declared.world_event.WorldEvent.{WorldEvent}
use Rattle.raft_laws.specs.declared.world_event.WorldEvent.TheVariants as event
use Rattle.raft_laws.specs.GroupWorld.{GroupWorld, Outcome, Skipped, is_stop}
use Rattle.raft_laws.specs.GroupWorld.{Done as Ended, Refused as Declined, Stopped as Broken}
use Rattle.raft_laws.specs.GroupRun.{after_scene, group_run, happens, outcome_of, ran, scene_of, stop_at}
use Rattle.raft_laws.specs.Origins.{Events, world_before}
use Rattle.raft_laws.proofs.WorldTold.{run_both}
use Rattle.raft_machines.specs.Machine.{MachineRules}
use Rattle.raft_headline.specs.ClusterEvent.{ClusterOutcome, Done, Opened, Refused, Stopped, Fused, PassedOver, TurnedAway, Recorded, is_stopped}
use Rattle.raft_headline.specs.Seen.{Seen, Passed, Own, Halted, Crashed, seen_by}
use Rattle.raft_headline.specs.Machines.{Replicas, new_replicas}
use Rattle.raft_headline.specs.OwnEvents.{RunsAsGroup, counted_if, next_number, numbers_left, own_event, own_events, own_number}
use Rattle.raft_headline.specs.Replaying.{IsStep, OwnStep, ReplaysWith, Says, StepsTo, is_opening, takes_number, with_number}

-- ---- one event

-- an outcome that is no stop says of no stop
says_quiet : (h : ℕ) (b : Bool) (answers : ℕ → Option (List ℕ)) (o : ClusterOutcome) → is_stopped o ≡ false → (what : Outcome) → Says h b answers o what → is_stop what ≡ false
says_quiet h b answers o goes (Ended sent told unknown) s = refl
says_quiet h b answers o goes (Declined why) s = refl
says_quiet h b answers o goes Skipped s = refl
says_quiet h b answers (Done said) goes (Broken unknown) s = absurd s
says_quiet h b answers (Opened parts) goes (Broken unknown) s = absurd s
says_quiet h b answers (Refused why) goes (Broken unknown) s = absurd s
says_quiet h b answers (Stopped lost) goes (Broken unknown) s = absurd (let f : true ≡ false = goes in cc)
says_quiet h b answers Fused goes (Broken unknown) s = absurd (let f : true ≡ false = goes in cc)
says_quiet h b answers PassedOver goes (Broken unknown) s = absurd s
says_quiet h b answers TurnedAway goes (Broken unknown) s = absurd s

-- an event that ran to its end leads on whatever the number
pub ends_alike : (w : GroupWorld) (e : WorldEvent) (o : Outcome) (k : ℕ) → is_stop o ≡ false → happens w e o k ≡ happens w e o 0
ends_alike w e o k goes =
    ap (λ b. after_scene w e o (stop_at b k) (scene_of w e)) goes
    ∙ sym (ap (λ b. after_scene w e o (stop_at b 0) (scene_of w e)) goes)

module _ (rules : MachineRules) (h : ℕ) (r : Recorded) where
  own_ran : (e : WorldEvent) (k : ℕ) (old new : Replicas) → OwnStep rules h e r k old new → (b : Bool) → is_stopped r.outcome ≡ b → ran old.world e (stop_at b k) ≡ new.world
  own_ran e k old new step true is = ap (λ b. happens old.world e (outcome_of old.world e b) k) (sym is) ∙ sym step.world
  own_ran e k old new step false is =
      ap (λ b. happens old.world e (outcome_of old.world e b) 0) (sym is)
      ∙ sym (ends_alike old.world e (outcome_of old.world e (is_stopped r.outcome)) k (says_quiet h (is_opening e) step.answers r.outcome is (outcome_of old.world e (is_stopped r.outcome)) step.says))
      ∙ sym step.world

  -- what the group sees of the event leads on
  pub one_ran : (seen : Seen) (k : ℕ) (old new : Replicas) → StepsTo rules h seen r k old new → group_run (own_event seen r.outcome k) old.world ≡ new.world
  one_ran Passed k old new step = ap (λ (g : Replicas). g.world) (sym step)
  one_ran (Own e) k old new step = own_ran e k old new step (is_stopped r.outcome) refl
  one_ran (Halted n) k old new step = sym step.world
  one_ran (Crashed n) k old new step = sym step.world

  -- an event that takes no number is the same with any
  any_number : (seen : Seen) (i k : ℕ) → takes_number seen r.outcome ≡ false → own_event seen r.outcome i ≡ own_event seen r.outcome k
  any_number Passed i k t = refl
  any_number (Own e) i k t = ap (λ b. (e, stop_at b i) ∷ []) t ∙ sym (ap (λ b. (e, stop_at b k) ∷ []) t)
  any_number (Halted n) i k t = refl
  any_number (Crashed n) i k t = refl

  -- the next number is the event's own
  pub its_number : (seen : Seen) (k : ℕ) (ks : List ℕ) → own_event seen r.outcome (next_number (with_number (takes_number seen r.outcome) k ks)) ≡ own_event seen r.outcome k
  its_number seen k ks = go (takes_number seen r.outcome) refl
    where
      go : (b : Bool) → takes_number seen r.outcome ≡ b → own_event seen r.outcome (next_number (with_number b k ks)) ≡ own_event seen r.outcome k
      go true t = refl
      go false t = any_number seen (next_number ks) k t

pub others_left : (b : Bool) (k : ℕ) (ks : List ℕ) → numbers_left b (with_number b k ks) ≡ ks
others_left true k ks = refl
others_left false k ks = refl

-- ---- histories

module _ (rules : MachineRules) (h : ℕ) where
  -- the first event's, and then those of the rest
  pub own_first : (r : Recorded) (rs : List Recorded) (numbers : List ℕ) (old : Replicas) (one : IsStep rules h r numbers old) → own_events h (r ∷ rs) numbers ≡ own_event (seen_by h r) r.outcome one.number ++ own_events h rs one.others
  own_first r rs numbers old one =
      let seen = seen_by h r in
      let b = takes_number seen r.outcome in
      ap (λ ks. own_event seen r.outcome (next_number ks) ++ own_events h rs (numbers_left b ks)) one.numbered
      ∙ ap (λ es. es ++ own_events h rs (numbers_left b (with_number b one.number one.others))) (its_number rules h r seen one.number one.others)
      ∙ ap (λ ks. own_event seen r.outcome one.number ++ own_events h rs ks) (others_left b one.number one.others)

  pub runs : (history : List Recorded) (numbers : List ℕ) (old end : Replicas) → ReplaysWith rules h old history numbers end → group_run (own_events h history numbers) old.world ≡ end.world
  runs [] numbers old end run = ap (λ (g : Replicas). g.world) (sym run.1)
  runs (r ∷ rs) numbers old end run =
      let one = run.0 in
      ap (λ es. group_run es old.world) (own_first r rs numbers old one)
      ∙ run_both (own_event (seen_by h r) r.outcome one.number) (own_events h rs one.others) old.world
      ∙ ap (λ w. group_run (own_events h rs one.others) w) (one_ran rules h r (seen_by h r) one.number old one.new one.step)
      ∙ runs rs one.others one.new end run.1

  -- the group's event with one number is the cluster's with another: with its step, from the world before it
  pub record SeenAt (history : List Recorded) (es : Events) (w : GroupWorld) (place number : ℕ) : Type 0 where
    pub recorded : Recorded
    pub stands : slice_get history place ≡ Some recorded
    pub is_number : own_number h history place ≡ number
    pub k : ℕ
    pub old : Replicas
    pub new : Replicas
    pub step : StepsTo rules h (seen_by h recorded) recorded k old new
    pub event : WorldEvent × Option ℕ
    pub is_event : own_event (seen_by h recorded) recorded.outcome k ≡ event ∷ []
    pub there : slice_get es number ≡ Some event
    pub before : world_before es number w ≡ old.world

  -- the first event
  seen_first : (r : Recorded) (rs : List Recorded) (numbers : List ℕ) (old : Replicas) (one : IsStep rules h r numbers old) (x : WorldEvent × Option ℕ) → own_event (seen_by h r) r.outcome one.number ≡ x ∷ [] → SeenAt (r ∷ rs) (own_events h (r ∷ rs) numbers) old.world 0 0
  seen_first r rs numbers old one x is = record {
    recorded = r;
    stands = refl;
    is_number = refl;
    k = one.number;
    old = old;
    new = one.new;
    step = one.step;
    event = x;
    is_event = is;
    there = ap (λ es. slice_get es 0) (own_first r rs numbers old one ∙ ap (λ es. es ++ own_events h rs one.others) is);
    before = refl;
  }

  -- a later one, behind an event that the group passes over
  seen_past : (r : Recorded) (rs : List Recorded) (numbers : List ℕ) (old : Replicas) (one : IsStep rules h r numbers old) → seen_by h r ≡ Passed → (place number : ℕ) → SeenAt rs (own_events h rs one.others) one.new.world place number → SeenAt (r ∷ rs) (own_events h (r ∷ rs) numbers) old.world (suc place) number
  seen_past r rs numbers old one passed place number s =
      let same : own_events h (r ∷ rs) numbers ≡ own_events h rs one.others = own_first r rs numbers old one ∙ ap (λ seen. own_event seen r.outcome one.number ++ own_events h rs one.others) passed in
      let world : old.world ≡ one.new.world = sym (ap (λ (g : Replicas). g.world) (subst (λ seen. StepsTo rules h seen r one.number old one.new) passed one.step)) in
      record {
        recorded = s.recorded;
        stands = s.stands;
        is_number = ap (λ seen. counted_if seen (own_number h rs place)) passed ∙ s.is_number;
        k = s.k;
        old = s.old;
        new = s.new;
        step = s.step;
        event = s.event;
        is_event = s.is_event;
        there = ap (λ es. slice_get es number) same ∙ s.there;
        before = ap (λ es. world_before es number old.world) same ∙ ap (world_before (own_events h rs one.others) number) world ∙ s.before;
      }

  -- and behind one that it sees
  seen_behind : (r : Recorded) (rs : List Recorded) (numbers : List ℕ) (old : Replicas) (one : IsStep rules h r numbers old) (x : WorldEvent × Option ℕ) → own_event (seen_by h r) r.outcome one.number ≡ x ∷ [] → ((i : ℕ) → counted_if (seen_by h r) i ≡ suc i) → (place number : ℕ) → SeenAt rs (own_events h rs one.others) one.new.world place number → SeenAt (r ∷ rs) (own_events h (r ∷ rs) numbers) old.world (suc place) (suc number)
  seen_behind r rs numbers old one x is counts place number s =
      let same : own_events h (r ∷ rs) numbers ≡ x ∷ own_events h rs one.others = own_first r rs numbers old one ∙ ap (λ es. es ++ own_events h rs one.others) is in
      let world : ran old.world x.0 x.1 ≡ one.new.world = ap (λ es. group_run es old.world) (sym is) ∙ one_ran rules h r (seen_by h r) one.number old one.new one.step in
      record {
        recorded = s.recorded;
        stands = s.stands;
        is_number = counts (own_number h rs place) ∙ ap suc s.is_number;
        k = s.k;
        old = s.old;
        new = s.new;
        step = s.step;
        event = s.event;
        is_event = s.is_event;
        there = ap (λ es. slice_get es (suc number)) same ∙ s.there;
        before = ap (λ es. world_before es (suc number) old.world) same ∙ ap (world_before (own_events h rs one.others) number) world ∙ s.before;
      }

  -- what an event that is seen leaves
  record IsSeen (seen : Seen) (o : ClusterOutcome) (k : ℕ) : Type 0 where
    event : WorldEvent × Option ℕ
    is_event : own_event seen o k ≡ event ∷ []
    counts : (i : ℕ) → counted_if seen i ≡ suc i

  -- the group passes over it, or sees it
  passed_or_seen : (seen : Seen) (o : ClusterOutcome) (k : ℕ) {P : Type 0} → (seen ≡ Passed → P) → (IsSeen seen o k → P) → P
  passed_or_seen Passed o k passes sees = passes refl
  passed_or_seen (Own e) o k passes sees = sees (record { event = (e, stop_at (is_stopped o) k); is_event = refl; counts = λ i. refl })
  passed_or_seen (Halted n) o k passes sees = sees (record { event = (event.Halt n, Some 0); is_event = refl; counts = λ i. refl })
  passed_or_seen (Crashed n) o k passes sees = sees (record { event = (event.Crash n, None); is_event = refl; counts = λ i. refl })

  -- the events behind the first one, which the group sees
  behind : (r : Recorded) (rs : List Recorded) (numbers : List ℕ) (old : Replicas) (one : IsStep rules h r numbers old) (x : WorldEvent × Option ℕ)
      → ((i : ℕ) → slice_get (own_events h rs one.others) i ≡ Some x → (place : ℕ) × SeenAt rs (own_events h rs one.others) one.new.world place i)
      → IsSeen (seen_by h r) r.outcome one.number → (i : ℕ) → slice_get (own_events h (r ∷ rs) numbers) i ≡ Some x
      → (place : ℕ) × SeenAt (r ∷ rs) (own_events h (r ∷ rs) numbers) old.world place i
  behind r rs numbers old one x later seen zero there = (0, seen_first r rs numbers old one seen.event seen.is_event)
  behind r rs numbers old one x later seen (suc i) there =
      let same : own_events h (r ∷ rs) numbers ≡ seen.event ∷ own_events h rs one.others = own_first r rs numbers old one ∙ ap (λ es. es ++ own_events h rs one.others) seen.is_event in
      let rest = later i (ap (λ es. slice_get es (suc i)) (sym same) ∙ there) in
      (suc rest.0, seen_behind r rs numbers old one seen.event seen.is_event seen.counts rest.0 i rest.1)

  -- each event of the group is one of the cluster's
  pub own_is_seen : (history : List Recorded) (numbers : List ℕ) (old end : Replicas) → ReplaysWith rules h old history numbers end → (number : ℕ) (x : WorldEvent × Option ℕ) → slice_get (own_events h history numbers) number ≡ Some x → (place : ℕ) × SeenAt history (own_events h history numbers) old.world place number
  own_is_seen [] numbers old end run number x is = absurd (let f : None ≡ Some x = is in cc)
  own_is_seen (r ∷ rs) numbers old end run number x is =
      let one = run.0 in
      let later : (i : ℕ) → slice_get (own_events h rs one.others) i ≡ Some x → (place : ℕ) × SeenAt rs (own_events h rs one.others) one.new.world place i =
      λ i there. own_is_seen rs one.others one.new end run.1 i x there
      in
      passed_or_seen (seen_by h r) r.outcome one.number
      (λ passed.
      let same : own_events h (r ∷ rs) numbers ≡ own_events h rs one.others = own_first r rs numbers old one ∙ ap (λ seen. own_event seen r.outcome one.number ++ own_events h rs one.others) passed in
      let rest = later number (ap (λ es. slice_get es number) (sym same) ∙ is) in
      (suc rest.0, seen_past r rs numbers old one passed rest.0 number rest.1))
      (λ seen. behind r rs numbers old one x later seen number is)

  -- each event that the group sees is one of its own
  pub seen_is_own : (history : List Recorded) (numbers : List ℕ) (old end : Replicas) → ReplaysWith rules h old history numbers end → (place : ℕ) (r : Recorded) → slice_get history place ≡ Some r → (seen_by h r ≡ Passed → ⊥) → SeenAt history (own_events h history numbers) old.world place (own_number h history place)
  seen_is_own [] numbers old end run place r is some = absurd (let f : None ≡ Some r = is in cc)
  seen_is_own (q ∷ rs) numbers old end run zero r is some =
      let same : r ≡ q = (let f : Some q ≡ Some r = is in cc) in
      passed_or_seen (seen_by h q) q.outcome run.0.number
      (λ passed. absurd (some (ap (seen_by h) same ∙ passed)))
      (λ seen. seen_first q rs numbers old run.0 seen.event seen.is_event)
  seen_is_own (q ∷ rs) numbers old end run (suc place) r is some =
      let one = run.0 in
      let rest = seen_is_own rs one.others one.new end run.1 place r is some in
      passed_or_seen (seen_by h q) q.outcome one.number
      (λ passed.
      subst (SeenAt (q ∷ rs) (own_events h (q ∷ rs) numbers) old.world (suc place)) (sym (ap (λ seen. counted_if seen (own_number h rs place)) passed))
      (seen_past q rs numbers old one passed place (own_number h rs place) rest))
      (λ seen.
      subst (SeenAt (q ∷ rs) (own_events h (q ∷ rs) numbers) old.world (suc place)) (sym (seen.counts (own_number h rs place)))
      (seen_behind q rs numbers old one seen.event seen.is_event seen.counts place (own_number h rs place) rest))

-- ---- numbers

counts_one : (seen : Seen) (i : ℕ) → (seen ≡ Passed → ⊥) → counted_if seen i ≡ suc i
counts_one Passed i some = absurd (some refl)
counts_one (Own e) i some = refl
counts_one (Halted n) i some = refl
counts_one (Crashed n) i some = refl

counted_more : (seen : Seen) (i j : ℕ) → i < j → counted_if seen i < counted_if seen j
counted_more Passed i j less = less
counted_more (Own e) i j less = omega arith
counted_more (Halted n) i j less = omega arith
counted_more (Crashed n) i j less = omega arith

-- an event that the group sees has a lesser number there than each later one
pub own_number_rises : (h : ℕ) (history : List Recorded) (i j : ℕ) (r : Recorded) → slice_get history i ≡ Some r → (seen_by h r ≡ Passed → ⊥) → i < j → own_number h history i < own_number h history j
own_number_rises h [] i j r is some less = absurd (let f : None ≡ Some r = is in cc)
own_number_rises h (q ∷ rs) i zero r is some less = absurd (omega arith)
own_number_rises h (q ∷ rs) zero (suc j) r is some less =
    let same : q ≡ r = (let f : Some q ≡ Some r = is in cc) in
    let one = counts_one (seen_by h q) (own_number h rs j) (λ passed. some (sym (ap (seen_by h) same) ∙ passed)) in
    omega (arith, one)
own_number_rises h (q ∷ rs) (suc i) (suc j) r is some less =
    counted_more (seen_by h q) (own_number h rs i) (own_number h rs j) (own_number_rises h rs i j r is some (omega arith))

pub runs_as_group : (rules : MachineRules) (ids : List ℕ) (h : ℕ) (history : List Recorded) (end : Replicas) → RunsAsGroup rules ids h history end
runs_as_group rules ids h history end numbers run = runs rules h history numbers (new_replicas rules ids) end run
