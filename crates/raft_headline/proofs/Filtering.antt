-- A cluster's history replays for a group just if its filtered one does.
use Rattle.std.specs.Prelude.{◌≡◌, ℕ, ◌==◌, Bool, true, false, if◌then◌else◌, List, [], ◌∷◌, filter, map, cond, Option, Some, None, refl}
use Rattle.std.proofs.Common.{sym, ap, ◌∙◌, subst}
use Rattle.std.specs.List.{find}
use Rattle.raft_laws.specs.declared.world_event.WorldEvent.{WorldEvent}
use Rattle.raft_laws.specs.GroupWorld.{Outcome, is_stop}
use Rattle.raft_laws.specs.GroupWorld.{Done as Ended, Refused as Declined, Stopped as Broken, Skipped}
use Rattle.raft_laws.specs.GroupRun.{happens, outcome_of, scene_of}
use Rattle.raft_machines.specs.Machine.{MachineRules}
use Rattle.raft_headline.specs.ClusterEvent.{ClusterEvent, AddGroup, Ask, Deliver, ResetPeer, Clean, Fuse, Crash, Reopen, Halt, ClusterOutcome, Done, Opened, Refused, Stopped, Fused, PassedOver, TurnedAway, Recorded, Said, Unknown, is_stopped, is_turned_away, said_of, said_or}
use Rattle.raft_headline.specs.Seen.{Seen, Passed, Own, Halted, Crashed, aside, kept_before, own_or_aside, own_outcome, own_part, own_parts, own_tokens, own_unknown, seen_by, seen_of, seen_unless}
use Rattle.raft_headline.specs.Machines.{MachinesMoveIn, Replicas}
use Rattle.raft_headline.specs.Replaying.{FilteredHistoriesReplay, HaltStep, IsSaid, IsStep, IsThere, OwnStep, ReplaysWith, Says, StepsTo, is_opening, takes_number, with_number}

-- an event that stopped was not turned away
pub stopped_stays : (o : ClusterOutcome) → is_stopped o ≡ true → is_turned_away o ≡ false
stopped_stays (Done said) f = refl
stopped_stays (Opened parts) f = refl
stopped_stays (Refused why) f = refl
stopped_stays (Stopped unknown) f = refl
stopped_stays Fused f = refl
stopped_stays PassedOver f = refl
stopped_stays TurnedAway f = absurd (let g : false ≡ true = f in cc)

-- ---- what is filtered twice

filter_twice : {A : Type 0} (p : A → Bool) (xs : List A) → filter p (filter p xs) ≡ filter p xs
filter_twice p [] = refl
filter_twice p (x ∷ xs) = go (filter_twice p xs) (p x) refl
  where
    go : filter p (filter p xs) ≡ filter p xs → (b : Bool) → p x ≡ b → filter p (cond b (x ∷ filter p xs) (filter p xs)) ≡ cond b (x ∷ filter p xs) (filter p xs)
    go rest true is = ap (λ c. cond c (x ∷ filter p (filter p xs)) (filter p (filter p xs))) is ∙ ap (λ l. x ∷ l) rest
    go rest false is = rest

find_filtered : {A : Type 0} (p : A → Bool) (xs : List A) → find p (filter p xs) ≡ find p xs
find_filtered p [] = refl
find_filtered p (x ∷ xs) = go (find_filtered p xs) (p x) refl
  where
    go : find p (filter p xs) ≡ find p xs → (b : Bool) → p x ≡ b → find p (cond b (x ∷ filter p xs) (filter p xs)) ≡ cond b (Some x) (find p xs)
    go rest true is = ap (λ c. cond c (Some x) (find p (filter p xs))) is
    go rest false is = rest

module _ (h : ℕ) where
  tokens_kept : (us : List Unknown) → own_tokens h (own_unknown h us) ≡ own_tokens h us
  tokens_kept us = ap (map (λ (u : Unknown). u.token)) (filter_twice (λ (u : Unknown). u.group == h) us)

  said_kept : (parts : List (ℕ × Said)) → said_of h (own_parts h parts) ≡ said_of h parts
  said_kept parts = ap said_or (find_filtered (λ (part : ℕ × Said). part.0 == h) parts)

  -- ---- the group sees the same

  same_stop : (o : ClusterOutcome) → is_stopped (own_outcome h o) ≡ is_stopped o
  same_stop (Done said) = refl
  same_stop (Opened parts) = refl
  same_stop (Refused why) = refl
  same_stop (Stopped unknown) = refl
  same_stop Fused = refl
  same_stop PassedOver = refl
  same_stop TurnedAway = refl

  same_away : (o : ClusterOutcome) → is_turned_away (own_outcome h o) ≡ is_turned_away o
  same_away (Done said) = refl
  same_away (Opened parts) = refl
  same_away (Refused why) = refl
  same_away (Stopped unknown) = refl
  same_away Fused = refl
  same_away PassedOver = refl
  same_away TurnedAway = refl

  same_aside : (n : ℕ) (o : ClusterOutcome) → aside n (own_outcome h o) ≡ aside n o
  same_aside n o = ap (λ b. if b then Halted n else Passed) (same_stop o)

  same_own : (b : Bool) (e : WorldEvent) (n : ℕ) (o : ClusterOutcome) → own_or_aside b e n (own_outcome h o) ≡ own_or_aside b e n o
  same_own true e n o = refl
  same_own false e n o = same_aside n o

  same_of : (e : ClusterEvent) (at : ℕ) (o : ClusterOutcome) → seen_of h e at (own_outcome h o) ≡ seen_of h e at o
  same_of (AddGroup n g) at o = same_own (g == h) _ n o
  same_of (Ask n g call now) at o = same_own (g == h) _ n o
  same_of (Deliver g number now) at o = same_own (g == h) _ at o
  same_of (ResetPeer n peer) at o = same_aside n o
  same_of (Clean n) at o = same_aside n o
  same_of (Fuse n) at o = same_aside n o
  same_of (Crash n) at o = refl
  same_of (Reopen n) at o = refl
  same_of (Halt n) at o = same_aside n o

  abbrev own_record : Recorded → Recorded
  own_record r = record r { outcome = own_outcome h r.outcome }

  seen_kept : (r : Recorded) → seen_by h (own_record r) ≡ seen_by h r
  seen_kept r = ap (λ b. seen_unless b (seen_of h r.event r.node (own_outcome h r.outcome))) (same_away r.outcome) ∙ ap (seen_unless (is_turned_away r.outcome)) (same_of r.event r.node r.outcome)

  -- what a halt is taken from stopped its node
  halts : (e : ClusterEvent) (at : ℕ) (o : ClusterOutcome) (n : ℕ) → seen_unless (is_turned_away o) (seen_of h e at o) ≡ Halted n → is_stopped o ≡ true
  halts e at o n is = go (is_stopped o) refl (is_turned_away o) is
    where
      no_own : {P : Type 0} (x : WorldEvent) → Own x ≡ Halted n → P
      no_own x f = absurd (let g : Own x ≡ Halted n = f in cc)

      passed : {P : Type 0} → Passed ≡ Halted n → P
      passed f = absurd (let g : Passed ≡ Halted n = f in cc)

      by_aside : (b : Bool) → is_stopped o ≡ b → (m : ℕ) → aside m o ≡ Halted n → is_stopped o ≡ true
      by_aside true q m f = q
      by_aside false q m f = passed (sym (ap (λ b. if b then Halted m else Passed) q) ∙ f)

      by_own : (c : Bool) (x : WorldEvent) (b : Bool) → is_stopped o ≡ b → (m : ℕ) → own_or_aside c x m o ≡ Halted n → is_stopped o ≡ true
      by_own true x b q m f = no_own x f
      by_own false x b q m f = by_aside b q m f

      by_event : (x : ClusterEvent) (b : Bool) → is_stopped o ≡ b → seen_of h x at o ≡ Halted n → is_stopped o ≡ true
      by_event (AddGroup m g) b q f = by_own (g == h) _ b q m f
      by_event (Ask m g call now) b q f = by_own (g == h) _ b q m f
      by_event (Deliver g number now) b q f = by_own (g == h) _ b q at f
      by_event (ResetPeer m peer) b q f = by_aside b q m f
      by_event (Clean m) b q f = by_aside b q m f
      by_event (Fuse m) b q f = by_aside b q m f
      by_event (Crash m) b q f = absurd (let g : Crashed m ≡ Halted n = f in cc)
      by_event (Reopen m) b q f = no_own _ f
      by_event (Halt m) b q f = by_aside b q m f

      go : (b : Bool) → is_stopped o ≡ b → (away : Bool) → seen_unless away (seen_of h e at o) ≡ Halted n → is_stopped o ≡ true
      go b q true f = passed f
      go b q false f = by_event e b q f

  abbrev halt_record : ℕ → Recorded → Recorded
  halt_record n r = record { event = Halt n; node = n; outcome = own_outcome h r.outcome }

  halt_kept : (n : ℕ) (r : Recorded) → seen_by h r ≡ Halted n → seen_by h (halt_record n r) ≡ Halted n
  halt_kept n r is =
      let stops : is_stopped (own_outcome h r.outcome) ≡ true = same_stop r.outcome ∙ halts r.event r.node r.outcome n is in
      ap (λ b. seen_unless b (aside n (own_outcome h r.outcome))) (stopped_stays (own_outcome h r.outcome) stops) ∙ ap (λ b. if b then Halted n else Passed) stops

  -- ---- and is told the same

  module _ (op : Bool) (answers : ℕ → Option (List ℕ)) where
    parts_on : (opening : Bool) (parts : List (ℕ × Said)) (what : Outcome) → Says h opening answers (Opened parts) what → Says h opening answers (Opened (own_parts h parts)) what
    parts_on true parts (Ended sent told unknown) s = subst (λ (said : Said). IsSaid answers said sent told unknown) (sym (said_kept parts)) s
    parts_on false parts (Ended sent told unknown) s = absurd s
    parts_on opening parts (Declined why) s = absurd (let f : Opened parts ≡ Refused why = s in cc)
    parts_on opening parts (Broken unknown) s = absurd s
    parts_on opening parts Skipped s = absurd (let f : Opened parts ≡ PassedOver = s in cc)

    parts_back : (opening : Bool) (parts : List (ℕ × Said)) (what : Outcome) → Says h opening answers (Opened (own_parts h parts)) what → Says h opening answers (Opened parts) what
    parts_back true parts (Ended sent told unknown) s = subst (λ (said : Said). IsSaid answers said sent told unknown) (said_kept parts) s
    parts_back false parts (Ended sent told unknown) s = absurd s
    parts_back opening parts (Declined why) s = absurd (let f : Opened (own_parts h parts) ≡ Refused why = s in cc)
    parts_back opening parts (Broken unknown) s = absurd s
    parts_back opening parts Skipped s = absurd (let f : Opened (own_parts h parts) ≡ PassedOver = s in cc)

    lost_on : (lost : List Unknown) (what : Outcome) → Says h op answers (Stopped lost) what → Says h op answers (Stopped (own_unknown h lost)) what
    lost_on lost (Ended sent told unknown) s = absurd s
    lost_on lost (Declined why) s = absurd (let f : Stopped lost ≡ Refused why = s in cc)
    lost_on lost (Broken unknown) s = tokens_kept lost ∙ s
    lost_on lost Skipped s = absurd (let f : Stopped lost ≡ PassedOver = s in cc)

    lost_back : (lost : List Unknown) (what : Outcome) → Says h op answers (Stopped (own_unknown h lost)) what → Says h op answers (Stopped lost) what
    lost_back lost (Ended sent told unknown) s = absurd s
    lost_back lost (Declined why) s = absurd (let f : Stopped (own_unknown h lost) ≡ Refused why = s in cc)
    lost_back lost (Broken unknown) s = sym (tokens_kept lost) ∙ s
    lost_back lost Skipped s = absurd (let f : Stopped (own_unknown h lost) ≡ PassedOver = s in cc)

    says_on : (o : ClusterOutcome) (what : Outcome) → Says h op answers o what → Says h op answers (own_outcome h o) what
    says_on (Done said) what s = s
    says_on (Opened parts) what s = parts_on op parts what s
    says_on (Refused why) what s = s
    says_on (Stopped lost) what s = lost_on lost what s
    says_on Fused what s = s
    says_on PassedOver what s = s
    says_on TurnedAway what s = s

    says_back : (o : ClusterOutcome) (what : Outcome) → Says h op answers (own_outcome h o) what → Says h op answers o what
    says_back (Done said) what s = s
    says_back (Opened parts) what s = parts_back op parts what s
    says_back (Refused why) what s = s
    says_back (Stopped lost) what s = lost_back lost what s
    says_back Fused what s = s
    says_back PassedOver what s = s
    says_back TurnedAway what s = s

  -- ---- so each event leads to the same

  module _ (rules : MachineRules) where
    -- whether it stopped counts, and what it says
    pub same_step : (e : WorldEvent) (r s : Recorded) (k : ℕ) (old new : Replicas) → s.node ≡ r.node → is_stopped s.outcome ≡ is_stopped r.outcome
        → ((op : Bool) (answers : ℕ → Option (List ℕ)) (what : Outcome) → Says h op answers r.outcome what → Says h op answers s.outcome what)
        → OwnStep rules h e r k old new → OwnStep rules h e s k old new
    same_step e r s k old new node stop says step = record {
      answers = step.answers;
      there = subst (IsThere (scene_of old.world e)) (sym node) step.there;
      world = step.world ∙ ap (λ b. happens old.world e (outcome_of old.world e b) k) (sym stop);
      machines = subst (λ b. MachinesMoveIn rules (scene_of old.world e) (is_stop (outcome_of old.world e b)) old new step.answers) (sym stop) step.machines;
      says = subst (λ b. Says h (is_opening e) step.answers s.outcome (outcome_of old.world e b)) (sym stop) (says (is_opening e) step.answers _ step.says);
    }

    -- a record that the group sees as another, and that leads to the same
    abbrev pub seen_alike : (r s : Recorded) (seen : Seen) → seen_by h r ≡ seen → seen_by h s ≡ seen → takes_number seen s.outcome ≡ takes_number seen r.outcome
        → (numbers : List ℕ) (old : Replicas) (one : IsStep rules h r numbers old) → (StepsTo rules h seen r one.number old one.new → StepsTo rules h seen s one.number old one.new) → IsStep rules h s numbers old
    seen_alike r s seen is other takes numbers old one leads = record {
      number = one.number;
      others = one.others;
      numbered =
          one.numbered
          ∙ ap (λ x. with_number (takes_number x r.outcome) one.number one.others) is
          ∙ ap (λ b. with_number b one.number one.others) (sym takes)
          ∙ ap (λ x. with_number (takes_number x s.outcome) one.number one.others) (sym other);
      new = one.new;
      step = subst (λ x. StepsTo rules h x s one.number old one.new) (sym other) (leads (subst (λ x. StepsTo rules h x r one.number old one.new) is one.step));
    }

    same_takes : (seen : Seen) (o : ClusterOutcome) → takes_number seen (own_outcome h o) ≡ takes_number seen o
    same_takes Passed o = refl
    same_takes (Own e) o = same_stop o
    same_takes (Halted n) o = refl
    same_takes (Crashed n) o = refl

    halt_on : (n : ℕ) (o : ClusterOutcome) (old new : Replicas) → HaltStep rules h n o old new → HaltStep rules h n (own_outcome h o) old new
    halt_on n o old new step =
        record { world = step.world; machines = step.machines; says = says_on false (λ place. None) o _ step.says }

    halt_back : (n : ℕ) (o : ClusterOutcome) (old new : Replicas) → HaltStep rules h n (own_outcome h o) old new → HaltStep rules h n o old new
    halt_back n o old new step =
        record { world = step.world; machines = step.machines; says = says_back false (λ place. None) o _ step.says }

    -- what is passed over leads nowhere
    module _ (r : Recorded) (is : seen_by h r ≡ Passed) (numbers : List ℕ) (old : Replicas) where
      pub passes : (one : IsStep rules h r numbers old) → (one.new ≡ old) × (numbers ≡ one.others)
      passes one = (
        subst (λ x. StepsTo rules h x r one.number old one.new) is one.step,
        one.numbered ∙ ap (λ x. with_number (takes_number x r.outcome) one.number one.others) is,
      )

      abbrev pub passing : IsStep rules h r numbers old
      passing = record {
        number = 0;
        others = numbers;
        numbered = sym (ap (λ x. with_number (takes_number x r.outcome) 0 numbers) is);
        new = old;
        step = subst (λ x. StepsTo rules h x r 0 old old) (sym is) refl;
      }

    module _ (rs : List Recorded) (r : Recorded) (numbers : List ℕ) (old end : Replicas) where
      on_one : (seen : Seen) → seen_by h r ≡ seen → (one : IsStep rules h r numbers old) → ReplaysWith rules h one.new (own_part h rs) one.others end → ReplaysWith rules h old (kept_before h seen r (own_part h rs)) numbers end
      on_one Passed is one rest =
          let p = passes r is numbers old one in
          subst (λ (x : Replicas). ReplaysWith rules h x (own_part h rs) numbers end) p.0
          (subst (λ ks. ReplaysWith rules h one.new (own_part h rs) ks end) (sym p.1) rest)
      on_one (Own e) is one rest = (
        seen_alike r (own_record r) (Own e) is (seen_kept r ∙ is) (same_takes (Own e) r.outcome) numbers old one
            (same_step e r (own_record r) one.number old one.new refl (same_stop r.outcome) (λ op answers what. says_on op answers r.outcome what)),
        rest,
      )
      on_one (Halted n) is one rest = (
        seen_alike r (halt_record n r) (Halted n) is (halt_kept n r is) refl numbers old one (halt_on n r.outcome old one.new),
        rest,
      )
      on_one (Crashed n) is one rest = (one, rest)

      back_one : (seen : Seen) → seen_by h r ≡ seen → ((new : Replicas) (others : List ℕ) → ReplaysWith rules h new (own_part h rs) others end → ReplaysWith rules h new rs others end)
          → ReplaysWith rules h old (kept_before h seen r (own_part h rs)) numbers end → ReplaysWith rules h old (r ∷ rs) numbers end
      back_one Passed is more h1 = (passing r is numbers old, more old numbers h1)
      back_one (Own e) is more h1 = (
        seen_alike (own_record r) r (Own e) (seen_kept r ∙ is) is (sym (same_takes (Own e) r.outcome)) numbers old h1.0
            (same_step e (own_record r) r h1.0.number old h1.0.new refl (sym (same_stop r.outcome)) (λ op answers what. says_back op answers r.outcome what)),
        more h1.0.new h1.0.others h1.1,
      )
      back_one (Halted n) is more h1 = (
        seen_alike (halt_record n r) r (Halted n) (halt_kept n r is) is refl numbers old h1.0 (halt_back n r.outcome old h1.0.new),
        more h1.0.new h1.0.others h1.1,
      )
      back_one (Crashed n) is more h1 = (h1.0, more h1.0.new h1.0.others h1.1)

    pub replays_filtered : (rs : List Recorded) (numbers : List ℕ) (old end : Replicas) → ReplaysWith rules h old rs numbers end → ReplaysWith rules h old (own_part h rs) numbers end
    replays_filtered [] numbers old end h1 = h1
    replays_filtered (r ∷ rs) numbers old end h1 =
        on_one rs r numbers old end (seen_by h r) refl h1.0 (replays_filtered rs h1.0.others h1.0.new end h1.1)

    pub filtered_replays : (rs : List Recorded) (numbers : List ℕ) (old end : Replicas) → ReplaysWith rules h old (own_part h rs) numbers end → ReplaysWith rules h old rs numbers end
    filtered_replays [] numbers old end h1 = h1
    filtered_replays (r ∷ rs) numbers old end h1 =
        back_one rs r numbers old end (seen_by h r) refl (λ new others. filtered_replays rs others new end) h1

pub filtered_histories_replay : FilteredHistoriesReplay
filtered_histories_replay rules h rs numbers old end = (replays_filtered h rules rs numbers old end, filtered_replays h rules rs numbers old end)
