-- What an event tells stands on the list, with the fold's answer.
use Rattle.std.specs.Prelude.{◌≡◌, ◌==◌, ◌<◌, ℕ, zero, suc, Bool, true, false, List, [], ◌∷◌, ◌++◌, length, slice_get, Option, Some, None, Contains, refl}
use Rattle.std.proofs.Common.{sym, ap, ◌∙◌, subst, arith, append_assoc}
use Rattle.std.proofs.lemmas.List.{take-append-le}
use Rattle.std.proofs.lemmas.Option.{slice_get_within}
use Rattle.raft_group_step.specs.Message.{Message}
use Rattle.raft_group_step.specs.Values.{Entry}
use Rattle.raft_group_step.specs.GroupState.{Untold}
use Rattle.raft_group_step.specs.GroupEvent.{GroupCall}
use Rattle.raft_laws.specs.BallotLists.{AgreeBelow}
use Rattle.raft_laws.specs.declared.world_event.WorldEvent.{WorldEvent}
use Rattle.raft_laws.specs.declared.world_event.WorldEvent.TheVariants as event
use Rattle.raft_laws.specs.GroupWorld.{GroupWorld, Outcome, Skipped, is_stop, new_world}
use Rattle.raft_laws.specs.GroupWorld.{Done as Ended, Refused as Declined, Stopped as Broken, Recorded as GroupRecorded}
use Rattle.raft_laws.specs.GroupRun.{group_run, happens, is_same_setup, outcome_of, setup_in_call, stop_at}
use Rattle.raft_laws.specs.OneList.{AreNodeIds}
use Rattle.raft_laws.specs.Origins.{Events, IsAskedAt, IsTold, world_before}
use Rattle.raft_laws.specs.Settled.{group_list}
use Rattle.raft_laws.proofs.Counts.{at_contains, contains_at}
use Rattle.raft_laws.proofs.WorldOrigins.{run_more}
use Rattle.raft_laws.proofs.WorldTold.{told_tokens_stand}
use Rattle.raft_machines.specs.Machine.{MachineRules}
use Rattle.raft_headline.specs.ClusterEvent.{ClusterEvent, AddGroup, Ask, Deliver, ResetPeer, Clean, Fuse, Crash, Reopen, Halt, ClusterOutcome, Done, Opened, Refused, Stopped, Fused, PassedOver, TurnedAway, Recorded, Said, is_stopped, is_turned_away, said_of}
use Rattle.raft_machines.specs.declared.telling.Told.{Told}
use Rattle.raft_headline.specs.Seen.{Own, own_or_aside, seen_by, seen_of, seen_unless}
use Rattle.raft_machines.specs.Fold.{answer_at}
use Rattle.raft_headline.specs.Machines.{Replicas, new_replicas}
use Rattle.raft_headline.specs.OwnEvents.{own_event, own_events}
use Rattle.raft_headline.specs.Replaying.{OwnStep, ReplaysWith, Says, StepsTo, is_opening}
use Rattle.raft_machines.specs.Telling.{AreToldAs, IsToldAs}
use Rattle.raft_headline.specs.Told.{IsToldRightly, ToldStand, said_at_opening, said_by, said_if}
use Rattle.raft_headline.proofs.AsGroup.{Led, Stepped, led, own_answers, own_stepped}
use Rattle.raft_headline.proofs.Folding.{AnswersFold, answer_front}
use Rattle.raft_headline.proofs.Headlines.{leads_there}
use Rattle.raft_headline.proofs.NodeFacts.{list_front}
use Rattle.raft_headline.proofs.Origins.{origin_at, seen_asked}
use Rattle.raft_headline.proofs.OwnRuns.{ends_alike, own_first, runs}
use Rattle.raft_headline.proofs.Splitting.{Between, cut_at, in_front, split}

-- ---- what was said of the group

-- the group's step tells the token, with the machine's answer
pub record ToldOf (answers : ℕ → Option (List ℕ)) (what : Outcome) (t : Told) : Type 0 where
  pub sent : List Message
  pub tells : List Untold
  pub lost : List ℕ
  pub is : what ≡ Ended sent tells lost
  pub token : Untold
  pub has : Contains tells token
  pub told_as : IsToldAs answers t token

-- the told answer is of an event of the group that ran to its end
pub record ToldBy (h : ℕ) (r : Recorded) (t : Told) : Type 0 where
  pub event : WorldEvent
  pub seen : seen_by h r ≡ Own event
  pub goes : is_stopped r.outcome ≡ false
  pub told : (answers : ℕ → Option (List ℕ)) (what : Outcome) → Says h (is_opening event) answers r.outcome what → ToldOf answers what t

-- which token it is
record OneOf (answers : ℕ → Option (List ℕ)) (xs : List Untold) (t : Told) : Type 0 where
  number : ℕ
  token : Untold
  there : slice_get xs number ≡ Some token
  told_as : IsToldAs answers t token

one_of : (answers : ℕ → Option (List ℕ)) (ts : List Told) (xs : List Untold) (t : Told) (n : ℕ) → AreToldAs answers ts xs → slice_get ts n ≡ Some t → OneOf answers xs t
one_of answers [] xs t n h e = absurd (let f : None ≡ Some t = e in cc)
one_of answers (u ∷ ts) [] t n h e = absurd h
one_of answers (u ∷ ts) (x ∷ xs) t zero h e =
    let same : u ≡ t = (let f : Some u ≡ Some t = e in cc) in
    record { number = 0; token = x; there = refl; told_as = subst (λ v. IsToldAs answers v x) same h.0 }
one_of answers (u ∷ ts) (x ∷ xs) t (suc n) h e =
    let o = one_of answers ts xs t n h.1 e in
    record { number = suc o.number; token = o.token; there = o.there; told_as = o.told_as }

no_tells : {P : Type 0} (t : Told) → Contains [] t → P
no_tells t has = let l = has.1 in absurd (omega arith)

module _ (h : ℕ) (t : Told) where
  said_ends : (answers : ℕ → Option (List ℕ)) (ts : List Told) (sent : List Message) (tells : List Untold) (lost : List ℕ) → Contains ts t → AreToldAs answers ts tells → ToldOf answers (Ended sent tells lost) t
  said_ends answers ts sent tells lost has h1 =
      let at = contains_at ts t has in
      let o = one_of answers ts tells t at.0 h1 at.1 in
      record { sent = sent; tells = tells; lost = lost; is = refl; token = o.token; has = at_contains tells o.token o.number o.there; told_as = o.told_as }

  done_says : (said : Said) (answers : ℕ → Option (List ℕ)) (what : Outcome) → Contains said.told t → Says h false answers (Done said) what → ToldOf answers what t
  done_says said answers (Ended sent tells lost) has s = said_ends answers said.told sent tells lost has s.told
  done_says said answers (Declined why) has s = absurd (let f : Done said ≡ Refused why = s in cc)
  done_says said answers (Broken lost) has s = absurd s
  done_says said answers Skipped has s = absurd (let f : Done said ≡ PassedOver = s in cc)

  opened_says : (parts : List (ℕ × Said)) (answers : ℕ → Option (List ℕ)) (what : Outcome) → Contains (said_of h parts).told t → Says h true answers (Opened parts) what → ToldOf answers what t
  opened_says parts answers (Ended sent tells lost) has s = said_ends answers (said_of h parts).told sent tells lost has s.told
  opened_says parts answers (Declined why) has s = absurd (let f : Opened parts ≡ Refused why = s in cc)
  opened_says parts answers (Broken lost) has s = absurd s
  opened_says parts answers Skipped has s = absurd (let f : Opened parts ≡ PassedOver = s in cc)

  -- an event of the group
  own_told : (r : Recorded) (b : Bool) (e : WorldEvent) (n : ℕ) (o : ClusterOutcome) → r.outcome ≡ o → is_opening e ≡ false → ((away : Bool) → is_turned_away o ≡ away → seen_by h r ≡ seen_unless away (own_or_aside b e n o)) → Contains (said_if b o).told t → ToldBy h r t
  own_told r true e n (Done said) is opening sees has = record {
    event = e;
    seen = sees false refl;
    goes = ap is_stopped is;
    told = λ answers what s. done_says said answers what has (subst (λ k. Says h k answers (Done said) what) opening (subst (λ o. Says h (is_opening e) answers o what) is s));
  }
  own_told r true e n (Opened parts) is opening sees has = no_tells t has
  own_told r true e n (Refused why) is opening sees has = no_tells t has
  own_told r true e n (Stopped lost) is opening sees has = no_tells t has
  own_told r true e n Fused is opening sees has = no_tells t has
  own_told r true e n PassedOver is opening sees has = no_tells t has
  own_told r true e n TurnedAway is opening sees has = no_tells t has
  own_told r false e n o is opening sees has = no_tells t has

  -- an opening
  opening_told : (r : Recorded) (n : ℕ) (o : ClusterOutcome) → r.outcome ≡ o → ((away : Bool) → is_turned_away o ≡ away → seen_by h r ≡ seen_unless away (Own (event.Restart n))) → Contains (said_at_opening h o).told t → ToldBy h r t
  opening_told r n (Done said) is sees has = no_tells t has
  opening_told r n (Opened parts) is sees has = record {
    event = event.Restart n;
    seen = sees false refl;
    goes = ap is_stopped is;
    told = λ answers what s. opened_says parts answers what has (subst (λ o. Says h true answers o what) is s);
  }
  opening_told r n (Refused why) is sees has = no_tells t has
  opening_told r n (Stopped lost) is sees has = no_tells t has
  opening_told r n Fused is sees has = no_tells t has
  opening_told r n PassedOver is sees has = no_tells t has
  opening_told r n TurnedAway is sees has = no_tells t has

  sees_as : (r : Recorded) (e : ClusterEvent) (o : ClusterOutcome) → r.event ≡ e → r.outcome ≡ o → (away : Bool) → is_turned_away o ≡ away → seen_by h r ≡ seen_unless away (seen_of h e r.node o)
  sees_as r e o same is away t =
      ap (λ x. seen_unless (is_turned_away r.outcome) (seen_of h x r.node r.outcome)) same
      ∙ ap (λ x. seen_unless (is_turned_away x) (seen_of h e r.node x)) is
      ∙ ap (λ b. seen_unless b (seen_of h e r.node o)) t

  pub event_told : (r : Recorded) (e : ClusterEvent) (o : ClusterOutcome) → r.event ≡ e → r.outcome ≡ o → Contains (said_by h e o).told t → ToldBy h r t
  event_told r (AddGroup n g) o e is has = own_told r (g == h) _ n o is refl (sees_as r (AddGroup n g) o e is) has
  event_told r (Ask n g call now) o e is has = own_told r (g == h) _ n o is refl (sees_as r (Ask n g call now) o e is) has
  event_told r (Deliver g number now) o e is has = own_told r (g == h) _ r.node o is refl (sees_as r (Deliver g number now) o e is) has
  event_told r (ResetPeer n peer) o e is has = no_tells t has
  event_told r (Clean n) o e is has = no_tells t has
  event_told r (Fuse n) o e is has = no_tells t has
  event_told r (Crash n) o e is has = no_tells t has
  event_told r (Reopen n) o e is has = opening_told r n o is (sees_as r (Reopen n) o e is) has
  event_told r (Halt n) o e is has = no_tells t has

-- ---- the group's history up to the event

-- what was asked for in the front of a run was asked for in the whole
asked_in_front : (xs ys : Events) (w : GroupWorld) (number : ℕ) (call : GroupCall) (e : Entry) → IsAskedAt xs w number call e → IsAskedAt (xs ++ ys) w number call e
asked_in_front xs ys w number call e a =
    let inside : number < length xs = slice_get_within xs number _ a.event in
    let same : world_before (xs ++ ys) number w ≡ world_before xs number w = ap (λ (l : Events). group_run l w) (take-append-le number xs ys (omega arith)) in
    record {
      node = a.node;
      now = a.now;
      stop = a.stop;
      state = a.state;
      event = in_front xs ys number _ a.event;
      is_up = ap (λ (v : GroupWorld). v.nodes a.node) same ∙ a.is_up;
      set_up = ap (λ (v : GroupWorld). is_same_setup v.setup (setup_in_call call)) same ∙ a.set_up;
      taken = a.taken;
      stored = a.stored;
      writes = a.writes;
    }

module _ (rules : MachineRules) (ids : List ℕ) (fit : AreNodeIds ids) (h : ℕ) (history : List Recorded) (end : Replicas) (numbers : List ℕ) (run : ReplaysWith rules h (new_replicas rules ids) history numbers end) (front back : List Recorded) (r : Recorded) (is : history ≡ front ++ r ∷ back) (b : Between rules h (new_replicas rules ids) front (r ∷ back) numbers end) (e : WorldEvent) (goes : is_stopped r.outcome ≡ false) (seen : seen_by h r ≡ Own e) where
  abbrev middle : Replicas
  middle = b.middle

  abbrev next : Replicas
  next = (b.after).1.0.new

  abbrev k : ℕ
  k = (b.after).1.0.number

  pub step : OwnStep rules h e r k middle next
  step = subst (λ s. StepsTo rules h s r k middle next) seen (b.after).1.0.step

  before : Led rules ids [] (new_replicas rules ids) middle
  before = leads_there rules ids fit h front middle b.before

  abbrev gs : List GroupRecorded
  gs = before.more

  abbrev what : Outcome
  what = outcome_of middle.world e (is_stopped r.outcome)

  abbrev x : GroupRecorded
  x = record { event = e; outcome = what }

  stepped : Stepped rules ids gs middle next x
  stepped = own_stepped rules ids h gs r k e middle next before.kept step

  rest : Led rules ids (gs ++ x ∷ []) next end
  rest = led rules ids h (gs ++ x ∷ []) back (b.after).1.0.others next end stepped.kept (b.after).1.1

  grows : AgreeBelow (length (group_list next.world)) (group_list next.world) (group_list end.world)
  grows = list_front ids (gs ++ x ∷ []) rest.more next.world end.world (stepped.kept).leads rest.run

  -- the group's own events up to this one, and behind it
  abbrev first : Events
  first = own_events h front (b.before).0

  abbrev last : WorldEvent × Option ℕ
  last = (e, None)

  abbrev others : Events
  others = own_events h back (b.after).1.0.others

  same_middle : group_run first (new_world ids) ≡ middle.world
  same_middle = runs rules h front (b.before).0 (new_replicas rules ids) middle (b.before).1

  all_events : own_events h history numbers ≡ (first ++ last ∷ []) ++ others
  all_events =
      ap (λ l. own_events h l numbers) is
      ∙ b.events
      ∙ ap (λ es. first ++ es) (own_first rules h r back (b.after).0 middle (b.after).1.0)
      ∙ ap (λ s. first ++ (own_event s r.outcome k ++ others)) seen
      ∙ ap (λ t. first ++ (((e, stop_at t k) ∷ []) ++ others)) goes
      ∙ sym (append_assoc first (last ∷ []) others)

  same_outcome : outcome_of (group_run first (new_world ids)) e false ≡ what
  same_outcome = ap (λ w. outcome_of w e false) same_middle ∙ ap (outcome_of middle.world e) (sym goes)

  leads_there_too : is_stop what ≡ false → group_run (first ++ last ∷ []) (new_world ids) ≡ next.world
  leads_there_too ends =
      run_more first last (new_world ids)
      ∙ ap (λ w. happens w e (outcome_of w e false) 0) same_middle
      ∙ ap (λ t. happens middle.world e (outcome_of middle.world e t) 0) (sym goes)
      ∙ sym (ends_alike middle.world e what k ends)
      ∙ sym step.world

  pub told_there : (t : Told) → ToldOf step.answers what t → IsToldRightly rules ids h history numbers (group_list end.world) t
  told_there t o =
      let ends : is_stop what ≡ false = ap is_stop o.is in
      let tale : IsTold (first ++ last ∷ []) (new_world ids) o.token = told_tokens_stand ids fit first last o.sent o.tells o.lost (same_outcome ∙ o.is) o.token o.has in
      let asked : IsAskedAt (own_events h history numbers) (new_world ids) tale.number tale.call tale.entry =
      subst (λ es. IsAskedAt es (new_world ids) tale.number tale.call tale.entry) (sym all_events)
      (asked_in_front (first ++ last ∷ []) others (new_world ids) tale.number tale.call tale.entry tale.asked)
      in
      let seen_it = seen_asked rules ids h history end numbers run tale.number tale.call tale.entry asked in
      let there : slice_get (group_list next.world) (o.token).place ≡ Some tale.entry = ap (λ (w : GroupWorld). slice_get (group_list w) (o.token).place) (sym (leads_there_too ends)) ∙ tale.on_list in
      let inside : (o.token).place < length (group_list next.world) = slice_get_within (group_list next.world) (o.token).place tale.entry there in
      let answer : AnswersFold rules (group_list next.world) (o.token).place t.answer =
      own_answers rules ids h gs r k e middle next before.kept step o.sent o.tells o.lost o.is o.token o.has t.answer (o.told_as).answer
      in
      let place : t.place ≡ (o.token).place = (o.told_as).place in
      record {
        entry = tale.entry;
        number = seen_it.0;
        stands = ap (slice_get (group_list end.world)) place ∙ sym (grows.same (o.token).place inside) ∙ there;
        origin = origin_at rules ids h history end numbers run fit tale.number tale.call tale.entry asked seen_it.0 seen_it.1;
        token = tale.token ∙ ap (λ n. n ∷ []) (sym (o.told_as).token);
        answer =
            answer.same
            ∙ answer_front rules (length (group_list next.world)) (group_list next.world) (group_list end.world) grows (o.token).place inside
            ∙ ap (answer_at rules (group_list end.world)) (sym place);
      }

pub told_stand : (rules : MachineRules) (ids : List ℕ) → AreNodeIds ids → (h : ℕ) (history : List Recorded) (end : Replicas) → ToldStand rules ids h history end
told_stand rules ids fit h history end numbers run number r t there has =
    let cut = cut_at history number r there in
    let b : Between rules h (new_replicas rules ids) cut.front (r ∷ cut.back) numbers end =
    split rules h cut.front (r ∷ cut.back) numbers (new_replicas rules ids) end (subst (λ l. ReplaysWith rules h (new_replicas rules ids) l numbers end) cut.is run)
    in
    let by = event_told h t r r.event r.outcome refl refl has in
    let its : OwnStep rules h by.event r (b.after).1.0.number b.middle (b.after).1.0.new = step rules ids fit h history end numbers run cut.front cut.back r cut.is b by.event by.goes by.seen in
    told_there rules ids fit h history end numbers run cut.front cut.back r cut.is b by.event by.goes by.seen t
    (by.told its.answers (outcome_of (b.middle).world by.event (is_stopped r.outcome)) its.says)
