-- A round on the way: what nodes answered ahead of their events' turns holds at these turns.
use Rattle.std.proofs.Common.{◌≡◌, ◌&&◌, ℕ, zero, suc, eqb, Bool, true, false, cond, not, List, [], ◌∷◌, ◌++◌, Option, Some, None, map, length, position, slice_get, inl, inr, refl, sym, ap, ◌∙◌, subst, arith, nat_lt, length-set, append_assoc, append-nil, eqb-true, ◌+◌}
use Rattle.std.proofs.lemmas.Bool.{eq-eqb, and_parts, not-true}
use Rattle.std.specs.Prelude.{slice_set}
use Rattle.std.specs.Option.{option_map}
use Rattle.std.specs.List.{AllByRecursion, find, list_any, position_or_len}
use Rattle.std.proofs.lemmas.List.{length-map, map-append}
use Rattle.std.proofs.lemmas.Option.{slice_get-map}
use Rattle.raft_group_step.specs.Values.{Membership}
use Rattle.raft_group_step.specs.GroupEvent.{GroupCall}
use Rattle.raft_group_step.specs.declared.group_call.GroupCall.TheVariants.{Initialize, Elect, Propose, ChangeMembership, Heartbeat, Lost, TriggerSnapshot, TriggerPurge}
use Rattle.raft_cluster_conditions.specs.declared.reasons.ClusterRefusal.{ClusterRefusal}
use Rattle.raft_cluster_conditions.specs.declared.reasons.Asked.TheVariants as asks
use Rattle.raft_cluster_conditions.specs.Refusal.{refusal_of}
use Rattle.raft_sent_frames.specs.declared.frame.SentFrame.{SentFrame}
use Rattle.raft_sent_frames.specs.Frames.{frames_of}
use Rattle.raft_cluster_events.specs.declared.event.ClusterEvent.{ClusterEvent}
use Rattle.raft_cluster_events.specs.declared.event.ClusterEvent.TheVariants.{AddGroup, Ask, Deliver, ResetPeer, Clean, Fuse, Crash, Reopen}
use Rattle.raft_cluster_events.specs.declared.outcome.CrashRefusal.{CrashRefusal}
use Rattle.raft_cluster_events.specs.declared.outcome.CrashRefusal.TheVariants.{Memory}
use Rattle.raft_cluster_events.specs.declared.outcome.EventOutcome.{EventOutcome}
use Rattle.raft_cluster_events.specs.declared.outcome.Recorded.{Recorded}
use Rattle.raft_cluster_events.specs.Node.{NodeActs}
use Rattle.raft_cluster.specs.declared.answer.Answer.{Answer}
use Rattle.raft_cluster.specs.declared.answer.Answer.TheVariants.{OfGroup, Quiet, Cleaned, Opened, Spared}
use Rattle.raft_cluster.specs.Cluster.{ClusterValue, Happens, HappensBy, IsReached, RunsTo, events_of, nothing_sent, refusal_in}
use Rattle.raft_cluster.specs.Facts.{Sent, asked_of, cuts_of, delivered, differs, differs_from, is_taken, membership_in, node_at, node_of, node_there, place_in, set_up_by, set_up_by_event, set_up_if, standing_of}
use Rattle.raft_cluster.specs.Happening.{Answers, Delivers, NodeAnswer, RefusesFor}
use Rattle.raft_cluster.specs.Round.{AreAhead, AreAsked, HasNoTurn, HasPart, HasTurn, IsTurned, Rounds, RunsFront, TakesTurns, WantsMemory, are_idle, IsAheadOf, IsFree, IsIn, has_to_wait, is_apart_from, is_crash, is_for, is_round, is_set_up, is_that, place_by, sets_up, sets_up_elsewhere}
use Rattle.raft_cluster.specs.Turn.{HasCome, IsAnswered, IsAtTurn, refusal_for}
use Rattle.raft_cluster.proofs.ClusterLemmas.{runs_on}
use Rattle.raft_cluster.proofs.ListLemmas.{all_push}
use Rattle.raft_cluster.proofs.SlotLemmas.{differ, mapped_at, same_slots}
use Rattle.raft_cluster.proofs.TurnLemmas.{Grows, SameFrame, by_ids, found_nowhere, found_passes, grows, happens_there, id_at, none_any, same_frame, set_at, set_other}
use Rattle.raft_cluster.proofs.FactLemmas.{there_found}

-- ---- set-ups

no_membership : (call : GroupCall) → is_set_up call ≡ false → membership_in call ≡ None
no_membership (Initialize membership) none = absurd (cc)
no_membership Elect none = refl
no_membership (Propose command token) none = refl
no_membership (ChangeMembership change token) none = refl
no_membership Heartbeat none = refl
no_membership (Lost peer) none = refl
no_membership TriggerSnapshot none = refl
no_membership (TriggerPurge place) none = refl

sets_none : (b taken : Bool) (call : GroupCall) → (is_set_up call && b) ≡ false → set_up_if b taken (membership_in call) ≡ None
sets_none false taken call none = refl
sets_none true false call none = refl
sets_none true true call none = no_membership call (go (is_set_up call) none)
  where
    go : (s : Bool) → (s && true) ≡ false → s ≡ false
    go true h = h
    go false h = refl

none_by_event : (group : ℕ) (event : ClusterEvent) (taken : Bool) → sets_up group event ≡ false → set_up_by_event group event taken ≡ None
none_by_event group (Ask node g call now) taken none = sets_none (eqb g group) taken call none
none_by_event group (AddGroup node g) taken none = refl
none_by_event group (Deliver g number cuts now) taken none = refl
none_by_event group (ResetPeer node peer) taken none = refl
none_by_event group (Clean node) taken none = refl
none_by_event group (Fuse node first_refused) taken none = refl
none_by_event group (Crash node choice) taken none = refl
none_by_event group (Reopen node workers) taken none = refl

differs_none : (group : ℕ) (m : Membership) (records : List Recorded) → AllByRecursion (λ (r : Recorded). sets_up group r.event ≡ false) records → differs records group m ≡ false
differs_none group m [] all = refl
differs_none group m (r ∷ rs) all = ap (λ s. differs_from m s (differs rs group m)) (none_by_event group r.event (is_taken r.outcome) all.0) ∙ differs_none group m rs all.1

-- records that don't set the group up change nothing of whether another set-up came before
differs_more : (group : ℕ) (m : Membership) (history records : List Recorded) → AllByRecursion (λ (r : Recorded). sets_up group r.event ≡ false) records → differs (history ++ records) group m ≡ differs history group m
differs_more group m [] records all = differs_none group m records all
differs_more group m (h ∷ hs) records all = ap (differs_from m (set_up_by group h)) (differs_more group m hs records all)

-- ---- records of a round, and the events whose turns are still to come

-- no event whose turn is to come is for the node of this one
abbrev pub IsApart : Sent → List ClusterEvent → ClusterEvent → Type 0
IsApart sent left event = (at id : ℕ) (other : ClusterEvent) → slice_get left at ≡ Some other → node_of sent other ≡ Some id → is_for sent id event ≡ false

pub record IsPast (sent : Sent) (events left : List ClusterEvent) (r : Recorded) : Type 0 where
  pub among : IsIn events r.event
  pub apart : IsApart sent left r.event

elsewhere : (s f : Bool) → (s && not f) ≡ false → f ≡ false → s ≡ false
elsewhere s true h k = absurd (cc)
elsewhere true false h k = h
elsewhere false false h k = refl

-- none of the records sets up the group that this event sets up, unless the event has to wait
set_up_by_none : (sent : Sent) (events left : List ClusterEvent) (group node : ℕ) (event : ClusterEvent) (at : ℕ) → slice_get left at ≡ Some event → node_of sent event ≡ Some node → list_any (sets_up_elsewhere sent group node) events ≡ false
    → (records : List Recorded) → AllByRecursion (IsPast sent events left) records → AllByRecursion (λ (r : Recorded). sets_up group r.event ≡ false) records
set_up_by_none sent events left group node event at there here none [] past = tt
set_up_by_none sent events left group node event at there here none (r ∷ rs) past =
    let (q, found) = past.0.among in (
      elsewhere (sets_up group r.event) (is_for sent node r.event) (none_any (sets_up_elsewhere sent group node) events q r.event none found) (past.0.apart at node event there here),
      set_up_by_none sent events left group node event at there here none rs past.1,
    )

pub same_asked : (sent : Sent) (events left : List ClusterEvent) (history records : List Recorded) (event : ClusterEvent) (at : ℕ) → slice_get left at ≡ Some event → has_to_wait sent events event ≡ false → AllByRecursion (IsPast sent events left) records
    → asked_of (history ++ records) sent event ≡ asked_of history sent event
same_asked sent events left history records (AddGroup node group) at there waits past = refl
same_asked sent events left history records (Deliver group number cuts now) at there waits past = refl
same_asked sent events left history records (ResetPeer node peer) at there waits past = refl
same_asked sent events left history records (Clean node) at there waits past = refl
same_asked sent events left history records (Fuse node first_refused) at there waits past = refl
same_asked sent events left history records (Crash node choice) at there waits past = refl
same_asked sent events left history records (Reopen node workers) at there waits past = refl
same_asked sent events left history records (Ask node group Elect now) at there waits past = refl
same_asked sent events left history records (Ask node group (Propose command token) now) at there waits past = refl
same_asked sent events left history records (Ask node group (ChangeMembership change token) now) at there waits past = refl
same_asked sent events left history records (Ask node group Heartbeat now) at there waits past = refl
same_asked sent events left history records (Ask node group (Lost peer) now) at there waits past = refl
same_asked sent events left history records (Ask node group TriggerSnapshot now) at there waits past = refl
same_asked sent events left history records (Ask node group (TriggerPurge place) now) at there waits past = refl
same_asked sent events left history records (Ask node group (Initialize m) now) at there waits past =
    ap (λ d. asks.SetUp d)
    (differs_more group m history records (set_up_by_none sent events left group node (Ask node group (Initialize m) now) at there refl waits records past))

-- ---- an answer holds at its event's turn

module _ {N : Type 0} (acts : NodeActs N) where
  answers_later : (sent later : Sent) (event : ClusterEvent) (old new : N) (answered : NodeAnswer) → delivered later event ≡ delivered sent event → Answers acts sent event old answered new → Answers acts later event old answered new
  answers_later sent later (AddGroup node group) old new answered same h = h
  answers_later sent later (Ask node group call now) old new answered same h = h
  answers_later sent later (Deliver group number cuts now) old new answered same h =
      let P : Option SentFrame → Type 0 = λ w. Delivers acts w cuts now old answered new in subst P (sym same) h
  answers_later sent later (ResetPeer node peer) old new answered same h = h
  answers_later sent later (Clean node) old new answered same h = h
  answers_later sent later (Fuse node first_refused) old new answered same h = h
  answers_later sent later (Crash node choice) old new answered same h = h
  answers_later sent later (Reopen node workers) old new answered same h = h

  come_later : (sent later : Sent) (event : ClusterEvent) (old new : N) (answered : NodeAnswer) → delivered later event ≡ delivered sent event → HasCome acts sent event old answered new → HasCome acts later event old answered new
  come_later sent later event old new answered same h = record { answers = answers_later sent later event old new answered same h.answers; id = h.id }

  answered_later : (sent later : Sent) (event : ClusterEvent) (old new : N) (answer : Answer) → delivered later event ≡ delivered sent event → IsAnswered acts sent event old answer new → IsAnswered acts later event old answer new
  answered_later sent later event old new (OfGroup r) same (kind, h) = (kind, come_later sent later event old new _ same h)
  answered_later sent later event old new (Quiet r) same h = come_later sent later event old new _ same h
  answered_later sent later event old new (Cleaned r) same h = come_later sent later event old new _ same h
  answered_later sent later event old new (Opened r) same (kind, h) = (kind, come_later sent later event old new _ same h)
  answered_later sent later event old new (Spared away) same h = h

  -- nothing that happened in the round turns the event away
  still_free : (sent later : Sent) (events left : List ClusterEvent) (history records : List Recorded) (event : ClusterEvent) (at : ℕ) (before : N)
      → slice_get left at ≡ Some event → AllByRecursion (IsPast sent events left) records → SameFrame sent later event → IsFree acts sent history events before event
      → refusal_for acts before later (history ++ records) event ≡ None
  still_free sent later events left history records event at before there past same free =
      ap (λ a. refusal_of (standing_of acts (Some before)) a (cuts_of event)) (same.asked (history ++ records) ∙ same_asked sent events left history records event at there free.waits past) ∙ free.admitted

  -- ---- nodes keep their ids

  answered_id : (sent : Sent) (event : ClusterEvent) (old new : N) (answer : Answer) → IsAnswered acts sent event old answer new → acts.id new ≡ acts.id old
  answered_id sent event old new (OfGroup r) h = h.1.id
  answered_id sent event old new (Quiet r) h = h.id
  answered_id sent event old new (Cleaned r) h = h.id
  answered_id sent event old new (Opened r) h = h.1.id
  answered_id sent event old new (Spared away) h = ap acts.id h.node

-- ---- the turn of one event of a round

length_of_none : {A : Type 0} (p : A → Bool) (xs : List A) → find p xs ≡ None → position_or_len p xs ≡ length xs
length_of_none p [] e = refl
length_of_none p (x ∷ xs) e = go (p x) e (length_of_none p xs)
  where
    go : (b : Bool) → cond b (Some x) (find p xs) ≡ None → (find p xs ≡ None → position_or_len p xs ≡ length xs) → cond (not b) (1 + position_or_len p xs) 0 ≡ length (x ∷ xs)
    go true none more = absurd (cc)
    go false none more = let m = more none in omega arith

not_less : (n : ℕ) → nat_lt n n ≡ false
not_less n = grind arith

absent : {A : Type 0} (p : A → Bool) (xs : List A) → find p xs ≡ None → position p xs ≡ None
absent p xs e =
    ap (λ n. cond (nat_lt n (length xs)) (Some n) None) (length_of_none p xs e) ∙ ap (λ b. cond b (Some (length xs)) None) (not_less (length xs))

-- which id stands at a place
pub id_there : (ids : List ℕ) (id place : ℕ) → place_by ids (Some id) ≡ Some place → slice_get ids place ≡ Some id
id_there ids id place first = go (find (λ other. eqb other id) ids) refl
  where
    at : slice_get ids place ≡ find (λ other. eqb other id) ids
    at = sym (ap (node_there ids) first) ∙ there_found (λ other. eqb other id) ids

    go : (w : Option ℕ) → find (λ other. eqb other id) ids ≡ w → slice_get ids place ≡ Some id
    go (Some x) found = at ∙ found ∙ ap Some (eqb-true x id (found_passes (λ other. eqb other id) ids x found))
    go None found = let none : position (λ other. eqb other id) ids ≡ None = absent (λ other. eqb other id) ids found in absurd (cc)

-- the first event of a round has a node, and no other one is for that
pub record IsFirst (sent : Sent) (event : ClusterEvent) (others : List ClusterEvent) : Type 0 where
  pub id : ℕ
  pub node : node_of sent event ≡ Some id
  pub alone : list_any (is_for sent id) others ≡ false
  pub round : is_round sent others ≡ true

pub first_of_round : (sent : Sent) (event : ClusterEvent) (others : List ClusterEvent) → is_round sent (event ∷ others) ≡ true → IsFirst sent event others
first_of_round sent event others h =
    let (apart, round) = and_parts (is_apart_from sent (node_of sent event) others) (is_round sent others) h in go (node_of sent event) refl apart round
  where
    go : (w : Option ℕ) → node_of sent event ≡ w → is_apart_from sent w others ≡ true → is_round sent others ≡ true → IsFirst sent event others
    go None is apart round = absurd (cc)
    go (Some id) is apart round = record { id = id; node = is; alone = not-true (list_any (is_for sent id) others) apart; round = round }

-- events for one place are for one node
same_node : (sent : Sent) (ids : List ℕ) (place id : ℕ) (event : ClusterEvent) → place_by ids (Some id) ≡ Some place → place_by ids (node_of sent event) ≡ Some place → is_for sent id event ≡ true
same_node sent ids place id event first here = go (node_of sent event) here
  where
    go : (w : Option ℕ) → place_by ids w ≡ Some place → is_that w id ≡ true
    go None none = absurd (cc)
    go (Some other) at =
        let a = id_there ids id place first in
        let b = id_there ids other place at in
        let same : other ≡ id = cc in eq-eqb other id same

-- the events behind the first are for other places
other_place : (sent : Sent) (ids : List ℕ) (place : ℕ) (first event : ClusterEvent) (others : List ClusterEvent) (at : ℕ) → is_round sent (first ∷ others) ≡ true → slice_get others at ≡ Some event
    → place_by ids (node_of sent event) ≡ Some place → place_by ids (node_of sent first) ≡ Some place → ⊥
other_place sent ids place first event others at round there at_event at_first =
    let f = first_of_round sent first others round in
    let yes = same_node sent ids place f.id event (ap (place_by ids) (sym f.node) ∙ at_first) at_event in
    let no = none_any (is_for sent f.id) others at event f.alone there in absurd (cc)

-- what stands first among events for this place is the event that it is for
pub its_event : (sent : Sent) (ids : List ℕ) (place : ℕ) (event first : ClusterEvent) (others : List ClusterEvent) (at : ℕ) → is_round sent (first ∷ others) ≡ true → slice_get (first ∷ others) at ≡ Some event
    → place_by ids (node_of sent first) ≡ Some place → place_by ids (node_of sent event) ≡ Some place → event ≡ first
its_event sent ids place event first others zero round there here at_event = cc
its_event sent ids place event first others (suc at) round there here at_event =
    absurd (other_place sent ids place first event others at round there at_event here)

some_is : {A : Type 0} (x y : A) → Some x ≡ Some y → x ≡ y
some_is x y e = cc

-- nodes of the same ids have one at the same place
record HasSameId {N : Type 0} (acts : NodeActs N) (nodes : List N) (place : ℕ) (node : N) : Type 0 where
  pub node' : N
  pub there : slice_get nodes place ≡ Some node'
  pub id : acts.id node' ≡ acts.id node

beside_id : {N : Type 0} (acts : NodeActs N) (nodes now : List N) → map acts.id now ≡ map acts.id nodes → (place : ℕ) (node : N) → slice_get now place ≡ Some node → HasSameId acts nodes place node
beside_id acts nodes now same place node there = go (slice_get nodes place) refl
  where
    at : option_map acts.id (slice_get nodes place) ≡ Some (acts.id node)
    at = sym (slice_get-map acts.id nodes place) ∙ ap (λ l. slice_get l place) (sym same) ∙ mapped_at acts.id now place node there

    go : (w : Option _) → slice_get nodes place ≡ w → HasSameId acts nodes place node
    go (Some n) is = record { node' = n; there = is; id = some_is (acts.id n) (acts.id node) (sym (ap (option_map acts.id) is) ∙ at) }
    go None is = let none : None ≡ Some (acts.id node) = sym (ap (option_map acts.id) is) ∙ at in absurd (cc)

module _ {N : Type 0} (acts : NodeActs N) (ids : List ℕ) (sent : Sent) (history : List Recorded) (events : List ClusterEvent) where
  -- a round on the way: the events that are left, the nodes as if the others had come one after another, what they are, what they answered
  -- ahead, what happened so far, and the frames
  pub record IsUnderWay (left : List ClusterEvent) (nodes now : List N) (answers : List (Option Answer)) (records : List Recorded) (later : Sent) : Type 0 where
    pub ahead : AreAhead acts ids sent history events left nodes now answers
    pub round : is_round sent left ≡ true
    pub within : (at : ℕ) (event : ClusterEvent) → slice_get left at ≡ Some event → IsIn events event
    pub past : AllByRecursion (IsPast sent events left) records
    pub grows : Grows sent later

  -- whoever's turn it is has answered its own event, and that holds
  pub at_turn : (event : ClusterEvent) (others : List ClusterEvent) (nodes now : List N) (answers : List (Option Answer)) (records : List Recorded) (later : Sent) (place : ℕ) (before node : N) (answer : Option Answer)
      → IsUnderWay (event ∷ others) nodes now answers records later → place_by ids (node_of sent event) ≡ Some place → slice_get nodes place ≡ Some before → slice_get now place ≡ Some node → slice_get answers place ≡ Some answer
      → IsAtTurn acts later (history ++ records) event before node answer
  at_turn event others nodes now answers records later place before node answer way here old new has = go answer (way.ahead.parts place before node answer old new has)
    where
      go : (a : Option Answer) → HasPart acts ids sent history events (event ∷ others) place before node a → IsAtTurn acts later (history ++ records) event before node a
      go None part = part
      go (Some a) part =
          let f = first_of_round sent event others way.round in
          let same = same_frame sent later event f.id way.grows f.node in
          let is : part.event ≡ event = its_event sent ids place part.event event others part.among.0 way.round part.among.1 here part.here in
          let P : ClusterEvent → Type 0 = λ e. IsFree acts sent history events before e in
          let Q : ClusterEvent → Type 0 = λ e. IsAnswered acts sent e before a node in
          record {
            free = still_free acts sent later events (event ∷ others) history records event 0 before refl way.past same (subst P is part.free);
            answered = answered_later acts sent later event before node a same.frame (subst Q is part.answered);
          }

  -- the turn of an event is over where no node has an answer to it
  passes : (event : ClusterEvent) (others : List ClusterEvent) (nodes now : List N) (answers : List (Option Answer)) → AreAhead acts ids sent history events (event ∷ others) nodes now answers
      → ((place : ℕ) (answer : Answer) → slice_get answers place ≡ Some (Some answer) → place_by ids (node_of sent event) ≡ Some place → ⊥)
      → AreAhead acts ids sent history events others nodes now answers
  passes event others nodes now answers ahead none =
      record {
        ids_before = ahead.ids_before;
        ids_now = ahead.ids_now;
        each = ahead.each;
        parts = λ place old new answer before is has. go place old new answer has (ahead.parts place old new answer before is has);
      }
    where
      rest : (place at : ℕ) (old new : N) (a : Answer) (part : IsAheadOf acts ids sent history events (event ∷ others) place old new a) → slice_get (event ∷ others) at ≡ Some part.event → slice_get answers place ≡ Some (Some a) → IsIn others part.event
      rest place zero old new a part there has =
          let is : event ≡ part.event = cc in absurd (none place a has (ap (λ e. place_by ids (node_of sent e)) is ∙ part.here))
      rest place (suc at) old new a part there has = (at, there)

      go : (place : ℕ) (old new : N) (answer : Option Answer) → slice_get answers place ≡ Some answer → HasPart acts ids sent history events (event ∷ others) place old new answer → HasPart acts ids sent history events others place old new answer
      go place old new None has part = part
      go place old new (Some a) has part =
          record {
            event = part.event;
            among = rest place part.among.0 old new a part part.among.1 has;
            here = part.here;
            free = part.free;
            answered = part.answered;
          }

  past_more : (event : ClusterEvent) (others : List ClusterEvent) (records : List Recorded) → AllByRecursion (IsPast sent events (event ∷ others)) records → AllByRecursion (IsPast sent events others) records
  past_more event others [] past = tt
  past_more event others (r ∷ rs) past =
      (record { among = past.0.among; apart = λ at id other there node. past.0.apart (suc at) id other there node }, past_more event others rs past.1)

  -- the turn of the first event that is left
  pub record Turn (event : ClusterEvent) (others : List ClusterEvent) (o : EventOutcome) (nodes : List N) (answers : List (Option Answer)) (records : List Recorded) (later : Sent) (now' : List N) (answers' : List (Option Answer)) (later' : Sent) : Type 0 where
    pub behind : List N
    pub happens : Happens acts nodes later (history ++ records) event o behind later'
    pub stays : (place : ℕ) → (place_by ids (node_of sent event) ≡ Some place → ⊥) → slice_get behind place ≡ slice_get nodes place
    pub keeps : (place : ℕ) → (place_by ids (node_of sent event) ≡ Some place → ⊥) → slice_get answers' place ≡ slice_get answers place
    pub way : IsUnderWay others behind now' answers' (records ++ record { event = event; outcome = o } ∷ []) later'

  -- the event at its turn is past, and those that are left are apart from it
  now_past : (event : ClusterEvent) (others : List ClusterEvent) (o : EventOutcome) (nodes now : List N) (answers : List (Option Answer)) (records : List Recorded) (later : Sent) → IsUnderWay (event ∷ others) nodes now answers records later
      → AllByRecursion (IsPast sent events others) (records ++ record { event = event; outcome = o } ∷ [])
  now_past event others o nodes now answers records later way =
      let f = first_of_round sent event others way.round in
      all_push (IsPast sent events others) records (record { event = event; outcome = o }) (past_more event others records way.past)
      (record {
        among = way.within 0 event refl;
        apart = λ at id other there node. apart f.id id at other f.node (none_any (is_for sent f.id) others at other f.alone there) node;
      })
    where
      turned : (a b : ℕ) → eqb a b ≡ false → eqb b a ≡ false
      turned a b h = grind arith

      apart : (own id at : ℕ) (other : ClusterEvent) → node_of sent event ≡ Some own → is_for sent own other ≡ false → node_of sent other ≡ Some id → is_for sent id event ≡ false
      apart own id at other is none node =
          let no : eqb id own ≡ false = sym (ap (λ w. is_that w own) node) ∙ none in ap (λ w. is_that w id) is ∙ turned id own no

  later_way : (event : ClusterEvent) (others : List ClusterEvent) (o : EventOutcome) (nodes now behind now' : List N) (answers answers' : List (Option Answer)) (records : List Recorded) (later later' : Sent) → IsUnderWay (event ∷ others) nodes now answers records later
      → AreAhead acts ids sent history events others behind now' answers' → Happens acts nodes later (history ++ records) event o behind later' → IsUnderWay others behind now' answers' (records ++ record { event = event; outcome = o } ∷ []) later'
  later_way event others o nodes now behind now' answers answers' records later later' way ahead happens =
      record {
        ahead = ahead;
        round = (first_of_round sent event others way.round).round;
        within = λ at x there. way.within (suc at) x there;
        past = now_past event others o nodes now answers records later way;
        grows = λ group k frame there. grows acts nodes behind later later' (history ++ records) event o happens group k frame (way.grows group k frame there);
      }

  -- an event for which there is no node
  nowhere : (event : ClusterEvent) (others : List ClusterEvent) (o : EventOutcome) (nodes now now' : List N) (answers answers' : List (Option Answer)) (records : List Recorded) (later later' : Sent) → IsUnderWay (event ∷ others) nodes now answers records later
      → HasNoTurn acts later (history ++ records) event now answers o now' answers' later' → Turn event others o nodes answers records later now' answers' later'
  nowhere event others o nodes now now' answers answers' records later later' way h =
      let f = first_of_round sent event others way.round in
      let same = same_frame sent later event f.id way.grows f.node in
      let ids_same : map acts.id now ≡ map acts.id nodes = way.ahead.ids_now ∙ sym way.ahead.ids_before in
      let none : place_by ids (node_of sent event) ≡ None =
      ap (λ is. place_by is (node_of sent event)) (sym way.ahead.ids_now) ∙ ap (place_by (map acts.id now)) (sym same.node) ∙ sym (by_ids acts now (node_of later event)) ∙ h.nowhere in
      let missing : node_at acts nodes (node_of later event) ≡ None =
      found_nowhere acts nodes (node_of later event) (by_ids acts nodes (node_of later event) ∙ ap (λ is. place_by is (node_of later event)) (sym ids_same) ∙ sym (by_ids acts now (node_of later event)) ∙ h.nowhere) in
      let refused : refusal_in acts nodes later (history ++ records) event ≡ Some h.why =
      ap (λ n. refusal_of (standing_of acts n) (asked_of (history ++ records) later event) (cuts_of event)) missing ∙ sym h.refused in
      let P : Option ClusterRefusal → Type 0 = λ w. HappensBy acts w nodes later event o nodes later' in
      let happens = subst P (sym refused) (record { outcome = h.outcome; nodes = refl; sends = h.sends }) in
      let ahead = passes event others nodes now answers way.ahead (λ place a has at. absurd (no_place place none at)) in
      let A : List N → Type 0 = λ ns. AreAhead acts ids sent history events others nodes ns answers' in
      let B : List (Option Answer) → Type 0 = λ ws. AreAhead acts ids sent history events others nodes now ws in
      let ahead' = subst A (sym h.nodes) (subst B (sym h.left) ahead) in
      record {
        behind = nodes;
        happens = happens;
        stays = λ place no. refl;
        keeps = λ place no. ap (λ ws. slice_get ws place) h.left;
        way = later_way event others o nodes now nodes now' answers answers' records later later' way ahead' happens;
      }
    where
      no_place : (place : ℕ) → place_by ids (node_of sent event) ≡ None → place_by ids (node_of sent event) ≡ Some place → ⊥
      no_place place none at = absurd (cc)

  -- what a place has from now on
  put_there : (event : ClusterEvent) (others : List ClusterEvent) (nodes now : List N) (answers : List (Option Answer)) (place : ℕ) (before node behind : N) (answer : Option Answer) → AreAhead acts ids sent history events (event ∷ others) nodes now answers
      → slice_get nodes place ≡ Some before → slice_get now place ≡ Some node → slice_get answers place ≡ Some answer → acts.id behind ≡ acts.id before → acts.id behind ≡ acts.id node
      → AreAhead acts ids sent history events (event ∷ others) (slice_set nodes place behind) (slice_set now place behind) (slice_set answers place None)
  put_there event others nodes now answers place before node behind answer ahead old new has id_before id_now =
      record {
        ids_before = same_slots acts.id nodes place before behind old id_before ∙ ahead.ids_before;
        ids_now = same_slots acts.id now place node behind new id_now ∙ ahead.ids_now;
        each = length-set answers place None ∙ ahead.each ∙ sym (length-set now place behind);
        parts = λ at x y a. go at x y a (eqb at place) refl;
      }
    where
      go : (at : ℕ) (x y : N) (a : Option Answer) (b : Bool) → eqb at place ≡ b → slice_get (slice_set nodes place behind) at ≡ Some x → slice_get (slice_set now place behind) at ≡ Some y → slice_get (slice_set answers place None) at ≡ Some a → HasPart acts ids sent history events (event ∷ others) at x y a
      go at x y a true is e f h =
          let same : at ≡ place = eqb-true at place is in
          let x_is : behind ≡ x = some_is behind x (sym (set_at nodes place behind before old) ∙ ap (slice_get (slice_set nodes place behind)) (sym same) ∙ e) in
          let y_is : behind ≡ y = some_is behind y (sym (set_at now place behind node new) ∙ ap (slice_get (slice_set now place behind)) (sym same) ∙ f) in
          let a_is : None ≡ a = some_is None a (sym (set_at answers place None answer has) ∙ ap (slice_get (slice_set answers place None)) (sym same) ∙ h) in
          let P : Option Answer → Type 0 = λ w. HasPart acts ids sent history events (event ∷ others) at x y w in
          subst P a_is (sym y_is ∙ x_is)
      go at x y a false is e f h =
          let other = differ at place is in
          ahead.parts at x y a (sym (set_other nodes at place behind other) ∙ e) (sym (set_other now at place behind other) ∙ f) (sym (set_other answers at place None other) ∙ h)

  -- the event's node is at its turn
  there : (event : ClusterEvent) (others : List ClusterEvent) (o : EventOutcome) (nodes now now' : List N) (answers answers' : List (Option Answer)) (records : List Recorded) (later later' : Sent) → IsUnderWay (event ∷ others) nodes now answers records later
      → HasTurn acts later (history ++ records) event now answers o now' answers' later' → Turn event others o nodes answers records later now' answers' later'
  there event others o nodes now now' answers answers' records later later' way h =
      let f = first_of_round sent event others way.round in
      let same = same_frame sent later event f.id way.grows f.node in
      let ids_same : map acts.id now ≡ map acts.id nodes = way.ahead.ids_now ∙ sym way.ahead.ids_before in
      let first : place_in acts nodes (node_of later event) ≡ Some h.place =
      by_ids acts nodes (node_of later event) ∙ ap (λ is. place_by is (node_of later event)) (sym ids_same) ∙ sym (by_ids acts now (node_of later event)) ∙ h.here in
      let here : place_by ids (node_of sent event) ≡ Some h.place =
      ap (λ is. place_by is (node_of sent event)) (sym way.ahead.ids_now) ∙ ap (place_by (map acts.id now)) (sym same.node) ∙ sym (by_ids acts now (node_of later event)) ∙ h.here in
      let was = beside_id acts nodes now ids_same h.place h.node h.there in
      let happened = h.happens was.node' (at_turn event others nodes now answers records later h.place was.node' h.node h.answer way here was.there h.there h.answered) in
      let happens = happens_there acts nodes later later' (history ++ records) event o h.place was.node' h.behind first was.there happened in
      let id_before = id_at acts was.node' h.behind later later' (history ++ records) event o happened in
      let put = put_there event others nodes now answers h.place was.node' h.node h.behind h.answer way.ahead was.there h.there h.answered id_before (id_before ∙ was.id) in
      let ahead = passes event others (slice_set nodes h.place h.behind) (slice_set now h.place h.behind) (slice_set answers h.place None) put
      (λ place a has at. no_answer place a (some_is h.place place (sym here ∙ at)) has h.answered) in
      let A : List N → Type 0 = λ ns. AreAhead acts ids sent history events others (slice_set nodes h.place h.behind) ns answers' in
      let B : List (Option Answer) → Type 0 = λ ws. AreAhead acts ids sent history events others (slice_set nodes h.place h.behind) (slice_set now h.place h.behind) ws in
      let ahead' = subst A (sym h.nodes) (subst B (sym h.left) ahead) in
      record {
        behind = slice_set nodes h.place h.behind;
        happens = happens;
        stays = λ place no. set_other nodes place h.place h.behind (λ is. no (here ∙ ap Some (sym is)));
        keeps = λ place no. ap (λ ws. slice_get ws place) h.left ∙ set_other answers place h.place None (λ is. no (here ∙ ap Some (sym is)));
        way = later_way event others o nodes now (slice_set nodes h.place h.behind) now' answers answers' records later later' way ahead' happens;
      }
    where
      no_answer : (place : ℕ) (a : Answer) → h.place ≡ place → slice_get (slice_set answers h.place None) place ≡ Some (Some a) → slice_get answers h.place ≡ Some h.answer → ⊥
      no_answer place a is has answered =
          let none = set_at answers h.place None h.answer answered in
          let some : slice_get (slice_set answers h.place None) h.place ≡ Some (Some a) = ap (slice_get (slice_set answers h.place None)) is ∙ has in absurd (cc)

  pub turned : (event : ClusterEvent) (others : List ClusterEvent) (o : EventOutcome) (nodes now now' : List N) (answers answers' : List (Option Answer)) (records : List Recorded) (later later' : Sent) → IsUnderWay (event ∷ others) nodes now answers records later
      → IsTurned acts later (history ++ records) event now answers o now' answers' later' → Turn event others o nodes answers records later now' answers' later'
  turned event others o nodes now now' answers answers' records later later' way (inl h) = there event others o nodes now now' answers answers' records later later' way h
  turned event others o nodes now now' answers answers' records later later' way (inr h) = nowhere event others o nodes now now' answers answers' records later later' way h

  -- a node without an answer is the one that it would be if the events so far had come one after another
  pub unanswered : (left : List ClusterEvent) (nodes now : List N) (answers : List (Option Answer)) (place : ℕ) (node : N) → AreAhead acts ids sent history events left nodes now answers
      → slice_get now place ≡ Some node → slice_get answers place ≡ Some None → slice_get nodes place ≡ Some node
  unanswered left nodes now answers place node ahead there none =
      let was = beside_id acts nodes now (ahead.ids_now ∙ sym ahead.ids_before) place node there in
      let same : node ≡ was.node' = ahead.parts place was.node' node None was.there there none in was.there ∙ ap Some (sym same)

  -- where the event's node stands that lacks memory for it
  pub record HasPlace (event : ClusterEvent) (nodes : List N) (place : ℕ) (node : N) : Type 0 where
    pub here : place_by ids (node_of sent event) ≡ Some place
    pub there : slice_get nodes place ≡ Some node

  pub its_place : (event : ClusterEvent) (others : List ClusterEvent) (nodes now : List N) (answers : List (Option Answer)) (records : List Recorded) (later : Sent) → IsUnderWay (event ∷ others) nodes now answers records later
      → (h : WantsMemory acts later (history ++ records) event now answers) → HasPlace event nodes h.place h.node
  its_place event others nodes now answers records later way h =
      let f = first_of_round sent event others way.round in
      let same = same_frame sent later event f.id way.grows f.node in
      record {
        here = ap (λ is. place_by is (node_of sent event)) (sym way.ahead.ids_now) ∙ ap (place_by (map acts.id now)) (sym same.node) ∙ sym (by_ids acts now (node_of later event)) ∙ h.here;
        there = unanswered (event ∷ others) nodes now answers h.place h.node way.ahead h.there h.unanswered;
      }

-- ---- all events of a round

module _ {N : Type 0} (acts : NodeActs N) where
  -- a crash that nothing turns away at its turn was turned away by nothing before the round either
  free_before : (sent later : Sent) (history behind : List Recorded) (event : ClusterEvent) (node : N) → is_crash event ≡ true → refusal_for acts node later behind event ≡ None → refusal_for acts node sent history event ≡ None
  free_before sent later history behind (AddGroup n group) node crash free = absurd (cc)
  free_before sent later history behind (Ask n group call now) node crash free = absurd (cc)
  free_before sent later history behind (Deliver group number cuts now) node crash free = absurd (cc)
  free_before sent later history behind (ResetPeer n peer) node crash free = absurd (cc)
  free_before sent later history behind (Clean n) node crash free = absurd (cc)
  free_before sent later history behind (Fuse n first_refused) node crash free = absurd (cc)
  free_before sent later history behind (Crash n choice) node crash free = free
  free_before sent later history behind (Reopen n workers) node crash free = absurd (cc)

  -- what a node refuses is a crash
  crash_refused : (event : ClusterEvent) (node : N) (why : CrashRefusal) → RefusesFor acts event node why → is_crash event ≡ true
  crash_refused (AddGroup n group) node why refuses = absurd refuses
  crash_refused (Ask n group call now) node why refuses = absurd refuses
  crash_refused (Deliver group number cuts now) node why refuses = absurd refuses
  crash_refused (ResetPeer n peer) node why refuses = absurd refuses
  crash_refused (Clean n) node why refuses = absurd refuses
  crash_refused (Fuse n first_refused) node why refuses = absurd refuses
  crash_refused (Crash n choice) node why refuses = refl
  crash_refused (Reopen n workers) node why refuses = absurd refuses

  module _ (ids : List ℕ) (sent : Sent) (past : List Recorded) (events : List ClusterEvent) (before : List N) (waiting : List (Option Answer)) where
    -- these events had their turns, and those are left
    pub record HaveHadTurns (done left : List ClusterEvent) (now : List N) (answers : List (Option Answer)) (history : List Recorded) (later : Sent) : Type 0 where
      pub nodes : List N
      pub records : List Recorded
      pub same : history ≡ past ++ records
      pub ran : events_of records ≡ done
      pub runs : RunsTo acts before sent past records nodes later
      pub way : IsUnderWay acts ids sent past events left nodes now answers records later
      -- the nodes whose events are left are as they were before the round, and so are their answers
      pub still : (at place : ℕ) (event : ClusterEvent) → slice_get left at ≡ Some event → place_by ids (node_of sent event) ≡ Some place → slice_get nodes place ≡ slice_get before place
      pub kept : (at place : ℕ) (event : ClusterEvent) → slice_get left at ≡ Some event → place_by ids (node_of sent event) ≡ Some place → slice_get answers place ≡ slice_get waiting place

    pub at_first : (now : List N) → is_round sent events ≡ true → AreAhead acts ids sent past events events before now waiting → HaveHadTurns [] events now waiting past sent
    at_first now round ahead =
        record {
          nodes = before;
          records = [];
          same = sym (append-nil past);
          ran = refl;
          runs = (refl, refl);
          way = record {
            ahead = ahead;
            round = round;
            within = λ at event there. (at, there);
            past = tt;
            grows = λ group k frame there. there;
          };
          still = λ at place event there here. refl;
          kept = λ at place event there here. refl;
        }

    pub had_turn : (done others : List ClusterEvent) (event : ClusterEvent) (o : EventOutcome) (now now' : List N) (answers answers' : List (Option Answer)) (history history' : List Recorded) (later later' : Sent)
        → HaveHadTurns done (event ∷ others) now answers history later → IsTurned acts later history event now answers o now' answers' later' → history' ≡ history ++ record { event = event; outcome = o } ∷ []
        → HaveHadTurns (done ++ event ∷ []) others now' answers' history' later'
    had_turn done others event o now now' answers answers' history history' later later' had h pushed =
        let r : Recorded = record { event = event; outcome = o } in
        let P : List Recorded → Type 0 = λ hs. IsTurned acts later hs event now answers o now' answers' later' in
        let t = turned acts ids sent past events event others o had.nodes now now' answers answers' had.records later later' had.way (subst P had.same h) in
        record {
          nodes = t.behind;
          records = had.records ++ r ∷ [];
          same = pushed ∙ ap (λ l. l ++ r ∷ []) had.same ∙ append_assoc past had.records (r ∷ []);
          ran = map-append (λ (x : Recorded). x.event) had.records (r ∷ []) ∙ ap (λ es. es ++ event ∷ []) had.ran;
          runs = runs_on acts before sent past had.records had.nodes later r t.behind later' had.runs t.happens;
          way = t.way;
          still = λ at place e there here.
              t.stays place (λ is. other_place sent ids place event e others at had.way.round there here is) ∙ had.still (suc at) place e there here;
          kept = λ at place e there here.
              t.keeps place (λ is. other_place sent ids place event e others at had.way.round there here is) ∙ had.kept (suc at) place e there here;
        }

    -- at no turn a node lacks memory where the crashes were asked for
    pub none_lacks : (done others : List ClusterEvent) (event : ClusterEvent) (now : List N) (answers : List (Option Answer)) (history : List Recorded) (later : Sent)
        → HaveHadTurns done (event ∷ others) now answers history later → AreAsked acts ids sent past events before waiting → WantsMemory acts later history event now answers → ⊥
    none_lacks done others event now answers history later had asked wants =
        let P : List Recorded → Type 0 = λ hs. WantsMemory acts later hs event now answers in
        let w = subst P had.same wants in
        let at_place = its_place acts ids sent past events event others had.nodes now answers had.records later had.way w in
        let there : slice_get before w.place ≡ Some w.node = sym (had.still 0 w.place event refl at_place.here) ∙ at_place.there in
        let none : slice_get waiting w.place ≡ Some None = sym (had.kept 0 w.place event refl at_place.here) ∙ w.unanswered in
        let crash = crash_refused event w.node Memory w.refuses in
        let (at, among) = had.way.within 0 event refl in
        asked at event among w.place w.node crash at_place.here there none (free_before sent later past (past ++ had.records) event w.node crash w.admitted)

    -- where no event is left the nodes are what they are, and nobody has an answer left
    settled_part : (place : ℕ) (old new : N) (answer : Option Answer) → HasPart acts ids sent past events [] place old new answer → (new ≡ old) × (answer ≡ None)
    settled_part place old new None part = (part, refl)
    settled_part place old new (Some a) part = let there = part.among.1 in absurd (cc)

    all_settled : (nodes now : List N) (answers : List (Option Answer)) → length now ≡ length nodes → length answers ≡ length now
        → ((place : ℕ) (old new : N) (answer : Option Answer) → slice_get nodes place ≡ Some old → slice_get now place ≡ Some new → slice_get answers place ≡ Some answer → (new ≡ old) × (answer ≡ None)) → (now ≡ nodes) × are_idle answers
    all_settled [] [] [] l m parts = (refl, tt)
    all_settled [] [] (a ∷ ws) l m parts = absurd (omega arith)
    all_settled [] (y ∷ ys) answers l m parts = absurd (omega arith)
    all_settled (x ∷ xs) [] answers l m parts = absurd (omega arith)
    all_settled (x ∷ xs) (y ∷ ys) [] l m parts = absurd (omega arith)
    all_settled (x ∷ xs) (y ∷ ys) (a ∷ ws) l m parts =
        let rest = all_settled xs ys ws (omega arith) (omega arith) (λ place old new answer e f h. parts (suc place) old new answer e f h) in
        let here = parts zero x y a refl refl refl in (ap (λ z. z ∷ ys) here.0 ∙ ap (λ l. x ∷ l) rest.0, (here.1, rest.1))

    pub at_last : (done : List ClusterEvent) (now : List N) (answers : List (Option Answer)) (history : List Recorded) (later : Sent) → HaveHadTurns done [] now answers history later → TakesTurns acts sent past before done now answers later history
    at_last done now answers history later had =
        let ahead = had.way.ahead in
        let lengths : length now ≡ length had.nodes =
        sym (length-map now acts.id) ∙ ap length (ahead.ids_now ∙ sym ahead.ids_before) ∙ length-map had.nodes acts.id in
        let all = all_settled had.nodes now answers lengths ahead.each (λ place old new answer e f h. settled_part place old new answer (ahead.parts place old new answer e f h)) in
        let P : List N → Type 0 = λ ns. RunsTo acts before sent past had.records ns later in
        record {
          records = had.records;
          history = had.same;
          events = had.ran;
          runs = subst P (sym all.0) had.runs;
          idle = all.1;
        }

  -- ---- where no node has an answer

  idle_there : (answers : List (Option Answer)) → are_idle answers → (place : ℕ) (answer : Option Answer) → slice_get answers place ≡ Some answer → answer ≡ None
  idle_there [] idle place answer there = absurd (cc)
  idle_there (w ∷ ws) idle zero answer there = let is : w ≡ answer = cc in sym is ∙ idle.0
  idle_there (w ∷ ws) idle (suc place) answer there = idle_there ws idle.1 place answer there

  idle_put : (answers : List (Option Answer)) → are_idle answers → (place : ℕ) → are_idle (slice_set answers place None)
  idle_put [] idle place = tt
  idle_put (w ∷ ws) idle zero = (refl, idle.1)
  idle_put (w ∷ ws) idle (suc place) = (idle.0, idle_put ws idle.1 place)

  pub record Stepped (sent : Sent) (history : List Recorded) (event : ClusterEvent) (o : EventOutcome) (now now' : List N) (answers' : List (Option Answer)) (later : Sent) : Type 0 where
    pub happens : Happens acts now sent history event o now' later
    pub idle : are_idle answers'

  -- an event outside of rounds
  pub stepped : (sent later : Sent) (history : List Recorded) (event : ClusterEvent) (o : EventOutcome) (now now' : List N) (answers answers' : List (Option Answer)) → are_idle answers → IsTurned acts sent history event now answers o now' answers' later → Stepped sent history event o now now' answers' later
  stepped sent later history event o now now' answers answers' idle (inl h) =
      let none = idle_there answers idle h.place h.answer h.answered in
      let P : Option Answer → Type 0 = λ w. IsAtTurn acts sent history event h.node h.node w in
      let happens = happens_there acts now sent later history event o h.place h.node h.behind h.here h.there (h.happens h.node (subst P (sym none) refl)) in
      let Q : List N → Type 0 = λ ns. Happens acts now sent history event o ns later in
      record { happens = subst Q (sym h.nodes) happens; idle = subst are_idle (sym h.left) (idle_put answers idle h.place) }
  stepped sent later history event o now now' answers answers' idle (inr h) =
      let missing = found_nowhere acts now (node_of sent event) h.nowhere in
      let refused : refusal_in acts now sent history event ≡ Some h.why = ap (λ n. refusal_of (standing_of acts n) (asked_of history sent event) (cuts_of event)) missing ∙ sym h.refused in
      let P : Option ClusterRefusal → Type 0 = λ w. HappensBy acts w now sent event o now' later in
      record { happens = subst P (sym refused) (record { outcome = h.outcome; nodes = h.nodes; sends = h.sends }); idle = subst are_idle (sym h.left) idle }

  -- ---- a round behind a history

  runs_both : (nodes mid new : List N) (sent gone later : Sent) (history xs ys : List Recorded) → RunsTo acts nodes sent history xs mid gone → RunsTo acts mid gone (history ++ xs) ys new later → RunsTo acts nodes sent history (xs ++ ys) new later
  runs_both nodes mid new sent gone later history [] ys (same, kept) rest =
      let P : List N → Type 0 = λ ns. RunsTo acts ns gone (history ++ []) ys new later in
      let Q : Sent → Type 0 = λ s. RunsTo acts nodes s (history ++ []) ys new later in
      let R : List Recorded → Type 0 = λ h. RunsTo acts nodes sent h ys new later in
      subst R (append-nil history) (subst Q kept (subst P same rest))
  runs_both nodes mid new sent gone later history (x ∷ xs) ys (between, passed, first, more) rest =
      let P : List Recorded → Type 0 = λ h. RunsTo acts mid gone h ys new later in
      (between, passed, first, runs_both between mid new passed gone later (history ++ x ∷ []) xs ys more (subst P (sym (append_assoc history (x ∷ []) xs)) rest))

  pub reached_on : (sent later : Sent) (history behind : List Recorded) (nodes now : List N) (asked : List ClusterEvent) (answers : List (Option Answer)) → IsReached acts nodes sent history → TakesTurns acts sent history nodes asked now answers later behind → IsReached acts now later behind
  reached_on sent later history behind nodes now asked answers reached turns =
      let P : List Recorded → Type 0 = λ h. RunsTo acts reached.first nothing_sent [] h now later in
      record {
        first = reached.first;
        new = reached.new;
        runs = subst P (sym turns.history) (runs_both reached.first nodes now nothing_sent sent later [] history turns.records reached.runs turns.runs);
      }

  pub rounds_so : (old new : ClusterValue N) (asked : List ClusterEvent) (count : ℕ) (answers : List (Option Answer)) → RunsFront acts (frames_of old.sent) old.history old.nodes asked count new.nodes answers (frames_of new.sent) new.history → Rounds acts old asked count new
  rounds_so old new asked count answers front =
      let turns = front.turns in
      record {
        within = front.within;
        runs = record { records = turns.records; history = turns.history; events = turns.events; runs = turns.runs };
        ends = front.ends;
      }
