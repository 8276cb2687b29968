-- Runs of a world: how it begins, and what holds however far its events were run.
use Rattle.std.specs.Prelude.{◌≡◌, ◌⊎◌, ◌==◌, ℕ, suc, ◌+◌, ◌<◌, ◌≤◌, ◌^◌, IsTrue, Bool, true, false, List, [], ◌∷◌, ◌++◌, ◌||◌, map, take, length, slice_get, Option, Some, None, is_some, Vec, refl}
use Rattle.std.proofs.Common.{sym, ap, ◌∙◌, subst, inl, inr, cond, arith, append_assoc}
use Rattle.std.proofs.lemmas.List.{append-nil, map-append, take_all, take_more}
use Rattle.std.specs.List.{slice_index_or as get_or}
use Rattle.std.specs.declared.alloc.Global.{Global}
use Rattle.std.proofs.lemmas.Bool.{eqb-true, eqb-false, eq-eqb, ne_eqb}
use Rattle.raft_group_step.specs.Values.{has_id}
use Rattle.raft_group_step.specs.GroupState.{GroupState, no_group, state_of}
use Rattle.raft_laws.specs.declared.world_event.WorldEvent.{WorldEvent}
use Rattle.raft_laws.specs.declared.world_event.WorldEvent.TheVariants.{Add}
use Rattle.raft_group_step.specs.GroupEvent.{AddGroup, Open}
use Rattle.raft_messages.specs.Messages.{message_of}
use Rattle.raft_world.specs.Settled.{led_of}
use Rattle.raft_laws.specs.NodeEvent.{NodeEvent, Comes, Crashes, Halts, Restarts, outcome_at, state_after}
use Rattle.raft_laws.specs.GroupWorld.{GroupWorld, NodeState, Absent, Up, Down, Outcome, Done, Refused, Stopped, Skipped, Recorded, is_stop, new_world, state_or}
use Rattle.raft_laws.specs.GroupRun.{Scene, Nowhere, At, group_run, history_of, led_after, outcome_of, ran, scene_of, sent_in, setup_after, stop_at}
use Rattle.raft_laws.specs.OneList.{AreNodeIds, IsGroupHistory}
use Rattle.raft_laws.proofs.Committed.{applied_holds, committed_holds, snapshot_front}
use Rattle.raft_laws.proofs.GroupList.{goes_on, is_list, list_grows}
use Rattle.raft_laws.proofs.Histories.{histories-join}
use Rattle.raft_laws.proofs.ListLaws.{leaders_hold, log_ids_agree}
use Rattle.raft_laws.proofs.Runs.{run-replays}
use Rattle.raft_laws.proofs.StepOrder.{step-keeps}
use Rattle.raft_laws.proofs.SentVotes.{sent_votes_stay}
use Rattle.raft_laws.proofs.VotesRise.{votes_rise}
use Rattle.raft_laws.proofs.WorldStart.{founded}
use Rattle.raft_laws.proofs.WorldTold.{run_both}
use Rattle.raft_world.specs.Member.{IsUp}
use Rattle.raft_world.specs.World.{AllStoreRightly, AreMarks, AreNodes, All, Broke, HasBroken, HasMarked, HasRunEvents, IsNodeAt, IsWorldOf, KeepsTheLaws, RunEnd, StoresRightly, StoresRightlyIn, additions, begun_world, last_of, member_of, planned_of, rest_of}
use Rattle.raft_world.specs.declared.member.Member.{Member}
use Rattle.raft_world.specs.declared.world.Mark.{Mark}
use Rattle.raft_world.specs.declared.world.World.{World}
use Rattle.raft_world.specs.declared.world.PlannedEvent.{PlannedEvent}

-- ---- runs

-- a run goes on from a history
pub history_after : (ids : List ℕ) (rs : List Recorded) (g : GroupWorld) (es : List (WorldEvent × Option ℕ)) → IsGroupHistory ids rs g → IsGroupHistory ids (rs ++ history_of es g) (group_run es g)
history_after ids rs g es h = record {
  node_ids = h.node_ids;
  replays = histories-join rs (history_of es g) (new_world ids) g (group_run es g) h.replays (run-replays es g);
}

-- the world to which a history leads keeps the laws
laws_kept : (ids : List ℕ) (rs : List Recorded) (g : GroupWorld) → IsGroupHistory ids rs g → KeepsTheLaws g
laws_kept ids rs g h =
    let f = founded ids h.node_ids rs g h.replays in
    record {
      one_list = is_list f.membership f.some g f.is;
      leaders = leaders_hold ids rs g h;
      committed = committed_holds ids rs g h;
      applied = applied_holds ids rs g h;
      snapshots = snapshot_front ids rs g h;
      log_ids = log_ids_agree ids rs g h;
      sent_votes = sent_votes_stay ids rs g h.replays;
    }

-- each step stores in order
stores_rightly : (n : ℕ) (e : NodeEvent) (state : NodeState) → StoresRightly n e state
stores_rightly n e Absent = tt
stores_rightly n (Comes e) (Up s) = step-keeps n s e
stores_rightly n Crashes (Up s) = tt
stores_rightly n Halts (Up s) = tt
stores_rightly n Restarts (Up s) = tt
stores_rightly n (Comes e) (Down stored) = tt
stores_rightly n Crashes (Down stored) = tt
stores_rightly n Halts (Down stored) = tt
stores_rightly n Restarts (Down stored) = step-keeps n (state_of stored) Open

stores_rightly_in : (g : GroupWorld) (scene : Scene) → StoresRightlyIn g scene
stores_rightly_in g Nowhere = tt
stores_rightly_in g (At n e) = stores_rightly n e (g.nodes n)

all_store_rightly : (es : List (WorldEvent × Option ℕ)) (g : GroupWorld) → AllStoreRightly es g
all_store_rightly [] g = tt
all_store_rightly (e ∷ es) g = (stores_rightly_in g (scene_of g e.0), all_store_rightly es (ran g e.0 e.1))

-- however far they were run, the laws hold
pub has_run : (ids : List ℕ) (rs : List Recorded) (g : GroupWorld) (events : List PlannedEvent) (count : ℕ) (w : World) → IsGroupHistory ids rs g → (end : RunEnd events count (group_run (map planned_of (take count events)) g))
    → IsWorldOf w (group_run (map planned_of (take count events) ++ rest_of end) g) → HasRunEvents ids rs g events count w
has_run ids rs g events count w h end world =
    let es = map planned_of (take count events) ++ rest_of end in
    let last = group_run es g in
    let on = history_after ids rs g es h in
    let f = founded ids on.node_ids (rs ++ history_of es g) last on.replays in
    record {
      end = end;
      world = world;
      history = on;
      laws = laws_kept ids (rs ++ history_of es g) last on;
      goes_on = record {
        list = list_grows g last (goes_on (history_of es g) g last (run-replays es g)) (founded ids h.node_ids rs g h.replays) f;
        votes = votes_rise g last (history_of es g) (run-replays es g);
      };
      stores = all_store_rightly es g;
    }

pub run_all : (ids : List ℕ) (rs : List Recorded) (g : GroupWorld) (events : List PlannedEvent) (count : ℕ) (w : World) → IsGroupHistory ids rs g → count ≡ length events
    → IsWorldOf w (group_run (map planned_of (take count events)) g) → HasRunEvents ids rs g events count w
run_all ids rs g events count w h is world =
    has_run ids rs g events count w h (All is)
    (subst (λ es. IsWorldOf w (group_run es g)) (sym (append-nil (map planned_of (take count events)))) world)

pub run_broke : (ids : List ℕ) (rs : List Recorded) (g : GroupWorld) (events : List PlannedEvent) (count : ℕ) (w : World) (e : PlannedEvent) → IsGroupHistory ids rs g → slice_get events count ≡ Some e
    → HasBroken (group_run (map planned_of (take count events)) g) e.event w → HasRunEvents ids rs g events count w
run_broke ids rs g events count w e h is b =
    let middle = group_run (map planned_of (take count events)) g in
    has_run ids rs g events count w h (Broke e is b.break)
    (subst (IsWorldOf w) (sym (run_both (map planned_of (take count events)) (last_of middle e.event b.break ∷ []) g)) b.world)

-- ---- the beginning

abbrev pub begun : GroupState
begun = state_of (record no_group { present = true })

-- the members stand for the ids, one by one, and have the group and nothing in it
abbrev pub AreBegun : List Member → List ℕ → Type 0
AreBegun [] [] = Unit {0}
AreBegun [] (n ∷ ns) = ⊥
AreBegun (m ∷ ms) [] = ⊥
AreBegun (m ∷ ms) (n ∷ ns) = (m.replica.id ≡ n) × IsUp m begun × AreBegun ms ns

pub begun_more : (ms : List Member) (ns : List ℕ) (m : Member) (n : ℕ) → AreBegun ms ns → m.replica.id ≡ n → IsUp m begun → AreBegun (ms ++ (m ∷ [])) (ns ++ (n ∷ []))
begun_more [] [] m n h same up = (same, up, tt)
begun_more [] (k ∷ ns) m n h same up = absurd h
begun_more (x ∷ ms) [] m n h same up = absurd h
begun_more (x ∷ ms) (k ∷ ns) m n h same up = (h.0, h.1, begun_more ms ns m n h.2 same up)

begun_step : (b c : Bool) (m : Member) (o : Option Member) (rest : Bool) → b ≡ c → IsUp m begun → IsNodeAt o (state_or rest (Up begun) Absent) → IsNodeAt (cond b (Some m) o) (state_or (cond c true rest) (Up begun) Absent)
begun_step true true m o rest same up h = up
begun_step true false m o rest same up h = absurd (let no : true ≡ false = same in cc)
begun_step false true m o rest same up h = absurd (let no : false ≡ true = same in cc)
begun_step false false m o rest same up h = h

or_is : (b c : Bool) → cond b true c ≡ (b || c)
or_is true c = refl
or_is false c = refl

pub begun_nodes : (ms : List Member) (ns : List ℕ) → AreBegun ms ns → AreNodes ms (λ n. state_or (has_id ns n) (Up begun) Absent)
begun_nodes [] [] h n = refl
begun_nodes [] (k ∷ ns) h n = absurd h
begun_nodes (m ∷ ms) [] h n = absurd h
begun_nodes (m ∷ ms) (k ∷ ns) h n =
    subst (λ b. IsNodeAt (cond (m.replica.id == n) (Some m) (member_of n ms)) (state_or b (Up begun) Absent)) (or_is (k == n) (has_id ns n))
    (begun_step (m.replica.id == n) (k == n) m (member_of n ms) (has_id ns n) (ap (λ x. x == n) h.0) h.1 (begun_nodes ms ns h.2 n))

-- ---- the group is added at each node

-- a node that knows of no group, or has it and nothing in it
abbrev IsNew : NodeState → Type 0
IsNew Absent = Unit {0}
IsNew (Up s) = (s ≡ state_of no_group) ⊎ (s ≡ begun)
IsNew (Down st) = ⊥

abbrev added : NodeState → NodeState
added Absent = Absent
added (Up s) = Up begun
added (Down st) = Down st

-- a world where nothing was sent yet
record IsQuiet (g : GroupWorld) : Type 0 where
  messages : g.messages ≡ []
  setup : g.setup ≡ None
  led : g.led ≡ []
  new : (n : ℕ) → IsNew (g.nodes n)

abbrev here_of : ℕ → NodeState → Outcome
here_of m state = outcome_at m (Comes AddGroup) false state

abbrev left_of : ℕ → NodeState → NodeState
left_of m state = state_after m (Comes AddGroup) (stop_at (is_stop (here_of m state)) 0) state

abbrev AddsQuietly : ℕ → NodeState → Type 0
AddsQuietly m state = (left_of m state ≡ added state) × (sent_in (here_of m state) ≡ []) × (led_after (here_of m state) m (left_of m state) ≡ [])

adds_quietly : (m : ℕ) (state : NodeState) → IsNew state → AddsQuietly m state
adds_quietly m Absent h = (refl, refl, refl)
adds_quietly m (Up s) (inl e) = subst (λ (x : GroupState). AddsQuietly m (Up x)) (sym e) (refl, refl, refl)
adds_quietly m (Up s) (inr e) = subst (λ (x : GroupState). AddsQuietly m (Up x)) (sym e) (refl, refl, refl)
adds_quietly m (Down st) h = absurd h

still_new : (state : NodeState) → IsNew state → IsNew (added state)
still_new Absent h = tt
still_new (Up s) h = inr refl
still_new (Down st) h = absurd h

new_either : (b : Bool) (x y : NodeState) → IsNew x → IsNew y → IsNew (state_or b x y)
new_either true x y h k = h
new_either false x y h k = k

no_setup : (m : ℕ) (o : Outcome) → setup_after None (Add m) o ≡ None
no_setup m (Done sent told unknown) = refl
no_setup m (Refused why) = refl
no_setup m (Stopped unknown) = refl
no_setup m Skipped = refl

module _ (m : ℕ) (g : GroupWorld) (q : IsQuiet g) where
  quietly : AddsQuietly m (g.nodes m)
  quietly = adds_quietly m (g.nodes m) (q.new m)

  add_quiet : IsQuiet (ran g (Add m) None)
  add_quiet = record {
    messages = ap (λ l. l ++ sent_in (here_of m (g.nodes m))) q.messages ∙ quietly.1;
    setup = ap (λ k. setup_after k (Add m) (here_of m (g.nodes m))) q.setup ∙ no_setup m (here_of m (g.nodes m));
    led = ap (λ l. l ++ led_after (here_of m (g.nodes m)) m (left_of m (g.nodes m))) q.led ∙ quietly.2;
    new = λ n. new_either (n == m) (left_of m (g.nodes m)) (g.nodes n) (subst IsNew (sym quietly.0) (still_new (g.nodes m) (q.new m))) (q.new n);
  }

  add_nodes : (n : ℕ) → (ran g (Add m) None).nodes n ≡ state_or (n == m) (added (g.nodes m)) (g.nodes n)
  add_nodes n = ap (λ (x : NodeState). state_or (n == m) x (g.nodes n)) quietly.0

added_twice : (b : Bool) (state : NodeState) → state_or b (added (added state)) (added state) ≡ added state
added_twice true Absent = refl
added_twice true (Up s) = refl
added_twice true (Down st) = refl
added_twice false state = refl

-- a node that is among the first ones, or among the others
adds_next : (b c : Bool) (rest : Bool) (here state : NodeState) → b ≡ c → (b ≡ true → here ≡ state)
    → state_or rest (added (state_or b (added here) state)) (state_or b (added here) state) ≡ state_or (c || rest) (added state) state
adds_next true true rest here state e same =
    added_twice rest here ∙ ap added (same refl)
adds_next true false rest here state e same = absurd (let no : true ≡ false = e in cc)
adds_next false true rest here state e same = absurd (let no : false ≡ true = e in cc)
adds_next false false rest here state e same = refl

eq_both : (a b : ℕ) (t : Bool) → (a == b) ≡ t → (b == a) ≡ t
eq_both a b true e = eq-eqb b a (sym (eqb-true a b e))
eq_both a b false e = ne_eqb b a (λ is. eqb-false a b e (sym is))

add_all_quiet : (ids : List ℕ) (g : GroupWorld) → IsQuiet g → IsQuiet (group_run (additions ids) g)
add_all_quiet [] g q = q
add_all_quiet (m ∷ ids) g q = add_all_quiet ids (ran g (Add m) None) (add_quiet m g q)

add_all_nodes : (ids : List ℕ) (g : GroupWorld) → IsQuiet g → (n : ℕ) → (group_run (additions ids) g).nodes n ≡ state_or (has_id ids n) (added (g.nodes n)) (g.nodes n)
add_all_nodes [] g q n = refl
add_all_nodes (m ∷ ids) g q n =
    add_all_nodes ids (ran g (Add m) None) (add_quiet m g q) n
    ∙ ap (λ (x : NodeState). state_or (has_id ids n) (added x) x) (add_nodes m g q n)
    ∙ adds_next (n == m) (m == n) (has_id ids n) (g.nodes m) (g.nodes n) (sym (eq_both n m (n == m) refl)) (λ is. ap g.nodes (sym (eqb-true n m is)))

new_quiet : (ids : List ℕ) → IsQuiet (new_world ids)
new_quiet ids = record {
  messages = refl;
  setup = refl;
  led = refl;
  new = λ n. new_either (has_id ids n) (Up (state_of no_group)) Absent (inl refl) tt;
}

begins_so : (b : Bool) → state_or b (Up begun) Absent ≡ state_or b (added (state_or b (Up (state_of no_group)) Absent)) (state_or b (Up (state_of no_group)) Absent)
begins_so true = refl
begins_so false = refl

-- the members that were made are the world that begins
pub begins : (w : World) (ids : List ℕ) → AreBegun w.members.items ids → w.messages.items ≡ [] → w.setup ≡ None → w.led.items ≡ [] → IsWorldOf w (begun_world ids)
begins w ids h messages setup led =
    let q = add_all_quiet ids (new_world ids) (new_quiet ids) in
    record {
      nodes = λ n.
          subst (IsNodeAt (member_of n w.members.items)) (begins_so (has_id ids n) ∙ sym (add_all_nodes ids (new_world ids) (new_quiet ids) n)) (begun_nodes w.members.items ids h n);
      messages = ap (map message_of) messages ∙ sym q.messages;
      setup = setup ∙ sym q.setup;
      led = ap (map led_of) led ∙ sym q.led;
    }

pub history_begins : (ids : List ℕ) → AreNodeIds ids → IsGroupHistory ids (history_of (additions ids) (new_world ids)) (begun_world ids)
history_begins ids fit = record { node_ids = fit; replays = run-replays (additions ids) (new_world ids) }

-- ---- loops

-- one more event
pub run_more : (events : List PlannedEvent) (i : ℕ) (e : PlannedEvent) (g : GroupWorld) → i < length events → e ≡ get_or events i e
    → group_run (map planned_of (take (i + 1) events)) g ≡ ran (group_run (map planned_of (take i events)) g) e.event e.stop
run_more events i e g low is =
    ap (λ es. group_run (map planned_of es) g) (take_more events i e low ∙ ap (λ x. take i events ++ (x ∷ [])) (sym is))
    ∙ ap (λ es. group_run es g) (map-append planned_of (take i events) (e ∷ []))
    ∙ run_both (map planned_of (take i events)) (planned_of e ∷ []) g

-- one more member
pub begun_next : (ms : List Member) (ids : List ℕ) (i : ℕ) (m : Member) → AreBegun ms (take i ids) → i < length ids → m.replica.id ≡ get_or ids i 0 → IsUp m begun → AreBegun (ms ++ (m ∷ [])) (take (i + 1) ids)
begun_next ms ids i m h low same up =
    subst (AreBegun (ms ++ (m ∷ []))) (sym (take_more ids i 0 low)) (begun_more ms (take i ids) m (get_or ids i 0) h same up)

pub begun_all : (ms : List Member) (ids : List ℕ) (i : ℕ) → length ids ≤ i → AreBegun ms (take i ids) → AreBegun ms ids
begun_all ms ids i all h = subst (AreBegun ms) (take_all i ids all) h

-- ids of 64 bits
fit_step : (m n : ℕ) (b rest : Bool) → (m == n) ≡ b → m < 2 ^ 64 → (IsTrue rest → n < 2 ^ 64) → IsTrue (b || rest) → n < 2 ^ 64
fit_step m n true rest is low next has = subst (λ k. k < 2 ^ 64) (eqb-true m n is) low
fit_step m n false rest is low next has = next has

pub ids_fit : (ids : List ℕ) → ((k : ℕ) → k < length ids → get_or ids k 0 < 2 ^ 64) → AreNodeIds ids
ids_fit [] h n has = absurd (let no : false ≡ true = has in cc)
ids_fit (m ∷ ids) h n has =
    fit_step m n (m == n) (has_id ids n) refl (h 0 (omega arith)) (ids_fit ids (λ k low. h (suc k) (omega arith)) n) has

-- ---- marks

history_both : (es fs : List (WorldEvent × Option ℕ)) (g : GroupWorld) → history_of (es ++ fs) g ≡ history_of es g ++ history_of fs (group_run es g)
history_both [] fs g = refl
history_both (e ∷ es) fs g = ap (λ rs. record { event = e.0; outcome = outcome_of g e.0 (is_some e.1) } ∷ rs) (history_both es fs (ran g e.0 e.1))

marks_both : (a b : List Mark) (rs ss : List Recorded) → AreMarks a rs → AreMarks b ss → AreMarks (a ++ b) (rs ++ ss)
marks_both [] b [] ss h k = k
marks_both [] b (r ∷ rs) ss h k = absurd h
marks_both (m ∷ ms) b [] ss h k = absurd h
marks_both (m ∷ ms) b (r ∷ rs) ss h k = (h.0, marks_both ms b rs ss h.1 k)

-- nothing is marked yet
pub none_marked : (before : List Mark) (g : GroupWorld) → HasMarked before g [] before
none_marked before g = record { more = []; listed = sym (append-nil before); say = tt }

-- more events are marked behind the others
marked_both : (before middle after : List Mark) (g : GroupWorld) (es fs : List (WorldEvent × Option ℕ)) → HasMarked before g es middle → HasMarked middle (group_run es g) fs after
    → HasMarked before g (es ++ fs) after
marked_both before middle after g es fs h k = record {
  more = h.more ++ k.more;
  listed = k.listed ∙ (ap (λ l. l ++ k.more) h.listed ∙ append_assoc before h.more k.more);
  say = subst (AreMarks (h.more ++ k.more)) (sym (history_both es fs g)) (marks_both h.more k.more (history_of es g) (history_of fs (group_run es g)) h.say k.say);
}

planned_more : (events : List PlannedEvent) (i : ℕ) (e : PlannedEvent) → i < length events → e ≡ get_or events i e
    → map planned_of (take (i + 1) events) ≡ map planned_of (take i events) ++ planned_of e ∷ []
planned_more events i e low is =
    ap (map planned_of) (take_more events i e low ∙ ap (λ x. take i events ++ (x ∷ [])) (sym is))
    ∙ map-append planned_of (take i events) (e ∷ [])

-- and one more event
pub marked_more : (before middle after : List Mark) (g : GroupWorld) (events : List PlannedEvent) (i : ℕ) (e : PlannedEvent) → i < length events → e ≡ get_or events i e
    → HasMarked before g (map planned_of (take i events)) middle → HasMarked middle (group_run (map planned_of (take i events)) g) (planned_of e ∷ []) after
    → HasMarked before g (map planned_of (take (i + 1) events)) after
marked_more before middle after g events i e low is h k =
    subst (λ es. HasMarked before g es after) (sym (planned_more events i e low is))
    (marked_both before middle after g (map planned_of (take i events)) (planned_of e ∷ []) h k)

-- marks say nothing of the world
pub with_marks : (w : World) (g : GroupWorld) (marks : Vec Mark Global) → IsWorldOf w g → IsWorldOf (record w { marks = marks }) g
with_marks w g marks h = record { nodes = h.nodes; messages = h.messages; setup = h.setup; led = h.led }

pub run_with_marks : (ids : List ℕ) (rs : List Recorded) (g : GroupWorld) (events : List PlannedEvent) (count : ℕ) (w : World) (marks : Vec Mark Global) → HasRunEvents ids rs g events count w
    → HasRunEvents ids rs g events count (record w { marks = marks })
run_with_marks ids rs g events count w marks h = record {
  end = h.end;
  world = with_marks w _ marks h.world;
  history = h.history;
  laws = h.laws;
  goes_on = h.goes_on;
  stores = h.stores;
}
