-- Each entry of a group's list that isn't blank was asked for by an event of the run.
use Rattle.std.specs.Prelude.{◌≡◌, ◌⊎◌, ℕ, ◌+◌, ◌<◌, nat_lt, cond, Bool, true, false, List, [], ◌∷◌, ◌++◌, fold, length, map, slice_get, Option, Some, None, is_some, unwrap_or, refl}
use Rattle.std.proofs.Common.{inl, inr, sym, ap, ap₂, ◌∙◌, subst, arith, ⊎_elim, append_assoc, append-nil}
use Rattle.std.proofs.Math.Seq.{take-append_seam}
use Rattle.raft_values.specs.declared.log_id.LogId.{LogId}
use Rattle.raft_state.specs.declared.entry.EntryPayload.TheVariants.{Blank}
use Rattle.raft_group_step.specs.Values.{Entry, entry_of, has_id}
use Rattle.raft_group_step.specs.GroupState.{GroupState, no_group, state_of}
use Rattle.raft_group_step.specs.GroupEvent.{GroupCall, Call}
use Rattle.raft_group_step.specs.Refusal.{refusal_of}
use Rattle.raft_laws.specs.declared.world_event.WorldEvent.{WorldEvent}
use Rattle.raft_laws.specs.declared.world_event.WorldEvent.TheVariants.{Ask}
use Rattle.raft_laws.specs.GroupWorld.{GroupWorld, Absent, Led, Up, new_world, state_or}
use Rattle.raft_laws.specs.GroupRun.{group_run, history_of, is_same_setup, ran, setup_in_call}
use Rattle.raft_laws.specs.Settled.{group_list, longer, settled_part}
use Rattle.raft_laws.specs.Origins.{Events, EntriesWereAskedFor, IsAskedAt, OnePlaceForAnEvent, entry_of_call, world_before}
use Rattle.raft_laws.proofs.BallotAgreement.{same_some}
use Rattle.raft_laws.proofs.Counts.{contains_at}
use Rattle.raft_laws.proofs.GroupList.{is_list}
use Rattle.raft_laws.proofs.Runs.{run-replays}
use Rattle.raft_laws.proofs.Shapes.{slice_after}
use Rattle.raft_laws.proofs.StepEntries.{Each, each_at, each_take}
use Rattle.raft_laws.proofs.WorldEntries.{EntriesFit, NodeEach, ran_each}
use Rattle.raft_laws.proofs.WorldStart.{founded}

-- ---- runs, event by event

pub run_more : (pre : Events) (x : WorldEvent × Option ℕ) (w : GroupWorld) → group_run (pre ++ x ∷ []) w ≡ ran (group_run pre w) x.0 x.1
run_more [] x w = refl
run_more (y ∷ pre) x w = run_more pre x (ran w y.0 y.1)

pub event_at : (pre post : Events) (x : WorldEvent × Option ℕ) → slice_get (pre ++ x ∷ post) (length pre) ≡ Some x
event_at pre post x =
    let e : length pre ≡ length pre + 0 = omega arith in
    ap (slice_get (pre ++ x ∷ post)) e ∙ slice_after pre (x ∷ post) 0

pub world_at : (pre post : Events) (x : WorldEvent × Option ℕ) (w : GroupWorld) → world_before (pre ++ x ∷ post) (length pre) w ≡ group_run pre w
world_at pre post x w = ap (λ (es : Events). group_run es w) (take-append_seam pre (x ∷ post))

-- what a call of an event writes was asked for there
pub asked_at : (es pre post : Events) (event : WorldEvent) (stop : Option ℕ) (w : GroupWorld) → es ≡ pre ++ (event, stop) ∷ post → (n : ℕ) (call : GroupCall) (now : ℕ) (s : GroupState) → event ≡ Ask n call now → (group_run pre w).nodes n ≡ Up s → is_same_setup (group_run pre w).setup (setup_in_call call) ≡ true → refusal_of n s (Call call now) ≡ None → (is_some stop ≡ true → 0 < unwrap_or stop 0) → (e : Entry) → entry_of_call s.stored call ≡ Some e → IsAskedAt es w (length pre) call e
asked_at es pre post event stop w split n call now s ask up same taken goes e writes =
    let world : world_before es (length pre) w ≡ group_run pre w =
    ap (λ (xs : Events). world_before xs (length pre) w) split ∙ world_at pre post (event, stop) w
    in
    record {
      node = n;
      now = now;
      stop = stop;
      state = s;
      event = ap (λ (xs : Events). slice_get xs (length pre)) split ∙ event_at pre post (event, stop) ∙ ap (λ (v : WorldEvent). Some (v, stop)) ask;
      is_up = ap (λ (v : GroupWorld). v.nodes n) world ∙ up;
      set_up = ap (λ (v : GroupWorld). is_same_setup v.setup (setup_in_call call)) world ∙ same;
      taken = taken;
      stored = λ k f. kept stop goes k f;
      writes = writes;
    }
  where
    kept : (o : Option ℕ) → (is_some o ≡ true → 0 < unwrap_or o 0) → (k : ℕ) → o ≡ Some k → 0 < k
    kept None g k f = absurd (let h : None ≡ Some k = f in cc)
    kept (Some j) g k f = let l = g refl in let same = same_some f in omega (arith, l, same)

-- ---- every entry has an origin

abbrev pub HasOrigin : Events → GroupWorld → Entry → Type 0
HasOrigin es w e = (e.payload ≡ Blank) ⊎ ((number : ℕ) × (call : GroupCall) × IsAskedAt es w number call e)

module _ (es : Events) (w : GroupWorld) where
  abbrev P : Entry → Type 0
  P e = HasOrigin es w e

  blank : (id : LogId ℕ) → P (entry_of id Blank)
  blank id = inl refl

  run_each : (pre post : Events) → es ≡ pre ++ post → EntriesFit P blank (group_run pre w) → EntriesFit P blank (group_run es w)
  run_each pre [] split h = subst (λ (xs : Events). EntriesFit P blank (group_run xs w)) (sym (split ∙ append-nil pre)) h
  run_each pre (x ∷ post) split h =
      run_each (pre ++ x ∷ []) post (split ∙ sym (append_assoc pre (x ∷ []) post))
      (subst (EntriesFit P blank) (sym (run_more pre x w))
      (ran_each P blank (group_run pre w) x.0 x.1 h
      (λ n call now s ask up same taken goes e writes.
      inr (length pre, call, asked_at es pre post x.0 x.1 w split n call now s ask up same taken goes e writes))))

start_node : (P : Entry → Type 0) (blank : (id : LogId ℕ) → P (entry_of id Blank)) (b : Bool) → NodeEach P blank (state_or b (Up (state_of no_group)) Absent)
start_node P blank true = (tt, tt)
start_node P blank false = tt

run_entries : (ids : List ℕ) (es : Events) → EntriesFit (HasOrigin es (new_world ids)) (blank es (new_world ids)) (group_run es (new_world ids))
run_entries ids es =
    run_each es (new_world ids) [] es refl
    (record {
      nodes = λ n. start_node (HasOrigin es (new_world ids)) (blank es (new_world ids)) (has_id ids n);
      messages = tt;
      led = tt;
    })

-- ---- and so those of the list

longer_each : (P : Entry → Type 0) (xs ys : List Entry) → Each P xs → Each P ys → Each P (longer xs ys)
longer_each P xs ys h k = go (nat_lt (length xs) (length ys))
  where
    go : (b : Bool) → Each P (cond b ys xs)
    go true = k
    go false = h

list_each : (P : Entry → Type 0) (w : GroupWorld) (ls : List Led) (xs : List Entry) → Each P xs → Each (λ (l : Led). Each P l.list) ls → Each P (fold longer xs (map (settled_part w) ls))
list_each P w [] xs h k = h
list_each P w (l ∷ ls) xs h k =
    list_each P w ls (longer xs (settled_part w l)) (longer_each P xs (settled_part w l) h (each_take P _ l.list k.0)) k.1

pub entries_were_asked_for : EntriesWereAskedFor
entries_were_asked_for ids es e within written =
    let end = group_run es (new_world ids) in
    let P : Entry → Type 0 = HasOrigin es (new_world ids) in
    let at = contains_at (group_list end) e within in
    let is = each_at P (group_list end) at.0 e (list_each P end end.led [] tt (run_entries ids es).led) at.1 in
    ⊎_elim (λ b. absurd (written b)) (λ o. o) is

-- ---- one event, one place

same_ask : (n k : ℕ) (call other : GroupCall) (now then : ℕ) → Ask n call now ≡ Ask k other then → (n ≡ k) × (call ≡ other)
same_ask n k call other now then e = (cc, cc)

pub same_up : (s t : GroupState) → Up s ≡ Up t → s ≡ t
same_up s t e = cc

same_event : {es : Events} {w : GroupWorld} {number : ℕ} {call other : GroupCall} {x y : Entry} → IsAskedAt es w number call x → IsAskedAt es w number other y → x ≡ y
same_event {es} {w} {number} {call} {other} {x} {y} a b =
    let ask = same_ask a.node b.node call other a.now b.now (ap (λ (p : WorldEvent × Option ℕ). p.0) (same_some (sym a.event ∙ b.event))) in
    let state = same_up a.state b.state (sym a.is_up ∙ ap (world_before es number w).nodes ask.0 ∙ b.is_up) in
    same_some (sym a.writes ∙ ap₂ (λ (s : GroupState) (c : GroupCall). entry_of_call s.stored c) state ask.1 ∙ b.writes)

pub one_place_for_an_event : OnePlaceForAnEvent
one_place_for_an_event ids small es i j x y at also number call other a b =
    let end = group_run es (new_world ids) in
    let f = founded ids small (history_of es (new_world ids)) end (run-replays es (new_world ids)) in
    let list = is_list f.membership f.some end f.is in
    sym (list.by_place i x at) ∙ ap (λ (e : Entry). e.log_id.index) (same_event a b) ∙ list.by_place j y also
