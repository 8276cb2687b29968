-- What is kept of calls that stopped goes on with each event.
use Rattle.std.specs.Prelude.{◌≡◌, ◌⊎◌, ℕ, ◌==◌, Bool, true, false, List, [], ◌∷◌, ◌++◌, Option, Some, None, refl}
use Rattle.std.proofs.Common.{inl, inr, sym, ap, ◌∙◌, subst, ⊎_elim, append-nil, eqb-true}
use Rattle.std.proofs.lemmas.Bool.{cases_Bool, eqb-false}
use Rattle.raft_values.specs.declared.vote.Vote.{Vote}
use Rattle.raft_group_step.specs.Values.{Entry, EntryPayload, has_id}
use Rattle.raft_group_step.specs.StoredGroup.{StoredGroup, held}
use Rattle.raft_group_step.specs.GroupState.{GroupState, no_group, state_of}
use Rattle.raft_group_step.specs.GroupEvent.{GroupCall, GroupEvent, Open}
use Rattle.raft_group_step.specs.GroupStep.{group_step}
use Rattle.raft_laws.specs.declared.world_event.WorldEvent.TheVariants.{Ask}
use Rattle.raft_laws.specs.GroupWorld.{GroupWorld, Led, NodeState, Absent, Up, Down, Outcome, Done, Refused, Stopped, Skipped, Recorded, is_stop, state_or}
use Rattle.raft_laws.specs.NodeEvent.{NodeEvent, Comes, Crashes, Halts, Restarts, after_step, outcome_at, state_after}
use Rattle.raft_laws.specs.GroupRun.{At, led_after, stop_at}
use Rattle.raft_laws.specs.VotesRise.{stored_of}
use Rattle.raft_laws.proofs.BallotSafe.{Among}
use Rattle.raft_laws.proofs.Counts.{among_front}
use Rattle.raft_laws.proofs.HeldLists.{at_node}
use Rattle.raft_laws.proofs.StepEntries.{Each}
use Rattle.raft_laws.proofs.StepFits.{StopFits, world_after}
use Rattle.raft_laws.proofs.WorldRuns.{among_either}
use Rattle.raft_laws.proofs.WorldStart.{Founded, founded}
use Rattle.raft_history_laws.proofs.LeaderLists.{notes_are_own}
use Rattle.raft_list_facts.specs.Leads.{leading_in}
use Rattle.raft_list_laws.specs.Accounts.{Accounts, AreTrue}
use Rattle.raft_list_laws.specs.NewEntries.{GoesOnByOne}
use Rattle.raft_list_laws.proofs.NotedWorlds.{AllKnown, all_known}
use Rattle.raft_list_laws.proofs.OwnNotes.{Known, NodeKnown, OwnNew, each_among}
use Rattle.raft_group_lists.specs.Notes.{Notes, accounts_of, membership_in}
use Rattle.raft_list_steps.specs.Lists.{HasListOf}
use Rattle.raft_list_steps.specs.Reports.{IsBehind}
use Rattle.raft_list_reports.specs.Calls.{IsInvalid, IsWrittenBy, payload_of}
use Rattle.raft_list_reports.specs.Laws.{StopsAreKept, StopsBegin}
use Rattle.raft_list_reports.specs.Told.{AreStops, StopsGoOn}
use Rattle.raft_list_reports.proofs.CallsWrite.{IsWritten}
use Rattle.raft_list_reports.proofs.Continuing.{continues, held_each}
use Rattle.raft_list_reports.proofs.Gains.{Continues, gained, one_latest, same_latest}
use Rattle.raft_list_reports.proofs.Happening.{IsThere, call_asked, history_behind, note_at, left_here, left_led, left_other, opening_asked, where_it_happens}
use Rattle.raft_list_reports.proofs.NewNotes.{IsCallOf, comes_gains, goes_on_with}
use Rattle.raft_list_reports.proofs.Openings.{opening_keeps}

-- ---- a new world

new_state : (b : Bool) (st : StoredGroup) → state_or b (Up (state_of no_group)) Absent ≡ Down st → ⊥
new_state true st e = let no : Up (state_of no_group) ≡ Down st = e in cc
new_state false st e = let no : Absent ≡ Down st = e in cc

pub stops_begin : StopsBegin
stops_begin ids stopped = record { down = λ n st is. absurd (new_state (has_id ids n) st is) }

-- ---- what is noted

-- accounts that are true of notes like the world's
pub record NotedSo (b : Accounts) (w : GroupWorld) : Type 0 where
  pub world : GroupWorld
  pub truth : AreTrue b world
  pub same : world.led ≡ w.led

pub noted_so : (s : Notes) (w : GroupWorld) → HasListOf s w → NotedSo (accounts_of s) w
noted_so s w has =
    ⊎_elim
    (λ h. record { world = w; truth = h.truth; same = refl })
    (λ h. record { world = _; truth = h.list.truth; same = refl })
    has

-- what a call wrote is what is told of it
pub told_payload : (s : Notes) (a : Accounts) (vote : Vote ℕ) → a.latest vote ≡ (accounts_of s).latest vote → (n : ℕ) (state : GroupState) (call : GroupCall) (now : ℕ) (payload : EntryPayload) (is : IsWritten n state call now vote (a.latest vote) payload) → (written : Option EntryPayload) → IsWrittenBy s is.before.vote call written → written ≡ Some payload
told_payload s a vote same n state call now payload is written told =
    let list : (accounts_of s).latest is.before.vote ≡ a.latest vote = ap (accounts_of s).latest is.under ∙ sym same in
    let asked : payload_of (membership_in ((accounts_of s).latest is.before.vote)) call ≡ Some payload =
    ap (λ (xs : List Entry). payload_of (membership_in xs) call) list ∙ is.asked
    in
    ⊎_elim
    (λ e. e ∙ asked)
    (λ x. absurd (is.valid (subst (λ (xs : List Entry). IsInvalid (membership_in xs) call) list x.1)))
    told

-- ---- an event

module _ (ids : List ℕ) (w : GroupWorld) (r : Recorded) (w' : GroupWorld) (node : ℕ) (bh : IsBehind ids w r w') (s : Notes) (noted : NotedSo (accounts_of s) w) (stopped next : ℕ → Option EntryPayload) (on : StopsGoOn s w r node stopped next) (stops : AreStops stopped w) where
  abbrev early : List Recorded
  early = bh.history

  -- the same entry is kept
  kept : (n : ℕ) → next n ≡ stopped n → (vote : Vote ℕ) (list xs : List Entry) → GoesOnByOne vote list (λ (e : Entry). stopped n ≡ Some e.payload) xs → GoesOnByOne vote list (λ (e : Entry). next n ≡ Some e.payload) xs
  kept n same vote list xs h =
      goes_on_with vote list (λ (e : Entry). stopped n ≡ Some e.payload) (λ (e : Entry). next n ≡ Some e.payload) xs (λ e told. same ∙ told) h

  -- nothing happens
  nowhere : r.outcome ≡ Skipped → w' ≡ w → AreStops next w'
  nowhere skipped same =
      subst (AreStops next) (sym same)
      (record {
        down = λ n st is a v t led some mine.
            kept n (same_stop n) st.vote (a.latest st.vote) (held st) (stops.down n st is a v t led some mine);
      })
    where
      same_stop : (n : ℕ) → next n ≡ stopped n
      same_stop n = ⊎_elim (λ yes. subst (λ (i : ℕ). next i ≡ stopped i) (sym (eqb-true n node yes)) (on.skipped skipped)) (λ no. on.others n (eqb-false n node no)) (cases_Bool (n == node))

  module _ (there : IsThere w r w' node) (st : StoredGroup) (a : Accounts) (v : GroupWorld) (t : AreTrue a v) (led : v.led ≡ w'.led) (some : a.latest st.vote ≡ [] → ⊥) where
    -- ---- another node

    module _ (n : ℕ) (other : n ≡ node → ⊥) (is : w'.nodes n ≡ Down st) (mine : st.vote.leader_id.node_id ≡ n) where
      later : (x : Led) → Among x w'.led → x.vote.leader_id.node_id ≡ x.node
      later x among = (notes_are_own ids bh.before.node_ids (early ++ r ∷ []) w' (history_behind ids w r w' bh).replays x among).node

      noted_before : (x : Led) → Among x w'.led → x.vote ≡ st.vote → Among x w.led
      noted_before x among vote =
          ⊎_elim (λ old. old)
          (λ new.
          absurd
          (other
          (sym mine ∙ ap (λ (u : Vote ℕ). u.leader_id.node_id) (sym vote) ∙ later x among
          ∙ note_at r.outcome node (w'.nodes node) x new)))
          (among_either x w.led (led_after r.outcome node (w'.nodes node)) (subst (Among x) (left_led w r w' node there) among))

      same_list : a.latest st.vote ≡ (accounts_of s).latest st.vote
      same_list =
          same_latest a (accounts_of s) v noted.world t noted.truth st.vote
          (λ x among vote. subst (Among x) (sym noted.same) (noted_before x (subst (Among x) led among) vote))
          (λ x among vote.
          subst (Among x) (sym led)
          (subst (Among x) (sym (left_led w r w' node there)) (among_front x w.led _ (subst (Among x) noted.same among))))

      other_kept : GoesOnByOne st.vote (a.latest st.vote) (λ (e : Entry). next n ≡ Some e.payload) (held st)
      other_kept =
          kept n (on.others n other) st.vote (a.latest st.vote) (held st)
          (subst (λ (xs : List Entry). GoesOnByOne st.vote xs (λ (e : Entry). stopped n ≡ Some e.payload) (held st)) (sym same_list)
          (stops.down n st (sym (left_other w r w' node there n other) ∙ is) (accounts_of s) noted.world noted.truth noted.same
          (λ none. some (same_list ∙ none)) mine))

    -- ---- the node itself

    module _ (is : w'.nodes node ≡ Down st) (mine : st.vote.leader_id.node_id ≡ node) where
      abbrev Goal : Type 0
      Goal = GoesOnByOne st.vote (a.latest st.vote) (λ (e : Entry). next node ≡ Some e.payload) (held st)

      -- a node that is down leaves no note
      led_same : w'.led ≡ w.led
      led_same = left_led w r w' node there ∙ ap (λ (x : NodeState). w.led ++ led_after r.outcome node x) is ∙ unled r.outcome
        where
          unled : (o : Outcome) → w.led ++ led_after o node (Down st) ≡ w.led
          unled (Done sent told unknown) = append-nil w.led
          unled (Refused why) = append-nil w.led
          unled (Stopped unknown) = append-nil w.led
          unled Skipped = append-nil w.led

      before : v.led ≡ w.led
      before = led ∙ led_same

      same_there : a.latest st.vote ≡ (accounts_of s).latest st.vote
      same_there = one_latest a (accounts_of s) v noted.world t noted.truth (before ∙ sym noted.same) st.vote

      has : stored_of (w'.nodes node) ≡ Some st
      has = ap stored_of is

      -- each entry that it holds is known, or new at one place
      new_place : NodeKnown w'.led node (Down st)
      new_place = subst (NodeKnown w'.led node) is ((all_known ids bh.before.node_ids (early ++ r ∷ []) w' (history_behind ids w r w' bh).replays).nodes node)

      known_or_new : (x : Entry) → Among x (held st) → Known w.led x ⊎ OwnNew w.led new_place.0 node st.vote x
      known_or_new x among =
          let P : List Led → Entry → Type 0 = λ ls e. Known ls e ⊎ OwnNew ls new_place.0 node st.vote e in
          subst (λ (ls : List Led). P ls x) led_same
          (each_among (P w'.led) (held st) (held_each (P w'.led) st new_place.1) x among)

      -- a step stops
      stopped_there : (state : GroupState) → w.nodes node ≡ Up state → (e : GroupEvent) → there.at ≡ Comes e → (k : ℕ) → (unknown : List ℕ) → r.outcome ≡ Stopped unknown → after_step (Some k) state (group_step node state e) ≡ Down st → Goal
      stopped_there state up e comes k unknown out after =
          goes_on_with st.vote (a.latest st.vote) (λ (x : Entry). IsCallOf node state e st.vote (a.latest st.vote) x.payload) (λ (x : Entry). next node ≡ Some x.payload) (held st)
          (λ x call.
          let asked : r.event ≡ Ask node call.0 call.1 =
          call_asked w r.event node call.0 call.1 (there.scene ∙ ap (At node) (comes ∙ ap Comes call.2))
          in
          let told = on.called call.0 call.1 unknown asked out call.3.before (ap leading_in up ∙ call.3.led) in
          told.2 x.payload (told_payload s a st.vote same_there node state call.0 call.1 x.payload call.3 told.0 told.1))
          (comes_gains ids w r w' node bh there a v t before state up e comes (Some k) st (ap stored_of after) has mine some new_place.0 known_or_new)

      -- the node is down with what it had
      fell : (state : GroupState) → w.nodes node ≡ Up state → state.stored ≡ st → Goal
      fell state up same =
          let all : AllKnown w = all_known ids bh.before.node_ids early w bh.before.replays in
          let each : NodeKnown w.led node (Up state) = subst (NodeKnown w.led node) up (all.nodes node) in
          let c : Continues w.led st.vote (a.latest st.vote) (held st) =
          continues ids bh.before.node_ids (early ++ r ∷ []) w' (history_behind ids w r w' bh).replays w.led
          (λ x among. subst (Among x) (sym led_same) among) node st has mine a v t before some
          in
          gained w.led st.vote (a.latest st.vote) (held st) c node 0 (λ (e : Entry). next node ≡ Some e.payload)
          (λ x among. inl (each_among (Known w.led) (held st) (subst (λ (y : StoredGroup). Each (Known w.led) (held y)) same (held_each (Known w.led) state.stored each.0)) x among))
          (λ x among own unknown told.
          absurd (unknown (each_among (Known w.led) (held st) (subst (λ (y : StoredGroup). Each (Known w.led) (held y)) same (held_each (Known w.led) state.stored each.0)) x among)))

      -- it was down before
      was_down : (x : StoredGroup) → w.nodes node ≡ Down x → (st.vote ≡ x.vote) × (held st ≡ held x) → next node ≡ stopped node → Goal
      was_down x down same stay =
          kept node stay st.vote (a.latest st.vote) (held st)
          (subst (λ (u : Vote ℕ). GoesOnByOne u (a.latest u) (λ (e : Entry). stopped node ≡ Some e.payload) (held st)) (sym same.0)
          (subst (GoesOnByOne x.vote (a.latest x.vote) (λ (e : Entry). stopped node ≡ Some e.payload)) (sym same.1)
          (stops.down node x down a v t before (subst (λ (u : Vote ℕ). a.latest u ≡ [] → ⊥) same.0 some)
          (ap (λ (u : Vote ℕ). u.leader_id.node_id) (sym same.0) ∙ mine))))

      is_down : {A : Type 0} (y : GroupState) → Up y ≡ Down st → A
      is_down y e = absurd (let no : Up y ≡ Down st = e in cc)

      down_same : (x : StoredGroup) → Down x ≡ Down st → x ≡ st
      down_same x e = let is_it : Down x ≡ Down st = e in cc

      -- an event stops if its number is told
      by_stop : (o : Outcome) → r.outcome ≡ o → (stop : Option ℕ) → stop_at (is_stop o) there.number ≡ stop → (stop ≡ None) ⊎ ((unknown : List ℕ) × (r.outcome ≡ Stopped unknown))
      by_stop (Done sent told unknown) is_it stop e = inl (sym e)
      by_stop (Refused why) is_it stop e = inl (sym e)
      by_stop (Stopped unknown) is_it stop e = inr (unknown, is_it)
      by_stop Skipped is_it stop e = inl (sym e)

      came : (state : GroupState) → w.nodes node ≡ Up state → (e : GroupEvent) → there.at ≡ Comes e → (stop : Option ℕ) → stop_at (is_stop r.outcome) there.number ≡ stop → after_step stop state (group_step node state e) ≡ Down st → Goal
      came state up e comes None told after = is_down (group_step node state e).state after
      came state up e comes (Some k) told after =
          ⊎_elim
          (λ none. absurd (let no : Some k ≡ None = none in cc))
          (λ x. stopped_there state up e comes k x.0 x.1 after)
          (by_stop r.outcome refl (Some k) told)

      reopened : (x : StoredGroup) → w.nodes node ≡ Down x → there.at ≡ Restarts → (stop : Option ℕ) → stop_at (is_stop r.outcome) there.number ≡ stop → after_step stop (state_of x) (group_step node (state_of x) Open) ≡ Down st → Goal
      reopened x down restarts None told after = is_down (group_step node (state_of x) Open).state after
      reopened x down restarts (Some k) told after =
          let f : Founded w = founded ids bh.before.node_ids early w bh.before.replays in
          let b = world_after f.membership f.is.matches.before in
          let fits : StopFits f.membership b node x = (at_node f.membership b w f.is.matches.fits node (Down x) down).1 in
          let same = opening_keeps x fits.down node (Some k) st (ap stored_of after) in
          ⊎_elim
          (λ none. absurd (let no : Some k ≡ None = none in cc))
          (λ o.
          was_down x down same (on.reopened o.0 (opening_asked w r.event node (there.scene ∙ ap (At node) restarts)) o.1))
          (by_stop r.outcome refl (Some k) told)

      stays_down : (x : StoredGroup) → w.nodes node ≡ Down x → r.outcome ≡ Skipped → Down x ≡ Down st → Goal
      stays_down x down skipped after =
          let same : x ≡ st = down_same x after in
          was_down x down (ap (λ (y : StoredGroup). y.vote) (sym same), ap held (sym same)) (on.skipped skipped)

      by_event : (x : NodeState) → w.nodes node ≡ x → (at : NodeEvent) → there.at ≡ at → r.outcome ≡ outcome_at node at (is_stop r.outcome) x → state_after node at (stop_at (is_stop r.outcome) there.number) x ≡ Down st → Goal
      by_event Absent was at e out after = absurd (let no : Absent ≡ Down st = after in cc)
      by_event (Up x) was (Comes e) at out after = came x was e at (stop_at (is_stop r.outcome) there.number) refl after
      by_event (Up x) was Crashes at out after = fell x was (down_same x.stored after)
      by_event (Up x) was Halts at out after = fell x was (down_same x.stored after)
      by_event (Up x) was Restarts at out after = is_down x after
      by_event (Down x) was (Comes e) at out after = stays_down x was out after
      by_event (Down x) was Crashes at out after = stays_down x was out after
      by_event (Down x) was Halts at out after = stays_down x was out after
      by_event (Down x) was Restarts at out after = reopened x was at (stop_at (is_stop r.outcome) there.number) refl after

      here_kept : Goal
      here_kept = by_event (w.nodes node) refl there.at refl there.outcome (sym (left_here w r w' node there) ∙ is)

  somewhere : IsThere w r w' node → AreStops next w'
  somewhere there =
      record {
        down = λ n st is a v t led some mine.
            ⊎_elim
            (λ yes.
            let same : n ≡ node = eqb-true n node yes in
            subst (λ (i : ℕ). GoesOnByOne st.vote (a.latest st.vote) (λ (e : Entry). next i ≡ Some e.payload) (held st)) (sym same)
            (here_kept there st a v t led some (ap w'.nodes (sym same) ∙ is) (mine ∙ same)))
            (λ no. other_kept there st a v t led some n (eqb-false n node no) is mine)
            (cases_Bool (n == node));
      }

pub stops_are_kept : StopsAreKept
stops_are_kept ids w r w' node bh at s has stopped next on stops =
    let noted = noted_so s w has in
    ⊎_elim
    (λ no. nowhere ids w r w' node bh s noted stopped next on stops no.outcome no.same)
    (λ there. somewhere ids w r w' node bh s noted stopped next on stops there)
    (where_it_happens ids w r w' node bh at)
