-- What is new in a note the event asked for.
use Rattle.std.specs.Prelude.{◌≡◌, ◌⊎◌, ℕ, true, List, [], ◌∷◌, ◌++◌, Option, Some, refl}
use Rattle.std.proofs.Common.{inl, inr, sym, ap, ◌∙◌, subst, ⊎_elim}
use Rattle.raft_values.specs.declared.vote.Vote.{Vote}
use Rattle.raft_group_step.specs.Values.{Entry, EntryPayload}
use Rattle.raft_group_step.specs.StoredGroup.{StoredGroup, held}
use Rattle.raft_group_step.specs.GroupState.{GroupState, state_of}
use Rattle.raft_group_step.specs.GroupEvent.{GroupCall, GroupEvent, AddGroup, Call, Receive, Open}
use Rattle.raft_group_step.specs.GroupStep.{group_step}
use Rattle.raft_laws.specs.declared.world_event.WorldEvent.{WorldEvent}
use Rattle.raft_laws.specs.declared.world_event.WorldEvent.TheVariants.{Ask, Restart}
use Rattle.raft_laws.specs.GroupWorld.{GroupWorld, Led, NodeState, Absent, Up, Down, Outcome, Skipped, Recorded, is_stop}
use Rattle.raft_laws.specs.NodeEvent.{NodeEvent, Comes, Crashes, Halts, Restarts, after_step, outcome_at, outcome_of_step, state_after}
use Rattle.raft_laws.specs.GroupRun.{At, led_after, stop_at}
use Rattle.raft_laws.specs.OneList.{AreNodeIds}
use Rattle.raft_laws.specs.VotesRise.{stored_of}
use Rattle.raft_laws.proofs.BallotSafe.{Among}
use Rattle.raft_laws.proofs.Counts.{among_front}
use Rattle.raft_laws.proofs.HeldLists.{at_node}
use Rattle.raft_laws.proofs.StepFits.{StopFits, world_after}
use Rattle.raft_laws.proofs.WorldStart.{Founded, founded}
use Rattle.raft_history_laws.proofs.AlongNodes.{may_follow}
use Rattle.raft_list_laws.specs.Accounts.{Accounts, AreTrue}
use Rattle.raft_list_laws.specs.NewEntries.{GoesOnByOne, behind}
use Rattle.raft_list_laws.proofs.NotedWorlds.{AllKnown, SceneKnown, all_known, event_known, new_note_known}
use Rattle.raft_list_laws.proofs.OwnNotes.{EventKnown, Known, NodeKnown, NoteKnown, OwnNew, each_among}
use Rattle.raft_group_lists.specs.Notes.{membership_in}
use Rattle.raft_list_steps.specs.Reports.{IsBehind}
use Rattle.raft_list_reports.specs.Laws.{AsksFor, LeavesNote, NewEntriesAreAsked}
use Rattle.raft_list_reports.specs.Told.{AreStops}
use Rattle.raft_list_reports.proofs.AskedEntries.{IsAskedBy}
use Rattle.raft_list_reports.proofs.CallsWrite.{IsWritten, call_writes}
use Rattle.raft_list_reports.proofs.Continuing.{continues, is_committed, step_asked}
use Rattle.raft_list_reports.proofs.Gains.{Continues, gained}
use Rattle.raft_list_reports.proofs.Happening.{IsOfLeader, IsThere, call_asked, history_behind, left, left_here, left_led, opening_asked, where_it_happens}
use Rattle.raft_list_reports.proofs.Openings.{opening_keeps}
use Rattle.raft_list_reports.proofs.TellingLists as telling

-- the same with another fact of the entry
pub goes_on_with : (vote : Vote ℕ) (list : List Entry) (P Q : Entry → Type 0) (next : List Entry) → ((e : Entry) → P e → Q e) → GoesOnByOne vote list P next → GoesOnByOne vote list Q next
goes_on_with vote list P Q next more h = ⊎_elim (λ same. inl same) (λ x. inr (x.0, x.1, more (behind vote list x.0) x.2)) h

-- what the call of an event wrote at its node, by the list that was noted last
abbrev pub IsCallOf : ℕ → GroupState → GroupEvent → Vote ℕ → List Entry → EntryPayload → Type 0
IsCallOf n s e vote list payload = (call : GroupCall) × (now : ℕ) × (e ≡ Call call now) × IsWritten n s call now vote list payload

-- ---- an event that comes to a node that is up

module _ (ids : List ℕ) (w : GroupWorld) (r : Recorded) (w' : GroupWorld) (node : ℕ) (bh : IsBehind ids w r w') (there : IsThere w r w' node) (a : Accounts) (v : GroupWorld) (t : AreTrue a v) (same : v.led ≡ w.led) where
  abbrev small : AreNodeIds ids
  small = bh.before.node_ids

  abbrev early : List Recorded
  early = bh.history

  known : AllKnown w
  known = all_known ids small early w bh.before.replays

  -- what comes is known
  sent : EventKnown w.led node there.at
  sent =
      let k = bh.event.1.0 in
      let f = may_follow ids small early w bh.before.replays r k bh.event.0 in
      let of = SceneKnown f.membership f.some f.first.before w f.first.fits known r.event (is_stop r.outcome) k in
      subst of there.scene (event_known f.membership f.some f.first.before w f.first.fits known r.event (is_stop r.outcome) k r.event)

  still_led : (x : Led) → Among x w.led → Among x w'.led
  still_led x among = subst (Among x) (sym (left_led w r w' node there)) (among_front x w.led _ among)

  module _ (s : GroupState) (up : w.nodes node ≡ Up s) (e : GroupEvent) (comes : there.at ≡ Comes e) (stop : Option ℕ) (st : StoredGroup) (after : stored_of (after_step stop s (group_step node s e)) ≡ Some st) (has : stored_of (w'.nodes node) ≡ Some st) (mine : st.vote.leader_id.node_id ≡ node) (some : a.latest st.vote ≡ [] → ⊥) where
    c : Continues w.led st.vote (a.latest st.vote) (held st)
    c = continues ids small (early ++ r ∷ []) w' (history_behind ids w r w' bh).replays w.led still_led node st has mine a v t same some

    flag : st.vote.committed ≡ true
    flag = is_committed ids small (early ++ r ∷ []) w' (history_behind ids w r w' bh).replays w.led still_led node st has mine a v t same some

    written : (x : Entry) → IsAskedBy node s e x → x.log_id.leader_id ≡ st.vote.leader_id → IsCallOf node s e st.vote (a.latest st.vote) x.payload
    written x asked own = go e asked
      where
        go : (q : GroupEvent) → IsAskedBy node s q x → IsCallOf node s q st.vote (a.latest st.vote) x.payload
        go AddGroup none = absurd none
        go (Call call now) is = (call, now, refl, call_writes ids small early w bh.before.replays node s up a v t same st.vote flag c.term call now x is own)
        go (Receive peer m now) none = absurd none
        go Open none = absurd none

    pub comes_gains : (place : ℕ) → ((x : Entry) → Among x (held st) → Known w.led x ⊎ OwnNew w.led place node st.vote x) → GoesOnByOne st.vote (a.latest st.vote) (λ (x : Entry). IsCallOf node s e st.vote (a.latest st.vote) x.payload) (held st)
    comes_gains place new =
        gained w.led st.vote (a.latest st.vote) (held st) c node place (λ (x : Entry). IsCallOf node s e st.vote (a.latest st.vote) x.payload) new
        (λ x among own unknown told.
        ⊎_elim
        (λ old. absurd (unknown old))
        (λ either. ⊎_elim (λ blank. absurd (told blank)) (λ asked. written x asked own) either)
        (step_asked w.led node s
        (let both : NodeKnown w.led node (Up s) = subst (NodeKnown w.led node) up (known.nodes node) in both.0)
        e (subst (EventKnown w.led node) comes sent) stop st after x among))

-- ---- a note

-- a call wrote this payload at the node, which led before under the note's vote, and noted it behind this list
pub record IsCalled (w : GroupWorld) (r : Recorded) (node : ℕ) (vote : Vote ℕ) (list : List Entry) (payload : EntryPayload) : Type 0 where
  pub state : GroupState
  pub call : GroupCall
  pub now : ℕ
  pub up : w.nodes node ≡ Up state
  pub event : r.event ≡ Ask node call now
  pub outcome : r.outcome ≡ outcome_of_step (is_stop r.outcome) state (Call call now) (group_step node state (Call call now))
  pub is : IsWritten node state call now vote list payload

-- or the node is opened, and the call wrote it that stopped there last
abbrev pub IsNew : (ℕ → Option EntryPayload) → GroupWorld → Recorded → ℕ → Vote ℕ → List Entry → Entry → Type 0
IsNew stopped w r node vote list x = IsCalled w r node vote list x.payload ⊎ ((r.event ≡ Restart node) × (stopped node ≡ Some x.payload))

module _ (ids : List ℕ) (w : GroupWorld) (r : Recorded) (w' : GroupWorld) (node : ℕ) (l : Led) (leaves : LeavesNote ids w r w' node l) (stopped : ℕ → Option EntryPayload) (stops : AreStops stopped w) (a : Accounts) (v : GroupWorld) (t : AreTrue a v) (same : v.led ≡ w.led) (some : a.latest l.vote ≡ [] → ⊥) where
  leads : IsOfLeader r.outcome node (w'.nodes node) l
  leads = telling.leads ids w r w' node l leaves

  abbrev st : StoredGroup
  st = leads.state.stored

  abbrev New : Entry → Type 0
  New = IsNew stopped w r node l.vote (a.latest l.vote)

  vote_is : l.vote ≡ st.vote
  vote_is = ap (λ (x : Led). x.vote) leads.is

  list_is : l.list ≡ held st
  list_is = ap (λ (x : Led). x.list) leads.is

  node_is : l.node ≡ node
  node_is = ap (λ (x : Led). x.node) leads.is

  mine : st.vote.leader_id.node_id ≡ node
  mine =
      ap (λ (u : Vote ℕ). u.leader_id.node_id) (sym vote_is) ∙ (telling.mine ids w r w' node l leaves).node ∙ node_is

  abbrev Goal : Type 0
  Goal = GoesOnByOne l.vote (a.latest l.vote) New l.list

  from_stored : GoesOnByOne st.vote (a.latest st.vote) (IsNew stopped w r node st.vote (a.latest st.vote)) (held st) → Goal
  from_stored h =
      subst (λ (u : Vote ℕ). GoesOnByOne u (a.latest u) (IsNew stopped w r node u (a.latest u)) l.list) (sym vote_is)
      (subst (GoesOnByOne st.vote (a.latest st.vote) (IsNew stopped w r node st.vote (a.latest st.vote))) (sym list_is) h)

  some_there : a.latest st.vote ≡ [] → ⊥
  some_there = subst (λ (u : Vote ℕ). a.latest u ≡ [] → ⊥) vote_is some

  module _ (there : IsThere w r w' node) where
    has : stored_of (w'.nodes node) ≡ Some st
    has = ap stored_of leads.up

    after_is : left w r w' node there ≡ Up leads.state
    after_is = sym (left_here w r w' node there) ∙ leads.up

    -- of what is new in the note, the place
    note_new : NoteKnown w.led l
    note_new =
        new_note_known ids leaves.behind.before.node_ids leaves.behind.history w leaves.behind.before.replays r leaves.behind.event.1.0 leaves.behind.event.0 l
        (ap (λ (x : GroupWorld). x.led) (sym leaves.behind.event.1.1) ∙ left_led w r w' node there ∙ ap (λ (ls : List Led). w.led ++ ls) leaves.note)

    known_or_new : (x : Entry) → Among x (held st) → Known w.led x ⊎ OwnNew w.led note_new.0 node st.vote x
    known_or_new x among =
        let P : ℕ → Vote ℕ → Entry → Type 0 = λ n u e. Known w.led e ⊎ OwnNew w.led note_new.0 n u e in
        let one = each_among (P l.node l.vote) l.list note_new.1 x (subst (Among x) (sym list_is) among) in
        subst (λ (u : Vote ℕ). P node u x) vote_is (subst (λ (n : ℕ). P n l.vote x) node_is one)

    -- a note behind a call or a message
    comes_note : (s : GroupState) → w.nodes node ≡ Up s → (e : GroupEvent) → there.at ≡ Comes e → r.outcome ≡ outcome_of_step (is_stop r.outcome) s e (group_step node s e) → (stop : Option ℕ) → after_step stop s (group_step node s e) ≡ Up leads.state → Goal
    comes_note s up e comes out stop after =
        from_stored
        (goes_on_with st.vote (a.latest st.vote) (λ (x : Entry). IsCallOf node s e st.vote (a.latest st.vote) x.payload) (IsNew stopped w r node st.vote (a.latest st.vote)) (held st)
        (λ x is.
        inl
        (record {
          state = s;
          call = is.0;
          now = is.1;
          up = up;
          event = call_asked w r.event node is.0 is.1 (there.scene ∙ ap (At node) (comes ∙ ap Comes is.2));
          outcome = subst (λ (q : GroupEvent). r.outcome ≡ outcome_of_step (is_stop r.outcome) s q (group_step node s q)) is.2 out;
          is = is.3;
        }))
        (comes_gains ids w r w' node leaves.behind there a v t same s up e comes stop st (ap stored_of after) has mine some_there note_new.0 known_or_new))

    -- a note behind an opening
    opening_note : (down : StoredGroup) → w.nodes node ≡ Down down → there.at ≡ Restarts → (stop : Option ℕ) → after_step stop (state_of down) (group_step node (state_of down) Open) ≡ Up leads.state → Goal
    opening_note down is restarts stop after =
        let f : Founded w = founded ids leaves.behind.before.node_ids leaves.behind.history w leaves.behind.before.replays in
        let b = world_after f.membership f.is.matches.before in
        let fits : StopFits f.membership b node down = (at_node f.membership b w f.is.matches.fits node (Down down) is).1 in
        let kept = opening_keeps down fits.down node stop st (ap stored_of after) in
        let vote : down.vote ≡ l.vote = sym kept.0 ∙ sym vote_is in
        let asked : r.event ≡ Restart node = opening_asked w r.event node (there.scene ∙ ap (At node) restarts) in
        let Told : Entry → Type 0 = λ e. stopped node ≡ Some e.payload in
        let was : GoesOnByOne down.vote (a.latest down.vote) Told (held down) =
        stops.down node down is a v t same (subst (λ (u : Vote ℕ). a.latest u ≡ [] → ⊥) (sym vote) some)
        (ap (λ (u : Vote ℕ). u.leader_id.node_id) (vote ∙ vote_is) ∙ mine)
        in
        let here : GoesOnByOne l.vote (a.latest l.vote) Told l.list =
        subst (λ (u : Vote ℕ). GoesOnByOne u (a.latest u) Told l.list) vote
        (subst (GoesOnByOne down.vote (a.latest down.vote) Told) (sym kept.1 ∙ sym list_is) was)
        in
        goes_on_with l.vote (a.latest l.vote) Told New l.list (λ e told. inr (asked, told)) here

    none_up : {A : Type 0} (x : StoredGroup) → Down x ≡ Up leads.state → A
    none_up x e = absurd (let no : Down x ≡ Up leads.state = e in cc)

    -- the outcome of what is skipped leaves no note
    not_skipped : {A : Type 0} → r.outcome ≡ Skipped → A
    not_skipped e = absurd (let no : [] ≡ l ∷ [] = sym (ap (λ (o : Outcome). led_after o node (w'.nodes node)) e) ∙ leaves.note in cc)

    by_event : (x : NodeState) → w.nodes node ≡ x → (at : NodeEvent) → there.at ≡ at → r.outcome ≡ outcome_at node at (is_stop r.outcome) x → state_after node at (stop_at (is_stop r.outcome) there.number) x ≡ Up leads.state → Goal
    by_event Absent is at e out after = absurd (let no : Absent ≡ Up leads.state = after in cc)
    by_event (Up s) is (Comes e) at out after = comes_note s is e at out (stop_at (is_stop r.outcome) there.number) after
    by_event (Up s) is Crashes at out after = none_up s.stored after
    by_event (Up s) is Halts at out after = none_up s.stored after
    by_event (Up s) is Restarts at out after = not_skipped out
    by_event (Down x) is (Comes e) at out after = none_up x after
    by_event (Down x) is Crashes at out after = none_up x after
    by_event (Down x) is Halts at out after = none_up x after
    by_event (Down x) is Restarts at out after = opening_note x is at (stop_at (is_stop r.outcome) there.number) after

  pub new_in_note : Goal
  new_in_note =
      ⊎_elim
      (λ no. absurd (let e : [] ≡ l ∷ [] = sym (ap (λ (o : Outcome). led_after o node (w'.nodes node)) no.outcome) ∙ leaves.note in cc))
      (λ there. by_event there (w.nodes node) refl there.at refl there.outcome (after_is there))
      (where_it_happens ids w r w' node leaves.behind leaves.there)

-- the event asks for what is new
new_is_asked : (stopped : ℕ → Option EntryPayload) (w : GroupWorld) (r : Recorded) (node : ℕ) (vote : Vote ℕ) (list : List Entry) (x : Entry) → IsNew stopped w r node vote list x → AsksFor stopped (membership_in list) r.event x
new_is_asked stopped w r node vote list x new =
    ⊎_elim
    (λ c. subst (λ (q : WorldEvent). AsksFor stopped (membership_in list) q x) (sym c.event) c.is.asked)
    (λ o. subst (λ (q : WorldEvent). AsksFor stopped (membership_in list) q x) (sym o.0) o.1)
    new

pub new_entries_are_asked : NewEntriesAreAsked
new_entries_are_asked ids w r w' node l leaves stopped stops a v t same some =
    goes_on_with l.vote (a.latest l.vote) (IsNew stopped w r node l.vote (a.latest l.vote)) (AsksFor stopped (membership_in (a.latest l.vote)) r.event) l.list
    (λ x new. new_is_asked stopped w r node l.vote (a.latest l.vote) x new)
    (new_in_note ids w r w' node l leaves stopped stops a v t same some)
