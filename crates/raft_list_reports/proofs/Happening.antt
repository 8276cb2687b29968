-- Where an event happens, and what it leaves there.
use Rattle.std.specs.Prelude.{◌≡◌, ◌⊎◌, ℕ, if◌then◌else◌, Bool, true, false, List, [], ◌∷◌, ◌++◌, Option, Some, None, refl}
use Rattle.std.proofs.Common.{inl, inr, sym, ap, ◌∙◌, subst, ⊎_elim}
use Rattle.raft_group_step.specs.StoredGroup.{last_id}
use Rattle.raft_group_step.specs.GroupState.{GroupState, Lead, Role, Follower, Candidate, Leader, is_leader}
use Rattle.raft_group_step.specs.GroupEvent.{GroupCall, AddGroup, Call, Receive}
use Rattle.raft_group_step.specs.Message.{Message}
use Rattle.raft_laws.specs.declared.world_event.WorldEvent.{WorldEvent}
use Rattle.raft_laws.specs.declared.world_event.WorldEvent.TheVariants.{Add, Ask, Deliver, Crash, Halt, Restart}
use Rattle.raft_laws.specs.GroupWorld.{GroupWorld, Led, NodeState, Absent, Up, Down, Outcome, Done, Refused, Stopped, Skipped, Recorded, is_stop, new_world}
use Rattle.raft_laws.specs.NodeEvent.{NodeEvent, Comes, Crashes, Halts, Restarts, outcome_at, state_after}
use Rattle.raft_laws.specs.GroupRun.{Scene, Nowhere, At, after_scene, ended, happens, is_same_setup, led_after, led_as, led_by, outcome_in, outcome_of, scene_of, scene_of_call, scene_of_delivery, setup_in_call, stop_at}
use Rattle.raft_laws.specs.OneList.{IsGroupHistory}
use Rattle.raft_laws.proofs.BallotSafe.{Among}
use Rattle.raft_laws.proofs.Histories.{histories-join}
use Rattle.raft_laws.proofs.Numbers.{other-node, state_here}
use Rattle.raft_history_laws.proofs.Notes.{note_of}
use Rattle.raft_list_facts.specs.Leads.{base_of, leading_in}
use Rattle.raft_list_facts.specs.declared.leading.Leading.{Leading}
use Rattle.raft_list_steps.specs.Reports.{IsBehind}
use Rattle.raft_list_reports.specs.Told.{HappensAt, leading_after}

-- it happens nowhere
pub record IsNowhere (w : GroupWorld) (r : Recorded) (w' : GroupWorld) : Type 0 where
  pub outcome : r.outcome ≡ Skipped
  pub same : w' ≡ w

-- it is this event of the node, which stops after so many storing commands, if it stops
pub record IsThere (w : GroupWorld) (r : Recorded) (w' : GroupWorld) (node : ℕ) : Type 0 where
  pub at : NodeEvent
  pub number : ℕ
  pub scene : scene_of w r.event ≡ At node at
  pub outcome : r.outcome ≡ outcome_at node at (is_stop r.outcome) (w.nodes node)
  pub after : w' ≡ ended w r.event r.outcome node (state_after node at (stop_at (is_stop r.outcome) number) (w.nodes node))

module _ (w : GroupWorld) (r : Recorded) (w' : GroupWorld) (node k : ℕ) (is : r.outcome ≡ outcome_of w r.event (is_stop r.outcome)) (there : w' ≡ happens w r.event r.outcome k) (at : HappensAt w r node) where
  at_scene : (scene : Scene) → scene_of w r.event ≡ scene → IsNowhere w r w' ⊎ IsThere w r w' node
  at_scene Nowhere e =
      inl
      (record {
        outcome = is ∙ ap (outcome_in w (is_stop r.outcome)) e;
        same = there ∙ ap (after_scene w r.event r.outcome (stop_at (is_stop r.outcome) k)) e;
      })
  at_scene (At n x) e =
      subst (λ (m : ℕ). IsNowhere w r w' ⊎ IsThere w r w' m) (at n x e)
      (inr
      (record {
        at = x;
        number = k;
        scene = e;
        outcome = is ∙ ap (outcome_in w (is_stop r.outcome)) e;
        after = there ∙ ap (after_scene w r.event r.outcome (stop_at (is_stop r.outcome) k)) e;
      }))

pub where_it_happens : (ids : List ℕ) (w : GroupWorld) (r : Recorded) (w' : GroupWorld) (node : ℕ) → IsBehind ids w r w' → HappensAt w r node → IsNowhere w r w' ⊎ IsThere w r w' node
where_it_happens ids w r w' node behind at =
    at_scene w r w' node behind.event.1.0 behind.event.0 behind.event.1.1 at (scene_of w r.event) refl

-- the history with the event
pub history_behind : (ids : List ℕ) (w : GroupWorld) (r : Recorded) (w' : GroupWorld) (behind : IsBehind ids w r w') → IsGroupHistory ids (behind.history ++ r ∷ []) w'
history_behind ids w r w' behind =
    record {
      node_ids = behind.before.node_ids;
      replays = histories-join behind.history (r ∷ []) (new_world ids) w w' behind.before.replays behind.event;
    }

-- ---- what it leaves

module _ (w : GroupWorld) (r : Recorded) (w' : GroupWorld) (node : ℕ) (there : IsThere w r w' node) where
  abbrev pub left : NodeState
  left = state_after node there.at (stop_at (is_stop r.outcome) there.number) (w.nodes node)

  pub left_here : w'.nodes node ≡ left
  left_here = ap (λ (x : GroupWorld). x.nodes node) there.after ∙ state_here node left w.nodes

  pub left_other : (n : ℕ) → (n ≡ node → ⊥) → w'.nodes n ≡ w.nodes n
  left_other n differs = ap (λ (x : GroupWorld). x.nodes n) there.after ∙ other-node node n left w.nodes differs

  pub left_led : w'.led ≡ w.led ++ led_after r.outcome node (w'.nodes node)
  left_led =
      ap (λ (x : GroupWorld). x.led) there.after
      ∙ ap (λ (x : NodeState). w.led ++ led_after r.outcome node x) (sym left_here)

-- a note is left of a node that is up and leads
pub record IsOfLeader (o : Outcome) (n : ℕ) (x : NodeState) (l : Led) : Type 0 where
  pub state : GroupState
  pub up : x ≡ Up state
  pub lead : Lead
  pub leads : state.role ≡ Leader lead
  pub is : l ≡ note_of n state
  pub told : leading_after o x ≡ Some (record { vote = state.stored.vote; last = last_id state.stored; base = base_of state.stored })

-- a leader tells this
pub leader_tells : (s : GroupState) (lead : Lead) → s.role ≡ Leader lead → leading_in (Up s) ≡ Some (record { vote = s.stored.vote; last = last_id s.stored; base = base_of s.stored })
leader_tells s lead leads =
    ap (λ (role : Role). let told : Option Leading = if is_leader role then Some (record { vote = s.stored.vote; last = last_id s.stored; base = base_of s.stored }) else None in told) leads

-- what a list's first note is, if it has one
abbrev first_note : Led → List Led → Led
first_note l [] = l
first_note l (x ∷ xs) = x

module _ (o : Outcome) (n : ℕ) (tells : (x : NodeState) → leading_after o x ≡ leading_in x) where
  of_role : (s : GroupState) (role : Role) (l : Led) → s.role ≡ role → led_as n s role ≡ l ∷ [] → IsOfLeader o n (Up s) l
  of_role s Follower l is e = absurd (let no : [] ≡ l ∷ [] = e in cc)
  of_role s (Candidate granters) l is e = absurd (let no : [] ≡ l ∷ [] = e in cc)
  of_role s (Leader lead) l is e =
      record {
        state = s;
        up = refl;
        lead = lead;
        leads = is;
        is = sym (ap (first_note l) e);
        told = tells (Up s) ∙ leader_tells s lead is;
      }

  of_state : (x : NodeState) (l : Led) → led_by n x ≡ l ∷ [] → IsOfLeader o n x l
  of_state Absent l e = absurd (let no : [] ≡ l ∷ [] = e in cc)
  of_state (Up s) l e = of_role s s.role l refl e
  of_state (Down stored) l e = absurd (let no : [] ≡ l ∷ [] = e in cc)

pub of_leader : (o : Outcome) (n : ℕ) (x : NodeState) (l : Led) → led_after o n x ≡ l ∷ [] → IsOfLeader o n x l
of_leader (Done sent told unknown) n x l e = of_state (Done sent told unknown) n (λ y. refl) x l e
of_leader (Refused why) n x l e = of_state (Refused why) n (λ y. refl) x l e
of_leader (Stopped unknown) n x l e = absurd (let no : [] ≡ l ∷ [] = e in cc)
of_leader Skipped n x l e = absurd (let no : [] ≡ l ∷ [] = e in cc)

-- an event leaves no note and nothing is told, or it leaves one
abbrev pub NotesOrNone : Outcome → ℕ → NodeState → Type 0
NotesOrNone o n x = ((led_after o n x ≡ []) × (leading_after o x ≡ None)) ⊎ ((l : Led) × (led_after o n x ≡ l ∷ []))

untold : (s : GroupState) (role : Role) → s.role ≡ role → is_leader role ≡ false → leading_in (Up s) ≡ None
untold s role is follows =
    ap (λ (b : Bool). let told : Option Leading = if b then Some (record { vote = s.stored.vote; last = last_id s.stored; base = base_of s.stored }) else None in told) (ap is_leader is ∙ follows)

module _ (n : ℕ) where
  role_notes : (s : GroupState) (role : Role) → s.role ≡ role → ((led_as n s role ≡ []) × (leading_in (Up s) ≡ None)) ⊎ ((l : Led) × (led_as n s role ≡ l ∷ []))
  role_notes s Follower is = inl (refl, untold s Follower is refl)
  role_notes s (Candidate granters) is = inl (refl, untold s (Candidate granters) is refl)
  role_notes s (Leader lead) is = inr (note_of n s, refl)

  state_notes : (x : NodeState) → ((led_by n x ≡ []) × (leading_in x ≡ None)) ⊎ ((l : Led) × (led_by n x ≡ l ∷ []))
  state_notes Absent = inl (refl, refl)
  state_notes (Up s) = role_notes s s.role refl
  state_notes (Down stored) = inl (refl, refl)

  pub notes_or_none : (o : Outcome) (x : NodeState) → NotesOrNone o n x
  notes_or_none (Done sent told unknown) x = state_notes x
  notes_or_none (Refused why) x = state_notes x
  notes_or_none (Stopped unknown) x = inl (refl, refl)
  notes_or_none Skipped x = inl (refl, refl)

-- the note is of the node
module _ (l : Led) (n : ℕ) where
  role_node : (s : GroupState) (role : Role) → Among l (led_as n s role) → l.node ≡ n
  role_node s Follower a = absurd a
  role_node s (Candidate granters) a = absurd a
  role_node s (Leader lead) a = ⊎_elim (λ e. ap (λ (x : Led). x.node) e) (λ none. absurd none) a

  state_node : (x : NodeState) → Among l (led_by n x) → l.node ≡ n
  state_node Absent a = absurd a
  state_node (Up s) a = role_node s s.role a
  state_node (Down stored) a = absurd a

pub note_at : (o : Outcome) (n : ℕ) (x : NodeState) (l : Led) → Among l (led_after o n x) → l.node ≡ n
note_at (Done sent told unknown) n x l a = state_node l n x a
note_at (Refused why) n x l a = state_node l n x a
note_at (Stopped unknown) n x l a = absurd a
note_at Skipped n x l a = absurd a

-- ---- which event of the world it is

ask_at : (same : Bool) (n node : ℕ) (call : GroupCall) (now : ℕ) (at : NodeEvent) → scene_of_call same n call now ≡ At node at → (n ≡ node) × (at ≡ Comes (Call call now))
ask_at true n node call now at e =
    let is : At n (Comes (Call call now)) ≡ At node at = e in
    (let same : n ≡ node = cc in same, let same : at ≡ Comes (Call call now) = cc in same)
ask_at false n node call now at e = absurd (let no : Nowhere ≡ At node at = e in cc)

delivery_at : (o : Option Message) (now node : ℕ) (at : NodeEvent) → scene_of_delivery o now ≡ At node at → (peer : ℕ) × (m : Message) × (at ≡ Comes (Receive peer m now))
delivery_at None now node at e = absurd (let no : Nowhere ≡ At node at = e in cc)
delivery_at (Some m) now node at e =
    let is : At m.addressee (Comes (Receive m.sender m now)) ≡ At node at = e in
    (m.sender, m, let same : at ≡ Comes (Receive m.sender m now) = cc in same)

-- a call at the node was asked for
pub call_asked : (w : GroupWorld) (e : WorldEvent) (node : ℕ) (call : GroupCall) (now : ℕ) → scene_of w e ≡ At node (Comes (Call call now)) → e ≡ Ask node call now
call_asked w (Add n) node call now is = absurd (let no : At n (Comes AddGroup) ≡ At node (Comes (Call call now)) = is in cc)
call_asked w (Ask n other moment) node call now is =
    let at = ask_at (is_same_setup w.setup (setup_in_call other)) n node other moment (Comes (Call call now)) is in
    let there : n ≡ node = at.0 in
    let same : Comes (Call call now) ≡ Comes (Call other moment) = at.1 in
    cc
call_asked w (Deliver number moment) node call now is =
    let at = delivery_at _ moment node (Comes (Call call now)) is in
    absurd (let no : Comes (Call call now) ≡ Comes (Receive at.0 at.1 moment) = at.2 in cc)
call_asked w (Crash n) node call now is = absurd (let no : At n Crashes ≡ At node (Comes (Call call now)) = is in cc)
call_asked w (Halt n) node call now is = absurd (let no : At n Halts ≡ At node (Comes (Call call now)) = is in cc)
call_asked w (Restart n) node call now is = absurd (let no : At n Restarts ≡ At node (Comes (Call call now)) = is in cc)

-- so was an opening
pub opening_asked : (w : GroupWorld) (e : WorldEvent) (node : ℕ) → scene_of w e ≡ At node Restarts → e ≡ Restart node
opening_asked w (Add n) node is = absurd (let no : At n (Comes AddGroup) ≡ At node Restarts = is in cc)
opening_asked w (Ask n call now) node is =
    let at = ask_at (is_same_setup w.setup (setup_in_call call)) n node call now Restarts is in
    absurd (let no : Restarts ≡ Comes (Call call now) = at.1 in cc)
opening_asked w (Deliver number now) node is =
    let at = delivery_at _ now node Restarts is in
    absurd (let no : Restarts ≡ Comes (Receive at.0 at.1 now) = at.2 in cc)
opening_asked w (Crash n) node is = absurd (let no : At n Crashes ≡ At node Restarts = is in cc)
opening_asked w (Halt n) node is = absurd (let no : At n Halts ≡ At node Restarts = is in cc)
opening_asked w (Restart n) node is = let same : At n Restarts ≡ At node Restarts = is in let there : n ≡ node = cc in ap Restart there
