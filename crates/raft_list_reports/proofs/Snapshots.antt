-- A node's snapshot has no entry but a set-up's and those that their own leaders were noted with before: a step stores the snapshot of
-- what was applied, or the one that a message brings.
use Rattle.std.specs.Prelude.{◌≡◌, ◌⊎◌, ℕ, ◌+◌, Bool, true, false, List, [], ◌∷◌, ◌++◌, drop, take, Option, Some, None, refl}
use Rattle.std.proofs.Common.{inl, inr, sym, ◌∙◌, subst, ⊎_elim, take-append-drop}
use Rattle.std.proofs.lemmas.Option.{none-some}
use Rattle.raft_group_step.specs.Values.{has_id}
use Rattle.raft_group_step.specs.StoredGroup.{StoredGroup, Snapshot, StoringCommand, MakeGroup, SetVote, PutEntries, CutFrom, RemoveUpTo, SetSnapshot, StartAfter, after_storing, after_storing_all, held, prefix_of}
use Rattle.raft_group_step.specs.Message.{SnapshotRequest}
use Rattle.raft_group_step.specs.GroupState.{GroupState, no_group, state_of}
use Rattle.raft_group_step.specs.GroupEvent.{GroupEvent, AddGroup, Call, Receive, Open}
use Rattle.raft_group_step.specs.GroupStep.{group_step}
use Rattle.raft_laws.specs.VotesRise.{stored_of}
use Rattle.raft_laws.specs.GroupWorld.{GroupWorld, NodeState, Absent, Up, Down, Led, Recorded, is_stop, new_world, state_or}
use Rattle.raft_laws.specs.NodeEvent.{NodeEvent, Comes, Crashes, Halts, Restarts, after_step, state_after}
use Rattle.raft_laws.specs.GroupRun.{Scene, Nowhere, At, Replays, after_scene, happens, outcome_of, scene_of, stop_at}
use Rattle.raft_laws.specs.OneList.{AreNodeIds}
use Rattle.raft_laws.proofs.BallotAgreement.{same_some}
use Rattle.raft_laws.proofs.BallotSafe.{Among}
use Rattle.raft_laws.proofs.Counts.{among_contains, among_front}
use Rattle.raft_laws.proofs.StepEntries.{BodyEach, Each, StoredEach, each_append, each_drop, each_more, each_take}
use Rattle.raft_laws.proofs.StepOrder.{step-keeps}
use Rattle.raft_snapshot_laws.specs.Snapshots.{ComesOf}
use Rattle.raft_snapshot_laws.proofs.StoredSnapshots.{stored_come}
use Rattle.raft_history_laws.proofs.Along.{along}
use Rattle.raft_history_laws.proofs.AlongNodes.{MayFollow, may_follow}
use Rattle.raft_history_laws.proofs.Later.{one_node}
use Rattle.raft_history_laws.proofs.Notes.{event_notes, note_of}
use Rattle.raft_list_laws.proofs.NotedWorlds.{AllKnown, SceneKnown, all_known, event_known}
use Rattle.raft_list_laws.proofs.OwnNotes.{EventKnown, Known, NodeKnown, known_more}

-- ---- which snapshot is stored behind some commands

-- the one before, or one that a command stored
abbrev Came : List StoringCommand → Option Snapshot → Option Snapshot → Type 0
Came cs old new = (new ≡ old) ⊎ ((x : Snapshot) × Among (SetSnapshot x) cs × (new ≡ Some x))

came_by : (c : StoringCommand) (st : StoredGroup) → Came (c ∷ []) st.snapshot (after_storing c st).snapshot
came_by MakeGroup st = inl refl
came_by (SetVote vote) st = inl refl
came_by (PutEntries place entries) st = inl refl
came_by (CutFrom place) st = inl refl
came_by (RemoveUpTo id) st = inl refl
came_by (SetSnapshot x) st = inr (x, inl refl, refl)
came_by (StartAfter id) st = inl refl

came_all : (cs : List StoringCommand) (st : StoredGroup) → Came cs st.snapshot (after_storing_all cs st).snapshot
came_all [] st = inl refl
came_all (c ∷ cs) st =
    ⊎_elim
    (λ same.
    ⊎_elim
    (λ first. inl (same ∙ first))
    (λ x. inr (x.0, ⊎_elim (λ is. inl is) (λ none. absurd none) x.1, same ∙ x.2))
    (came_by c st))
    (λ x. inr (x.0, inr x.1, x.2))
    (came_all cs (after_storing c st))

among_taken : {A : Type 0} (k : ℕ) (xs : List A) (x : A) → Among x (take k xs) → Among x xs
among_taken k xs x a = subst (Among x) (take-append-drop k xs) (among_front x (take k xs) (drop k xs) a)

-- ---- a step

module _ (led : List Led) where
  abbrev PrefixKnown : Option Snapshot → Type 0
  PrefixKnown o = Each (Known led) (prefix_of o)

  -- each entry of the snapshot that a node has stored is known
  abbrev pub SnapshotKnown : NodeState → Type 0
  SnapshotKnown x = (st : StoredGroup) → stored_of x ≡ Some st → PrefixKnown st.snapshot

  module _ (n : ℕ) (s : GroupState) (e : GroupEvent) (comes : (x : Snapshot) → ComesOf s e x → Each (Known led) x.«prefix») (first : PrefixKnown s.stored.snapshot) where
    abbrev commands : List StoringCommand
    commands = (group_step n s e).commands

    came_known : (cs : List StoringCommand) → ((x : Snapshot) → Among (SetSnapshot x) cs → Among (SetSnapshot x) commands) → PrefixKnown (after_storing_all cs s.stored).snapshot
    came_known cs some =
        ⊎_elim
        (λ same. subst PrefixKnown (sym same) first)
        (λ x. subst PrefixKnown (sym x.2) (comes x.0 (stored_come n s e x.0 (among_contains commands (SetSnapshot x.0) (some x.0 x.1)))))
        (came_all cs s.stored)

    step_known : (stop : Option ℕ) → SnapshotKnown (after_step stop s (group_step n s e))
    step_known None st is =
        subst (λ (y : StoredGroup). PrefixKnown y.snapshot) (sym (step-keeps n s e).stored ∙ same_some is) (came_known commands (λ x a. a))
    step_known (Some k) st is =
        subst (λ (y : StoredGroup). PrefixKnown y.snapshot) (same_some is)
        (came_known (take k commands) (λ x a. among_taken k commands (SetSnapshot x) a))

  -- what a step stores comes of what the node has, or of the message
  comes_known : (n : ℕ) (s : GroupState) → StoredEach (Known led) s.stored → (e : GroupEvent) → EventKnown led n (Comes e) → (x : Snapshot) → ComesOf s e x → Each (Known led) x.«prefix»
  comes_known n s known AddGroup sent x came = absurd came
  comes_known n s known (Call call now) sent x came =
      subst (λ (y : Snapshot). Each (Known led) y.«prefix») (sym came.built)
      (each_take (Known led) (came.last.index + 1) (held s.stored)
      (each_append (Known led) (prefix_of s.stored.snapshot) _ known.1 (each_drop (Known led) _ s.stored.log known.0)))
  comes_known n s known (Receive peer m now) sent x came = let body : BodyEach (Known led) (SnapshotRequest came.0 came.1 x) = subst (BodyEach (Known led)) came.2 sent in body
  comes_known n s known Open sent x came = absurd came

  event_keeps : (n : ℕ) (e : NodeEvent) (stop : Option ℕ) (x : NodeState) → NodeKnown led n x → SnapshotKnown x → EventKnown led n e → SnapshotKnown (state_after n e stop x)
  event_keeps n e stop Absent known h sent = h
  event_keeps n (Comes e) stop (Up s) known h sent = step_known n s e (comes_known n s known.0 e sent) (h s.stored refl) stop
  event_keeps n Crashes stop (Up s) known h sent = h
  event_keeps n Halts stop (Up s) known h sent = h
  event_keeps n Restarts stop (Up s) known h sent = h
  event_keeps n (Comes e) stop (Down stored) known h sent = h
  event_keeps n Crashes stop (Down stored) known h sent = h
  event_keeps n Halts stop (Down stored) known h sent = h
  event_keeps n Restarts stop (Down stored) known h sent =
      step_known n (state_of stored) Open (λ x none. absurd none) (h stored refl) stop

-- ---- along a history

abbrev AllSnapshots : GroupWorld → Type 0
AllSnapshots w = (n : ℕ) → SnapshotKnown w.led (w.nodes n)

module _ (ids : List ℕ) (small : AreNodeIds ids) (rs : List Recorded) (w : GroupWorld) (run : Replays (new_world ids) rs w) (h : AllSnapshots w) (r : Recorded) (k : ℕ) (is : r.outcome ≡ outcome_of w r.event (is_stop r.outcome)) where
  f : MayFollow w r k
  f = may_follow ids small rs w run r k is

  known : AllKnown w
  known = all_known ids small rs w run

  scene_keeps : (scene : Scene) → SceneKnown f.membership f.some f.first.before w f.first.fits known r.event (is_stop r.outcome) k scene → (n : ℕ) → SnapshotKnown w.led ((after_scene w r.event r.outcome (stop_at (is_stop r.outcome) k) scene).nodes n)
  scene_keeps Nowhere sent n = h n
  scene_keeps (At i at) sent n =
      one_node (λ j y. SnapshotKnown w.led y) i n (state_after i at (stop_at (is_stop r.outcome) k) (w.nodes i)) w.nodes
      (λ same. event_keeps w.led i at (stop_at (is_stop r.outcome) k) (w.nodes i) (known.nodes i) (h i) sent)
      (λ other. h n)

  event_leaves : (n : ℕ) → SnapshotKnown w.led ((happens w r.event r.outcome k).nodes n)
  event_leaves n =
      scene_keeps (scene_of w r.event) (event_known f.membership f.some f.first.before w f.first.fits known r.event (is_stop r.outcome) k r.event) n

  event_next : AllSnapshots (happens w r.event r.outcome k)
  event_next n st has =
      ⊎_elim
      (λ same. subst (λ (ls : List Led). Each (Known ls) (prefix_of st.snapshot)) (sym same) (event_leaves n st has))
      (λ x.
      subst (λ (ls : List Led). Each (Known ls) (prefix_of st.snapshot)) (sym x.led)
      (each_more (Known w.led) (Known (w.led ++ note_of x.node x.state ∷ [])) (known_more w.led (note_of x.node x.state ∷ [])) (prefix_of st.snapshot) (event_leaves n st has)))
      (event_notes w r.event r.outcome k)

none_stored : (b : Bool) → SnapshotKnown [] (state_or b (Up (state_of no_group)) Absent)
none_stored true st is = subst (λ (y : StoredGroup). Each (Known []) (prefix_of y.snapshot)) (same_some is) tt
none_stored false st is = absurd (none-some _ is)

all_snapshots : (ids : List ℕ) → AreNodeIds ids → (rs : List Recorded) (w : GroupWorld) → Replays (new_world ids) rs w → AllSnapshots w
all_snapshots ids small rs w run =
    along ids AllSnapshots (λ early v past r k is h. event_next ids small early v past h r k is) (λ n. none_stored (has_id ids n)) rs w run

-- behind an event each entry of a stored snapshot was known before it
pub snapshots_before : (ids : List ℕ) → AreNodeIds ids → (rs : List Recorded) (w : GroupWorld) → Replays (new_world ids) rs w → (r : Recorded) (k : ℕ) → r.outcome ≡ outcome_of w r.event (is_stop r.outcome) → (n : ℕ) → SnapshotKnown w.led ((happens w r.event r.outcome k).nodes n)
snapshots_before ids small rs w run r k is n = event_leaves ids small rs w run (all_snapshots ids small rs w run) r k is n
