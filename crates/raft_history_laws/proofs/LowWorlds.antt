-- The numbers that nodes have stored and that were sent are below the limit, along every history.
use Rattle.std.specs.Prelude.{◌≡◌, ℕ, Bool, true, false, List, [], slice_get, Option, Some, None, refl}
use Rattle.std.proofs.Common.{sym, subst, arith}
use Rattle.std.proofs.lemmas.List.Elements.{All-nil}
use Rattle.raft_group_step.specs.Values.{has_id}
use Rattle.raft_group_step.specs.StoredGroup.{StoredGroup}
use Rattle.raft_group_step.specs.Message.{Message}
use Rattle.raft_group_step.specs.GroupState.{GroupState, no_group, state_of}
use Rattle.raft_group_step.specs.GroupEvent.{GroupCall, GroupEvent, Open}
use Rattle.raft_group_step.specs.StepResult.{StepResult}
use Rattle.raft_group_step.specs.Refusal.{numbers_of}
use Rattle.raft_group_step.specs.GroupStep.{group_step}
use Rattle.raft_laws.specs.declared.world_event.WorldEvent.{WorldEvent}
use Rattle.raft_laws.specs.declared.world_event.WorldEvent.TheVariants.{Add, Ask, Crash, Deliver, Halt, Restart}
use Rattle.raft_laws.specs.GroupWorld.{GroupWorld, NodeState, Absent, Up, Down, Outcome, Recorded, is_stop, new_world, state_or}
use Rattle.raft_laws.specs.NodeEvent.{NodeEvent, Comes, Crashes, Halts, Restarts, after_step, outcome_at, outcome_of_step, state_after}
use Rattle.raft_laws.specs.GroupRun.{Scene, Nowhere, At, Replays, after_scene, is_same_setup, outcome_in, scene_of, scene_of_call, scene_of_delivery, sent_in, setup_in_call, stop_at}
use Rattle.raft_laws.specs.VotesRise.{stored_of}
use Rattle.raft_laws.proofs.BallotAgreement.{same_some}
use Rattle.raft_laws.proofs.BallotSafe.{among_at}
use Rattle.raft_laws.proofs.Counts.{contains_at}
use Rattle.raft_step_laws.specs.Numbers.{BringsLowPrefix, EachPeer, HasLowId, IsLowBody, IsLowPeer, IsLowStored, StepIsLow}
use Rattle.raft_step_laws.proofs.LowWords.{low_range, none_low}
use Rattle.raft_step_laws.proofs.LowSteps.{steps_send_low}
use Rattle.raft_history_laws.specs.Numbers.{NextNumbersAreLow, SentNumbersAreInRange, SentNumbersAreLow, StoredNumbersAreLow}
use Rattle.raft_history_laws.proofs.Along.{along}
use Rattle.raft_history_laws.proofs.Leaving.{AllSent, Leaves, StepLeaves, WorldHas, nothing_sent, step_leaves, world_after_event}

-- ---- events that bring low numbers

abbrev BringsLow : NodeEvent → Type 0
BringsLow (Comes e) = BringsLowPrefix e
BringsLow Crashes = Unit {0}
BringsLow Halts = Unit {0}
BringsLow Restarts = Unit {0}

abbrev SceneIsLow : Scene → Type 0
SceneIsLow Nowhere = Unit {0}
SceneIsLow (At n e) = BringsLow e

call_low : (b : Bool) (n : ℕ) (call : GroupCall) (now : ℕ) → SceneIsLow (scene_of_call b n call now)
call_low true n call now = tt
call_low false n call now = tt

scene_low : (w : GroupWorld) → AllSent IsLowBody w.messages → (e : WorldEvent) → SceneIsLow (scene_of w e)
scene_low w h (Add n) = tt
scene_low w h (Ask n call now) = call_low (is_same_setup w.setup (setup_in_call call)) n call now
scene_low w h (Deliver number now) = go (slice_get w.messages number) refl
  where
    go : (o : Option Message) → slice_get w.messages number ≡ o → SceneIsLow (scene_of_delivery o now)
    go None is = tt
    go (Some x) is = (h x (among_at w.messages number x is)).«prefix»
scene_low w h (Crash n) = tt
scene_low w h (Halt n) = tt
scene_low w h (Restart n) = tt

-- ---- each event at a node

abbrev NodeIsLow : NodeState → Type 0
NodeIsLow Absent = Unit {0}
NodeIsLow (Up s) = IsLowStored s.stored × EachPeer IsLowPeer s.role
NodeIsLow (Down stored) = IsLowStored stored

abbrev NodeLeaves : Outcome → NodeState → Type 0
NodeLeaves = Leaves NodeIsLow IsLowBody

quiet : (o : Outcome) (x : NodeState) → sent_in o ≡ [] → NodeIsLow x → NodeLeaves o x
quiet = nothing_sent NodeIsLow IsLowBody

leaves_low : (s : GroupState) (r : StepResult) → StepIsLow s r → StepLeaves NodeIsLow IsLowBody s r
leaves_low s r h = record { ended = (h.stored, h.peers); stopped = h.stops; sent = h.messages }

step_is_low : (s : GroupState) (r : StepResult) → StepIsLow s r → (stopped : Bool) (k : ℕ) (e : GroupEvent) → NodeLeaves (outcome_of_step stopped s e r) (after_step (stop_at stopped k) s r)
step_is_low s r h = step_leaves NodeIsLow IsLowBody s r (leaves_low s r h)

node_leaves : (n : ℕ) (e : NodeEvent) (stopped : Bool) (k : ℕ) (x : NodeState) → BringsLow e → NodeIsLow x → NodeLeaves (outcome_at n e stopped x) (state_after n e (stop_at stopped k) x)
node_leaves n e stopped k Absent f h = quiet (outcome_at n e stopped Absent) Absent refl tt
node_leaves n (Comes e) stopped k (Up s) f h = step_is_low s (group_step n s e) (steps_send_low n s e h.0 h.1 f) stopped k e
node_leaves n Crashes stopped k (Up s) f h = quiet (outcome_at n Crashes stopped (Up s)) (Down s.stored) refl h.0
node_leaves n Halts stopped k (Up s) f h = quiet (outcome_at n Halts stopped (Up s)) (Down s.stored) refl h.0
node_leaves n Restarts stopped k (Up s) f h = quiet (outcome_at n Restarts stopped (Up s)) (Up s) refl h
node_leaves n (Comes e) stopped k (Down stored) f h = quiet (outcome_at n (Comes e) stopped (Down stored)) (Down stored) refl h
node_leaves n Crashes stopped k (Down stored) f h = quiet (outcome_at n Crashes stopped (Down stored)) (Down stored) refl h
node_leaves n Halts stopped k (Down stored) f h = quiet (outcome_at n Halts stopped (Down stored)) (Down stored) refl h
node_leaves n Restarts stopped k (Down stored) f h =
    step_is_low (state_of stored) (group_step n (state_of stored) Open) (steps_send_low n (state_of stored) Open h tt tt) stopped k Open

-- ---- along every history

abbrev WorldIsLow : GroupWorld → Type 0
WorldIsLow = WorldHas NodeIsLow IsLowBody

scene_keeps : (w : GroupWorld) (e : WorldEvent) (stopped : Bool) (k : ℕ) (scene : Scene) → SceneIsLow scene → WorldIsLow w → WorldIsLow (after_scene w e (outcome_in w stopped scene) (stop_at stopped k) scene)
scene_keeps w e stopped k Nowhere f h = h
scene_keeps w e stopped k (At i at_node) f h =
    world_after_event NodeIsLow IsLowBody w e stopped k i at_node (node_leaves i at_node stopped k (w.nodes i) f (h.nodes i)) h

no_group_low : IsLowStored no_group
no_group_low = record { vote = omega arith; purged = none_low; log = All-nil HasLowId; snapshot = tt }

start_low : (b : Bool) → NodeIsLow (state_or b (Up (state_of no_group)) Absent)
start_low true = (no_group_low, tt)
start_low false = tt

world_low : (ids : List ℕ) (rs : List Recorded) (end : GroupWorld) → Replays (new_world ids) rs end → WorldIsLow end
world_low ids rs end run =
    along ids WorldIsLow
    (λ early w past r k is h.
    subst (λ o. WorldIsLow (after_scene w r.event o (stop_at (is_stop r.outcome) k) (scene_of w r.event))) (sym is)
    (scene_keeps w r.event (is_stop r.outcome) k (scene_of w r.event) (scene_low w h.messages r.event) h))
    (record { nodes = λ n. start_low (has_id ids n); messages = λ y a. absurd a })
    rs end run

stored_at : (x : NodeState) (st : StoredGroup) → NodeIsLow x → stored_of x ≡ Some st → IsLowStored st
stored_at Absent st h e = absurd (let no : None ≡ Some st = e in cc)
stored_at (Up s) st h e = subst IsLowStored (same_some e) h.0
stored_at (Down stored) st h e = subst IsLowStored (same_some e) h

pub sent_low : SentNumbersAreLow
sent_low ids rs end h y within =
    let k = contains_at end.messages y within in
    (world_low ids rs end h.replays).messages y (among_at end.messages k.0 y k.1)

pub sent_in_range : SentNumbersAreInRange
sent_in_range ids rs end h y within = low_range (numbers_of y.body) (sent_low ids rs end h y within).numbers

pub stored_numbers_low : StoredNumbersAreLow
stored_numbers_low ids rs end h n st has = stored_at (end.nodes n) st ((world_low ids rs end h.replays).nodes n) has

pub next_numbers_low : NextNumbersAreLow
next_numbers_low ids rs end h n s up = (subst NodeIsLow up ((world_low ids rs end h.replays).nodes n)).1
