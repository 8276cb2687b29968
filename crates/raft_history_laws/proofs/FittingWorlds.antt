-- What nodes have stored and what was sent fits, along every history; and what holds of each node along such worlds.
use Rattle.std.specs.Prelude.{◌≡◌, ℕ, ◌<◌, Bool, true, false, List, [], length, slice_get, Option, Some, None, refl}
use Rattle.std.proofs.Common.{sym, ap, ◌∙◌, subst, arith}
use Rattle.std.proofs.lemmas.List.Elements.{All-nil}
use Rattle.raft_group_step.specs.Values.{Entry, Membership, has_id}
use Rattle.raft_group_step.specs.StoredGroup.{StoredGroup}
use Rattle.raft_group_step.specs.Message.{Message}
use Rattle.raft_group_step.specs.GroupState.{GroupState, no_group, state_of}
use Rattle.raft_group_step.specs.GroupEvent.{GroupCall, GroupEvent, AddGroup, Call, Receive, Open}
use Rattle.raft_group_step.specs.StepResult.{StepResult}
use Rattle.raft_group_step.specs.GroupStep.{group_step}
use Rattle.raft_laws.specs.BallotWorld.{BallotEvent}
use Rattle.raft_laws.specs.BallotRanks.{ballot_group}
use Rattle.raft_laws.specs.declared.world_event.WorldEvent.{WorldEvent}
use Rattle.raft_laws.specs.declared.world_event.WorldEvent.TheVariants.{Add, Ask, Crash, Deliver, Halt, Restart}
use Rattle.raft_laws.specs.GroupWorld.{GroupWorld, NodeState, Absent, Up, Down, Outcome, Recorded, is_stop, new_world, state_or}
use Rattle.raft_laws.specs.NodeEvent.{NodeEvent, Comes, Crashes, Halts, Restarts, after_step, outcome_at, outcome_of_step, state_after}
use Rattle.raft_laws.specs.GroupRun.{Scene, Nowhere, At, Replays, after_scene, is_same_setup, outcome_in, scene_of, scene_of_call, scene_of_delivery, sent_in, setup_in_call, stop_at}
use Rattle.raft_laws.specs.VotesRise.{stored_of}
use Rattle.raft_laws.specs.OneList.{AreNodeIds, IsGroupHistory}
use Rattle.raft_laws.proofs.BallotAgreement.{same_some}
use Rattle.raft_laws.proofs.BallotSafe.{among_at}
use Rattle.raft_laws.proofs.BallotSettling.{all_commits}
use Rattle.raft_laws.proofs.Counts.{contains_at}
use Rattle.raft_laws.proofs.Ids.{size_same}
use Rattle.raft_laws.proofs.Shapes.{joined_end}
use Rattle.raft_laws.proofs.Standing.{UpFits}
use Rattle.raft_laws.proofs.StepFits.{NodeFits, world_after}
use Rattle.raft_laws.proofs.WorldFits.{NodeStateFits, WorldFits}
use Rattle.raft_laws.proofs.HeldLists.{at_node}
use Rattle.raft_laws.proofs.WorldStart.{founded}
use Rattle.raft_step_laws.specs.Fitting.{ComesWithin, IsBodyBounded, FitsEvent, IsPayloadBounded, FitsStored, IsCommittedWithin, StepFits}
use Rattle.raft_step_laws.proofs.FitSteps.{steps_fit}
use Rattle.raft_history_laws.specs.Limits.{CommandsFit, CommittedIsWithin, MessagesFit, OpeningsFit, StoredPartsFit, WasSent}
use Rattle.raft_history_laws.proofs.Along.{along}
use Rattle.raft_history_laws.proofs.AlongNodes.{GivenIn, IsGivenAlong, may_follow}
use Rattle.raft_history_laws.proofs.Leaving.{AllSent, Leaves, StepLeaves, WorldHas, nothing_sent, step_leaves, world_after_event}

-- ---- what is committed is within the log

module _ (m : Membership) (some : 0 < length m.configs) (before : List BallotEvent) (own : ℕ) (s : GroupState) where
  pub is_within_log : UpFits m ((world_after m before).node own) s → IsCommittedWithin s
  is_within_log u =
      let reached = (all_commits (ballot_group m) some before own).left in
      let size = ap length u.fits.log ∙ size_same u.list in
      let ends = joined_end s.stored u.list u.joined in
      let low = u.joined.low in
      let above = u.fits.reaches in
      let is = u.commit in
      record { begins = omega arith; ends = omega arith }

  pub comes_within : NodeFits m (world_after m before) own s → (e : GroupEvent) → ComesWithin s e
  comes_within h AddGroup = tt
  comes_within h (Call call now) = tt
  comes_within h (Receive peer x now) = is_within_log h.up
  comes_within h Open = tt

pub committed_within : CommittedIsWithin
committed_within ids rs end h n s up =
    let f = founded ids h.node_ids rs end h.replays in
    let fits = at_node f.membership (world_after f.membership f.is.matches.before) end f.is.matches.fits n (Up s) up in
    is_within_log f.membership f.some f.is.matches.before n s fits.1.up

-- ---- events that fit

abbrev pub FitsNodeEvent : NodeEvent → Type 0
FitsNodeEvent (Comes e) = FitsEvent e
FitsNodeEvent Crashes = Unit {0}
FitsNodeEvent Halts = Unit {0}
FitsNodeEvent Restarts = Unit {0}

abbrev pub FitsScene : Scene → Type 0
FitsScene Nowhere = Unit {0}
FitsScene (At n e) = FitsNodeEvent e

call_fits : (b : Bool) (n : ℕ) (call : GroupCall) (now : ℕ) → FitsScene (scene_of_call b n call now)
call_fits true n call now = tt
call_fits false n call now = tt

pub scene_fits : (w : GroupWorld) → AllSent IsBodyBounded w.messages → (e : WorldEvent) → FitsScene (scene_of w e)
scene_fits w h (Add n) = tt
scene_fits w h (Ask n call now) = call_fits (is_same_setup w.setup (setup_in_call call)) n call now
scene_fits w h (Deliver number now) = go (slice_get w.messages number) refl
  where
    go : (o : Option Message) → slice_get w.messages number ≡ o → FitsScene (scene_of_delivery o now)
    go None is = tt
    go (Some x) is = h x (among_at w.messages number x is)
scene_fits w h (Crash n) = tt
scene_fits w h (Halt n) = tt
scene_fits w h (Restart n) = tt

-- ---- each event at a node

abbrev pub NodeStored : NodeState → Type 0
NodeStored Absent = Unit {0}
NodeStored (Up s) = FitsStored s.stored
NodeStored (Down stored) = FitsStored stored

abbrev NodeLeaves : Outcome → NodeState → Type 0
NodeLeaves = Leaves NodeStored IsBodyBounded

quiet : (o : Outcome) (x : NodeState) → sent_in o ≡ [] → NodeStored x → NodeLeaves o x
quiet = nothing_sent NodeStored IsBodyBounded

leaves_fitting : (s : GroupState) (r : StepResult) → StepFits s r → StepLeaves NodeStored IsBodyBounded s r
leaves_fitting s r h = record { ended = h.stored; stopped = h.stops; sent = h.messages }

step_fits_on : (s : GroupState) (r : StepResult) → StepFits s r → (stopped : Bool) (k : ℕ) (e : GroupEvent) → NodeLeaves (outcome_of_step stopped s e r) (after_step (stop_at stopped k) s r)
step_fits_on s r h = step_leaves NodeStored IsBodyBounded s r (leaves_fitting s r h)

node_leaves : (m : Membership) (some : 0 < length m.configs) (before : List BallotEvent) (n : ℕ) (e : NodeEvent) (stopped : Bool) (k : ℕ) (x : NodeState) → NodeStateFits m (world_after m before) n x → FitsNodeEvent e → NodeStored x → NodeLeaves (outcome_at n e stopped x) (state_after n e (stop_at stopped k) x)
node_leaves m some before n e stopped k Absent fits f h = quiet (outcome_at n e stopped Absent) Absent refl tt
node_leaves m some before n (Comes e) stopped k (Up s) fits f h =
    step_fits_on s (group_step n s e) (steps_fit n s e h (comes_within m some before n s fits.1 e) f) stopped k e
node_leaves m some before n Crashes stopped k (Up s) fits f h = quiet (outcome_at n Crashes stopped (Up s)) (Down s.stored) refl h
node_leaves m some before n Halts stopped k (Up s) fits f h = quiet (outcome_at n Halts stopped (Up s)) (Down s.stored) refl h
node_leaves m some before n Restarts stopped k (Up s) fits f h = quiet (outcome_at n Restarts stopped (Up s)) (Up s) refl h
node_leaves m some before n (Comes e) stopped k (Down stored) fits f h = quiet (outcome_at n (Comes e) stopped (Down stored)) (Down stored) refl h
node_leaves m some before n Crashes stopped k (Down stored) fits f h = quiet (outcome_at n Crashes stopped (Down stored)) (Down stored) refl h
node_leaves m some before n Halts stopped k (Down stored) fits f h = quiet (outcome_at n Halts stopped (Down stored)) (Down stored) refl h
node_leaves m some before n Restarts stopped k (Down stored) fits f h =
    step_fits_on (state_of stored) (group_step n (state_of stored) Open) (steps_fit n (state_of stored) Open h tt tt) stopped k Open

-- ---- along every history

abbrev pub WorldStored : GroupWorld → Type 0
WorldStored = WorldHas NodeStored IsBodyBounded

scene_stored : (m : Membership) (some : 0 < length m.configs) (before : List BallotEvent) (w : GroupWorld) (fits : WorldFits m (world_after m before) w) (e : WorldEvent) (stopped : Bool) (k : ℕ) (scene : Scene) → FitsScene scene → WorldStored w → WorldStored (after_scene w e (outcome_in w stopped scene) (stop_at stopped k) scene)
scene_stored m some before w fits e stopped k Nowhere f h = h
scene_stored m some before w fits e stopped k (At i at_node) f h =
    world_after_event NodeStored IsBodyBounded w e stopped k i at_node
    (node_leaves m some before i at_node stopped k (w.nodes i) (fits.nodes i) f (h.nodes i))
    h

no_group_fits : FitsStored no_group
no_group_fits =
    record {
      entries = All-nil (λ (e : Entry). IsPayloadBounded e.payload);
      placed = λ i e at. absurd (let f : None ≡ Some e = at in cc);
      snapshot = tt;
    }

start_stored : (b : Bool) → NodeStored (state_or b (Up (state_of no_group)) Absent)
start_stored true = no_group_fits
start_stored false = tt

pub world_stored : (ids : List ℕ) → AreNodeIds ids → (rs : List Recorded) (end : GroupWorld) → Replays (new_world ids) rs end → WorldStored end
world_stored ids small rs end run =
    along ids WorldStored
    (λ early w past r k is h.
    let f = may_follow ids small early w past r k is in
    subst (λ o. WorldStored (after_scene w r.event o (stop_at (is_stop r.outcome) k) (scene_of w r.event))) (sym is)
    (scene_stored f.membership f.some f.first.before w f.first.fits r.event (is_stop r.outcome) k (scene_of w r.event) (scene_fits w h.messages r.event) h))
    (record { nodes = λ n. start_stored (has_id ids n); messages = λ y a. absurd a })
    rs end run

stored_at : (x : NodeState) (st : StoredGroup) → NodeStored x → stored_of x ≡ Some st → FitsStored st
stored_at Absent st h e = absurd (let no : None ≡ Some st = e in cc)
stored_at (Up s) st h e = subst FitsStored (same_some e) h
stored_at (Down stored) st h e = subst FitsStored (same_some e) h

pub stored_parts_fit : StoredPartsFit
stored_parts_fit ids rs end h n st has = stored_at (end.nodes n) st ((world_stored ids h.node_ids rs end h.replays).nodes n) has

pub messages_fit : MessagesFit
messages_fit ids rs end h y within =
    let k = contains_at end.messages y within in
    (world_stored ids h.node_ids rs end h.replays).messages y (among_at end.messages k.0 y k.1)

-- ---- what a node stores

event_fits : (ids : List ℕ) (rs : List Recorded) (end : GroupWorld) → IsGroupHistory ids rs end → (e : GroupEvent) → WasSent end.messages e → FitsEvent e
event_fits ids rs end h AddGroup was = tt
event_fits ids rs end h (Call call now) was = tt
event_fits ids rs end h (Receive peer m now) was = messages_fit ids rs end h m was
event_fits ids rs end h Open was = tt

comes : (s : GroupState) (e : GroupEvent) → IsCommittedWithin s → ComesWithin s e
comes s AddGroup is = tt
comes s (Call call now) is = tt
comes s (Receive peer m now) is = is
comes s Open is = tt

pub commands_fit : CommandsFit
commands_fit ids rs end h n s e up was =
    let stored = stored_parts_fit ids rs end h n s.stored (ap stored_of up) in
    let come = comes s e (committed_within ids rs end h n s up) in
    (steps_fit n s e stored come (event_fits ids rs end h e was)).commands

pub openings_fit : OpeningsFit
openings_fit ids rs end h n stored down =
    let k = steps_fit n (state_of stored) Open (stored_parts_fit ids rs end h n stored (ap stored_of down)) tt tt in
    (k.commands, k.stored)

-- ---- what is given of each event and its node

-- what the node has stored and what comes fits
abbrev pub FitsAt : NodeEvent → NodeState → Type 0
FitsAt e x = NodeStored x × FitsNodeEvent e

fits_in : (w : GroupWorld) → WorldStored w → (scene : Scene) → FitsScene scene → GivenIn FitsAt w scene
fits_in w stored Nowhere fits = tt
fits_in w stored (At n e) fits = (stored.nodes n, fits)

pub all_fits : (ids : List ℕ) → AreNodeIds ids → IsGivenAlong FitsAt ids
all_fits ids small early w past e =
    let stored = world_stored ids small early w past in
    fits_in w stored (scene_of w e) (scene_fits w stored.messages e)
