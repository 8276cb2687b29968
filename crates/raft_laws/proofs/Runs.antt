-- A history replays just where some run gives it.
use Rattle.std.specs.Prelude.{◌≡◌, ℕ, Bool, true, false, List, [], ◌∷◌, Option, Some, None, is_some, unwrap_or, refl}
use Rattle.std.proofs.Common.{ap, sym, ◌∙◌}
use Rattle.raft_group_step.specs.GroupState.{GroupState}
use Rattle.raft_group_step.specs.GroupEvent.{GroupEvent}
use Rattle.raft_group_step.specs.StepResult.{StepResult, RefusalReason}
use Rattle.raft_laws.specs.declared.world_event.WorldEvent.{WorldEvent}
use Rattle.raft_laws.specs.GroupWorld.{GroupWorld, NodeState, Absent, Up, Down, Outcome, Done, Refused, Stopped, Skipped, Recorded, is_stop}
use Rattle.raft_laws.specs.NodeEvent.{NodeEvent, Comes, Crashes, Halts, Restarts, outcome_at, outcome_of_end, outcome_of_step, outcome_of_stop}
use Rattle.raft_laws.specs.GroupRun.{Scene, Nowhere, At, Replays, IsReplayed, group_run, happens, history_of, outcome_in, outcome_of, ran, scene_of, stop_at}

pub end-is-no-stop : (r : StepResult) (why : Option RefusalReason) → is_stop (outcome_of_end r why) ≡ false
end-is-no-stop r None = refl
end-is-no-stop r (Some why) = refl

stop-tells : (s : GroupState) (e : GroupEvent) (r : StepResult) (why : Option RefusalReason) → r.refused ≡ why → outcome_of_stop s e r why ≡ outcome_of_step (is_stop (outcome_of_stop s e r why)) s e r
stop-tells s e r None is = ap (outcome_of_stop s e r) (sym is)
stop-tells s e r (Some why) is = ap (outcome_of_end r) (sym is)

step-tells-stop : (stopped : Bool) (s : GroupState) (e : GroupEvent) (r : StepResult) → outcome_of_step stopped s e r ≡ outcome_of_step (is_stop (outcome_of_step stopped s e r)) s e r
step-tells-stop true s e r = stop-tells s e r r.refused refl
step-tells-stop false s e r =
    ap (λ stopped. outcome_of_step stopped s e r) (sym (end-is-no-stop r r.refused))

node-tells-stop : (n : ℕ) (e : NodeEvent) (stopped : Bool) (s : NodeState) → outcome_at n e stopped s ≡ outcome_at n e (is_stop (outcome_at n e stopped s)) s
node-tells-stop n e stopped Absent = refl
node-tells-stop n (Comes e) stopped (Up s) = step-tells-stop stopped s e _
node-tells-stop n Crashes stopped (Up s) = refl
node-tells-stop n Halts stopped (Up s) = refl
node-tells-stop n Restarts stopped (Up s) = refl
node-tells-stop n (Comes e) stopped (Down stored) = refl
node-tells-stop n Crashes stopped (Down stored) = refl
node-tells-stop n Halts stopped (Down stored) = refl
node-tells-stop n Restarts stopped (Down stored) = step-tells-stop stopped _ _ _

-- whether an outcome is a stop says how it came about
pub scene-tells-stop : (w : GroupWorld) (stopped : Bool) (scene : Scene) → outcome_in w stopped scene ≡ outcome_in w (is_stop (outcome_in w stopped scene)) scene
scene-tells-stop w stopped Nowhere = refl
scene-tells-stop w stopped (At n e) = node-tells-stop n e stopped (w.nodes n)

-- the history of a run replays to its end
pub run-replays : (es : List (WorldEvent × Option ℕ)) (w : GroupWorld) → Replays w (history_of es w) (group_run es w)
run-replays [] w = refl
run-replays (e ∷ es) w = (
  scene-tells-stop w (is_some e.1) (scene_of w e.0),
  (unwrap_or e.1 0, run-replays es (ran w e.0 e.1)),
)

same-outcome : (w : GroupWorld) (e : WorldEvent) (o : Outcome) (k : ℕ) → o ≡ outcome_of w e (is_stop o) → outcome_of w e (is_some (stop_at (is_stop o) k)) ≡ o
same-outcome w e (Done sent _ unknown) k h = sym h
same-outcome w e (Refused why) k h = sym h
same-outcome w e (Stopped unknown) k h = sym h
same-outcome w e Skipped k h = sym h

same-world : (w : GroupWorld) (e : WorldEvent) (o : Outcome) (k : ℕ) → o ≡ outcome_of w e (is_stop o) → ran w e (stop_at (is_stop o) k) ≡ happens w e o k
same-world w e (Done sent told unknown) k h = ap (λ x. happens w e x 0) (sym h)
same-world w e (Refused why) k h = ap (λ x. happens w e x 0) (sym h)
same-world w e (Stopped unknown) k h = ap (λ x. happens w e x k) (sym h)
same-world w e Skipped k h = ap (λ x. happens w e x 0) (sym h)

first-replayed : (w : GroupWorld) (r : Recorded) (rs : List Recorded) (end : GroupWorld) (k : ℕ) → r.outcome ≡ outcome_of w r.event (is_stop r.outcome) → IsReplayed (happens w r.event r.outcome k) rs end → IsReplayed w (r ∷ rs) end
first-replayed w r rs end k h rest =
    let stop : Option ℕ = stop_at (is_stop r.outcome) k
    in let same : ran w r.event stop ≡ happens w r.event r.outcome k =
    same-world w r.event r.outcome k h
    in record {
      events = (r.event, stop) ∷ rest.events;
      same_history =
          ap (λ (o : Outcome). record { event = r.event; outcome = o } ∷ history_of rest.events (ran w r.event stop))
          (same-outcome w r.event r.outcome k h)
          ∙ ap (λ (x : GroupWorld). r ∷ history_of rest.events x) same
          ∙ ap (λ (xs : List Recorded). r ∷ xs) rest.same_history;
      same_end = ap (λ (x : GroupWorld). group_run rest.events x) same ∙ rest.same_end;
    }

-- a history that replays is that of a run
pub replays-run : (rs : List Recorded) (w end : GroupWorld) → Replays w rs end → IsReplayed w rs end
replays-run [] w end h = record { events = []; same_history = refl; same_end = sym h }
replays-run (r ∷ rs) w end h =
    first-replayed w r rs end h.1.0 h.0 (replays-run rs (happens w r.event r.outcome h.1.0) end h.1.1)
