-- Places are low at each node of a group, wherever a history leads.
use Rattle.std.specs.Prelude.{◌≡◌, ℕ, zero, suc, ◌≤◌, ◌^◌, ◌==◌, Bool, true, false, List, [], ◌∷◌, ◌++◌, take, Option, Some, None, refl}
use Rattle.std.proofs.Common.{sym, subst, arith}
use Rattle.raft_group_step.specs.Values.{has_id}
use Rattle.raft_group_step.specs.StoredGroup.{StoredGroup, StoringCommand, after_storing, after_storing_all, end_place}
use Rattle.raft_group_step.specs.GroupState.{GroupState, no_group, state_of}
use Rattle.raft_group_step.specs.GroupEvent.{GroupEvent, AddGroup, Call, Receive, Open}
use Rattle.raft_group_step.specs.GroupStep.{group_step}
use Rattle.raft_laws.specs.declared.world_event.WorldEvent.{WorldEvent}
use Rattle.raft_laws.specs.GroupWorld.{GroupWorld, NodeState, Absent, Up, Down, Outcome, Recorded, is_stop, new_world, state_or}
use Rattle.raft_laws.specs.NodeEvent.{NodeEvent, Comes, Crashes, Halts, Restarts, after_step, state_after}
use Rattle.raft_laws.specs.GroupRun.{Scene, Nowhere, At, Replays, after_scene, happens, scene_of, stop_at}
use Rattle.raft_laws.specs.OneList.{AreNodeIds}
use Rattle.raft_laws.specs.VotesRise.{stored_of}
use Rattle.raft_laws.specs.LowPlaces.{PlacesAreLow}
use Rattle.raft_laws.proofs.BallotAgreement.{same_some}
use Rattle.raft_laws.proofs.Histories.{histories-join}
use Rattle.raft_laws.proofs.WorldStart.{Founded, founded}
use Rattle.raft_laws.proofs.HeldLists.{at_node, machine}
use Rattle.raft_laws.proofs.LowGroups.{AllLow, Low, low_none}
use Rattle.raft_laws.proofs.StepPlaces.{BeginsCommitted, MayBegin, step_low}

-- what the node has stored, if there is such a node, has low places
abbrev pub NodeLow : NodeState → Type 0
NodeLow Absent = Unit {0}
NodeLow (Up s) = Low s.stored
NodeLow (Down stored) = Low stored

-- the log of a node that is up begins no higher than what is committed ends
abbrev pub NodeBegins : NodeState → Type 0
NodeBegins Absent = Unit {0}
NodeBegins (Up s) = BeginsCommitted s
NodeBegins (Down stored) = Unit {0}

-- ---- an event at a node

first_low : (cs : List StoringCommand) (st : StoredGroup) → AllLow st cs → (k : ℕ) → Low (after_storing_all (take k cs) st)
first_low [] st h zero = h
first_low [] st h (suc k) = h
first_low (c ∷ cs) st h zero = h.0
first_low (c ∷ cs) st h (suc k) = first_low cs (after_storing c st) h.1 k

may_begin : (s : GroupState) (e : GroupEvent) → BeginsCommitted s → MayBegin s e
may_begin s AddGroup h = tt
may_begin s (Call call now) h = tt
may_begin s (Receive peer x now) h = h
may_begin s Open h = tt

after_low : (own : ℕ) (s : GroupState) (e : GroupEvent) (stop : Option ℕ) → Low s.stored → MayBegin s e → NodeLow (after_step stop s (group_step own s e))
after_low own s e None h begins = (step_low own s e h begins).now
after_low own s e (Some k) h begins = first_low (group_step own s e).commands s.stored (step_low own s e h begins).all k

event_low : (n : ℕ) (e : NodeEvent) (stop : Option ℕ) (x : NodeState) → NodeLow x → NodeBegins x → NodeLow (state_after n e stop x)
event_low n e stop Absent h begins = tt
event_low n (Comes e) stop (Up s) h begins = after_low n s e stop h (may_begin s e begins)
event_low n Crashes stop (Up s) h begins = h
event_low n Halts stop (Up s) h begins = h
event_low n Restarts stop (Up s) h begins = h
event_low n (Comes e) stop (Down stored) h begins = h
event_low n Crashes stop (Down stored) h begins = h
event_low n Halts stop (Down stored) h begins = h
event_low n Restarts stop (Down stored) h begins = after_low n (state_of stored) Open stop h tt

-- ---- an event of the world

abbrev pub WorldLow : GroupWorld → Type 0
WorldLow w = (n : ℕ) → NodeLow (w.nodes n)

one_low : (b : Bool) (new old : NodeState) → NodeLow new → NodeLow old → NodeLow (state_or b new old)
one_low true new old h k = h
one_low false new old h k = k

scene_low : (w : GroupWorld) (e : WorldEvent) (o : Outcome) (stop : Option ℕ) (scene : Scene) → WorldLow w → ((n : ℕ) → NodeBegins (w.nodes n)) → WorldLow (after_scene w e o stop scene)
scene_low w e o stop Nowhere h begins n = h n
scene_low w e o stop (At node at_node) h begins n =
    one_low (n == node) (state_after node at_node stop (w.nodes node)) (w.nodes n)
    (event_low node at_node stop (w.nodes node) (h node) (begins node)) (h n)

-- ---- histories

module _ (ids : List ℕ) (small : AreNodeIds ids) where
  -- wherever a history leads, what a node has purged is in its snapshot, and that is committed
  begins_at : (w : GroupWorld) (f : Founded w) (n : ℕ) (x : NodeState) → w.nodes n ≡ x → NodeBegins x
  begins_at w f n Absent is = tt
  begins_at w f n (Up s) is =
      let up = (at_node f.membership (machine f.membership f.some w f.is) w f.is.matches.fits n (Up s) is).1.up in
      omega (arith, up.joined.low, up.fits.reaches, up.commit)
  begins_at w f n (Down stored) is = tt

  run_low : (done rs : List Recorded) (w end : GroupWorld) → Replays (new_world ids) done w → WorldLow w → Replays w rs end → WorldLow end
  run_low done [] w end led h run = subst WorldLow (sym run) h
  run_low done (r ∷ rs) w end led h run =
      let next = happens w r.event r.outcome run.1.0 in
      run_low (done ++ r ∷ []) rs next end
      (histories-join done (r ∷ []) (new_world ids) w next led (run.0, (run.1.0, refl)))
      (scene_low w r.event r.outcome (stop_at (is_stop r.outcome) run.1.0) (scene_of w r.event) h
      (λ n. begins_at w (founded ids small done w led) n (w.nodes n) refl))
      run.1.1

  new_low : (b : Bool) → NodeLow (state_or b (Up (state_of no_group)) Absent)
  new_low true = low_none
  new_low false = tt

  pub history_low : (rs : List Recorded) (end : GroupWorld) → Replays (new_world ids) rs end → WorldLow end
  history_low rs end run = run_low [] rs (new_world ids) end refl (λ n. new_low (has_id ids n)) run

stored_low : (x : NodeState) (st : StoredGroup) → NodeLow x → stored_of x ≡ Some st → end_place st ≤ 2 ^ 62
stored_low Absent st h e = absurd (let f : None ≡ Some st = e in cc)
stored_low (Up s) st h e = subst (λ (y : StoredGroup). end_place y ≤ 2 ^ 62) (same_some e) h.reaches
stored_low (Down stored) st h e = subst (λ (y : StoredGroup). end_place y ≤ 2 ^ 62) (same_some e) h.reaches

pub places_low : PlacesAreLow
places_low ids rs end h n st e = stored_low (end.nodes n) st (history_low ids h.node_ids rs end h.replays n) e
