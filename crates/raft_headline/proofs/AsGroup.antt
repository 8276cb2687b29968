-- A cluster's history as one of a group, and what it keeps of the machines.
use Rattle.std.specs.Prelude.{◌≡◌, ℕ, Bool, true, false, List, [], ◌∷◌, ◌++◌, slice_get, Option, Some, None, Contains, refl}
use Rattle.std.proofs.Common.{sym, ap, ◌∙◌, subst, append_assoc}
use Rattle.std.proofs.lemmas.List.{append-nil}
use Rattle.raft_group_step.specs.Message.{Message}
use Rattle.raft_group_step.specs.GroupEvent.{GroupCall}
use Rattle.raft_laws.specs.declared.world_event.WorldEvent.{WorldEvent}
use Rattle.raft_laws.specs.declared.world_event.WorldEvent.TheVariants as event
use Rattle.raft_laws.specs.GroupWorld.{GroupWorld, NodeState, Absent, Up, Down, Outcome, Skipped, is_stop, new_world}
use Rattle.raft_laws.specs.GroupWorld.{Done as Ended}
use Rattle.raft_laws.specs.Settled.{group_list}
use Rattle.raft_group_step.specs.GroupState.{Untold}
use Rattle.raft_laws.specs.GroupWorld.{Recorded as GroupRecorded}
use Rattle.raft_laws.specs.NodeEvent.{NodeEvent, Crashes, Halts}
use Rattle.raft_laws.specs.GroupRun.{Scene, Nowhere, At, Replays, after_scene, happens, is_same_setup, outcome_in, outcome_of, scene_of, scene_of_call, scene_of_delivery, setup_in_call, stop_at}
use Rattle.raft_laws.specs.OneList.{IsGroupHistory}
use Rattle.raft_laws.specs.VotesRise.{stored_of}
use Rattle.raft_group_step.specs.StoredGroup.{Snapshot}
use Rattle.raft_laws.proofs.Histories.{histories-join}
use Rattle.raft_laws.proofs.Runs.{scene-tells-stop}
use Rattle.raft_machines.specs.Machine.{MachineRules}
use Rattle.raft_headline.specs.ClusterEvent.{Recorded, is_stopped}
use Rattle.raft_headline.specs.Seen.{Seen, Passed, Own, Halted, Crashed, seen_by}
use Rattle.raft_headline.specs.Machines.{Built, MachinesMove, MachinesMoveIn, Replicas, StandsStill, turn_of}
use Rattle.raft_headline.specs.Replaying.{CrashStep, HaltStep, OwnStep, ReplaysWith, StepsTo}
use Rattle.raft_headline.proofs.Folding.{AnswersFold}
use Rattle.raft_headline.proofs.WorldMachines.{Kept, NotOpening, at_answers, at_kept}

-- ---- one event

one_replays : (w v : GroupWorld) (e : WorldEvent) (stopped : Bool) (k : ℕ) → v ≡ happens w e (outcome_of w e stopped) k → Replays w (record { event = e; outcome = outcome_of w e stopped } ∷ []) v
one_replays w v e stopped k is = (scene-tells-stop w stopped (scene_of w e), (k, is))

abbrev pub SceneFits : Scene → Type 0
SceneFits Nowhere = Unit {0}
SceneFits (At n e) = NotOpening e

call_fits : (b : Bool) (n : ℕ) (call : GroupCall) (now : ℕ) → SceneFits (scene_of_call b n call now)
call_fits true n call now = tt
call_fits false n call now = tt

delivery_fits : (o : Option Message) (now : ℕ) → SceneFits (scene_of_delivery o now)
delivery_fits None now = tt
delivery_fits (Some m) now = tt

pub scene_fits : (w : GroupWorld) (e : WorldEvent) → SceneFits (scene_of w e)
scene_fits w (event.Add n) = tt
scene_fits w (event.Ask n call now) = call_fits (is_same_setup w.setup (setup_in_call call)) n call now
scene_fits w (event.Deliver number now) = delivery_fits (slice_get w.messages number) now
scene_fits w (event.Crash n) = tt
scene_fits w (event.Halt n) = tt
scene_fits w (event.Restart n) = tt

-- no machine takes part in a crash or a halt
no_turn : (rules : MachineRules) (n : ℕ) (e : NodeEvent) (x : NodeState) (m : List ℕ) → (turn_of rules n m e x ≡ None) → (b : Bool) (old new : Replicas) (answers : ℕ → Option (List ℕ)) → StandsStill old new → MachinesMove rules n (turn_of rules n m e x) b old new answers
no_turn rules n e x m is b old new answers h = subst (λ t. MachinesMove rules n t b old new answers) (sym is) h

pub crash_turn : (rules : MachineRules) (n : ℕ) (x : NodeState) (m : List ℕ) → turn_of rules n m Crashes x ≡ None
crash_turn rules n Absent m = refl
crash_turn rules n (Up s) m = refl
crash_turn rules n (Down st) m = refl

halt_turn : (rules : MachineRules) (n : ℕ) (x : NodeState) (m : List ℕ) → turn_of rules n m Halts x ≡ None
halt_turn rules n Absent m = refl
halt_turn rules n (Up s) m = refl
halt_turn rules n (Down st) m = refl

abbrev Holding : List Built → Snapshot → List ℕ → Type 0
Holding built x bytes = Contains built (record { snapshot = x; bytes = bytes })

module _ (rules : MachineRules) (ids : List ℕ) where
  joined_history : (rs : List GroupRecorded) (old new : Replicas) (r : GroupRecorded) → Kept rules ids rs old → Replays old.world (r ∷ []) new.world → IsGroupHistory ids (rs ++ r ∷ []) new.world
  joined_history rs old new r k run = record {
    node_ids = (k.leads).node_ids;
    replays = histories-join rs (r ∷ []) (new_world ids) old.world new.world (k.leads).replays run;
  }

  scene_kept : (rs : List GroupRecorded) (old new : Replicas) (e : WorldEvent) (o : Outcome) (i : ℕ) (scene : Scene) (answers : ℕ → Option (List ℕ)) → SceneFits scene → Kept rules ids rs old
      → Replays old.world (record { event = e; outcome = o } ∷ []) new.world → new.world ≡ after_scene old.world e o (stop_at (is_stop o) i) scene → MachinesMoveIn rules scene (is_stop o) old new answers
      → Kept rules ids (rs ++ record { event = e; outcome = o } ∷ []) new
  scene_kept rs old new e o i Nowhere answers fits k run is moves =
      let r : GroupRecorded = record { event = e; outcome = o } in
      let next : IsGroupHistory ids (rs ++ r ∷ []) new.world = joined_history rs old new r k run in
      record {
        leads = next;
        folded = λ n s now. ap (λ f. f n) moves.machines ∙ k.folded n s (ap (λ (w : GroupWorld). w.nodes n) (sym is) ∙ now);
        built = λ x bytes has. k.built x bytes (subst (λ l. Holding l x bytes) moves.built has);
        bytes = λ n st x now f.
            let h = k.bytes n st x (ap (λ (w : GroupWorld). stored_of (w.nodes n)) (sym is) ∙ now) f in
            (h.0, subst (λ l. Holding l x h.0) (sym moves.built) h.1);
      }
  scene_kept rs old new e o i (At n at_node) answers fits k run is moves =
      let r : GroupRecorded = record { event = e; outcome = o } in
      at_kept rules ids rs old k r new.world run (joined_history rs old new r k run) new refl answers n at_node (is_stop o) i fits
      (λ j. ap (λ (w : GroupWorld). w.nodes j) is) moves

  -- what an event leads to, as an event of the group's own history
  pub record Stepped (rs : List GroupRecorded) (old new : Replicas) (x : GroupRecorded) : Type 0 where
    pub kept : Kept rules ids (rs ++ x ∷ []) new
    pub run : Replays old.world (x ∷ []) new.world

  pub own_stepped : (h : ℕ) (rs : List GroupRecorded) (r : Recorded) (k : ℕ) (e : WorldEvent) (old new : Replicas) → Kept rules ids rs old → OwnStep rules h e r k old new → Stepped rs old new (record { event = e; outcome = outcome_of old.world e (is_stopped r.outcome) })
  own_stepped h rs r k e old new kept step =
      let o = outcome_of old.world e (is_stopped r.outcome) in
      let run = one_replays old.world new.world e (is_stopped r.outcome) k step.world in
      record {
        kept = scene_kept rs old new e o k (scene_of old.world e) step.answers (scene_fits old.world e) kept run step.world step.machines;
        run = run;
      }

  scene_answers : (rs : List GroupRecorded) (old new : Replicas) (e : WorldEvent) (stopped : Bool) (i : ℕ) (scene : Scene) (answers : ℕ → Option (List ℕ)) → SceneFits scene → Kept rules ids rs old
      → (r : GroupRecorded) → Replays old.world (r ∷ []) new.world → (b : Bool) → b ≡ false → (o : Outcome) → new.world ≡ after_scene old.world e o (stop_at b i) scene → MachinesMoveIn rules scene b old new answers
      → (sent : List Message) (tells : List Untold) (lost : List ℕ) → outcome_in old.world stopped scene ≡ Ended sent tells lost → (u : Untold) → Contains tells u → (answer : List ℕ) → answers u.place ≡ Some answer
      → AnswersFold rules (group_list new.world) u.place answer
  scene_answers rs old new e stopped i Nowhere answers fits k r run b goes o is moves sent tells lost ends u has answer a = absurd (let f : Skipped ≡ Ended sent tells lost = ends in cc)
  scene_answers rs old new e stopped i (At n at_node) answers fits k r run b goes o is moves sent tells lost ends u has answer a =
      at_answers rules ids rs old k r new.world run (joined_history rs old new r k run) new refl answers n at_node b stopped i fits goes
      (λ j. ap (λ (w : GroupWorld). w.nodes j) is) moves sent tells lost ends u has answer a

  -- what is told in an event is the fold's answer on the list
  pub own_answers : (h : ℕ) (rs : List GroupRecorded) (r : Recorded) (k : ℕ) (e : WorldEvent) (old new : Replicas) → Kept rules ids rs old → (step : OwnStep rules h e r k old new)
      → (sent : List Message) (tells : List Untold) (lost : List ℕ) → outcome_of old.world e (is_stopped r.outcome) ≡ Ended sent tells lost → (u : Untold) → Contains tells u → (answer : List ℕ) → step.answers u.place ≡ Some answer
      → AnswersFold rules (group_list new.world) u.place answer
  own_answers h rs r k e old new kept step sent tells lost ends =
      let stopped = is_stopped r.outcome in
      let o = outcome_of old.world e stopped in
      scene_answers rs old new e stopped k (scene_of old.world e) step.answers (scene_fits old.world e) kept (record { event = e; outcome = o })
      (one_replays old.world new.world e stopped k step.world) (is_stop o) (ap is_stop ends) o step.world step.machines sent tells lost ends

  halt_stepped : (h : ℕ) (rs : List GroupRecorded) (r : Recorded) (n : ℕ) (old new : Replicas) → Kept rules ids rs old → HaltStep rules h n r.outcome old new → Stepped rs old new (record { event = event.Halt n; outcome = outcome_of old.world (event.Halt n) true })
  halt_stepped h rs r n old new kept step =
      let o = outcome_of old.world (event.Halt n) true in
      let run = one_replays old.world new.world (event.Halt n) true 0 step.world in
      record {
        kept =
            scene_kept rs old new (event.Halt n) o 0 (At n Halts) (λ place. None) tt kept run step.world
            (no_turn rules n Halts (old.world.nodes n) (old.machines n) (halt_turn rules n (old.world.nodes n) (old.machines n)) (is_stop o) old new (λ place. None) step.machines);
        run = run;
      }

  crash_stepped : (h : ℕ) (rs : List GroupRecorded) (r : Recorded) (n : ℕ) (old new : Replicas) → Kept rules ids rs old → CrashStep rules h n r.outcome old new → Stepped rs old new (record { event = event.Crash n; outcome = outcome_of old.world (event.Crash n) false })
  crash_stepped h rs r n old new kept step =
      let o = outcome_of old.world (event.Crash n) false in
      let run = one_replays old.world new.world (event.Crash n) false 0 step.world in
      record {
        kept =
            scene_kept rs old new (event.Crash n) o 0 (At n Crashes) (λ place. None) tt kept run step.world
            (no_turn rules n Crashes (old.world.nodes n) (old.machines n) (crash_turn rules n (old.world.nodes n) (old.machines n)) (is_stop o) old new (λ place. None) step.machines);
        run = run;
      }

  -- ---- a history

  pub record Led (rs : List GroupRecorded) (old end : Replicas) : Type 0 where
    pub more : List GroupRecorded
    pub kept : Kept rules ids (rs ++ more) end
    pub run : Replays old.world more end.world

  one_more : (rs : List GroupRecorded) (old new end : Replicas) (x : GroupRecorded) → Stepped rs old new x → Led (rs ++ x ∷ []) new end → Led rs old end
  one_more rs old new end x s l = record {
    more = x ∷ l.more;
    kept = subst (λ gs. Kept rules ids gs end) (append_assoc rs (x ∷ []) l.more) l.kept;
    run = histories-join (x ∷ []) l.more old.world new.world end.world s.run l.run;
  }

  pub led : (h : ℕ) (rs : List GroupRecorded) (history : List Recorded) (numbers : List ℕ) (old end : Replicas) → Kept rules ids rs old → ReplaysWith rules h old history numbers end → Led rs old end
  led h rs [] numbers old end k run = record {
    more = [];
    kept = subst (Kept rules ids (rs ++ [])) (sym run.1) (subst (λ gs. Kept rules ids gs old) (sym (append-nil rs)) k);
    run = ap (λ (g : Replicas). g.world) run.1;
  }
  led h rs (r ∷ history) numbers old end k run =
      go (seen_by h r) refl (λ gs kept. led h gs history run.0.others run.0.new end kept run.1)
    where
      go : (seen : Seen) → seen_by h r ≡ seen → ((gs : List GroupRecorded) → Kept rules ids gs run.0.new → Led gs run.0.new end) → Led rs old end
      go Passed is rest =
          let same : run.0.new ≡ old = subst (λ s. StepsTo rules h s r run.0.number old run.0.new) is run.0.step in
          let l : Led rs old end = subst (λ (g : Replicas). Led rs g end) same (rest rs (subst (Kept rules ids rs) (sym same) k)) in
          record { more = l.more; kept = l.kept; run = l.run }
      go (Own e) is rest =
          let s = own_stepped h rs r run.0.number e old run.0.new k (subst (λ s. StepsTo rules h s r run.0.number old run.0.new) is run.0.step) in
          one_more rs old run.0.new end _ s (rest _ s.kept)
      go (Halted n) is rest =
          let s = halt_stepped h rs r n old run.0.new k (subst (λ s. StepsTo rules h s r run.0.number old run.0.new) is run.0.step) in
          one_more rs old run.0.new end _ s (rest _ s.kept)
      go (Crashed n) is rest =
          let s = crash_stepped h rs r n old run.0.new k (subst (λ s. StepsTo rules h s r run.0.number old run.0.new) is run.0.step) in
          one_more rs old run.0.new end _ s (rest _ s.kept)
