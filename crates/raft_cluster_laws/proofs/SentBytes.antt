-- Each snapshot that was sent has bytes that a machine gave.
use Rattle.std.specs.Prelude.{◌≡◌, ℕ, Bool, true, false, List, [], ◌∷◌, ◌++◌, Option, Some, None, refl}
use Rattle.std.proofs.Common.{sym, ap, ◌∙◌, subst, ⊎_elim}
use Rattle.raft_values.specs.declared.vote.Vote.{Vote}
use Rattle.raft_group_step.specs.StoredGroup.{Snapshot}
use Rattle.raft_group_step.specs.Message.{Message, SnapshotRequest}
use Rattle.raft_group_step.specs.GroupState.{GroupState, state_of}
use Rattle.raft_group_step.specs.GroupEvent.{GroupEvent, Open}
use Rattle.raft_group_step.specs.StepResult.{RefusalReason, StepResult}
use Rattle.raft_group_step.specs.GroupStep.{group_step}
use Rattle.raft_laws.specs.declared.world_event.WorldEvent.{WorldEvent}
use Rattle.raft_laws.specs.declared.world_event.WorldEvent.TheVariants as event
use Rattle.raft_laws.specs.GroupWorld.{GroupWorld, NodeState, Absent, Up, Down, is_stop}
use Rattle.raft_laws.specs.GroupWorld.{Recorded as GroupRecorded}
use Rattle.raft_laws.specs.NodeEvent.{NodeEvent, Comes, Crashes, Halts, Restarts, after_step, outcome_at, outcome_of_end, outcome_of_step, outcome_of_stop, state_after}
use Rattle.raft_laws.specs.GroupRun.{Scene, Nowhere, At, after_scene, outcome_in, outcome_of, scene_of, sent_in, stop_at}
use Rattle.raft_laws.specs.VotesRise.{stored_of}
use Rattle.raft_laws.proofs.BallotSafe.{Among}
use Rattle.raft_laws.proofs.Counts.{among_contains, among_front, contains_among}
use Rattle.raft_laws.proofs.Numbers.{state_here}
use Rattle.raft_laws.proofs.WorldRuns.{among_either}
use Rattle.raft_machines.specs.Machine.{MachineRules}
use Rattle.raft_headline.specs.ClusterEvent.{Recorded, is_stopped}
use Rattle.raft_headline.specs.Machines.{Built, HasBytes, MachinesMove, MachinesMoveIn, Replicas, Turn, turn_of}
use Rattle.raft_headline.specs.Replaying.{IsStep, OwnStep, ReplaysWith, StepsTo, takes_number, with_number}
use Rattle.raft_headline.specs.Seen.{Seen, Passed, Own, Halted, Crashed, seen_by}
use Rattle.raft_headline.proofs.AsGroup.{led}
use Rattle.raft_headline.proofs.WorldMachines.{Kept}
use Rattle.raft_snapshot_laws.proofs.SentSnapshots.{sent_are_stored}
use Rattle.raft_cluster_laws.proofs.Saying.{crash_sends, halt_sends, moved_messages}

pub more_bytes : (xs ys : List Built) (x : Snapshot) → HasBytes xs x → HasBytes (xs ++ ys) x
more_bytes xs ys x h =
    let one : Built = record { snapshot = x; bytes = h.0 } in
    (h.0, among_contains (xs ++ ys) one (among_front one xs ys (contains_among xs one h.1)))

abbrev pub BytesSent : Replicas → Type 0
BytesSent g =
    (m : Message) → Among m g.world.messages → (v : Vote ℕ) (id : ℕ) (x : Snapshot) → m.body ≡ SnapshotRequest v id x → HasBytes g.built x

-- ---- what a node sends as a snapshot it has stored behind the step

record SentStored (after : NodeState) (x : Snapshot) : Type 0 where
  state : GroupState
  up : after ≡ Up state
  stored : state.stored.snapshot ≡ Some x

module _ (n : ℕ) (s : GroupState) (ge : GroupEvent) (m : Message) (v : Vote ℕ) (id : ℕ) (x : Snapshot) (is : m.body ≡ SnapshotRequest v id x) where
  abbrev q : StepResult
  q = group_step n s ge

  step_sends : (stopped : Bool) (k : ℕ) (o : Option RefusalReason) → q.refused ≡ o → Among m (sent_in (outcome_of_step stopped s ge q))
      → SentStored (after_step (stop_at (is_stop (outcome_of_step stopped s ge q)) k) s q) x
  step_sends true k None e a = absurd (subst (λ o. Among m (sent_in (outcome_of_stop s ge q o))) e a)
  step_sends true k (Some why) e a = absurd (subst (λ o. Among m (sent_in (outcome_of_stop s ge q o))) e a)
  step_sends false k None e a =
      let sent : Among m q.messages = subst (λ o. Among m (sent_in (outcome_of_end q o))) e a in
      let quiet : is_stop (outcome_of_end q q.refused) ≡ false = ap (λ o. is_stop (outcome_of_end q o)) e in
      record {
        state = q.state;
        up = ap (λ b. after_step (stop_at b k) s q) quiet;
        stored = sent_are_stored n s ge m (among_contains q.messages m sent) v id x is;
      }
  step_sends false k (Some why) e a = absurd (subst (λ o. Among m (sent_in (outcome_of_end q o))) e a)

node_sends : (n : ℕ) (e : NodeEvent) (stopped : Bool) (k : ℕ) (y : NodeState) (m : Message) (v : Vote ℕ) (id : ℕ) (x : Snapshot) → m.body ≡ SnapshotRequest v id x → Among m (sent_in (outcome_at n e stopped y))
    → SentStored (state_after n e (stop_at (is_stop (outcome_at n e stopped y)) k) y) x
node_sends n e stopped k Absent m v id x is a = absurd a
node_sends n (Comes ge) stopped k (Up s) m v id x is a = step_sends n s ge m v id x is stopped k (group_step n s ge).refused refl a
node_sends n Crashes stopped k (Up s) m v id x is a = absurd a
node_sends n Halts stopped k (Up s) m v id x is a = absurd a
node_sends n Restarts stopped k (Up s) m v id x is a = absurd a
node_sends n (Comes ge) stopped k (Down st) m v id x is a = absurd a
node_sends n Crashes stopped k (Down st) m v id x is a = absurd a
node_sends n Halts stopped k (Down st) m v id x is a = absurd a
node_sends n Restarts stopped k (Down st) m v id x is a =
    step_sends n (state_of st) Open m v id x is stopped k (group_step n (state_of st) Open).refused refl a

-- ---- bytes that were given stay

module _ (rules : MachineRules) (old new : Replicas) (answers : ℕ → Option (List ℕ)) where
  turn_grows : (n : ℕ) (turn : Option Turn) (b : Bool) → MachinesMove rules n turn b old new answers → (x : Snapshot) → HasBytes old.built x → HasBytes new.built x
  turn_grows n None b h x has = subst (λ l. HasBytes l x) (sym h.built) has
  turn_grows n (Some turn) b h x has = subst (λ l. HasBytes l x) (sym h.given) (more_bytes old.built _ x has)

  built_grows : (scene : Scene) (b : Bool) → MachinesMoveIn rules scene b old new answers → (x : Snapshot) → HasBytes old.built x → HasBytes new.built x
  built_grows Nowhere b h x has = subst (λ l. HasBytes l x) (sym h.built) has
  built_grows (At n e) b h x has = turn_grows n (turn_of rules n (old.machines n) e (old.world.nodes n)) b h x has

module _ (rules : MachineRules) (ids : List ℕ) (h : ℕ) where
  own_sent : (gs : List GroupRecorded) (r : Recorded) (k : ℕ) (e : WorldEvent) (old new : Replicas) → Kept rules ids gs new → BytesSent old → OwnStep rules h e r k old new → BytesSent new
  own_sent gs r k e old new kept sent step m a v id x is =
      let stopped = is_stopped r.outcome in
      let stop = stop_at (is_stop (outcome_of old.world e stopped)) k in
      let messages : new.world.messages ≡ old.world.messages ++ sent_in (outcome_of old.world e stopped) =
      ap (λ (w : GroupWorld). w.messages) step.world ∙ moved_messages old.world e stopped stop (scene_of old.world e)
      in
      ⊎_elim
      (λ before. built_grows rules old new step.answers (scene_of old.world e) (is_stop (outcome_of old.world e stopped)) step.machines x (sent m before v id x is))
      (λ now. by_scene (scene_of old.world e) refl now)
      (among_either m old.world.messages (sent_in (outcome_of old.world e stopped)) (subst (λ ms. Among m ms) messages a))
    where
      by_scene : (scene : Scene) → scene_of old.world e ≡ scene → Among m (sent_in (outcome_in old.world (is_stopped r.outcome) scene)) → HasBytes new.built x
      by_scene Nowhere here now = absurd now
      by_scene (At n at) here now =
          let stopped = is_stopped r.outcome in
          let node = old.world.nodes n in
          let s = node_sends n at stopped k node m v id x is now in
          let left : new.world.nodes n ≡ Up s.state =
          ap (λ (w : GroupWorld). w.nodes n) step.world
          ∙ ap (λ scene. (after_scene old.world e (outcome_in old.world stopped scene) (stop_at (is_stop (outcome_in old.world stopped scene)) k) scene).nodes n) here
          ∙ state_here n (state_after n at (stop_at (is_stop (outcome_at n at stopped node)) k) node) old.world.nodes
          ∙ s.up
          in
          kept.bytes n s.state.stored x (ap stored_of left) s.stored

  quiet_sent : (old new : Replicas) (e : WorldEvent) (stopped : Bool) (k : Option ℕ) → new.built ≡ old.built → sent_in (outcome_of old.world e stopped) ≡ []
      → new.world ≡ after_scene old.world e (outcome_of old.world e stopped) k (scene_of old.world e) → BytesSent old → BytesSent new
  quiet_sent old new e stopped k built none world sent m a v id x is =
      let messages : new.world.messages ≡ old.world.messages ++ [] =
      ap (λ (w : GroupWorld). w.messages) world ∙ moved_messages old.world e stopped k (scene_of old.world e) ∙ ap (λ ms. old.world.messages ++ ms) none
      in
      ⊎_elim
      (λ before. subst (λ l. HasBytes l x) (sym built) (sent m before v id x is))
      (λ now. absurd now)
      (among_either m old.world.messages [] (subst (λ ms. Among m ms) messages a))

  step_sent : (gs : List GroupRecorded) (r : Recorded) (k : ℕ) (seen : Seen) (old new : Replicas) → Kept rules ids gs new → BytesSent old → StepsTo rules h seen r k old new → BytesSent new
  step_sent gs r k Passed old new kept sent step = subst BytesSent (sym step) sent
  step_sent gs r k (Own e) old new kept sent step = own_sent gs r k e old new kept sent step
  step_sent gs r k (Halted n) old new kept sent step =
      quiet_sent old new (event.Halt n) true (stop_at (is_stop (outcome_of old.world (event.Halt n) true)) 0) step.machines.built (halt_sends n (old.world.nodes n)) step.world sent
  step_sent gs r k (Crashed n) old new kept sent step =
      quiet_sent old new (event.Crash n) false (stop_at (is_stop (outcome_of old.world (event.Crash n) false)) 0) step.machines.built (crash_sends n (old.world.nodes n)) step.world sent

  pub sent_along : (gs : List GroupRecorded) (rs : List Recorded) (numbers : List ℕ) (old end : Replicas) → Kept rules ids gs old → BytesSent old → ReplaysWith rules h old rs numbers end → BytesSent end
  sent_along gs [] numbers old end kept sent run = subst BytesSent (sym run.1) sent
  sent_along gs (r ∷ rs) numbers old end kept sent run =
      let one = run.0 in
      let alone : List ℕ = with_number (takes_number (seen_by h r) r.outcome) one.number [] in
      let again : IsStep rules h r alone old = record { number = one.number; others = []; numbered = refl; new = one.new; step = one.step } in
      let l = led rules ids h gs (r ∷ []) alone old one.new kept (again, (refl, refl)) in
      sent_along (gs ++ l.more) rs one.others one.new end l.kept
      (step_sent (gs ++ l.more) r one.number (seen_by h r) old one.new l.kept sent one.step) run.1
