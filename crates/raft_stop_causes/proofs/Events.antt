-- Why an event of a group stopped, in a state to which a history leads.
use Rattle.std.specs.Prelude.{◌≡◌, ℕ, Bool, true, false, List, [], ◌∷◌, slice_get, Some, Result, Err, Vec, Contains, is_some, refl}
use Rattle.std.specs.Global.{Global}
use Rattle.std.proofs.Common.{inl, inr, sym, ap, subst}
use Rattle.raft_framed_groups.specs.Frames.{AnyNotFramed}
use Rattle.raft_group_step.specs.GroupEvent.{AddGroup, GroupEvent}
use Rattle.raft_group_step.specs.GroupState.{GroupState, no_group, state_of}
use Rattle.raft_group_step.specs.GroupStep.{group_step}
use Rattle.raft_group_step.specs.Message.{Message}
use Rattle.raft_group_step.specs.StoredGroup.{Snapshot, StoredGroup}
use Rattle.raft_headline.specs.ClusterEvent.{ClusterEvent, Recorded}
use Rattle.raft_history_laws.specs.Limits.{WasSent}
use Rattle.raft_history_laws.proofs.FittingWorlds.{committed_within, stored_parts_fit}
use Rattle.raft_laws.specs.GroupWorld.{NodeState, Up}
use Rattle.raft_laws.specs.VotesRise.{stored_of}
use Rattle.raft_laws.proofs.BallotSafe.{among_at}
use Rattle.raft_laws.proofs.Counts.{among_contains}
use Rattle.raft_messages.specs.declared.memberships.SnapshotBytes.{SnapshotBytes}
use Rattle.raft_messages.specs.declared.message.Message.{Message as Sent}
use Rattle.raft_cluster_laws.specs.Along.{sent_by}
use Rattle.raft_cluster_laws.specs.Keeping.{StandsInWorld}
use Rattle.raft_cluster_laws.proofs.NodesActing.{has_first}
use Rattle.raft_machines.specs.Machine.{MachineRules}
use Rattle.raft_machines.specs.declared.telling.UnknownTokens.{UnknownTokens}
use Rattle.raft_node.specs.Adding.{IsUnframed}
use Rattle.raft_node.specs.Ending.{HasStopped, IsCausedBy, IsEvent, IsLeft}
use Rattle.raft_node.specs.Standing.{NodeValue}
use Rattle.raft_node.specs.declared.outcome.Outcome.{Outcome}
use Rattle.raft_node_faults.specs.Fault.{storage_fault_in}
use Rattle.raft_node_faults.specs.declared.fault.Cause.{Cause}
use Rattle.raft_node_faults.specs.declared.fault.Cause.TheVariants as cause
use Rattle.raft_node_faults.specs.declared.fault.Fault.{Fault}
use Rattle.raft_node_faults.specs.declared.fault.Fault.TheVariants as fault
use Rattle.raft_node_joint.specs.Coming.{ComesTo}
use Rattle.raft_node_joint.specs.Leading.{IsAdding, StandsBefore}
use Rattle.raft_node_joint.specs.Standing.{IsUpIn, MayBe}
use Rattle.raft_node_joint.proofs.Others.{shows_it}
use Rattle.raft_node_joint.proofs.Whole.{IsIn, is_in, is_reached}
use Rattle.raft_store.specs.Reading.{StandsFor}
use Rattle.raft_store_laws.specs.Storable.{AllStorable, HasShortSnapshots}
use Rattle.raft_store_laws.proofs.StorableSteps.{commands_are_storable, what_comes}
use Rattle.raft_wire.specs.declared.error.FrameError.{FrameError}
use Rattle.raft_wire.specs.declared.error.FrameError.TheVariants as frame_error
use Rattle.raft_nodes_on_logs.specs.Acts.{Meets}
use Rattle.raft_nodes_on_logs.specs.Answering.{cause_of}
use Rattle.raft_nodes_on_logs.specs.Kept.{KeepingFault, is_used_well}
use Rattle.raft_nodes_on_logs.specs.Kinds.{NodeKind}
use Rattle.raft_nodes_on_logs.specs.Standing.{UpNode, value}
use Rattle.raft_nodes_on_files.proofs.CauseLemmas.{err_is}
use Rattle.raft_stop_causes.specs.Causes.{IsOwnCause}
use Rattle.raft_stop_causes.proofs.Stored.{none_unframed, stored_all, stored_cause}

stop_is_no : {F : Type 0} (c : Cause F) (unknown : Vec UnknownTokens Global) → fault.Stopped c unknown ≡ fault.Failed → ⊥
stop_is_no c unknown is = absurd cc

stop_is_there : {F : Type 0} (c : Cause F) (unknown : Vec UnknownTokens Global) → fault.Stopped c unknown ≡ fault.UnknownGroup → ⊥
stop_is_there c unknown is = absurd cc

stop_is_new : {F : Type 0} (c : Cause F) (unknown : Vec UnknownTokens Global) → fault.Stopped c unknown ≡ fault.GroupExists → ⊥
stop_is_new c unknown is = absurd cc

-- what was sent is among the messages of a world that has it
pub was_sent : (sent : List Message) (number : ℕ) (m : Message) → slice_get sent number ≡ Some m → Contains sent m
was_sent sent number m at = among_contains sent m (among_at sent number m at)

-- ---- in which state

-- the event stopped in this state, to which the history leads
pub record StoppedThere {F : Type 0} (rules : MachineRules) (stands : SnapshotBytes → Snapshot → Type 0) (ids : List ℕ) (history : List Recorded) (n mid : NodeValue) (group : ℕ) (e : GroupEvent)
    (c : Cause F) (unknown : List UnknownTokens) : Type 0 where
  pub going : n.groups.has_failed ≡ false
  pub state : GroupState
  pub world : StandsInWorld rules ids group history n.groups.own (Up state)
  pub stopped : HasStopped stands mid group state e unknown c

-- so did the adding of a group of which nothing was there
pub record AddedThere {F : Type 0} (rules : MachineRules) (ids : List ℕ) (history : List Recorded) (n mid : NodeValue) (group : ℕ) (c : Cause F) : Type 0 where
  pub going : n.groups.has_failed ≡ false
  pub world : StandsInWorld rules ids group history n.groups.own (Up (state_of no_group))
  pub left : IsLeft mid group (state_of no_group) AddGroup
  pub bare : IsUnframed c

module _ {F : Type 0} (rules : MachineRules) (stands : SnapshotBytes → Snapshot → Type 0) (same : Type 0) (n mid : NodeValue) (group : ℕ) (c : Cause F) (unknown : Vec UnknownTokens Global)
    (ids : List ℕ) (history : List Recorded) (olds : ℕ → List NodeState) (before : StandsBefore rules stands ids history n olds) where
  abbrev stop : Result Outcome (Fault F)
  stop = Err (fault.Stopped c unknown)

  world_of : (i : IsIn rules n group (olds group)) → StandsInWorld rules ids group history n.groups.own (Up i.state)
  world_of i = before.in_world group (Up i.state) (subst (λ xs. Contains xs (Up i.state)) (sym i.alone) (has_first (Up i.state)))

  pub event_stopped : (e : GroupEvent) (happened : ClusterEvent) → ComesTo n.groups.own group history happened e → IsEvent rules stands same n mid group e stop
      → StoppedThere rules stands ids history n mid group e c unknown.items
  event_stopped e happened comes event = by_failed n.groups.has_failed refl
    where
      Goal : Type 0
      Goal = StoppedThere rules stands ids history n mid group e c unknown.items

      by_state : n.groups.has_failed ≡ false → (i : IsIn rules n group (olds group)) → IsUpIn rules n group i.state → Goal
      by_state going i (inl at) =
          let world = world_of i in
          let reached = is_reached rules ids n.groups.own group history happened e i.state comes world in
          record { going = going; state = i.state; world = world; stopped = (event.leads i.state going before.of_machine at reached).1 }
      by_state going i (inr (is, without)) = absurd (stop_is_there c unknown (err_is stop _ _ refl (event.unknown going without.absent.0).0))

      by_failed : (b : Bool) → n.groups.has_failed ≡ b → Goal
      by_failed true failed = absurd (stop_is_no c unknown (err_is stop _ _ refl (event.failed failed).0))
      by_failed false going = let i = is_in rules n group (olds group) going (before.may_be group) in by_state going i i.up

  pub adding_stopped : IsAdding rules stands same n mid group stop → AddedThere rules ids history n mid group c
  adding_stopped adding = by_failed n.groups.has_failed refl
    where
      Goal : Type 0
      Goal = AddedThere rules ids history n mid group c

      by_state : n.groups.has_failed ≡ false → (i : IsIn rules n group (olds group)) → IsUpIn rules n group i.state → Goal
      by_state going i (inl at) = absurd (stop_is_new c unknown (err_is stop _ _ refl (adding.exists going (ap is_some at.up.has)).0))
      by_state going i (inr (is, without)) =
          let added = adding.added going without.absent in
          record { going = going; world = subst (λ s. StandsInWorld rules ids group history n.groups.own (Up s)) is (world_of i); left = added.1; bare = added.2 }

      by_failed : (b : Bool) → n.groups.has_failed ≡ b → Goal
      by_failed true failed = absurd (stop_is_no c unknown (err_is stop _ _ refl (adding.failed failed).0))
      by_failed false going = let i = is_in rules n group (olds group) going (before.may_be group) in by_state going i i.up

-- ---- a node that goes on

well_of : (rules : MachineRules) (n : NodeValue) (h : ℕ) (s : GroupState) → IsUpIn rules n h s → n.groups.is_well
well_of rules n h s (inl at) = at.up.holds.well
well_of rules n h s (inr (is, without)) = without.absent.1

-- no call of its storage has failed, and of each group one part is shown
pub shown_parts : (rules : MachineRules) (n : NodeValue) (olds : ℕ → List NodeState) → n.groups.has_failed ≡ false → ((h : ℕ) → MayBe rules n h (olds h))
    → n.groups.is_well × ((h : ℕ) → (s : StoredGroup) × n.groups.shows h (s ∷ []))
shown_parts rules n olds going may_be =
    let at = λ (h : ℕ). is_in rules n h (olds h) going (may_be h) in
    (well_of rules n 0 (at 0).state (at 0).up, λ h. ((at h).state.stored, shows_it rules n h (at h).state (at h).up))

no_stream : (group : ℕ) (messages : List (Sent SnapshotBytes)) → AnyNotFramed group messages frame_error.StreamFailed → ⊥
no_stream group messages (m, among, none) = none

module _ (k : NodeKind) (short : HasShortSnapshots k.rules) where
  abbrev of : UpNode k → NodeValue
  of n = value k n

  pub used_well : (x : UpNode k) → (of x).groups.is_well × ((h : ℕ) → (s : StoredGroup) × (of x).groups.shows h (s ∷ [])) → is_used_well k x.groups.storage
  used_well x parts = (parts.0.0, λ h. (k.rules, (parts.1 h).0, (parts.1 h).1))

  module _ (n m : UpNode k) (plain : NodeValue) (group : ℕ) (ids : List ℕ) (history : List Recorded) (own : (of m).groups.own ≡ plain.groups.own) (used : is_used_well k n.groups.storage) where
    -- a fault of its storage
    of_storage : (s : GroupState) (e : GroupEvent) (f : KeepingFault k) → Meets k n m (Some f) → StandsInWorld k.rules ids group history plain.groups.own (Up s)
        → WasSent (sent_by group history) e → IsLeft (of m) group s e → IsOwnCause k n m (cause_of k.cause (cause.Storage f))
    of_storage s e f met world was left =
        let sent = subst (λ ms. WasSent ms e) (sym world.messages) was in
        let storable = commands_are_storable k.rules short ids world.group world.end.world world.is_history plain.groups.own s e world.node sent in
        stored_cause k (λ met. k.meets n.groups.storage.log m.groups.storage.log met) _ _ _ _ f used met
        (stored_all k.rules m.groups.storage.refused m.groups.storage.failed_cleaning left.shown.0 (group_step (of m).groups.own s e).commands s.stored
        (subst (λ i. AllStorable k.rules s.stored (group_step i s e).commands) (sym own) storable) left.failed)

    -- a message has no frame
    of_frame : (s : GroupState) (e : GroupEvent) (why : FrameError) → StandsInWorld k.rules ids group history plain.groups.own (Up s) → WasSent (sent_by group history) e
        → IsCausedBy {F = KeepingFault k} (StandsFor k.rules) group (group_step (of m).groups.own s e).messages (cause.Frame why) → IsOwnCause k n m (cause_of k.cause (cause.Frame why))
    of_frame s e frame_error.Memory world was caused = inl refl
    of_frame s e frame_error.StreamFailed world was (messages, says, none) = absurd (no_stream group messages none)
    of_frame s e (frame_error.Fault f) world was (messages, says, wrong) =
        let sent = subst (λ ms. WasSent ms e) (sym world.messages) was in
        let h = world.is_history in
        let stored = stored_parts_fit ids world.group world.end.world h plain.groups.own s.stored (ap stored_of world.node) in
        let comes = what_comes ids world.group world.end.world h s e (committed_within ids world.group world.end.world h plain.groups.own s world.node) sent in
        absurd (none_unframed k.rules short (of m).groups.own s e group messages f stored comes.0 comes.1 says wrong)

    pub event_cause : (e : GroupEvent) (c : Cause (KeepingFault k)) (unknown : List UnknownTokens) → Meets k n m (storage_fault_in c) → WasSent (sent_by group history) e
        → StoppedThere k.rules (StandsFor k.rules) ids history plain (of m) group e c unknown → IsOwnCause k n m (cause_of k.cause c)
    event_cause e cause.Memory unknown met was t = inl refl
    event_cause e cause.Unjudged unknown met was t = inl refl
    event_cause e (cause.Storage f) unknown met was t = of_storage t.state e f met t.world was t.stopped.left
    event_cause e (cause.Frame why) unknown met was t = of_frame t.state e why t.world was t.stopped.caused

    pub adding_cause : (c : Cause (KeepingFault k)) → Meets k n m (storage_fault_in c) → AddedThere k.rules ids history plain (of m) group c → IsOwnCause k n m (cause_of k.cause c)
    adding_cause cause.Memory met t = inl refl
    adding_cause cause.Unjudged met t = inl refl
    adding_cause (cause.Storage f) met t = of_storage (state_of no_group) AddGroup f met t.world tt t.left
    adding_cause (cause.Frame why) met t = absurd t.bare
