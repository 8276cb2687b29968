-- Why an event of a node on files stopped: by the faults that its log's calls met.
use Rattle.std.specs.Prelude.{◌≡◌, ◌⊎◌, ℕ, List, [], ◌∷◌, Option, Some, None, option_and_then, Result, Ok, Err, refl}
use Rattle.std.proofs.Common.{◌∙◌, ap, arith, inl, inr, sym, subst}
use Rattle.raft_cluster_events.specs.declared.node.NodeOutcome.{NodeOutcome}
use Rattle.raft_cluster_events.specs.declared.outcome.NodeError.{NodeError}
use Rattle.raft_cluster_events.specs.declared.outcome.NodeError.TheVariants.{Stopped}
use Rattle.raft_cluster_events.specs.declared.outcome.NodeError.TheVariants as error
use Rattle.raft_cluster_events.specs.declared.outcome.NodeRefusal.TheVariants as refusal
use Rattle.raft_cluster_events.specs.declared.outcome.Stop.{Stop}
use Rattle.raft_cluster_events.specs.declared.outcome.StopCause.{StopCause}
use Rattle.raft_cluster_events.specs.declared.outcome.StopCause.TheVariants as stop_cause
use Rattle.raft_group_step.specs.GroupEvent.{GroupCall}
use Rattle.raft_log_cleaner.specs.Caused.{RefusesReads}
use Rattle.raft_log_disk.specs.Cause.{RefusesNoMore, Rises}
use Rattle.raft_log_disk.specs.Disk.{Disk, IsIn}
use Rattle.raft_log_disk.specs.MemorySystem.{meter_in}
use Rattle.raft_log_disk.specs.Text.{Text}
use Rattle.raft_log_disk.specs.declared.memory.MemoryFileSystem.{MemoryFileSystem}
use Rattle.raft_log_engine.specs.Met.{HasLogCause, IsLogFault}
use Rattle.raft_log_engine.specs.Unopened.{IsOpeningFault}
use Rattle.raft_log_engine.specs.declared.memory.LogFiles.{LogFiles}
use Rattle.raft_log_engine.specs.declared.fault.EngineFault.{EngineFault}
use Rattle.raft_log_engine.specs.declared.fault.EngineFault.TheVariants as engine_fault
use Rattle.raft_log_files.specs.declared.error.Error.TheVariants as log_error
use Rattle.raft_log_files.specs.declared.error.OtherFault.{OtherFault}
use Rattle.raft_log_files.specs.declared.recovery.RecoveryMode.{RecoveryMode}
use Rattle.raft_log_recovery.specs.Caused.{AnyUnreadable, IsFirstBarred, IsRefusal}
use Rattle.raft_log_recovery.specs.Queue.{path_of}
use Rattle.raft_machines.specs.Machine.{MachineRules}
use Rattle.raft_machines.specs.declared.machine.StateMachine.{Ghosts}
use Rattle.raft_node.specs.Settling.{IsStoppedBy}
use Rattle.raft_node.specs.declared.outcome.Outcome.{Outcome}
use Rattle.raft_node_faults.specs.Fault.{fault_met_by_node, storage_fault_in, storage_fault_of}
use Rattle.raft_node_faults.specs.declared.fault.Cause.{Cause}
use Rattle.raft_node_faults.specs.declared.fault.Cause.TheVariants as cause
use Rattle.raft_node_faults.specs.declared.fault.Fault.{Fault}
use Rattle.raft_node_faults.specs.declared.fault.Fault.TheVariants as fault
use Rattle.raft_node_laws.specs.Answered.{stop_behind}
use Rattle.raft_node_logs.specs.Files.{IsNotOpened, cause_of_log}
use Rattle.raft_store.specs.Faults.{log_fault}
use Rattle.raft_store.specs.declared.fault.StoreFault.{StoreFault}
use Rattle.raft_store.specs.declared.fault.StoreFault.TheVariants as store_fault
use Rattle.raft_store.specs.declared.fault.StoreRefusal.TheVariants as store_refusal
use Rattle.raft_wire.specs.declared.error.FrameError.TheVariants as frame_error
use Rattle.raft_wire.specs.declared.error.FrameFault.TheVariants as frame_fault
use Rattle.raft_nodes_on_logs.specs.Acts.{AddsTo, AnswersLast, AsksTo, CleansAs, FeedsTo, IsFedOn, IsPassed, IsUnopened, Meets, StopsBehind, some_outcome}
use Rattle.raft_nodes_on_logs.specs.Answering.{cause_of, error_of, node_outcome, stop_in}
use Rattle.raft_nodes_on_logs.specs.Kinds.{NodeKind}
use Rattle.raft_nodes_on_files.specs.OnFiles.{UpNode, on_files}
use Rattle.raft_nodes_on_files.specs.Stops.{FileNodeOf, HasCause, files_of}

-- ---- what a fault is told as

of_log : (failed : Type 0) (old new : MemoryFileSystem) (met : EngineFault) → IsLogFault failed (meter_in old) (meter_in new) met → HasCause (cause_of_log met) old new
of_log failed old new (engine_fault.Log (log_error.Io f)) why = why
of_log failed old new (engine_fault.Log log_error.TryAgain) why = why
of_log failed old new (engine_fault.Log log_error.Memory) why = tt
of_log failed old new (engine_fault.Log (log_error.Corruption f)) why = tt
of_log failed old new (engine_fault.Log (log_error.InvalidArgument f)) why = tt
of_log failed old new (engine_fault.Log (log_error.Other f)) why = tt
of_log failed old new (engine_fault.Log log_error.EntryCompacted) why = tt
of_log failed old new (engine_fault.Log log_error.EntryNotFound) why = tt
of_log failed old new engine_fault.NotTaken why = tt
of_log failed old new engine_fault.Marked why = tt
of_log failed old new engine_fault.NotAMessage why = tt
of_log failed old new engine_fault.Stopped why = tt

of_cause : (failed : Type 0) (old new : MemoryFileSystem) (why : Cause (StoreFault EngineFault)) → HasLogCause failed (meter_in old) (meter_in new) (option_and_then log_fault (storage_fault_in why))
    → HasCause (cause_of cause_of_log why) old new
of_cause failed old new cause.Memory met = tt
of_cause failed old new cause.Unjudged met = tt
of_cause failed old new (cause.Storage (store_fault.Log f)) met = of_log failed old new f met
of_cause failed old new (cause.Storage (store_fault.Refused store_refusal.Memory)) met = tt
of_cause failed old new (cause.Storage (store_fault.Refused store_refusal.Gap)) met = tt
of_cause failed old new (cause.Storage (store_fault.Refused store_refusal.BelowPurge)) met = tt
of_cause failed old new (cause.Storage (store_fault.Refused store_refusal.NoPlace)) met = tt
of_cause failed old new (cause.Storage (store_fault.Refused store_refusal.TooLong)) met = tt
of_cause failed old new (cause.Storage (store_fault.Refused store_refusal.BadEnd)) met = tt
of_cause failed old new (cause.Storage (store_fault.Refused (store_refusal.Value frame_fault.TooLong))) met = tt
of_cause failed old new (cause.Storage (store_fault.Refused (store_refusal.Value frame_fault.BadKind))) met = tt
of_cause failed old new (cause.Storage (store_fault.Refused (store_refusal.Value frame_fault.BadTag))) met = tt
of_cause failed old new (cause.Storage (store_fault.Refused (store_refusal.Value frame_fault.NotRising))) met = tt
of_cause failed old new (cause.Storage (store_fault.Refused (store_refusal.Value frame_fault.NotUtf8))) met = tt
of_cause failed old new (cause.Storage (store_fault.Refused (store_refusal.Value frame_fault.TrailingBytes))) met = tt
of_cause failed old new (cause.Storage (store_fault.Refused (store_refusal.Value frame_fault.CutShort))) met = tt
of_cause failed old new (cause.Frame frame_error.Memory) met = tt
of_cause failed old new (cause.Frame frame_error.StreamFailed) met = tt
of_cause failed old new (cause.Frame (frame_error.Fault f)) met = tt

-- ---- an event

pub stopped_is : (s t : Stop) → Stopped s ≡ Stopped t → s ≡ t
stopped_is s t is = cc

pub err_is : {T E : Type 0} (r : Result T E) (e f : E) → r ≡ Err e → r ≡ Err f → e ≡ f
err_is r e f one other = cc

pub same_some : {A : Type 0} (x y : A) → Some x ≡ Some y → x ≡ y
same_some x y is = cc

ok_not_stopped : {T : Type 0} (x : T) (e : NodeError) → Ok x ≡ Err e → ⊥
ok_not_stopped x e wrong = absurd cc

not_refused : {stop : Stop} → error.Refused refusal.Failed ≡ Stopped stop → ⊥
not_refused is = absurd cc

-- a stop for want of memory
memory_alone : (why : Fault (StoreFault EngineFault)) → IsStoppedBy cause.Memory why → (stop_in cause_of_log why).cause ≡ stop_cause.Memory
memory_alone (fault.Stopped c unknown) is = ap (cause_of cause_of_log) is
memory_alone other is = absurd is

module _ {M : Type 0} (g : Ghosts M) (rules : MachineRules) (state : M → List ℕ) (old new : FileNodeOf M g) (n m : UpNode M g) (up : new.up ≡ Some m) where
  abbrev k : NodeKind
  k = on_files g rules state

  abbrev HasItsCause : Stop → Type 0
  HasItsCause stop = HasCause stop.cause (files_of n) (files_of m)

  stopped_by : (mid : UpNode M g) (why : Fault (StoreFault EngineFault)) (stop : Stop) → new.up ≡ Some mid → Meets k n mid (storage_fault_of why) → error_of cause_of_log why ≡ Stopped stop → HasItsCause stop
  stopped_by mid (fault.Stopped c unknown) stop at met is =
      subst HasItsCause (stopped_is _ stop is)
      (subst (λ (x : UpNode M g). HasCause (cause_of cause_of_log c) (files_of n) (files_of x)) (same_some mid m (sym at ∙ up)) (of_cause _ (files_of n) (files_of mid) c met.log.cause))
  stopped_by mid (fault.NotLeader leader) stop at met is = absurd cc
  stopped_by mid fault.UnknownGroup stop at met is = absurd cc
  stopped_by mid fault.GroupExists stop at met is = absurd cc
  stopped_by mid fault.NotAllowed stop at met is = absurd cc
  stopped_by mid fault.NotVoter stop at met is = absurd cc
  stopped_by mid (fault.Membership why) stop at met is = absurd cc
  stopped_by mid fault.VoterChange stop at met is = absurd cc
  stopped_by mid fault.InProgress stop at met is = absurd cc
  stopped_by mid fault.CommandTooLong stop at met is = absurd cc
  stopped_by mid fault.NumberAtEnd stop at met is = absurd cc
  stopped_by mid fault.Failed stop at met is = absurd cc
  stopped_by mid fault.WrongParty stop at met is = absurd cc
  stopped_by mid fault.TooMuchForBatch stop at met is = absurd cc
  stopped_by mid fault.BreaksCondition stop at met is = absurd cc
  stopped_by mid (fault.Frame why) stop at met is = absurd cc

  -- memory ran out behind what was done
  stopped_behind : (mid : UpNode M g) (o : Outcome) (answered : Result NodeOutcome NodeError) (stop : Stop) → StopsBehind k old mid o answered new → answered ≡ Err (Stopped stop) → HasItsCause stop
  stopped_behind mid o answered stop b err =
      let is : stop_behind (node_outcome o) (stop_in cause_of_log b.why) ≡ stop = stopped_is _ stop (err_is answered _ _ b.answer err) in
      subst HasItsCause is (subst (λ (c : StopCause). HasCause c (files_of n) (files_of m)) (sym (memory_alone b.why b.fails.0)) tt)

  passed_on : (mid : UpNode M g) (result : Result Outcome (Fault (StoreFault EngineFault))) (answered : Result NodeOutcome NodeError) (stop : Stop) → Meets k n mid (fault_met_by_node result)
      → IsPassed k old mid result answered new → answered ≡ Err (Stopped stop) → HasItsCause stop
  passed_on mid (Ok o) answered stop met (inl (is, at)) err = absurd (ok_not_stopped _ _ (sym is ∙ err))
  passed_on mid (Ok o) answered stop met (inr behind) err = stopped_behind mid o answered stop behind err
  passed_on mid (Err why) answered stop met (is, at) err = stopped_by mid why stop at.1 met (err_is answered _ _ is err)

  pub asked_for_cause : (group now : ℕ) (call : GroupCall) (answered : Result NodeOutcome NodeError) (stop : Stop) → AsksTo k n group call now old answered new → answered ≡ Err (Stopped stop) → HasItsCause stop
  asked_for_cause group now call answered stop a err = passed_on a.mid a.result answered stop a.met a.passed err

  pub added_for_cause : (group : ℕ) (answered : Result NodeOutcome NodeError) (stop : Stop) → AddsTo k n group old answered new → answered ≡ Err (Stopped stop) → HasItsCause stop
  added_for_cause group answered stop a err = passed_on a.mid a.result answered stop a.met a.passed err

  one_for_cause : (mid : UpNode M g) (o : Outcome) (one : Result NodeOutcome NodeError) (stop : Stop) → Meets k n mid None → IsPassed k old mid (Ok o) one new → some_outcome one ≡ Err (Stopped stop) → HasItsCause stop
  one_for_cause mid o (Ok one) stop met passed err = absurd (ok_not_stopped _ _ err)
  one_for_cause mid o (Err why) stop met passed err = passed_on mid (Ok o) (Err why) stop met passed (ap (λ (e : NodeError). Err e) (err_is (some_outcome (Err why)) _ _ refl err))

  last_for_cause : (mid : UpNode M g) (o : Outcome) (more : List Outcome) (answered : Result (Option NodeOutcome) NodeError) (stop : Stop) → Meets k n mid None → AnswersLast k old mid o more answered new
      → answered ≡ Err (Stopped stop) → HasItsCause stop
  last_for_cause mid o [] answered stop met (one, passed, is) err = one_for_cause mid o one stop met passed (sym is ∙ err)
  last_for_cause mid o (next ∷ more) answered stop met fed err = last_for_cause mid next more answered stop met fed err

  fed_on_for_cause : (mid : UpNode M g) (did : List Outcome) (why : Option (Fault (StoreFault EngineFault))) (answered : Result (Option NodeOutcome) NodeError) (stop : Stop)
      → Meets k n mid (option_and_then storage_fault_of why) → IsFedOn k old mid did why answered new → answered ≡ Err (Stopped stop) → HasItsCause stop
  fed_on_for_cause mid did (Some why) answered stop met (is, at) err = stopped_by mid why stop at.1 met (err_is answered _ _ is err)
  fed_on_for_cause mid [] None answered stop met (is, at) err = absurd (ok_not_stopped _ _ (sym is ∙ err))
  fed_on_for_cause mid (o ∷ more) None answered stop met fed err = last_for_cause mid o more answered stop met fed err

  pub fed_for_cause : (peer now : ℕ) (piece : List ℕ) (answered : Result (Option NodeOutcome) NodeError) (stop : Stop) → FeedsTo k n peer piece now old answered new → answered ≡ Err (Stopped stop) → HasItsCause stop
  fed_for_cause peer now piece answered stop f err = fed_on_for_cause f.mid f.outcomes f.met answered stop f.why f.passed err

  pub cleaned_for_cause : (answered : Result (List ℕ) NodeError) (stop : Stop) → CleansAs k n old answered new → answered ≡ Err (Stopped stop) → HasItsCause stop
  cleaned_for_cause (Ok groups) stop c err = absurd (ok_not_stopped _ _ err)
  cleaned_for_cause (Err met) stop (inl refused) err = absurd (not_refused (sym refused.named ∙ err_is (Err met) _ _ refl err))
  cleaned_for_cause (Err met) stop (inr s) err = stopped_by s.failed s.why stop s.up.1 s.caused (sym s.named ∙ err_is (Err met) _ _ refl err)

-- ---- an opening

of_opening : (unsound : Option OtherFault) (mode : RecoveryMode) (directories : List Text) (d left : Disk) (bounded : Type 0) (old new : MemoryFileSystem) (met : EngineFault)
    → IsOpeningFault unsound mode directories d left bounded (meter_in old) (meter_in new) met → HasCause (cause_of_log met) old new
of_opening unsound mode directories d left bounded old new (engine_fault.Log (log_error.Io f)) (inl refused) = inl refused.0
of_opening unsound mode directories d left bounded old new (engine_fault.Log (log_error.Io f)) (inr (queue, q)) = by_call q.refused
  where
    by_call : IsRefusal bounded (IsFirstBarred directories queue q.names left) (meter_in old) (meter_in new) ⊎ AnyUnreadable directories queue q.names (meter_in old)
        → Rises 1 (meter_in old) (meter_in new) ⊎ RefusesReads (meter_in old)
    by_call (inl refused) = inl refused.0
    by_call (inr (name, among, unread)) = inr (path_of directories queue name, unread)
of_opening unsound mode directories d left bounded old new (engine_fault.Log log_error.TryAgain) why = absurd why
of_opening unsound mode directories d left bounded old new (engine_fault.Log log_error.Memory) why = tt
of_opening unsound mode directories d left bounded old new (engine_fault.Log (log_error.Corruption f)) why = tt
of_opening unsound mode directories d left bounded old new (engine_fault.Log (log_error.InvalidArgument f)) why = tt
of_opening unsound mode directories d left bounded old new (engine_fault.Log (log_error.Other f)) why = tt
of_opening unsound mode directories d left bounded old new (engine_fault.Log log_error.EntryCompacted) why = tt
of_opening unsound mode directories d left bounded old new (engine_fault.Log log_error.EntryNotFound) why = tt
of_opening unsound mode directories d left bounded old new engine_fault.NotTaken why = tt
of_opening unsound mode directories d left bounded old new engine_fault.Marked why = tt
of_opening unsound mode directories d left bounded old new engine_fault.NotAMessage why = tt
of_opening unsound mode directories d left bounded old new engine_fault.Stopped why = tt

-- a cause stands behind calls that no more refuses
cause_after : (why : StopCause) (a b : Type 0) (old mid new : MemoryFileSystem) → RefusesNoMore a b (meter_in old) (meter_in mid) → HasCause why mid new → HasCause why old new
cause_after stop_cause.Io a b old mid new later (inl rises) = inl (omega (arith, later.counts, rises))
cause_after stop_cause.Io a b old mid new later (inr (path, unread)) = inr (path, subst (λ paths. IsIn path paths) later.reads unread)
cause_after stop_cause.TryAgain a b old mid new later lacks = omega (arith, later.spaces, lacks)
cause_after stop_cause.Memory a b old mid new later why = tt
cause_after stop_cause.TooLong a b old mid new later why = tt
cause_after stop_cause.Other a b old mid new later why = tt

-- what stopped the opening of a group
of_stop : (failed : Type 0) (old new : MemoryFileSystem) (why : Fault (StoreFault EngineFault)) → HasLogCause failed (meter_in old) (meter_in new) (option_and_then log_fault (storage_fault_of why))
    → HasCause (stop_in cause_of_log why).cause old new
of_stop failed old new (fault.Stopped c unknown) met = of_cause failed old new c met
of_stop failed old new (fault.NotLeader leader) met = tt
of_stop failed old new fault.UnknownGroup met = tt
of_stop failed old new fault.GroupExists met = tt
of_stop failed old new fault.NotAllowed met = tt
of_stop failed old new fault.NotVoter met = tt
of_stop failed old new (fault.Membership why) met = tt
of_stop failed old new fault.VoterChange met = tt
of_stop failed old new fault.InProgress met = tt
of_stop failed old new fault.CommandTooLong met = tt
of_stop failed old new fault.NumberAtEnd met = tt
of_stop failed old new fault.Failed met = tt
of_stop failed old new fault.WrongParty met = tt
of_stop failed old new fault.TooMuchForBatch met = tt
of_stop failed old new fault.BreaksCondition met = tt
of_stop failed old new (fault.Frame why) met = tt

module _ {M : Type 0} (g : Ghosts M) (rules : MachineRules) (state : M → List ℕ) (old new : LogFiles) (id : ℕ) (stop : Stop) where
  abbrev HasCauseOf : StopCause → Type 0
  HasCauseOf why = HasCause why old.files new.files

  pub opened_for_cause : IsUnopened (on_files g rules state) old id stop new → HasCauseOf stop.cause
  opened_for_cause (inl r) = by_files r.why
    where
      by_files : IsNotOpened old stop.cause new → HasCauseOf stop.cause
      by_files (inl (same, inl memory)) = subst HasCauseOf (sym memory) tt
      by_files (inl (same, inr chance)) = subst HasCauseOf (sym chance.0) tt
      by_files (inr h) = subst HasCauseOf (sym h.named) (of_opening _ _ _ _ _ _ old.files new.files h.fault h.caused)
  opened_for_cause (inr (inl l)) =
      subst HasCauseOf (ap (λ (s : Stop). s.cause) (sym l.named))
      (subst (λ (f : LogFiles). HasCause (stop_in cause_of_log l.why).cause old.files f.files) (sym l.hands_back)
      (cause_after (stop_in cause_of_log l.why).cause _ _ old.files l.log.engine.files l.behind.log.engine.files l.opens (of_stop _ l.log.engine.files l.behind.log.engine.files l.why l.met.log.cause)))
  opened_for_cause (inr (inr c)) = subst HasCauseOf (sym c.memory) tt
