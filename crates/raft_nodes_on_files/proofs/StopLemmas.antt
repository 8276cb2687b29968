-- What a node over a log that ends a call without a stop made of its log.
use Rattle.std.specs.Prelude.{◌≡◌, ℕ, List, [], ◌∷◌, Option, Some, None, option_and_then, Result, Ok, Err, refl}
use Rattle.std.proofs.Common.{◌⊎◌, ◌∙◌, inl, inr, sym, subst}
use Rattle.raft_cluster_events.specs.declared.event.CrashChoice.{CrashChoice}
use Rattle.raft_cluster_events.specs.declared.node.NodeOutcome.{NodeOutcome}
use Rattle.raft_cluster_events.specs.declared.outcome.NodeError.{NodeError}
use Rattle.raft_cluster_events.specs.declared.outcome.CrashRefusal.{CrashRefusal}
use Rattle.raft_group_step.specs.GroupEvent.{GroupCall}
use Rattle.raft_log_disk.proofs.RefusalLemmas.{blown_not_spent, no_more_then}
use Rattle.raft_log_disk.specs.Cause.{IsBlown, RefusesNoMore, Spends}
use Rattle.raft_log_disk.specs.MemorySystem.{disk_in, is_bounded_in, meter_in}
use Rattle.raft_log_engine.specs.Log.{AreCrashed}
use Rattle.raft_log_engine.specs.declared.memory.LogFiles.{LogFiles}
use Rattle.raft_machines.specs.Machine.{MachineRules}
use Rattle.raft_machines.specs.declared.machine.StateMachine.{Ghosts}
use Rattle.raft_node.specs.declared.outcome.Outcome.{Outcome}
use Rattle.raft_node_faults.specs.Fault.{fault_met_by_node, storage_fault_of}
use Rattle.raft_node_faults.specs.declared.fault.Fault.{Fault}
use Rattle.raft_store.specs.Faults.{log_fault}
use Rattle.raft_nodes_on_logs.specs.Acts.{AddsTo, AnswersLast, AsksTo, CleansAs, CrashesTo, FeedsTo, FusesAs, IsFedOn, IsPassed, OpensTo, RefusesCrash, ReopensTo, WhenDown, WhenUp, log_node_acts, refused, some_outcome}
use Rattle.raft_nodes_on_logs.specs.Kept.{KeepingFault}
use Rattle.raft_nodes_on_logs.specs.Kinds.{NodeKind}
use Rattle.raft_nodes_on_logs.specs.Standing.{NodeOf, UpNode as UpOf}
use Rattle.raft_nodes_on_files.proofs.CauseLemmas.{added_for_cause, asked_for_cause, cleaned_for_cause, fed_for_cause, opened_for_cause, same_some}
use Rattle.raft_nodes_on_files.specs.OnFiles.{UpNode, on_files}
use Rattle.raft_nodes_on_files.specs.Stops.{FileNodeOf, IsLeftSo, IsntLeftSo, StopAsAsked, StoresNothing, files_of, stored_by}

ok_not_err : {T E : Type 0} (x : T) (e : E) → Ok x ≡ Err e → ⊥
ok_not_err x e wrong = absurd cc

module _ (k : NodeKind) where
  -- it is up, and its log's calls met no fault from there
  pub record EndsWell (n : UpOf k) (new : NodeOf k) : Type 0 where
    pub mid : UpOf k
    pub up : new.up ≡ Some mid
    pub met : k.meets n.groups.storage.log mid.groups.storage.log None

  pub up_as : (old new : NodeOf k) (up : Option (UpOf k)) (n : UpOf k) (answer : Type 0) (act : UpOf k → Type 0) → up ≡ Some n → WhenUp k old new up answer act → act n
  up_as old new up n answer act is acts = subst (λ u. WhenUp k old new u answer act) is acts

  pub down_as : (up : Option (UpOf k)) (act answer : Type 0) → up ≡ None → WhenDown k up act answer → act
  down_as up act answer is acts = subst (λ u. WhenDown k u act answer) is acts

  met_none : (n mid : UpOf k) (fault : Option (KeepingFault k)) → fault ≡ None → k.meets n.groups.storage.log mid.groups.storage.log (option_and_then log_fault fault)
      → k.meets n.groups.storage.log mid.groups.storage.log None
  met_none n mid fault is met = subst (λ (f : Option (KeepingFault k)). k.meets n.groups.storage.log mid.groups.storage.log (option_and_then log_fault f)) is met

  passed_well : (old new : NodeOf k) (n mid : UpOf k) (result : Result Outcome (Fault (KeepingFault k))) (o : NodeOutcome)
      → k.meets n.groups.storage.log mid.groups.storage.log (option_and_then log_fault (fault_met_by_node result)) → IsPassed k old mid result (Ok o) new → EndsWell n new
  passed_well old new n mid (Ok did) o met (inl (is, up)) = record { mid = mid; up = up.1; met = met }
  passed_well old new n mid (Ok did) o met (inr s) = absurd (ok_not_err _ _ s.answer)
  passed_well old new n mid (Err why) o met (is, up) = absurd (ok_not_err _ _ is)

  pub added_well : (old new : NodeOf k) (n : UpOf k) (group : ℕ) (o : NodeOutcome) → AddsTo k n group old (Ok o) new → EndsWell n new
  added_well old new n group o a = passed_well old new n a.mid a.result o a.met.log a.passed

  pub asked_well : (old new : NodeOf k) (n : UpOf k) (group now : ℕ) (call : GroupCall) (o : NodeOutcome) → AsksTo k n group call now old (Ok o) new → EndsWell n new
  asked_well old new n group now call o a = passed_well old new n a.mid a.result o a.met.log a.passed

  one_well : (old new : NodeOf k) (n mid : UpOf k) (did : Outcome) (one : Result NodeOutcome NodeError) (o : Option NodeOutcome)
      → k.meets n.groups.storage.log mid.groups.storage.log None → IsPassed k old mid (Ok did) one new → Ok o ≡ some_outcome one → EndsWell n new
  one_well old new n mid did (Ok one) o met passed is = passed_well old new n mid (Ok did) one met passed
  one_well old new n mid did (Err why) o met passed is = absurd (ok_not_err _ _ is)

  last_well : (old new : NodeOf k) (n mid : UpOf k) (did : Outcome) (more : List Outcome) (o : Option NodeOutcome)
      → k.meets n.groups.storage.log mid.groups.storage.log None → AnswersLast k old mid did more (Ok o) new → EndsWell n new
  last_well old new n mid did [] o met (one, passed, is) = one_well old new n mid did one o met passed is
  last_well old new n mid did (next ∷ more) o met fed = last_well old new n mid next more o met fed

  fed_on : (old new : NodeOf k) (n mid : UpOf k) (did : List Outcome) (fault : Option (Fault (KeepingFault k))) (o : Option NodeOutcome)
      → k.meets n.groups.storage.log mid.groups.storage.log (option_and_then log_fault (option_and_then storage_fault_of fault)) → IsFedOn k old mid did fault (Ok o) new → EndsWell n new
  fed_on old new n mid did (Some why) o met (is, up) = absurd (ok_not_err _ _ is)
  fed_on old new n mid [] None o met (is, up) = record { mid = mid; up = up.1; met = met }
  fed_on old new n mid (one ∷ more) None o met fed = last_well old new n mid one more o met fed

  pub fed_well : (old new : NodeOf k) (n : UpOf k) (peer now : ℕ) (piece : List ℕ) (o : Option NodeOutcome) → FeedsTo k n peer piece now old (Ok o) new → EndsWell n new
  fed_well old new n peer now piece o f = fed_on old new n f.mid f.outcomes f.met o f.why.log f.passed

module _ {M : Type 0} (g : Ghosts M) (rules : MachineRules) (state : M → List ℕ) where
  abbrev of_files : NodeKind
  of_files = on_files g rules state

  spent_or_same : (n mid : UpNode M g) → Spends (meter_in (files_of n)) (meter_in (files_of mid)) ⊎ (stored_by mid ≡ stored_by n) → IsBlown (meter_in (files_of n))
      → stored_by mid ≡ stored_by n
  spent_or_same n mid (inl spends) blown = absurd (blown_not_spent (meter_in (files_of n)) (meter_in (files_of mid)) spends blown)
  spent_or_same n mid (inr same) blown = same

  stored_nothing : (old new : FileNodeOf M g) → ((n : UpNode M g) → old.up ≡ Some n → EndsWell of_files n new) → StoresNothing old new
  stored_nothing old new ends n m up behind blown =
      let well = ends n up in
      let same : well.mid ≡ m = same_some well.mid m (sym well.up ∙ behind) in
      subst (λ (x : UpNode M g). stored_by x ≡ stored_by n) same (spent_or_same n well.mid (well.met.stores refl) blown)

  left_by_crash : (old new : FileNodeOf M g) (n : UpNode M g) (choice : CrashChoice) → CrashesTo of_files n choice old new
      → (new.up ≡ None) × IsLeftSo (files_of n) choice new.files.files
  left_by_crash old new n choice c =
      (c.stays.down, (c.chosen, c.says, subst (λ (f : LogFiles). AreCrashed disk_in meter_in (files_of n) c.chosen f.files) (sym c.hands_back) c.crashed.files))

  refused_by : (n : UpNode M g) (choice : CrashChoice) (why : CrashRefusal) → RefusesCrash of_files (Some n) choice why → IsntLeftSo (files_of n) choice why
  refused_by n choice why (inl memory) = inl memory
  refused_by n choice why (inr c) = inr (c.chosen, c.says, c.met, c.named, c.refuses)

  opened_fuse : (old new : FileNodeOf M g) (n : UpNode M g) (outcomes : List NodeOutcome) → new.up ≡ Some n → OpensTo of_files old outcomes new
      → RefusesNoMore (is_bounded_in old.files.files) (is_bounded_in (files_of n)) (meter_in old.files.files) (meter_in (files_of n))
  opened_fuse old new n outcomes up o =
      let same : o.n ≡ n = same_some o.n n (sym o.up.1 ∙ up) in
      subst (λ (x : UpNode M g). RefusesNoMore (is_bounded_in old.files.files) (is_bounded_in (files_of x)) (meter_in old.files.files) (meter_in (files_of x))) same
      (no_more_then o.opened.opens o.opened.met.later)

  refused_so : (up : Option (UpNode M g)) (n : UpNode M g) (choice : CrashChoice) (why : CrashRefusal) → up ≡ Some n → RefusesCrash of_files up choice why → RefusesCrash of_files (Some n) choice why
  refused_so up n choice why is r = subst (λ u. RefusesCrash of_files u choice why) is r

  fused_so : (old new : FileNodeOf M g) (first : Option ℕ) (up is : Option (UpNode M g)) → up ≡ is → FusesAs of_files old first new up → FusesAs of_files old first new is
  fused_so old new first up is same f = subst (FusesAs of_files old first new) same f

  pub stop_as_asked : StopAsAsked (log_node_acts of_files)
  stop_as_asked = record {
    crashes = λ old new n choice up crashed. left_by_crash old new n choice (up_as of_files old new old.up n (Unit {0}) (λ n. CrashesTo of_files n choice old new) up crashed);
    refuses = λ old n choice why up r. refused_by n choice why (refused_so old.up n choice why up r);
    fuses = λ old new n first up f. let to = fused_so old new first old.up (Some n) up f in (to.mid, to.up.1, to.fused.files);
    fuses_down = λ old new first down f. let to = fused_so old new first old.up None down f in (to.stays.down, to.fused.files);
    adds = λ old new group o does. stored_nothing old new (λ n up. added_well of_files old new n group o
        (up_as of_files old new old.up n (Ok o ≡ refused) (λ n. AddsTo of_files n group old (Ok o) new) up does));
    asks = λ old new group now call o does. stored_nothing old new (λ n up. asked_well of_files old new n group now call o
        (up_as of_files old new old.up n (Ok o ≡ refused) (λ n. AsksTo of_files n group call now old (Ok o) new) up does));
    feeds = λ old new peer now piece o does. stored_nothing old new (λ n up. fed_well of_files old new n peer now piece o
        (up_as of_files old new old.up n (Ok o ≡ refused) (λ n. FeedsTo of_files n peer piece now old (Ok o) new) up does));
    opens = λ old new n workers outcomes down up does. opened_fuse old new n outcomes up
        (down_as of_files old.up (ReopensTo of_files old (Ok outcomes) new) ((new ≡ old) × (Ok outcomes ≡ Ok [])) down does);
    adds_for_cause = λ old new group answered does n m stop up behind is.
        added_for_cause g rules state old new n m behind group answered stop (up_as of_files old new old.up n (answered ≡ refused) (λ n. AddsTo of_files n group old answered new) up does) is;
    asks_for_cause = λ old new group now call answered does n m stop up behind is.
        asked_for_cause g rules state old new n m behind group now call answered stop (up_as of_files old new old.up n (answered ≡ refused) (λ n. AsksTo of_files n group call now old answered new) up does) is;
    feeds_for_cause = λ old new peer now piece answered does n m stop up behind is.
        fed_for_cause g rules state old new n m behind peer now piece answered stop (up_as of_files old new old.up n (answered ≡ refused) (λ n. FeedsTo of_files n peer piece now old answered new) up does) is;
    cleans_for_cause = λ old new answered does n m stop up behind is.
        cleaned_for_cause g rules state old new n m behind answered stop (up_as of_files old new old.up n (answered ≡ refused) (λ n. CleansAs of_files n old answered new) up does) is;
    opens_for_cause = λ old new workers stop down does.
        opened_for_cause g rules state old.files new.files old.id stop (down_as of_files old.up (ReopensTo of_files old (Err stop) new) ((new ≡ old) × (Err stop ≡ Ok [])) down does).1;
  }
