-- Files that are handed back show what their store showed.
use Rattle.std.specs.Prelude.{◌≡◌, ℕ, List, [], ◌∷◌, ◌++◌, Bool, true, false, Option, Some, None, IfErr, IfOk, IfSome, OnErr, OnOk, Result, Ok, Err, is_some, map, refl}
use Rattle.std.proofs.Common.{inl, inr, ap, ap₂, ◌∙◌, subst, sym}
use Rattle.raft_group_step.specs.StoredGroup.{StoredGroup}
use Rattle.raft_group_storage.specs.Keeping.{Fails, KeepsAll, Shows}
use Rattle.raft_log_memtables.specs.Content.{Content}
use Rattle.raft_node.specs.Opening.{HasNotOpened}
use Rattle.raft_node_faults.specs.Fault.{fault_met_by_node}
use Rattle.raft_node_faults.specs.declared.fault.Fault.{Fault}
use Rattle.raft_cluster_events.specs.declared.outcome.NodeError.{NodeError}
use Rattle.raft_cluster_events.specs.declared.outcome.NodeError.TheVariants as error
use Rattle.raft_cluster_events.specs.declared.outcome.NodeRefusal.TheVariants as refusal
use Rattle.raft_cluster_events.specs.declared.outcome.Stop.{Stop}
use Rattle.raft_cluster_events.specs.declared.outcome.Unsaid.{Unsaid}
use Rattle.raft_node.specs.declared.outcome.Outcome.{Outcome}
use Rattle.raft_node_laws.specs.Answered.{unsaid_of}
use Rattle.raft_cluster_events.specs.declared.node.NodeOutcome.{NodeOutcome}
use Rattle.raft_node.specs.Feeding.{StaysBut}
use Rattle.raft_node.specs.Settling.{IsStorageStop}
use Rattle.raft_node.specs.Waiting.{waiting_of}
use Rattle.raft_nodes_on_logs.specs.Acts.{AnswersLast, AreHandedBack, CleansAs, FailsTo, FusesAs, IsFedOn, IsOpened, IsPassed, IsUpAs, Meets, ReopensTo, WhenDown, WhenUp, refused, some_outcome}
use Rattle.raft_cluster_events.specs.declared.outcome.StopCause.{StopCause}
use Rattle.raft_cluster_events.specs.declared.outcome.StopCause.TheVariants as stop_cause
use Rattle.raft_store.specs.declared.fault.StoreFault.{StoreFault}
use Rattle.raft_node_faults.specs.declared.fault.Fault.TheVariants as fault
use Rattle.raft_node_joint.specs.Reopening.{NamesNobody, StopsCleaning}
use Rattle.raft_node_laws.specs.Saying.{names_of}
use Rattle.raft_node_logs.specs.Stopping.{quiet_stop}
use Rattle.raft_nodes_on_logs.specs.Answering.{error_of, node_outcome}
use Rattle.std.specs.BTreeMap.{get}
use Rattle.std.specs.Ordering.{nat_cmp}
use Rattle.raft_node.specs.Standing.{feeding_of, running_in}
use Rattle.raft_nodes_on_logs.specs.Kept.{AreShownDown, Keeping, KeepingFault, is_well, shows}
use Rattle.raft_nodes_on_logs.specs.Kinds.{NodeKind}
use Rattle.raft_nodes_on_logs.specs.Standing.{NodeOf, UpNode, value}
use Rattle.raft_nodes_on_logs.proofs.Taken.{Answer}

abbrev done_with : {T F : Type 0} → T → Result T (Fault F)
done_with done = Ok done

abbrev failed_by : {T F : Type 0} → Fault F → Result T (Fault F)
failed_by why = Err why

-- a storage that shows as much is left as well
pub left_so : {F : Type 0} (own : ℕ) (kept : ℕ → StoredGroup) (before behind : Shows) (fails : Fails) (why : Fault F)
    → ((group : ℕ) (parts : List StoredGroup) → before group parts → behind group parts) → HasNotOpened own kept before fails why → HasNotOpened own kept behind fails why
left_so own kept before behind fails why more n = record {
  stops = n.stops;
  left = λ group there. let at = n.left group there in (at.0, more group _ at.1);
  none = λ group gone. more group (kept group ∷ []) (n.none group gone);
  failed = n.failed;
}

-- a call that was done was asked of a node that goes on
pub going_on : {T F : Type 0} (b : Bool) (result : Result T (Fault F)) (done : T) → (b ≡ true → result ≡ Err fault.Failed) → result ≡ Ok done → b ≡ false
going_on {F = F} true result done failed is = absurd (let no : failed_by {F = F} fault.Failed ≡ done_with {F = F} done = sym (failed refl) ∙ is in cc)
going_on false result done failed is = refl

-- a node that has failed refuses
pub failed_so : {T F : Type 0} (log_cause : F → StopCause) (result : Result T (Fault (StoreFault F))) (why : Fault (StoreFault F)) (met : NodeError)
    → result ≡ Err fault.Failed → result ≡ Err why → met ≡ error_of log_cause why → met ≡ error.Refused refusal.Failed
failed_so {T = T} {F = F} log_cause result why met failed is says =
    let same : failed_by {T = T} {F = StoreFault F} why ≡ failed_by {T = T} {F = StoreFault F} fault.Failed = sym is ∙ failed in
    let so : why ≡ fault.Failed = cc in
    says ∙ ap (error_of log_cause) so

pub refused_so : {F : Type 0} (log_cause : F → StopCause) (result : Result (Unit {0}) (Fault (StoreFault F))) (why : Fault (StoreFault F)) (met : NodeError)
    → result ≡ Err fault.Failed → result ≡ Err why → met ≡ error_of log_cause why → Err met ≡ refused {T = Unit {0}}
refused_so log_cause result why met failed is says = ap Err (failed_so log_cause result why met failed is says)

-- what follows of an answer that was met
pub when_ok : {T F : Type 0} (result : Result T F) (done : T) (P : Type 0) → result ≡ Ok done → OnOk result P → P
when_ok result done P is h = subst (λ r. OnOk r P) is h

pub when_err : {T F : Type 0} (result : Result T F) (why : F) (P : Type 0) → result ≡ Err why → OnErr result P → P
when_err result why P is h = subst (λ r. OnErr r P) is h

pub told_err : {T F : Type 0} (result : Result T F) (why : F) (P : F → Type 0) → result ≡ Err why → IfErr result P → P why
told_err result why P is h = subst (λ r. IfErr r P) is h

pub is_none : {A : Type 0} (x : Option A) → is_some x ≡ false → x ≡ None
is_none None is = refl
is_none (Some a) is = absurd (let no : true ≡ false = is in cc)

module _ (k : NodeKind) where
  -- files of which an opening finds what the log left show what its store showed
  pub handed_back : (x : Keeping k) (files : k.Files) → ((content : Content (List ℕ)) → k.found files content → k.leaves x.log content)
      → (group : ℕ) (parts : List StoredGroup) → shows k x group parts → AreShownDown k files group parts
  handed_back x files left group parts shown content found = shown.left content (left content found)

  -- a node that is up acts so
  pub when_up : (old new : NodeOf k) (up : Option (UpNode k)) (n : UpNode k) (answer : Type 0) (act : UpNode k → Type 0) → up ≡ Some n → act n → WhenUp k old new up answer act
  when_up old new up n answer act is acts = subst (λ u. WhenUp k old new u answer act) (sym is) acts

  -- an event that was done, behind which the node failed
  pub passed_behind : (old new : NodeOf k) (up : Option (UpNode k)) (answered : Answer (KeepingFault k)) (o : Outcome) (stop : Stop) (unsaid : Unsaid) (met : NodeError) (answer : Type 0)
      → answered ≡ Ok o → WhenUp k old new up answer (λ n. FailsTo k n old stop new) → unsaid ≡ unsaid_of (node_outcome o)
      → met ≡ error.Stopped (record stop { unsaid = Some unsaid }) → IfSome up (λ mid. IsPassed k old mid answered (Err met) new)
  passed_behind old new None answered o stop unsaid met answer is fails own says = tt
  passed_behind old new (Some n) answered o stop unsaid met answer is f own says =
      subst (λ a. IsPassed k old n a (Err met) new) (sym is) (inr (record {
        failed = f.failed;
        why = f.why;
        fails = f.fails;
        answer = ap Err (says ∙ ap₂ (λ (s : Stop) (u : Unsaid). error.Stopped (record s { unsaid = Some u })) f.named own);
        up = f.up;
      }))

  -- of an answer nothing is asked of the node before but its id
  pub passed_from : (old before new : NodeOf k) (mid : UpNode k) (answered : Answer (KeepingFault k)) (answer : Result NodeOutcome NodeError) → before.id ≡ old.id
      → IsPassed k before mid answered answer new → IsPassed k old mid answered answer new
  passed_from old before new mid (Ok o) answer id (inl (is, up)) = inl (is, (up.0 ∙ id, up.1))
  passed_from old before new mid (Ok o) answer id (inr s) = inr (record { failed = s.failed; why = s.why; fails = s.fails; answer = s.answer; up = (s.up.0 ∙ id, s.up.1) })
  passed_from old before new mid (Err why) answer id (is, up) = (is, (up.0 ∙ id, up.1))

  last_from : (old before new : NodeOf k) (mid : UpNode k) (o : Outcome) (os : List Outcome) (answer : Result (Option NodeOutcome) NodeError) → before.id ≡ old.id
      → AnswersLast k before mid o os answer new → AnswersLast k old mid o os answer new
  last_from old before new mid o [] answer id (one, passed, is) = (one, passed_from old before new mid (Ok o) one id passed, is)
  last_from old before new mid o (p ∷ os) answer id fed = last_from old before new mid p os answer id fed

  pub fed_from : (old before new : NodeOf k) (mid : UpNode k) (outcomes : List Outcome) (met : Option (Fault (KeepingFault k))) (answer : Result (Option NodeOutcome) NodeError) → before.id ≡ old.id
      → IsFedOn k before mid outcomes met answer new → IsFedOn k old mid outcomes met answer new
  fed_from old before new mid outcomes (Some why) answer id (is, up) = (is, (up.0 ∙ id, up.1))
  fed_from old before new mid [] None answer id (is, up) = (is, (up.0 ∙ id, up.1))
  fed_from old before new mid (o ∷ os) None answer id fed = last_from old before new mid o os answer id fed

  -- the last outcome is answered
  last_behind : (old new : NodeOf k) (mid : UpNode k) (first : Outcome) (rest : List Outcome) (o : Outcome) (one : Result NodeOutcome NodeError) (answer : Result (Option NodeOutcome) NodeError)
      → IsPassed k old mid (Ok o) one new → answer ≡ some_outcome one → AnswersLast k old mid first (rest ++ o ∷ []) answer new
  last_behind old new mid first [] o one answer passed is = (one, passed, is)
  last_behind old new mid first (p ∷ rest) o one answer passed is = last_behind old new mid p rest o one answer passed is

  last_fed : (old new : NodeOf k) (mid : UpNode k) (rest : List Outcome) (o : Outcome) (one : Result NodeOutcome NodeError) (answer : Result (Option NodeOutcome) NodeError)
      → IsPassed k old mid (Ok o) one new → answer ≡ some_outcome one → IsFedOn k old mid (rest ++ o ∷ []) None answer new
  last_fed old new mid [] o one answer passed is = (one, passed, is)
  last_fed old new mid (p ∷ rest) o one answer passed is = last_behind old new mid p rest o one answer passed is

  pub fed_last : (old new : NodeOf k) (mid : UpNode k) (outcomes rest : List Outcome) (o : Outcome) (one : Result NodeOutcome NodeError) (answer : Result (Option NodeOutcome) NodeError)
      → outcomes ≡ rest ++ o ∷ [] → IsPassed k old mid (Ok o) one new → answer ≡ some_outcome one → IsFedOn k old mid outcomes None answer new
  fed_last old new mid outcomes rest o one answer is passed says =
      subst (λ xs. IsFedOn k old mid xs None answer new) (sym is) (last_fed old new mid rest o one answer passed says)

  -- where only streams change
  pub same_groups : (n m : UpNode k) (peer : ℕ) → m.groups ≡ n.groups → m.machines ≡ n.machines → StaysBut (value k n) (value k m) peer
  same_groups n m peer groups machines = record {
    own = ap (λ x. x.id) groups;
    has_failed = ap (λ x. x.has_failed) groups;
    members = λ group. ap (λ x. get nat_cmp x.members group) groups;
    well = λ well. subst (λ x. is_well k x.storage) (sym groups) well;
    running = λ group. ap (λ x. running_in k.state x group) machines;
    kept = λ group parts shown. subst (λ x. shows k x.storage group parts) (sym groups) shown;
  }

  -- a node of which only the storage got others of the same stays
  pub same_storage : (n m : UpNode k) → m ≡ record n { groups = record n.groups { storage = m.groups.storage } } → (is_well k n.groups.storage → is_well k m.groups.storage)
      → KeepsAll (shows k n.groups.storage) (shows k m.groups.storage) → StaysBut (value k n) (value k m) 0
  same_storage n m same well kept = record {
    own = ap (λ (x : UpNode k). x.groups.id) same;
    has_failed = ap (λ (x : UpNode k). x.groups.has_failed) same;
    members = λ group. ap (λ (x : UpNode k). get nat_cmp x.groups.members group) same;
    well = well;
    running = λ group. ap (λ (x : UpNode k). running_in k.state x.machines group) same;
    kept = kept;
  }

  -- a storage that failed in a cleaning shows what it showed, and all that waited are named
  stops_cleaning : (n m : UpNode k) (why : Fault (KeepingFault k)) → m.groups ≡ record n.groups { storage = m.groups.storage; has_failed = true }
      → KeepsAll (shows k n.groups.storage) (shows k m.groups.storage) → IsStorageStop (λ group. waiting_of (running_in k.state n.machines group)) why
      → StopsCleaning (value k n) (value k m) why
  stops_cleaning n m (fault.Stopped cause unknown) same kept stop = record {
    own = ap (λ x. x.id) same;
    fails = ap (λ x. x.has_failed) same;
    kept = kept;
    names = stop.1;
  }
  stops_cleaning n m other same kept stop = absurd stop

  -- a cleaning that isn't done is refused, or stops the node
  pub not_cleaned : (n m : UpNode k) (old new : NodeOf k) {T : Type 0} (result : Result T (Fault (KeepingFault k))) (why : Fault (KeepingFault k)) (met : NodeError) → result ≡ Err why → met ≡ error_of k.cause why
      → IsUpAs k old new m → (n.groups.has_failed ≡ true → (result ≡ Err fault.Failed) × (m ≡ n))
      → (n.groups.has_failed ≡ false → IsStorageStop (λ group. waiting_of (running_in k.state n.machines group)) why)
      → (n.groups.has_failed ≡ false → m.groups ≡ record n.groups { storage = m.groups.storage; has_failed = true })
      → KeepsAll (shows k n.groups.storage) (shows k m.groups.storage) → Meets k n m (fault_met_by_node result) → CleansAs k n old (Err met) new
  not_cleaned n m old new result why met is says up failed stops stopped kept caused = go n.groups.has_failed refl
    where
      go : (b : Bool) → n.groups.has_failed ≡ b → CleansAs k n old (Err met) new
      go true has = inl (record {
        failed = has;
        named = failed_so k.cause result why met (failed has).0 is says;
        up = subst (λ (x : UpNode k). IsUpAs k old new x) (failed has).1 up;
      })
      go false going = inr (record {
        failed = m;
        why = why;
        going = going;
        stops = stops_cleaning n m why (stopped going) kept (stops going);
        caused = subst (λ r. Meets k n m (fault_met_by_node r)) is caused;
        named = says;
        up = up;
      })

  pub same_streams : (n m : UpNode k) → m ≡ record n { groups = record n.groups { storage = m.groups.storage } } → (peer : ℕ)
      → (value k m).streams peer ≡ (value k n).streams peer
  same_streams n m same peer = ap (λ (x : UpNode k). feeding_of (get nat_cmp x.feeders peer)) same

  pub fuses_as : (old new : NodeOf k) (first : Option ℕ) (up was : Option (UpNode k)) → was ≡ up → FusesAs k old first new up → FusesAs k old first new was
  fuses_as old new first up was is f = subst (FusesAs k old first new) (sym is) f

  -- a node that is down is opened so
  pub opened_or_not : (up : Option (UpNode k)) (act answer : Type 0) → up ≡ None → act → WhenDown k up act answer
  opened_or_not up act answer is acts = subst (λ u. WhenDown k u act answer) (sym is) acts

  -- what came of the piece's frame is answered
  pub fed_passed : (old new : NodeOf k) (up : Option (UpNode k)) (outcomes rest : List Outcome) (o : Outcome) (met : Option (Fault (KeepingFault k))) (one : Result NodeOutcome NodeError)
      (answer : Result (Option NodeOutcome) NodeError) → met ≡ None → outcomes ≡ rest ++ o ∷ [] → IfSome up (λ mid. IsPassed k old mid (Ok o) one new) → answer ≡ some_outcome one
      → IfSome up (λ mid. IsFedOn k old mid outcomes met answer new)
  fed_passed old new None outcomes rest o met one answer none is passed says = tt
  fed_passed old new (Some mid) outcomes rest o met one answer none is passed says =
      subst (λ w. IsFedOn k old mid outcomes w answer new) (sym none) (fed_last old new mid outcomes rest o one answer is passed says)

  -- an opening that did this, and what it is answered
  pub reopened_so : (old new : NodeOf k) (n : UpNode k) (did : List Outcome) (answered : Result (List NodeOutcome) Stop) → IsOpened k old.files old.id n did → old.up ≡ None
      → new.id ≡ old.id → IfOk answered (λ outcomes. outcomes ≡ map node_outcome did) → OnOk answered (new.up ≡ Some n) → IfErr answered (λ stop. stop ≡ quiet_stop stop_cause.Memory)
      → OnErr answered (new.up ≡ old.up) → OnErr answered (AreHandedBack k n new.files) → OnErr answered (k.hands_back n.groups.storage.log new.files) → ReopensTo k old answered new
  reopened_so old new n did (Ok outcomes) opened none id says up err down files back = record { n = n; did = did; opened = opened; answer = says; up = (id, up) }
  reopened_so old new n did (Err stop) opened none id says up err down files back = (
    record { id = id; down = down ∙ none },
    inr (inr (record {
      n = n;
      did = did;
      opened = opened;
      named = subst (λ s. NamesNobody (names_of s)) (sym err) (λ h. refl);
      memory = ap (λ (s : Stop). s.cause) err;
      shown = files;
      hands_back = back;
    })),
  )
