-- A node on files keeps the law of a cluster's nodes.
use Rattle.std.specs.Prelude.{◌≡◌, ◌⊎◌, ◌<◌, ℕ, Bool, true, false, List, [], ◌∷◌, length, Option, Some, None, Result, Ok, Err, is_some, refl}
use Rattle.std.specs.Int.{to_be_bytes, w32}
use Rattle.std.proofs.Common.{inl, inr, sym, ap, ◌∙◌, subst, ⊎_elim, arith}
use Rattle.std.proofs.lemmas.List.{length-append}
use Rattle.raft_cluster_conditions.specs.Cuts.{are_cuts}
use Rattle.raft_cluster_events.specs.declared.event.CrashChoice.{CrashChoice}
use Rattle.raft_cluster_events.specs.declared.node.NodeOutcome.{NodeOutcome}
use Rattle.raft_cluster_events.specs.declared.outcome.NodeError.{NodeError}
use Rattle.raft_cluster_events.specs.declared.outcome.NodeError.TheVariants as error
use Rattle.raft_cluster_events.specs.declared.outcome.NodeRefusal.TheVariants as refusal
use Rattle.raft_cluster_events.specs.declared.outcome.Stop.{Stop}
use Rattle.raft_framed_groups.specs.Frames.{frame_with}
use Rattle.raft_group_step.specs.GroupEvent.{GroupCall}
use Rattle.raft_group_step.specs.Message.{Message}
use Rattle.raft_headline.specs.ClusterEvent.{AddGroup, Ask, Clean, ClusterEvent, ClusterOutcome, Crash, Deliver, Done, Fuse, PassedOver, Recorded, Reopen, ResetPeer, Stopped, silent}
use Rattle.raft_headline.specs.Machines.{KeepsItsLaw}
use Rattle.raft_laws.specs.GroupWorld.{NodeState}
use Rattle.raft_machines.specs.Machine.{MachineRules}
use Rattle.raft_headline.specs.Naming.{names_in}
use Rattle.raft_node.specs.Feeding.{StaysBut}
use Rattle.raft_node.specs.Standing.{NodeValue}
use Rattle.raft_node_faults.specs.declared.fault.Fault.{Fault}
use Rattle.raft_node_faults.specs.declared.fault.Fault.TheVariants as fault
use Rattle.raft_node_joint.specs.Reopening.{StopsCleaning, reset_as}
use Rattle.raft_node_joint.specs.Saying.{Spells}
use Rattle.raft_node_joint.proofs.Others.{same_or_other}
use Rattle.raft_node_joint.proofs.Failures.{stopped_cleanings_lead}
use Rattle.raft_node_joint.proofs.ResetsLeadOn.{cleanings_lead, fuses_lead, resets_lead}
use Rattle.raft_node_laws.specs.Answered.{Answered, none_of, one_of, opening_of, some_of}
use Rattle.raft_node_laws.specs.Delivery.{Comes, pieces_from}
use Rattle.raft_node_laws.specs.Law.{Anything, IsAskedAt, IsTaken, KeepsLaw, Leads, LeadsOn, WasSent}
use Rattle.raft_node_laws.specs.Saying.{SaysCleaning, SaysError, SaysReset}
use Rattle.raft_node_laws.specs.Saying as law
use Rattle.raft_store.specs.Reading.{StandsFor}
use Rattle.raft_wire.specs.Frames.{spelled_frame, spelled_rest}
use Rattle.raft_wire.specs.declared.frame.Frame.{Frame}
use Rattle.raft_wire.specs.Stream.{fresh}
use Rattle.raft_nodes_on_logs.specs.Acts.{AddsTo, AsksTo, CleansAs, CrashesTo, FusesAs, GoesDown, IsUpAs, OpensTo, ReopensTo, ResetsTo, WhenDown, WhenUp, log_node_acts, log_node_states, refused}
use Rattle.raft_nodes_on_logs.specs.Kept.{KeepingFault}
use Rattle.raft_nodes_on_logs.specs.Kinds.{NodeKind}
use Rattle.raft_nodes_on_logs.specs.Standing.{MayBeUp, NodeOf, UpNode, value}
use Rattle.raft_nodes_on_logs.specs.Answering.{error_of}
use Rattle.raft_nodes_on_logs.proofs.Calls.{adds_so, asks_so}
use Rattle.raft_nodes_on_logs.proofs.Deliveries.{frame_taken}
use Rattle.raft_nodes_on_logs.proofs.Led.{led}
use Rattle.raft_nodes_on_logs.proofs.Openings.{closed_led, crash_led, fused_led, opened_led, unopened_led}
use Rattle.raft_nodes_on_logs.proofs.Lending.{leads_in, lends_in}
use Rattle.raft_nodes_on_logs.proofs.Standing.{is_up_in}
use Rattle.raft_nodes_on_logs.proofs.Taken.{Behind, spells_of}

abbrev opened_as : List NodeOutcome → Result (List NodeOutcome) Stop
opened_as outcomes = Ok outcomes

pub spelled_some : (frame : Frame) → 0 < length (spelled_frame frame)
spelled_some frame =
    let long = length-append (to_be_bytes w32 (length (spelled_rest frame))) (spelled_rest frame) in
    let four : length (to_be_bytes w32 (length (spelled_rest frame))) ≡ 4 = refl in
    omega (arith, long, four)

module _ (k : NodeKind) (begins : KeepsItsLaw k.rules k.rules.first) (restores : (m : k.Machine) → KeepsItsLaw k.rules (k.state m)) where
  abbrev of : UpNode k → NodeValue
  of n = value k n

  -- a node that is up has one in it
  up_one : {T : Type 0} (up : Option (UpNode k)) → is_some up ≡ true → (old new : NodeOf k) (answer : Type 0) (act : UpNode k → Type 0) → WhenUp k old new up answer act
      → ((n : UpNode k) → up ≡ Some n → act n → T) → T
  up_one None is old new answer act acts then_so = absurd (let no : false ≡ true = is in cc)
  up_one (Some n) is old new answer act acts then_so = then_so n refl acts

  down_one : {T : Type 0} (up : Option (UpNode k)) → is_some up ≡ false → (act answer : Type 0) → WhenDown k up act answer → (up ≡ None → act → T) → T
  down_one None is act answer acts then_so = then_so refl acts
  down_one (Some n) is act answer acts then_so = absurd (let no : true ≡ false = is in cc)

  abbrev Taken : (List Recorded → Type 0) → ClusterEvent → ℕ → NodeOf k → Answered → NodeOf k → Type 0
  Taken Kind happened group old answered mid = IsTaken k.rules (log_node_acts k) (log_node_states k) Kind happened group old answered mid

  abbrev On : ClusterEvent → NodeOf k → NodeOf k → (ClusterOutcome → Type 0) → Type 0
  On happened old new Says = LeadsOn k.rules (log_node_acts k) (log_node_states k) Anything happened old new Says

  adds : (old mid : NodeOf k) (group : ℕ) (answered : Result NodeOutcome NodeError) → (log_node_acts k).is_up old ≡ true → (log_node_acts k).adds old group answered mid
      → Taken Anything (AddGroup old.id group) group old (one_of answered) mid
  adds old mid group answered is acts =
      up_one old.up is old mid (answered ≡ refused) (λ n. AddsTo k n group old answered mid) acts
      (λ n up a. adds_so k begins restores old mid n up group answered a)

  asks : (old mid : NodeOf k) (group now : ℕ) (call : GroupCall) (answered : Result NodeOutcome NodeError) → (log_node_acts k).is_up old ≡ true
      → (log_node_acts k).asks old group call now answered mid
      → Taken (IsAskedAt old.id group call now) (Ask old.id group call now) group old (one_of answered) mid
  asks old mid group now call answered is acts =
      up_one old.up is old mid (answered ≡ refused) (λ n. AsksTo k n group call now old answered mid) acts
      (λ n up a. asks_so k begins restores old mid n up group now call answered a)

  -- ---- a frame

  is_there : (up : Option (UpNode k)) → is_some up ≡ true → (n : UpNode k) × (up ≡ Some n)
  is_there None is = absurd (let no : false ≡ true = is in cc)
  is_there (Some n) is = (n, refl)

  delivers : (old mid : NodeOf k) (group number now : ℕ) (m : Message) (bytes cuts : List ℕ) (answered : Result (Option NodeOutcome) NodeError)
      → (log_node_acts k).is_up old ≡ true → m.addressee ≡ old.id → Spells (StandsFor k.rules) group m bytes → are_cuts 0 (length bytes) cuts ≡ true
      → Comes (log_node_acts k) m.sender now old (pieces_from bytes 0 cuts) answered mid
      → Taken (WasSent group number m) (Deliver group number now) group old (some_of answered) mid
  delivers old mid group number now m bytes cuts answered is to sent cut_so comes =
      let n = is_there old.up is in
      let frame = frame_with group sent.sent in
      frame_taken k begins restores old n.0 n.1 group number now m to sent.sent sent.says sent.fits cuts
      (subst (λ bs. are_cuts 0 (length bs) cuts ≡ true) sent.spelled cut_so) (spelled_some frame) answered mid
      (subst (λ bs. Comes (log_node_acts k) m.sender now old (pieces_from bs 0 cuts) answered mid) sent.spelled comes)

  -- ---- a stream that begins anew

  reset_says : (failed : Bool) (f : Bool) (n mid : UpNode k) (peer : ℕ) (answered : Result (Unit {0}) NodeError) → f ≡ failed
      → ((f ≡ true) × (answered ≡ refused)) ⊎ ((f ≡ false) × (answered ≡ Ok tt) × ((of mid).streams peer ≡ fresh)) → SaysReset (none_of answered) (reset_as failed)
  reset_says true f n mid peer answered is (inl met) = subst (λ a. SaysReset (none_of a) PassedOver) (sym met.1) refl
  reset_says false f n mid peer answered is (inl met) = absurd (let no : true ≡ false = sym met.0 ∙ is in cc)
  reset_says true f n mid peer answered is (inr met) = absurd (let no : false ≡ true = sym met.0 ∙ is in cc)
  reset_says false f n mid peer answered is (inr met) = subst (λ a. SaysReset (none_of a) (Done silent)) (sym met.1) refl

  reset_streams : (n mid : UpNode k) (peer : ℕ) (answered : Result (Unit {0}) NodeError) → (of n).groups.has_failed ≡ false
      → (((of n).groups.has_failed ≡ true) × (answered ≡ refused)) ⊎ (((of n).groups.has_failed ≡ false) × (answered ≡ Ok tt) × ((of mid).streams peer ≡ fresh)) → (of mid).streams peer ≡ fresh
  reset_streams n mid peer answered going (inl met) = absurd (let no : true ≡ false = sym met.0 ∙ going in cc)
  reset_streams n mid peer answered going (inr met) = met.2

  resets : (old new : NodeOf k) (peer : ℕ) (answered : Result (Unit {0}) NodeError) → (log_node_acts k).is_up old ≡ true → (log_node_acts k).resets old peer answered new
      → On (ResetPeer old.id peer) old new (SaysReset (none_of answered))
  resets old new peer answered is acts ids history olds kind behind =
      up_one old.up is old new (answered ≡ refused) (λ n. ResetsTo k n peer old answered new) acts
      (λ n up r.
      let at = λ (h : ℕ). is_up_in k begins restores old n up h (olds h) (behind.may_be h) in
      let failed = (of n).groups.has_failed in
      led k old new r.mid (of n) history (λ i. ResetPeer i peer) false (reset_as failed) olds (SaysReset (none_of answered)) (at 0).own r.up r.stays.own
      (λ going other.
      let was : (of n).groups.has_failed ≡ false = sym r.stays.has_failed ∙ going in
      ⊎_elim
      (λ same. subst (λ p. (of r.mid).streams p ≡ fresh) (sym same) (reset_streams n r.mid peer answered was r.answer))
      (λ far. r.streams other far ∙ (at 0).streams was other)
      (same_or_other other peer))
      (λ no. absurd (let never : false ≡ true = no in cc))
      (reset_says failed failed n r.mid peer answered refl r.answer)
      (resets_lead k.rules (of n) (of r.mid) history peer olds r.stays (λ h. (at h).may_be)))

  -- ---- a cleaning

  module _ (old : NodeOf k) (n : UpNode k) (up : old.up ≡ Some n) (ids : List ℕ) (history : List Recorded) (olds : ℕ → List NodeState)
      (behind : Behind k ids history old olds) where
    abbrev stood : (h : ℕ) → MayBeUp k.rules old.id (of n) h (olds h)
    stood h = is_up_in k begins restores old n up h (olds h) (behind.may_be h)

    abbrev Cleaned : NodeOf k → (ClusterOutcome → Type 0) → Type 0
    Cleaned new Says = Leads k.rules (log_node_acts k) (log_node_states k) history (Clean old.id) olds old new Says

    never : {A : Type 0} → false ≡ true → A
    never wrong = absurd (cc)

    -- the storage failed in it
    cleaning_stops : (new : NodeOf k) (m : UpNode k) (why : Fault (KeepingFault k)) (met : NodeError) → (of n).groups.has_failed ≡ false → StopsCleaning (of n) (of m) why → met ≡ error_of k.cause why
        → IsUpAs k old new m → Cleaned new (SaysCleaning (Err met))
    cleaning_stops new m (fault.Stopped cause unknown) met going stops named is_up =
        led k old new m (of n) history (λ i. Clean i) false (Stopped (names_in unknown.items)) olds (SaysCleaning (Err met)) (stood 0).own is_up stops.own
        (λ goes peer. absurd (let no : false ≡ true = sym goes ∙ stops.fails in cc)) (λ no. never no)
        (subst (λ x. SaysError x (Stopped (names_in unknown.items))) (sym named) refl)
        (stopped_cleanings_lead k.rules (of n) (of m) (fault.Stopped cause unknown) history olds going (λ h. (stood h).may_be) stops)
    cleaning_stops new m other met going stops named is_up = absurd stops.names

    -- nothing changes
    stays_itself : StaysBut (of n) (of n) 0
    stays_itself = record { own = refl; has_failed = refl; members = λ group. refl; well = λ well. well; running = λ group. refl; kept = λ group parts shown. shown }

    cleans_so : (new : NodeOf k) (answered : Result (List ℕ) NodeError) → CleansAs k n old answered new → Cleaned new (SaysCleaning answered)
    cleans_so new (Ok groups) c =
        led k old new c.mid (of n) history (λ i. Clean i) false (reset_as (of n).groups.has_failed) olds (SaysCleaning (Ok groups)) (stood 0).own c.up c.stays.own
        (λ goes peer. c.streams peer ∙ (stood 0).streams c.going peer) (λ no. never no)
        (c.rising, ap reset_as c.going)
        (cleanings_lead k.rules (of n) (of c.mid) history 0 olds c.stays (λ h. (stood h).may_be))
    cleans_so new (Err met) (inl c) =
        led k old new n (of n) history (λ i. Clean i) false (reset_as (of n).groups.has_failed) olds (SaysCleaning (Err met)) (stood 0).own c.up refl
        (λ goes peer. (stood 0).streams goes peer) (λ no. never no)
        (subst (λ x. SaysError x (reset_as (of n).groups.has_failed)) (sym c.named) (subst (λ b. SaysError (error.Refused refusal.Failed) (reset_as b)) (sym c.failed) refl))
        (cleanings_lead k.rules (of n) (of n) history 0 olds stays_itself (λ h. (stood h).may_be))
    cleans_so new (Err met) (inr c) = cleaning_stops new c.failed c.why met c.going c.stops c.named c.up

  cleans : (old new : NodeOf k) (answered : Result (List ℕ) NodeError) → (log_node_acts k).is_up old ≡ true → (log_node_acts k).cleans old answered new
      → On (Clean old.id) old new (SaysCleaning answered)
  cleans old new answered is acts ids history olds kind behind =
      up_one old.up is old new (answered ≡ refused) (λ n. CleansAs k n old answered new) acts
      (λ n up c. cleans_so old n up ids history olds behind new answered c)

  -- ---- a fuse

  fuses_by : (old new : NodeOf k) (first : Option ℕ) (up : Option (UpNode k)) → old.up ≡ up → FusesAs k old first new up → On (Fuse old.id) old new (λ o. o ≡ Done silent)
  fuses_by old new first None down f ids history olds kind behind = fused_led k begins restores old down ids history olds behind new first f
  fuses_by old new first (Some n) up f ids history olds kind behind =
      let at = λ (h : ℕ). is_up_in k begins restores old n up h (olds h) (behind.may_be h) in
      led k old new f.mid (of n) history (λ i. Fuse i) false (Done silent) olds (λ o. o ≡ Done silent) (at 0).own f.up f.stays.own
      (λ going peer. f.streams peer ∙ (at 0).streams (sym f.stays.has_failed ∙ going) peer)
      (λ no. absurd (let never : false ≡ true = no in cc)) refl
      (fuses_lead k.rules (of n) (of f.mid) history 0 olds f.stays (λ h. (at h).may_be))

  fuses : (old new : NodeOf k) (first : Option ℕ) → (log_node_acts k).fuses old first new → On (Fuse old.id) old new (λ o. o ≡ Done silent)
  fuses old new first acts = fuses_by old new first old.up refl acts

  -- ---- crashes and openings

  crashes : (old new : NodeOf k) (choice : CrashChoice) → (log_node_acts k).is_up old ≡ true → (log_node_acts k).crashes old choice new
      → On (Crash old.id) old new (λ o. o ≡ Done silent)
  crashes old new choice is acts ids history olds kind behind =
      up_one old.up is old new (Unit {0}) (λ n. CrashesTo k n choice old new) acts
      (λ n up down. crash_led k begins restores old new n choice up down ids history olds behind)

  opens_or_not : (old new : NodeOf k) (answered : Result (List NodeOutcome) Stop) → old.up ≡ None → ReopensTo k old answered new
      → On (Reopen old.id) old new (law.SaysOpening (spells_of k.rules) old.id (opening_of answered))
  opens_or_not old new (Ok outcomes) down opens ids history olds kind behind = opened_led k begins restores old down ids history olds behind new outcomes opens
  opens_or_not old new (Err stop) down (stays, unopened) ids history olds kind behind = unopened_led k begins restores old down ids history olds behind new stop stays unopened

  reopens : (old new : NodeOf k) (workers : ℕ) (answered : Result (List NodeOutcome) Stop) → (log_node_acts k).is_up old ≡ false
      → (log_node_acts k).reopens old workers answered new → On (Reopen old.id) old new (law.SaysOpening (spells_of k.rules) old.id (opening_of answered))
  reopens old new workers answered is acts =
      down_one old.up is (ReopensTo k old answered new) ((new ≡ old) × (answered ≡ Ok [])) acts (λ down opens. opens_or_not old new answered down opens)

  closes : (old mid new : NodeOf k) (workers : ℕ) (outcomes : List NodeOutcome) → (log_node_acts k).is_up old ≡ false
      → (log_node_acts k).reopens old workers (Ok outcomes) mid → (log_node_acts k).closes mid new → On (Reopen old.id) old new (λ o. o ≡ Stopped [])
  closes old mid new workers outcomes is opens goes ids history olds kind behind =
      down_one old.up is (OpensTo k old outcomes mid) ((mid ≡ old) × (opened_as outcomes ≡ Ok [])) opens
      (λ down o.
      let d = subst (λ up. WhenUp k mid new up (Unit {0}) (λ n. GoesDown k n mid new)) o.up.1 goes in
      closed_led k begins restores old down ids history olds behind new o.n o.did [] o.opened (record { id = d.stays.id ∙ o.up.0; down = d.stays.down }) d.shown (λ h. refl))

  pub keeps_law : KeepsLaw {N = NodeOf k} k.rules (log_node_acts k) (log_node_states k)
  keeps_law = record {
    begins = λ id node begun. begun.states;
    adds = adds;
    asks = asks;
    delivers = delivers;
    resets = resets;
    cleans = cleans;
    fuses = fuses;
    crashes = crashes;
    reopens = reopens;
    closes = closes;
    lends = λ node h olds s may has. lends_in k node.id node.up node.files h olds s may has;
    leads = λ node h told olds s may has tells. leads_in k node.id node.up node.files h told olds s may has tells;
  }
