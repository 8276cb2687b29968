-- What each call makes of a node over a log.
use Rattle.std.specs.Prelude.{◌≡◌, ◌⊎◌, ◌<◌, ◌++◌, ℕ, Bool, true, false, List, [], ◌∷◌, length, map, is_some, Option, Some, None, option_and_then, Result, Ok, Err}
use Rattle.raft_cluster_events.specs.Node.{NodeActs}
use Rattle.raft_cluster_events.specs.States.{NodeStates}
use Rattle.raft_cluster_events.specs.declared.event.CrashChoice.{CrashChoice}
use Rattle.raft_cluster_events.specs.declared.node.NodeOutcome.{NodeOutcome}
use Rattle.raft_cluster_events.specs.declared.outcome.CrashRefusal.{CrashRefusal}
use Rattle.raft_cluster_events.specs.declared.outcome.CrashRefusal.TheVariants as crash_refusal
use Rattle.raft_cluster_events.specs.declared.outcome.NodeError.{NodeError}
use Rattle.raft_cluster_events.specs.declared.outcome.NodeError.TheVariants as error
use Rattle.raft_cluster_events.specs.declared.outcome.NodeRefusal.TheVariants as refusal
use Rattle.raft_cluster_events.specs.declared.outcome.Stop.{Stop}
use Rattle.raft_cluster_events.specs.declared.outcome.StopCause.{StopCause}
use Rattle.raft_cluster_events.specs.declared.outcome.StopCause.TheVariants as stop_cause
use Rattle.raft_group_step.specs.GroupEvent.{Call, GroupCall}
use Rattle.raft_group_step.specs.StoredGroup.{StoredGroup}
use Rattle.raft_list_facts.specs.Leads.{leading_of}
use Rattle.raft_list_facts.specs.declared.leading.Leading.{Leading}
use Rattle.raft_log_memtables.specs.Content.{Content, nothing}
use Rattle.raft_machines.specs.Machine.{MachineRules}
use Rattle.raft_node.specs.Asking.{without_its_why}
use Rattle.raft_node.specs.Ending.{IsEvent}
use Rattle.raft_node.specs.Feeding.{FeedsPart, FeedsWhole, StaysBut, so_far}
use Rattle.raft_node.specs.Opening.{HasNotOpened, HasOpened, IsReopened}
use Rattle.raft_node.specs.Reading.{TellsOf, machine_in, place_in}
use Rattle.raft_node.specs.Running.{Running}
use Rattle.raft_node.specs.Settling.{IsStoppedBy, IsTold}
use Rattle.raft_node.specs.Standing.{NodeValue, running_in}
use Rattle.raft_node.specs.declared.outcome.Outcome.{Outcome}
use Rattle.raft_node_faults.specs.Fault.{fault_met_by_node, storage_fault_of}
use Rattle.raft_node_faults.specs.declared.fault.Cause.TheVariants as cause
use Rattle.raft_node_faults.specs.declared.fault.Fault.{Fault}
use Rattle.raft_node_faults.specs.declared.fault.Fault.TheVariants as fault
use Rattle.raft_node_joint.specs.Leading.{IsAdding}
use Rattle.raft_node_joint.specs.Reopening.{NamesNobody, StopsCleaning}
use Rattle.raft_node_joint.specs.Saying.{Spells}
use Rattle.raft_node_laws.specs.Answered.{stop_behind}
use Rattle.raft_node_laws.specs.Law.{first_state}
use Rattle.raft_node_laws.specs.Saying.{AreRising, names_of}
use Rattle.raft_store.specs.Faults.{Meets as MeetsAs}
use Rattle.raft_store.specs.Reading.{Holds, StandsFor}
use Rattle.raft_store.specs.declared.fault.StoreFault.{StoreFault}
use Rattle.raft_wire.specs.Frames.{FitsFrame, spelled_frame}
use Rattle.raft_wire.specs.Stream.{fresh}
use Rattle.raft_wire.specs.declared.frame.Frame.{Frame}
use Rattle.raft_nodes_on_logs.specs.Answering.{error_of, node_outcome, stop_in}
use Rattle.raft_nodes_on_logs.specs.Kept.{AreShownBy, AreShownDown, Keeping, KeepingFault, fails, is_used_well}
use Rattle.raft_nodes_on_logs.specs.Kinds.{NodeKind}
use Rattle.raft_node_logs.specs.Opening.{FindsSame, IsRefusedOpening}
use Rattle.raft_nodes_on_logs.specs.Standing.{MayBeIn, NodeOf, UpNode, log_node_may_be, value}

-- a node that is down refuses each call
abbrev pub refused : {T : Type 0} → Result T NodeError
refused = Err (error.Refused refusal.Failed)

-- there is an outcome, where there is one at all
abbrev pub some_outcome : Result NodeOutcome NodeError → Result (Option NodeOutcome) NodeError
some_outcome (Ok outcome) = Ok (Some outcome)
some_outcome (Err met) = Err met

-- a node that has failed runs nothing
abbrev pub unless_failed : Bool → Option Running → Option Running
unless_failed false running = running
unless_failed true running = None

-- ---- openings

-- of each group the content holds this part, and histories lead to those that are there
pub record AreHeld (rules : MachineRules) (own : ℕ) (content : Content (List ℕ)) (kept : ℕ → StoredGroup) : Type 0 where
  pub held : (group : ℕ) → Holds rules (content group) (kept group)
  pub reached : (group : ℕ) → (kept group).present ≡ true → IsReopened own (kept group)

module _ (k : NodeKind) where
  abbrev of : UpNode k → NodeValue
  of n = value k n

  -- the fault that its store's calls met, from one to the other
  abbrev pub Meets : UpNode k → UpNode k → Option (KeepingFault k) → Type 0
  Meets n mid met =
      let old = n.groups.storage in
      let new = mid.groups.storage in
      MeetsAs (k.meets old.log new.log) k.misuse (is_used_well k old) (is_used_well k new) new.refused new.failed_cleaning met

  -- ---- what a node answers is passed on

  -- it stays itself, and is up as this one
  abbrev pub IsUpAs : NodeOf k → NodeOf k → UpNode k → Type 0
  IsUpAs old new n = (new.id ≡ old.id) × (new.up ≡ Some n)

  -- the node fails for want of memory
  abbrev pub Fails : UpNode k → Fault (KeepingFault k) → UpNode k → Type 0
  Fails n why m = IsStoppedBy cause.Memory why × IsTold ⊥ (of n) (of m) why

  -- memory is refused for the frames of an event that was done: the node fails, and the event's tokens are named with the others
  pub record StopsBehind (old : NodeOf k) (mid : UpNode k) (o : Outcome) (answered : Result NodeOutcome NodeError) (new : NodeOf k) : Type 0 where
    pub failed : UpNode k
    pub why : Fault (KeepingFault k)
    pub fails : Fails mid why failed
    pub answer : answered ≡ Err (error.Stopped (stop_behind (node_outcome o) (stop_in k.cause why)))
    pub up : IsUpAs old new failed

  abbrev pub IsPassed : NodeOf k → UpNode k → Result Outcome (Fault (KeepingFault k)) → Result NodeOutcome NodeError → NodeOf k → Type 0
  IsPassed old mid (Ok o) answered new = ((answered ≡ Ok (node_outcome o)) × IsUpAs old new mid) ⊎ StopsBehind old mid o answered new
  IsPassed old mid (Err why) answered new = (answered ≡ Err (error_of k.cause why)) × IsUpAs old new mid

  -- ---- calls

  pub record AsksTo (n : UpNode k) (group : ℕ) (call : GroupCall) (now : ℕ) (old : NodeOf k) (answered : Result NodeOutcome NodeError) (new : NodeOf k) : Type 0 where
    pub mid : UpNode k
    pub result : Result Outcome (Fault (KeepingFault k))
    pub event : IsEvent k.rules (StandsFor k.rules) (mid ≡ n) (of n) (of mid) group (Call call now) (without_its_why call result)
    pub met : Meets n mid (fault_met_by_node result)
    pub passed : IsPassed old mid result answered new

  pub record AddsTo (n : UpNode k) (group : ℕ) (old : NodeOf k) (answered : Result NodeOutcome NodeError) (new : NodeOf k) : Type 0 where
    pub mid : UpNode k
    pub result : Result Outcome (Fault (KeepingFault k))
    pub adding : IsAdding k.rules (StandsFor k.rules) (mid ≡ n) (of n) (of mid) group result
    pub met : Meets n mid (fault_met_by_node result)
    pub passed : IsPassed old mid result answered new

  -- ---- pieces

  -- what a node promises of a piece that ends with a frame, or before it does
  pub record IsFed (n mid : UpNode k) (peer : ℕ) (piece : List ℕ) (now : ℕ) (outcomes : List Outcome) (met : Option (Fault (KeepingFault k))) (used : ℕ) : Type 0 where
    pub failed : (of n).groups.has_failed ≡ true → (outcomes ≡ []) × (met ≡ Some fault.Failed) × (mid ≡ n)
    pub whole : (frame : Frame) → (of n).groups.has_failed ≡ false → ((of n).streams peer).failed ≡ false → FitsFrame frame → 0 < length piece
        → so_far (of n) peer piece ≡ spelled_frame frame → FeedsWhole k.rules (StandsFor k.rules) (of n) (of mid) peer now frame piece outcomes met used
    pub part : (frame : Frame) (more : List ℕ) → (of n).groups.has_failed ≡ false → ((of n).streams peer).failed ≡ false → FitsFrame frame → 0 < length more
        → so_far (of n) peer piece ++ more ≡ spelled_frame frame → FeedsPart k.rules (StandsFor k.rules) (of n) (of mid) peer now piece outcomes met used

  -- what a piece did last is answered: no piece ends more than one frame
  abbrev pub AnswersLast : NodeOf k → UpNode k → Outcome → List Outcome → Result (Option NodeOutcome) NodeError → NodeOf k → Type 0
  AnswersLast old mid o [] answered new = (one : Result NodeOutcome NodeError) × IsPassed old mid (Ok o) one new × (answered ≡ some_outcome one)
  AnswersLast old mid o (p ∷ os) answered new = AnswersLast old mid p os answered new

  abbrev pub IsFedOn : NodeOf k → UpNode k → List Outcome → Option (Fault (KeepingFault k)) → Result (Option NodeOutcome) NodeError → NodeOf k → Type 0
  IsFedOn old mid outcomes (Some why) answered new = (answered ≡ Err (error_of k.cause why)) × IsUpAs old new mid
  IsFedOn old mid [] None answered new = (answered ≡ Ok None) × IsUpAs old new mid
  IsFedOn old mid (o ∷ os) None answered new = AnswersLast old mid o os answered new

  pub record FeedsTo (n : UpNode k) (peer : ℕ) (piece : List ℕ) (now : ℕ) (old : NodeOf k) (answered : Result (Option NodeOutcome) NodeError) (new : NodeOf k) : Type 0 where
    pub mid : UpNode k
    pub outcomes : List Outcome
    pub met : Option (Fault (KeepingFault k))
    pub used : ℕ
    pub fed : IsFed n mid peer piece now outcomes met used
    pub why : Meets n mid (option_and_then storage_fault_of met)
    pub passed : IsFedOn old mid outcomes met answered new

  -- a peer's stream begins anew, unless the node has failed, and all else stays
  pub record ResetsTo (n : UpNode k) (peer : ℕ) (old : NodeOf k) (answered : Result (Unit {0}) NodeError) (new : NodeOf k) : Type 0 where
    pub mid : UpNode k
    pub stays : StaysBut (of n) (of mid) peer
    pub streams : (other : ℕ) → (other ≡ peer → ⊥) → (of mid).streams other ≡ (of n).streams other
    pub answer : ((of n).groups.has_failed ≡ true) × (answered ≡ refused) ⊎ ((of n).groups.has_failed ≡ false) × (answered ≡ Ok tt) × ((of mid).streams peer ≡ fresh)
    pub up : IsUpAs old new mid

  -- the files of a node that goes on are cleaned: all stays, but that its storage has others of the same
  pub record CleansTo (n : UpNode k) (old : NodeOf k) (groups : List ℕ) (new : NodeOf k) : Type 0 where
    pub mid : UpNode k
    pub going : (of n).groups.has_failed ≡ false
    pub rising : AreRising groups
    pub met : Meets n mid None
    pub stays : StaysBut (of n) (of mid) 0
    pub streams : (peer : ℕ) → (of mid).streams peer ≡ (of n).streams peer
    pub up : IsUpAs old new mid

  -- its storage fails in that, for the fault that its log's calls met, and it stops
  pub record StopsInCleaning (n : UpNode k) (old : NodeOf k) (met : NodeError) (new : NodeOf k) : Type 0 where
    pub failed : UpNode k
    pub why : Fault (KeepingFault k)
    pub going : (of n).groups.has_failed ≡ false
    pub stops : StopsCleaning (of n) (of failed) why
    pub caused : Meets n failed (storage_fault_of why)
    pub named : met ≡ error_of k.cause why
    pub up : IsUpAs old new failed

  -- one that has failed refuses a cleaning
  pub record RefusesCleaning (n : UpNode k) (old : NodeOf k) (met : NodeError) (new : NodeOf k) : Type 0 where
    pub failed : (of n).groups.has_failed ≡ true
    pub named : met ≡ error.Refused refusal.Failed
    pub up : IsUpAs old new n

  abbrev pub CleansAs : UpNode k → NodeOf k → Result (List ℕ) NodeError → NodeOf k → Type 0
  CleansAs n old (Ok groups) new = CleansTo n old groups new
  CleansAs n old (Err met) new = RefusesCleaning n old met new ⊎ StopsInCleaning n old met new

  pub record FailsTo (n : UpNode k) (old : NodeOf k) (stop : Stop) (new : NodeOf k) : Type 0 where
    pub failed : UpNode k
    pub why : Fault (KeepingFault k)
    pub fails : Fails n why failed
    pub named : stop ≡ stop_in k.cause why
    pub up : IsUpAs old new failed

  -- all stays but what its files refuse: each changing call from this one on
  pub record FusesTo (n : UpNode k) (first_refused : Option ℕ) (old new : NodeOf k) : Type 0 where
    pub mid : UpNode k
    pub fused : k.fused n.groups.storage.log first_refused mid.groups.storage.log
    pub stays : StaysBut (of n) (of mid) 0
    pub streams : (peer : ℕ) → (of mid).streams peer ≡ (of n).streams peer
    pub up : IsUpAs old new mid

  -- ---- openings

  -- the files were opened, and each of their groups has done the step of its opening
  pub record IsOpened (files : k.Files) (id : ℕ) (n : UpNode k) (did : List Outcome) : Type 0 where
    pub own : (of n).groups.own ≡ id
    pub going : (of n).groups.has_failed ≡ false
    pub streams : (peer : ℕ) → (of n).streams peer ≡ fresh
    pub content : Content (List ℕ)
    pub found : k.found files content
    pub opened : (kept : ℕ → StoredGroup) → AreHeld k.rules id content kept → HasOpened k.rules (StandsFor k.rules) kept (of n) did
    -- on a log of these files, whose calls met no fault
    pub log : k.Log
    pub opens : k.opens files log
    pub met : k.meets log n.groups.storage.log None

  -- the opening of a group stopped for a fault that the log's calls met, and each group is left so
  pub record IsLeftOpening (old : k.Files) (id : ℕ) (stop : Stop) (new : k.Files) : Type 0 where
    pub content : Content (List ℕ)
    pub found : k.found old content
    pub why : Fault (KeepingFault k)
    pub named : stop ≡ stop_in k.cause why
    -- its store then, and the log that it began with
    pub behind : Keeping k
    pub left : (kept : ℕ → StoredGroup) → AreHeld k.rules id content kept → HasNotOpened id kept (AreShownBy k.rules k.found new) (fails k behind) why
    pub log : k.Log
    pub opens : k.opens old log
    pub met : MeetsAs (k.meets log behind.log) k.misuse ((kept : ℕ → StoredGroup) × AreHeld k.rules id content kept) (is_used_well k behind) behind.refused behind.failed_cleaning
        (storage_fault_of why)
    pub hands_back : k.hands_back behind.log new

  -- the files of a node that goes down show what it showed of its groups
  abbrev pub AreHandedBack : UpNode k → k.Files → Type 0
  AreHandedBack n files = (group : ℕ) (parts : List StoredGroup) → (of n).groups.shows group parts → AreShownDown k files group parts

  -- all groups were opened, and memory is refused for what that did: the node went down again
  pub record IsClosedAgain (old : k.Files) (id : ℕ) (stop : Stop) (new : k.Files) : Type 0 where
    pub n : UpNode k
    pub did : List Outcome
    pub opened : IsOpened old id n did
    pub named : NamesNobody (names_of stop)
    pub memory : stop.cause ≡ stop_cause.Memory
    pub shown : AreHandedBack n new
    pub hands_back : k.hands_back n.groups.storage.log new

  -- the files weren't opened, or not for long
  abbrev pub IsUnopened : k.Files → ℕ → Stop → k.Files → Type 0
  IsUnopened old id stop new = IsRefusedOpening k.found k.unopened old stop new ⊎ IsLeftOpening old id stop new ⊎ IsClosedAgain old id stop new

  pub record StaysDown (old new : NodeOf k) : Type 0 where
    pub id : new.id ≡ old.id
    pub down : new.up ≡ None

  pub record OpensTo (old : NodeOf k) (outcomes : List NodeOutcome) (new : NodeOf k) : Type 0 where
    pub n : UpNode k
    pub did : List Outcome
    pub opened : IsOpened old.files old.id n did
    pub answer : outcomes ≡ map node_outcome did
    pub up : IsUpAs old new n

  abbrev pub ReopensTo : NodeOf k → Result (List NodeOutcome) Stop → NodeOf k → Type 0
  ReopensTo old (Ok outcomes) new = OpensTo old outcomes new
  ReopensTo old (Err stop) new = StaysDown old new × IsUnopened old.files old.id stop new.files

  -- a node begins: files that have nothing, and refuse nothing, were opened for it
  pub record BeginsAs (own : ℕ) (new : NodeOf k) : Type 0 where
    pub id : new.id ≡ own
    pub states : (group : ℕ) → log_node_may_be k new group (first_state (is_some new.up) ∷ [])
    pub old : NodeOf k
    pub named : old.id ≡ own
    pub fresh : k.fresh old.files
    pub empty : (content : Content (List ℕ)) → k.found old.files content → content ≡ nothing
    pub answered : Result (List NodeOutcome) Stop
    pub opens : ReopensTo old answered new

  -- it goes down with its log's files as they are
  pub record GoesDown (n : UpNode k) (old new : NodeOf k) : Type 0 where
    pub stays : StaysDown old new
    pub shown : AreHandedBack n new.files
    pub hands_back : k.hands_back n.groups.storage.log new.files

  -- its machine stopped, and left of the log's files what was chosen
  pub record CrashesTo (n : UpNode k) (choice : CrashChoice) (old new : NodeOf k) : Type 0 where
    pub stays : StaysDown old new
    pub shown : AreHandedBack n new.files
    pub chosen : k.Choice
    pub says : k.chooses choice chosen
    pub left : k.Log
    pub crashed : k.crashed n.groups.storage.log chosen left
    pub hands_back : k.hands_back left new.files

  -- its log can't be left so, for this reason
  pub record CantCrash (n : UpNode k) (choice : CrashChoice) (why : CrashRefusal) : Type 0 where
    pub chosen : k.Choice
    pub says : k.chooses choice chosen
    pub met : k.Refusal
    pub named : why ≡ k.refusal met
    pub refuses : k.refuses n.groups.storage.log chosen met

  -- memory is missing, or its log can't be left so; one that is down has none that a crash could change
  abbrev pub RefusesCrash : Option (UpNode k) → CrashChoice → CrashRefusal → Type 0
  RefusesCrash None choice why = ⊥
  RefusesCrash (Some n) choice why = (why ≡ crash_refusal.Memory) ⊎ CantCrash n choice why

  -- so it is of the files of a node that is down
  pub record FusesDown (first_refused : Option ℕ) (old new : NodeOf k) : Type 0 where
    pub stays : StaysDown old new
    pub fused : k.fused_files old.files first_refused new.files
    pub files : FindsSame k.found old.files new.files

  abbrev pub FusesAs : NodeOf k → Option ℕ → NodeOf k → Option (UpNode k) → Type 0
  FusesAs old first_refused new None = FusesDown first_refused old new
  FusesAs old first_refused new (Some n) = FusesTo n first_refused old new

  -- ---- readers

  -- what runs for the group, at a node that is up and hasn't failed
  abbrev pub runs_of : Option (UpNode k) → ℕ → Option Running
  runs_of None group = None
  runs_of (Some n) group = unless_failed n.groups.has_failed (running_in k.state n.machines group)

  -- it tells what it leads the group with; one that is down leads nothing
  abbrev pub LeadsAs : Option (UpNode k) → ℕ → Option Leading → Type 0
  LeadsAs None group told = told ≡ None
  LeadsAs (Some n) group told = TellsOf (value k n) group told leading_of

  -- ---- all calls

  -- one that is down stays so
  abbrev pub WhenUp : NodeOf k → NodeOf k → Option (UpNode k) → Type 0 → (UpNode k → Type 0) → Type 0
  WhenUp old new None answer act = (new ≡ old) × answer
  WhenUp old new (Some n) answer act = act n

  -- one that is up isn't opened
  abbrev pub WhenDown : Option (UpNode k) → Type 0 → Type 0 → Type 0
  WhenDown None act answer = act
  WhenDown (Some n) act answer = answer

  abbrev pub log_node_acts : NodeActs (NodeOf k)
  log_node_acts = record {
    id = λ n. n.id;
    is_up = λ n. is_some n.up;
    begins = λ id n. BeginsAs id n;
    adds = λ old group answered new. WhenUp old new old.up (answered ≡ refused) (λ n. AddsTo n group old answered new);
    asks = λ old group call now answered new. WhenUp old new old.up (answered ≡ refused) (λ n. AsksTo n group call now old answered new);
    feeds = λ old peer piece now answered new. WhenUp old new old.up (answered ≡ refused) (λ n. FeedsTo n peer piece now old answered new);
    resets = λ old peer answered new. WhenUp old new old.up (answered ≡ refused) (λ n. ResetsTo n peer old answered new);
    cleans = λ old answered new. WhenUp old new old.up (answered ≡ refused) (λ n. CleansAs n old answered new);
    fails = λ old stop new. WhenUp old new old.up (NamesNobody (names_of stop)) (λ n. FailsTo n old stop new);
    fuses = λ old first new. FusesAs old first new old.up;
    crashes = λ old choice new. WhenUp old new old.up (Unit {0}) (λ n. CrashesTo n choice old new);
    refuses = λ old choice why. RefusesCrash old.up choice why;
    reopens = λ old workers answered new. WhenDown old.up (ReopensTo old answered new) ((new ≡ old) × (answered ≡ Ok []));
    closes = λ old new. WhenUp old new old.up (Unit {0}) (λ n. GoesDown n old new);
    machine_of = λ n group. machine_in (runs_of n.up group);
    applied_of = λ n group. place_in (runs_of n.up group);
    leads = λ n group told. LeadsAs n.up group told;
  }

  abbrev pub log_node_states : NodeStates (NodeOf k)
  log_node_states = record {
    may_be = λ n group states. log_node_may_be k n group states;
    spells = λ group message bytes. Spells (StandsFor k.rules) group message bytes;
  }
