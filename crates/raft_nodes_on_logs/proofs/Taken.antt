-- An event of one group at the node in it is taken by a node on files.
use Rattle.std.specs.Prelude.{◌≡◌, ℕ, Bool, true, false, List, [], ◌∷◌, ◌++◌, map, Some, None, Result, Ok, Err, Vec, refl}
use Rattle.std.specs.List.{AllZip}
use Rattle.std.proofs.lemmas.List.Elements.{All-head, All-tail}
use Rattle.std.proofs.Common.{inl, inr, sym, ap, ◌∙◌, subst, ⊎_elim}
use Rattle.raft_cluster_events.specs.declared.node.NodeOutcome.{NodeOutcome}
use Rattle.raft_cluster_events.specs.declared.outcome.NodeError.{NodeError}
use Rattle.raft_cluster_events.specs.declared.outcome.NodeError.TheVariants as error
use Rattle.raft_cluster_events.specs.declared.outcome.Stop.{Stop}
use Rattle.raft_cluster_events.specs.declared.outcome.StopCause.{StopCause}
use Rattle.raft_framed_groups.specs.declared.frames.GroupFrame.{GroupFrame}
use Rattle.raft_group_step.specs.GroupEvent.{GroupEvent}
use Rattle.raft_group_step.specs.Message.{Message}
use Rattle.raft_group_step.specs.StoredGroup.{Snapshot}
use Rattle.raft_messages.specs.declared.memberships.SnapshotBytes.{SnapshotBytes}
use Rattle.raft_headline.specs.ClusterEvent.{ClusterEvent, ClusterOutcome, Done, Recorded, Said, Stopped, is_stopped}
use Rattle.raft_headline.specs.Naming.{names_in}
use Rattle.raft_laws.specs.GroupWorld.{NodeState}
use Rattle.std.specs.Global.{Global}
use Rattle.raft_machines.specs.Machine.{MachineRules}
use Rattle.raft_machines.specs.declared.telling.UnknownTokens.{UnknownTokens}
use Rattle.raft_node.specs.Settling.{IsStoppedBy, IsTold}
use Rattle.raft_node.specs.Standing.{NodeValue}
use Rattle.raft_node.specs.declared.outcome.Outcome.{Outcome}
use Rattle.raft_node_faults.specs.declared.fault.Cause.{Cause}
use Rattle.raft_node_faults.specs.declared.fault.Cause.TheVariants as cause
use Rattle.raft_node_faults.specs.declared.fault.Fault.{Fault}
use Rattle.raft_node_faults.specs.declared.fault.Fault.TheVariants as fault
use Rattle.raft_node_joint.specs.Coming.{ComesTo}
use Rattle.raft_node_joint.specs.Leading.{LeadsIn, LeadsOn, StandsBefore, WasDone, led_by}
use Rattle.raft_node_joint.specs.Saying.{IsFrameOf, SaysCall, SaysOf, Spells, names_behind, outcome_of_fault, stops_unjudged}
use Rattle.raft_node_joint.specs.Reopening.{AreOwn, NamesNobody}
use Rattle.raft_node_joint.proofs.OwnMessages.{own_messages}
use Rattle.raft_node_joint.proofs.StopsBehind.{stops_behind_lead}
use Rattle.raft_node_laws.specs.Answered.{Answered, one_of, stop_behind}
use Rattle.raft_node_laws.specs.Law.{IsTaken, Leads, StandsBehind}
use Rattle.raft_node_laws.specs.Saying.{SaysError, names_of, outcome_of_refusal}
use Rattle.raft_node_laws.specs.Saying as law
use Rattle.raft_sent_frames.specs.declared.frame.NodeFrame.{NodeFrame}
use Rattle.raft_store.specs.Reading.{StandsFor}
use Rattle.raft_store.specs.declared.fault.StoreFault.{StoreFault}
use Rattle.raft_wire.specs.Stream.{fresh}
use Rattle.raft_nodes_on_logs.specs.Acts.{Fails, FailsTo, IsPassed, IsUpAs, StopsBehind, WhenUp, log_node_acts, log_node_states}
use Rattle.raft_nodes_on_logs.specs.Answering.{error_of, node_frame, node_outcome, stop_in}
use Rattle.raft_nodes_on_logs.specs.Kept.{KeepingFault}
use Rattle.raft_nodes_on_logs.specs.Kinds.{NodeKind}
use Rattle.raft_nodes_on_logs.specs.Standing.{NodeOf, UpNode, value}
use Rattle.raft_nodes_on_logs.proofs.Led.{led}

abbrev done_by : List NodeOutcome → Answered
done_by outcomes = Ok outcomes

-- ---- what is answered says the same

abbrev pub spells_of : MachineRules → ℕ → Message → List ℕ → Type 0
spells_of rules group m bytes = Spells (StandsFor rules) group m bytes

pub frames_say_so : (rules : MachineRules) (own group : ℕ) (frames : List GroupFrame) (sent : List Message) → AllZip (IsFrameOf (StandsFor rules) group) frames sent
    → AreOwn own sent → AllZip (law.IsFrameOf (spells_of rules) own group) (map node_frame frames) sent
frames_say_so rules own group [] [] say from = tt
frames_say_so rules own group [] (m ∷ ms) say from = absurd say
frames_say_so rules own group (f ∷ fs) [] say from = absurd say
frames_say_so rules own group (f ∷ fs) (m ∷ ms) say from =
    (record { sender = All-head (λ (y : Message). y.sender ≡ own) m ms from; addressee = say.0.addressee; spelled = say.0.spelled; accepts = say.0.accepts }, frames_say_so rules own group fs ms say.1 (All-tail (λ (y : Message). y.sender ≡ own) m ms from))

-- a fault says the same in a cluster's words
error_says : {F : Type 0} (log_cause : F → StopCause) (why : Fault (StoreFault F)) (o : ClusterOutcome) → outcome_of_fault why ≡ Some o → SaysError (error_of log_cause why) o
error_says log_cause fault.TooMuchForBatch o is = absurd (let no : None ≡ Some o = is in cc)
error_says log_cause (fault.Frame why) o is = absurd (let no : None ≡ Some o = is in cc)
error_says log_cause (fault.Stopped why unknown) o is = let same : Stopped (names_in unknown.items) ≡ o = cc in sym same
error_says log_cause other o is = is

-- a fault that is a stop
pub record IsStopAs {F : Type 0} (why : Fault F) : Type 0 where
  pub cause : Cause F
  pub unknown : Vec UnknownTokens Global
  pub is : why ≡ fault.Stopped cause unknown

pub is_stop : {F : Type 0} (c : Cause F) (why : Fault F) → IsStoppedBy c why → IsStopAs why
is_stop c (fault.Stopped why unknown) is = record { cause = why; unknown = unknown; is = refl }
is_stop c other is = absurd is

abbrev pub Answer : Type 0 → Type 0
Answer F = Result Outcome (Fault F)

-- the answer is a stop
abbrev pub stops : {F : Type 0} → Answer F → Bool
stops (Ok o) = false
stops (Err (fault.Stopped why unknown)) = true
stops (Err other) = false

pub unjudged_stops : {F : Type 0} (result : Answer F) → stops_unjudged result ≡ true → stops result ≡ true
unjudged_stops (Ok o) is = absurd (let no : false ≡ true = is in cc)
unjudged_stops (Err (fault.Stopped why unknown)) is = refl
unjudged_stops (Err other) is = absurd (let no : false ≡ true = is in cc)

-- what a stop says is a stop
stops_say : {F : Type 0} (stands : SnapshotBytes → Snapshot → Type 0) (group : ℕ) (result : Answer F) (o : ClusterOutcome) → SaysCall stands group result o → stops result ≡ true → is_stopped o ≡ true
stops_say stands group (Ok done) o says is = absurd (let no : false ≡ true = is in cc)
stops_say stands group (Err (fault.Stopped why unknown)) o says is = let same : o ≡ Stopped (names_in unknown.items) = cc in ap is_stopped same
stops_say stands group (Err other) o says is = absurd (let no : false ≡ true = is in cc)

module _ (k : NodeKind) where
  abbrev of : UpNode k → NodeValue
  of n = value k n

  abbrev pub Behind : List ℕ → List Recorded → NodeOf k → (ℕ → List NodeState) → Type 0
  Behind ids history node olds = StandsBehind k.rules (log_node_acts k) (log_node_states k) ids history node olds

  -- an event of one group comes to the plain node n, which a node on files stands as, and it is the other one then
  pub record IsOneGroup (old : NodeOf k) (n : NodeValue) (mid : UpNode k) (group : ℕ) (ge : GroupEvent) (happened : ℕ → ClusterEvent) (Kind : List Recorded → Type 0) (result : Answer (KeepingFault k)) : Type 0 where
    pub own : (ids : List ℕ) (history : List Recorded) (olds : ℕ → List NodeState) → Behind ids history old olds → n.groups.own ≡ old.id
    pub before : (ids : List ℕ) (history : List Recorded) (olds : ℕ → List NodeState) → Behind ids history old olds → StandsBefore k.rules (StandsFor k.rules) ids history n olds
    pub same : (of mid).groups.own ≡ n.groups.own
    pub streams : (ids : List ℕ) (history : List Recorded) (olds : ℕ → List NodeState) → Behind ids history old olds
        → (of mid).groups.has_failed ≡ false → (peer : ℕ) → (of mid).streams peer ≡ fresh
    pub comes : (history : List Recorded) → n.groups.own ≡ old.id → Kind history → ComesTo n.groups.own group history (happened n.groups.own) ge
    -- only a stop is told as a halt
    pub halted : Bool
    pub stopped : halted ≡ true → stops result ≡ true
    pub leads : (ids : List ℕ) (history : List Recorded) (olds : ℕ → List NodeState) → Kind history → n.groups.own ≡ old.id → StandsBefore k.rules (StandsFor k.rules) ids history n olds
        → LeadsOn k.rules (StandsFor k.rules) history (led_by halted n.groups.own (happened n.groups.own)) n (of mid) group olds result
    pub done : (o : Outcome) → result ≡ Ok o → WasDone k.rules (StandsFor k.rules) n (of mid) group ge o

  module _ (old : NodeOf k) (n : NodeValue) (mid : UpNode k) (group : ℕ) (ge : GroupEvent) (happened : ℕ → ClusterEvent) (Kind : List Recorded → Type 0)
      (result : Answer (KeepingFault k)) (one : IsOneGroup old n mid group ge happened Kind result)
      (ids : List ℕ) (history : List Recorded) (olds : ℕ → List NodeState) (kind : Kind history) (behind : Behind ids history old olds) where
    own : n.groups.own ≡ old.id
    own = one.own ids history olds behind

    comes : ComesTo n.groups.own group history (happened n.groups.own) ge
    comes = one.comes history own kind

    before : StandsBefore k.rules (StandsFor k.rules) ids history n olds
    before = one.before ids history olds behind

    abbrev Led : NodeOf k → (ClusterOutcome → Type 0) → Type 0
    Led new Says = Leads k.rules (log_node_acts k) (log_node_states k) history (happened old.id) olds old new Says

    abbrev law_says : Result NodeOutcome NodeError → ClusterOutcome → Type 0
    law_says answered = law.SaysCall (spells_of k.rules) old.id group (one_of answered)

    -- the event was done, and so it is answered
    done_says : (o : Outcome) (l : LeadsOn {F = KeepingFault k} k.rules (StandsFor k.rules) history (happened n.groups.own) n (of mid) group olds (Ok o))
        → law_says (Ok (node_outcome o)) l.outcome
    done_says o l =
        let said : Said = l.says.1 in
        let of_group : o.group ≡ group = l.says.0 in
        let led_there = subst (λ x. LeadsIn k.rules history (happened n.groups.own) x n (of mid) group (olds group)) l.says.3 (l.leads group) in
        let from = own_messages k.rules n.groups.own group history (happened n.groups.own) ge said (olds group) led_there.news comes led_there.leads in (
          of_group,
          said,
          record {
            sent = subst (λ i. AllZip (law.IsFrameOf (spells_of k.rules) old.id i) (map node_frame o.frames.items) said.sent) (sym of_group)
                (frames_say_so k.rules old.id group o.frames.items said.sent l.says.2.sent
                (subst (λ i. AreOwn i said.sent) own from));
            told = l.says.2.told;
            unknown = l.says.2.unknown;
          },
          l.says.3,
        )

    -- memory is refused behind it
    stops_behind : (o : Outcome) → result ≡ Ok o → (new : NodeOf k) (m : UpNode k) (why : Fault (KeepingFault k)) → Fails k mid why m → IsUpAs k old new m
        → Led new (λ x. x ≡ Stopped (names_of (stop_behind (node_outcome o) (stop_in k.cause why))))
    stops_behind o is new m why fails up =
        let s = is_stop cause.Memory why fails.0 in
        let told : IsTold ⊥ (of mid) (of m) (fault.Stopped s.cause s.unknown) = subst (IsTold ⊥ (of mid) (of m)) s.is fails.1 in
        let leads = stops_behind_lead k.rules (StandsFor k.rules) n (of mid) (of m) group ge o (fault.Stopped s.cause s.unknown)
        ids history (happened n.groups.own) olds comes before (one.done o is) told in
        subst (λ w. Led new (λ x. x ≡ Stopped (names_of (stop_behind (node_outcome o) (stop_in k.cause w))))) (sym s.is)
        (led k old new m n history happened false (Stopped (names_behind o s.unknown.items)) olds
        (λ x. x ≡ Stopped (names_of (stop_behind (node_outcome o) (stop_in k.cause (fault.Stopped s.cause s.unknown)))))
        own up (told.own ∙ one.same) (λ going. absurd (let no : true ≡ false = sym told.fails ∙ going in cc)) (λ no. absurd (let never : false ≡ true = no in cc)) refl leads)

    abbrev LeadsAs : Bool → Answer (KeepingFault k) → Type 0
    LeadsAs b r = LeadsOn k.rules (StandsFor k.rules) history (led_by b n.groups.own (happened n.groups.own)) n (of mid) group olds r

    leads : LeadsAs one.halted result
    leads = one.leads ids history olds kind own before

    -- one that was done is told as itself
    judged : (o : Outcome) (b : Bool) → result ≡ Ok o → (b ≡ true → stops result ≡ true) → LeadsAs b result → LeadsAs false (Ok o)
    judged o true is stopped l = absurd (let no : false ≡ true = sym (ap stops is) ∙ stopped refl in cc)
    judged o false is stopped l = subst (LeadsAs false) is l

    -- the node answers so
    ends : (answered : Result NodeOutcome NodeError) (new : NodeOf k) (r : Answer (KeepingFault k)) → result ≡ r → IsPassed k old mid r answered new
        → Led new (law_says answered)
    ends answered new (Ok o) is (inl (answer, up)) =
        let l = judged o one.halted is one.stopped leads in
        subst (λ a. Led new (law_says a)) (sym answer)
        (led k old new mid n history happened false l.outcome olds (law_says (Ok (node_outcome o)))
        own up one.same (one.streams ids history olds behind) (λ no. absurd (let never : false ≡ true = no in cc)) (done_says o l) l.leads)
    ends answered new (Ok o) is (inr s) =
        subst (λ a. Led new (law_says a)) (sym s.answer) (stops_behind o is new s.failed s.why s.fails s.up)
    ends answered new (Err why) is (answer, up) =
        let l = subst (LeadsAs one.halted) is leads in
        subst (λ a. Led new (law_says a)) (sym answer)
        (led k old new mid n history happened one.halted l.outcome olds (law_says (Err (error_of k.cause why)))
        own up one.same (one.streams ids history olds behind)
        (λ halted. stops_say (StandsFor k.rules) group (Err why) l.outcome l.says (sym (ap stops is) ∙ one.stopped halted))
        (error_says k.cause why l.outcome l.says) l.leads)

    -- it answers an outcome, and fails behind it for want of memory
    fails_behind : (answered : Result NodeOutcome NodeError) (mid_node new : NodeOf k) (r : Answer (KeepingFault k)) → result ≡ r
        → IsPassed k old mid r answered mid_node → (outcome : NodeOutcome) (stop : Stop) → one_of answered ≡ Ok (outcome ∷ [])
        → (log_node_acts k).fails mid_node stop new → Led new (λ o. o ≡ Stopped (names_of (stop_behind outcome stop)))
    fails_behind answered mid_node new (Ok o) is (inl (answer, up)) outcome stop answers fails =
        let same : node_outcome o ≡ outcome = let both : done_by (node_outcome o ∷ []) ≡ done_by (outcome ∷ []) = sym (ap one_of answer) ∙ answers in cc in
        let f = subst (λ u. WhenUp k mid_node new u (NamesNobody (names_of stop)) (λ n. FailsTo k n mid_node stop new)) up.1 fails in
        subst (λ x. Led new (λ o. o ≡ Stopped (names_of (stop_behind x stop)))) same
        (subst (λ x. Led new (λ y. y ≡ Stopped (names_of (stop_behind (node_outcome o) x)))) (sym f.named)
        (stops_behind o is new f.failed f.why f.fails (f.up.0 ∙ up.0, f.up.1)))
    fails_behind answered mid_node new (Ok o) is (inr s) outcome stop answers fails =
        absurd (let no : Err (error.Stopped (stop_behind (node_outcome o) (stop_in k.cause s.why))) ≡ done_by (outcome ∷ []) = sym (ap one_of s.answer) ∙ answers in cc)
    fails_behind answered mid_node new (Err why) is (answer, up) outcome stop answers fails =
        absurd (let no : Err (error_of k.cause why) ≡ done_by (outcome ∷ []) = sym (ap one_of answer) ∙ answers in cc)

  -- so it is taken
  pub one_group_taken : (old new : NodeOf k) (n : NodeValue) (mid : UpNode k) (group : ℕ) (ge : GroupEvent) (happened : ℕ → ClusterEvent) (Kind : List Recorded → Type 0)
      (result : Answer (KeepingFault k)) → IsOneGroup old n mid group ge happened Kind result
      → (answered : Result NodeOutcome NodeError) → IsPassed k old mid result answered new
      → IsTaken k.rules (log_node_acts k) (log_node_states k) Kind (happened old.id) group old (one_of answered) new
  one_group_taken old new n mid group ge happened Kind result one answered passed = record {
    ends = λ ids history olds kind behind. ends old n mid group ge happened Kind result one ids history olds kind behind answered new result refl passed;
    stops = λ outcome stop last answers fails ids history olds kind behind.
        fails_behind old n mid group ge happened Kind result one ids history olds kind behind answered new last result refl passed outcome stop answers fails;
  }
