-- Each kind of event, and runs of events.
use Rattle.std.proofs.Common.{◌≡◌, ℕ, eqb, Bool, true, false, not, List, [], ◌∷◌, ◌++◌, Option, Some, None, IfSome, Ok, Err, Result, length, slice_get, inl, inr, refl, sym, ap, ◌∙◌, subst, append_assoc, append-nil, unwrap_or, eqb-true}
use Rattle.std.specs.List.{AllZip}
use Rattle.std.specs.Option.{option_map}
use Rattle.raft_group_step.specs.Values.{Membership}
use Rattle.raft_group_step.specs.Message.{Message}
use Rattle.raft_group_step.specs.GroupEvent.{GroupCall}
use Rattle.raft_laws.specs.GroupRun.{is_same_setup, scene_of_call, setup_in_call}
use Rattle.raft_laws.specs.GroupWorld.{NodeState}
use Rattle.raft_history_laws.proofs.EndedOnce.{no_setup}
use Rattle.raft_machines.specs.Machine.{MachineRules}
use Rattle.raft_sent_frames.specs.declared.frame.SentFrame.{SentFrame}
use Rattle.raft_headline.specs.ClusterEvent.{AddGroup, Ask, Clean, Crash, Deliver, Fuse, Reopen, ResetPeer}
use Rattle.raft_headline.specs.ClusterEvent.{ClusterEvent as PlainEvent, ClusterOutcome as PlainOutcome}
use Rattle.raft_headline.specs.ClusterEvent.{Done, Said, Stopped, is_stopped, silent}
use Rattle.raft_headline.specs.Told.{said_by}
use Rattle.raft_cluster_laws.specs.Along.{sent_by, setup_by}
use Rattle.raft_cluster_laws.proofs.EventKept.{kept_is_headline}
use Rattle.raft_cluster_conditions.specs.Cuts.{are_cuts}
use Rattle.raft_cluster_conditions.specs.Refusal.{first_of, refusal_of}
use Rattle.raft_cluster_conditions.specs.declared.reasons.Asked.{Asked}
use Rattle.raft_cluster_conditions.specs.declared.reasons.Asked.TheVariants as asked
use Rattle.raft_cluster_conditions.specs.declared.reasons.ClusterRefusal.{ClusterRefusal}
use Rattle.raft_cluster_conditions.specs.declared.reasons.ClusterRefusal.TheVariants.{NoNode, NodeDown, NodeUp, NoFrame, SetupDiffers, BadCut}
use Rattle.raft_cluster_events.specs.declared.event.ClusterEvent.{ClusterEvent}
use Rattle.raft_cluster_events.specs.declared.event.ClusterEvent.TheVariants as event
use Rattle.raft_cluster_events.specs.declared.event.CrashChoice.{CrashChoice}
use Rattle.raft_cluster_events.specs.declared.node.NodeOutcome.{NodeOutcome}
use Rattle.raft_cluster_events.specs.declared.outcome.EventOutcome.{EventOutcome}
use Rattle.raft_cluster_events.specs.declared.outcome.EventOutcome.TheVariants as outcome
use Rattle.raft_cluster_events.specs.declared.outcome.GroupOutcome.{GroupOutcome}
use Rattle.raft_cluster_events.specs.declared.outcome.NodeError.{NodeError}
use Rattle.raft_cluster_events.specs.declared.outcome.NodeError.TheVariants as error
use Rattle.raft_cluster_events.specs.declared.outcome.Recorded.{Recorded}
use Rattle.raft_cluster_events.specs.declared.outcome.Stop.{Stop}
use Rattle.raft_cluster_events.specs.Node.{NodeActs}
use Rattle.raft_cluster_events.specs.States.{NodeStates}
use Rattle.raft_node_laws.specs.Answered.{none_of, one_of, opening_of, some_of}
use Rattle.raft_node_laws.specs.Delivery.{Comes, pieces_from}
use Rattle.raft_node_laws.specs.Law.{Anything, IsAskedAt, KeepsLaw, Leads, WasSent}
use Rattle.raft_node_laws.specs.Reporting.{IsPartAs, IsSentAs, OutcomeAs, node_behind, plain_event}
use Rattle.raft_node_laws.specs.Saying.{SaysCleaning, SaysOpening, SaysReset, names_of}
use Rattle.raft_cluster.specs.Cluster.{Happens, HappensBy, IsReached, IsTurnedAway, Reaches, RunsTo, nothing_sent, refusal_in, with_node}
use Rattle.raft_cluster.specs.Facts.{Sent, differs, is_taken, membership_in, node_at, node_in, node_of, set_up_asked, set_up_by, set_up_by_event, set_up_if, standing_if, standing_of}
use Rattle.raft_cluster.specs.Happening.{ComesTo, Delivers, NodeAnswer, Did, HasCleaned, Settles}
use Rattle.raft_cluster.specs.Joined.{HasHeadline, downs_of, ids_of}
use Rattle.raft_cluster.specs.Sending.{sent_after}
use Rattle.raft_cluster.proofs.BeginLemmas.{agree_first, told_first}
use Rattle.raft_cluster.proofs.JoinLemmas.{IsOneMore, IsToldSoFar, error_as, group_event, itself, led, led_silently, stands, stopped_as, turned, with_nothing}
use Rattle.raft_cluster.proofs.ListLemmas.{all_of, beside, its_id}
use Rattle.raft_cluster.proofs.PlainLemmas.{IsFreeSetUp, free_in_plain, same_membership}
use Rattle.raft_cluster.proofs.SpellingLemmas.{all_say, parts_say, same_length}

-- ---- what isn't turned away

up_for_call : {N : Type 0} (acts : NodeActs N) (b : Bool) → refusal_of (standing_if acts b) asked.Call [] ≡ None → b ≡ true
up_for_call acts true none = refl
up_for_call acts false none = absurd (cc)

up_for_crash : {N : Type 0} (acts : NodeActs N) (b : Bool) → refusal_of (standing_if acts b) asked.Crash [] ≡ None → b ≡ true
up_for_crash acts true none = refl
up_for_crash acts false none = absurd (cc)

down_for_opening : {N : Type 0} (acts : NodeActs N) (b : Bool) → refusal_of (standing_if acts b) asked.Reopen [] ≡ None → b ≡ false
down_for_opening acts true none = absurd (cc)
down_for_opening acts false none = refl

-- no set-up with another membership
abbrev pub IsFree : List Recorded → ℕ → Option Membership → Type 0
IsFree history group None = Unit {0}
IsFree history group (Some m) = differs history group m ≡ false

not_differing : {N : Type 0} (acts : NodeActs N) (d : Bool) → refusal_of (standing_if acts true) (asked.SetUp d) [] ≡ None → d ≡ false
not_differing acts true none = absurd (cc)
not_differing acts false none = refl

free_for_call : {N : Type 0} (acts : NodeActs N) (history : List Recorded) (group : ℕ) (b : Bool) (m : Option Membership) → refusal_of (standing_if acts b) (set_up_asked history group m) [] ≡ None → (b ≡ true) × IsFree history group m
free_for_call acts history group true None none = (refl, tt)
free_for_call acts history group false None none = absurd (cc)
free_for_call acts history group true (Some m) none = (refl, not_differing acts (differs history group m) none)
free_for_call acts history group false (Some m) none = absurd (cc)

cut_rightly : {N : Type 0} (acts : NodeActs N) (b : Bool) (long : ℕ) (cuts : List ℕ) → refusal_of (standing_if acts b) (asked.Delivery (Some long)) cuts ≡ None → (b ≡ true) × (are_cuts 0 long cuts ≡ true)
cut_rightly acts false long cuts none = absurd (cc)
cut_rightly acts true long cuts none = (refl, go (are_cuts 0 long cuts) none)
  where
    go : (c : Bool) → first_of ((false, NoFrame) ∷ (false, NoNode) ∷ (false, NodeDown) ∷ (false, NodeUp) ∷ (not c, BadCut) ∷ (false, SetupDiffers) ∷ []) ≡ None → c ≡ true
    go true e = refl
    go false e = absurd (cc)

named_by : (w : Option ℕ) → IfSome w (λ m. unwrap_or w 0 ≡ m)
named_by None = tt
named_by (Some m) = refl

-- ---- set-ups of events

no_set_up : (history : List Recorded) (r : Recorded) → ((h : ℕ) → set_up_by h r ≡ None) → IsFreeSetUp history r
no_set_up history r none h m is = let no : None ≡ Some m = sym (none h) ∙ is in absurd (cc)

free_set_up : (history : List Recorded) (node group now : ℕ) (call : GroupCall) (o : EventOutcome) → IsFree history group (membership_in call) → IsFreeSetUp history (record { event = event.Ask node group call now; outcome = o })
free_set_up history node group now call o free h m is = go (eqb group h) (is_taken o) (membership_in call) refl free is
  where
    go : (b taken : Bool) (w : Option Membership) → eqb group h ≡ b → IsFree history group w → set_up_if b taken w ≡ Some m → differs history h m ≡ false
    go true true None at f e = absurd (cc)
    go true true (Some x) at f e =
        let same : x ≡ m = cc in
        subst (λ g. differs history g m ≡ false) (eqb-true group h at) (subst (λ y. differs history group y ≡ false) same f)
    go true false w at f e = absurd (cc)
    go false taken w at f e = absurd (cc)

-- what was turned away sets nothing up
away_is_free : (history : List Recorded) (e : ClusterEvent) (o : EventOutcome) (why : ClusterRefusal) → o ≡ outcome.TurnedAway why → IsFreeSetUp history (record { event = e; outcome = o })
away_is_free history e o why is = no_set_up history (record { event = e; outcome = o }) (λ h. ap (λ q. set_up_by_event h e (is_taken q)) is ∙ none h e)
  where
    if_not : (b : Bool) (w : Option Membership) → set_up_if b false w ≡ None
    if_not true w = refl
    if_not false w = refl

    none : (h : ℕ) (x : ClusterEvent) → set_up_by_event h x false ≡ None
    none h (event.AddGroup n g) = refl
    none h (event.Ask n g call now) = if_not (eqb g h) (membership_in call)
    none h (event.Deliver g number cuts now) = refl
    none h (event.ResetPeer n peer) = refl
    none h (event.Clean n) = refl
    none h (event.Fuse n first_refused) = refl
    none h (event.Crash n choice) = refl
    none h (event.Reopen n workers) = refl

module _ {N : Type 0} (rules : MachineRules) (acts : NodeActs N) (states : NodeStates N) (law : KeepsLaw rules acts states) (ids downs : List ℕ) where
  module _ (nodes : List N) (sent : Sent) (history : List Recorded) (t : IsToldSoFar rules acts states ids downs nodes sent history) where
    same_set_up : (group : ℕ) (m : Option Membership) → IsFree history group m → is_same_setup (setup_by group t.told.plain) m ≡ true
    same_set_up group None free = no_setup (setup_by group t.told.plain)
    same_set_up group (Some m) free = free_in_plain history t.told.plain t.set_ups group m free

    abbrev After : List N → Sent → ClusterEvent → EventOutcome → Type 0
    After nodes' later e o = IsOneMore rules acts states ids downs nodes sent history t (record { event = e; outcome = o }) nodes' later

    module _ (before : N) (o : EventOutcome) (new : N) (later : Sent) where
      abbrev Now : ClusterEvent → N → Type 0
      Now e x = After (with_node acts (acts.id before) x nodes) later e o

      adds : (node group : ℕ) → node_in acts nodes node ≡ Some before → acts.is_up before ≡ true → ComesTo acts sent (event.AddGroup node group) before o later new → Now (event.AddGroup node group) new
      adds node group there up comes =
          let is : acts.id before ≡ node = its_id acts nodes node before there in
          let found : node_in acts nodes (acts.id before) ≡ Some before = ap (node_in acts nodes) is ∙ there in
          let (r, added, same) = comes.answers in
          let happened : PlainEvent = AddGroup (acts.id before) group in
          let P : NodeAnswer → Type 0 = λ a. Settles acts sent (event.AddGroup node group) comes.behind a o later new in
          group_event rules acts states ids downs nodes sent history t before found (event.AddGroup node group) happened (ap (λ n. AddGroup n group) is) is
          o (no_set_up history (record { event = event.AddGroup node group; outcome = o }) (λ h. refl)) comes.behind new later comes.id_behind comes.id group (λ parts p h. h) (λ outcomes stop h. h) (λ h p. refl) Anything tt
          (one_of r) (law.adds before comes.behind group r up added) (subst P same comes.settles)

      asks : (node group : ℕ) (call : GroupCall) (now : ℕ) → node_in acts nodes node ≡ Some before → acts.is_up before ≡ true → IsFree history group (membership_in call)
          → ComesTo acts sent (event.Ask node group call now) before o later new → Now (event.Ask node group call now) new
      asks node group call now there up free comes =
          let is : acts.id before ≡ node = its_id acts nodes node before there in
          let found : node_in acts nodes (acts.id before) ≡ Some before = ap (node_in acts nodes) is ∙ there in
          let (r, asked, same) = comes.answers in
          let happened : PlainEvent = Ask (acts.id before) group call now in
          let Kind = IsAskedAt (acts.id before) group call now in
          let P : NodeAnswer → Type 0 = λ a. Settles acts sent (event.Ask node group call now) comes.behind a o later new in
          let same_setup : is_same_setup (setup_by group t.told.plain) (setup_in_call call) ≡ true =
          ap (is_same_setup (setup_by group t.told.plain)) (sym (same_membership call)) ∙ same_set_up group (membership_in call) free in
          group_event rules acts states ids downs nodes sent history t before found (event.Ask node group call now) happened (ap (λ n. Ask n group call now) is) is
          o (free_set_up history node group now call o free) comes.behind new later comes.id_behind comes.id group (λ parts p h. h) (λ outcomes stop h. h) (λ h p. refl) Kind
          (ap (λ b. scene_of_call b (acts.id before) call now) same_setup)
          (one_of r) (law.asks before comes.behind group now call r up asked) (subst P same comes.settles)

      delivers : (group number : ℕ) (cuts : List ℕ) (now : ℕ) (frame : SentFrame) → slice_get (sent group) number ≡ Some frame → node_in acts nodes frame.peer ≡ Some before
          → acts.is_up before ≡ true → are_cuts 0 (length frame.bytes) cuts ≡ true
          → ComesTo acts sent (event.Deliver group number cuts now) before o later new → Now (event.Deliver group number cuts now) new
      delivers group number cuts now frame here there up cut comes =
          let is : acts.id before ≡ frame.peer = its_id acts nodes frame.peer before there in
          let found : node_in acts nodes (acts.id before) ≡ Some before = ap (node_in acts nodes) is ∙ there in
          let D : Option SentFrame → Type 0 = λ w. Delivers acts w cuts now before comes.answered comes.behind in
          let (r, came, same) = subst D here comes.answers in
          let b = beside (IsSentAs states.spells group) (sent group) (sent_by group t.told.plain) (t.told.stand.frames group) number frame here in
          let m : Message = b.other in
          let addressed : acts.id before ≡ m.addressee = is ∙ b.related.addressee in
          let happened : PlainEvent = Deliver group number now in
          let Kind = WasSent group number m in
          let P : NodeAnswer → Type 0 = λ a. Settles acts sent (event.Deliver group number cuts now) comes.behind a o later new in
          let C : ℕ → Type 0 = λ s. Comes acts s now before (pieces_from frame.bytes 0 cuts) r comes.behind in
          let taken = law.delivers before comes.behind group number now m frame.bytes cuts r up (sym addressed) b.related.spelled cut (subst C b.related.sender came) in
          let At : Option Message → Type 0 = λ w. IfSome (option_map (λ (x : Message). x.addressee) w) (λ n. acts.id before ≡ n) in
          group_event rules acts states ids downs nodes sent history t before found (event.Deliver group number cuts now) happened refl (subst At (sym b.stands) addressed)
          o (no_set_up history (record { event = event.Deliver group number cuts now; outcome = o }) (λ h. refl)) comes.behind new later comes.id_behind comes.id group (λ parts p h. h) (λ outcomes stop h. h) (λ h p. refl) Kind b.stands
          (some_of r) taken (subst P same comes.settles)

      module _ (found : node_in acts nodes (acts.id before) ≡ Some before) (mid : N) (id_mid : acts.id mid ≡ acts.id before) (id_new : acts.id new ≡ acts.id before) (node : ℕ) (is : acts.id before ≡ node) where
        abbrev Leading : PlainEvent → N → (PlainOutcome → Type 0) → Type 0
        Leading happened x Says = Leads rules acts states t.told.plain happened (λ h. t.told.stand.candidates h (acts.id before)) before x Says

        -- nothing is said of it, and nothing sent
        silently : (e : ClusterEvent) (happened : PlainEvent) → happened ≡ plain_event e → IfSome (node_behind t.told.plain e) (λ n. acts.id before ≡ n) → ((h : ℕ) (p : PlainOutcome) → said_by h happened p ≡ silent) → IsFreeSetUp history (record { event = e; outcome = o })
            → (Says : PlainOutcome → Type 0) (l : Leading happened mid Says) → l.outcome ≡ Done silent → OutcomeAs t.told.plain e o l.outcome → ((h : ℕ) → later h ≡ sent h) → Now e mid
        silently e happened is_plain at says free Says l done told kept =
            led rules acts states ids downs nodes sent history t before found e happened is_plain at o free mid later id_mid Says l told
            (λ h. with_nothing rules acts states ids downs nodes sent history t h later _ (ap (λ s. s.sent) (ap (λ q. said_by h q l.outcome) (itself happened (acts.id before) l.outcome l.told l.as_itself (ap is_stopped done)) ∙ says h l.outcome)) (kept h))

        resets : (peer : ℕ) (r : Result (Unit {0}) NodeError) → Leading (ResetPeer (acts.id before) peer) mid (SaysReset (none_of r))
            → Settles acts sent (event.ResetPeer node peer) mid (Did (none_of r)) o later new → Now (event.ResetPeer node peer) new
        resets peer (Ok u) l (inr lacks) = absurd lacks.node
        resets peer (Ok u) l (inl done) =
            let e : ClusterEvent = event.ResetPeer node peer in
            subst (Now e) (sym done.node)
            (silently e (ResetPeer (acts.id before) peer) (ap (λ n. ResetPeer n peer) is) is (λ h p. refl) (no_set_up history (record { event = e; outcome = o }) (λ h. refl)) (SaysReset (Ok [])) l l.says
            (subst (λ q. OutcomeAs t.told.plain e q l.outcome) (sym done.outcome) (record { none = done.sends.numbered; done = l.says }))
            done.sends.sends)
        resets peer (Err why) l over_it =
            let e : ClusterEvent = event.ResetPeer node peer in
            subst (Now e) (sym over_it.node)
            (led_silently rules acts states ids downs nodes sent history t before found e (ResetPeer (acts.id before) peer) (ap (λ n. ResetPeer n peer) is) is o (no_set_up history (record { event = e; outcome = o }) (λ h. refl)) mid later id_mid (SaysReset (Err why)) l
            (error_as t.told.plain e why o l.outcome over_it.outcome l.says) over_it.sends)

        cleans : (r : Result (List ℕ) NodeError) → Leading (Clean (acts.id before)) mid (SaysCleaning r)
            → Settles acts sent (event.Clean node) mid (HasCleaned r) o later new → Now (event.Clean node) new
        cleans (Ok groups) l done =
            let e : ClusterEvent = event.Clean node in
            let (rising, says) = l.says in
            subst (Now e) (sym done.node)
            (silently e (Clean (acts.id before)) (ap (λ n. Clean n) is) is (λ h p. refl) (no_set_up history (record { event = e; outcome = o }) (λ h. refl)) (SaysCleaning (Ok groups)) l says
            (subst (λ q. OutcomeAs t.told.plain e q l.outcome) (sym done.outcome) (record { rising = rising; done = says }))
            done.sends)
        cleans (Err why) l over_it =
            let e : ClusterEvent = event.Clean node in
            subst (Now e) (sym over_it.node)
            (led_silently rules acts states ids downs nodes sent history t before found e (Clean (acts.id before)) (ap (λ n. Clean n) is) is o (no_set_up history (record { event = e; outcome = o }) (λ h. refl)) mid later id_mid (SaysCleaning (Err why)) l
            (error_as t.told.plain e why o l.outcome over_it.outcome l.says) over_it.sends)

        fuses : (first_refused : Option ℕ) → Leading (Fuse (acts.id before)) mid (λ p. p ≡ Done silent) → Settles acts sent (event.Fuse node first_refused) mid (Did (Ok [])) o later new → Now (event.Fuse node first_refused) new
        fuses first_refused l (inr lacks) = absurd lacks.node
        fuses first_refused l (inl done) =
            let e : ClusterEvent = event.Fuse node first_refused in
            subst (Now e) (sym done.node)
            (silently e (Fuse (acts.id before)) (ap (λ n. Fuse n) is) is (λ h p. refl) (no_set_up history (record { event = e; outcome = o }) (λ h. refl)) (λ p. p ≡ Done silent) l l.says
            (subst (λ q. OutcomeAs t.told.plain e q l.outcome) (sym done.outcome) (record { none = done.sends.numbered; done = l.says }))
            done.sends.sends)

        crashes : (choice : CrashChoice) → Leading (Crash (acts.id before)) mid (λ p. p ≡ Done silent) → Settles acts sent (event.Crash node choice) mid (Did (Ok [])) o later new → Now (event.Crash node choice) new
        crashes choice l (inr lacks) = absurd lacks.node
        crashes choice l (inl done) =
            let e : ClusterEvent = event.Crash node choice in
            subst (Now e) (sym done.node)
            (silently e (Crash (acts.id before)) (ap (λ n. Crash n) is) is (λ h p. refl) (no_set_up history (record { event = e; outcome = o }) (λ h. refl)) (λ p. p ≡ Done silent) l l.says
            (subst (λ q. OutcomeAs t.told.plain e q l.outcome) (sym done.outcome) (record { none = done.sends.numbered; done = l.says }))
            done.sends.sends)

        opened : (workers : ℕ) (outcomes : List NodeOutcome) → Leading (Reopen (acts.id before)) mid (SaysOpening states.spells (acts.id before) (Ok outcomes))
            → ((x : N) → acts.closes mid x → Leading (Reopen (acts.id before)) x (λ p. p ≡ Stopped []))
            → Settles acts sent (event.Reopen node workers) mid (Did (Ok outcomes)) o later new → Now (event.Reopen node workers) new
        opened workers outcomes l closes (inr lacks) =
            let e : ClusterEvent = event.Reopen node workers in
            let c = closes new lacks.node.1 in
            led_silently rules acts states ids downs nodes sent history t before found e (Reopen (acts.id before)) (ap (λ n. Reopen n) is) is o (no_set_up history (record { event = e; outcome = o }) (λ h. refl)) new later id_new (λ p. p ≡ Stopped []) c
            (stopped_as t.told.plain e lacks.stop o c.outcome lacks.outcome (c.says ∙ ap (λ s. Stopped (names_of s)) (sym lacks.node.0))) lacks.sends
        opened workers outcomes l closes (inl done) =
            let e : ClusterEvent = event.Reopen node workers in
            let (once, parts, each, opened_so) = l.says in
            let spells = states.spells in
            let n = acts.id before in
            let long = all_of (λ (x : NodeOutcome). length (sent x.group) ≡ length (sent_by x.group t.told.plain)) (λ x. same_length spells x.group (sent x.group) (sent_by x.group t.told.plain) (t.told.stand.frames x.group)) outcomes in
            let same = parts_say spells n (acts.id mid) id_mid t.told.plain sent outcomes parts each once long in
            let S : List GroupOutcome → Type 0 = λ ps. AllZip (λ (part : GroupOutcome) (said : ℕ × Said). (said.0 ≡ part.group) × IsPartAs t.told.plain part said.1) ps parts in
            subst (Now e) (sym done.node)
            (led rules acts states ids downs nodes sent history t before found e (Reopen n) (ap (λ i. Reopen i) is) is o (no_set_up history (record { event = e; outcome = o }) (λ h. refl)) mid later id_mid (SaysOpening spells n (Ok outcomes)) l
            (subst (λ q. OutcomeAs t.told.plain e q l.outcome) (sym done.outcome) (record { all = parts; same = subst S (sym done.sends.numbered) same; opened = opened_so }))
            (λ h.
            let P : List SentFrame → Type 0 = λ fs. AllZip (IsSentAs spells h) fs (sent_by h t.told.plain ++ (said_by h l.told l.outcome).sent) in
            let R : PlainEvent → Type 0 = λ q. AllZip (IsSentAs spells h) (sent_after sent (acts.id mid) outcomes h) (sent_by h t.told.plain ++ (said_by h q l.outcome).sent) in
            let Q : PlainOutcome → Type 0 = λ p. AllZip (IsSentAs spells h) (sent_after sent (acts.id mid) outcomes h) (sent_by h t.told.plain ++ (said_by h (Reopen n) p).sent) in
            subst P (sym (done.sends.sends h))
            (subst R (sym (itself (Reopen n) n l.outcome l.told l.as_itself (ap is_stopped opened_so)))
            (subst Q (sym opened_so) (all_say spells n (acts.id mid) id_mid h sent (sent_by h t.told.plain) outcomes parts each once (t.told.stand.frames h))))))

        reopens : (workers : ℕ) (r : Result (List NodeOutcome) Stop) → Leading (Reopen (acts.id before)) mid (SaysOpening states.spells (acts.id before) (opening_of r))
            → ((outcomes : List NodeOutcome) (x : N) → r ≡ Ok outcomes → acts.closes mid x → Leading (Reopen (acts.id before)) x (λ p. p ≡ Stopped []))
            → Settles acts sent (event.Reopen node workers) mid (Did (opening_of r)) o later new → Now (event.Reopen node workers) new
        reopens workers (Ok outcomes) l closes settles = opened workers outcomes l (λ x. closes outcomes x refl) settles
        reopens workers (Err stop) l closes over_it =
            let e : ClusterEvent = event.Reopen node workers in
            subst (Now e) (sym over_it.node)
            (led_silently rules acts states ids downs nodes sent history t before found e (Reopen (acts.id before)) (ap (λ n. Reopen n) is) is o (no_set_up history (record { event = e; outcome = o }) (λ h. refl)) mid later id_mid (SaysOpening states.spells (acts.id before) (Err (error.Stopped stop))) l
            (error_as t.told.plain e (error.Stopped stop) o l.outcome over_it.outcome l.says) over_it.sends)

    -- ---- an event

    module _ (o : EventOutcome) (nodes' : List N) (later : Sent) where
      comes_there : (e : ClusterEvent) → refusal_in acts nodes sent history e ≡ None → (r : Reaches acts nodes sent e o nodes' later) → After (with_node acts (acts.id r.before) r.behind nodes) later e o
      comes_there (event.AddGroup node group) none r =
          let up = up_for_call acts (acts.is_up r.before) (ap (λ w. refusal_of (standing_of acts w) asked.Call []) (sym r.named) ∙ none) in
          adds r.before o r.behind later node group r.named up r.comes
      comes_there (event.Ask node group call now) none r =
          let free = free_for_call acts history group (acts.is_up r.before) (membership_in call) (ap (λ w. refusal_of (standing_of acts w) (set_up_asked history group (membership_in call)) []) (sym r.named) ∙ none) in
          asks r.before o r.behind later node group call now r.named free.0 free.1 r.comes
      comes_there (event.Deliver group number cuts now) none r = go (slice_get (sent group) number) refl
        where
          go : (w : Option SentFrame) → slice_get (sent group) number ≡ w → After (with_node acts (acts.id r.before) r.behind nodes) later (event.Deliver group number cuts now) o
          go None is =
              let no : node_at acts nodes None ≡ Some r.before = ap (λ w. node_at acts nodes (option_map (λ (f : SentFrame). f.peer) w)) (sym is) ∙ r.named in absurd (cc)
          go (Some frame) is =
              let there : node_in acts nodes frame.peer ≡ Some r.before = ap (λ w. node_at acts nodes (option_map (λ (f : SentFrame). f.peer) w)) (sym is) ∙ r.named in
              let A : Option SentFrame → Asked = λ w. asked.Delivery (option_map (λ (f : SentFrame). length f.bytes) w) in
              let cut = cut_rightly acts (acts.is_up r.before) (length frame.bytes) cuts
              (ap (λ w. refusal_of (standing_of acts w) (A (Some frame)) cuts) (sym r.named)
              ∙ ap (λ w. refusal_of (standing_of acts (node_at acts nodes (node_of sent (event.Deliver group number cuts now)))) (A w) cuts) (sym is) ∙ none) in
              delivers r.before o r.behind later group number cuts now frame is there cut.0 cut.1 r.comes
      comes_there (event.ResetPeer node peer) none r =
          let up = up_for_call acts (acts.is_up r.before) (ap (λ w. refusal_of (standing_of acts w) asked.Call []) (sym r.named) ∙ none) in
          let is = its_id acts nodes node r.before r.named in
          let found = ap (node_in acts nodes) is ∙ r.named in
          let (answered, reset, same) = r.comes.answers in
          let l = law.resets r.before r.comes.behind peer answered up reset ids t.told.plain (λ h. t.told.stand.candidates h (acts.id r.before)) tt (stands rules acts states ids downs nodes sent history t r.before found) in
          resets r.before o r.behind later found r.comes.behind r.comes.id_behind r.comes.id node is peer answered l
          (subst (λ a. Settles acts sent (event.ResetPeer node peer) r.comes.behind a o later r.behind) same r.comes.settles)
      comes_there (event.Clean node) none r =
          let up = up_for_call acts (acts.is_up r.before) (ap (λ w. refusal_of (standing_of acts w) asked.Call []) (sym r.named) ∙ none) in
          let is = its_id acts nodes node r.before r.named in
          let found = ap (node_in acts nodes) is ∙ r.named in
          let (answered, cleaned, same) = r.comes.answers in
          let l = law.cleans r.before r.comes.behind answered up cleaned ids t.told.plain (λ h. t.told.stand.candidates h (acts.id r.before)) tt (stands rules acts states ids downs nodes sent history t r.before found) in
          cleans r.before o r.behind later found r.comes.behind r.comes.id_behind r.comes.id node is answered l
          (subst (λ a. Settles acts sent (event.Clean node) r.comes.behind a o later r.behind) same r.comes.settles)
      comes_there (event.Fuse node first_refused) none r =
          let is = its_id acts nodes node r.before r.named in
          let found = ap (node_in acts nodes) is ∙ r.named in
          let (fused, same) = r.comes.answers in
          let l = law.fuses r.before r.comes.behind first_refused fused ids t.told.plain (λ h. t.told.stand.candidates h (acts.id r.before)) tt (stands rules acts states ids downs nodes sent history t r.before found) in
          fuses r.before o r.behind later found r.comes.behind r.comes.id_behind r.comes.id node is first_refused l
          (subst (λ a. Settles acts sent (event.Fuse node first_refused) r.comes.behind a o later r.behind) same r.comes.settles)
      comes_there (event.Crash node choice) none r =
          let up = up_for_crash acts (acts.is_up r.before) (ap (λ w. refusal_of (standing_of acts w) asked.Crash []) (sym r.named) ∙ none) in
          let is = its_id acts nodes node r.before r.named in
          let found = ap (node_in acts nodes) is ∙ r.named in
          let (crashed, same) = r.comes.answers in
          let l = law.crashes r.before r.comes.behind choice up crashed ids t.told.plain (λ h. t.told.stand.candidates h (acts.id r.before)) tt (stands rules acts states ids downs nodes sent history t r.before found) in
          crashes r.before o r.behind later found r.comes.behind r.comes.id_behind r.comes.id node is choice l
          (subst (λ a. Settles acts sent (event.Crash node choice) r.comes.behind a o later r.behind) same r.comes.settles)
      comes_there (event.Reopen node workers) none r =
          let down = down_for_opening acts (acts.is_up r.before) (ap (λ w. refusal_of (standing_of acts w) asked.Reopen []) (sym r.named) ∙ none) in
          let is = its_id acts nodes node r.before r.named in
          let found = ap (node_in acts nodes) is ∙ r.named in
          let (answered, opened, same) = r.comes.answers in
          let olds : ℕ → List NodeState = λ h. t.told.stand.candidates h (acts.id r.before) in
          let here = stands rules acts states ids downs nodes sent history t r.before found in
          let l = law.reopens r.before r.comes.behind workers answered down opened ids t.told.plain olds tt here in
          reopens r.before o r.behind later found r.comes.behind r.comes.id_behind r.comes.id node is workers answered l
          (λ outcomes x is_ok closed. law.closes r.before r.comes.behind x workers outcomes down (subst (λ a. acts.reopens r.before workers a r.comes.behind) is_ok opened) closed ids t.told.plain olds tt here)
          (subst (λ a. Settles acts sent (event.Reopen node workers) r.comes.behind a o later r.behind) same r.comes.settles)

      turned_away : (e : ClusterEvent) (why : ClusterRefusal) → IsTurnedAway acts nodes sent why o nodes' later → After nodes' later e o
      turned_away e why away =
          turned rules acts states ids downs nodes sent history t e why o nodes' later away.outcome away.nodes away.sends (unwrap_or (node_behind t.told.plain e) 0) (named_by (node_behind t.told.plain e)) (away_is_free history e o why away.outcome)

      pub one_more : (e : ClusterEvent) → Happens acts nodes sent history e o nodes' later → After nodes' later e o
      one_more e happens = go (refusal_in acts nodes sent history e) refl happens
        where
          go : (w : Option ClusterRefusal) → refusal_in acts nodes sent history e ≡ w → HappensBy acts w nodes sent e o nodes' later → After nodes' later e o
          go (Some why) is away = turned_away e why away
          go None is (inl r) = subst (λ ns. After ns later e o) (sym r.nodes) (comes_there e is r)
          go None is (inr spared) = turned_away e spared.away spared.turned

  -- ---- a run

  runs_on : (nodes : List N) (sent : Sent) (history : List Recorded) → IsToldSoFar rules acts states ids downs nodes sent history → (rs : List Recorded) (nodes' : List N) (later : Sent) → RunsTo acts nodes sent history rs nodes' later
      → IsToldSoFar rules acts states ids downs nodes' later (history ++ rs)
  runs_on nodes sent history t [] nodes' later (same, kept) =
      let P : List N → Type 0 = λ ns. IsToldSoFar rules acts states ids downs ns later (history ++ []) in
      let Q : Sent → Type 0 = λ s. IsToldSoFar rules acts states ids downs nodes s (history ++ []) in
      let R : List Recorded → Type 0 = λ h. IsToldSoFar rules acts states ids downs nodes sent h in
      subst P (sym same) (subst Q (sym kept) (subst R (sym (append-nil history)) t))
  runs_on nodes sent history t (r ∷ rs) nodes' later (mid, gone, happens, rest) =
      subst (λ h. IsToldSoFar rules acts states ids downs nodes' later h) (append_assoc history (r ∷ []) rs)
      (runs_on mid gone (history ++ r ∷ []) (one_more nodes sent history t r.outcome mid gone r.event happens).next rs nodes' later rest)

-- where the nodes keep the law, what is reached has the headline
pub headline : {N : Type 0} (rules : MachineRules) (acts : NodeActs N) (states : NodeStates N) (nodes : List N) (sent : Sent) (history : List Recorded) → IsReached acts nodes sent history → KeepsLaw rules acts states → HasHeadline rules acts states nodes sent history
headline rules acts states nodes sent history reached law =
    let first = reached.first in
    let ids = ids_of acts first in
    let begun : IsToldSoFar rules acts states ids (downs_of acts first) first nothing_sent [] =
    record { told = told_first rules acts states law first reached.new; set_ups = agree_first rules acts states law first reached.new } in
    let so_far = runs_on rules acts states law ids (downs_of acts first) first nothing_sent [] begun history nodes sent reached.runs in
    record {
      first = first;
      new = reached.new;
      runs = reached.runs;
      told = so_far.told;
      headline = λ h choice among. kept_is_headline rules ids so_far.told.stand.kept.node_ids h (so_far.told.stand.candidates h) so_far.told.plain (so_far.told.stand.kept.groups h) choice among;
    }
