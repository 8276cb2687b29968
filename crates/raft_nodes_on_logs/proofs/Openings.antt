-- A node on files is opened with what its files hold, and goes down with what it shows.
use Rattle.std.specs.Prelude.{◌≡◌, ◌⊎◌, ℕ, Bool, true, false, List, [], ◌∷◌, ◌==◌, map, Option, Some, None, Result, Ok, Err, Contains, refl}
use Rattle.std.specs.List.{AllByRecursion, AllZip}
use Rattle.std.proofs.Common.{inl, inr, sym, ap, ◌∙◌, subst, ⊎_elim, arith}
use Rattle.raft_cluster_events.specs.declared.event.CrashChoice.{CrashChoice}
use Rattle.raft_cluster_events.specs.declared.node.NodeOutcome.{NodeOutcome}
use Rattle.raft_cluster_events.specs.declared.outcome.Stop.{Stop}
use Rattle.raft_cluster_events.specs.declared.outcome.StopCause.{StopCause}
use Rattle.raft_cluster_laws.specs.Acts.{EventLeads}
use Rattle.raft_cluster_laws.specs.Keeping.{StandsInWorld}
use Rattle.raft_framed_groups.specs.declared.frames.GroupFrame.{GroupFrame}
use Rattle.raft_group_step.specs.Message.{Message}
use Rattle.raft_group_step.specs.StoredGroup.{StoredGroup}
use Rattle.raft_headline.specs.ClusterEvent.{ClusterEvent, ClusterOutcome, Crash, Done, Fuse, Opened, Recorded, Reopen, Said, Stopped, Unknown, silent}
use Rattle.raft_headline.specs.Machines.{KeepsItsLaw}
use Rattle.raft_headline.specs.Naming.{names_in}
use Rattle.raft_laws.specs.GroupWorld.{Down, NodeState, Up}
use Rattle.raft_laws.proofs.BallotSafe.{Among}
use Rattle.raft_laws.proofs.Counts.{among_contains}
use Rattle.raft_log_memtables.specs.Content.{Content, GroupContent}
use Rattle.raft_machines.specs.Machine.{MachineRules}
use Rattle.raft_node.specs.Opening.{HasOpened, StopsNaming, groups_of}
use Rattle.raft_node.specs.Standing.{NodeValue}
use Rattle.raft_node.specs.declared.outcome.Outcome.{Outcome}
use Rattle.raft_node_faults.specs.declared.fault.Fault.{Fault}
use Rattle.raft_node_faults.specs.declared.fault.Fault.TheVariants as fault
use Rattle.raft_node_joint.specs.Leading.{LeadsIn, recorded}
use Rattle.raft_node_joint.specs.Reopening.{IsOnceEach as OnceEach}
use Rattle.raft_node_joint.specs.Reopening.{IsPart, LeadsDown, NamesNobody, StandsDown}
use Rattle.raft_node_joint.proofs.OnceEach.{once_each}
use Rattle.raft_node_joint.specs.Saying.{IsFrameOf}
use Rattle.raft_node_joint.proofs.OpeningsLeadOn.{closed_openings_lead, left_openings_lead, openings_lead, stops_name_nobody}
use Rattle.raft_node_joint.proofs.Reopened.{absent_groups_store_nothing, down_nodes_are_reopened}
use Rattle.raft_node_joint.proofs.LeadingDown.{crashes_lead, down_fuses_lead, refused_openings_lead}
use Rattle.raft_node_laws.specs.Law.{Leads, StandsBehind}
use Rattle.raft_node_laws.specs.Saying.{IsOnceEach, names_of}
use Rattle.raft_node_laws.specs.Saying as law
use Rattle.raft_store.specs.Reading.{Holds, HoldsOne, StandsFor}
use Rattle.raft_store.specs.declared.fault.StoreFault.{StoreFault}
use Rattle.raft_nodes_on_logs.specs.Acts.{AreHandedBack, AreHeld, CrashesTo, FusesDown, IsClosedAgain, IsLeftOpening, IsOpened, IsUnopened, OpensTo, StaysDown, log_node_acts, log_node_states}
use Rattle.raft_nodes_on_logs.specs.Answering.{node_frame, node_outcome, stop_in}
use Rattle.raft_nodes_on_logs.specs.Kept.{AreShownDown, fails}
use Rattle.raft_nodes_on_logs.specs.Kinds.{NodeKind}
use Rattle.raft_node_logs.specs.Opening.{IsRefusedOpening}
use Rattle.raft_nodes_on_logs.specs.Standing.{MayBeDown, MayBeIn, NodeOf, UpNode, value}
use Rattle.raft_nodes_on_logs.proofs.Led.{led}
use Rattle.raft_nodes_on_logs.proofs.Standing.{is_up_in, stands_before}
use Rattle.raft_nodes_on_logs.proofs.Taken.{Behind, frames_say_so, is_stop, spells_of}

-- ---- which part is held

pub record IsPicked (rules : MachineRules) (content : GroupContent (List ℕ)) (parts : List StoredGroup) : Type 0 where
  pub part : StoredGroup
  pub holds : Holds rules content part
  pub among : Among (Down part) (map Down parts)

pub picked : (rules : MachineRules) (content : GroupContent (List ℕ)) (parts : List StoredGroup) → HoldsOne rules content parts → IsPicked rules content parts
picked rules content [] none = absurd none
picked rules content (s ∷ ss) (inl h) = record { part = s; holds = h; among = inl refl }
picked rules content (s ∷ ss) (inr more) = let p = picked rules content ss more in record { part = p.part; holds = p.holds; among = inr p.among }

-- ---- what an opening answers

-- who is named where nobody waits
nobody_named : {F : Type 0} (log_cause : F → StopCause) (why : Fault (StoreFault F)) → StopsNaming (λ group. None) why → NamesNobody (names_of (stop_in log_cause why))
nobody_named {F = F} log_cause (fault.Stopped why unknown) named = stops_name_nobody {F = StoreFault F} (fault.Stopped why unknown) named
nobody_named log_cause other named = absurd named

others_differ : (x : ℕ) (os : List Outcome) → AllByRecursion (λ (y : Outcome). (x == y.group) ≡ false) os → AllByRecursion (λ (y : NodeOutcome). (x == y.group) ≡ false) (map node_outcome os)
others_differ x [] apart = tt
others_differ x (o ∷ os) apart = (apart.0, others_differ x os apart.1)

-- no group has two outcomes
each_once : (outcomes : List Outcome) → OnceEach outcomes → IsOnceEach (map node_outcome outcomes)
each_once [] once = tt
each_once (o ∷ os) once = (others_differ o.group os once.0, each_once os once.1)

parts_say : (rules : MachineRules) (own : ℕ) (outcomes : List Outcome) (parts : List (ℕ × Said)) → AllZip (IsPart (StandsFor rules) own) outcomes parts
    → AllZip (law.IsPart (spells_of rules) own) (map node_outcome outcomes) parts
parts_say rules own [] [] say = tt
parts_say rules own [] (p ∷ ps) say = absurd say
parts_say rules own (o ∷ os) [] say = absurd say
parts_say rules own (o ∷ os) (p ∷ ps) say = (
  record {
    group = say.0.group;
    says = record {
      sent = frames_say_so rules own o.group o.frames.items p.1.sent say.0.says.sent say.0.sender;
      told = say.0.says.told;
      unknown = say.0.says.unknown;
    };
  },
  parts_say rules own os ps say.1,
)

module _ (k : NodeKind) (begins : KeepsItsLaw k.rules k.rules.first) (restores : (m : k.Machine) → KeepsItsLaw k.rules (k.state m)) where
  abbrev of : UpNode k → NodeValue
  of n = value k n

  abbrev Led : List Recorded → ClusterEvent → (ℕ → List NodeState) → NodeOf k → NodeOf k → (ClusterOutcome → Type 0) → Type 0
  Led history happened olds old new Says = Leads k.rules (log_node_acts k) (log_node_states k) history happened olds old new Says

  -- ---- a node that goes down

  -- what leads each group down leads the node on, where its files show what was shown
  down_led : (old new : NodeOf k) (own : ℕ) (shows : ℕ → List StoredGroup → Type 0) (history : List Recorded) (happened : ℕ → ClusterEvent) (o : ClusterOutcome) (olds : ℕ → List NodeState)
      (Says : ClusterOutcome → Type 0) → own ≡ old.id → StaysDown k old new
      → ((group : ℕ) (parts : List StoredGroup) → shows group parts → AreShownDown k new.files group parts)
      → Says o → ((h : ℕ) → LeadsDown k.rules shows own h (happened own) o history (olds h)) → Led history (happened old.id) olds old new Says
  down_led old new own shows history happened o olds Says is stays shown says leads = record {
    outcome = o;
    says = says;
    told = happened old.id;
    as_itself = inl refl;
    news = λ h. Down (leads h).one ∷ map Down (leads h).more;
    may_be = λ h. subst (λ up. MayBeIn k new.id up new.files h (Down (leads h).one ∷ map Down (leads h).more)) (sym stays.down) (record {
      one = (leads h).one;
      more = (leads h).more;
      parts = refl;
      shown = shown h ((leads h).one ∷ (leads h).more) (leads h).shown;
    });
    leads = λ h. subst (λ i. EventLeads k.rules h i (recorded i (happened i) o) history (olds h) (Down (leads h).one ∷ map Down (leads h).more)) is (leads h).leads;
  }

  pub crash_led : (old new : NodeOf k) (n : UpNode k) (choice : CrashChoice) → old.up ≡ Some n → CrashesTo k n choice old new
      → (ids : List ℕ) (history : List Recorded) (olds : ℕ → List NodeState) → Behind k ids history old olds → Led history (Crash old.id) olds old new (λ o. o ≡ Done silent)
  crash_led old new n choice up down ids history olds behind =
      let at = λ (h : ℕ). is_up_in k begins restores old n up h (olds h) (behind.may_be h) in
      down_led old new (of n).groups.own (of n).groups.shows history (λ i. Crash i) (Done silent) olds (λ o. o ≡ Done silent) (at 0).own down.stays down.shown refl
      (λ h. crashes_lead k.rules (of n) history h (olds h) (at h).may_be)

  -- ---- an opening

  module _ (old : NodeOf k) (is_down : old.up ≡ None) (ids : List ℕ) (history : List Recorded) (olds : ℕ → List NodeState) (behind : Behind k ids history old olds) where
    abbrev down_at : (h : ℕ) → MayBeDown k old.files h (olds h)
    down_at h = subst (λ up. MayBeIn k old.id up old.files h (olds h)) is_down (behind.may_be h)

    module _ (content : Content (List ℕ)) (found : k.found old.files content) where
      abbrev pick : (h : ℕ) → IsPicked k.rules (content h) ((down_at h).one ∷ (down_at h).more)
      pick h = picked k.rules (content h) ((down_at h).one ∷ (down_at h).more) ((down_at h).shown content found)

      abbrev pub kept : ℕ → StoredGroup
      kept h = (pick h).part

      among : (h : ℕ) → Contains (olds h) (Down (kept h))
      among h = subst (λ xs. Contains xs (Down (kept h))) (sym (down_at h).parts) (among_contains (map Down ((down_at h).one ∷ (down_at h).more)) (Down (kept h)) (pick h).among)

      pub in_world : (h : ℕ) → StandsInWorld k.rules ids h history old.id (Down (kept h))
      in_world h = behind.stands h (Down (kept h)) (among h)

      pub held : AreHeld k.rules old.id content kept
      held = record {
        held = λ h. (pick h).holds;
        reached = λ h there. down_nodes_are_reopened k.rules ids h history old.id (kept h) (in_world h);
      }

      stands : StandsDown k.rules ids old.id history olds kept
      stands = record { among = among; in_world = in_world }

    pub opened_led : (new : NodeOf k) (outcomes : List NodeOutcome) → OpensTo k old outcomes new
        → Led history (Reopen old.id) olds old new (law.SaysOpening (spells_of k.rules) old.id (Ok outcomes))
    opened_led new outcomes o =
        let n = of o.n in
        let own = o.opened.own in
        let down = subst (λ i. StandsDown k.rules ids i history olds (kept o.opened.content o.opened.found)) (sym own) (stands o.opened.content o.opened.found) in
        let all = o.opened.opened (kept o.opened.content o.opened.found) (held o.opened.content o.opened.found) in
        let on = openings_lead k.rules (StandsFor k.rules) n o.did ids history olds (kept o.opened.content o.opened.found) down o.opened.going all in
        led k old new o.n n history (λ i. Reopen i) false (Opened on.parts) olds (law.SaysOpening (spells_of k.rules) old.id (Ok outcomes))
        own o.up refl (λ going peer. o.opened.streams peer) (λ no. absurd (let never : false ≡ true = no in cc))
        (subst (λ os. law.SaysOpening (spells_of k.rules) old.id (Ok os) (Opened on.parts)) (sym o.answer)
        (each_once o.did (once_each o.did all.there.rising), on.parts, parts_say k.rules old.id o.did on.parts (subst (λ i. AllZip (IsPart (StandsFor k.rules) i) o.did on.parts) own on.says), refl))
        on.leads

    -- the node was opened and goes down again
    pub closed_led : (new : NodeOf k) (n : UpNode k) (did : List Outcome) (names : List Unknown) → IsOpened k old.files old.id n did → StaysDown k old new
        → AreHandedBack k n new.files → NamesNobody names → Led history (Reopen old.id) olds old new (λ o. o ≡ Stopped names)
    closed_led new n did names opened stays shown nobody =
        let down = subst (λ i. StandsDown k.rules ids i history olds (kept opened.content opened.found)) (sym opened.own) (stands opened.content opened.found) in
        let all = opened.opened (kept opened.content opened.found) (held opened.content opened.found) in
        let on = closed_openings_lead k.rules (StandsFor k.rules) (of n) did ids history olds (kept opened.content opened.found) names down all nobody in
        down_led old new (of n).groups.own (of n).groups.shows history (λ i. Reopen i) (Stopped names) olds (λ o. o ≡ Stopped names) opened.own stays shown refl (λ h. (on h).0)

    -- nothing was begun
    refused_led : (new : NodeOf k) (stop : Stop) → StaysDown k old new → IsRefusedOpening k.found k.unopened old.files stop new.files → Led history (Reopen old.id) olds old new (λ o. o ≡ Stopped (names_of stop))
    refused_led new stop stays refused =
        down_led old new old.id (AreShownDown k old.files) history (λ i. Reopen i) (Stopped (names_of stop)) olds (λ o. o ≡ Stopped (names_of stop)) refl stays
        (λ group parts shown content found. shown content (refused.found content found)) refl
        (λ h. record {
          one = (down_at h).one;
          more = (down_at h).more;
          shown = (down_at h).shown;
          leads = subst (λ xs. EventLeads k.rules h old.id (recorded old.id (Reopen old.id) (Stopped (names_of stop))) history xs (Down (down_at h).one ∷ map Down (down_at h).more)) (sym (down_at h).parts)
              (refused_openings_lead k.rules h old.id history (names_of stop) (down_at h).one (down_at h).more refused.named);
        })

    -- its files get a fuse
    pub fused_led : (new : NodeOf k) (first : Option ℕ) → FusesDown k first old new → Led history (Fuse old.id) olds old new (λ o. o ≡ Done silent)
    fused_led new first f =
        down_led old new old.id (AreShownDown k old.files) history (λ i. Fuse i) (Done silent) olds (λ o. o ≡ Done silent) refl f.stays
        (λ group parts shown content found. shown content ((f.files content).0 found)) refl
        (λ h. record {
          one = (down_at h).one;
          more = (down_at h).more;
          shown = (down_at h).shown;
          leads = subst (λ xs. EventLeads k.rules h old.id (recorded old.id (Fuse old.id) (Done silent)) history xs (Down (down_at h).one ∷ map Down (down_at h).more)) (sym (down_at h).parts)
              (down_fuses_lead k.rules h old.id history (down_at h).one (down_at h).more);
        })

    left_led : (new : NodeOf k) (stop : Stop) → StaysDown k old new → IsLeftOpening k old.files old.id stop new.files → Led history (Reopen old.id) olds old new (λ o. o ≡ Stopped (names_of stop))
    left_led new stop stays l =
        let parts_of = kept l.content l.found in
        let not_opened = l.left parts_of (held l.content l.found) in
        let nobody = nobody_named k.cause l.why not_opened.stops in
        down_led old new old.id (AreShownDown k new.files) history (λ i. Reopen i) (Stopped (names_of stop)) olds (λ o. o ≡ Stopped (names_of stop)) refl stays
        (λ group parts shown. shown) refl
        (left_openings_lead k.rules old.id (AreShownDown k new.files) (fails k l.behind) l.why ids history olds parts_of (names_of stop) (stands l.content l.found) not_opened
        (subst (λ s. NamesNobody (names_of s)) (sym l.named) nobody))

    pub unopened_led : (new : NodeOf k) (stop : Stop) → StaysDown k old new → IsUnopened k old.files old.id stop new.files
        → Led history (Reopen old.id) olds old new (λ o. o ≡ Stopped (names_of stop))
    unopened_led new stop stays (inl refused) = refused_led new stop stays refused
    unopened_led new stop stays (inr (inl left)) = left_led new stop stays left
    unopened_led new stop stays (inr (inr c)) = closed_led new c.n c.did (names_of stop) c.opened stays c.shown c.named
