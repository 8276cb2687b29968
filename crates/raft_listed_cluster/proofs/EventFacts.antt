-- One event more: what is kept of each group goes on with what was heard of it.
use Rattle.std.proofs.Common.{◌≡◌, ℕ, cond, List, [], ◌∷◌, ◌++◌, Option, Some, None, drop, length, refl, sym, ap, ◌∙◌, subst}
use Rattle.std.proofs.lemmas.Bool.{eq-eqb}
use Rattle.std.specs.List.{AllZip}
use Rattle.raft_values.specs.declared.vote.Vote.{Vote}
use Rattle.raft_group_step.specs.Message.{Message}
use Rattle.raft_group_step.specs.Values.{Membership}
use Rattle.raft_laws.specs.BallotLists.{AgreeBelow, with_value}
use Rattle.raft_laws.specs.GroupWorld.{NodeState}
use Rattle.raft_laws.specs.OneList.{AreNodeIds}
use Rattle.raft_machines.specs.Machine.{MachineRules}
use Rattle.raft_headline.specs.ClusterEvent.{ClusterEvent as PlainEvent, ClusterOutcome as PlainOutcome, Recorded as PlainRecord}
use Rattle.raft_headline.specs.ClusterEvent.{Done, Said, TurnedAway, is_stopped}
use Rattle.raft_headline.specs.Told.{said_by, said_if}
use Rattle.raft_cluster_laws.specs.Along.{sent_by}
use Rattle.raft_cluster_laws.specs.Kept.{Candidates}
use Rattle.raft_sent_frames.specs.Frames.{first_accepted}
use Rattle.raft_list_facts.specs.declared.acceptance.Acceptance.{Acceptance}
use Rattle.raft_list_facts.specs.declared.leading.Leading.{Leading}
use Rattle.raft_list_steps.specs.Reports.{accepted_by}
use Rattle.raft_cluster_events.specs.declared.event.ClusterEvent.{ClusterEvent}
use Rattle.raft_cluster_events.specs.declared.event.ClusterEvent.TheVariants as event
use Rattle.raft_cluster_events.specs.declared.outcome.EventOutcome.{EventOutcome}
use Rattle.raft_cluster_events.specs.declared.outcome.EventOutcome.TheVariants as outcome
use Rattle.raft_cluster_events.specs.declared.outcome.NodeRefusal.{NodeRefusal}
use Rattle.raft_cluster_events.specs.declared.outcome.Recorded.{Recorded}
use Rattle.raft_cluster_events.specs.Node.{NodeActs}
use Rattle.raft_cluster_events.specs.States.{NodeStates}
use Rattle.raft_node_laws.specs.Law.{KeepsLaw}
use Rattle.raft_node_laws.specs.Reporting.{IsSentAs, OutcomeAs, plain_event}
use Rattle.raft_cluster_lists.specs.declared.brought.Brought.{Brought}
use Rattle.raft_cluster_lists.specs.declared.kept.KeptGroup.{KeptGroup}
use Rattle.raft_cluster_lists.specs.Brought.{Brings}
use Rattle.raft_cluster_lists.specs.GoingOn.{IsCallOf, IsOfOthers, IsOpeningOf, IsOtherThan, IsTaken, LeadsIn, first_in}
use Rattle.raft_cluster_lists.specs.Groups.{GoesOnByCall, GoesOnByOpening}
use Rattle.raft_cluster_lists.specs.Hearing.{IsOpening, group_of}
use Rattle.raft_cluster_lists.specs.Keeping.{GoesOn, GroupNotes, KeepsList, list_in}
use Rattle.raft_cluster_lists.proofs.EventsOn.{away_goes_on, events_go_on}
use Rattle.raft_cluster_lists.proofs.ListsKept.{events_keep_lists, lists_grow}
use Rattle.raft_cluster.specs.Facts.{Sent, node_in}
use Rattle.raft_cluster.proofs.JoinLemmas.{IsOneMore, IsToldSoFar, itself}
use Rattle.raft_cluster.proofs.PlainLemmas.{first_set_up, sent_more}
use Rattle.raft_listed_cluster.specs.Keeping.{noted_with, notes_of}
use Rattle.raft_listed_cluster.proofs.FrameFacts.{news_accept}
use Rattle.raft_listed_cluster.proofs.HappeningFacts.{IsAway, IsNodeOf}
use Rattle.raft_listed_cluster.proofs.LatestFacts.{latest_in, latest_stays}
use Rattle.raft_listed_cluster.proofs.SetUpFacts.{asked_still, asked_then, same_asked}

-- what an event of the group says, where it was done
says_of : (h : ℕ) (e : ClusterEvent) (said : Said) → group_of e ≡ Some h → said_by h (plain_event e) (Done said) ≡ said
says_of h (event.AddGroup n g) said is = let same : g ≡ h = cc in ap (λ b. said_if b (Done said)) (eq-eqb g h same)
says_of h (event.Ask n g call now) said is = let same : g ≡ h = cc in ap (λ b. said_if b (Done said)) (eq-eqb g h same)
says_of h (event.Deliver g number cuts now) said is = let same : g ≡ h = cc in ap (λ b. said_if b (Done said)) (eq-eqb g h same)
says_of h (event.ResetPeer n peer) said is = absurd (cc)
says_of h (event.Clean n) said is = absurd (cc)
says_of h (event.Fuse n first_refused) said is = absurd (cc)
says_of h (event.Crash n choice) said is = absurd (cc)
says_of h (event.Reopen n workers) said is = absurd (cc)

module _ {N : Type 0} (rules : MachineRules) (acts : NodeActs N) (states : NodeStates N) (law : KeepsLaw rules acts states) (ids downs : List ℕ) where
  module _ (nodes : List N) (sent : Sent) (history : List Recorded) (t : IsToldSoFar rules acts states ids downs nodes sent history)
      (e : ClusterEvent) (o : EventOutcome) (nodes' : List N) (later : Sent)
      (more : IsOneMore rules acts states ids downs nodes sent history t (record { event = e; outcome = o }) nodes' later) where
    abbrev plain : List PlainRecord
    plain = t.told.plain

    abbrev real : Recorded
    real = record { event = e; outcome = o }

    abbrev node : ℕ
    node = more.one.node

    abbrev olds : ℕ → List NodeState
    olds h = t.told.stand.candidates h node

    fit : AreNodeIds ids
    fit = t.told.stand.kept.node_ids

    -- ---- from the one history to the other

    abbrev pub KeptBefore : ℕ → Option GroupNotes → Type 0
    KeptBefore h kept = KeepsList rules ids h (t.told.stand.candidates h) plain kept

    abbrev pub KeptBehind : ℕ → Option GroupNotes → Type 0
    KeptBehind h kept = KeepsList rules ids h (more.next.told.stand.candidates h) more.next.told.plain kept

    abbrev GoesThere : ℕ → Option GroupNotes → Option GroupNotes → Type 0
    GoesThere h kept next = GoesOn rules ids h plain more.one node (olds h) (more.news h) kept next

    -- what is kept of a group behind the event, that its list grew, and that what is noted of other leaders stays
    pub record IsKeptOn (h : ℕ) (kept next : Option GroupNotes) : Type 0 where
      pub keeps : KeptBehind h next
      pub grows : AgreeBelow (length (list_in kept)) (list_in kept) (list_in next)
      pub latest : (vote : Vote ℕ) → (vote.leader_id.node_id ≡ node → ⊥) → latest_in next vote ≡ latest_in kept vote

    kept_on : (h : ℕ) (kept next : Option GroupNotes) → KeptBefore h kept → GoesThere h kept next → IsKeptOn h kept next
    kept_on h kept next keeps goes =
        let P : Candidates → Type 0 = λ c. KeepsList rules ids h c more.next.told.plain next in
        let Q : List PlainRecord → Type 0 = λ p. KeepsList rules ids h (with_value (t.told.stand.candidates h) node (more.news h)) p next in
        record {
          keeps =
              subst P (sym (more.candidates h))
              (subst Q (sym more.plain) (events_keep_lists rules ids fit h (t.told.stand.candidates h) plain kept next keeps more.one node (more.news h) (more.leads h) goes));
          grows = lists_grow rules ids fit h (t.told.stand.candidates h) plain kept next keeps more.one node (more.news h) (more.leads h) goes;
          latest = latest_stays rules ids fit h (t.told.stand.candidates h) plain kept next keeps more.one node (more.news h) (more.leads h) goes;
        }

    -- ---- who leads

    led_before : (h : ℕ) (leading : Option Leading) (before : N) → node_in acts nodes node ≡ Some before → acts.leads before h leading → LeadsIn (olds h) leading
    led_before h leading before there tells s has = law.leads before h leading (olds h) s (t.told.stand.may_be node before there h) has tells

    leads_behind : (h : ℕ) (leading : Option Leading) (behind : N) → node_in acts nodes' node ≡ Some behind → acts.leads behind h leading → LeadsIn (more.news h) leading
    leads_behind h leading behind there tells s has =
        let own : with_value (t.told.stand.candidates h) node (more.news h) node ≡ more.news h = ap (λ b. cond b (more.news h) (olds h)) (eq-eqb node node refl) in
        let same : more.next.told.stand.candidates h node ≡ more.news h = ap (λ (c : Candidates). c node) (more.candidates h) ∙ own in
        law.leads behind h leading (more.news h) s (subst (states.may_be behind h) same (more.next.told.stand.may_be node behind there h)) has tells

    -- ---- a call or message of the group

    abbrev asked_before : ℕ → Option Membership
    asked_before h = first_set_up h history

    abbrev asked_behind : ℕ → Option Membership
    asked_behind h = first_set_up h (history ++ real ∷ [])

    module _ (h : ℕ) (of_group : group_of e ≡ Some h) where
      -- the group's new frames accept what the event's messages do
      accepts : (said : Said) → more.one.outcome ≡ Done said → first_in (accepted_by said.sent) ≡ first_accepted (drop (length (sent h)) (later h))
      accepts said is =
          let told : more.one.event ≡ plain_event e = itself (plain_event e) node more.one.outcome more.one.event more.recorded.event (ap is_stopped is) in
          let says : said_by h more.one.event more.one.outcome ≡ said =
          ap (λ (p : PlainEvent). said_by h p more.one.outcome) told ∙ ap (λ (p : PlainOutcome). said_by h (plain_event e) p) is ∙ says_of h e said of_group in
          let same : sent_by h more.next.told.plain ≡ sent_by h plain ++ said.sent =
          ap (sent_by h) more.plain ∙ sent_more h plain more.one ∙ ap (λ (s : Said). sent_by h plain ++ s.sent) says in
          let Z : List Message → Type 0 = λ ms. AllZip (IsSentAs states.spells h) (later h) ms in
          news_accept states.spells h (sent h) (later h) (sent_by h plain) said.sent (t.told.stand.frames h) (subst Z same (more.next.told.stand.frames h))

      pub call_on : (k next : KeptGroup) (there : IsNodeOf acts nodes sent e o nodes' later node) (leading : Option Leading) → acts.leads there.before h leading
          → (brought : Brought) → Brings k.list.notes leading e brought → (accepted : Option Acceptance) → accepted ≡ first_accepted (drop (length (sent h)) (later h))
          → GoesOnByCall node (acts.leads there.behind) h o accepted brought k next
          → KeptBefore h (notes_of (Some k) (asked_before h)) → IsKeptOn h (notes_of (Some k) (asked_before h)) (notes_of (Some next) (asked_behind h))
      call_on k next there leading tells brought brings accepted is goes keeps =
          let was : GroupNotes = noted_with k (asked_before h) in
          let then : GroupNotes = noted_with next (asked_behind h) in
          let call : IsCallOf plain h e o more.one (olds h) (more.news h) was then = record {
            of_group = of_group;
            recorded = more.recorded;
            before = leading;
            led_before = led_before h leading there.before there.there tells;
            behind = goes.leading;
            leads_behind = leads_behind h goes.leading there.behind there.there_then goes.leads_behind;
            brought = brought;
            brings = brings;
            accepted = accepted;
            accepts = λ said done. accepts said done ∙ sym is;
            set_up = goes.heard.set_up;
            first = goes.heard.first;
            list = goes.heard.list;
            stopped = goes.heard.stopped;
            free = λ taken m asks. same_asked h history real more.free of_group taken m asks;
            asked = asked_still h history real;
            asks = λ stop stopped m asks. asked_then h history real more.free of_group (subst IsTaken (sym stopped) tt) m asks;
          } in
          kept_on h (Some was) (Some then) keeps ((events_go_on rules ids fit h plain e o more.one (olds h) (more.news h)).0 was then call)

    -- ---- other events

    module _ (h : ℕ) where
      pub opening_on : (opening : IsOpening e) → ((why : NodeRefusal) → o ≡ outcome.Refused why → ⊥)
          → (k next : KeptGroup) (there : IsNodeOf acts nodes sent e o nodes' later node) → GoesOnByOpening node (acts.leads there.behind) h o k next
          → KeptBefore h (notes_of (Some k) (asked_before h)) → IsKeptOn h (notes_of (Some k) (asked_before h)) (notes_of (Some next) (asked_behind h))
      opening_on opening taken k next there goes keeps =
          let was : GroupNotes = noted_with k (asked_before h) in
          let then : GroupNotes = noted_with next (asked_behind h) in
          let opened : IsOpeningOf plain h e o more.one (olds h) (more.news h) was then = record {
            opening = opening;
            recorded = more.recorded;
            taken = taken;
            behind = goes.leading;
            leads_behind = leads_behind h goes.leading there.behind there.there_then goes.leads_behind;
            list = goes.heard.list;
            others = goes.heard.others;
            own = goes.heard.own;
            asked = asked_still h history real;
          } in
          kept_on h (Some was) (Some then) keeps ((events_go_on rules ids fit h plain e o more.one (olds h) (more.news h)).1 was then opened)

      pub other_on : (group_of e ≡ Some h → ⊥) → (IsOpening e → ⊥) → (k : KeptGroup)
          → KeptBefore h (notes_of (Some k) (asked_before h)) → IsKeptOn h (notes_of (Some k) (asked_before h)) (notes_of (Some k) (asked_behind h))
      other_on of_other shut k keeps =
          let was : GroupNotes = noted_with k (asked_before h) in
          let then : GroupNotes = noted_with k (asked_behind h) in
          let other : IsOtherThan plain h e o more.one (olds h) (more.news h) was then = record {
            of_other = of_other;
            no_opening = shut;
            recorded = more.recorded;
            list = record { accounts = refl; noted = refl };
            stopped = λ n. refl;
            asked = asked_still h history real;
          } in
          kept_on h (Some was) (Some then) keeps ((events_go_on rules ids fit h plain e o more.one (olds h) (more.news h)).2 was then other)

      -- nothing is kept of the group
      pub none_on : (group_of e ≡ Some h → ⊥) → ((why : NodeRefusal) → o ≡ outcome.Refused why → IsOpening e → ⊥) → KeptBefore h None → IsKeptOn h None None
      none_on of_other taken keeps =
          let others : IsOfOthers plain h e o more.one (olds h) (more.news h) = record { of_other = of_other; recorded = more.recorded; taken = taken } in
          kept_on h None None keeps ((events_go_on rules ids fit h plain e o more.one (olds h) (more.news h)).3 others)

      -- what was turned away
      pub away_on : IsAway acts nodes sent e o nodes' later → (kept : Option GroupNotes) → KeptBefore h kept → IsKeptOn h kept kept
      away_on away kept keeps =
          let none : more.one.outcome ≡ TurnedAway = subst (λ q. OutcomeAs plain e q more.one.outcome) away.1 more.recorded.outcome in
          kept_on h kept kept keeps (away_goes_on rules ids fit h plain more.one (olds h) (more.news h) none kept)
