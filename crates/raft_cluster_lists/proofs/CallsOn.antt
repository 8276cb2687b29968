-- What is kept of a group goes on with a call or a message of it.
use Rattle.std.specs.Prelude.{◌≡◌, ◌⊎◌, ℕ, if◌then◌else◌, false, List, [], Option, Some, None, MatchOption, Contains, refl}
use Rattle.std.proofs.Common.{inl, inr, sym, ap, ◌∙◌, subst, ⊎_elim, eq-eqb}
use Rattle.std.proofs.lemmas.Bool.{ne_eqb}
use Rattle.std.specs.Option.{option_or}
use Rattle.raft_group_step.specs.GroupEvent.{GroupCall}
use Rattle.raft_group_step.specs.Message.{Message}
use Rattle.raft_group_step.specs.GroupState.{Untold}
use Rattle.raft_group_step.specs.StepResult.{BreaksCondition, CommandTooLong, GroupExists, InProgress, MembershipRefused, NotAllowed}
use Rattle.raft_group_step.specs.StepResult.{NotLeader, NotVoter, NumberAtEnd, RefusalReason, UnknownGroup, VoterChange, WrongParty}
use Rattle.raft_group_step.specs.Values.{EntryPayload, Membership}
use Rattle.raft_laws.specs.declared.world_event.WorldEvent.{WorldEvent}
use Rattle.raft_laws.specs.declared.world_event.WorldEvent.TheVariants as world
use Rattle.raft_laws.specs.GroupRun.{outcome_of, scene_of, sent_in, setup_after, setup_in}
use Rattle.raft_laws.specs.GroupWorld.{NodeState, Outcome, Recorded as GroupRecorded}
use Rattle.raft_laws.specs.GroupWorld.{Done as Ended, Refused as Declined, Stopped as Broken, Skipped}
use Rattle.raft_laws.specs.OneList.{AreNodeIds}
use Rattle.raft_machines.specs.Machine.{MachineRules}
use Rattle.raft_headline.specs.ClusterEvent.{ClusterOutcome, Done, PassedOver, Recorded, Refused, Said, Stopped, Unknown, is_stopped, is_turned_away}
use Rattle.raft_headline.specs.Machines.{Replicas}
use Rattle.raft_headline.specs.Replaying.{OwnStep, Says, StepsTo}
use Rattle.raft_headline.specs.Seen.{Seen}
use Rattle.raft_list_facts.specs.Leads.{leading_in}
use Rattle.raft_list_facts.specs.declared.acceptance.Acceptance.{Acceptance}
use Rattle.raft_list_facts.specs.declared.leading.Leading.{Leading}
use Rattle.raft_group_lists.specs.Notes.{Notes}
use Rattle.raft_list_steps.specs.Reports.{AcceptsOnce, Hears, HearsAhead, accepted_by, listed}
use Rattle.raft_list_steps.specs.declared.report.GroupReport.{GroupReport}
use Rattle.raft_list_steps.specs.declared.report.SetUp.{SetUp}
use Rattle.raft_list_steps.proofs.OnceLemmas.{events_accept_once}
use Rattle.raft_list_reports.specs.Calls.{IsFirstSetUp, IsWrittenBy}
use Rattle.raft_list_reports.specs.Told.{HappensAt, IsTold, StopsGoOn, leading_after}
use Rattle.raft_cluster_events.specs.declared.event.ClusterEvent.{ClusterEvent}
use Rattle.raft_cluster_events.specs.declared.event.ClusterEvent.TheVariants as event
use Rattle.raft_cluster_events.specs.declared.outcome.EventOutcome.{EventOutcome}
use Rattle.raft_cluster_events.specs.declared.outcome.EventOutcome.TheVariants as outcome
use Rattle.raft_cluster_events.specs.declared.outcome.GroupOutcome.{GroupOutcome}
use Rattle.raft_cluster_events.specs.declared.outcome.NodeRefusal.{NodeRefusal}
use Rattle.raft_cluster_events.specs.declared.outcome.NodeRefusal.TheVariants as refusal
use Rattle.raft_cluster_events.specs.declared.outcome.Stop.{Stop}
use Rattle.raft_node_laws.specs.Reporting.{plain_event}
use Rattle.raft_node_laws.specs.Saying.{outcome_of_refusal}
use Rattle.raft_cluster_lists.specs.declared.brought.Brought.{Brought}
use Rattle.raft_cluster_lists.specs.Brought.{Brings, IsAskedBy}
use Rattle.raft_cluster_lists.specs.GoingOn.{IsCallOf, IsTaken, asked_in, first_in}
use Rattle.raft_cluster_lists.specs.Hearing.{HearsOf, IsFirst, report_of, stopped_behind, unless_failed}
use Rattle.raft_cluster_lists.specs.Keeping.{AreNotesOf, GroupNotes, IsEventThere}
use Rattle.raft_cluster_lists.proofs.PlainEvents.{at_node, no_opening, no_restart, own_call, same_asked, says_broken, says_declined, says_ended, says_skipped, world_event}
use Rattle.raft_cluster_lists.proofs.Worlds.{told_on}

-- ---- what a call asks for

asked_first : (s : Notes) (call : GroupCall) (asked said : Option SetUp) → IsAskedBy call asked → IsFirst s asked said → IsFirstSetUp s (asked_in (event.Ask 0 0 call 0)) said
asked_first s call asked None by (inl none) = inl (subst (IsAskedBy call) none by)
asked_first s call asked None by (inr noted) = inr noted
asked_first s call asked (Some x) by (is, first) = let one = subst (IsAskedBy call) is by in (one.asked, one.voters, first)

nothing_first : (s : Notes) (asked said : Option SetUp) → asked ≡ None → IsFirst s asked said → IsFirstSetUp s None said
nothing_first s asked None none first = inl refl
nothing_first s asked (Some x) none (is, first) = absurd (let no : None ≡ Some x = sym none ∙ is in cc)

pub first_asked : (s : Notes) (before : Option Leading) (e : ClusterEvent) (brought : Brought) (said : Option SetUp) → Brings s before e brought → IsFirst s brought.set_up said → IsFirstSetUp s (asked_in e) said
first_asked s before (event.AddGroup n g) brought said brings first = nothing_first s brought.set_up said brings.set_up first
first_asked s before (event.Ask n g call now) brought said brings first = asked_first s call brought.set_up said brings.set_up first
first_asked s before (event.Deliver g number cuts now) brought said brings first = nothing_first s brought.set_up said brings.set_up first
first_asked s before (event.ResetPeer n peer) brought said brings first = nothing_first s brought.set_up said brings.set_up first
first_asked s before (event.Clean n) brought said brings first = nothing_first s brought.set_up said brings.set_up first
first_asked s before (event.Fuse n first_refused) brought said brings first = nothing_first s brought.set_up said brings.set_up first
first_asked s before (event.Crash n choice) brought said brings first = nothing_first s brought.set_up said brings.set_up first
first_asked s before (event.Reopen n workers) brought said brings first = nothing_first s brought.set_up said brings.set_up first

-- what a call writes at a node that led with this
written_at : (s : Notes) (before : Option Leading) (lead : Leading) (call : GroupCall) (written : Option EntryPayload) → before ≡ Some lead → MatchOption before (written ≡ None) (λ x. IsWrittenBy s x.vote call written) → IsWrittenBy s lead.vote call written
written_at s before lead call written is by = subst (λ o. MatchOption o (written ≡ None) (λ x. IsWrittenBy s x.vote call written)) is by

pub brings_written : (s : Notes) (before : Option Leading) (lead : Leading) (e : ClusterEvent) (brought : Brought) (n : ℕ) (call : GroupCall) (now : ℕ) → Brings s before e brought → before ≡ Some lead → world_event e ≡ world.Ask n call now → IsWrittenBy s lead.vote call brought.written
brings_written s before lead (event.AddGroup m g) brought n call now brings is same = absurd (let no : world.Add m ≡ world.Ask n call now = same in cc)
brings_written s before lead (event.Ask m g asked at) brought n call now brings is same =
    let one : asked ≡ call = (let whole : world.Ask m asked at ≡ world.Ask n call now = same in cc) in
    subst (λ c. IsWrittenBy s lead.vote c brought.written) one (written_at s before lead asked brought.written is brings.written)
brings_written s before lead (event.Deliver g number cuts at) brought n call now brings is same = absurd (let no : world.Deliver number at ≡ world.Ask n call now = same in cc)
brings_written s before lead (event.ResetPeer m peer) brought n call now brings is same = absurd (let no : world.Halt m ≡ world.Ask n call now = same in cc)
brings_written s before lead (event.Clean m) brought n call now brings is same = absurd (let no : world.Halt m ≡ world.Ask n call now = same in cc)
brings_written s before lead (event.Fuse m first_refused) brought n call now brings is same = absurd (let no : world.Halt m ≡ world.Ask n call now = same in cc)
brings_written s before lead (event.Crash m choice) brought n call now brings is same = absurd (let no : world.Crash m ≡ world.Ask n call now = same in cc)
brings_written s before lead (event.Reopen m workers) brought n call now brings is same = absurd (let no : world.Restart m ≡ world.Ask n call now = same in cc)

-- one acceptance at most
pub listed_once : (sent : List Message) (accepted : Option Acceptance) → AcceptsOnce sent → first_in (accepted_by sent) ≡ accepted → accepted_by sent ≡ listed accepted
listed_once sent accepted once first =
    ⊎_elim
    (λ none. none ∙ ap listed (sym (ap first_in none) ∙ first))
    (λ x. x.1 ∙ ap listed (sym (ap first_in x.1) ∙ first))
    once

pub elsewhere : (node n : ℕ) (written : Option EntryPayload) (o : EventOutcome) (before : ℕ → Option EntryPayload) → (n ≡ node → ⊥) → stopped_behind node written o before n ≡ before n
elsewhere node n written (outcome.Done parts) before other = refl
elsewhere node n written (outcome.Cleaned groups) before other = refl
elsewhere node n written (outcome.Refused why) before other = refl
elsewhere node n written (outcome.Stopped stop) before other = ap (λ b. if b then option_or written (before n) else before n) (ne_eqb n node other)
elsewhere node n written (outcome.TurnedAway why) before other = refl

after_asked : (e : WorldEvent) (o : Outcome) (m : Membership) → setup_after None e o ≡ Some m → setup_in e ≡ Some m
after_asked e (Ended sent told unknown) m is = is
after_asked e (Declined why) m is = absurd (let no : None ≡ Some m = is in cc)
after_asked e (Broken unknown) m is = is
after_asked e Skipped m is = absurd (let no : None ≡ Some m = is in cc)

-- ---- refusals

-- a node that has failed passes over, and another refusal is the step's
abbrev pub IsDeclined : NodeRefusal → Outcome → Type 0
IsDeclined refusal.Failed o = o ≡ Skipped
IsDeclined why o = (reason : RefusalReason) × (o ≡ Declined reason)

declined_by : (why : NodeRefusal) (o : Outcome) → IsDeclined why o → ((o ≡ Skipped) × ((lead : Option Leading) → unless_failed why lead ≡ None)) ⊎ (((reason : RefusalReason) × (o ≡ Declined reason)) × ((lead : Option Leading) → unless_failed why lead ≡ lead))
declined_by refusal.Failed o is = inl (is, λ lead. refl)
declined_by (refusal.NotLeader leader) o is = inr (is, λ lead. refl)
declined_by refusal.UnknownGroup o is = inr (is, λ lead. refl)
declined_by refusal.GroupExists o is = inr (is, λ lead. refl)
declined_by refusal.NotAllowed o is = inr (is, λ lead. refl)
declined_by refusal.NotVoter o is = inr (is, λ lead. refl)
declined_by (refusal.Membership why) o is = inr (is, λ lead. refl)
declined_by refusal.VoterChange o is = inr (is, λ lead. refl)
declined_by refusal.InProgress o is = inr (is, λ lead. refl)
declined_by refusal.CommandTooLong o is = inr (is, λ lead. refl)
declined_by refusal.NumberAtEnd o is = inr (is, λ lead. refl)
declined_by refusal.WrongParty o is = inr (is, λ lead. refl)
declined_by refusal.TooMuchForBatch o is = inr (is, λ lead. refl)
declined_by refusal.BreaksCondition o is = inr (is, λ lead. refl)
declined_by refusal.Frame o is = inr (is, λ lead. refl)

-- what is so of what was skipped or declined
of_declined : (P : Outcome → Type 0) → P Skipped → ((reason : RefusalReason) → P (Declined reason)) → (why : NodeRefusal) (o : Outcome) → IsDeclined why o → P o
of_declined P skipped declined why o is =
    ⊎_elim (λ s. subst P (sym s.0) skipped) (λ d. subst P (sym d.0.1) (declined d.0.0)) (declined_by why o is)

not_broken : (why : NodeRefusal) (o : Outcome) → IsDeclined why o → (unknown : List ℕ) → o ≡ Broken unknown → ⊥
not_broken why o is unknown =
    of_declined (λ q. q ≡ Broken unknown → ⊥) (λ never. cc) (λ reason never. cc) why o is

not_ended : (why : NodeRefusal) (o : Outcome) → IsDeclined why o → (sent : List Message) (told : List Untold) (unknown : List ℕ) → o ≡ Ended sent told unknown → ⊥
not_ended why o is sent told unknown =
    of_declined (λ q. q ≡ Ended sent told unknown → ⊥) (λ never. cc) (λ reason never. cc) why o is

nothing_set_up : (why : NodeRefusal) (o : Outcome) → IsDeclined why o → (e : WorldEvent) → setup_after None e o ≡ None
nothing_set_up why o is e = of_declined (λ q. setup_after None e q ≡ None) refl (λ reason. refl) why o is

nothing_sent_by : (why : NodeRefusal) (o : Outcome) → IsDeclined why o → sent_in o ≡ []
nothing_sent_by why o is = of_declined (λ q. sent_in q ≡ []) refl (λ reason. refl) why o is

lead_declined : (why : NodeRefusal) (o : Outcome) → IsDeclined why o → (lead : Option Leading) (state : NodeState) → lead ≡ leading_in state → unless_failed why lead ≡ leading_after o state
lead_declined why o is lead state told =
    ⊎_elim
    (λ s. s.1 lead ∙ sym (ap (λ q. leading_after q state) s.0))
    (λ d. d.1 lead ∙ told ∙ sym (ap (λ q. leading_after q state) d.0.1))
    (declined_by why o is)

refused_or_passed : (h : ℕ) (answers : ℕ → Option (List ℕ)) (why : NodeRefusal) (p : ClusterOutcome) (o : Outcome) → outcome_of_refusal why ≡ Some p → Says h false answers p o → IsDeclined why o
refused_or_passed h answers why p o is says = go why is
  where
    reason : (given : RefusalReason) → Some (Refused given) ≡ Some p → (x : RefusalReason) × (o ≡ Declined x)
    reason given same =
        let one : p ≡ Refused given = cc in
        (given, says_declined h answers given o (subst (λ q. Says h false answers q o) one says))

    none : None ≡ Some p → ⊥
    none never = cc

    passed : Some PassedOver ≡ Some p → o ≡ Skipped
    passed same =
        let one : p ≡ PassedOver = cc in
        says_skipped h answers o (subst (λ q. Says h false answers q o) one says)

    go : (x : NodeRefusal) → outcome_of_refusal x ≡ Some p → IsDeclined x o
    go refusal.Failed same = passed same
    go (refusal.NotLeader leader) same = reason (NotLeader leader) same
    go refusal.UnknownGroup same = reason UnknownGroup same
    go refusal.GroupExists same = reason GroupExists same
    go refusal.NotAllowed same = reason NotAllowed same
    go refusal.NotVoter same = reason NotVoter same
    go (refusal.Membership x) same = reason MembershipRefused same
    go refusal.VoterChange same = reason VoterChange same
    go refusal.InProgress same = reason InProgress same
    go refusal.CommandTooLong same = reason CommandTooLong same
    go refusal.NumberAtEnd same = reason NumberAtEnd same
    go refusal.WrongParty same = reason WrongParty same
    go refusal.TooMuchForBatch same = absurd (none same)
    go refusal.BreaksCondition same = reason BreaksCondition same
    go refusal.Frame same = absurd (none same)

-- ---- the call was told as itself

module _ (rules : MachineRules) (ids : List ℕ) (fit : AreNodeIds ids) (h : ℕ) (plain : List Recorded) (happened : ClusterEvent) (o : EventOutcome) (r : Recorded) (olds news : List NodeState) (k next : GroupNotes) (c : IsCallOf plain h happened o r olds news k next) (old new : Replicas) (there : IsEventThere rules ids h plain r r.node olds news old new) (told : r.event ≡ plain_event happened) (here : is_turned_away r.outcome ≡ false) where
  abbrev we : WorldEvent
  we = world_event happened

  abbrev went : Outcome
  went = outcome_of old.world we (is_stopped r.outcome)

  step : OwnStep rules h we r there.number old new
  step = subst (λ (seen : Seen). StepsTo rules h seen r there.number old new) (own_call h r happened c.of_group told here) there.step

  says : Says h false step.answers r.outcome went
  says = subst (λ b. Says h b step.answers r.outcome went) (no_opening h happened c.of_group) step.says

  abbrev there_now : GroupRecorded
  there_now = record { event = we; outcome = went }

  at : HappensAt old.world there_now r.node
  at m e is = at_node (scene_of old.world we) r.node step.there m e is

  leads_now : c.behind ≡ leading_in (new.world.nodes r.node)
  leads_now = c.leads_behind (new.world.nodes r.node) there.behind

  led_then : (lead : Leading) → leading_in (old.world.nodes r.node) ≡ Some lead → c.before ≡ Some lead
  led_then lead is = c.led_before (old.world.nodes r.node) there.before ∙ is

  abbrev IsFree : Type 0
  IsFree = (m : Membership) → setup_after None we went ≡ Some m → (x : Membership) → Contains k.asked x → m ≡ x

  free : IsTaken o → IsFree
  free taken m is = c.free taken m (sym (same_asked h happened c.of_group) ∙ after_asked we went m is)

  first_set_up : IsFirstSetUp k.notes (setup_in we) c.set_up
  first_set_up = subst (λ a. IsFirstSetUp k.notes a c.set_up) (sym (same_asked h happened c.of_group)) (first_asked k.notes c.before happened c.brought c.set_up c.brings c.first)

  abbrev heard_of : EventOutcome → Type 0
  heard_of q = HearsOf (report_of r.node c.behind c.accepted c.set_up c.brought.written q) k.notes next.notes

  others : (q : EventOutcome) → o ≡ q → (n : ℕ) → (n ≡ r.node → ⊥) → next.stopped n ≡ k.stopped n
  others q is n other = c.stopped n ∙ elsewhere r.node n c.brought.written o k.stopped other

  abbrev Kept : Type 0
  Kept = AreNotesOf k old.world → AreNotesOf next new.world

  abbrev on : IsFree → (goes : StopsGoOn k.notes old.world there_now r.node k.stopped next.stopped) (was : AreNotesOf k old.world) (report : GroupReport) → Hears k.notes report next.notes → HearsAhead k.notes report next.notes → IsTold k.notes k.stopped old.world there_now new.world report → AreNotesOf next new.world
  on is_free goes was report hears ahead told_so =
      told_on rules ids fit h plain old new there.run we (is_stopped r.outcome) there.number step.world r.node k next at goes c.asked was report hears ahead is_free told_so

  -- ---- it was done

  pub done_on : (parts : List GroupOutcome) → o ≡ outcome.Done parts → (said : Said) → r.outcome ≡ Done said → Kept
  done_on parts is said done was =
      let heard = subst heard_of is c.list in
      let ended = says_ended h step.answers said went (subst (λ q. Says h false step.answers q went) done says) in
      let next_stopped : (n : ℕ) → next.stopped n ≡ k.stopped n = λ n. c.stopped n ∙ ap (λ q. stopped_behind r.node c.brought.written q k.stopped n) is in
      let report : GroupReport = record { node = r.node; set_up = c.set_up; leading = c.behind; written = c.brought.written; accepted = c.accepted } in
      on (free (subst IsTaken (sym is) tt))
      (record {
        others = λ n other. next_stopped n;
        called = λ call now unknown asked stopped lead led. absurd (let no : Ended ended.sent ended.told ended.unknown ≡ Broken unknown = sym ended.is ∙ stopped in cc);
        reopened = λ unknown opened stopped. next_stopped r.node;
        skipped = λ skipped. next_stopped r.node;
      })
      was report heard.0 heard.1
      (record {
        node = at;
        set_up = subst (λ q. IsFirstSetUp k.notes (setup_after None we q) c.set_up) (sym ended.is) first_set_up;
        leading = leads_now ∙ sym (ap (λ q. leading_after q (new.world.nodes r.node)) ended.is);
        asked = λ call now sent told_so unknown asked ran lead led. brings_written k.notes c.before lead happened c.brought r.node call now c.brings (led_then lead led) asked;
        opened = λ opened. absurd (no_restart h r.node happened c.of_group opened);
        accepted =
            listed_once (sent_in went) c.accepted (events_accept_once old.world we (is_stopped r.outcome))
            (ap (λ q. first_in (accepted_by (sent_in q))) ended.is ∙ ap (λ ms. first_in (accepted_by ms)) (sym ended.same) ∙ c.accepts said done);
      })

  -- ---- it stopped

  pub stopped_on : (stop : Stop) → o ≡ outcome.Stopped stop → (lost : List Unknown) → r.outcome ≡ Stopped lost → Kept
  stopped_on stop is lost stopped was =
      let heard = subst heard_of is c.list in
      let broken = says_broken h false step.answers lost went (subst (λ q. Says h false step.answers q went) stopped says) in
      let report : GroupReport = record { node = r.node; set_up = c.set_up; leading = None; written = None; accepted = None } in
      let kept_now = λ (n : ℕ). c.stopped n ∙ ap (λ q. stopped_behind r.node c.brought.written q k.stopped n) is in
      on (free (subst IsTaken (sym is) tt))
      (record {
        others = others (outcome.Stopped stop) is;
        called = λ call now unknown asked ran lead led. (
          c.brought.written,
          brings_written k.notes c.before lead happened c.brought r.node call now c.brings (led_then lead led) asked,
          λ payload writes.
              kept_now r.node
              ∙ ap (λ b. if b then option_or c.brought.written (k.stopped r.node) else k.stopped r.node) (eq-eqb r.node r.node refl)
              ∙ ap (λ w. option_or w (k.stopped r.node)) writes,
        );
        reopened = λ unknown opened ran. absurd (no_restart h r.node happened c.of_group opened);
        skipped = λ skipped. absurd (let no : Broken broken.0 ≡ Skipped = sym broken.1 ∙ skipped in cc);
      })
      was report heard.0 heard.1
      (record {
        node = at;
        set_up = subst (λ q. IsFirstSetUp k.notes (setup_after None we q) c.set_up) (sym broken.1) first_set_up;
        leading = sym (ap (λ q. leading_after q (new.world.nodes r.node)) broken.1);
        asked = λ call now sent told_so unknown asked ran lead led. absurd (let no : Broken broken.0 ≡ Ended sent told_so unknown = sym broken.1 ∙ ran in cc);
        opened = λ opened. absurd (no_restart h r.node happened c.of_group opened);
        accepted = ap (λ q. accepted_by (sent_in q)) broken.1;
      })

  -- ---- it was refused, or passed over

  pub refused_on : (why : NodeRefusal) → o ≡ outcome.Refused why → outcome_of_refusal why ≡ Some r.outcome → Kept
  refused_on why is refused was =
      let declined = refused_or_passed h step.answers why r.outcome went refused says in
      let heard = subst heard_of is c.list in
      let next_stopped : (n : ℕ) → next.stopped n ≡ k.stopped n = λ n. c.stopped n ∙ ap (λ q. stopped_behind r.node c.brought.written q k.stopped n) is in
      let report : GroupReport = record { node = r.node; set_up = None; leading = unless_failed why c.behind; written = None; accepted = None } in
      on (λ m set_up. absurd (let no : None ≡ Some m = sym (nothing_set_up why went declined we) ∙ set_up in cc))
      (record {
        others = λ n other. next_stopped n;
        called = λ call now unknown asked stopped lead led. absurd (not_broken why went declined unknown stopped);
        reopened = λ unknown opened stopped. next_stopped r.node;
        skipped = λ skipped. next_stopped r.node;
      })
      was report heard.0 heard.1
      (record {
        node = at;
        set_up = subst (λ a. IsFirstSetUp k.notes a None) (sym (nothing_set_up why went declined we)) (inl refl);
        leading = lead_declined why went declined c.behind (new.world.nodes r.node) leads_now;
        asked = λ call now sent told_so unknown asked ran lead led. absurd (not_ended why went declined sent told_so unknown ran);
        opened = λ opened. absurd (no_restart h r.node happened c.of_group opened);
        accepted = ap accepted_by (nothing_sent_by why went declined);
      })
