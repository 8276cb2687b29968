-- What is kept of a group goes on with openings, and with events that aren't the group's.
use Rattle.std.specs.Prelude.{◌≡◌, ℕ, ◌==◌, if◌then◌else◌, Bool, true, false, List, Option, Some, None, IfSome, Contains, refl}
use Rattle.std.proofs.Common.{inl, sym, ap, ◌∙◌, subst, ⊎_elim, eqb-true}
use Rattle.raft_group_step.specs.Values.{Membership}
use Rattle.raft_laws.specs.declared.world_event.WorldEvent.{WorldEvent}
use Rattle.raft_laws.specs.declared.world_event.WorldEvent.TheVariants as world
use Rattle.raft_laws.specs.GroupRun.{outcome_of, sent_in, setup_after}
use Rattle.raft_laws.specs.GroupRun.{At as Happens}
use Rattle.raft_laws.specs.NodeEvent.{NodeEvent, Crashes, Restarts}
use Rattle.raft_laws.specs.GroupWorld.{GroupWorld, NodeState, Outcome, Recorded as GroupRecorded}
use Rattle.raft_laws.specs.GroupWorld.{Done as Ended, Refused as Declined, Stopped as Broken, Skipped}
use Rattle.raft_laws.specs.OneList.{AreNodeIds}
use Rattle.raft_machines.specs.Machine.{MachineRules}
use Rattle.raft_headline.specs.ClusterEvent.{ClusterOutcome, Opened, Recorded, Said, Stopped, Unknown, is_stopped, is_turned_away}
use Rattle.raft_headline.specs.Machines.{Replicas}
use Rattle.raft_headline.specs.Replaying.{CrashStep, HaltStep, OwnStep, Says, StepsTo}
use Rattle.raft_headline.specs.Seen.{Crashed, Halted, Own, Passed, Seen, own_or_aside, seen_by, seen_of, seen_unless}
use Rattle.raft_group_lists.specs.Notes.{no_notes}
use Rattle.raft_list_steps.specs.Lists.{IsListOf}
use Rattle.raft_list_steps.specs.Steps.{with_messages}
use Rattle.raft_list_steps.specs.declared.report.GroupReport.{GroupReport}
use Rattle.raft_list_steps.proofs.EventLemmas.{list_at_nodes, same_but_nodes}
use Rattle.raft_list_steps.proofs.MessageLemmas.{accepts_none, with_messages_led, with_messages_sent, with_messages_setup}
use Rattle.raft_list_steps.proofs.OnceLemmas.{openings_accept_nothing}
use Rattle.raft_list_reports.specs.Calls.{IsFirstSetUp}
use Rattle.raft_list_reports.specs.Told.{HappensAt, leading_after}
use Rattle.raft_cluster_events.specs.declared.event.ClusterEvent.{ClusterEvent}
use Rattle.raft_cluster_events.specs.declared.event.ClusterEvent.TheVariants as event
use Rattle.raft_cluster_events.specs.declared.outcome.EventOutcome.{EventOutcome}
use Rattle.raft_cluster_events.specs.declared.outcome.EventOutcome.TheVariants as outcome
use Rattle.raft_cluster_events.specs.declared.outcome.GroupOutcome.{GroupOutcome}
use Rattle.raft_cluster_events.specs.declared.outcome.Stop.{Stop}
use Rattle.raft_node_laws.specs.Reporting.{DoneAs, node_behind, plain_event}
use Rattle.raft_node_laws.specs.Saying.{IsToldAs}
use Rattle.raft_cluster_lists.specs.GoingOn.{IsOpeningOf}
use Rattle.raft_cluster_lists.specs.Hearing.{HearsOf, IsKeptUntilDone, IsOpening, group_of, opening_report}
use Rattle.raft_cluster_lists.specs.Keeping.{AreNotesOf, GroupNotes, IsEventThere, IsUntouched}
use Rattle.raft_cluster_lists.specs.Lists.{AreSame}
use Rattle.raft_cluster_lists.proofs.HaltsOn.{halted_quietly}
use Rattle.raft_cluster_lists.proofs.PlainEvents.{says_broken, says_opened}
use Rattle.raft_cluster_lists.proofs.QuietEvents.{IsIdle, IsQuiet, crashes_are_quiet, halts_are_quiet, idle_restarts_are_quiet, quiet_untouched}
use Rattle.raft_cluster_lists.proofs.SameNotes.{same_notes}
use Rattle.raft_cluster_lists.proofs.Worlds.{quiet_on, told_on, unled_before, unled_behind}

-- ---- what is seen of the events of others

-- no own event
abbrev pub IsAside : Seen → Type 0
IsAside Passed = Unit {0}
IsAside (Own e) = ⊥
IsAside (Halted n) = Unit {0}
IsAside (Crashed n) = Unit {0}

aside_if : (n : ℕ) (b : Bool) → IsAside (if b then Halted n else Passed)
aside_if n true = tt
aside_if n false = tt

other_group : (g h : ℕ) (e : WorldEvent) (n : ℕ) (o : ClusterOutcome) → (Some g ≡ Some h → ⊥) → IsAside (own_or_aside (g == h) e n o)
other_group g h e n o other = go (g == h) refl
  where
    go : (b : Bool) → (g == h) ≡ b → IsAside (own_or_aside b e n o)
    go true is = absurd (other (ap (λ (x : ℕ). Some x) (eqb-true g h is)))
    go false is = aside_if n (is_stopped o)

other_seen : (h at : ℕ) (e : ClusterEvent) (o : ClusterOutcome) → (group_of e ≡ Some h → ⊥) → (IsOpening e → ⊥) → IsAside (seen_of h (plain_event e) at o)
other_seen h at (event.AddGroup n g) o other opens = other_group g h (world.Add n) n o other
other_seen h at (event.Ask n g call now) o other opens = other_group g h (world.Ask n call now) n o other
other_seen h at (event.Deliver g number cuts now) o other opens = other_group g h (world.Deliver number now) at o other
other_seen h at (event.ResetPeer n peer) o other opens = aside_if n (is_stopped o)
other_seen h at (event.Clean n) o other opens = aside_if n (is_stopped o)
other_seen h at (event.Fuse n first_refused) o other opens = aside_if n (is_stopped o)
other_seen h at (event.Crash n choice) o other opens = tt
other_seen h at (event.Reopen n workers) o other opens = absurd (opens tt)

unless_aside : (b : Bool) (seen : Seen) → IsAside seen → IsAside (seen_unless b seen)
unless_aside true seen a = tt
unless_aside false seen a = a

pub others_aside : (h : ℕ) (r : Recorded) (e : ClusterEvent) → (group_of e ≡ Some h → ⊥) → (IsOpening e → ⊥) → IsToldAs (plain_event e) r.node r.outcome r.event → IsAside (seen_by h r)
others_aside h r e other opens told =
    unless_aside (is_turned_away r.outcome) (seen_of h r.event r.node r.outcome)
    (⊎_elim
    (λ same. subst (λ p. IsAside (seen_of h p r.node r.outcome)) (sym same) (other_seen h r.node e r.outcome other opens))
    (λ halts. subst (λ p. IsAside (seen_of h p r.node r.outcome)) (sym halts.0) (aside_if r.node (is_stopped r.outcome)))
    told)

-- ---- where nothing is heard

crashed_at : (n m : ℕ) (e : NodeEvent) → Happens n Crashes ≡ Happens m e → m ≡ n
crashed_at n m e is = cc

module _ (rules : MachineRules) (ids : List ℕ) (fit : AreNodeIds ids) (h : ℕ) (plain : List Recorded) (r : Recorded) (olds news : List NodeState) (old new : Replicas) (there : IsEventThere rules ids h plain r r.node olds news old new) where
  passed_there : seen_by h r ≡ Passed → new ≡ old
  passed_there is = subst (λ (seen : Seen). StepsTo rules h seen r there.number old new) is there.step

  crashed_there : (n : ℕ) → seen_by h r ≡ Crashed n → CrashStep rules h n r.outcome old new
  crashed_there n is = subst (λ (seen : Seen). StepsTo rules h seen r there.number old new) is there.step

  halted_there : (n : ℕ) → seen_by h r ≡ Halted n → HaltStep rules h n r.outcome old new
  halted_there n is = subst (λ (seen : Seen). StepsTo rules h seen r there.number old new) is there.step

  -- of a group that isn't kept
  pub untouched_aside : (seen : Seen) → seen_by h r ≡ seen → IsAside seen → IsUntouched old.world → IsUntouched new.world
  untouched_aside Passed is a was = subst (λ (x : Replicas). IsUntouched x.world) (sym (passed_there is)) was
  untouched_aside (Own e) is a was = absurd a
  untouched_aside (Halted n) is a was =
      quiet_untouched old.world new.world (subst (IsQuiet old.world) (sym (halted_there n is).world) (halts_are_quiet old.world n)) was
  untouched_aside (Crashed n) is a was =
      quiet_untouched old.world new.world (subst (IsQuiet old.world) (sym (crashed_there n is).world) (crashes_are_quiet old.world n)) was

  module _ (k next : GroupNotes) (same : AreSame k.notes next.notes) (stays : (n : ℕ) → next.stopped n ≡ k.stopped n) (more : (x : Membership) → Contains k.asked x → Contains next.asked x) (was : AreNotesOf k old.world) where
    pub passed_on : seen_by h r ≡ Passed → AreNotesOf next new.world
    passed_on is = subst (λ (x : Replicas). AreNotesOf next x.world) (sym (passed_there is)) (same_notes k next old.world same stays more was)

    crashed_on : (n : ℕ) → seen_by h r ≡ Crashed n → AreNotesOf next new.world
    crashed_on n is =
        let step = crashed_there n is in
        let we : WorldEvent = world.Crash n in
        quiet_on rules ids fit h plain old new there.run we false 0 step.world n k next
        (λ m e here. crashed_at n m e here)
        (record {
          others = λ m other. stays m;
          called = λ call now unknown asked ran lead led. absurd (let no : world.Crash n ≡ world.Ask n call now = asked in cc);
          reopened = λ unknown opened ran. stays n;
          skipped = λ skipped. stays n;
        })
        more was same (subst (IsQuiet old.world) (sym step.world) (crashes_are_quiet old.world n))

    pub aside_on : (seen : Seen) → seen_by h r ≡ seen → IsAside seen → AreNotesOf next new.world
    aside_on Passed is a = passed_on is
    aside_on (Own e) is a = absurd a
    aside_on (Halted n) is a = halted_quietly rules ids fit h plain r olds news k next old new there n is same stays more was
    aside_on (Crashed n) is a = crashed_on n is

-- ---- openings

pub record IsOpened (h : ℕ) (r : Recorded) : Type 0 where
  pub node : ℕ
  pub seen : seen_by h r ≡ Own (world.Restart node)
  pub own : node ≡ r.node

pub opening_seen : (plain : List Recorded) (h : ℕ) (r : Recorded) (e : ClusterEvent) → IsOpening e → IfSome (node_behind plain e) (λ n. r.node ≡ n) → r.event ≡ plain_event e → is_turned_away r.outcome ≡ false → IsOpened h r
opening_seen plain h r (event.AddGroup n g) opens at told here = absurd opens
opening_seen plain h r (event.Ask n g call now) opens at told here = absurd opens
opening_seen plain h r (event.Deliver g number cuts now) opens at told here = absurd opens
opening_seen plain h r (event.ResetPeer n peer) opens at told here = absurd opens
opening_seen plain h r (event.Clean n) opens at told here = absurd opens
opening_seen plain h r (event.Fuse n first_refused) opens at told here = absurd opens
opening_seen plain h r (event.Crash n choice) opens at told here = absurd opens
opening_seen plain h r (event.Reopen n workers) opens at told here = record {
  node = n;
  seen = ap (λ b. seen_unless b (seen_of h r.event r.node r.outcome)) here ∙ ap (λ p. seen_of h p r.node r.outcome) told;
  own = sym at;
}

pub opening_done : (plain : List Recorded) (e : ClusterEvent) (parts : List GroupOutcome) (o : ClusterOutcome) → IsOpening e → DoneAs plain e parts o → (all : List (ℕ × Said)) × (o ≡ Opened all)
opening_done plain (event.AddGroup n g) parts o opens done = absurd opens
opening_done plain (event.Ask n g call now) parts o opens done = absurd opens
opening_done plain (event.Deliver g number cuts now) parts o opens done = absurd opens
opening_done plain (event.ResetPeer n peer) parts o opens done = absurd opens
opening_done plain (event.Clean n) parts o opens done = absurd opens
opening_done plain (event.Fuse n first_refused) parts o opens done = absurd opens
opening_done plain (event.Crash n choice) parts o opens done = absurd opens
opening_done plain (event.Reopen n workers) parts o opens done = (done.all, done.opened)

restarted_at : (n m : ℕ) (e : NodeEvent) → Happens n Restarts ≡ Happens m e → m ≡ n
restarted_at n m e is = cc

module _ (rules : MachineRules) (ids : List ℕ) (fit : AreNodeIds ids) (h : ℕ) (plain : List Recorded) (r : Recorded) (olds news : List NodeState) (old new : Replicas) (there : IsEventThere rules ids h plain r r.node olds news old new) (n : ℕ) (opens : seen_by h r ≡ Own (world.Restart n)) where
  opening : OwnStep rules h (world.Restart n) r there.number old new
  opening = subst (λ (seen : Seen). StepsTo rules h seen r there.number old new) opens there.step

  abbrev opened : Outcome
  opened = outcome_of old.world (world.Restart n) (is_stopped r.outcome)

  abbrev opened_now : GroupRecorded
  opened_now = record { event = world.Restart n; outcome = opened }

  opened_at : HappensAt old.world opened_now n
  opened_at m e is = restarted_at n m e is

  idle_quiet : IsIdle opened → IsQuiet old.world new.world
  idle_quiet idle = subst (IsQuiet old.world) (sym opening.world) (idle_restarts_are_quiet old.world n opened there.number idle)

  -- ---- of a group that isn't kept

  -- a node that is opened accepts nothing, and nobody leads where the group wasn't set up
  pub untouched_opened : IsUntouched old.world → IsUntouched new.world
  untouched_opened was =
      let set_up : new.world.setup ≡ None = ap (λ (w : GroupWorld). w.setup) opening.world ∙ no_set_up_at old.world.setup opened was.none in
      let unled = unled_before rules ids fit h plain old new there.run (world.Restart n) (is_stopped r.outcome) there.number opening.world was.none in
      let unled_now = unled_behind rules ids fit h plain old new there.run (world.Restart n) (is_stopped r.outcome) there.number opening.world set_up in
      let sent = sent_in opened in
      let u : GroupWorld = with_messages old.world sent in
      let listed_there : IsListOf no_notes u = accepts_none no_notes old.world sent (openings_accept_nothing old.world n (is_stopped r.outcome)) was.list in
      record {
        list =
            subst (IsListOf no_notes)
            (sym (same_but_nodes u new.world
            (with_messages_sent old.world sent ∙ sym (ap (λ (w : GroupWorld). w.messages) opening.world))
            (with_messages_setup old.world sent ∙ was.none ∙ sym set_up)
            (with_messages_led old.world sent ∙ unled ∙ sym unled_now)))
            (list_at_nodes no_notes u new.world.nodes listed_there);
        none = set_up;
      }
    where
      no_set_up_at : (before : Option Membership) (o : Outcome) → before ≡ None → setup_after before (world.Restart n) o ≡ None
      no_set_up_at (Some m) o is = absurd (let no : Some m ≡ None = is in cc)
      no_set_up_at None (Ended a b c) is = refl
      no_set_up_at None (Declined why) is = refl
      no_set_up_at None (Broken unknown) is = refl
      no_set_up_at None Skipped is = refl

  -- ---- of one that is

  module _ (happened : ClusterEvent) (o : EventOutcome) (k next : GroupNotes) (c : IsOpeningOf plain h happened o r olds news k next) (own : n ≡ r.node) (was : AreNotesOf k old.world) where
    abbrev heard_of : EventOutcome → Type 0
    heard_of q = HearsOf (opening_report r.node c.behind (k.stopped r.node) q) k.notes next.notes

    others_stay : (m : ℕ) → (m ≡ n → ⊥) → next.stopped m ≡ k.stopped m
    others_stay m other = c.others m (λ e. other (e ∙ sym own))

    pub opened_on : (parts : List GroupOutcome) → o ≡ outcome.Done parts → (all : List (ℕ × Said)) → r.outcome ≡ Opened all → AreNotesOf next new.world
    opened_on parts is all done =
        let heard = subst heard_of is c.list in
        let (sent, told, unknown, ended) = says_opened h opening.answers all opened (subst (λ q. Says h true opening.answers q opened) done opening.says) in
        let report : GroupReport = record { node = r.node; set_up = None; leading = c.behind; written = k.stopped r.node; accepted = None } in
        told_on rules ids fit h plain old new there.run (world.Restart n) (is_stopped r.outcome) there.number opening.world n k next opened_at
        (record {
          others = others_stay;
          called = λ call now lost asked ran lead led. absurd (let no : world.Restart n ≡ world.Ask n call now = asked in cc);
          reopened = λ lost again ran. absurd (let no : Ended sent told unknown ≡ Broken lost = sym ended ∙ ran in cc);
          skipped = λ skipped. absurd (let no : Ended sent told unknown ≡ Skipped = sym ended ∙ skipped in cc);
        })
        c.asked was report heard.0 heard.1
        (λ m set_up x has. absurd (let no : None ≡ Some m = sym (ap (setup_after None (world.Restart n)) ended) ∙ set_up in cc))
        (record {
          node = λ m e here. opened_at m e here ∙ own;
          set_up = subst (λ a. IsFirstSetUp k.notes a None) (sym (ap (setup_after None (world.Restart n)) ended)) (inl refl);
          leading = c.leads_behind (new.world.nodes r.node) there.behind ∙ sym (ap (λ q. leading_after q (new.world.nodes r.node)) ended);
          asked = λ call now a b d asked ran lead led. absurd (let no : world.Restart n ≡ world.Ask r.node call now = asked in cc);
          opened = λ again. refl;
          accepted = openings_accept_nothing old.world n (is_stopped r.outcome);
        })

    pub unopened_on : (stop : Stop) → o ≡ outcome.Stopped stop → (lost : List Unknown) → r.outcome ≡ Stopped lost → AreNotesOf next new.world
    unopened_on stop is lost stopped =
        let same : AreSame k.notes next.notes = subst heard_of is c.list in
        let own_stays : next.stopped n ≡ k.stopped n = subst (λ i. next.stopped i ≡ k.stopped i) (sym own) (subst (λ q. IsKeptUntilDone q (k.stopped r.node) (next.stopped r.node)) is c.own) in
        let (unknown, broken) = says_broken h true opening.answers lost opened (subst (λ q. Says h true opening.answers q opened) stopped opening.says) in
        quiet_on rules ids fit h plain old new there.run (world.Restart n) (is_stopped r.outcome) there.number opening.world n k next opened_at
        (record {
          others = others_stay;
          called = λ call now lost_now asked ran lead led. absurd (let no : world.Restart n ≡ world.Ask n call now = asked in cc);
          reopened = λ lost_now again ran. own_stays;
          skipped = λ skipped. own_stays;
        })
        c.asked was same (idle_quiet (subst IsIdle (sym broken) tt))
