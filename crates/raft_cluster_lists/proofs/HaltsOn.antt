-- What is kept of a group goes on with an event that is told as a halt of its node: nothing of it was begun.
use Rattle.std.specs.Prelude.{◌≡◌, ℕ, true, false, List, Option, Some, None, Contains, refl}
use Rattle.std.proofs.Common.{inl, sym, ap, ◌∙◌, subst}
use Rattle.raft_group_step.specs.Values.{Membership}
use Rattle.raft_laws.specs.declared.world_event.WorldEvent.{WorldEvent}
use Rattle.raft_laws.specs.declared.world_event.WorldEvent.TheVariants as world
use Rattle.raft_laws.specs.GroupRun.{outcome_of, sent_in, setup_after}
use Rattle.raft_laws.specs.GroupRun.{At as Happens}
use Rattle.raft_laws.specs.GroupWorld.{NodeState, Outcome, Recorded as GroupRecorded}
use Rattle.raft_laws.specs.GroupWorld.{Stopped as Broken, Skipped}
use Rattle.raft_laws.specs.NodeEvent.{NodeEvent, Halts}
use Rattle.raft_laws.specs.OneList.{AreNodeIds}
use Rattle.raft_machines.specs.Machine.{MachineRules}
use Rattle.raft_headline.specs.ClusterEvent.{Recorded, Stopped, Unknown}
use Rattle.raft_headline.specs.Machines.{Replicas}
use Rattle.raft_headline.specs.Replaying.{HaltStep, Says, StepsTo}
use Rattle.raft_headline.specs.Seen.{Halted, Seen, seen_by}
use Rattle.raft_list_facts.specs.declared.leading.Leading.{Leading}
use Rattle.raft_list_laws.specs.Changes.{with_setup}
use Rattle.raft_group_lists.specs.Notes.{Notes}
use Rattle.raft_list_steps.specs.Lists.{IsListOf}
use Rattle.raft_list_steps.specs.Reports.{accepted_by}
use Rattle.raft_list_steps.specs.declared.report.GroupReport.{GroupReport}
use Rattle.raft_list_steps.specs.declared.report.SetUp.{SetUp}
use Rattle.raft_list_reports.specs.Calls.{IsFirstSetUp}
use Rattle.raft_list_reports.specs.Told.{HappensAt, StopsGoOn, leading_after}
use Rattle.raft_cluster_events.specs.declared.event.ClusterEvent.{ClusterEvent}
use Rattle.raft_cluster_events.specs.declared.event.ClusterEvent.TheVariants as event
use Rattle.raft_cluster_events.specs.declared.outcome.EventOutcome.{EventOutcome}
use Rattle.raft_cluster_events.specs.declared.outcome.EventOutcome.TheVariants as outcome
use Rattle.raft_cluster_events.specs.declared.outcome.Stop.{Stop}
use Rattle.raft_cluster_lists.specs.declared.brought.Brought.{Brought}
use Rattle.raft_cluster_lists.specs.Brought.{Brings, IsAskedBy}
use Rattle.raft_cluster_lists.specs.GoingOn.{IsCallOf, asked_in}
use Rattle.raft_cluster_lists.specs.Hearing.{HearsOf, IsFirst, report_of}
use Rattle.raft_cluster_lists.specs.Keeping.{AreNotesOf, GroupNotes, IsEventThere}
use Rattle.raft_cluster_lists.specs.Lists.{AreSame}
use Rattle.raft_cluster_lists.proofs.CallsOn.{elsewhere}
use Rattle.raft_cluster_lists.proofs.PlainEvents.{says_broken}
use Rattle.raft_cluster_lists.proofs.QuietEvents.{IsQuiet, halts_are_quiet, quiet_set_up}
use Rattle.raft_cluster_lists.proofs.SameNotes.{not_set_up}
use Rattle.raft_cluster_lists.proofs.Worlds.{ahead_on, quiet_on, told_on, unled_before}

-- the set-up that is brought is asked for, with its voters
pub record IsBroughtSetUp (e : ClusterEvent) (x : SetUp) : Type 0 where
  pub asked : asked_in e ≡ Some x.membership
  pub voters : x.voters ≡ x.membership.configs

nothing_brought : (e : ClusterEvent) (brought : Brought) (x : SetUp) → brought.set_up ≡ None → brought.set_up ≡ Some x → IsBroughtSetUp e x
nothing_brought e brought x none is = absurd (let no : None ≡ Some x = sym none ∙ is in cc)

brought_set_up : (s : Notes) (before : Option Leading) (e : ClusterEvent) (brought : Brought) (x : SetUp) → Brings s before e brought → brought.set_up ≡ Some x → IsBroughtSetUp e x
brought_set_up s before (event.AddGroup n g) brought x brings is = nothing_brought (event.AddGroup n g) brought x brings.set_up is
brought_set_up s before (event.Ask n g call now) brought x brings is =
    let one = subst (IsAskedBy call) is brings.set_up in record { asked = one.asked; voters = one.voters }
brought_set_up s before (event.Deliver g number cuts now) brought x brings is = nothing_brought (event.Deliver g number cuts now) brought x brings.set_up is
brought_set_up s before (event.ResetPeer n peer) brought x brings is = nothing_brought (event.ResetPeer n peer) brought x brings.set_up is
brought_set_up s before (event.Clean n) brought x brings is = nothing_brought (event.Clean n) brought x brings.set_up is
brought_set_up s before (event.Fuse n first_refused) brought x brings is = nothing_brought (event.Fuse n first_refused) brought x brings.set_up is
brought_set_up s before (event.Crash n choice) brought x brings is = nothing_brought (event.Crash n choice) brought x brings.set_up is
brought_set_up s before (event.Reopen n workers) brought x brings is = nothing_brought (event.Reopen n workers) brought x brings.set_up is

halted_at : (n m : ℕ) (e : NodeEvent) → Happens n Halts ≡ Happens m e → m ≡ n
halted_at n m e is = cc

module _ (rules : MachineRules) (ids : List ℕ) (fit : AreNodeIds ids) (h : ℕ) (plain : List Recorded) (r : Recorded) (olds news : List NodeState) (k next : GroupNotes) (old new : Replicas) (there : IsEventThere rules ids h plain r r.node olds news old new) (n : ℕ) (halts : seen_by h r ≡ Halted n) where
  step : HaltStep rules h n r.outcome old new
  step = subst (λ (seen : Seen). StepsTo rules h seen r there.number old new) halts there.step

  abbrev we : WorldEvent
  we = world.Halt n

  abbrev went : Outcome
  went = outcome_of old.world we true

  abbrev there_now : GroupRecorded
  there_now = record { event = we; outcome = went }

  at : HappensAt old.world there_now n
  at m e is = halted_at n m e is

  quiet : IsQuiet old.world new.world
  quiet = subst (IsQuiet old.world) (sym step.world) (halts_are_quiet old.world n)

  goes : ((m : ℕ) → (m ≡ n → ⊥) → next.stopped m ≡ k.stopped m) → (went ≡ Skipped → next.stopped n ≡ k.stopped n) → StopsGoOn k.notes old.world there_now n k.stopped next.stopped
  goes others skipped = record {
    others = others;
    called = λ call now unknown asked ran lead led. absurd (let no : world.Halt n ≡ world.Ask n call now = asked in cc);
    reopened = λ unknown opened ran. absurd (let no : world.Halt n ≡ world.Restart n = opened in cc);
    skipped = skipped;
  }

  -- nothing is heard of it
  pub halted_quietly : AreSame k.notes next.notes → ((m : ℕ) → next.stopped m ≡ k.stopped m) → ((x : Membership) → Contains k.asked x → Contains next.asked x) → AreNotesOf k old.world → AreNotesOf next new.world
  halted_quietly same stays more was =
      quiet_on rules ids fit h plain old new there.run we true 0 step.world n k next at (goes (λ m other. stays m) (λ skipped. stays n)) more was same quiet

  -- ---- a call of the group

  module _ (happened : ClusterEvent) (o : EventOutcome) (stop : Stop) (is : o ≡ outcome.Stopped stop) (c : IsCallOf plain h happened o r olds news k next) (own : n ≡ r.node) (lost : List Unknown) (stopped : r.outcome ≡ Stopped lost) where
    broken : (unknown : List ℕ) × (went ≡ Broken unknown)
    broken = says_broken h false (λ place. None) lost went (subst (λ q. Says h false (λ place. None) q went) stopped step.says)

    goes_so : StopsGoOn k.notes old.world there_now n k.stopped next.stopped
    goes_so = goes (λ m other. c.stopped m ∙ elsewhere r.node m c.brought.written o k.stopped (λ e. other (e ∙ sym own))) (λ skipped. absurd (let no : Broken broken.0 ≡ Skipped = sym broken.1 ∙ skipped in cc))

    abbrev heard_of : ℕ → Option SetUp → EventOutcome → Type 0
    heard_of m set_up q = HearsOf (report_of m c.behind c.accepted set_up c.brought.written q) k.notes next.notes

    with_none : heard_of n None (outcome.Stopped stop) → AreNotesOf k old.world → AreNotesOf next new.world
    with_none heard was =
        let report : GroupReport = record { node = n; set_up = None; leading = None; written = None; accepted = None } in
        told_on rules ids fit h plain old new there.run we true 0 step.world n k next at goes_so c.asked was report heard.0 heard.1
        (λ m set_up x has. absurd (let no : None ≡ Some m = sym (ap (setup_after None we) broken.1) ∙ set_up in cc))
        (record {
          node = at;
          set_up = subst (λ a. IsFirstSetUp k.notes a None) (sym (ap (setup_after None we) broken.1)) (inl refl);
          leading = sym (ap (λ q. leading_after q (new.world.nodes n)) broken.1);
          asked = λ call now sent told unknown asked ran lead led. absurd (let no : world.Halt n ≡ world.Ask n call now = asked in cc);
          opened = λ opened. absurd (let no : world.Halt n ≡ world.Restart n = opened in cc);
          accepted = ap (λ q. accepted_by (sent_in q)) broken.1;
        })

    with_some : (x : SetUp) → IsFirst k.notes c.brought.set_up (Some x) → heard_of n (Some x) (outcome.Stopped stop) → AreNotesOf k old.world → AreNotesOf next new.world
    with_some x first heard was =
        let asks = brought_set_up k.notes c.before happened c.brought x c.brings first.0 in
        let unset = not_set_up k.notes k.asked old.world first.1 was.list in
        let unled = unled_before rules ids fit h plain old new there.run we true 0 step.world unset.1 in
        let m = x.membership in
        let list : IsListOf next.notes (with_setup old.world m) = heard.2 old.world m (refl, asks.voters) refl refl unset.1 unled unset.0 in
        ahead_on rules ids fit h plain old new there.run we true 0 step.world n k next at goes_so c.asked was
        m (sym quiet.setup ∙ unset.1) (quiet_set_up next.notes old.world new.world m quiet list) (c.asks stop is m asks.asked)

    pub halted_on : AreNotesOf k old.world → AreNotesOf next new.world
    halted_on was = go c.set_up c.first (subst (λ m. heard_of m c.set_up (outcome.Stopped stop)) (sym own) (subst (λ q. heard_of r.node c.set_up q) is c.list))
      where
        go : (set_up : Option SetUp) → IsFirst k.notes c.brought.set_up set_up → heard_of n set_up (outcome.Stopped stop) → AreNotesOf next new.world
        go None first heard = with_none heard was
        go (Some x) first heard = with_some x first heard was
