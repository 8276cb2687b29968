-- How what is kept of a group goes on with an event of its cluster, by what is known of the event.
use Rattle.std.specs.Prelude.{◌≡◌, ℕ, List, [], ◌∷◌, Option, Some, None, Contains}
use Rattle.raft_group_step.specs.Values.{Membership}
use Rattle.raft_laws.specs.GroupRun.{setup_in_call}
use Rattle.raft_laws.specs.GroupWorld.{NodeState}
use Rattle.raft_laws.specs.OneList.{AreNodeIds}
use Rattle.raft_machines.specs.Machine.{MachineRules}
use Rattle.raft_headline.specs.ClusterEvent.{Done, Said, TurnedAway}
use Rattle.raft_headline.specs.ClusterEvent.{Recorded as PlainRecord}
use Rattle.raft_list_facts.specs.Leads.{leading_in}
use Rattle.raft_list_facts.specs.declared.acceptance.Acceptance.{Acceptance}
use Rattle.raft_list_facts.specs.declared.leading.Leading.{Leading}
use Rattle.raft_list_steps.specs.Reports.{accepted_by}
use Rattle.raft_list_steps.specs.declared.report.SetUp.{SetUp}
use Rattle.raft_cluster_events.specs.declared.event.ClusterEvent.{ClusterEvent}
use Rattle.raft_cluster_events.specs.declared.event.ClusterEvent.TheVariants as event
use Rattle.raft_cluster_events.specs.declared.outcome.EventOutcome.{EventOutcome}
use Rattle.raft_cluster_events.specs.declared.outcome.EventOutcome.TheVariants as outcome
use Rattle.raft_cluster_events.specs.declared.outcome.NodeRefusal.{NodeRefusal}
use Rattle.raft_cluster_events.specs.declared.outcome.Stop.{Stop}
use Rattle.raft_node_laws.specs.Reporting.{IsRecordedAs}
use Rattle.raft_cluster_lists.specs.declared.brought.Brought.{Brought}
use Rattle.raft_cluster_lists.specs.Brought.{Brings}
use Rattle.raft_cluster_lists.specs.Hearing.{HearsOf, IsFirst, IsKeptUntilDone, IsOpening, group_of, opening_report, report_of, stopped_behind}
use Rattle.raft_cluster_lists.specs.Keeping.{GoesOn, GroupNotes}
use Rattle.raft_cluster_lists.specs.Lists.{AreSame}

abbrev pub first_in : List Acceptance → Option Acceptance
first_in [] = None
first_in (x ∷ xs) = Some x

-- the set-up that the event asks for, if it does
abbrev pub asked_in : ClusterEvent → Option Membership
asked_in (event.AddGroup node group) = None
asked_in (event.Ask node group call now) = setup_in_call call
asked_in (event.Deliver group number cuts now) = None
asked_in (event.ResetPeer node peer) = None
asked_in (event.Clean node) = None
asked_in (event.Fuse node first_refused) = None
asked_in (event.Crash node choice) = None
asked_in (event.Reopen node workers) = None

-- it was neither refused nor turned away
abbrev pub IsTaken : EventOutcome → Type 0
IsTaken (outcome.Done parts) = Unit {0}
IsTaken (outcome.Cleaned groups) = Unit {0}
IsTaken (outcome.Refused why) = ⊥
IsTaken (outcome.Stopped stop) = Unit {0}
IsTaken (outcome.TurnedAway why) = ⊥

-- in each of these states the node leads the group with this
abbrev pub LeadsIn : List NodeState → Option Leading → Type 0
LeadsIn states leading = (s : NodeState) → Contains states s → leading ≡ leading_in s

module _ (plain : List PlainRecord) (h : ℕ) (happened : ClusterEvent) (o : EventOutcome) (r : PlainRecord) (olds news : List NodeState) where
  -- a call or message of the group came to the node
  pub record IsCallOf (kept next : GroupNotes) : Type 0 where
    pub of_group : group_of happened ≡ Some h
    pub recorded : IsRecordedAs plain (record { event = happened; outcome = o }) r
    pub before : Option Leading
    pub led_before : LeadsIn olds before
    pub behind : Option Leading
    pub leads_behind : LeadsIn news behind
    pub brought : Brought
    pub brings : Brings kept.notes before happened brought
    pub accepted : Option Acceptance
    pub accepts : (said : Said) → r.outcome ≡ Done said → first_in (accepted_by said.sent) ≡ accepted
    pub set_up : Option SetUp
    pub first : IsFirst kept.notes brought.set_up set_up
    pub list : HearsOf (report_of r.node behind accepted set_up brought.written o) kept.notes next.notes
    pub stopped : (node : ℕ) → next.stopped node ≡ stopped_behind r.node brought.written o kept.stopped node
    -- a set-up that comes and isn't refused names the membership that was asked for before, if one was
    pub free : IsTaken o → (m : Membership) → asked_in happened ≡ Some m → (x : Membership) → Contains kept.asked x → m ≡ x
    pub asked : (x : Membership) → Contains kept.asked x → Contains next.asked x
    pub asks : (stop : Stop) → o ≡ outcome.Stopped stop → (m : Membership) → asked_in happened ≡ Some m → Contains next.asked m

  -- the node was opened, or not
  pub record IsOpeningOf (kept next : GroupNotes) : Type 0 where
    pub opening : IsOpening happened
    pub recorded : IsRecordedAs plain (record { event = happened; outcome = o }) r
    pub taken : (why : NodeRefusal) → o ≡ outcome.Refused why → ⊥
    pub behind : Option Leading
    pub leads_behind : LeadsIn news behind
    pub list : HearsOf (opening_report r.node behind (kept.stopped r.node) o) kept.notes next.notes
    pub others : (node : ℕ) → (node ≡ r.node → ⊥) → next.stopped node ≡ kept.stopped node
    pub own : IsKeptUntilDone o (kept.stopped r.node) (next.stopped r.node)
    pub asked : (x : Membership) → Contains kept.asked x → Contains next.asked x

  -- the event is another group's, or none's
  pub record IsOtherThan (kept next : GroupNotes) : Type 0 where
    pub of_other : group_of happened ≡ Some h → ⊥
    pub no_opening : IsOpening happened → ⊥
    pub recorded : IsRecordedAs plain (record { event = happened; outcome = o }) r
    pub list : AreSame kept.notes next.notes
    pub stopped : (node : ℕ) → next.stopped node ≡ kept.stopped node
    pub asked : (x : Membership) → Contains kept.asked x → Contains next.asked x

  -- the event is another group's, or opens a node, or is none's; nothing is kept of the group
  pub record IsOfOthers : Type 0 where
    pub of_other : group_of happened ≡ Some h → ⊥
    pub recorded : IsRecordedAs plain (record { event = happened; outcome = o }) r
    pub taken : (why : NodeRefusal) → o ≡ outcome.Refused why → IsOpening happened → ⊥

-- ---- the laws

module _ (rules : MachineRules) (ids : List ℕ) (h : ℕ) (plain : List PlainRecord) (happened : ClusterEvent) (o : EventOutcome) (r : PlainRecord) (olds news : List NodeState) where
  abbrev pub Goes : Option GroupNotes → Option GroupNotes → Type 0
  Goes kept next = GoesOn rules ids h plain r r.node olds news kept next

  abbrev pub CallsGoOn : Type 0
  CallsGoOn = (kept next : GroupNotes) → IsCallOf plain h happened o r olds news kept next → Goes (Some kept) (Some next)

  abbrev pub OpeningsGoOn : Type 0
  OpeningsGoOn = (kept next : GroupNotes) → IsOpeningOf plain h happened o r olds news kept next → Goes (Some kept) (Some next)

  abbrev pub OthersGoOn : Type 0
  OthersGoOn = (kept next : GroupNotes) → IsOtherThan plain h happened o r olds news kept next → Goes (Some kept) (Some next)

  -- a group that isn't kept stays so
  abbrev pub NothingGoesOn : Type 0
  NothingGoesOn = IsOfOthers plain h happened o r olds news → Goes None None

-- what is turned away changes nothing
abbrev pub AwayGoesOn : Type 0
AwayGoesOn =
    (rules : MachineRules) (ids : List ℕ) → AreNodeIds ids → (h : ℕ) (plain : List PlainRecord) (r : PlainRecord) (olds news : List NodeState)
    → r.outcome ≡ TurnedAway → (kept : Option GroupNotes) → GoesOn rules ids h plain r r.node olds news kept kept

-- so it is for each event
abbrev pub EventsGoOn : Type 0
EventsGoOn =
    (rules : MachineRules) (ids : List ℕ) → AreNodeIds ids → (h : ℕ) (plain : List PlainRecord) (happened : ClusterEvent)
    → (o : EventOutcome) (r : PlainRecord) (olds news : List NodeState)
    → CallsGoOn rules ids h plain happened o r olds news × OpeningsGoOn rules ids h plain happened o r olds news
    × OthersGoOn rules ids h plain happened o r olds news × NothingGoesOn rules ids h plain happened o r olds news
