-- What a group's list hears of an event of its cluster.
use Rattle.std.specs.Prelude.{◌≡◌, ◌⊎◌, ℕ, ◌==◌, if◌then◌else◌, Option, Some, None, MatchOption}
use Rattle.std.specs.Option.{option_or}
use Rattle.raft_values.specs.LogId.{log_id_of}
use Rattle.raft_group_step.specs.Values.{EntryPayload}
use Rattle.raft_group_lists.specs.Notes.{HasNoId, IsNotedAt, Notes}
use Rattle.raft_list_facts.specs.declared.acceptance.Acceptance.{Acceptance}
use Rattle.raft_list_facts.specs.declared.leading.Leading.{Leading}
use Rattle.raft_list_steps.specs.Reports.{Hears, HearsAhead, HearsSetUp}
use Rattle.raft_list_steps.specs.declared.report.GroupReport.{GroupReport}
use Rattle.raft_list_steps.specs.declared.report.SetUp.{SetUp}
use Rattle.raft_cluster_events.specs.declared.event.ClusterEvent.{ClusterEvent}
use Rattle.raft_cluster_events.specs.declared.event.ClusterEvent.TheVariants.{AddGroup, Ask, Deliver, ResetPeer, Clean, Fuse, Crash, Reopen}
use Rattle.raft_cluster_events.specs.declared.outcome.EventOutcome.{EventOutcome}
use Rattle.raft_cluster_events.specs.declared.outcome.EventOutcome.TheVariants.{Cleaned, Done, Refused, Stopped, TurnedAway}
use Rattle.raft_cluster_events.specs.declared.outcome.NodeRefusal.{NodeRefusal}
use Rattle.raft_cluster_events.specs.declared.outcome.NodeRefusal.TheVariants.{Failed}
use Rattle.raft_cluster_lists.specs.declared.brought.Brought.{Brought}
use Rattle.raft_cluster_lists.specs.declared.kept.KeptGroup.{KeptGroup}
use Rattle.raft_cluster_lists.specs.Lists.{AreSame, stopped_at}

-- ---- events

-- the group that an event is of, if it is of one
abbrev pub group_of : ClusterEvent → Option ℕ
group_of (AddGroup node group) = Some group
group_of (Ask node group call now) = Some group
group_of (Deliver group number cuts now) = Some group
group_of (ResetPeer node peer) = None
group_of (Clean node) = None
group_of (Fuse node first_refused) = None
group_of (Crash node choice) = None
group_of (Reopen node workers) = None

-- it opens its node, and so each group there
abbrev pub IsOpening : ClusterEvent → Type 0
IsOpening (AddGroup node group) = ⊥
IsOpening (Ask node group call now) = ⊥
IsOpening (Deliver group number cuts now) = ⊥
IsOpening (ResetPeer node peer) = ⊥
IsOpening (Clean node) = ⊥
IsOpening (Fuse node first_refused) = ⊥
IsOpening (Crash node choice) = ⊥
IsOpening (Reopen node workers) = Unit {0}

-- ---- reports

-- the set-up that a call asks for, unless one is noted
abbrev pub IsFirst : Notes → Option SetUp → Option SetUp → Type 0
IsFirst s asked said =
    MatchOption said
    ((asked ≡ None) ⊎ ((at : ℕ) × IsNotedAt s.noted (log_id_of 0 0 0) at))
    (λ x. (asked ≡ Some x) × HasNoId s.noted (log_id_of 0 0 0))

-- a node that has failed leads nothing
abbrev pub unless_failed : NodeRefusal → Option Leading → Option Leading
unless_failed Failed leading = None
unless_failed why leading = leading

-- of a refused call its node's lead is told, and of one that stopped the set-up: the node leads nothing then
abbrev pub report_of : ℕ → Option Leading → Option Acceptance → Option SetUp → Option EntryPayload → EventOutcome → Option GroupReport
report_of node leading accepted set_up written (Done parts) =
    Some (record { node = node; set_up = set_up; leading = leading; written = written; accepted = accepted })
report_of node leading accepted set_up written (Cleaned groups) = None
report_of node leading accepted set_up written (Refused why) =
    Some (record { node = node; set_up = None; leading = unless_failed why leading; written = None; accepted = None })
report_of node leading accepted set_up written (Stopped stop) =
    Some (record { node = node; set_up = set_up; leading = None; written = None; accepted = None })
report_of node leading accepted set_up written (TurnedAway why) = None

-- of an opening that was done: its node may lead with what its last call wrote, which stopped
abbrev pub opening_report : ℕ → Option Leading → Option EntryPayload → EventOutcome → Option GroupReport
opening_report node leading written (Done parts) =
    Some (record { node = node; set_up = None; leading = leading; written = written; accepted = None })
opening_report node leading written (Cleaned groups) = None
opening_report node leading written (Refused why) = None
opening_report node leading written (Stopped stop) = None
opening_report node leading written (TurnedAway why) = None

-- what is noted goes on with the report, if there is one
abbrev pub HearsOf : Option GroupReport → Notes → Notes → Type 0
HearsOf None s next = AreSame s next
HearsOf (Some report) s next = Hears s report next × HearsAhead s report next × HearsSetUp s report next

-- ---- calls that stopped

-- what the call writes that stopped at a node last, behind one at this node
abbrev pub stopped_behind : ℕ → Option EntryPayload → EventOutcome → (ℕ → Option EntryPayload) → ℕ → Option EntryPayload
stopped_behind node written (Done parts) before other = before other
stopped_behind node written (Cleaned groups) before other = before other
stopped_behind node written (Refused why) before other = before other
stopped_behind node written (Stopped stop) before other = if other == node then option_or written (before other) else before other
stopped_behind node written (TurnedAway why) before other = before other

-- what stopped at a node is kept until the node is opened
abbrev pub IsKeptUntilDone : EventOutcome → Option EntryPayload → Option EntryPayload → Type 0
IsKeptUntilDone (Done parts) before behind = Unit {0}
IsKeptUntilDone (Cleaned groups) before behind = behind ≡ before
IsKeptUntilDone (Refused why) before behind = behind ≡ before
IsKeptUntilDone (Stopped stop) before behind = behind ≡ before
IsKeptUntilDone (TurnedAway why) before behind = behind ≡ before

-- ---- one group

-- a call or message came to the node, which leads the group with this behind it
pub record IsCallHeard (node : ℕ) (leading : Option Leading) (outcome : EventOutcome) (accepted : Option Acceptance) (brought : Brought) (old new : KeptGroup) : Type 0 where
  pub set_up : Option SetUp
  pub first : IsFirst old.list.notes brought.set_up set_up
  pub list : HearsOf (report_of node leading accepted set_up brought.written outcome) old.list.notes new.list.notes
  pub stopped : (other : ℕ) → stopped_at new.stopped.items other ≡ stopped_behind node brought.written outcome (stopped_at old.stopped.items) other

-- the node was opened, or not
pub record IsOpeningHeard (node : ℕ) (leading : Option Leading) (outcome : EventOutcome) (old new : KeptGroup) : Type 0 where
  pub list : HearsOf (opening_report node leading (stopped_at old.stopped.items node) outcome) old.list.notes new.list.notes
  pub others : (other : ℕ) → (other ≡ node → ⊥) → stopped_at new.stopped.items other ≡ stopped_at old.stopped.items other
  pub own : IsKeptUntilDone outcome (stopped_at old.stopped.items node) (stopped_at new.stopped.items node)
