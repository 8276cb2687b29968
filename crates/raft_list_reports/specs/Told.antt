-- What code knows of an event in a group, of which a report is made.
use Rattle.std.specs.Prelude.{◌≡◌, ℕ, List, [], Option, Some, None}
use Rattle.raft_group_step.specs.Values.{Entry, EntryPayload}
use Rattle.raft_group_step.specs.StoredGroup.{StoredGroup, held}
use Rattle.raft_group_step.specs.GroupState.{Untold}
use Rattle.raft_group_step.specs.GroupEvent.{GroupCall}
use Rattle.raft_group_step.specs.Message.{Message}
use Rattle.raft_laws.specs.declared.world_event.WorldEvent.TheVariants.{Ask, Restart}
use Rattle.raft_laws.specs.GroupWorld.{GroupWorld, NodeState, Down, Outcome, Done, Refused, Stopped, Skipped, Recorded}
use Rattle.raft_laws.specs.GroupRun.{At, scene_of, sent_in, setup_after}
use Rattle.raft_laws.specs.NodeEvent.{NodeEvent}
use Rattle.raft_list_facts.specs.Leads.{leading_in}
use Rattle.raft_list_facts.specs.declared.leading.Leading.{Leading}
use Rattle.raft_list_laws.specs.Accounts.{Accounts, AreTrue}
use Rattle.raft_list_laws.specs.NewEntries.{GoesOnByOne}
use Rattle.raft_group_lists.specs.Notes.{Notes}
use Rattle.raft_list_steps.specs.Reports.{accepted_by, listed}
use Rattle.raft_list_steps.specs.declared.report.GroupReport.{GroupReport}
use Rattle.raft_list_reports.specs.Calls.{IsFirstSetUp, IsWrittenBy}

-- the event is one of this node, or happens nowhere
abbrev pub HappensAt : GroupWorld → Recorded → ℕ → Type 0
HappensAt w r node = (n : ℕ) (at : NodeEvent) → scene_of w r.event ≡ At n at → n ≡ node

-- what the node tells that leads behind the event, unless that stopped or was skipped
abbrev pub leading_after : Outcome → NodeState → Option Leading
leading_after (Done sent told unknown) state = leading_in state
leading_after (Refused why) state = leading_in state
leading_after (Stopped unknown) state = None
leading_after Skipped state = None

-- the report has what is known of the event between the two worlds, by what is noted of the first, and by what the call writes that
-- stopped at each node last
pub record IsTold (s : Notes) (stopped : ℕ → Option EntryPayload) (w : GroupWorld) (r : Recorded) (w' : GroupWorld) (report : GroupReport) : Type 0 where
  pub node : HappensAt w r report.node
  -- the first set-up that was neither refused nor skipped
  pub set_up : IsFirstSetUp s (setup_after None r.event r.outcome) report.set_up
  pub leading : report.leading ≡ leading_after r.outcome (w'.nodes report.node)
  -- a call that was taken by a node that led before it
  pub asked : (call : GroupCall) (now : ℕ) (sent : List Message) (told : List Untold) (unknown : List ℕ)
      → r.event ≡ Ask report.node call now → r.outcome ≡ Done sent told unknown
      → (before : Leading) → leading_in (w.nodes report.node) ≡ Some before
      → IsWrittenBy s before.vote call report.written
  -- an opening
  pub opened : r.event ≡ Restart report.node → report.written ≡ stopped report.node
  pub accepted : accepted_by (sent_in r.outcome) ≡ listed report.accepted

-- ---- calls that stopped

-- a node that is down under a committed vote of its own has what it was noted with last, or that and one entry: what the call writes
-- that stopped at it last
pub record AreStops (stopped : ℕ → Option EntryPayload) (w : GroupWorld) : Type 0 where
  pub down : (n : ℕ) (st : StoredGroup) → w.nodes n ≡ Down st
      → (a : Accounts) (v : GroupWorld) → AreTrue a v → v.led ≡ w.led → (a.latest st.vote ≡ [] → ⊥)
      → st.vote.leader_id.node_id ≡ n
      → GoesOnByOne st.vote (a.latest st.vote) (λ (e : Entry). stopped n ≡ Some e.payload) (held st)

-- an event at the node leads from what the calls write that stopped last to this
pub record StopsGoOn (s : Notes) (w : GroupWorld) (r : Recorded) (node : ℕ) (stopped next : ℕ → Option EntryPayload) : Type 0 where
  pub others : (n : ℕ) → (n ≡ node → ⊥) → next n ≡ stopped n
  -- a call that stops at a node that led before it
  pub called : (call : GroupCall) (now : ℕ) (unknown : List ℕ) → r.event ≡ Ask node call now → r.outcome ≡ Stopped unknown
      → (before : Leading) → leading_in (w.nodes node) ≡ Some before
      → (written : Option EntryPayload) × IsWrittenBy s before.vote call written
      × ((payload : EntryPayload) → written ≡ Some payload → next node ≡ Some payload)
  -- an opening that stops
  pub reopened : (unknown : List ℕ) → r.event ≡ Restart node → r.outcome ≡ Stopped unknown → next node ≡ stopped node
  -- what is skipped changes nothing
  pub skipped : r.outcome ≡ Skipped → next node ≡ stopped node
