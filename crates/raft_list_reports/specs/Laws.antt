-- The laws by which reports that are made of what is known are true.
use Rattle.std.specs.Prelude.{◌≡◌, ℕ, List, [], ◌∷◌, Option, Some, None}
use Rattle.raft_group_step.specs.Values.{Entry, EntryPayload, Membership}
use Rattle.raft_laws.specs.declared.world_event.WorldEvent.{WorldEvent}
use Rattle.raft_laws.specs.declared.world_event.WorldEvent.TheVariants.{Add, Ask, Deliver, Crash, Halt, Restart}
use Rattle.raft_laws.specs.GroupWorld.{GroupWorld, Led, Recorded, new_world}
use Rattle.raft_laws.specs.GroupRun.{led_after, setup_after}
use Rattle.raft_list_facts.specs.declared.leading.Leading.{Leading}
use Rattle.raft_list_laws.specs.Accounts.{Accounts, AreTrue}
use Rattle.raft_list_laws.specs.Bases.{base_of}
use Rattle.raft_list_laws.specs.NewEntries.{GoesOnByOne}
use Rattle.raft_group_lists.specs.Notes.{Notes, membership_in}
use Rattle.raft_list_steps.specs.Lists.{HasListOf, IsListOf, IsSetUpAhead}
use Rattle.raft_list_steps.specs.Reports.{HasLast, IsBase, IsBehind, IsReportAhead, IsReportOf}
use Rattle.raft_list_steps.specs.declared.report.GroupReport.{GroupReport}
use Rattle.raft_list_reports.specs.Calls.{payload_of}
use Rattle.raft_list_reports.specs.Told.{AreStops, HappensAt, IsTold, StopsGoOn, leading_after}

-- an event of the node leaves this note
pub record LeavesNote (ids : List ℕ) (w : GroupWorld) (r : Recorded) (w' : GroupWorld) (node : ℕ) (l : Led) : Type 0 where
  pub behind : IsBehind ids w r w'
  pub there : HappensAt w r node
  pub note : led_after r.outcome node (w'.nodes node) ≡ l ∷ []

-- ---- what a leader tells

-- a note's vote and last log id are told
abbrev pub NotesAreTold : Type 0
NotesAreTold =
    (ids : List ℕ) (w : GroupWorld) (r : Recorded) (w' : GroupWorld) (node : ℕ) (l : Led) → LeavesNote ids w r w' node l
    → (leading : Leading) × (leading_after r.outcome (w'.nodes node) ≡ Some leading) × (l.vote ≡ leading.vote) × HasLast l.list leading.last

-- at the first note under a vote it is told what the leader took over
abbrev pub BasesAreTold : Type 0
BasesAreTold =
    (ids : List ℕ) (w : GroupWorld) (r : Recorded) (w' : GroupWorld) (node : ℕ) (l : Led) → LeavesNote ids w r w' node l
    → (leading : Leading) → leading_after r.outcome (w'.nodes node) ≡ Some leading
    → (a : Accounts) (v : GroupWorld) → AreTrue a v → v.led ≡ w.led → a.latest l.vote ≡ []
    → IsBase (base_of l) leading.base

-- ---- what is new in a note

-- the event asks for the entry, at a leader whose list has this membership in force; an opening has what the call writes that stopped
-- at its node last
abbrev pub AsksFor : (ℕ → Option EntryPayload) → Option Membership → WorldEvent → Entry → Type 0
AsksFor stopped old (Add n) e = ⊥
AsksFor stopped old (Ask n call now) e = payload_of old call ≡ Some e.payload
AsksFor stopped old (Deliver number now) e = ⊥
AsksFor stopped old (Crash n) e = ⊥
AsksFor stopped old (Halt n) e = ⊥
AsksFor stopped old (Restart n) e = stopped n ≡ Some e.payload

-- behind a leader's last list its next note has nothing, or one entry, for which the event asks
abbrev pub NewEntriesAreAsked : Type 0
NewEntriesAreAsked =
    (ids : List ℕ) (w : GroupWorld) (r : Recorded) (w' : GroupWorld) (node : ℕ) (l : Led) → LeavesNote ids w r w' node l
    → (stopped : ℕ → Option EntryPayload) → AreStops stopped w
    → (a : Accounts) (v : GroupWorld) → AreTrue a v → v.led ≡ w.led → (a.latest l.vote ≡ [] → ⊥)
    → GoesOnByOne l.vote (a.latest l.vote) (AsksFor stopped (membership_in (a.latest l.vote)) r.event) l.list

-- ---- calls that stopped

-- no node of a new world is down
abbrev pub StopsBegin : Type 0
StopsBegin = (ids : List ℕ) (stopped : ℕ → Option EntryPayload) → AreStops stopped (new_world ids)

-- what is kept of calls that stopped goes on with each event
abbrev pub StopsAreKept : Type 0
StopsAreKept =
    (ids : List ℕ) (w : GroupWorld) (r : Recorded) (w' : GroupWorld) (node : ℕ) → IsBehind ids w r w' → HappensAt w r node
    → (s : Notes) → HasListOf s w
    → (stopped next : ℕ → Option EntryPayload) → StopsGoOn s w r node stopped next → AreStops stopped w → AreStops next w'

-- ---- reports

-- a report that has what is known of an event says what happened
abbrev pub ReportsAreTrue : Type 0
ReportsAreTrue =
    (ids : List ℕ) (w : GroupWorld) (r : Recorded) (w' : GroupWorld) → IsBehind ids w r w'
    → (s : Notes) → IsListOf s w → (stopped : ℕ → Option EntryPayload) → AreStops stopped w
    → (report : GroupReport) → IsTold s stopped w r w' report → IsReportOf report w r w'

-- so it does where a set-up was heard ahead, if no other membership is set up
abbrev pub ReportsAheadAreTrue : Type 0
ReportsAheadAreTrue =
    (ids : List ℕ) (w : GroupWorld) (r : Recorded) (w' : GroupWorld) → IsBehind ids w r w'
    → (s : Notes) → (ahead : IsSetUpAhead s w) → (stopped : ℕ → Option EntryPayload) → AreStops stopped w
    → ((m : Membership) → setup_after None r.event r.outcome ≡ Some m → m ≡ ahead.membership)
    → (report : GroupReport) → IsTold s stopped w r w' report → IsReportAhead report w r w' ahead.membership
