-- What is heard of an event in a group, and when it is what happened.
use Rattle.std.specs.Prelude.{◌≡◌, ◌⊎◌, ℕ, ◌≤◌, Bool, List, [], ◌∷◌, ◌++◌, length, slice_get, Option, Some, None, MatchOption, Contains, unwrap_or}
use Rattle.raft_values.specs.declared.log_id.LogId.{LogId}
use Rattle.raft_state.specs.declared.entry.EntryPayload.TheVariants.{Blank}
use Rattle.raft_group_step.specs.Values.{Entry, EntryPayload, Membership, entry_of}
use Rattle.raft_group_step.specs.Message.{Message}
use Rattle.raft_laws.specs.BallotLists.{AgreeBelow}
use Rattle.raft_laws.specs.declared.world_event.WorldEvent.{WorldEvent}
use Rattle.raft_laws.specs.declared.world_event.WorldEvent.TheVariants.{Restart}
use Rattle.raft_laws.specs.GroupWorld.{GroupWorld, Led, Outcome, Recorded}
use Rattle.raft_laws.specs.GroupRun.{At, Replays, led_after, outcome_of, scene_of, sent_in, setup_after}
use Rattle.raft_laws.specs.NodeEvent.{NodeEvent}
use Rattle.raft_laws.specs.OneList.{IsGroupHistory}
use Rattle.raft_list_facts.specs.Accepting.{accepted_in}
use Rattle.raft_list_facts.specs.declared.acceptance.Acceptance.{Acceptance}
use Rattle.raft_list_facts.specs.declared.leading.Base.{Base}
use Rattle.raft_list_facts.specs.declared.leading.Base.TheVariants.{Nothing, UpTo, Unknown}
use Rattle.raft_list_facts.specs.declared.leading.Leading.{Leading}
use Rattle.raft_list_laws.specs.Accounts.{Accounts, AreTrue}
use Rattle.raft_list_laws.specs.Bases.{base_of}
use Rattle.raft_list_laws.specs.Changes.{with_setup}
use Rattle.raft_group_lists.specs.Notes.{EndsWith, Notes, accounts_of}
use Rattle.raft_list_steps.specs.declared.report.GroupReport.{GroupReport}
use Rattle.raft_list_steps.specs.declared.report.SetUp.{SetUp}
use Rattle.raft_list_steps.specs.Lists.{HasListBy, IsLedFront, IsListOf, IsSetUpAhead, setup_entry}

-- ---- the set-up

-- the membership that an event sets the group up with, if it wasn't set up before
abbrev pub first_setup : Option Membership → WorldEvent → Outcome → Option Membership
first_setup None e o = setup_after None e o
first_setup (Some m) e o = None

abbrev pub SaysSetUp : Option SetUp → Option Membership → Type 0
SaysSetUp said first = MatchOption said (first ≡ None) (λ s. (first ≡ Some s.membership) × (s.voters ≡ s.membership.configs))

-- ---- messages

abbrev pub listed : Option Acceptance → List Acceptance
listed None = []
listed (Some accepted) = accepted ∷ []

-- what messages accept
abbrev pub accepted_by : List Message → List Acceptance
accepted_by [] = []
accepted_by (m ∷ ms) = listed (accepted_in m.body) ++ accepted_by ms

-- one of them accepts at most
abbrev pub AcceptsOnce : List Message → Type 0
AcceptsOnce sent = (accepted_by sent ≡ []) ⊎ ((x : Acceptance) × (accepted_by sent ≡ x ∷ []))

-- what an event sends, if it does, accepts once at most
abbrev pub EventsAcceptOnce : Type 0
EventsAcceptOnce = (w : GroupWorld) (e : WorldEvent) (stops : Bool) → AcceptsOnce (sent_in (outcome_of w e stops))

-- a node that is opened accepts nothing
abbrev pub OpeningsAcceptNothing : Type 0
OpeningsAcceptNothing = (w : GroupWorld) (n : ℕ) (stops : Bool) → accepted_by (sent_in (outcome_of w (Restart n) stops)) ≡ []

-- ---- the note of a leader

-- where a leader's list goes on from: what it was noted with last, or what it took over
abbrev pub start_of : List Entry → List Entry → List Entry
start_of [] taken = taken
start_of (e ∷ es) taken = e ∷ es

-- what a new entry asks for: what the event writes, or nothing, as with the first own entry of each leader
abbrev pub new_payload : List Entry → Option EntryPayload → EntryPayload
new_payload [] written = Blank
new_payload (e ∷ es) written = unwrap_or written Blank

-- the list goes on from its start with one entry, or it is its start
abbrev pub IsGained : List Entry → Entry → List Entry → Type 0
IsGained start e list = (list ≡ start) ⊎ (list ≡ start ++ e ∷ [])

-- the last log id, if there is one
abbrev pub HasLast : List Entry → Option (LogId ℕ) → Type 0
HasLast list last = MatchOption last (list ≡ []) (λ id. EndsWith list id)

-- what a leader took over is told
abbrev pub IsBase : List Entry → Base → Type 0
IsBase taken Nothing = taken ≡ []
IsBase taken (UpTo id) = EndsWith taken id
IsBase taken Unknown = ⊥

-- what a leader tells of its list is so, by accounts of the notes before this one
pub record IsLeadOf (leading : Leading) (written : Option EntryPayload) (w w' : GroupWorld) (l : Led) : Type 0 where
  pub vote : l.vote ≡ leading.vote
  pub last : HasLast l.list leading.last
  -- a leader that wasn't noted before took over all up to this log id
  pub base : (a : Accounts) (v : GroupWorld) → AreTrue a v → v.led ≡ w.led → a.latest l.vote ≡ [] → IsBase (base_of l) leading.base
  -- its list has one new entry at most
  pub gains : (a : Accounts) (v : GroupWorld) → AreTrue a v → v.led ≡ w.led → (last : LogId ℕ) → leading.last ≡ Some last
      → IsGained (start_of (a.latest l.vote) (base_of l)) (entry_of last (new_payload (a.latest l.vote) written)) l.list
  -- what it took over another leader was noted with before, or it is the set-up's entry alone, or nothing
  pub taken : (length (base_of l) ≤ 1) ⊎ IsLedFront w (base_of l)
  -- the set-up's entry is the first
  pub first : (m : Membership) → w'.setup ≡ Some m → slice_get l.list 0 ≡ Some (setup_entry m)

-- these are the notes of an event: none, or one of which the report tells
abbrev pub SaysLead : Option Leading → Option EntryPayload → GroupWorld → GroupWorld → List Led → Type 0
SaysLead leading written w w' notes =
    MatchOption leading (notes ≡ []) (λ x. (l : Led) × (notes ≡ l ∷ []) × IsLeadOf x written w w' l)

-- ---- all of it

-- a history leads to the world, and its next event to the other one
pub record IsBehind (ids : List ℕ) (w : GroupWorld) (r : Recorded) (w' : GroupWorld) : Type 0 where
  pub history : List Recorded
  pub before : IsGroupHistory ids history w
  pub event : Replays w (r ∷ []) w'

-- the report says what happened in the group by the event between the two worlds
pub record IsReportOf (report : GroupReport) (w : GroupWorld) (r : Recorded) (w' : GroupWorld) : Type 0 where
  pub node : (n : ℕ) (at : NodeEvent) → scene_of w r.event ≡ At n at → n ≡ report.node
  pub set_up : SaysSetUp report.set_up (first_setup w.setup r.event r.outcome)
  pub leads : SaysLead report.leading report.written w w' (led_after r.outcome report.node (w'.nodes report.node))
  pub senders : (m : Message) → Contains (sent_in r.outcome) m → m.sender ≡ report.node
  pub accepted : accepted_by (sent_in r.outcome) ≡ listed report.accepted

-- what was noted of the world is then noted of the one behind the event, whose list goes on from that of the first
pub record IsHeard (s : Notes) (w' : GroupWorld) (next : Notes) : Type 0 where
  pub truth : IsListOf next w'
  pub grows : AgreeBelow (length (accounts_of s).list) (accounts_of s).list (accounts_of next).list

abbrev pub Hears : Notes → GroupReport → Notes → Type 0
Hears s report next =
    (ids : List ℕ) (w : GroupWorld) (r : Recorded) (w' : GroupWorld) → IsBehind ids w r w' → IsReportOf report w r w'
    → IsListOf s w → IsHeard s w' next

-- the same where a set-up was heard ahead: the report says of none, and the event takes none but that
pub record IsReportAhead (report : GroupReport) (w : GroupWorld) (r : Recorded) (w' : GroupWorld) (m : Membership) : Type 0 where
  pub node : (n : ℕ) (at : NodeEvent) → scene_of w r.event ≡ At n at → n ≡ report.node
  pub set_up : report.set_up ≡ None
  pub same : (first : Membership) → first_setup w.setup r.event r.outcome ≡ Some first → first ≡ m
  pub leads : SaysLead report.leading report.written w w' (led_after r.outcome report.node (w'.nodes report.node))
  pub senders : (m : Message) → Contains (sent_in r.outcome) m → m.sender ≡ report.node
  pub accepted : accepted_by (sent_in r.outcome) ≡ listed report.accepted

abbrev pub HearsAhead : Notes → GroupReport → Notes → Type 0
HearsAhead s report next =
    (ids : List ℕ) (w : GroupWorld) (r : Recorded) (w' : GroupWorld) → IsBehind ids w r w' → (ahead : IsSetUpAhead s w)
    → IsReportAhead report w r w' ahead.membership → HasListBy ahead.membership next w'

-- a set-up alone is heard where nobody led yet, also one that wasn't taken
abbrev pub HearsSetUp : Notes → GroupReport → Notes → Type 0
HearsSetUp s report next =
    (w : GroupWorld) (m : Membership) → SaysSetUp report.set_up (Some m) → report.leading ≡ None → report.accepted ≡ None
    → w.setup ≡ None → w.led ≡ [] → IsListOf s w → IsListOf next (with_setup w m)

-- the reports of one event after another
abbrev pub AreReportsOf : List ℕ → List GroupReport → GroupWorld → List Recorded → GroupWorld → Type 0
AreReportsOf ids [] w [] end = end ≡ w
AreReportsOf ids [] w (r ∷ rs) end = ⊥
AreReportsOf ids (x ∷ xs) w [] end = ⊥
AreReportsOf ids (x ∷ xs) w (r ∷ rs) end =
    (middle : GroupWorld) × IsBehind ids w r middle × IsReportOf x w r middle × AreReportsOf ids xs middle rs end
