-- Which world of a group a `World` is, and what its events leave.
use Rattle.std.specs.Prelude.{◌≡◌, ◌==◌, ℕ, zero, suc, List, [], ◌∷◌, ◌++◌, map, take, length, slice_get, Option, Some, None, is_some, Result, Ok, Err}
use Rattle.std.specs.List.{find}
use Rattle.raft_group_step.specs.Message.{Message as Sent}
use Rattle.raft_group_step.specs.GroupState.{state_of}
use Rattle.raft_group_step.specs.GroupEvent.{Open}
use Rattle.raft_group_step.specs.GroupStep.{group_step}
use Rattle.raft_conditions.specs.Reason.{reason_of}
use Rattle.raft_messages.specs.Messages.{message_of}
use Rattle.raft_laws.specs.declared.world_event.WorldEvent.{WorldEvent}
use Rattle.raft_laws.specs.declared.world_event.WorldEvent.TheVariants.{Add, Ask, Deliver, Crash, Halt, Restart}
use Rattle.raft_laws.specs.BallotLists.{AgreeBelow}
use Rattle.raft_laws.specs.GroupWorld.{GroupWorld, NodeState, Absent, Up, Down, Outcome, Done, Refused, Stopped, Skipped, Recorded, new_world}
use Rattle.raft_laws.specs.GroupRun.{Scene, Nowhere, At, group_run, history_of, outcome_of, ran, scene_of}
use Rattle.raft_laws.specs.VotesRise.{SentVotesKept, VoteKept}
use Rattle.raft_laws.specs.NodeEvent.{NodeEvent, Comes, Crashes, Halts, Restarts}
use Rattle.raft_laws.specs.StoringOrder.{StoresInOrder}
use Rattle.raft_laws.specs.OneList.{AppliedIsHeld, CommittedIsHeld, IsGroupHistory, LeadersHold, LogIdsAgree, SnapshotsAreListed}
use Rattle.raft_laws.specs.Settled.{IsGroupList, group_list}
use Rattle.raft_world.specs.Settled.{led_of}
use Rattle.raft_world.specs.Member.{IsAt}
use Rattle.raft_world.specs.declared.member.Member.{Member}
use Rattle.raft_world.specs.declared.world.World.{World}
use Rattle.raft_world.specs.declared.world.Mark.{Mark}
use Rattle.raft_world.specs.declared.world.Mark.TheVariants as mark
use Rattle.raft_world.specs.declared.world.PlannedEvent.{PlannedEvent}

-- the member with the id, if there is one
abbrev pub member_of : ℕ → List Member → Option Member
member_of id members = find (λ (m : Member). m.replica.id == id) members

-- the node with this member, if it has one, is in this state
abbrev pub IsNodeAt : Option Member → NodeState → Type 0
IsNodeAt None state = state ≡ Absent
IsNodeAt (Some m) state = IsAt m state

-- the members are in these states
abbrev pub AreNodes : List Member → (ℕ → NodeState) → Type 0
AreNodes members nodes = (n : ℕ) → IsNodeAt (member_of n members) (nodes n)

-- the first member with the id stands at this place
abbrev pub IsPlace : List Member → ℕ → ℕ → Type 0
IsPlace [] id place = ⊥
IsPlace (m ∷ ms) id zero = m.replica.id ≡ id
IsPlace (m ∷ ms) id (suc place) = (m.replica.id ≡ id → ⊥) × IsPlace ms id place

-- the place of the first member with the id, if there is one
abbrev pub IsPlaceOf : List Member → ℕ → Option ℕ → Type 0
IsPlaceOf members id None = member_of id members ≡ None
IsPlaceOf members id (Some place) = IsPlace members id place

-- it is this world
pub record IsWorldOf (w : World) (g : GroupWorld) : Type 0 where
  pub nodes : AreNodes w.members.items g.nodes
  pub messages : map message_of w.messages.items ≡ g.messages
  pub setup : w.setup ≡ g.setup
  pub led : map led_of w.led.items ≡ g.led

-- what a mark says of an outcome
abbrev pub IsMarkOf : Mark → Outcome → Type 0
IsMarkOf mark.Done (Done sent told unknown) = Unit {0}
IsMarkOf mark.Done (Refused why) = ⊥
IsMarkOf mark.Done (Stopped unknown) = ⊥
IsMarkOf mark.Done Skipped = ⊥
IsMarkOf (mark.Refused refusal) (Done sent told unknown) = ⊥
IsMarkOf (mark.Refused refusal) (Refused why) = reason_of refusal ≡ why
IsMarkOf (mark.Refused refusal) (Stopped unknown) = ⊥
IsMarkOf (mark.Refused refusal) Skipped = ⊥
IsMarkOf mark.Stopped (Done sent told unknown) = ⊥
IsMarkOf mark.Stopped (Refused why) = ⊥
IsMarkOf mark.Stopped (Stopped unknown) = Unit {0}
IsMarkOf mark.Stopped Skipped = ⊥
IsMarkOf mark.Skipped (Done sent told unknown) = ⊥
IsMarkOf mark.Skipped (Refused why) = ⊥
IsMarkOf mark.Skipped (Stopped unknown) = ⊥
IsMarkOf mark.Skipped Skipped = Unit {0}

-- the event with the number of storing commands after which it is to stop
abbrev pub planned_of : PlannedEvent → WorldEvent × Option ℕ
planned_of e = (e.event, e.stop)

-- the event happened, and the mark says what became of it
pub record HasHappened (g : GroupWorld) (e : WorldEvent) (stop : Option ℕ) (w : World) (mark : Mark) : Type 0 where
  pub world : IsWorldOf w (ran g e stop)
  pub marked : IsMarkOf mark (outcome_of g e (is_some stop))

-- the node that an event comes to
abbrev pub addressee_of : Option Sent → Option ℕ
addressee_of None = None
addressee_of (Some m) = Some m.addressee

abbrev pub node_of : GroupWorld → WorldEvent → Option ℕ
node_of g (Add n) = Some n
node_of g (Ask n call now) = Some n
node_of g (Deliver number now) = addressee_of (slice_get g.messages number)
node_of g (Crash n) = Some n
node_of g (Halt n) = Some n
node_of g (Restart n) = Some n

-- an event that met want of memory stopped after some of its storing commands, or its node went down before it
pub data BreakOf (g : GroupWorld) (e : WorldEvent) : Type 0 where
  Stops : (number : ℕ) → BreakOf g e
  GoesDown : (n : ℕ) (is_there : node_of g e ≡ Some n) → BreakOf g e

-- the break as an event with the number of storing commands after which it stopped
abbrev pub last_of : (g : GroupWorld) (e : WorldEvent) → BreakOf g e → WorldEvent × Option ℕ
last_of g e (Stops number) = (e, Some number)
last_of g e (GoesDown n is_there) = (Crash n, None)

-- the event broke off
pub record HasBroken (g : GroupWorld) (e : WorldEvent) (w : World) : Type 0 where
  pub break : BreakOf g e
  pub world : IsWorldOf w (ran g (last_of g e break).0 (last_of g e break).1)

-- the event happened, or broke off where it met want of memory
abbrev pub HasCome : {E : Type 0} → GroupWorld → WorldEvent → Option ℕ → World → Result Mark E → Type 0
HasCome g e stop w (Ok mark) = HasHappened g e stop w mark
HasCome g e stop w (Err met) = HasBroken g e w

-- the last event that was begun, where not all were run
pub data RunEnd (events : List PlannedEvent) (count : ℕ) (g : GroupWorld) : Type 0 where
  All : count ≡ length events → RunEnd events count g
  Broke : (e : PlannedEvent) → slice_get events count ≡ Some e → BreakOf g e.event → RunEnd events count g

abbrev pub rest_of : {events : List PlannedEvent} {count : ℕ} {g : GroupWorld} → RunEnd events count g → List (WorldEvent × Option ℕ)
rest_of (All is) = []
rest_of {g = g} (Broke e is break) = last_of g e.event break ∷ []

-- the group has one list; whoever leads under a vote that isn't below the one under which an entry was settled holds it up to
-- there; each node that is up holds it as far as it knows it to be committed, and as far as it has applied it, and each stored
-- snapshot is a front of it; a log id stands for one entry; and no node's vote is below one that it sent or answered as its own
pub record KeepsTheLaws (g : GroupWorld) : Type 0 where
  pub one_list : IsGroupList g (group_list g)
  pub leaders : LeadersHold g
  pub committed : CommittedIsHeld g
  pub applied : AppliedIsHeld g
  pub snapshots : SnapshotsAreListed g
  pub log_ids : LogIdsAgree g
  pub sent_votes : SentVotesKept g

-- what a node stores at an event puts no lesser vote in place of a greater, and shortens no log at or below what the node knows
-- to be committed: at each storing command, so also where the event stops. A node that is opened knows of nothing committed yet
abbrev pub StoresRightly : ℕ → NodeEvent → NodeState → Type 0
StoresRightly n e Absent = Unit {0}
StoresRightly n (Comes e) (Up s) = StoresInOrder s.committed s.stored (group_step n s e)
StoresRightly n Crashes (Up s) = Unit {0}
StoresRightly n Halts (Up s) = Unit {0}
StoresRightly n Restarts (Up s) = Unit {0}
StoresRightly n (Comes e) (Down stored) = Unit {0}
StoresRightly n Crashes (Down stored) = Unit {0}
StoresRightly n Halts (Down stored) = Unit {0}
StoresRightly n Restarts (Down stored) = StoresInOrder None stored (group_step n (state_of stored) Open)

abbrev pub StoresRightlyIn : GroupWorld → Scene → Type 0
StoresRightlyIn g Nowhere = Unit {0}
StoresRightlyIn g (At n e) = StoresRightly n e (g.nodes n)

-- so at each event of a run
abbrev pub AllStoreRightly : List (WorldEvent × Option ℕ) → GroupWorld → Type 0
AllStoreRightly [] g = Unit {0}
AllStoreRightly (e ∷ es) g = StoresRightlyIn g (scene_of g e.0) × AllStoreRightly es (ran g e.0 e.1)

-- what the group has settled stays, and no node's vote falls
pub record GoesOnFrom (before after : GroupWorld) : Type 0 where
  pub list : AgreeBelow (length (group_list before)) (group_list before) (group_list after)
  pub votes : (n : ℕ) → VoteKept (before.nodes n) (after.nodes n)

-- however far the events were run, the world is that of the definitions after them, a history led there, it keeps the laws, it
-- goes on from the one before, and nothing was stored that shortens a committed log
pub record HasRunEvents (ids : List ℕ) (rs : List Recorded) (g : GroupWorld) (events : List PlannedEvent) (count : ℕ) (w : World) : Type 0 where
  pub end : RunEnd events count (group_run (map planned_of (take count events)) g)
  pub world : IsWorldOf w (group_run (map planned_of (take count events) ++ rest_of end) g)
  pub history : IsGroupHistory ids (rs ++ history_of (map planned_of (take count events) ++ rest_of end) g) (group_run (map planned_of (take count events) ++ rest_of end) g)
  pub laws : KeepsTheLaws (group_run (map planned_of (take count events) ++ rest_of end) g)
  pub goes_on : GoesOnFrom g (group_run (map planned_of (take count events) ++ rest_of end) g)
  pub stores : AllStoreRightly (map planned_of (take count events) ++ rest_of end) g

-- each mark says what became of its event
abbrev pub AreMarks : List Mark → List Recorded → Type 0
AreMarks [] [] = Unit {0}
AreMarks [] (r ∷ rs) = ⊥
AreMarks (m ∷ ms) [] = ⊥
AreMarks (m ∷ ms) (r ∷ rs) = IsMarkOf m r.outcome × AreMarks ms rs

-- behind the marks before stand those of these events
pub record HasMarked (before : List Mark) (g : GroupWorld) (es : List (WorldEvent × Option ℕ)) (after : List Mark) : Type 0 where
  pub more : List Mark
  pub listed : after ≡ before ++ more
  pub say : AreMarks more (history_of es g)

-- the group is added at each of these nodes
abbrev pub additions : List ℕ → List (WorldEvent × Option ℕ)
additions ids = map (λ n. (Add n, None)) ids

-- the world of these nodes, which have the group and nothing in it
abbrev pub begun_world : List ℕ → GroupWorld
begun_world ids = group_run (additions ids) (new_world ids)
