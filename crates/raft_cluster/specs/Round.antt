-- A round: events that each are for another node, run at once.
use Rattle.std.specs.Prelude.{◌≡◌, ◌⊎◌, ◌<◌, ◌≤◌, ℕ, ◌==◌, Bool, true, false, not, ◌&&◌, List, [], ◌∷◌, ◌++◌, length, take}
use Rattle.std.specs.Prelude.{Option, Some, None, map, position, slice_get, slice_set}
use Rattle.std.specs.List.{AllByRecursion, list_any}
use Rattle.raft_cluster_conditions.specs.declared.reasons.ClusterRefusal.{ClusterRefusal}
use Rattle.raft_cluster_conditions.specs.declared.reasons.NodeStanding.TheVariants.{Missing}
use Rattle.raft_cluster_conditions.specs.Refusal.{refusal_of}
use Rattle.raft_cluster_events.specs.declared.event.ClusterEvent.{ClusterEvent}
use Rattle.raft_cluster_events.specs.declared.event.ClusterEvent.TheVariants.{AddGroup, Ask, Deliver, ResetPeer, Clean, Fuse, Crash, Reopen}
use Rattle.raft_cluster_events.specs.declared.outcome.CrashRefusal.TheVariants.{Memory}
use Rattle.raft_cluster_events.specs.declared.outcome.EventOutcome.{EventOutcome}
use Rattle.raft_cluster_events.specs.declared.outcome.EventOutcome.TheVariants.{TurnedAway}
use Rattle.raft_cluster_events.specs.declared.outcome.Recorded.{Recorded}
use Rattle.raft_cluster_events.specs.Node.{NodeActs}
use Rattle.raft_sent_frames.specs.Frames.{frames_of}
use Rattle.raft_group_step.specs.GroupEvent.{GroupCall}
use Rattle.raft_group_step.specs.declared.group_call.GroupCall.TheVariants.{Initialize, Elect, Propose, ChangeMembership, Heartbeat, Lost, TriggerSnapshot, TriggerPurge}
use Rattle.raft_cluster.specs.declared.answer.Answer.{Answer}
use Rattle.raft_cluster.specs.declared.round.RoundRefusal.{RoundRefusal}
use Rattle.raft_cluster.specs.declared.round.RoundRefusal.TheVariants as refused
use Rattle.raft_cluster.specs.Cluster.{ClusterValue, IsRefusedFor, Runs, RunsTo, events_of}
use Rattle.raft_cluster.specs.Facts.{Sent, asked_of, cuts_of, node_of, place_in}
use Rattle.raft_cluster.specs.Happening.{RefusesFor}
use Rattle.raft_cluster.specs.Turn.{HappensAt, IsAnswered, IsAtTurn, refusal_for}

-- ---- which events make a round

abbrev pub is_that : Option ℕ → ℕ → Bool
is_that None id = false
is_that (Some other) id = other == id

-- the event is for the node of this id
abbrev pub is_for : Sent → ℕ → ClusterEvent → Bool
is_for sent id event = is_that (node_of sent event) id

abbrev pub is_apart_from : Sent → Option ℕ → List ClusterEvent → Bool
is_apart_from sent None others = false
is_apart_from sent (Some id) others = not (list_any (is_for sent id) others)

-- each event is for a node, and none of those behind it is for the same one. A frame that isn't there has no node
abbrev pub is_round : Sent → List ClusterEvent → Bool
is_round sent [] = true
is_round sent (event ∷ events) = is_apart_from sent (node_of sent event) events && is_round sent events

-- the round is refused for its events
abbrev pub is_for_nodes : RoundRefusal → Bool
is_for_nodes refused.SameNode = true
is_for_nodes refused.Memory = false

-- ---- set-ups of one group

abbrev pub is_set_up : GroupCall → Bool
is_set_up (Initialize membership) = true
is_set_up Elect = false
is_set_up (Propose command token) = false
is_set_up (ChangeMembership change token) = false
is_set_up Heartbeat = false
is_set_up (Lost peer) = false
is_set_up TriggerSnapshot = false
is_set_up (TriggerPurge place) = false

-- the event sets up the group
abbrev pub sets_up : ℕ → ClusterEvent → Bool
sets_up group (Ask node g call now) = is_set_up call && g == group
sets_up group (AddGroup node g) = false
sets_up group (Deliver g number cuts now) = false
sets_up group (ResetPeer node peer) = false
sets_up group (Clean node) = false
sets_up group (Fuse node first_refused) = false
sets_up group (Crash node choice) = false
sets_up group (Reopen node workers) = false

-- it does so at another node than this one
abbrev pub sets_up_elsewhere : Sent → ℕ → ℕ → ClusterEvent → Bool
sets_up_elsewhere sent group node event = sets_up group event && not (is_for sent node event)

-- whether a set-up is refused depends on the other ones of its group, so it waits for its turn
abbrev pub has_to_wait : Sent → List ClusterEvent → ClusterEvent → Bool
has_to_wait sent events (Ask node group call now) = is_set_up call && list_any (sets_up_elsewhere sent group node) events
has_to_wait sent events (AddGroup node group) = false
has_to_wait sent events (Deliver group number cuts now) = false
has_to_wait sent events (ResetPeer node peer) = false
has_to_wait sent events (Clean node) = false
has_to_wait sent events (Fuse node first_refused) = false
has_to_wait sent events (Crash node choice) = false
has_to_wait sent events (Reopen node workers) = false

-- ---- crashes, which come to their nodes first

abbrev pub is_crash : ClusterEvent → Bool
is_crash (AddGroup node group) = false
is_crash (Ask node group call now) = false
is_crash (Deliver group number cuts now) = false
is_crash (ResetPeer node peer) = false
is_crash (Clean node) = false
is_crash (Fuse node first_refused) = false
is_crash (Crash node choice) = true
is_crash (Reopen node workers) = false

-- ---- nodes ahead of their events' turns

-- the place of the first of these ids
abbrev pub place_by : List ℕ → Option ℕ → Option ℕ
place_by ids None = None
place_by ids (Some id) = position (λ other. other == id) ids

abbrev pub are_idle : List (Option Answer) → Type 0
are_idle answers = AllByRecursion (λ (a : Option Answer). a ≡ None) answers

-- it is one of these
abbrev pub IsIn : List ClusterEvent → ClusterEvent → Type 0
IsIn events event = (at : ℕ) × (slice_get events at ≡ Some event)

module _ {N : Type 0} (acts : NodeActs N) (sent : Sent) (history : List Recorded) (events : List ClusterEvent) where
  -- nothing that the other events of the round do decides whether this one is turned away, and it isn't
  pub record IsFree (before : N) (event : ClusterEvent) : Type 0 where
    pub admitted : refusal_for acts before sent history event ≡ None
    pub waits : has_to_wait sent events event ≡ false

module _ {N : Type 0} (acts : NodeActs N) (ids : List ℕ) (sent : Sent) (history : List Recorded) (events : List ClusterEvent) where
  -- the node at this place answered one of these events, whose turn is still to come
  pub record IsAheadOf (left : List ClusterEvent) (place : ℕ) (before now : N) (answer : Answer) : Type 0 where
    pub event : ClusterEvent
    pub among : IsIn left event
    pub here : place_by ids (node_of sent event) ≡ Some place
    pub free : IsFree acts sent history events before event
    pub answered : IsAnswered acts sent event before answer now

  -- what a node is of a round whose events so far came one after another: those are still to come
  abbrev pub HasPart : List ClusterEvent → ℕ → N → N → Option Answer → Type 0
  HasPart left place before now None = now ≡ before
  HasPart left place before now (Some answer) = IsAheadOf left place before now answer

  pub record AreAhead (left : List ClusterEvent) (before now : List N) (answers : List (Option Answer)) : Type 0 where
    pub ids_before : map acts.id before ≡ ids
    pub ids_now : map acts.id now ≡ ids
    pub each : length answers ≡ length now
    pub parts : (place : ℕ) (old new : N) (answer : Option Answer) → slice_get before place ≡ Some old
        → slice_get now place ≡ Some new → slice_get answers place ≡ Some answer → HasPart left place old new answer

module _ {N : Type 0} (acts : NodeActs N) (ids : List ℕ) (sent : Sent) (history : List Recorded) where
  -- if the event is a crash to which its node has no answer, it is turned away: else it was asked for
  abbrev pub IsAsked : ClusterEvent → List N → List (Option Answer) → Type 0
  IsAsked event before answers =
      (place : ℕ) (node : N) → is_crash event ≡ true → place_by ids (node_of sent event) ≡ Some place → slice_get before place ≡ Some node
      → slice_get answers place ≡ Some None → refusal_for acts node sent history event ≡ None → ⊥

  -- so it is of each of these
  abbrev pub AreAsked : List ClusterEvent → List N → List (Option Answer) → Type 0
  AreAsked asked before answers = (at : ℕ) (event : ClusterEvent) → slice_get asked at ≡ Some event → IsAsked event before answers

-- ---- one event's turn

module _ {N : Type 0} (acts : NodeActs N) (sent : Sent) (history : List Recorded) (event : ClusterEvent) (now : List N) (answers : List (Option Answer)) where
  -- there is no node for it
  pub record HasNoTurn (o : EventOutcome) (now' : List N) (answers' : List (Option Answer)) (later : Sent) : Type 0 where
    pub nowhere : place_in acts now (node_of sent event) ≡ None
    pub why : ClusterRefusal
    pub refused : Some why ≡ refusal_of Missing (asked_of history sent event) (cuts_of event)
    pub outcome : o ≡ TurnedAway why
    pub nodes : now' ≡ now
    pub left : answers' ≡ answers
    pub sends : later ≡ sent

  -- it happens at its node, which has no answer left
  pub record HasTurn (o : EventOutcome) (now' : List N) (answers' : List (Option Answer)) (later : Sent) : Type 0 where
    pub place : ℕ
    pub node : N
    pub answer : Option Answer
    pub behind : N
    pub here : place_in acts now (node_of sent event) ≡ Some place
    pub there : slice_get now place ≡ Some node
    pub answered : slice_get answers place ≡ Some answer
    pub nodes : now' ≡ slice_set now place behind
    pub left : answers' ≡ slice_set answers place None
    pub happens : (before : N) → IsAtTurn acts sent history event before node answer → HappensAt acts before sent history event o later behind

  -- its node, which has no answer to it, lacks memory for it, and nothing turns it away: it doesn't happen
  pub record WantsMemory : Type 0 where
    pub place : ℕ
    pub node : N
    pub here : place_in acts now (node_of sent event) ≡ Some place
    pub there : slice_get now place ≡ Some node
    pub unanswered : slice_get answers place ≡ Some None
    pub admitted : refusal_for acts node sent history event ≡ None
    pub refuses : RefusesFor acts event node Memory

  abbrev pub IsTurned : EventOutcome → List N → List (Option Answer) → Sent → Type 0
  IsTurned o now' answers' later = HasTurn o now' answers' later ⊎ HasNoTurn o now' answers' later

-- ---- a whole round

module _ {N : Type 0} (acts : NodeActs N) where
  -- of these events so many come before a crash for which its own node, as it is before the round, says that it lacks memory
  abbrev pub LacksMemoryAt : List N → Sent → List ClusterEvent → ℕ → Type 0
  LacksMemoryAt nodes sent asked count =
      (event : ClusterEvent) × (slice_get asked count ≡ Some event) × IsRefusedFor acts nodes sent event Memory

  -- the round did what so many of these events do one after another: all of them, or those before a crash whose node lacks memory
  pub record Rounds (old : ClusterValue N) (asked : List ClusterEvent) (count : ℕ) (new : ClusterValue N) : Type 0 where
    pub within : count ≤ length asked
    pub runs : Runs acts old (take count asked) new
    pub ends : count < length asked → LacksMemoryAt old.nodes (frames_of old.sent) asked count

  -- records of these events lead from the one to the other, and no node has an answer left
  pub record TakesTurns (sent : Sent) (past : List Recorded) (before : List N) (asked : List ClusterEvent)
      (now : List N) (answers : List (Option Answer)) (later : Sent) (behind : List Recorded) : Type 0 where
    pub records : List Recorded
    pub history : behind ≡ past ++ records
    pub events : events_of records ≡ asked
    pub runs : RunsTo acts before sent past records now later
    pub idle : are_idle answers

  -- so it is of so many of these
  pub record RunsFront (sent : Sent) (past : List Recorded) (before : List N) (asked : List ClusterEvent) (count : ℕ)
      (now : List N) (answers : List (Option Answer)) (later : Sent) (behind : List Recorded) : Type 0 where
    pub within : count ≤ length asked
    pub turns : TakesTurns sent past before (take count asked) now answers later behind
    pub ends : count < length asked → LacksMemoryAt before sent asked count
