-- The turn of a node's event: what the node answers, and what comes of it.
use Rattle.std.specs.Prelude.{◌≡◌, List, [], Option, Some, None, Result, Ok, Err}
use Rattle.raft_cluster_conditions.specs.declared.reasons.ClusterRefusal.{ClusterRefusal}
use Rattle.raft_cluster_conditions.specs.Refusal.{refusal_of}
use Rattle.raft_cluster_events.specs.declared.event.ClusterEvent.{ClusterEvent}
use Rattle.raft_cluster_events.specs.declared.event.ClusterEvent.TheVariants.{AddGroup, Ask, Deliver, ResetPeer, Clean, Fuse, Crash, Reopen}
use Rattle.raft_cluster_events.specs.declared.outcome.CrashRefusal.{CrashRefusal}
use Rattle.raft_cluster_events.specs.declared.outcome.EventOutcome.{EventOutcome}
use Rattle.raft_cluster_events.specs.declared.outcome.EventOutcome.TheVariants.{Done, TurnedAway}
use Rattle.raft_cluster_events.specs.declared.outcome.NodeError.{NodeError}
use Rattle.raft_cluster_events.specs.declared.outcome.Recorded.{Recorded}
use Rattle.raft_cluster_events.specs.Node.{NodeActs}
use Rattle.raft_node_laws.specs.Answered.{none_of, opening_of, some_of}
use Rattle.raft_cluster.specs.declared.answer.Answer.{Answer}
use Rattle.raft_cluster.specs.declared.answer.Answer.TheVariants.{OfGroup, Quiet, Cleaned, Opened, Spared}
use Rattle.raft_cluster.specs.Facts.{Sent, asked_of, cuts_of, standing_of}
use Rattle.raft_cluster.specs.Happening.{Answers, EndsAt, IsOfGroup, NodeAnswer, Did, HasCleaned, RefusesFor, over, turned_by}

-- an event that sends nothing is done, or it is over
abbrev pub quietly : Result (Unit {0}) NodeError → EventOutcome
quietly (Ok done) = Done []
quietly (Err error) = over error

-- it opens its node
abbrev pub IsOpening : ClusterEvent → Type 0
IsOpening (AddGroup node group) = ⊥
IsOpening (Ask node group call now) = ⊥
IsOpening (Deliver group number cuts now) = ⊥
IsOpening (ResetPeer node peer) = ⊥
IsOpening (Clean node) = ⊥
IsOpening (Fuse node first_refused) = ⊥
IsOpening (Crash node choice) = ⊥
IsOpening (Reopen node workers) = Unit {0}

module _ {N : Type 0} (acts : NodeActs N) where
  -- the event came to the node, which answered so, and is the one that it was
  pub record HasCome (sent : Sent) (event : ClusterEvent) (before : N) (answered : NodeAnswer) (behind : N) : Type 0 where
    pub answers : Answers acts sent event before answered behind
    pub id : acts.id behind ≡ acts.id before

  -- the node refused the event, which is turned away for this
  pub record HasRefused (event : ClusterEvent) (before : N) (away : ClusterRefusal) (behind : N) : Type 0 where
    pub why : CrashRefusal
    pub refuses : RefusesFor acts event before why
    pub named : turned_by why ≡ Some away
    pub node : behind ≡ before

  -- the node answered the event, and is this behind it
  abbrev pub IsAnswered : Sent → ClusterEvent → N → Answer → N → Type 0
  IsAnswered sent event before (OfGroup r) behind = IsOfGroup event × HasCome sent event before (Did (some_of r)) behind
  IsAnswered sent event before (Quiet r) behind = HasCome sent event before (Did (none_of r)) behind
  IsAnswered sent event before (Cleaned r) behind = HasCome sent event before (HasCleaned r) behind
  IsAnswered sent event before (Opened r) behind = IsOpening event × HasCome sent event before (Did (opening_of r)) behind
  IsAnswered sent event before (Spared away) behind = HasRefused event before away behind

  -- why the cluster turns an event for this node away behind a history, if it does
  abbrev pub refusal_for : N → Sent → List Recorded → ClusterEvent → Option ClusterRefusal
  refusal_for node sent history event = refusal_of (standing_of acts (Some node)) (asked_of history sent event) (cuts_of event)

  -- nothing changes
  pub record IsAwayAt (before : N) (sent : Sent) (why : ClusterRefusal) (o : EventOutcome) (later : Sent) (behind : N) : Type 0 where
    pub outcome : o ≡ TurnedAway why
    pub sends : later ≡ sent
    pub node : behind ≡ before

  abbrev pub HappensAtBy : Option ClusterRefusal → N → Sent → ClusterEvent → EventOutcome → Sent → N → Type 0
  HappensAtBy (Some why) before sent event o later behind = IsAwayAt before sent why o later behind
  HappensAtBy None before sent event o later behind = EndsAt acts sent event before o later behind

  -- an event for this node happens behind a history
  abbrev pub HappensAt : N → Sent → List Recorded → ClusterEvent → EventOutcome → Sent → N → Type 0
  HappensAt before sent history event o later behind = HappensAtBy (refusal_for before sent history event) before sent event o later behind

  -- the turn of the node's event has come: it is as it was before the event, or has answered it, which nothing turns away
  pub record IsAhead (sent : Sent) (history : List Recorded) (event : ClusterEvent) (before now : N) (answer : Answer) : Type 0 where
    pub free : refusal_for before sent history event ≡ None
    pub answered : IsAnswered sent event before answer now

  abbrev pub IsAtTurn : Sent → List Recorded → ClusterEvent → N → N → Option Answer → Type 0
  IsAtTurn sent history event before now None = now ≡ before
  IsAtTurn sent history event before now (Some answer) = IsAhead sent history event before now answer
