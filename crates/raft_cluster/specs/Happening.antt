-- What an event does that comes to its node.
use Rattle.std.specs.Prelude.{◌≡◌, ◌⊎◌, ℕ, List, [], ◌∷◌, Option, Some, None, Result, Ok, Err}
use Rattle.raft_sent_frames.specs.declared.frame.SentFrame.{SentFrame}
use Rattle.raft_cluster_conditions.specs.declared.reasons.ClusterRefusal.{ClusterRefusal}
use Rattle.raft_cluster_conditions.specs.declared.reasons.ClusterRefusal.TheVariants as away
use Rattle.raft_cluster_events.specs.declared.event.ClusterEvent.{ClusterEvent}
use Rattle.raft_cluster_events.specs.declared.event.ClusterEvent.TheVariants.{AddGroup, Ask, Deliver, ResetPeer, Clean, Fuse, Crash, Reopen}
use Rattle.raft_cluster_events.specs.declared.node.NodeOutcome.{NodeOutcome}
use Rattle.raft_cluster_events.specs.declared.outcome.CrashRefusal.{CrashRefusal}
use Rattle.raft_cluster_events.specs.declared.outcome.CrashRefusal.TheVariants as crash
use Rattle.raft_cluster_events.specs.declared.outcome.EventOutcome.{EventOutcome}
use Rattle.raft_cluster_events.specs.declared.outcome.EventOutcome.TheVariants.{Cleaned, Done, Refused, Stopped, TurnedAway}
use Rattle.raft_cluster_events.specs.declared.outcome.GroupOutcome.{GroupOutcome}
use Rattle.raft_cluster_events.specs.declared.outcome.NodeError.{NodeError}
use Rattle.raft_cluster_events.specs.declared.outcome.NodeError.TheVariants as errors
use Rattle.raft_cluster_events.specs.declared.outcome.Stop.{Stop}
use Rattle.raft_cluster_events.specs.declared.outcome.StopCause.TheVariants.{Memory}
use Rattle.raft_cluster_events.specs.Node.{NodeActs}
use Rattle.raft_cluster.specs.Facts.{Sent, delivered}
use Rattle.raft_node_laws.specs.Answered.{Answered, none_of, one_of, opening_of, some_of, stop_behind}
use Rattle.raft_node_laws.specs.Delivery.{Comes, pieces_from}
use Rattle.raft_cluster.specs.Sending.{AreSent}

-- what the node answers: what it did in groups, or which groups hold old files back behind a cleaning
pub data NodeAnswer : Type 0 where
  Did : (answered : Answered) → NodeAnswer
  HasCleaned : (answered : Result (List ℕ) NodeError) → NodeAnswer

-- what becomes of an event that the node didn't do
abbrev pub over : NodeError → EventOutcome
over (errors.Refused why) = Refused why
over (errors.Stopped stop) = Stopped stop

-- what becomes of a cleaning: the groups that hold old files back are named
abbrev pub cleaned : Result (List ℕ) NodeError → EventOutcome
cleaned (Ok groups) = Cleaned groups
cleaned (Err error) = over error

-- what a crash that its node refuses is turned away for; without memory it is as if it had never been asked for
abbrev pub turned_by : CrashRefusal → Option ClusterRefusal
turned_by crash.NotAnImage = Some away.NotAnImage
turned_by crash.ByChance = Some away.ByChance
turned_by crash.Memory = None

-- it is for one group of its node
abbrev pub IsOfGroup : ClusterEvent → Type 0
IsOfGroup (AddGroup node group) = Unit {0}
IsOfGroup (Ask node group call now) = Unit {0}
IsOfGroup (Deliver group number cuts now) = Unit {0}
IsOfGroup (ResetPeer node peer) = ⊥
IsOfGroup (Clean node) = ⊥
IsOfGroup (Fuse node first_refused) = ⊥
IsOfGroup (Crash node choice) = ⊥
IsOfGroup (Reopen node workers) = ⊥

module _ {N : Type 0} (acts : NodeActs N) where
  -- the frame comes whole, in the pieces into which the event cuts it
  abbrev pub Delivers : Option SentFrame → List ℕ → ℕ → N → NodeAnswer → N → Type 0
  Delivers None cuts now old answered new = (answered ≡ Did (Ok [])) × (new ≡ old)
  Delivers (Some frame) cuts now old answered new =
      (r : Result (Option NodeOutcome) NodeError) × Comes acts frame.sender now old (pieces_from frame.bytes 0 cuts) r new × (answered ≡ Did (some_of r))

  -- what the node answers to the event, and what it is then
  abbrev pub Answers : Sent → ClusterEvent → N → NodeAnswer → N → Type 0
  Answers sent (AddGroup node group) old answered new =
      (r : Result NodeOutcome NodeError) × acts.adds old group r new × (answered ≡ Did (one_of r))
  Answers sent (Ask node group call now) old answered new =
      (r : Result NodeOutcome NodeError) × acts.asks old group call now r new × (answered ≡ Did (one_of r))
  Answers sent (Deliver group number cuts now) old answered new =
      Delivers (delivered sent (Deliver group number cuts now)) cuts now old answered new
  Answers sent (ResetPeer node peer) old answered new =
      (r : Result (Unit {0}) NodeError) × acts.resets old peer r new × (answered ≡ Did (none_of r))
  Answers sent (Clean node) old answered new =
      (r : Result (List ℕ) NodeError) × acts.cleans old r new × (answered ≡ HasCleaned r)
  Answers sent (Fuse node first_refused) old answered new = acts.fuses old first_refused new × (answered ≡ Did (Ok []))
  Answers sent (Crash node choice) old answered new = acts.crashes old choice new × (answered ≡ Did (Ok []))
  Answers sent (Reopen node workers) old answered new =
      (r : Result (List NodeOutcome) Stop) × acts.reopens old workers r new × (answered ≡ Did (opening_of r))

  -- what one group did isn't said: the node stops, and its stop has the event's own tokens, too
  pub record FailsBehind (old : N) (outcomes : List NodeOutcome) (stop : Stop) (new : N) : Type 0 where
    pub outcome : NodeOutcome
    pub one : outcomes ≡ outcome ∷ []
    pub named : Stop
    pub fails : acts.fails old named new
    pub same : stop ≡ stop_behind outcome named

  -- without memory for what was done the node stops; one that was being opened goes down
  abbrev pub StopsFor : ClusterEvent → N → List NodeOutcome → Stop → N → Type 0
  StopsFor (AddGroup node group) old outcomes stop new = FailsBehind old outcomes stop new
  StopsFor (Ask node group call now) old outcomes stop new = FailsBehind old outcomes stop new
  StopsFor (Deliver group number cuts now) old outcomes stop new = FailsBehind old outcomes stop new
  StopsFor (ResetPeer node peer) old outcomes stop new = ⊥
  StopsFor (Clean node) old outcomes stop new = ⊥
  StopsFor (Fuse node first_refused) old outcomes stop new = ⊥
  StopsFor (Crash node choice) old outcomes stop new = ⊥
  StopsFor (Reopen node workers) old outcomes stop new =
      (stop ≡ record { cause = Memory; unsaid = None; unknown = [] }) × acts.closes old new

  -- the frames are sent
  pub record IsDone (sent : Sent) (old : N) (outcomes : List NodeOutcome) (o : EventOutcome) (later : Sent) (new : N) : Type 0 where
    pub parts : List GroupOutcome
    pub outcome : o ≡ Done parts
    pub sends : AreSent sent (acts.id old) outcomes parts later
    pub node : new ≡ old

  -- memory was refused behind the event: no frame is sent
  pub record LacksMemory (sent : Sent) (event : ClusterEvent) (old : N) (outcomes : List NodeOutcome) (o : EventOutcome) (later : Sent) (new : N) : Type 0 where
    pub stop : Stop
    pub outcome : o ≡ Stopped stop
    pub sends : (group : ℕ) → later group ≡ sent group
    pub node : StopsFor event old outcomes stop new

  -- the node didn't do it, or was cleaned: nothing is sent
  pub record IsOver (sent : Sent) (old : N) (named : EventOutcome) (o : EventOutcome) (later : Sent) (new : N) : Type 0 where
    pub outcome : o ≡ named
    pub sends : (group : ℕ) → later group ≡ sent group
    pub node : new ≡ old

  -- what the node answered becomes the event's outcome
  abbrev pub Settles : Sent → ClusterEvent → N → NodeAnswer → EventOutcome → Sent → N → Type 0
  Settles sent event old (Did (Ok outcomes)) outcome later new =
      IsDone sent old outcomes outcome later new ⊎ LacksMemory sent event old outcomes outcome later new
  Settles sent event old (Did (Err error)) outcome later new = IsOver sent old (over error) outcome later new
  Settles sent event old (HasCleaned r) outcome later new = IsOver sent old (cleaned r) outcome later new

  -- the event comes to the node, which stays the one that it is
  pub record ComesTo (sent : Sent) (event : ClusterEvent) (old : N) (outcome : EventOutcome) (later : Sent) (new : N) : Type 0 where
    pub answered : NodeAnswer
    pub behind : N
    pub answers : Answers sent event old answered behind
    pub settles : Settles sent event behind answered outcome later new
    pub id_behind : acts.id behind ≡ acts.id old
    pub id : acts.id new ≡ acts.id old

  -- the node refuses the event for this reason: it is a crash, and the node's files can't be left so
  abbrev pub RefusesFor : ClusterEvent → N → CrashRefusal → Type 0
  RefusesFor (AddGroup node group) before why = ⊥
  RefusesFor (Ask node group call now) before why = ⊥
  RefusesFor (Deliver group number cuts now) before why = ⊥
  RefusesFor (ResetPeer node peer) before why = ⊥
  RefusesFor (Clean node) before why = ⊥
  RefusesFor (Fuse node first_refused) before why = ⊥
  RefusesFor (Crash node choice) before why = acts.refuses before choice why
  RefusesFor (Reopen node workers) before why = ⊥

  -- the event is turned away for what its node says, and nothing changes
  pub record IsSpared (sent : Sent) (event : ClusterEvent) (old : N) (o : EventOutcome) (later : Sent) (new : N) : Type 0 where
    pub why : CrashRefusal
    pub refuses : RefusesFor event old why
    pub away : ClusterRefusal
    pub named : turned_by why ≡ Some away
    pub outcome : o ≡ TurnedAway away
    pub sends : later ≡ sent
    pub node : new ≡ old

  -- the event comes to the node, or the node is spared it
  abbrev pub EndsAt : Sent → ClusterEvent → N → EventOutcome → Sent → N → Type 0
  EndsAt sent event old o later new = ComesTo sent event old o later new ⊎ IsSpared sent event old o later new
