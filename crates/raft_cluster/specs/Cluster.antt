-- A cluster, and what its type keeps: all that happened leads to what it is.
use Rattle.std.specs.Prelude.{◌≡◌, ◌⊎◌, ◌<◌, ◌^◌, ◌==◌, ℕ, if◌then◌else◌, List, [], ◌∷◌, ◌++◌, Option, Some, None, map}
use Rattle.std.specs.List.{AllByRecursion}
use Rattle.raft_cluster_conditions.specs.declared.reasons.ClusterRefusal.{ClusterRefusal}
use Rattle.raft_cluster_conditions.specs.Refusal.{refusal_of}
use Rattle.raft_sent_frames.specs.declared.frame.SentFrame.{SentFrame}
use Rattle.raft_sent_frames.specs.Frames.{frames_of}
use Rattle.raft_cluster_events.specs.declared.event.ClusterEvent.{ClusterEvent}
use Rattle.raft_cluster_events.specs.declared.outcome.CrashRefusal.{CrashRefusal}
use Rattle.raft_cluster_events.specs.declared.outcome.EventOutcome.{EventOutcome}
use Rattle.raft_cluster_events.specs.declared.outcome.EventOutcome.TheVariants.{TurnedAway}
use Rattle.raft_cluster_events.specs.declared.outcome.Recorded.{Recorded}
use Rattle.raft_cluster_events.specs.Node.{NodeActs}
use Rattle.raft_cluster.specs.Facts.{Sent, asked_of, cuts_of, node_at, node_of, standing_of}
use Rattle.raft_cluster.specs.Happening.{ComesTo, RefusesFor, turned_by}

pub record ClusterValue (N : Type 0) : Type 0 where
  pub nodes : List N
  pub sent : List (ℕ × List SentFrame)
  pub history : List Recorded

abbrev pub events_of : List Recorded → List ClusterEvent
events_of history = map (λ (r : Recorded). r.event) history

-- before anything was sent
abbrev pub nothing_sent : Sent
nothing_sent group = []

module _ {N : Type 0} (acts : NodeActs N) where
  -- nothing changes
  pub record IsTurnedAway (old : List N) (sent : Sent) (why : ClusterRefusal) (o : EventOutcome) (new : List N) (later : Sent) : Type 0 where
    pub outcome : o ≡ TurnedAway why
    pub nodes : new ≡ old
    pub sends : later ≡ sent

  -- the first node of this id is that one from now on
  abbrev pub with_node : ℕ → N → List N → List N
  with_node id new [] = []
  with_node id new (node ∷ nodes) = if acts.id node == id then new ∷ nodes else node ∷ with_node id new nodes

  -- the event comes to its node, and every other one stays as it is
  pub record Reaches (old : List N) (sent : Sent) (event : ClusterEvent) (o : EventOutcome) (new : List N) (later : Sent) : Type 0 where
    pub before : N
    pub behind : N
    pub named : node_at acts old (node_of sent event) ≡ Some before
    pub nodes : new ≡ with_node (acts.id before) behind old
    pub comes : ComesTo acts sent event before o later behind

  -- the event's node refuses it for this reason
  pub record IsRefusedFor (nodes : List N) (sent : Sent) (event : ClusterEvent) (why : CrashRefusal) : Type 0 where
    pub node : N
    pub named : node_at acts nodes (node_of sent event) ≡ Some node
    pub refuses : RefusesFor acts event node why

  -- behind all other reasons, a crash is turned away for what its node says of its files
  pub record IsSparedThere (old : List N) (sent : Sent) (event : ClusterEvent) (o : EventOutcome) (new : List N) (later : Sent) : Type 0 where
    pub why : CrashRefusal
    pub refused : IsRefusedFor old sent event why
    pub away : ClusterRefusal
    pub named : turned_by why ≡ Some away
    pub turned : IsTurnedAway old sent away o new later

  abbrev pub HappensBy : Option ClusterRefusal → List N → Sent → ClusterEvent → EventOutcome → List N → Sent → Type 0
  HappensBy (Some why) nodes sent event outcome nodes' sent' = IsTurnedAway nodes sent why outcome nodes' sent'
  HappensBy None nodes sent event outcome nodes' sent' =
      Reaches nodes sent event outcome nodes' sent' ⊎ IsSparedThere nodes sent event outcome nodes' sent'

  -- why the cluster turns an event away behind this history, if it does
  abbrev pub refusal_in : List N → Sent → List Recorded → ClusterEvent → Option ClusterRefusal
  refusal_in nodes sent history event =
      refusal_of (standing_of acts (node_at acts nodes (node_of sent event))) (asked_of history sent event) (cuts_of event)

  -- an event behind this history: it is turned away for the first reason that holds, or comes to its node, which may be spared a crash
  abbrev pub Happens : List N → Sent → List Recorded → ClusterEvent → EventOutcome → List N → Sent → Type 0
  Happens nodes sent history event outcome nodes' sent' =
      HappensBy (refusal_in nodes sent history event) nodes sent event outcome nodes' sent'

  -- behind a history, these records lead from the one to the other
  abbrev pub RunsTo : List N → Sent → List Recorded → List Recorded → List N → Sent → Type 0
  RunsTo nodes sent history [] nodes' sent' = (nodes' ≡ nodes) × (sent' ≡ sent)
  RunsTo nodes sent history (r ∷ rs) nodes' sent' =
      (between : List N) × (gone : Sent) × Happens nodes sent history r.event r.outcome between gone × RunsTo between gone (history ++ r ∷ []) rs nodes' sent'

  -- a node that has nothing yet
  pub record IsNew (node : N) : Type 0 where
    pub id : acts.id node < 2 ^ 64
    pub begins : acts.begins (acts.id node) node

  -- the history leads there from nodes that had nothing and had sent nothing
  pub record IsReached (nodes : List N) (sent : Sent) (history : List Recorded) : Type 0 where
    pub first : List N
    pub new : AllByRecursion IsNew first
    pub runs : RunsTo first nothing_sent [] history nodes sent

  -- one event happened
  pub record Steps (old : ClusterValue N) (event : ClusterEvent) (new : ClusterValue N) : Type 0 where
    pub outcome : EventOutcome
    pub history : new.history ≡ old.history ++ record { event = event; outcome = outcome } ∷ []
    pub happens : Happens old.nodes (frames_of old.sent) old.history event outcome new.nodes (frames_of new.sent)

  -- these events happened, one after another
  pub record Runs (old : ClusterValue N) (asked : List ClusterEvent) (new : ClusterValue N) : Type 0 where
    pub records : List Recorded
    pub history : new.history ≡ old.history ++ records
    pub events : events_of records ≡ asked
    pub runs : RunsTo old.nodes (frames_of old.sent) old.history records new.nodes (frames_of new.sent)
