-- An event behind a fuse of its node's files.
use Rattle.std.specs.Prelude.{◌≡◌, ◌+◌, ◌<◌, Bool, true, false, ℕ, List, [], ◌∷◌, length, take, Option, Some, None}
use Rattle.raft_cluster_events.specs.declared.event.ClusterEvent.{ClusterEvent}
use Rattle.raft_cluster_events.specs.declared.event.ClusterEvent.TheVariants.{Crash, Fuse}
use Rattle.raft_cluster_events.specs.declared.event.CrashChoice.{CrashChoice}
use Rattle.raft_cluster_events.specs.declared.outcome.EventOutcome.{EventOutcome}
use Rattle.raft_cluster_events.specs.declared.outcome.EventOutcome.TheVariants.{Cleaned, Done, Refused, Stopped, TurnedAway}
use Rattle.raft_cluster_events.specs.declared.outcome.StopCause.{StopCause}
use Rattle.raft_cluster_events.specs.declared.outcome.StopCause.TheVariants as causes
use Rattle.raft_cluster_events.specs.Node.{NodeActs}
use Rattle.raft_cluster.specs.Cluster.{ClusterValue, Runs, Steps}

-- it stopped at a call that its node's files refused
abbrev pub is_refused_call : StopCause → Bool
is_refused_call causes.Io = true
is_refused_call causes.TryAgain = false
is_refused_call causes.Memory = false
is_refused_call causes.TooLong = false
is_refused_call causes.Other = false

-- the event was cut off there
abbrev pub is_cut : EventOutcome → Bool
is_cut (Done parts) = false
is_cut (Cleaned groups) = false
is_cut (Refused why) = false
is_cut (Stopped stop) = is_refused_call stop.cause
is_cut (TurnedAway why) = false

-- what an event behind a fuse becomes; the last of these happens where it was cut off
abbrev pub fused_events : Option ℕ → ℕ → CrashChoice → ClusterEvent → List ClusterEvent
fused_events None first choice event = event ∷ []
fused_events (Some node) first choice event =
    Fuse node (Some first) ∷ event ∷ Fuse node None ∷ Crash node choice ∷ []

-- the place of the event's own record, where the history ended here before: behind that of the fuse
abbrev pub place_behind : Option ℕ → ℕ → ℕ
place_behind None before = before
place_behind (Some node) before = before + 1

module _ {N : Type 0} (acts : NodeActs N) where
  -- a machine that stopped inside an event leaves what the choice says, or is spared that
  abbrev pub EndsCut : Bool → ℕ → CrashChoice → ClusterValue N → ClusterValue N → Type 0
  EndsCut true node choice old new = Steps acts old (Crash node choice) new
  EndsCut false node choice old new = new ≡ old

  -- the event happens, and whether it was cut off
  pub record StepsCut (old : ClusterValue N) (event : ClusterEvent) (cut : Bool) (new : ClusterValue N) : Type 0 where
    pub happens : Steps acts old event new
    pub is : cut ≡ is_cut happens.outcome

  -- the node's files refuse calls from this one on, until the event is over
  pub record StepsFusedAt (node first : ℕ) (choice : CrashChoice) (old : ClusterValue N) (event : ClusterEvent) (cut : Bool) (new : ClusterValue N) : Type 0 where
    pub fused : ClusterValue N
    pub behind : ClusterValue N
    pub lifted : ClusterValue N
    pub fuse : Steps acts old (Fuse node (Some first)) fused
    pub happens : Steps acts fused event behind
    pub is : cut ≡ is_cut happens.outcome
    pub lift : Steps acts behind (Fuse node None) lifted
    pub ends : EndsCut cut node choice lifted new

  -- an event for no node is an event alone, and never cut off
  pub record StepsNowhere (old : ClusterValue N) (event : ClusterEvent) (cut : Bool) (new : ClusterValue N) : Type 0 where
    pub happens : Steps acts old event new
    pub is : cut ≡ is_cut happens.outcome
    pub never : cut ≡ false

  -- an event behind a fuse of the files of this node, if it is for one
  abbrev pub StepsFused : Option ℕ → ℕ → CrashChoice → ClusterValue N → ClusterEvent → Bool → ClusterValue N → Type 0
  StepsFused None first choice old event cut new = StepsNowhere old event cut new
  StepsFused (Some node) first choice old event cut new = StepsFusedAt node first choice old event cut new

  -- what came of the event itself
  abbrev pub outcome_of : (node : Option ℕ) (first : ℕ) (choice : CrashChoice) (old : ClusterValue N) (event : ClusterEvent) (cut : Bool) (new : ClusterValue N)
      → StepsFused node first choice old event cut new → EventOutcome
  outcome_of None first choice old event cut new steps = steps.happens.outcome
  outcome_of (Some node) first choice old event cut new steps = steps.happens.outcome

  -- memory was refused before one of these events: those before it happened
  pub record RunsShort (old : ClusterValue N) (asked : List ClusterEvent) (new : ClusterValue N) : Type 0 where
    pub count : ℕ
    pub short : count < length asked
    pub runs : Runs acts old (take count asked) new
