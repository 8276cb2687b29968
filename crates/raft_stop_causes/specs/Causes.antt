-- Why a node over a log stops, where a history leads to it.
use Rattle.std.specs.Prelude.{◌≡◌, ◌⊎◌, ℕ, true, List, length, Option, Some, None, Result, Err}
use Rattle.raft_cluster_conditions.specs.Cuts.{are_cuts}
use Rattle.raft_cluster_events.specs.Node.{NodeActs}
use Rattle.raft_cluster_events.specs.States.{NodeStates}
use Rattle.raft_cluster_events.specs.declared.node.NodeOutcome.{NodeOutcome}
use Rattle.raft_cluster_events.specs.declared.outcome.NodeError.{NodeError}
use Rattle.raft_cluster_events.specs.declared.outcome.NodeError.TheVariants.{Stopped}
use Rattle.raft_cluster_events.specs.declared.outcome.Stop.{Stop}
use Rattle.raft_cluster_events.specs.declared.outcome.StopCause.{StopCause}
use Rattle.raft_cluster_events.specs.declared.outcome.StopCause.TheVariants.{Memory, TooLong}
use Rattle.raft_group_step.specs.GroupEvent.{GroupCall}
use Rattle.raft_group_step.specs.Message.{Message}
use Rattle.raft_headline.specs.ClusterEvent.{Recorded}
use Rattle.raft_laws.specs.GroupWorld.{NodeState}
use Rattle.raft_machines.specs.Machine.{MachineRules}
use Rattle.raft_node.specs.Feeding.{StaysBut}
use Rattle.raft_node_joint.specs.Saying.{Spells}
use Rattle.raft_node_laws.specs.Delivery.{Comes, pieces_from}
use Rattle.raft_node_laws.specs.Law.{Anything, IsAskedAt, StandsBehind, WasSent}
use Rattle.raft_store.specs.Reading.{StandsFor}
use Rattle.raft_nodes_on_logs.specs.Acts.{log_node_acts, log_node_states}
use Rattle.raft_nodes_on_logs.specs.Kinds.{NodeKind}
use Rattle.raft_nodes_on_logs.specs.Standing.{NodeOf, UpNode, value}

-- a history of this kind leads to the node
pub record IsSomewhere {N : Type 0} (rules : MachineRules) (acts : NodeActs N) (states : NodeStates N) (Kind : List Recorded → Type 0) (node : N) : Type 0 where
  pub ids : List ℕ
  pub history : List Recorded
  pub olds : ℕ → List NodeState
  pub kind : Kind history
  pub behind : StandsBehind rules acts states ids history node olds

module _ (k : NodeKind) where
  -- memory is missing, or the calls of a log met this fault, and it tells of no misuse of the log
  abbrev pub IsOfLog : (Option k.Fault → Type 0) → StopCause → Type 0
  IsOfLog log_meets why = (why ≡ Memory) ⊎ (met : k.Fault) × (why ≡ k.cause met) × (k.misuse met → ⊥) × log_meets (Some met)

  -- those of a node's log, from one node to the other
  abbrev pub IsOwnCause : UpNode k → UpNode k → StopCause → Type 0
  IsOwnCause n m why = IsOfLog (λ met. k.meets n.groups.storage.log m.groups.storage.log met) why

  abbrev pub IsLedTo : (List Recorded → Type 0) → NodeOf k → Type 0
  IsLedTo Kind node = IsSomewhere k.rules (log_node_acts k) (log_node_states k) Kind node

  -- a call that stops the node does so for such a cause
  abbrev pub StopsForCause : (List Recorded → Type 0) → NodeOf k → NodeOf k → Result NodeOutcome NodeError → Type 0
  StopsForCause Kind old new answered =
      (n m : UpNode k) (stop : Stop) → IsLedTo Kind old → old.up ≡ Some n → new.up ≡ Some m → answered ≡ Err (Stopped stop) → IsOwnCause n m stop.cause

  -- so does a piece of a frame; before it the node is the same but for what is held of the peer's stream
  abbrev pub StopsAtPiece : ℕ → UpNode k → UpNode k → StopCause → Type 0
  StopsAtPiece peer n m why = (x : UpNode k) × StaysBut (value k n) (value k x) peer × IsOwnCause x m why

  -- those of a log that was opened of these files, which are handed back
  pub record IsOfOpenedLog (old : k.Files) (why : StopCause) (new : k.Files) : Type 0 where
    pub log : k.Log
    pub opens : k.opens old log
    pub behind : k.Log
    pub hands_back : k.hands_back behind new
    pub met : IsOfLog (λ met. k.meets log behind met) why

  -- why an opening isn't done: memory is missing, the files aren't opened, the calls of the opened log met it, or a frame is past its limit
  abbrev pub IsOpeningCause : k.Files → StopCause → k.Files → Type 0
  IsOpeningCause old why new = (why ≡ Memory) ⊎ k.unopened old why new ⊎ IsOfOpenedLog old why new ⊎ (why ≡ TooLong)

  pub record StopForCause : Type 0 where
    pub adds : (old new : NodeOf k) (group : ℕ) (answered : Result NodeOutcome NodeError) → (log_node_acts k).adds old group answered new
        → StopsForCause Anything old new answered
    pub asks : (old new : NodeOf k) (group now : ℕ) (call : GroupCall) (answered : Result NodeOutcome NodeError)
        → (log_node_acts k).asks old group call now answered new → StopsForCause (IsAskedAt old.id group call now) old new answered
    -- a frame that was sent to the node comes, cut into pieces
    pub delivers : (old new : NodeOf k) (group number now : ℕ) (m : Message) (bytes cuts : List ℕ) (answered : Result (Option NodeOutcome) NodeError)
        → m.addressee ≡ old.id → Spells (StandsFor k.rules) group m bytes → are_cuts 0 (length bytes) cuts ≡ true
        → Comes (log_node_acts k) m.sender now old (pieces_from bytes 0 cuts) answered new
        → (n z : UpNode k) (stop : Stop) → IsLedTo (WasSent group number m) old → old.up ≡ Some n → new.up ≡ Some z → answered ≡ Err (Stopped stop)
        → StopsAtPiece m.sender n z stop.cause
    pub reopens : (old new : NodeOf k) (workers : ℕ) (stop : Stop) → (log_node_acts k).reopens old workers (Err stop) new
        → IsLedTo Anything old → old.up ≡ None → IsOpeningCause old.files stop.cause new.files
