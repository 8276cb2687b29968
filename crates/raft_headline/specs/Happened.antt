-- An event of a cluster's history, with a group's replicas before and behind it.
use Rattle.std.specs.Prelude.{◌≡◌, ℕ, List, [], ◌∷◌, ◌++◌}
use Rattle.raft_group_step.specs.GroupState.{GroupState}
use Rattle.raft_group_step.specs.GroupEvent.{GroupEvent}
use Rattle.raft_laws.specs.declared.world_event.WorldEvent.{WorldEvent}
use Rattle.raft_laws.specs.GroupWorld.{Up}
use Rattle.raft_laws.specs.NodeEvent.{Comes}
use Rattle.raft_laws.specs.GroupRun.{At, scene_of}
use Rattle.raft_machines.specs.Machine.{MachineRules}
use Rattle.raft_headline.specs.ClusterEvent.{Recorded}
use Rattle.raft_headline.specs.Seen.{Own, seen_by}
use Rattle.raft_headline.specs.Machines.{Replicas, new_replicas}
use Rattle.raft_headline.specs.Replaying.{ReplaysFor}

-- the history up to the event leads to the replicas before it, the event to those behind it, and the rest to the end
pub record Happened (rules : MachineRules) (ids : List ℕ) (h : ℕ) (history : List Recorded) (end : Replicas) (r : Recorded) (old new : Replicas) : Type 0 where
  pub before : List Recorded
  pub after : List Recorded
  pub cut : history ≡ before ++ r ∷ after
  pub reached : ReplaysFor rules h (new_replicas rules ids) before old
  pub step : ReplaysFor rules h old (r ∷ []) new
  pub rest : ReplaysFor rules h new after end

-- a call or a message of the group comes to node n, which is up in this state
pub record ComesTo (h : ℕ) (r : Recorded) (old : Replicas) (n : ℕ) (s : GroupState) (e : GroupEvent) : Type 0 where
  pub event : WorldEvent
  pub seen : seen_by h r ≡ Own event
  pub here : scene_of old.world event ≡ At n (Comes e)
  pub is_up : old.world.nodes n ≡ Up s
