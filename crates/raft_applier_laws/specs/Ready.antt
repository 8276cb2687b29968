-- What members and appliers ask of the states that a history leads to.
use Rattle.std.specs.Prelude.{◌≡◌, ℕ, List, None, Contains}
use Rattle.raft_group_step.specs.StoredGroup.{StoredGroup}
use Rattle.raft_group_step.specs.GroupState.{GroupState, state_of}
use Rattle.raft_group_step.specs.GroupEvent.{GroupEvent, Open}
use Rattle.raft_group_step.specs.Refusal.{refusal_of}
use Rattle.raft_group_step.specs.GroupStep.{group_step}
use Rattle.raft_laws.specs.declared.world_event.WorldEvent.{WorldEvent}
use Rattle.raft_laws.specs.GroupWorld.{GroupWorld, Down, Recorded as GroupRecorded, Up}
use Rattle.raft_laws.specs.NodeEvent.{Comes}
use Rattle.raft_laws.specs.GroupRun.{At, Scene, scene_of}
use Rattle.raft_laws.specs.OneList.{AreNodeIds, IsGroupHistory}
use Rattle.raft_machines.specs.Machine.{MachineRules}
use Rattle.raft_headline.specs.ClusterEvent.{Recorded}
use Rattle.raft_member.specs.Member.{IsLawful}
use Rattle.raft_member.specs.Opening.{IsOpenable}
use Rattle.raft_applier.specs.Building.{HasItsMembership}
use Rattle.raft_applier.specs.Following.{HasWholeSnapshot, IsStep}
use Rattle.raft_cluster_laws.specs.Along.{scene_behind}
use Rattle.raft_cluster_laws.specs.Kept.{Candidates, IsKeptFor}

-- a node that is up: its engine may take the next event, the snapshot of what it has applied has
-- its membership, and its machine can follow each event that may come to it where this says where
-- events happen
pub record IsReadyUp (n : ℕ) (scene : WorldEvent → Scene) (s : GroupState) : Type 0 where
  pub lawful : IsLawful n s
  pub membership : HasItsMembership s
  pub steps : (e : WorldEvent) (ge : GroupEvent) → scene e ≡ At n (Comes ge) → refusal_of n s ge ≡ None → IsStep n s ge

-- a node that is down: it can be opened, and its machine can follow that
pub record IsReadyDown (n : ℕ) (st : StoredGroup) : Type 0 where
  pub openable : IsOpenable n st
  pub whole : HasWholeSnapshot (group_step n (state_of st) Open).state
  pub step : IsStep n (state_of st) Open

-- so it is wherever a history of the group leads
abbrev pub UpNodesAreReady : Type 0
UpNodesAreReady =
    (ids : List ℕ) (rs : List GroupRecorded) (end : GroupWorld) → IsGroupHistory ids rs end
    → (n : ℕ) (s : GroupState) → end.nodes n ≡ Up s → IsReadyUp n (scene_of end) s

abbrev pub DownNodesAreReady : Type 0
DownNodesAreReady =
    (ids : List ℕ) (rs : List GroupRecorded) (end : GroupWorld) → IsGroupHistory ids rs end
    → (n : ℕ) (st : StoredGroup) → end.nodes n ≡ Down st → IsReadyDown n st

-- and so are the states that a node of a cluster may be in, as its type keeps them; events happen
-- there as its history says
abbrev pub UpCandidatesAreReady : Type 0
UpCandidatesAreReady =
    (rules : MachineRules) (ids : List ℕ) → AreNodeIds ids → (h : ℕ) (candidates : Candidates) (history : List Recorded)
    → IsKeptFor rules ids h candidates history
    → (n : ℕ) (s : GroupState) → Contains (candidates n) (Up s) → IsReadyUp n (scene_behind h history) s

abbrev pub DownCandidatesAreReady : Type 0
DownCandidatesAreReady =
    (rules : MachineRules) (ids : List ℕ) → AreNodeIds ids → (h : ℕ) (candidates : Candidates) (history : List Recorded)
    → IsKeptFor rules ids h candidates history
    → (n : ℕ) (st : StoredGroup) → Contains (candidates n) (Down st) → IsReadyDown n st
