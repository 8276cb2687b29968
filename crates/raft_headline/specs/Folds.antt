-- Machines hold the folds of the one list, wherever a history leads.
use Rattle.std.specs.Prelude.{◌≡◌, ℕ, List, slice_get, Some, Contains}
use Rattle.raft_laws.specs.OneList.{AreNodeIds}
use Rattle.raft_laws.specs.Settled.{group_list}
use Rattle.raft_machines.specs.Machine.{MachineRules}
use Rattle.raft_headline.specs.ClusterEvent.{Recorded}
use Rattle.raft_machines.specs.declared.telling.Told.{Told}
use Rattle.raft_machines.specs.Fold.{answer_at}
use Rattle.raft_headline.specs.Machines.{Replicas, new_replicas}
use Rattle.raft_headline.specs.Replaying.{ReplaysFor}
use Rattle.raft_headline.specs.Told.{said_by}
use Rattle.raft_headline.specs.Headline.{AppliedAreFronts, SnapshotsAreFronts}

-- the machine of each node that is up is the fold of the list up to what the node has applied
abbrev pub MachinesAreFolds : Type 0
MachinesAreFolds =
    (rules : MachineRules) (ids : List ℕ) → AreNodeIds ids → (h : ℕ) (history : List Recorded) (end : Replicas)
    → ReplaysFor rules h (new_replicas rules ids) history end → AppliedAreFronts rules end

-- the bytes of each stored snapshot stand for the fold of the list up to its last place
abbrev pub SnapshotsAreFolds : Type 0
SnapshotsAreFolds =
    (rules : MachineRules) (ids : List ℕ) → AreNodeIds ids → (h : ℕ) (history : List Recorded) (end : Replicas)
    → ReplaysFor rules h (new_replicas rules ids) history end → SnapshotsAreFronts rules end

-- what was told is the fold's answer at its place of the list
abbrev pub AnswersAreFolds : Type 0
AnswersAreFolds =
    (rules : MachineRules) (ids : List ℕ) → AreNodeIds ids → (h : ℕ) (history : List Recorded) (end : Replicas)
    → ReplaysFor rules h (new_replicas rules ids) history end
    → (number : ℕ) (r : Recorded) (t : Told) → slice_get history number ≡ Some r → Contains (said_by h r.event r.outcome).told t
    → t.answer ≡ answer_at rules (group_list end.world) t.place
