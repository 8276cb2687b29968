-- Leaders under greater votes hold what was told.
use Rattle.std.specs.Prelude.{◌≡◌, ℕ, false, List, Contains}
use Rattle.raft_values.specs.declared.vote.Vote.{Vote}
use Rattle.raft_group_step.specs.Values.{vote_lt}
use Rattle.raft_group_step.specs.StoredGroup.{Holds}
use Rattle.raft_group_step.specs.GroupState.{GroupState}
use Rattle.raft_laws.specs.GroupWorld.{GroupWorld}
use Rattle.raft_laws.specs.OneList.{IsLeading}
use Rattle.raft_laws.specs.Settled.{group_list}
use Rattle.raft_machines.specs.Machine.{MachineRules}
use Rattle.raft_headline.specs.ClusterEvent.{Recorded}
use Rattle.raft_machines.specs.declared.telling.Told.{Told}
use Rattle.raft_headline.specs.Machines.{Replicas}
use Rattle.raft_headline.specs.Told.{said_by}
use Rattle.raft_headline.specs.Happened.{Happened}

-- each node that leads under a vote that isn't below this one holds the list up to the place
abbrev pub HoldUpTo : GroupWorld → Vote ℕ → ℕ → Type 0
HoldUpTo end vote place =
    (n : ℕ) (s : GroupState) → IsLeading end n s → vote_lt s.stored.vote vote ≡ false → Holds s.stored (group_list end) place

-- who told the answer led behind its event, and the leaders at the history's end hold the list as its vote says
pub record IsHeldByLeaders (r : Recorded) (new end : Replicas) (t : Told) : Type 0 where
  pub teller : GroupState
  pub leading : IsLeading new.world r.node teller
  pub held : HoldUpTo end.world teller.stored.vote t.place

-- so it is with each told answer
abbrev pub LeadersHoldAnswers : MachineRules → List ℕ → ℕ → List Recorded → Replicas → Type 0
LeadersHoldAnswers rules ids h history end =
    (r : Recorded) (old new : Replicas) → Happened rules ids h history end r old new
    → (t : Told) → Contains (said_by h r.event r.outcome).told t → IsHeldByLeaders r new end t
