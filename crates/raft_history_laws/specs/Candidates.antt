-- No candidate has been granted its vote by a quorum: where one has, it leads.
use Rattle.std.specs.Prelude.{◌≡◌, ℕ, List}
use Rattle.raft_group_step.specs.GroupState.{GroupState}
use Rattle.raft_step_laws.specs.Elections.{LacksAQuorum}
use Rattle.raft_laws.specs.GroupWorld.{GroupWorld, Recorded, Up}
use Rattle.raft_laws.specs.OneList.{IsGroupHistory}

-- the granters of each candidate are no quorum of the voter groups in force
abbrev pub CandidatesLackQuorums : Type 0
CandidatesLackQuorums =
    (ids : List ℕ) (rs : List Recorded) (end : GroupWorld) → IsGroupHistory ids rs end
    → (n : ℕ) (s : GroupState) → end.nodes n ≡ Up s → LacksAQuorum s
