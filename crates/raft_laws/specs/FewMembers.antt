-- How many nodes a group has along a history.
use Rattle.std.specs.Prelude.{◌≡◌, ℕ, ◌≤◌, List, length, Some}
use Rattle.raft_group_step.specs.Limits.{node_limit}
use Rattle.raft_group_step.specs.StoredGroup.{StoredGroup, membership_in_force}
use Rattle.raft_group_step.specs.Lead.{ids_of}
use Rattle.raft_laws.specs.GroupWorld.{GroupWorld, Recorded}
use Rattle.raft_laws.specs.OneList.{IsGroupHistory}
use Rattle.raft_laws.specs.VotesRise.{stored_of}

-- a membership of a run has at most so many nodes as one may have
abbrev pub MembersAreFew : Type 0
MembersAreFew =
    (ids : List ℕ) (rs : List Recorded) (end : GroupWorld) → IsGroupHistory ids rs end
    → (n : ℕ) (st : StoredGroup) → stored_of (end.nodes n) ≡ Some st
    → length (ids_of (membership_in_force st)) ≤ node_limit
