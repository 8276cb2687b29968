-- Places along a history.
use Rattle.std.specs.Prelude.{◌≡◌, ℕ, ◌≤◌, List, Some}
use Rattle.raft_group_step.specs.Limits.{number_limit}
use Rattle.raft_group_step.specs.StoredGroup.{StoredGroup, end_place}
use Rattle.raft_laws.specs.GroupWorld.{GroupWorld, Recorded}
use Rattle.raft_laws.specs.OneList.{IsGroupHistory}
use Rattle.raft_laws.specs.VotesRise.{stored_of}

-- places stay low, since an event whose numbers are at the end is refused
abbrev pub PlacesAreLow : Type 0
PlacesAreLow =
    (ids : List ℕ) (rs : List Recorded) (end : GroupWorld) → IsGroupHistory ids rs end
    → (n : ℕ) (st : StoredGroup) → stored_of (end.nodes n) ≡ Some st → end_place st ≤ number_limit
