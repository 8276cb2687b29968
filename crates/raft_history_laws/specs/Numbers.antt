-- The numbers that nodes have stored and that were sent are below the limit, in every world of a group.
use Rattle.std.specs.Prelude.{◌≡◌, ℕ, true, List, Some, Contains}
use Rattle.raft_group_step.specs.StoredGroup.{StoredGroup}
use Rattle.raft_group_step.specs.Message.{Message}
use Rattle.raft_group_step.specs.GroupState.{GroupState}
use Rattle.raft_group_step.specs.Refusal.{are_in_range, numbers_of}
use Rattle.raft_laws.specs.GroupWorld.{GroupWorld, Recorded, Up}
use Rattle.raft_laws.specs.VotesRise.{stored_of}
use Rattle.raft_laws.specs.OneList.{IsGroupHistory}
use Rattle.raft_step_laws.specs.Numbers.{EachPeer, IsLowBody, IsLowPeer, IsLowStored}

-- those of each message that was sent
abbrev pub SentNumbersAreLow : Type 0
SentNumbersAreLow =
    (ids : List ℕ) (rs : List Recorded) (end : GroupWorld) → IsGroupHistory ids rs end
    → (m : Message) → Contains end.messages m → IsLowBody m.body

-- so no node refuses a message for the numbers that it has
abbrev pub SentNumbersAreInRange : Type 0
SentNumbersAreInRange =
    (ids : List ℕ) (rs : List Recorded) (end : GroupWorld) → IsGroupHistory ids rs end
    → (m : Message) → Contains end.messages m → are_in_range (numbers_of m.body) ≡ true

-- those that each node has stored, whether it is up or down
abbrev pub StoredNumbersAreLow : Type 0
StoredNumbersAreLow =
    (ids : List ℕ) (rs : List Recorded) (end : GroupWorld) → IsGroupHistory ids rs end
    → (n : ℕ) (st : StoredGroup) → stored_of (end.nodes n) ≡ Some st → IsLowStored st

-- those of each leader's next requests, which come to the limit only while one is outstanding
abbrev pub NextNumbersAreLow : Type 0
NextNumbersAreLow =
    (ids : List ℕ) (rs : List Recorded) (end : GroupWorld) → IsGroupHistory ids rs end
    → (n : ℕ) (s : GroupState) → end.nodes n ≡ Up s → EachPeer IsLowPeer s.role
