-- What a leader had under one vote only grows, through stops and openings too.
use Rattle.std.specs.Prelude.{◌≡◌, ℕ, ◌≤◌, List, length, slice_get, Some, Contains}
use Rattle.raft_group_step.specs.StoredGroup.{StoredGroup, held}
use Rattle.raft_laws.specs.BallotLists.{AgreeBelow}
use Rattle.raft_laws.specs.GroupWorld.{GroupWorld, Led, Recorded}
use Rattle.raft_laws.specs.VotesRise.{stored_of}
use Rattle.raft_laws.specs.OneList.{IsGroupHistory}

-- of two notes of leaders under one vote, the earlier one's list is a front of the later one's
abbrev pub LeaderListsGrow : Type 0
LeaderListsGrow =
    (ids : List ℕ) (rs : List Recorded) (end : GroupWorld) → IsGroupHistory ids rs end
    → (i j : ℕ) (early late : Led) → i ≤ j → slice_get end.led i ≡ Some early → slice_get end.led j ≡ Some late
    → early.vote ≡ late.vote
    → AgreeBelow (length early.list) early.list late.list

-- each noted list is a front of what its node has stored as long as the node's vote is that one, whether it is up or down
abbrev pub LedListsAreStored : Type 0
LedListsAreStored =
    (ids : List ℕ) (rs : List Recorded) (end : GroupWorld) → IsGroupHistory ids rs end
    → (l : Led) → Contains end.led l
    → (st : StoredGroup) → stored_of (end.nodes l.node) ≡ Some st → st.vote ≡ l.vote
    → AgreeBelow (length l.list) l.list (held st)
