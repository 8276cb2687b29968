-- What a snapshot of what is applied has.
use Rattle.std.specs.Prelude.{◌≡◌, ℕ, ◌+◌, ◌≤◌, Option, Some}
use Rattle.raft_values.specs.declared.log_id.LogId.{LogId}
use Rattle.raft_values.specs.LogId.{next_place}
use Rattle.raft_group_step.specs.Values.{LoggedMembership}
use Rattle.raft_group_step.specs.StoredGroup.{CutFrom, after_storing, entry_at, id_of, membership_in_force, snapshot_last}
use Rattle.raft_group_step.specs.SnapshotTrigger.{snapshot_at}
use Rattle.raft_group_step.specs.GroupState.{GroupState}
use Rattle.raft_known_state.specs.KnownState.{EffectiveMembership, effective_of}

-- a snapshot of what is applied has the membership in force up to there: so it is in each state that a history leads to
abbrev pub HasItsMembership : GroupState → Type 0
HasItsMembership s =
    (last : LogId ℕ) → s.applied ≡ Some last.index → id_of (entry_at s.stored last.index) ≡ Some last
    → next_place (snapshot_last s.stored) ≤ last.index
    → (snapshot_at s.stored last).membership ≡ membership_in_force (after_storing (CutFrom (last.index + 1)) s.stored)

-- where the one in force is that of an entry, or none, it is this
abbrev pub IsEffective : EffectiveMembership → Option LoggedMembership → Type 0
IsEffective effective found = (m : Option LoggedMembership) → effective ≡ effective_of m → found ≡ m
