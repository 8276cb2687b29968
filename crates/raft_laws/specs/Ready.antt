-- What the stored groups of every run have, which an engine asks of the states that it stands for.
use Rattle.std.specs.Prelude.{◌≡◌, ℕ, ◌+◌, ◌-◌, ◌<◌, ◌≤◌, IsTrue, List, drop, Some, option_and_then}
use Rattle.raft_values.specs.declared.log_id.LogId.{LogId}
use Rattle.raft_values.specs.LogId.{next_place}
use Rattle.raft_group_step.specs.Values.{last_membership}
use Rattle.raft_group_step.specs.StoredGroup.{StoredGroup, Snapshot, CutFrom, after_storing, entry_at, first_place, id_of, membership_in_force, snapshot_last}
use Rattle.raft_group_step.specs.SnapshotTrigger.{snapshot_at}
use Rattle.raft_group_step.specs.GroupState.{GroupState}
use Rattle.raft_group_step.specs.Opening.{is_joined_to}
use Rattle.raft_laws.specs.GroupWorld.{GroupWorld, Up, Recorded}
use Rattle.raft_laws.specs.VotesRise.{stored_of}
use Rattle.raft_laws.specs.OneList.{IsGroupHistory}

-- what a node is still to purge, its snapshot has
abbrev pub WishesAreCovered : Type 0
WishesAreCovered =
    (ids : List ℕ) (rs : List Recorded) (end : GroupWorld) → IsGroupHistory ids rs end
    → (n : ℕ) (s : GroupState) → end.nodes n ≡ Up s
    → (place : ℕ) → s.wish ≡ Some place → place < next_place (snapshot_last s.stored)

-- a log without what the snapshot has, up to any place, keeps the membership in force, at a node that is up
abbrev pub PurgesOfUpNodesKeepTheMembership : Type 0
PurgesOfUpNodesKeepTheMembership =
    (ids : List ℕ) (rs : List Recorded) (end : GroupWorld) → IsGroupHistory ids rs end
    → (n : ℕ) (s : GroupState) → end.nodes n ≡ Up s
    → (place : ℕ) → place < next_place (snapshot_last s.stored)
    → last_membership (option_and_then (λ (x : Snapshot). x.membership) s.stored.snapshot) (drop (place + 1 - first_place s.stored) s.stored.log) ≡ membership_in_force s.stored

-- an opening keeps the log
abbrev pub IsKeptAtOpening : StoredGroup → Type 0
IsKeptAtOpening st = (last : LogId ℕ) → snapshot_last st ≡ Some last → IsTrue (is_joined_to st last)

-- so too at a node that is down, where an opening keeps the log. A node that stopped between storing a snapshot and purging
-- has a log that an opening drops, and its last membership may be older than the snapshot's
abbrev pub PurgesOfKeptLogsKeepTheMembership : Type 0
PurgesOfKeptLogsKeepTheMembership =
    (ids : List ℕ) (rs : List Recorded) (end : GroupWorld) → IsGroupHistory ids rs end
    → (n : ℕ) (st : StoredGroup) → stored_of (end.nodes n) ≡ Some st → IsKeptAtOpening st
    → (place : ℕ) → place < next_place (snapshot_last st)
    → last_membership (option_and_then (λ (x : Snapshot). x.membership) st.snapshot) (drop (place + 1 - first_place st) st.log) ≡ membership_in_force st

-- a snapshot of what is applied has the membership in force up to there
abbrev pub SnapshotsHaveTheMembership : Type 0
SnapshotsHaveTheMembership =
    (ids : List ℕ) (rs : List Recorded) (end : GroupWorld) → IsGroupHistory ids rs end
    → (n : ℕ) (s : GroupState) → end.nodes n ≡ Up s
    → (last : LogId ℕ) → s.applied ≡ Some last.index → id_of (entry_at s.stored last.index) ≡ Some last
    → next_place (snapshot_last s.stored) ≤ last.index
    → (snapshot_at s.stored last).membership ≡ membership_in_force (after_storing (CutFrom (last.index + 1)) s.stored)
