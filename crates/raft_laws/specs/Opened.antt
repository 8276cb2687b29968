-- What a node that was down is opened with has what an engine asks of the states that it stands for.
use Rattle.std.specs.Prelude.{◌≡◌, ℕ, ◌+◌, ◌-◌, ◌<◌, ◌≤◌, List, drop, length, slice_get, Some, option_and_then}
use Rattle.raft_values.specs.declared.log_id.LogId.{LogId}
use Rattle.raft_values.specs.LogId.{next_place, place_of}
use Rattle.raft_group_step.specs.Limits.{node_limit, number_limit}
use Rattle.raft_group_step.specs.Values.{Entry, last_membership}
use Rattle.raft_group_step.specs.StoredGroup.{StoredGroup, Snapshot, end_place, first_place, id_at, membership_in_force, snapshot_last}
use Rattle.raft_group_step.specs.Lead.{ids_of}
use Rattle.raft_group_step.specs.GroupState.{state_of}
use Rattle.raft_group_step.specs.StepResult.{StepResult, apply_up_to, unchanged}
use Rattle.raft_group_step.specs.Opening.{drop_stale_log}
use Rattle.raft_laws.specs.GroupWorld.{GroupWorld, Down, Recorded}
use Rattle.raft_laws.specs.OneList.{IsGroupHistory}

-- what a node that was down is opened with: what the snapshot has is committed, and the log belongs to it
abbrev pub opened : StoredGroup → StepResult
opened st =
    let last = snapshot_last st in apply_up_to (place_of last) (drop_stale_log last (unchanged (state_of st)))

-- places are low, whether the log is kept or begins anew after the snapshot
abbrev pub OpenedPlacesAreLow : Type 0
OpenedPlacesAreLow =
    (ids : List ℕ) (rs : List Recorded) (end : GroupWorld) → IsGroupHistory ids rs end
    → (n : ℕ) (st : StoredGroup) → end.nodes n ≡ Down st
    → end_place (opened st).state.stored ≤ number_limit

-- a log without what the snapshot has, up to any place, keeps the membership in force. The log as it was stored need not do so
-- where it doesn't belong to the snapshot
abbrev pub OpenedPurgesKeepTheMembership : Type 0
OpenedPurgesKeepTheMembership =
    (ids : List ℕ) (rs : List Recorded) (end : GroupWorld) → IsGroupHistory ids rs end
    → (n : ℕ) (st : StoredGroup) → end.nodes n ≡ Down st
    → (place : ℕ) → place < next_place (snapshot_last st)
    → let now = (opened st).state.stored
    in last_membership (option_and_then (λ (x : Snapshot). x.membership) now.snapshot) (drop (place + 1 - first_place now) now.log) ≡ membership_in_force now

-- what the snapshot has and the log go on from one another, and the membership in force is of few nodes
pub record IsInOrder (now : StoredGroup) : Type 0 where
  pub placed : (i : ℕ) (e : Entry) → slice_get now.log i ≡ Some e → e.log_id.index ≡ first_place now + i
  -- what was purged, the snapshot has
  pub covered : first_place now ≤ next_place (snapshot_last now)
  -- the log has the snapshot's last entry, or it is the last one that was purged
  pub joined : (last : LogId ℕ) → snapshot_last now ≡ Some last → id_at now last.index ≡ Some last
  pub reaches : next_place (snapshot_last now) ≤ end_place now
  pub members : length (ids_of (membership_in_force now)) ≤ node_limit

-- what a node is opened with is in order, whatever the node stopped in
abbrev pub OpenedStatesAreInOrder : Type 0
OpenedStatesAreInOrder =
    (ids : List ℕ) (rs : List Recorded) (end : GroupWorld) → IsGroupHistory ids rs end
    → (n : ℕ) (st : StoredGroup) → end.nodes n ≡ Down st → IsInOrder (opened st).state.stored
