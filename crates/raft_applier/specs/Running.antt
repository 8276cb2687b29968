-- How a machine runs the list that a node has applied, and how tokens part.
use Rattle.std.specs.Prelude.{◌≡◌, ℕ, ◌≤◌, not, if◌then◌else◌, Bool, false, List, filter, length, take, Option, Some, None}
use Rattle.raft_values.specs.declared.vote.Vote.{Vote}
use Rattle.raft_values.specs.declared.log_id.LogId.{LogId}
use Rattle.raft_values.specs.LogId.{next_place, stands_before}
use Rattle.raft_group_step.specs.Values.{Entry, vote_eq}
use Rattle.raft_group_step.specs.StoredGroup.{end_place, first_place, prefix_of, snapshot_last}
use Rattle.raft_group_step.specs.GroupState.{GroupState, Untold}
use Rattle.raft_group_step.specs.StepResult.{is_within}
use Rattle.raft_group_step.specs.SnapshotRequest.{place_above}
use Rattle.raft_machines.specs.Machine.{MachineRules}
use Rattle.raft_machines.specs.Fold.{fold_of}

-- a machine in this state has run the list up to its entry of this log id
pub record HasRun (rules : MachineRules) (machine : List ℕ) (last : Option (LogId ℕ)) (list : List Entry) : Type 0 where
  pub folded : machine ≡ fold_of rules (take (next_place last) list)
  pub within : next_place last ≤ length list

-- the log goes on where the snapshot ends or earlier, and reaches past what is applied; that has all of the snapshot
pub record HasItsList (s : GroupState) : Type 0 where
  pub size : length (prefix_of s.stored.snapshot) ≡ next_place (snapshot_last s.stored)
  pub purged : first_place s.stored ≤ next_place (snapshot_last s.stored)
  pub covered : next_place (snapshot_last s.stored) ≤ place_above s.applied
  pub within : place_above s.applied ≤ end_place s.stored

-- a node that led under the first vote leads under the second, which is the same
abbrev pub is_same_lead : Option (Vote ℕ) → Option (Vote ℕ) → Bool
is_same_lead None now = false
is_same_lead (Some before) None = false
is_same_lead (Some before) (Some now) = vote_eq before now

-- those that wait for a place up to this one, and the others
abbrev pub due_at : Option ℕ → List Untold → List Untold
due_at place xs = filter (λ (x : Untold). is_within x.place place) xs

abbrev pub later_than : Option ℕ → List Untold → List Untold
later_than place xs = filter (λ (x : Untold). not (is_within x.place place)) xs

-- the second log id where it stands behind the first one, or else the first
abbrev pub later_id : Option (LogId ℕ) → Option (LogId ℕ) → Option (LogId ℕ)
later_id last snapshot = if stands_before last snapshot then snapshot else last
