-- What a machine needs of a step to follow it, and of the snapshots that a storage keeps.
use Rattle.std.specs.Prelude.{◌≡◌, ℕ, ◌+◌, ◌≤◌, ◌++◌, true, length, take, Some, None}
use Rattle.raft_values.specs.LogId.{next_place}
use Rattle.raft_group_step.specs.StoredGroup.{Snapshot, snapshot_last}
use Rattle.raft_group_step.specs.GroupState.{GroupState}
use Rattle.raft_group_step.specs.GroupEvent.{GroupEvent}
use Rattle.raft_group_step.specs.GroupStep.{group_step}
use Rattle.raft_group_step.specs.Refusal.{refusal_of}
use Rattle.raft_group_step.specs.SnapshotRequest.{place_above}
use Rattle.raft_laws.specs.OneList.{applied_list}
use Rattle.raft_machines.specs.Machine.{MachineRules}
use Rattle.raft_machines.specs.Fold.{fold_of}
use Rattle.raft_messages.specs.declared.memberships.SnapshotBytes.{SnapshotBytes}
use Rattle.raft_step_laws.specs.Tokens.{HasItsOwnVote, OpensWithNone, RiseFrom, WaitsLeading, brought, leads_on}

-- A storage's snapshots are those of the machine: bytes that stand for a snapshot restore the state that its entries give, and those
-- that the machine gives of that state stand for it, where they cover the same.
pub record AreOfMachine (rules : MachineRules) (stands : SnapshotBytes → Snapshot → Type 0) : Type 0 where
  pub restores : (x : SnapshotBytes) (y : Snapshot) → stands x y → rules.restored x.bytes ≡ fold_of rules y.«prefix»
  pub stand : (x : SnapshotBytes) (y : Snapshot) → x.meta.last_log_id ≡ y.last → x.meta.last_membership ≡ y.membership
      → rules.restored x.bytes ≡ fold_of rules y.«prefix» → x.bytes ≡ rules.snapshot (fold_of rules y.«prefix») → stands x y

-- a stored snapshot has an entry at each place up to its last one
abbrev pub HasWholeSnapshot : GroupState → Type 0
HasWholeSnapshot s = (x : Snapshot) → s.stored.snapshot ≡ Some x → length x.«prefix» ≡ x.last.index + 1

-- an event that isn't refused, in a state that a history leads to: the laws of steps and histories give each field
pub record IsStep (own : ℕ) (s : GroupState) (e : GroupEvent) : Type 0 where
  pub taken : refusal_of own s e ≡ None
  -- tokens wait at a leader alone, by rising place, above all that is applied
  pub own_vote : HasItsOwnVote own s
  pub leading : WaitsLeading s
  pub opens : OpensWithNone s e
  pub rising : RiseFrom (place_above s.applied) (s.untold ++ brought s e)
  -- what was applied stays the front of what is applied
  pub grows : place_above s.applied ≤ place_above (group_step own s e).state.applied
  pub front : take (place_above s.applied) (applied_list (group_step own s e).state) ≡ applied_list s
  pub whole : HasWholeSnapshot (group_step own s e).state
  -- a node that leads on has snapshots of what it had applied alone
  pub built : leads_on s (group_step own s e).state ≡ true → next_place (snapshot_last (group_step own s e).state.stored) ≤ place_above s.applied

-- the state in which the token that the event brings waits with the others
abbrev pub with_brought : GroupState → GroupEvent → GroupState
with_brought s e = record s { untold = s.untold ++ brought s e }
