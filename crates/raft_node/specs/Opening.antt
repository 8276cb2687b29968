-- How a node is opened with what its storage has.
use Rattle.std.specs.Prelude.{◌≡◌, ◌⊎◌, ℕ, true, false, List, [], ◌∷◌, map, All, Option, None, Result, Ok, Err}
use Rattle.std.specs.List.Sorted.{IsStrictlySortedBy}
use Rattle.std.specs.Ordering.{eq_by_cmp, nat_cmp}
use Rattle.std.specs.Set.{is_member}
use Rattle.raft_group_step.specs.GroupEvent.{Open}
use Rattle.raft_group_step.specs.GroupState.{state_of}
use Rattle.raft_group_step.specs.GroupStep.{group_step}
use Rattle.raft_group_step.specs.StoredGroup.{Snapshot, StoredGroup}
use Rattle.raft_group_storage.specs.Keeping.{Fails, FailsAnyhow, Shows}
use Rattle.raft_executor.specs.Stored.{FailsAt}
use Rattle.raft_messages.specs.declared.memberships.SnapshotBytes.{SnapshotBytes}
use Rattle.raft_member.specs.Opening.{IsOpenable}
use Rattle.raft_applier.specs.Following.{HasWholeSnapshot}
use Rattle.raft_machines.specs.Machine.{MachineRules}
use Rattle.raft_node_faults.specs.declared.fault.Fault.{Fault}
use Rattle.raft_node_faults.specs.declared.fault.Fault.TheVariants as fault
use Rattle.raft_node.specs.Ending.{IsDone, IsLeft, IsShownLeft}
use Rattle.raft_node.specs.Running.{Running}
use Rattle.raft_node.specs.Standing.{IsAt, NodeValue}
use Rattle.raft_node.specs.Waiting.{AreNamed}
use Rattle.raft_node.specs.declared.outcome.Outcome.{Outcome}

-- ---- what is opened

-- what histories give of what is stored of a group
pub record IsReopened (own : ℕ) (st : StoredGroup) : Type 0 where
  pub openable : IsOpenable own st
  pub whole : HasWholeSnapshot (group_step own (state_of st) Open).state

-- no call of a storage has failed, and it shows of each group what is kept; a history led to each group that is there
pub record Keeps (own : ℕ) (is_well : Type 0) (shows : Shows) (kept : ℕ → StoredGroup) : Type 0 where
  pub well : is_well
  pub shown : (group : ℕ) → shows group (kept group ∷ [])
  pub reached : (group : ℕ) → (kept group).present ≡ true → IsReopened own (kept group)

-- the node has no member of the group, nothing runs for it, and this is stored
pub record IsUntouched (n : NodeValue) (group : ℕ) (st : StoredGroup) : Type 0 where
  pub no_member : n.groups.members group ≡ None
  pub idle : n.running group ≡ None
  pub stored : n.groups.shows group (st ∷ [])

-- the node goes on, and hasn't opened any of the groups that are kept
pub record IsBegun (n : NodeValue) (kept : ℕ → StoredGroup) : Type 0 where
  pub going : n.groups.has_failed ≡ false
  pub keeps : Keeps n.groups.own n.groups.is_well n.groups.shows kept
  pub no_member : (group : ℕ) → n.groups.members group ≡ None
  pub idle : (group : ℕ) → n.running group ≡ None

-- these are the groups that are there, by rising id
pub record AreThere (kept : ℕ → StoredGroup) (groups : List ℕ) : Type 0 where
  pub rising : IsStrictlySortedBy nat_cmp groups
  pub exactly : (group : ℕ) → is_member (eq_by_cmp nat_cmp) groups group ≡ (kept group).present

-- ---- a group

module _ {F : Type 0} where
  -- it is a stop, which names those that waited
  abbrev pub StopsNaming : (ℕ → Option Running) → Fault F → Type 0
  StopsNaming running (fault.Stopped why unknown) = AreNamed running unknown.items
  StopsNaming running other = ⊥

  -- the group does the step of its opening, or that stops
  abbrev pub OpensGroup : MachineRules → (SnapshotBytes → Snapshot → Type 0) → NodeValue → NodeValue → ℕ → StoredGroup → Result Outcome (Fault F) → Type 0
  OpensGroup rules stands old new group st (Ok o) = IsDone rules stands new group (state_of st) Open o
  OpensGroup rules stands old new group st (Err why) = (new.groups.has_failed ≡ true) × StopsNaming old.running why × IsLeft new group (state_of st) Open

-- ---- a node

-- the groups of outcomes
abbrev pub groups_of : List Outcome → List ℕ
groups_of outcomes = map (λ (o : Outcome). o.group) outcomes

-- each group that is there has done the step of its opening, by rising id, and its machine has run what is applied; of the others nothing is there
pub record HasOpened (rules : MachineRules) (stands : SnapshotBytes → Snapshot → Type 0) (kept : ℕ → StoredGroup) (n : NodeValue) (outcomes : List Outcome) : Type 0 where
  pub well : n.groups.is_well
  pub there : AreThere kept (groups_of outcomes)
  pub done : All (λ (o : Outcome). IsDone rules stands n o.group (state_of (kept o.group)) Open o) outcomes
  pub at : (group : ℕ) → (kept group).present ≡ true → IsAt rules n group (group_step n.groups.own (state_of (kept group)) Open).state
  pub none : (group : ℕ) → (kept group).present ≡ false → IsUntouched n group (kept group)

-- no command was refused, or the opening of a group that is there may have failed at a command behind those that are done
abbrev pub FailsInOpening : Fails → ℕ → (ℕ → StoredGroup) → Type 0
FailsInOpening fails own kept =
    FailsAnyhow fails
    ⊎ ((group : ℕ) × ((kept group).present ≡ true) × (number : ℕ) × FailsAt fails number (group_step own (state_of (kept group)) Open).commands (kept group))

-- The opening stopped, and nobody waited: of each group the storing commands of its opening are done from the first on, it may be
-- none or all, and the next one is or isn't
pub record HasNotOpened {F : Type 0} (own : ℕ) (kept : ℕ → StoredGroup) (shows : Shows) (fails : Fails) (why : Fault F) : Type 0 where
  pub stops : StopsNaming (λ group. None) why
  pub left : (group : ℕ) → (kept group).present ≡ true → IsShownLeft shows own group (state_of (kept group)) Open
  pub none : (group : ℕ) → (kept group).present ≡ false → shows group (kept group ∷ [])
  pub failed : FailsInOpening fails own kept
