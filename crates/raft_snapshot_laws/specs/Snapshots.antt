-- Which snapshots a node has after a step, and which it sends.
use Rattle.std.specs.Prelude.{◌≡◌, ◌⊎◌, ℕ, true, Some, None, Contains}
use Rattle.raft_values.specs.declared.vote.Vote.{Vote}
use Rattle.raft_values.specs.declared.log_id.LogId.{LogId}
use Rattle.raft_group_step.specs.StoredGroup.{Snapshot, SetSnapshot, entry_at, id_of}
use Rattle.raft_group_step.specs.Message.{Message, SnapshotRequest}
use Rattle.raft_group_step.specs.GroupState.{GroupState}
use Rattle.raft_group_step.specs.GroupEvent.{GroupEvent, AddGroup, Call, Receive, Open}
use Rattle.raft_group_step.specs.SnapshotTrigger.{snapshot_at}
use Rattle.raft_group_step.specs.Refusal.{refusal_of}
use Rattle.raft_group_step.specs.GroupStep.{group_step}
use Rattle.raft_step_laws.specs.Tokens.{HasItsOwnVote, leads_on}

-- the snapshot of all that the node has applied: its list goes up to the entry at the applied place
pub record IsOfApplied (s : GroupState) (x : Snapshot) : Type 0 where
  pub place : ℕ
  pub last : LogId ℕ
  pub applied : s.applied ≡ Some place
  pub stands : id_of (entry_at s.stored place) ≡ Some last
  pub built : x ≡ snapshot_at s.stored last

-- a call stores the snapshot of what is applied, and a message the one that it brings
abbrev pub ComesOf : GroupState → GroupEvent → Snapshot → Type 0
ComesOf s AddGroup x = ⊥
ComesOf s (Call call now) x = IsOfApplied s x
ComesOf s (Receive peer m now) x = (vote : Vote ℕ) × (id : ℕ) × (m.body ≡ SnapshotRequest vote id x)
ComesOf s Open x = ⊥

-- so comes each snapshot that a step stores
abbrev pub StoredSnapshotsCome : Type 0
StoredSnapshotsCome =
    (own : ℕ) (s : GroupState) (e : GroupEvent) (x : Snapshot)
    → Contains (group_step own s e).commands (SetSnapshot x) → ComesOf s e x

-- a node that leads on has the snapshot that it had, or one that it built of what it had applied:
-- it installs none
abbrev pub LeadersBuildSnapshots : Type 0
LeadersBuildSnapshots =
    (own : ℕ) (s : GroupState) (e : GroupEvent) → HasItsOwnVote own s → refusal_of own s e ≡ None
    → leads_on s (group_step own s e).state ≡ true
    → (x : Snapshot) → (group_step own s e).state.stored.snapshot ≡ Some x
    → (s.stored.snapshot ≡ Some x) ⊎ IsOfApplied s x

-- a snapshot that is sent is the one that is stored behind the step
abbrev pub SentSnapshotsAreStored : Type 0
SentSnapshotsAreStored =
    (own : ℕ) (s : GroupState) (e : GroupEvent) (m : Message) → Contains (group_step own s e).messages m
    → (vote : Vote ℕ) (id : ℕ) (x : Snapshot) → m.body ≡ SnapshotRequest vote id x
    → (group_step own s e).state.stored.snapshot ≡ Some x
