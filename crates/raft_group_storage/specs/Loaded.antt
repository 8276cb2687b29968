-- What a node reads of a stored group when it opens it.
use Rattle.std.specs.Prelude.{◌≡◌, ℕ, List, Option, Some, None}
use Rattle.raft_group_step.specs.declared.snapshot_message.SnapshotMeta.{SnapshotMeta}
use Rattle.raft_group_step.specs.StoredGroup.{Snapshot, StoredGroup}
use Rattle.raft_group_storage.specs.declared.loaded_group.LoadedGroup.{LoadedGroup}

-- it says what the snapshot covers, if there is one
abbrev pub IsHead : Option (SnapshotMeta ℕ (List ℕ)) → Option Snapshot → Type 0
IsHead None None = Unit {0}
IsHead None (Some x) = ⊥
IsHead (Some head) None = ⊥
IsHead (Some head) (Some x) = (head.last_log_id ≡ x.last) × (head.last_membership ≡ x.membership)

-- it is this stored part, but for what its snapshot has
pub record IsLoaded (loaded : LoadedGroup) (s : StoredGroup) : Type 0 where
  pub present : loaded.present ≡ s.present
  pub vote : loaded.vote ≡ s.vote
  pub snapshot : IsHead loaded.snapshot s.snapshot
  pub purged : loaded.purged ≡ s.purged
  pub log : loaded.log.items ≡ s.log
