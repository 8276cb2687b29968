-- What the snapshot of a stored group covers, as it is loaded.
use Rattle.std.specs.Prelude.{◌≡◌, ℕ, List, Option, Some, None, refl}
use Rattle.std.proofs.Common.{ap, ◌∙◌}
use Rattle.raft_values.specs.declared.log_id.LogId.{LogId}
use Rattle.raft_group_step.specs.declared.snapshot_message.SnapshotMeta.{SnapshotMeta}
use Rattle.raft_group_step.specs.Values.{Entry, LoggedMembership}
use Rattle.raft_group_step.specs.StoredGroup.{Snapshot}
use Rattle.raft_group_storage.specs.Loaded.{IsHead}
use Rattle.raft_messages.specs.Memberships.{logged_or_none, snapshot_of}
use Rattle.raft_messages.specs.declared.memberships.SnapshotHead.{SnapshotHead}

pub no_head : (x : Option Snapshot) → IsHead None x → None ≡ x
no_head None h = refl
no_head (Some y) h = absurd h

pub record IsHeadOf (covered : SnapshotMeta ℕ (List ℕ)) (x : Option Snapshot) : Type 0 where
  pub snapshot : Snapshot
  pub is : Some snapshot ≡ x
  pub last : covered.last_log_id ≡ snapshot.last
  pub membership : covered.last_membership ≡ snapshot.membership

pub head_of : (covered : SnapshotMeta ℕ (List ℕ)) (x : Option Snapshot) → IsHead (Some covered) x → IsHeadOf covered x
head_of covered None h = absurd h
head_of covered (Some y) h = record { snapshot = y; is = refl; last = h.0; membership = h.1 }

abbrev snapshot_with : LogId ℕ → Option LoggedMembership → List Entry → Snapshot
snapshot_with last membership entries = record { last = last; membership = membership; «prefix» = entries }

pub head_says : (head : SnapshotHead) (covered : SnapshotMeta ℕ (List ℕ)) (x : Option Snapshot) (h : IsHeadOf covered x)
    → head.last ≡ covered.last_log_id → logged_or_none head.membership ≡ covered.last_membership
    → snapshot_of head h.snapshot.«prefix» ≡ h.snapshot
head_says head covered x h last membership =
    ap (λ (id : LogId ℕ). snapshot_with id (logged_or_none head.membership) h.snapshot.«prefix») (last ∙ h.last)
    ∙ ap (λ (m : Option LoggedMembership). snapshot_with h.snapshot.last m h.snapshot.«prefix») (membership ∙ h.membership)
