-- Logs whose leaders never fall, as of all nodes that keep the rules.
use Rattle.std.specs.Prelude.{◌≡◌, ◌<◌, ◌≤◌, ℕ, false, List, [], ◌∷◌, Option, Some, None}
use Rattle.std.specs.List.{AllByRecursion}
use Rattle.std.specs.Ordering.{nat_cmp}
use Rattle.raft_values.specs.declared.log_id.LogId.{LogId}
use Rattle.raft_values.specs.LogId.{is_past, next_place}
use Rattle.raft_group_step.specs.StoredGroup.{StoredGroup, first_place, id_at, membership_in_force, snapshot_last}
use Rattle.raft_known_state.specs.KnownState.{effective_of, force_of_snapshot, meta_of, stored_ids}

-- the first isn't past the second in the order of log ids
abbrev pub IsUpTo : Option (LogId ℕ) → Option (LogId ℕ) → Type 0
IsUpTo a b = is_past nat_cmp a b ≡ false

-- no log id is past a later one
abbrev pub NeverFall : List (LogId ℕ) → Type 0
NeverFall [] = Unit {0}
NeverFall (id ∷ ids) = AllByRecursion (λ later. IsUpTo (Some id) (Some later)) ids × NeverFall ids

-- the log goes on from its purge point without falling; the snapshot's last entry is the log's, and its membership isn't past the
-- one in force
pub record IsRising (s : StoredGroup) : Type 0 where
  pub ids : NeverFall (stored_ids s)
  pub snapshot : (last : LogId ℕ) → snapshot_last s ≡ Some last → id_at s last.index ≡ Some last
  pub members : IsUpTo (force_of_snapshot (meta_of s.snapshot)).log_id (effective_of (membership_in_force s)).log_id

-- what is still to be purged, if anything, is an entry of the log that the snapshot has
abbrev pub MayWish : StoredGroup → Option (LogId ℕ) → Type 0
MayWish s None = Unit {0}
MayWish s (Some id) =
    (first_place s ≤ id.index) × (id.index < next_place (snapshot_last s)) × (id_at s id.index ≡ Some id)
