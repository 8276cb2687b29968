-- Batches of one group.
use Rattle.std.specs.Prelude.{◌+◌, ℕ, false, List, [], ◌∷◌, map, ◌⊎◌, ◌<◌, ◌≤◌, ◌^◌, ◌≡◌, Option}
use Rattle.std.specs.List.{list_any}
use Rattle.std.specs.Int.{w64, to_be_bytes}
use Rattle.raft_values.specs.declared.vote.Vote.{Vote}
use Rattle.raft_values.specs.declared.log_id.LogId.{LogId}
use Rattle.raft_group_step.specs.Values.{Entry}
use Rattle.raft_group_step.specs.StoredGroup.{StoredGroup, StoringCommand, after_storing}
use Rattle.raft_group_storage.specs.Keeping.{Shows}
use Rattle.raft_log_records.specs.Item.{Change, Item}
use Rattle.raft_log_records.specs.Item.Change.{entries, compact, put}
use Rattle.raft_log_records.specs.Batch.{numbered}
use Rattle.raft_log_records.specs.Spelling.{is_mark}
use Rattle.raft_log_memtables.specs.Content.{Content, GroupContent, after_change}
use Rattle.raft_log_memtables.specs.Taken.{Takes}
use Rattle.raft_content_log.specs.Leaving.{Leaves}
use Rattle.raft_machines.specs.Machine.{MachineRules}
use Rattle.raft_messages.specs.declared.memberships.SnapshotBytes.{SnapshotBytes}
use Rattle.raft_wire.specs.Fields.{spelled_log_id, spelled_vote}
use Rattle.raft_wire.specs.Entries.{spelled_entry}
use Rattle.raft_wire.specs.Bodies.{spelled_snapshot}
use Rattle.raft_store.specs.Keys.{end_key, group_key, purged_key, snapshot_key, vote_key}
use Rattle.raft_store.specs.Reading.{Holds, HoldsOne, Recalls}
use Rattle.raft_store.specs.declared.recent.Recent.{Recent}

-- the items of these changes of a group
abbrev pub of_group : ℕ → List (Change (List ℕ)) → List (Item (List ℕ))
of_group group [] = []
of_group group (change ∷ changes) = record { group = group; change = change } ∷ of_group group changes

-- what they do to the group
abbrev pub after_changes : List (Change (List ℕ)) → GroupContent (List ℕ) → GroupContent (List ℕ)
after_changes [] g = g
after_changes (change ∷ changes) g = after_changes changes (after_change change g)

-- the group takes each, after those before it
abbrev pub TakesChanges : List (Change (List ℕ)) → GroupContent (List ℕ) → Type 0
TakesChanges [] g = Unit {0}
TakesChanges (change ∷ changes) g = Takes change g × TakesChanges changes (after_change change g)

-- the group takes them, and where it holds the one part, it holds the other after them. None marks a part of an atomic group
pub record Carries (rules : MachineRules) (changes : List (Change (List ℕ))) (s t : StoredGroup) : Type 0 where
  pub plain : list_any is_mark changes ≡ false
  pub takes : (g : GroupContent (List ℕ)) → Holds rules g s → TakesChanges changes g
  pub holds : (g : GroupContent (List ℕ)) → Holds rules g s → Holds rules (after_changes changes g) t

-- ---- the changes of each storing command

abbrev pub vote_changes : Vote ℕ → List (Change (List ℕ))
vote_changes vote = put vote_key (spelled_vote vote) ∷ []

abbrev pub make_changes : List (Change (List ℕ))
make_changes = put group_key [] ∷ []

-- the log ends before this place
abbrev pub end_changes : ℕ → List (Change (List ℕ))
end_changes end = put end_key (to_be_bytes w64 end) ∷ []

-- entries from a place on, and the end behind them. None change the end alone
abbrev pub entry_changes : ℕ → List Entry → ℕ → List (Change (List ℕ))
entry_changes place [] end = end_changes end
entry_changes place (e ∷ es) end = entries (numbered place (map spelled_entry (e ∷ es))) ∷ end_changes end

-- the purge point, and no entries before the place behind it
abbrev pub purge_changes : LogId ℕ → List (Change (List ℕ)) → List (Change (List ℕ))
purge_changes id more = put purged_key (spelled_log_id id) ∷ compact (id.index + 1) ∷ more

abbrev pub snapshot_changes : SnapshotBytes → List (Change (List ℕ))
snapshot_changes x = put snapshot_key (spelled_snapshot x) ∷ []

-- What a removal up to a log id changes: where the log gets empty, its end goes along.
abbrev pub IsRemoval : LogId ℕ → ℕ → List (Change (List ℕ)) → Type 0
IsRemoval id end changes =
    ((id.index + 1 ≤ end) × (changes ≡ purge_changes id []))
    ⊎ ((end ≤ id.index + 1) × (id.index + 1 < 2 ^ 64) × (changes ≡ purge_changes id (end_changes (id.index + 1))))

-- ---- what is shown

-- What a log shows of a group: if it is sound, what it answers holds one of these parts; and so does whatever a crash
-- leaves. What is remembered of the group's last entries is what the log answers.
pub record ShowsIn (rules : MachineRules) (sound : Type 0) (answers : Content (List ℕ)) (leaves : Leaves) (recent : Option Recent) (group : ℕ) (parts : List StoredGroup) : Type 0 where
  pub answered : sound → HoldsOne rules (answers group) parts
  pub left : (content : Content (List ℕ)) → leaves content → HoldsOne rules (content group) parts
  pub recalled : sound → Recalls recent group (answers group)

-- the same, of a log by its members
abbrev pub ShowsBy : {X : Type 0} → MachineRules → (X → Type 0) → (X → Content (List ℕ)) → (X → Leaves) → X → Option Recent → ℕ → List StoredGroup → Type 0
ShowsBy rules sound answers leaves log recent group parts = ShowsIn rules (sound log) (answers log) (leaves log) recent group parts

-- a call that failed stored the command in the group, or not
abbrev pub MayHaveStored : Shows → Shows → ℕ → StoringCommand → Type 0
MayHaveStored old new group c = (s : StoredGroup) → old group (s ∷ []) → new group (s ∷ after_storing c s ∷ [])
