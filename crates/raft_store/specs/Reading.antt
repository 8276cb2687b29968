-- What the keys and entries of a group read as.
use Rattle.std.specs.Prelude.{◌≡◌, ◌⊎◌, ◌<◌, ◌≤◌, ◌^◌, ◌+◌, ℕ, Bool, true, false, List, [], ◌∷◌, Option, Some, None, IsSome, length, option_map, slice_get}
use Rattle.std.specs.Int.{w64, to_be_bytes}
use Rattle.raft_values.specs.declared.vote.Vote.{Vote}
use Rattle.raft_values.specs.Vote.{vote_of}
use Rattle.raft_group_step.specs.Limits.{snapshot_limit}
use Rattle.raft_group_step.specs.Values.{Entry}
use Rattle.raft_group_step.specs.StoredGroup.{Snapshot, StoredGroup, end_place, first_place}
use Rattle.raft_messages.specs.declared.memberships.SnapshotBytes.{SnapshotBytes}
use Rattle.raft_wire.specs.Fields.{FitsLast, FitsVote, spelled_log_id, spelled_vote}
use Rattle.raft_wire.specs.Entries.{FitsEntry, spelled_entry}
use Rattle.raft_wire.specs.Bodies.{FitsSnapshot, spelled_snapshot}
use Rattle.raft_log_records.specs.Batch.{payloads}
use Rattle.raft_log_memtables.specs.Content.{GroupContent}
use Rattle.raft_machines.specs.Machine.{MachineRules}
use Rattle.raft_machines.specs.Fold.{fold_of}
use Rattle.raft_store.specs.Keys.{end_key, group_key, purged_key, snapshot_key, vote_key}
use Rattle.raft_store.specs.declared.recent.Recent.{Recent}

-- A snapshot with a machine's bytes stands for one with entries: it covers the same, and its bytes restore the state that
-- the entries give. They are those that the machine gives of that state, or came in a frame, which has no more than a snapshot may have
pub record StandsFor (rules : MachineRules) (x : SnapshotBytes) (y : Snapshot) : Type 0 where
  pub last : x.meta.last_log_id ≡ y.last
  pub membership : x.meta.last_membership ≡ y.membership
  pub state : rules.restored x.bytes ≡ fold_of rules y.«prefix»
  pub made : (x.bytes ≡ rules.snapshot (fold_of rules y.«prefix»)) ⊎ (length x.bytes ≤ snapshot_limit)

-- ---- what each key holds

-- it has no bytes, where the node has the group
abbrev pub presence : Bool → Option (List ℕ)
presence true = Some []
presence false = None

-- the vote, or none where it is that of a new group
abbrev pub HoldsVote : Option (List ℕ) → Vote ℕ → Type 0
HoldsVote None vote = vote ≡ vote_of 0 0 false
HoldsVote (Some bytes) vote = (bytes ≡ spelled_vote vote) × FitsVote vote

-- one past the last place, or none where it is 0
abbrev pub HoldsEnd : Option (List ℕ) → ℕ → Type 0
HoldsEnd None end = end ≡ 0
HoldsEnd (Some bytes) end = (bytes ≡ to_be_bytes w64 end) × (end < 2 ^ 64)

-- the bytes of what stands for the snapshot, if there is one
abbrev pub HoldsSnapshot : MachineRules → Option (List ℕ) → Option Snapshot → Type 0
HoldsSnapshot rules None None = Unit {0}
HoldsSnapshot rules None (Some y) = ⊥
HoldsSnapshot rules (Some bytes) None = ⊥
HoldsSnapshot rules (Some bytes) (Some y) = (x : SnapshotBytes) × (bytes ≡ spelled_snapshot x) × FitsSnapshot x × StandsFor rules x y

-- ---- entries

-- the log's entries stand under their places, from this one on
abbrev pub HoldsLog : (ℕ → Option (List ℕ)) → ℕ → List Entry → Type 0
HoldsLog entry place [] = Unit {0}
HoldsLog entry place (e ∷ es) = (entry place ≡ Some (spelled_entry e)) × FitsEntry e × HoldsLog entry (place + 1) es

-- There are entries from the first place on up to another place, and no others. They reach the log's end, and may reach
-- past it: those aren't read.
pub record Reaches (entry : ℕ → Option (List ℕ)) (first end : ℕ) : Type 0 where
  pub top : ℕ
  pub past_end : end ≤ top
  pub there : (i : ℕ) → first ≤ i → i < top → IsSome (entry i)
  pub none_before : (i : ℕ) → i < first → entry i ≡ None
  pub none_behind : (i : ℕ) → top ≤ i → entry i ≡ None

-- ---- the group

-- a group's keys and entries hold this stored part
pub record Holds (rules : MachineRules) (g : GroupContent (List ℕ)) (s : StoredGroup) : Type 0 where
  pub present : g.value group_key ≡ presence s.present
  pub vote : HoldsVote (g.value vote_key) s.vote
  pub end : HoldsEnd (g.value end_key) (end_place s)
  pub purged : g.value purged_key ≡ option_map spelled_log_id s.purged
  pub purged_fits : FitsLast s.purged
  pub snapshot : HoldsSnapshot rules (g.value snapshot_key) s.snapshot
  pub log : HoldsLog g.entry (first_place s) s.log
  pub reach : Reaches g.entry (first_place s) (end_place s)

-- they hold one of these
abbrev pub HoldsOne : MachineRules → GroupContent (List ℕ) → List StoredGroup → Type 0
HoldsOne rules g [] = ⊥
HoldsOne rules g (s ∷ ss) = Holds rules g s ⊎ HoldsOne rules g ss

-- ---- what is remembered

-- the last entries of a group's log have these bytes, from this place on
pub record IsTail (place : ℕ) (bytes : List (List ℕ)) (g : GroupContent (List ℕ)) : Type 0 where
  pub end : HoldsEnd (g.value end_key) (place + length bytes)
  pub each : (i : ℕ) → i < length bytes → slice_get bytes i ≡ g.entry (place + i)

-- if entries of the group are remembered, they are its last ones
abbrev pub Recalls : Option Recent → ℕ → GroupContent (List ℕ) → Type 0
Recalls None group g = Unit {0}
Recalls (Some r) group g = r.group ≡ group → IsTail r.place (payloads r.entries.items) g
