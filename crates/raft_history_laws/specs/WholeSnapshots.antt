-- A snapshot has the whole list up to its last entry.
use Rattle.std.specs.Prelude.{◌≡◌, ℕ, ◌+◌, List, length, slice_get, Some, None, Contains}
use Rattle.raft_values.specs.declared.vote.Vote.{Vote}
use Rattle.raft_group_step.specs.Values.{Entry, last_membership}
use Rattle.raft_group_step.specs.StoredGroup.{StoredGroup, Snapshot}
use Rattle.raft_group_step.specs.Message.{Message, SnapshotRequest}
use Rattle.raft_laws.specs.GroupWorld.{GroupWorld, Recorded}
use Rattle.raft_laws.specs.VotesRise.{stored_of}
use Rattle.raft_laws.specs.OneList.{IsGroupHistory}

-- the list has an entry at each place up to that of the last log id, whose entry ends it, and the membership is the last one in it
pub record IsWhole (x : Snapshot) : Type 0 where
  pub size : length x.«prefix» ≡ x.last.index + 1
  pub placed : (i : ℕ) (e : Entry) → slice_get x.«prefix» i ≡ Some e → e.log_id.index ≡ i
  pub entry : Entry
  pub stands_last : slice_get x.«prefix» x.last.index ≡ Some entry
  pub last : entry.log_id ≡ x.last
  pub membership : x.membership ≡ last_membership None x.«prefix»

-- so is each that a node has stored, whether it is up or down
abbrev pub SnapshotsAreWhole : Type 0
SnapshotsAreWhole =
    (ids : List ℕ) (rs : List Recorded) (end : GroupWorld) → IsGroupHistory ids rs end
    → (n : ℕ) (st : StoredGroup) (x : Snapshot) → stored_of (end.nodes n) ≡ Some st → st.snapshot ≡ Some x → IsWhole x

-- and each that was sent
abbrev pub SentSnapshotsAreWhole : Type 0
SentSnapshotsAreWhole =
    (ids : List ℕ) (rs : List Recorded) (end : GroupWorld) → IsGroupHistory ids rs end
    → (m : Message) → Contains end.messages m
    → (vote : Vote ℕ) (id : ℕ) (x : Snapshot) → m.body ≡ SnapshotRequest vote id x → IsWhole x
