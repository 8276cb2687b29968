-- What a leader's requests say to a node that follows.
use Rattle.std.specs.Prelude.{◌≡◌, ◌≢◌, ℕ, ◌<◌, ◌==◌, ◌&&◌, nat_le, Bool, true, false, if◌then◌else◌, List, [], ◌∷◌, Option, Some, None}
use Rattle.raft_values.specs.declared.vote.Vote.{Vote}
use Rattle.raft_values.specs.declared.log_id.LogId.{LogId}
use Rattle.raft_values.specs.LogId.{next_place}
use Rattle.raft_group_step.specs.declared.append_entries.AppendEntriesRequest.{AppendEntriesRequest}
use Rattle.raft_group_step.specs.Values.{Entry}
use Rattle.raft_group_step.specs.StoredGroup.{StoredGroup, Snapshot, end_place}
use Rattle.raft_group_step.specs.Message.{AppendFields, Numbered, last_sent}
use Rattle.raft_group_step.specs.AppendRequest.{is_held}
use Rattle.raft_commands.specs.declared.caller.Caller.{Caller}
use Rattle.raft_engine.specs.Commands.{number_of}

-- the place, if there is one, is below the log's end
abbrev pub EndsWithin : Option ℕ → StoredGroup → Type 0
EndsWithin place s = (p : ℕ) → place ≡ Some p → p < end_place s

-- each entry stands at the place behind the one before it, and the first one behind this log id
abbrev pub follow_one_another : Option (LogId ℕ) → List Entry → Bool
follow_one_another previous [] = true
follow_one_another previous (e ∷ es) =
    if e.log_id.index == next_place previous then follow_one_another (Some e.log_id) es else false

-- the first entry stands no further than the log's end, and the others follow it
abbrev pub join_log : ℕ → List Entry → Bool
join_log end [] = true
join_log end (e ∷ es) = nat_le e.log_id.index end && follow_one_another (Some e.log_id) es

-- the place, if there is one, is at the log's end or behind it
abbrev pub is_behind_log : ℕ → Option ℕ → Bool
is_behind_log end None = false
is_behind_log end (Some place) = nat_le end place

-- the entries from the first one on that is neither committed nor in the log
abbrev pub unheld_entries : StoredGroup → Option ℕ → List Entry → List Entry
unheld_entries s committed [] = []
unheld_entries s committed (e ∷ es) = if is_held s committed (Some e.log_id) then unheld_entries s committed es else e ∷ es

-- a leader's vote, which a quorum has granted, and of another node
pub record IsVoteOfAnother (own : ℕ) (vote : Vote ℕ) : Type 0 where
  pub committed : vote.committed ≡ true
  pub anothers : vote.leader_id.node_id ≢ own

-- the request says this
pub record SpellsAppend (req : AppendEntriesRequest ℕ (List ℕ) (List ℕ)) (m : AppendFields) : Type 0 where
  pub vote : req.vote ≡ m.vote
  pub previous : req.prev_log_id ≡ m.previous
  pub entries : req.entries ≡ m.entries
  pub committed : req.leader_commit ≡ m.committed

-- the answer to the caller repeats this of the request
pub record SpellsAppendReply (tx : Caller ℕ) (m : AppendFields) : Type 0 where
  pub vote : tx.vote ≡ m.vote
  pub id : number_of tx.id ≡ m.id
  pub previous : tx.previous ≡ m.previous
  pub last : tx.last ≡ last_sent m.previous m.entries

-- the answer to the caller repeats the number of the request and the snapshot's last log id
pub record SpellsSnapshotReply (tx : Caller ℕ) (id : ℕ) (x : Snapshot) : Type 0 where
  pub number : number_of tx.id ≡ Numbered id
  pub last : tx.last ≡ Some x.last
