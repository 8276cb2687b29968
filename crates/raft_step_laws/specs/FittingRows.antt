-- Entries, requests and storing commands of worked rows.
use Rattle.std.specs.Prelude.{ℕ, true, false, List, [], ◌∷◌, Option, Some, None, map}
use Rattle.std.specs.List.{range_with_len}
use Rattle.raft_values.specs.Vote.{vote_of}
use Rattle.raft_values.specs.declared.log_id.LogId.{LogId}
use Rattle.raft_values.specs.LogId.{log_id_of}
use Rattle.raft_group_step.specs.Values.{Entry, Membership}
use Rattle.raft_group_step.specs.StoredGroup.{Snapshot, StoredGroup}
use Rattle.raft_group_step.specs.Message.{AppendFields, Numbered, ReplyFields, ReplyResult, RequestId, VoteRequest}
use Rattle.raft_group_step.specs.GroupState.{GroupState, state_of}
use Rattle.raft_group_step.specs.GroupEvent.{GroupEvent, Receive}
use Rattle.raft_group_step.specs.StepExample.{blank_at, with_log}

-- a membership with so many voter groups of one node
abbrev pub groups : ℕ → Membership
groups n =
    record { configs = map (λ (k : ℕ). 1 ∷ []) (range_with_len 0 n); nodes = (1, []) ∷ [] }

-- so many blanks from a place on
abbrev pub blanks_from : ℕ → ℕ → List Entry
blanks_from start n = map blank_at (range_with_len start n)

abbrev pub request : Option (LogId ℕ) → List Entry → AppendFields
request previous entries =
    record {
      vote = vote_of 1 1 true;
      id = Numbered 1;
      previous = previous;
      committed = None;
      entries = entries;
    }

-- a reply to a request of this number, that was sent behind this log id
abbrev pub reply : RequestId → Option (LogId ℕ) → ReplyResult → ReplyFields
reply id previous outcome =
    record {
      vote = vote_of 1 1 true;
      id = id;
      previous = previous;
      last = None;
      outcome = outcome;
    }

-- a log that begins at place 2, behind a purge point, with the blanks at 2 and 3
abbrev pub behind_a_purge : StoredGroup
behind_a_purge = record (with_log (blanks_from 2 2)) { purged = Some (log_id_of 1 1 1) }

-- that group, where so much is committed
abbrev pub committed_to : Option ℕ → GroupState
committed_to committed = record (state_of behind_a_purge) { committed = committed }

-- a snapshot of nothing, with such a membership
abbrev pub snapshot_of : Membership → Snapshot
snapshot_of m =
    record {
      last = log_id_of 1 1 0;
      membership = Some (record { log_id = log_id_of 0 0 0; membership = m });
      «prefix» = [];
    }

-- that group with a snapshot up to this log id
abbrev pub with_snapshot : LogId ℕ → StoredGroup
with_snapshot last =
    record behind_a_purge { snapshot = Some (record (snapshot_of (groups 1)) { last = last }) }

-- node 1 asks for a vote
abbrev pub message_of_one : GroupEvent
message_of_one =
    Receive 1 (record { sender = 1; addressee = 2; body = VoteRequest (vote_of 1 1 false) None }) 0
