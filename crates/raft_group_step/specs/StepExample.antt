-- Events and states for worked examples of single steps.
use Rattle.std.specs.Prelude.{ℕ, ◌+◌, Bool, true, false, List, [], ◌∷◌, Option, Some, None, map, drop, length}
use Rattle.std.specs.List.{range_with_len}
use Rattle.raft_values.specs.declared.vote.Vote.{Vote}
use Rattle.raft_values.specs.Vote.{vote_of}
use Rattle.raft_values.specs.declared.log_id.LogId.{LogId}
use Rattle.raft_values.specs.LogId.{log_id_of}
use Rattle.raft_state.specs.declared.entry.EntryPayload.TheVariants.{Blank, Membership as Members}
use Rattle.raft_group_step.specs.Values.{Entry, entry_of}
use Rattle.raft_group_step.specs.Message.{Message, MessageBody, VoteRequest, VoteReply, AppendRequest, AppendReply, SnapshotRequest, SnapshotReply, HigherVote, Numbered, HeartBeat}
use Rattle.raft_group_step.specs.StoredGroup.{StoredGroup, StoringCommand}
use Rattle.raft_group_step.specs.Peer.{new_peer}
use Rattle.raft_group_step.specs.GroupState.{GroupState, Leader, no_group, state_of}
use Rattle.raft_group_step.specs.declared.group_call.GroupCall.TheVariants.{Heartbeat}
use Rattle.raft_group_step.specs.GroupEvent.{Call, Receive}
use Rattle.raft_group_step.specs.StepResult.{RefusalReason, append, unchanged}
use Rattle.raft_group_step.specs.Lead.{commit_as_leader}
use Rattle.raft_group_step.specs.Frames.{request_start}
use Rattle.raft_group_step.specs.Opening.{opening_step}
use Rattle.raft_group_step.specs.GroupStep.{group_step}

-- a node that has the group, and nothing in it
abbrev pub empty_group : GroupState
empty_group = state_of (record no_group { present = true })

-- what node 2 answers to a message from node 1 that says it is from the sender
abbrev pub answer_to : GroupState → ℕ → MessageBody → Option RefusalReason
answer_to s sender body =
    (group_step 2 s
    (Receive 1 (record { sender = sender; addressee = 2; body = body }) 0)).refused

abbrev pub vote_request : Vote ℕ → MessageBody
vote_request vote = VoteRequest vote (Some (log_id_of 0 0 0))

-- a request with blank entries of these log ids
abbrev pub request : Vote ℕ → Option (LogId ℕ) → List (LogId ℕ) → MessageBody
request vote previous ids =
    AppendRequest
    (record {
      vote = vote;
      id = Numbered 1;
      previous = previous;
      committed = None;
      entries = map (λ id. entry_of id Blank) ids;
    })

abbrev pub higher_vote : Vote ℕ → MessageBody
higher_vote vote =
    AppendReply
    (record {
      vote = vote_of 1 2 true;
      id = HeartBeat;
      previous = None;
      last = None;
      outcome = HigherVote vote;
    })

-- a leader under the vote whose log ends at place 8, after it has written three blanks
abbrev pub three_blanks : List (LogId ℕ)
three_blanks =
    let stored : StoredGroup =
    record {
      present = true;
      vote = vote_of 2 2 true;
      snapshot = None;
      purged = Some (log_id_of 1 1 8);
      log = [];
    }
    in map (λ (e : Entry). e.log_id)
    (append Blank (append Blank (append Blank (unchanged (state_of stored))))).state.stored.log

-- a node with the vote (1, 1, true), heard of at moment 100
abbrev pub follower_of_one : GroupState
follower_of_one =
    record empty_group {
      stored = record empty_group.stored { vote = vote_of 1 1 true };
      now = 100;
      renewed = Some 100;
    }

abbrev pub is_grant : MessageBody → Bool
is_grant (VoteRequest vote last) = false
is_grant (VoteReply vote granted last) = granted
is_grant (AppendRequest m) = false
is_grant (AppendReply m) = false
is_grant (SnapshotRequest vote id snapshot) = false
is_grant (SnapshotReply m) = false

abbrev pub grants_in : List Message → Bool
grants_in [] = false
grants_in (m ∷ ms) = is_grant m.body

-- whether node 2 grants the vote (2, 3, false) at a moment
abbrev pub is_granted_at : ℕ → Bool
is_granted_at now =
    grants_in
    (group_step 2 follower_of_one
    (Receive 3
    (record {
      sender = 3;
      addressee = 2;
      body = VoteRequest (vote_of 2 3 false) (Some (log_id_of 0 0 0));
    })
    now)).messages

-- what node 2 stores at a notice under this vote
abbrev pub stored_at_notice : Vote ℕ → List StoringCommand
stored_at_notice vote =
    (group_step 2 follower_of_one
    (Receive vote.leader_id.node_id
    (record {
      sender = vote.leader_id.node_id;
      addressee = 2;
      body =
          AppendRequest
          (record { vote = vote; id = HeartBeat; previous = None; committed = None; entries = [] });
    })
    100)).commands

-- blanks of leader (1, 1) at the places from 0 on
abbrev pub blanks : ℕ → List Entry
blanks n = map (λ i. entry_of (log_id_of 1 1 i) Blank) (range_with_len 0 n)

-- a log of so many blanks
abbrev pub long_log : ℕ → StoredGroup
long_log n = record no_group { present = true; vote = vote_of 1 1 true; log = blanks n }

-- where the first request to a peer begins, if the log had so many entries when the lead began
abbrev pub first_request_start : ℕ → ℕ
first_request_start n = request_start (long_log n) (new_peer n 2)

-- a leader that has sent nothing yet, with so many entries besides the membership of nodes 1 and 2
abbrev pub leader_with : ℕ → GroupState
leader_with n =
    let members : Entry =
    entry_of (log_id_of 0 0 0)
    (Members (record { configs = (1 ∷ 2 ∷ []) ∷ []; nodes = (1, []) ∷ (2, []) ∷ [] }))
    in record (state_of (record (long_log 0) { log = members ∷ drop 1 (blanks (n + 1)) })) {
      role = Leader (record { began = 0; peers = [] });
    }

abbrev pub entries_in : MessageBody → ℕ
entries_in (VoteRequest vote last) = 0
entries_in (VoteReply vote granted last) = 0
entries_in (AppendRequest m) = length m.entries
entries_in (AppendReply m) = 0
entries_in (SnapshotRequest vote id snapshot) = 0
entries_in (SnapshotReply m) = 0

-- how many entries each message of its first heartbeat has
abbrev pub sent_at_heartbeat : ℕ → List ℕ
sent_at_heartbeat n =
    map (λ (m : Message). entries_in m.body)
    (group_step 1 (leader_with n) (Call Heartbeat 0)).messages

-- a blank of the first leader, at a place
abbrev pub blank_at : ℕ → Entry
blank_at place = entry_of (log_id_of 1 1 place) Blank

-- a blank of another leader, at a place
abbrev pub other_blank_at : ℕ → Entry
other_blank_at place = entry_of (log_id_of 2 2 place) Blank

-- a group with this log
abbrev pub with_log : List Entry → StoredGroup
with_log log = record no_group { present = true; log = log }

-- a group whose snapshot has the first two blanks, and whose log has this behind the purge point
abbrev pub with_snapshot : Option (LogId ℕ) → List Entry → StoredGroup
with_snapshot purged log =
    record (with_log log) {
      snapshot =
          Some
          (record {
            last = log_id_of 1 1 1;
            membership = None;
            «prefix» = blank_at 0 ∷ blank_at 1 ∷ [];
          });
      purged = purged;
    }

-- node 2 leads nodes 1, 2 and 3 under the vote (2, 2, true). Its log has the membership and another leader's blank, then
-- blanks of its own from place 2 on; node 1 has accepted up to this log id
abbrev pub leads_three : Option (LogId ℕ) → GroupState
leads_three matched =
    let members : Entry =
    entry_of (log_id_of 0 0 0)
    (Members
    (record {
      configs = (1 ∷ 2 ∷ 3 ∷ []) ∷ [];
      nodes = (1, []) ∷ (2, []) ∷ (3, []) ∷ [];
    }))
    in let log : List Entry =
    members ∷ blank_at 1 ∷ other_blank_at 2 ∷ other_blank_at 3 ∷ []
    in record (state_of (record (with_log log) { vote = vote_of 2 2 true })) {
      role =
          Leader
          (record {
            began = 2;
            peers = record (new_peer 2 1) { matched = matched } ∷ [];
          });
    }

-- up to where that leader commits
abbrev pub committed_by : Option (LogId ℕ) → Option ℕ
committed_by matched =
    let s = leads_three matched in (commit_as_leader 2 s.role (unchanged s)).state.committed

-- node 2 as it is after an opening, with this vote
abbrev pub opened : Vote ℕ → StoredGroup → GroupState
opened vote s = (opening_step 2 (record s { vote = vote })).state
