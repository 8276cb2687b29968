-- What nodes have stored, peers, messages and a run of worked rows, with numbers at their end.
use Rattle.std.specs.Prelude.{ℕ, ◌-◌, ◌^◌, Bool, true, false, List, [], ◌∷◌, map, Option, Some, None, option_and_then}
use Rattle.raft_values.specs.Vote.{vote_of}
use Rattle.raft_values.specs.declared.log_id.LogId.{LogId}
use Rattle.raft_values.specs.LogId.{log_id_of}
use Rattle.raft_state.specs.declared.entry.EntryPayload.TheVariants.{Blank, Membership as Members}
use Rattle.raft_group_step.specs.Values.{Membership, entry_of}
use Rattle.raft_group_step.specs.StoredGroup.{Snapshot, StoredGroup}
use Rattle.raft_group_step.specs.Message.{AppendReply, AppendRequest, HigherVote, Message, MessageBody, Numbered, ReplyFields, SnapshotReply, SnapshotRequest, VoteReply, VoteRequest}
use Rattle.raft_group_step.specs.Peer.{Outstanding, PeerState, new_peer}
use Rattle.raft_group_step.specs.GroupState.{GroupState}
use Rattle.raft_group_step.specs.declared.group_call.GroupCall.TheVariants.{Heartbeat, TriggerSnapshot}
use Rattle.raft_group_step.specs.GroupEvent.{Call, GroupEvent, Receive}
use Rattle.raft_group_step.specs.StepResult.{RefusalReason, StepResult, unchanged}
use Rattle.raft_group_step.specs.Refusal.{are_in_range, next_ids, numbers_of, numbers_of_membership, refusal_of}
use Rattle.raft_group_step.specs.GroupStep.{group_step}
use Rattle.raft_group_step.specs.StepExample.{empty_group}
use Rattle.raft_step_laws.specs.TakingRows.{leader}

-- the greatest number in range, and the first one that isn't
abbrev pub top : ℕ
top = 2 ^ 62 - 1

abbrev pub past : ℕ
past = 2 ^ 62

-- a log id with this term and place
abbrev pub id_of : ℕ → LogId ℕ
id_of n = log_id_of n 1 n

abbrev pub members : Membership
members = record { configs = (1 ∷ 2 ∷ []) ∷ []; nodes = (1, []) ∷ (2, []) ∷ [] }

-- ---- what a node has stored

-- the numbers of its last log id, of its membership's, and of its list's
abbrev pub snapshot_of : ℕ → ℕ → ℕ → Snapshot
snapshot_of last membership listed =
    record {
      last = id_of last;
      membership = Some (record { log_id = id_of membership; membership = members });
      «prefix» = entry_of (id_of listed) (Members members) ∷ [];
    }

-- the numbers of its vote, its purge point, its log, and its snapshot
abbrev pub stored_with : ℕ → ℕ → ℕ → Snapshot → StoredGroup
stored_with vote purged logged snapshot =
    record {
      present = true;
      vote = vote_of vote 1 true;
      snapshot = Some snapshot;
      purged = Some (id_of purged);
      log = entry_of (id_of logged) Blank ∷ [];
    }

-- ---- peers

abbrev pub request_to : ℕ → Outstanding
request_to id = record { id = id; previous = None; last = None; has_snapshot = false }

-- the number of what the peer has accepted, that of the next request, and whether one is outstanding
abbrev pub peer_with : ℕ → ℕ → Option Outstanding → PeerState
peer_with matched next outstanding =
    record (new_peer 2 1) { matched = Some (id_of matched); next_id = next; outstanding = outstanding }

-- ---- messages

-- a vote request and a reply, with the numbers of the vote and of the last log id
abbrev pub votes_with : ℕ → ℕ → List MessageBody
votes_with vote last =
    VoteRequest (vote_of vote 1 false) (Some (id_of last))
    ∷ VoteReply (vote_of vote 1 false) true (Some (id_of last)) ∷ []

-- the numbers of its vote, its own, and those of its previous log id, of what is committed, and of its entry
abbrev pub request_with : ℕ → ℕ → ℕ → ℕ → ℕ → MessageBody
request_with vote id previous committed entry =
    AppendRequest
    (record {
      vote = vote_of vote 1 true;
      id = Numbered id;
      previous = Some (id_of previous);
      committed = Some (id_of committed);
      entries = entry_of (id_of entry) Blank ∷ [];
    })

-- the numbers of its vote, its own, and those of its previous and last log id, and of the greater vote that it tells
abbrev pub fields_with : ℕ → ℕ → ℕ → ℕ → ℕ → ReplyFields
fields_with vote id previous last outcome =
    record {
      vote = vote_of vote 1 true;
      id = Numbered id;
      previous = Some (id_of previous);
      last = Some (id_of last);
      outcome = HigherVote (vote_of outcome 1 true);
    }

abbrev pub reply_with : ℕ → ℕ → ℕ → ℕ → ℕ → MessageBody
reply_with vote id previous last outcome = AppendReply (fields_with vote id previous last outcome)

abbrev pub snapshot_reply_with : ℕ → ℕ → ℕ → ℕ → ℕ → MessageBody
snapshot_reply_with vote id previous last outcome =
    SnapshotReply (fields_with vote id previous last outcome)

-- the numbers of its vote, its own, and those of its snapshot
abbrev pub snapshot_with : ℕ → ℕ → ℕ → ℕ → ℕ → MessageBody
snapshot_with vote id last membership listed =
    SnapshotRequest (vote_of vote 1 true) id (snapshot_of last membership listed)

abbrev pub is_in_range : MessageBody → Bool
is_in_range b = are_in_range (numbers_of b)

-- whether messages are in range that have one number past the end: the first, the second, and so on
abbrev pub with_one_past : (ℕ → ℕ → ℕ → ℕ → ℕ → MessageBody) → List Bool
with_one_past body =
    map is_in_range
    (body past 0 0 0 0 ∷ body 0 past 0 0 0 ∷ body 0 0 past 0 0 ∷ body 0 0 0 past 0
    ∷ body 0 0 0 0 past ∷ [])

abbrev pub none_in_range : List Bool
none_in_range = false ∷ false ∷ false ∷ false ∷ false ∷ []

-- ---- a run: what a snapshot's list has comes back in a later snapshot

-- node 1 sends this to node 2
abbrev pub sends : MessageBody → GroupEvent
sends body = Receive 1 (record { sender = 1; addressee = 2; body = body }) 0

-- a snapshot without a membership, whose list has one at this place
abbrev pub listed_at : ℕ → GroupEvent
listed_at n =
    sends
    (SnapshotRequest (vote_of 1 1 true) 1
    (record {
      last = log_id_of 1 1 0;
      membership = None;
      «prefix» = entry_of (id_of n) (Members members) ∷ [];
    }))

-- then comes a blank at place 1, which is committed
abbrev pub then_a_blank : GroupEvent
then_a_blank =
    sends
    (AppendRequest
    (record {
      vote = vote_of 1 1 true;
      id = Numbered 2;
      previous = Some (log_id_of 1 1 0);
      committed = Some (log_id_of 1 1 1);
      entries = entry_of (log_id_of 1 1 1) Blank ∷ [];
    }))

-- node 2 after both
abbrev pub receiver : ℕ → GroupState
receiver n = (group_step 2 (group_step 2 empty_group (listed_at n)).state then_a_blank).state

-- the numbers of the membership in the snapshot that it builds then
abbrev pub built_numbers : ℕ → List ℕ
built_numbers n =
    numbers_of_membership
    (option_and_then (λ (x : Snapshot). x.membership)
    (group_step 2 (receiver n) (Call TriggerSnapshot 0)).state.stored.snapshot)

-- ---- steps, made up

-- a step that sends this and changes nothing
abbrev pub sending : MessageBody → StepResult
sending body =
    record (unchanged (leader 1)) {
      messages = record { sender = 2; addressee = 1; body = body } ∷ [];
    }

-- the state with a vote of this term
abbrev pub with_term : ℕ → GroupState → GroupState
with_term term s = record s { stored = record s.stored { vote = vote_of term 2 true } }

-- ---- a leader's last request

-- the heartbeat of a leader whose next request to node 1 has this number
abbrev pub beat : ℕ → StepResult
beat next_id = group_step 2 (leader next_id) (Call Heartbeat 0)

-- the numbers that it leaves for the next requests, and whether the messages are in range
abbrev pub next_after : ℕ → List ℕ
next_after next_id = next_ids (beat next_id).state.role

abbrev pub ranges_after : ℕ → List Bool
ranges_after next_id = map (λ (m : Message). is_in_range m.body) (beat next_id).messages

-- why the heartbeat after it is refused
abbrev pub refused_after : ℕ → Option RefusalReason
refused_after next_id = refusal_of 2 (beat next_id).state (Call Heartbeat 0)
