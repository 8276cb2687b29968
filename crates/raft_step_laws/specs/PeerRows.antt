-- Peers of worked rows.
use Rattle.std.specs.Prelude.{ℕ, true, false, List, [], ◌∷◌, Option, Some, None}
use Rattle.raft_values.specs.declared.vote.Vote.{Vote}
use Rattle.raft_values.specs.Vote.{vote_of}
use Rattle.raft_values.specs.declared.log_id.LogId.{LogId}
use Rattle.raft_values.specs.LogId.{log_id_of}
use Rattle.raft_group_step.specs.StoredGroup.{Snapshot}
use Rattle.raft_group_step.specs.Message.{Message, MessageBody, AppendReply, AppendRequest, SnapshotRequest, ReplyResult, RequestId}
use Rattle.raft_group_step.specs.Peer.{PeerState, new_peer}
use Rattle.raft_group_step.specs.GroupState.{GroupState, Role, Follower, Candidate, Leader}
use Rattle.raft_group_step.specs.declared.group_call.GroupCall.TheVariants.{Heartbeat}
use Rattle.raft_group_step.specs.GroupEvent.{Call, GroupEvent, Receive}
use Rattle.raft_group_step.specs.StepResult.{StepResult}
use Rattle.raft_group_step.specs.Lead.{peer_of}
use Rattle.raft_group_step.specs.GroupStep.{group_step}
use Rattle.raft_group_step.specs.StepExample.{blank_at, other_blank_at}
use Rattle.raft_step_laws.specs.PeerStates.{peer_after_event, peer_after_sending, waits_for}
use Rattle.raft_step_laws.specs.TokenRows.{leader}

abbrev pub before : Option (LogId ℕ)
before = Some (log_id_of 1 1 1)

abbrev pub last : Option (LogId ℕ)
last = Some (log_id_of 2 2 3)

-- node 1, of which nothing is known yet, where the lead began at place 2
abbrev pub fresh : PeerState
fresh = new_peer 2 1

-- it was sent the entries at the places 2 and 3, as request 1
abbrev pub asked : PeerState
asked = waits_for 1 before last false fresh

-- it has accepted them
abbrev pub accepted : PeerState
accepted = record asked { matched = last; search = 4; outstanding = None }

-- the request is ended, and nothing else is known
abbrev pub ended_request : PeerState
ended_request = record asked { outstanding = None }

-- a reply to the leader
abbrev pub replies : ℕ → Vote ℕ → RequestId → Option (LogId ℕ) → Option (LogId ℕ) → ReplyResult → GroupEvent
replies peer vote id previous end outcome =
    Receive peer
    (record {
      sender = peer;
      addressee = 2;
      body =
          AppendReply
          (record { vote = vote; id = id; previous = previous; last = end; outcome = outcome });
    })
    0

-- what the leader knows of node 1 once this came
abbrev pub comes : GroupEvent → PeerState
comes e = peer_after_event leader e asked

abbrev pub request : RequestId → MessageBody
request id =
    AppendRequest
    (record {
      vote = vote_of 2 2 true;
      id = id;
      previous = before;
      committed = None;
      entries = other_blank_at 2 ∷ other_blank_at 3 ∷ [];
    })

abbrev pub small_snapshot : Snapshot
small_snapshot =
    record {
      last = log_id_of 1 1 1;
      membership = None;
      «prefix» = blank_at 0 ∷ blank_at 1 ∷ [];
    }

abbrev pub snapshot_request : ℕ → MessageBody
snapshot_request id = SnapshotRequest (vote_of 2 2 true) id small_snapshot

-- what the leader knows of node 1 once these were sent
abbrev pub sent : List Message → PeerState
sent ms = peer_after_sending ms fresh

abbrev pub to : ℕ → MessageBody → Message
to peer body = record { sender = 2; addressee = peer; body = body }

-- what a node knows of a peer as a step is over, where it leads
abbrev pub known : ℕ → Role → Option PeerState
known n Follower = None
known n (Candidate granters) = None
known n (Leader lead) = Some (peer_of lead n)

abbrev pub known_after : GroupState → GroupEvent → ℕ → Option PeerState
known_after s e n = known n (group_step 2 s e).state.role

-- the leader's heartbeat, by which it also serves node 3
abbrev pub beat : StepResult
beat = group_step 2 leader (Call Heartbeat 0)
