-- What goes to a peer next, what a reply says, and the room that both take.
use Rattle.std.specs.Prelude.{◌≡◌, ℕ, ◌+◌, ◌-◌, ◌^◌, ◌<◌, ◌≤◌, nat_eq, nat_lt, true, if◌then◌else◌, take, drop, Option, Some, None}
use Rattle.raft_progress.specs.declared.inflight.Inflight.{Inflight}
use Rattle.raft_progress.specs.declared.inflight.Inflight.TheVariants.{Logs, Snapshot as SnapshotInFlight}
use Rattle.raft_progress.specs.declared.progress_entry.ProgressEntry.{ProgressEntry}
use Rattle.raft_progress.specs.Parts.{has_value}
use Rattle.raft_group_step.specs.declared.append_entries.AppendEntriesResponse.{AppendEntriesResponse}
use Rattle.raft_group_step.specs.StoredGroup.{StoredGroup, Snapshot, first_place, end_place, id_before}
use Rattle.raft_group_step.specs.Message.{ReplyFields, last_sent}
use Rattle.raft_group_step.specs.Peer.{PeerState, with_peer}
use Rattle.raft_group_step.specs.GroupState.{GroupState, Lead, Role, Follower, Candidate, Leader}
use Rattle.raft_group_step.specs.Lead.{peer_of}
use Rattle.raft_group_step.specs.Frames.{entries_in_request, request_start}
use Rattle.raft_commands.specs.declared.caller.Caller.{Caller}
use Rattle.raft_leaders.specs.Leader.{LeaderValue}
use Rattle.raft_engine.specs.Commands.{number_of}
use Rattle.raft_messages.specs.Messages.{outcome_of}
use Rattle.raft_engine.specs.Standing.{EffectiveMembership}

-- the log ids of the entries that go to the peer next, under its next number
abbrev pub logs_for : StoredGroup → PeerState → Inflight ℕ
logs_for s p =
    let start = request_start s p
    in let prev = id_before s start
    in Logs p.next_id (record { prev = prev; last = last_sent prev (take entries_in_request (drop (start - first_place s) s.log)) })

-- what goes to the peer next: the snapshot where the search stands below the log
abbrev pub request_for : StoredGroup → PeerState → Option Snapshot → Inflight ℕ
request_for s p None = logs_for s p
request_for s p (Some x) =
    if nat_lt p.search (first_place s) then SnapshotInFlight p.next_id (Some x.last) else logs_for s p

-- the peer once this has left
abbrev pub waiting_for : ProgressEntry ℕ → Inflight ℕ → ProgressEntry ℕ
waiting_for entry request = record entry { curr_inflight_id = entry.curr_inflight_id + 1; inflight = request }

-- what a reply says of the request that it answers, and what came of it
abbrev pub reply_of : Caller ℕ → AppendEntriesResponse ℕ → ReplyFields
reply_of tx outcome =
    record { vote = tx.vote; id = number_of tx.id; previous = tx.previous; last = tx.last; outcome = outcome_of outcome }

-- the leader has an entry for the node, if there is a leader
abbrev pub HasPeer : ℕ → Option (LeaderValue ℕ EffectiveMembership) → Type 0
HasPeer n None = Unit {0}
HasPeer n (Some l) = has_value nat_eq l.progress n ≡ true

-- each peer can get so many more requests before its numbers end
abbrev pub NumbersLeft : ℕ → Role → Type 0
NumbersLeft k Follower = Unit {0}
NumbersLeft k (Candidate granters) = Unit {0}
NumbersLeft k (Leader lead) = (n : ℕ) → (peer_of lead n).next_id + k ≤ 2 ^ 64

-- the log's places fit 64 bits, and so do the numbers of so many more requests to each peer
pub record HasRoomFor (k : ℕ) (s : GroupState) : Type 0 where
  pub places : end_place s.stored < 2 ^ 64
  pub numbers : NumbersLeft k s.role

-- the state with this known of a peer
abbrev pub with_known : PeerState → Lead → GroupState → GroupState
with_known p lead s = record s { role = Leader (record lead { peers = with_peer p lead.peers }) }
