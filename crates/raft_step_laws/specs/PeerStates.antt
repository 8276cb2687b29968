-- What a leader knows of its peers, as a function of what it sent them and what came back.
use Rattle.std.specs.Prelude.{◌≡◌, ℕ, ◌+◌, ◌==◌, ◌&&◌, if◌then◌else◌, Bool, true, false, List, [], ◌∷◌, Option, Some, None}
use Rattle.raft_values.specs.declared.vote.Vote.{Vote}
use Rattle.raft_values.specs.declared.log_id.LogId.{LogId}
use Rattle.raft_group_step.specs.Values.{vote_eq}
use Rattle.raft_group_step.specs.Message.{Message, MessageBody, VoteRequest, VoteReply, AppendRequest, AppendReply, SnapshotRequest, SnapshotReply}
use Rattle.raft_group_step.specs.Message.{AppendFields, ReplyFields, RequestId, HeartBeat, Numbered, last_sent}
use Rattle.raft_group_step.specs.Peer.{PeerState, is_answer_to, new_peer}
use Rattle.raft_group_step.specs.GroupState.{GroupState, Lead, Leader}
use Rattle.raft_group_step.specs.declared.group_call.GroupCall.TheVariants.{Initialize, Elect, Propose, ChangeMembership, Heartbeat, Lost, TriggerSnapshot, TriggerPurge}
use Rattle.raft_group_step.specs.GroupEvent.{GroupCall, GroupEvent, AddGroup, Call, Receive, Open}
use Rattle.raft_group_step.specs.Lead.{peer_of}
use Rattle.raft_group_step.specs.Reply.{after_answer, ended}
use Rattle.raft_group_step.specs.Refusal.{refusal_of}
use Rattle.raft_group_step.specs.GroupStep.{group_step}
use Rattle.raft_step_laws.specs.Tokens.{HasItsOwnVote, leads_on}

-- ---- what comes back

-- a reply counts where it answers the outstanding request, under the leader's vote
abbrev pub peer_after_reply : Vote ℕ → ReplyFields → PeerState → PeerState
peer_after_reply vote reply p =
    if vote_eq reply.vote vote && is_answer_to reply p.outstanding
    then after_answer p reply reply.outcome else p

abbrev pub peer_after_message : Vote ℕ → MessageBody → PeerState → PeerState
peer_after_message vote (VoteRequest v last) p = p
peer_after_message vote (VoteReply v granted last) p = p
peer_after_message vote (AppendRequest m) p = p
peer_after_message vote (AppendReply reply) p = peer_after_reply vote reply p
peer_after_message vote (SnapshotRequest v id snapshot) p = p
peer_after_message vote (SnapshotReply reply) p = peer_after_reply vote reply p

-- the request to this node is lost
abbrev pub loses : GroupCall → ℕ → Bool
loses (Initialize m) n = false
loses Elect n = false
loses (Propose command token) n = false
loses (ChangeMembership change token) n = false
loses Heartbeat n = false
loses (Lost peer) n = peer == n
loses TriggerSnapshot n = false
loses (TriggerPurge place) n = false

-- the peer after what came: its reply, or the loss of its request
abbrev pub peer_after_event : GroupState → GroupEvent → PeerState → PeerState
peer_after_event s AddGroup p = p
peer_after_event s (Call call now) p = if loses call p.peer then ended p else p
peer_after_event s (Receive peer m now) p =
    if peer == p.peer then peer_after_message s.stored.vote m.body p else p
peer_after_event s Open p = p

-- ---- what is sent

-- the leader waits for the request of this number from now on, and the next has the number after it
abbrev pub waits_for : ℕ → Option (LogId ℕ) → Option (LogId ℕ) → Bool → PeerState → PeerState
waits_for id previous last has_snapshot p =
    record p {
      next_id = id + 1;
      outstanding =
          Some
          (record { id = id; previous = previous; last = last; has_snapshot = has_snapshot });
    }

-- nobody waits for the answer to a request without a number
abbrev pub after_append : RequestId → AppendFields → PeerState → PeerState
after_append HeartBeat m p = p
after_append (Numbered id) m p =
    waits_for id m.previous (last_sent m.previous m.entries) false p

abbrev pub after_body : MessageBody → PeerState → PeerState
after_body (VoteRequest vote last) p = p
after_body (VoteReply vote granted last) p = p
after_body (AppendRequest m) p = after_append m.id m p
after_body (AppendReply reply) p = p
after_body (SnapshotRequest vote id snapshot) p =
    waits_for id None (Some snapshot.last) true p
after_body (SnapshotReply reply) p = p

-- the peer after these messages were sent, in their order
abbrev pub peer_after_sending : List Message → PeerState → PeerState
peer_after_sending [] p = p
peer_after_sending (m ∷ ms) p =
    peer_after_sending ms (if m.addressee == p.peer then after_body m.body p else p)

-- ---- the law

-- the node leads on in the lead that it had: an opening begins another
abbrev pub keeps_its_lead : GroupState → GroupEvent → GroupState → Bool
keeps_its_lead s AddGroup t = leads_on s t
keeps_its_lead s (Call call now) t = leads_on s t
keeps_its_lead s (Receive peer m now) t = leads_on s t
keeps_its_lead s Open t = false

-- in one lead: what came changes the peer, and then what is sent
abbrev pub PeersReplay : Type 0
PeersReplay =
    (own : ℕ) (s : GroupState) (e : GroupEvent) → HasItsOwnVote own s → refusal_of own s e ≡ None
    → (lead lead' : Lead) → s.role ≡ Leader lead → (group_step own s e).state.role ≡ Leader lead'
    → keeps_its_lead s e (group_step own s e).state ≡ true
    → (lead'.began ≡ lead.began)
    × ((n : ℕ) → peer_of lead' n ≡ peer_after_sending (group_step own s e).messages (peer_after_event s e (peer_of lead n)))

-- as a lead begins, nothing is known of any peer but what is sent then
abbrev pub LeadsBeginAnew : Type 0
LeadsBeginAnew =
    (own : ℕ) (s : GroupState) (e : GroupEvent) → HasItsOwnVote own s → refusal_of own s e ≡ None
    → (lead : Lead) → (group_step own s e).state.role ≡ Leader lead
    → keeps_its_lead s e (group_step own s e).state ≡ false
    → (n : ℕ) → peer_of lead n ≡ peer_after_sending (group_step own s e).messages (new_peer lead.began n)
