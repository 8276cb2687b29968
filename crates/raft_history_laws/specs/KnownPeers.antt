-- What a leader knows of its peers, by the events of its lead.
use Rattle.std.specs.Prelude.{◌≡◌, ℕ, ◌==◌, ◌&&◌, ◌||◌, nat_le, if◌then◌else◌, Bool, List, [], ◌∷◌, ◌++◌, Option, Some, None}
use Rattle.std.specs.List.{list_any}
use Rattle.raft_values.specs.declared.log_id.LogId.{LogId}
use Rattle.raft_values.specs.declared.vote.Vote.{Vote}
use Rattle.raft_quorums.specs.Quorum.{is_quorum}
use Rattle.raft_group_step.specs.Values.{vote_eq}
use Rattle.raft_group_step.specs.Message.{MessageBody, VoteRequest, VoteReply, AppendRequest, AppendReply, SnapshotRequest, SnapshotReply}
use Rattle.raft_group_step.specs.Message.{ReplyFields, ReplyResult, Success, PartialSuccess, Conflict, HigherVote}
use Rattle.raft_group_step.specs.Peer.{PeerState, is_answer_to, new_peer}
use Rattle.raft_group_step.specs.Reply.{is_part_of}
use Rattle.raft_group_step.specs.GroupState.{GroupState, Lead, Leader}
use Rattle.raft_group_step.specs.GroupEvent.{GroupEvent, AddGroup, Call, Receive, Open}
use Rattle.raft_group_step.specs.Lead.{configs_in_force, peer_of}
use Rattle.raft_laws.specs.GroupWorld.{Up, new_world}
use Rattle.raft_laws.specs.GroupRun.{group_run}
use Rattle.raft_laws.specs.OneList.{AreNodeIds}
use Rattle.raft_laws.specs.Origins.{Events}
use Rattle.raft_step_laws.specs.Commits.{reaches}
use Rattle.raft_step_laws.specs.PeerStates.{peer_after_event, peer_after_sending}
use Rattle.raft_history_laws.specs.Leads.{LeadEvent, leads_of}

-- a peer after the events of a lead of this leader: each event's reply or loss, and then what was sent
abbrev pub peer_after_lead : GroupState → List LeadEvent → PeerState → PeerState
peer_after_lead s [] p = p
peer_after_lead s (x ∷ xs) p =
    peer_after_lead s xs (peer_after_sending x.sent (peer_after_event s x.event p))

-- so a leader knows each peer: by what it sent in this lead, and what came
abbrev pub PeerStatesReplay : Type 0
PeerStatesReplay =
    (ids : List ℕ) → AreNodeIds ids → (es : Events) (n : ℕ) (s : GroupState) (lead : Lead)
    → (group_run es (new_world ids)).nodes n ≡ Up s → s.role ≡ Leader lead
    → (peer : ℕ) → peer_of lead peer ≡ peer_after_lead s (leads_of es (new_world ids) n) (new_peer lead.began peer)

-- ---- what a peer has answered with success

abbrev pub in_list : Option (LogId ℕ) → List (LogId ℕ)
in_list None = []
in_list (Some id) = id ∷ []

-- the last log id of the request, or the part of it that the reply names
abbrev pub accepted_in : PeerState → ReplyFields → ReplyResult → List (LogId ℕ)
accepted_in p reply Success = in_list reply.last
accepted_in p reply (PartialSuccess last) = if is_part_of p reply last then in_list last else []
accepted_in p reply Conflict = []
accepted_in p reply (HigherVote vote) = []

-- the log id up to which a reply accepts the outstanding request, if it answers that under the leader's vote
abbrev pub accepted_by_reply : Vote ℕ → ReplyFields → PeerState → List (LogId ℕ)
accepted_by_reply vote reply p =
    if vote_eq reply.vote vote && is_answer_to reply p.outstanding
    then accepted_in p reply reply.outcome else []

abbrev pub accepted_by_message : Vote ℕ → MessageBody → PeerState → List (LogId ℕ)
accepted_by_message vote (VoteRequest v last) p = []
accepted_by_message vote (VoteReply v granted last) p = []
accepted_by_message vote (AppendRequest m) p = []
accepted_by_message vote (AppendReply reply) p = accepted_by_reply vote reply p
accepted_by_message vote (SnapshotRequest v id snapshot) p = []
accepted_by_message vote (SnapshotReply reply) p = accepted_by_reply vote reply p

abbrev pub accepted_by_event : GroupState → GroupEvent → PeerState → List (LogId ℕ)
accepted_by_event s AddGroup p = []
accepted_by_event s (Call call now) p = []
accepted_by_event s (Receive peer m now) p =
    if peer == p.peer then accepted_by_message s.stored.vote m.body p else []
accepted_by_event s Open p = []

-- the last log ids of the replies that answered the peer's outstanding requests with Success, in the order of the events
abbrev pub answered_in : GroupState → List LeadEvent → PeerState → List (LogId ℕ)
answered_in s [] p = []
answered_in s (x ∷ xs) p =
    accepted_by_event s x.event p
    ++ answered_in s xs (peer_after_sending x.sent (peer_after_event s x.event p))

-- one of them is at the place or past it
abbrev pub one_reaches : ℕ → List (LogId ℕ) → Bool
one_reaches place ids = list_any (λ (id : LogId ℕ). nat_le place id.index) ids

-- what a leader knows that a peer has accepted is what the peer has answered in this lead, at its greatest
abbrev pub MatchedIsAnswered : Type 0
MatchedIsAnswered =
    (ids : List ℕ) → AreNodeIds ids → (es : Events) (n : ℕ) (s : GroupState) (lead : Lead)
    → (group_run es (new_world ids)).nodes n ≡ Up s → s.role ≡ Leader lead
    → (peer place : ℕ)
    → reaches (peer_of lead peer).matched place
    ≡ one_reaches place (answered_in s (leads_of es (new_world ids) n) (new_peer lead.began peer))

-- the leader itself, and the peers that answered the place or one past it in these events of its lead, are a quorum
abbrev pub has_answered_quorum : ℕ → GroupState → Lead → List LeadEvent → ℕ → Bool
has_answered_quorum own s lead events place =
    is_quorum (configs_in_force s.stored)
    (λ n. n == own || one_reaches place (answered_in s events (new_peer lead.began n)))
