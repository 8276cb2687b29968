-- What ties the nodes and messages of a group's world to those of the ballot machine.
use Rattle.std.specs.Prelude.{◌≡◌, ◌⊎◌, ℕ, ◌+◌, ◌<◌, ◌≤◌, ◌^◌, Bool, true, false, List, length, slice_get, Option, Some, None}
use Rattle.std.proofs.Common.{inl, sym, ap, ◌∙◌, subst}
use Rattle.raft_values.specs.declared.log_id.LogId.{LogId}
use Rattle.raft_values.specs.declared.vote.Vote.{Vote}
use Rattle.raft_values.specs.LogId.{next_place}
use Rattle.raft_group_step.specs.Values.{Membership}
use Rattle.raft_group_step.specs.Values.{Entry, last_membership}
use Rattle.raft_group_step.specs.StoredGroup.{StoredGroup, Snapshot, prefix_of, held}
use Rattle.raft_group_step.specs.Message.{Message, MessageBody, VoteRequest, VoteReply, AppendRequest, AppendReply, SnapshotRequest, SnapshotReply, AppendFields, ReplyFields, ReplyResult, Success, PartialSuccess, Conflict, HigherVote}
use Rattle.raft_group_step.specs.Peer.{PeerState, Outstanding}
use Rattle.raft_group_step.specs.GroupState.{GroupState, Role, Follower, Candidate, Leader}
use Rattle.raft_group_step.specs.SnapshotRequest.{place_above}
use Rattle.raft_laws.specs.BallotLogs.{BallotEntry}
use Rattle.raft_laws.specs.BallotWorld.{BallotNode, BallotRequest, BallotGrant, BallotAppend, BallotReply, BallotWorld}
use Rattle.raft_laws.specs.BallotRanks.{rank_of, ballot_log}
use Rattle.raft_laws.proofs.BallotSafe.{Among}
use Rattle.raft_laws.proofs.BallotOthers.{Extends}
use Rattle.raft_laws.proofs.Shapes.{Good, Joined, Stale}
use Rattle.raft_laws.proofs.Memberships.{HasMembership}

abbrev pub request-of : ℕ → ℕ → ℕ → BallotRequest
request-of b last count = record { ballot = b; last = record { ballot = last; count = count } }

abbrev pub grant-of : ℕ → ℕ → BallotGrant
grant-of b n = record { ballot = b; node = n }

abbrev pub append-of : ℕ → ℕ → ℕ → List BallotEntry → ℕ → BallotAppend
append-of b start previous entries commit =
    record { ballot = b; start = start; previous = previous; entries = entries; commit = commit }

abbrev pub reply-of : ℕ → ℕ → ℕ → BallotReply
reply-of b n upto = record { ballot = b; node = n; upto = upto }

-- the ballot of a log id that may be none
abbrev pub id_rank : Option (LogId ℕ) → ℕ
id_rank None = 0
id_rank (Some id) = rank_of id.leader_id

-- the list has the entry of this log id
pub record HasId (xs : List Entry) (id : LogId ℕ) : Type 0 where
  pub entry : Entry
  pub there : slice_get xs id.index ≡ Some entry
  pub same : entry.log_id ≡ id

-- a snapshot's last log id and membership are those of its list
pub record SnapshotFits (x : Snapshot) : Type 0 where
  pub size : length x.«prefix» ≡ x.last.index + 1
  pub last : HasId x.«prefix» x.last
  pub membership : x.membership ≡ last_membership None x.«prefix»

-- what is stored, as the list xs, is what the ballot machine's node has
pub record StoredFits (m : Membership) (x : BallotNode) (st : StoredGroup) (xs : List Entry) : Type 0 where
  pub ballot : x.ballot ≡ rank_of st.vote.leader_id
  pub committed : x.committed ≡ st.vote.committed
  pub bound : st.vote.leader_id.node_id < 2 ^ 64
  pub log : x.log ≡ ballot_log xs
  pub good : Good m 0 xs
  pub snapshot : (s : Snapshot) → st.snapshot ≡ Some s → SnapshotFits s
  pub purged : (id : LogId ℕ) → st.purged ≡ Some id → HasId xs id
  pub reaches : length (prefix_of st.snapshot) ≤ x.commit

-- of a node that is down: the log may be one that an opening drops
pub record DownFits (m : Membership) (x : BallotNode) (st : StoredGroup) : Type 0 where
  pub list : List Entry
  pub fits : StoredFits m x st list
  pub shape : Joined st list ⊎ Stale st list

-- of a node that is up
pub record UpFits (m : Membership) (x : BallotNode) (s : GroupState) : Type 0 where
  pub list : List Entry
  pub fits : StoredFits m x s.stored list
  pub joined : Joined s.stored list
  pub commit : x.commit ≡ place_above s.committed
  pub applied : s.applied ≡ s.committed

pub up_down : {m : Membership} {x : BallotNode} {s : GroupState} → UpFits m x s → DownFits m x s.stored
up_down u = record { list = u.list; fits = u.fits; shape = inl u.joined }

-- a committed vote of the node's own, under which an opening leads on, comes with a membership
pub record LeadKept (own : ℕ) (st : StoredGroup) : Type 0 where
  pub term : st.vote.committed ≡ true → st.vote.leader_id.node_id ≡ own → 0 < st.vote.leader_id.term
  pub has : st.vote.committed ≡ true → st.vote.leader_id.node_id ≡ own → HasMembership (held st)

pub lead_other : {own : ℕ} {st : StoredGroup} → (st.vote.leader_id.node_id ≡ own → ⊥) → LeadKept own st
lead_other ne = record { term = λ c n. absurd (ne n); has = λ c n. absurd (ne n) }

pub lead_young : {own : ℕ} {st : StoredGroup} → st.vote.committed ≡ false → LeadKept own st
lead_young {own} {st} young = record { term = λ c n. absurd (no c); has = λ c n. absurd (no c) }
  where
    no : st.vote.committed ≡ true → ⊥
    no c = let e : false ≡ true = sym young ∙ c in cc

pub lead_same : {own : ℕ} {st st' : StoredGroup} → st'.vote ≡ st.vote → held st' ≡ held st → LeadKept own st → LeadKept own st'
lead_same {own} {st} {st'} vote list k =
    record {
      term = λ c n.
          subst (λ v. 0 < v.leader_id.term) (sym vote)
          (k.term (ap (λ v. v.committed) (sym vote) ∙ c) (ap (λ v. v.leader_id.node_id) (sym vote) ∙ n));
      has = λ c n.
          subst HasMembership (sym list)
          (k.has (ap (λ v. v.committed) (sym vote) ∙ c) (ap (λ v. v.leader_id.node_id) (sym vote) ∙ n));
    }

-- what a leader knows of a peer was replied, and stands in its list
pub record PeerFits (replies : List BallotReply) (rank : ℕ) (xs : List Entry) (p : PeerState) : Type 0 where
  pub matched : (id : LogId ℕ) → p.matched ≡ Some id → Among (reply-of rank p.peer (id.index + 1)) replies × HasId xs id
  pub outstanding : (o : Outstanding) (id : LogId ℕ) → p.outstanding ≡ Some o → o.last ≡ Some id → HasId xs id

pub record OwnVote (own : ℕ) (vote : Vote ℕ) (committed : Bool) : Type 0 where
  pub flag : vote.committed ≡ committed
  pub node : vote.leader_id.node_id ≡ own
  pub term : 0 < vote.leader_id.term

abbrev pub RoleFits : ℕ → BallotWorld → Vote ℕ → List Entry → Role → Type 0
RoleFits own w vote xs Follower = Unit {0}
RoleFits own w vote xs (Candidate granters) =
    OwnVote own vote false × HasMembership xs
    × ((n : ℕ) → Among n granters → Among (grant-of (rank_of vote.leader_id) n) w.grants)
RoleFits own w vote xs (Leader lead) =
    OwnVote own vote true × HasMembership xs
    × ((p : PeerState) → Among p lead.peers → PeerFits w.replies (rank_of vote.leader_id) xs p)

-- the last place that a reply tells is accepted there; no node tells of a part
abbrev pub RepliesFit : BallotWorld → ℕ → ReplyFields → ReplyResult → Type 0
RepliesFit w sender r Success =
    (id : LogId ℕ) → r.last ≡ Some id → Among (reply-of (rank_of r.vote.leader_id) sender (id.index + 1)) w.replies
RepliesFit w sender r (PartialSuccess last) = ⊥
RepliesFit w sender r Conflict = Unit {0}
RepliesFit w sender r (HigherVote vote) = vote.leader_id.node_id < 2 ^ 64

pub record AppendFits (m : Membership) (w : BallotWorld) (a : AppendFields) : Type 0 where
  pub bound : a.vote.leader_id.node_id < 2 ^ 64
  pub good : Good m (next_place a.previous) a.entries
  pub previous : (id : LogId ℕ) → a.previous ≡ Some id → id.leader_id.node_id < 2 ^ 64
  pub sent : Among (append-of (rank_of a.vote.leader_id) (next_place a.previous) (id_rank a.previous) (ballot_log a.entries) (next_place a.committed)) w.appends

pub record InstallFits (m : Membership) (w : BallotWorld) (vote : Vote ℕ) (x : Snapshot) : Type 0 where
  pub bound : vote.leader_id.node_id < 2 ^ 64
  pub good : Good m 0 x.«prefix»
  pub snapshot : SnapshotFits x
  pub sent : Among (append-of (rank_of vote.leader_id) 0 0 (ballot_log x.«prefix») (length x.«prefix»)) w.appends

-- what was sent is among what the ballot machine sent
abbrev pub BodyFits : Membership → BallotWorld → ℕ → MessageBody → Type 0
BodyFits m w sender (VoteRequest vote last) =
    (vote.leader_id.node_id < 2 ^ 64)
    × Among (request-of (rank_of vote.leader_id) (id_rank last) (next_place last)) w.requests
BodyFits m w sender (VoteReply vote granted last) =
    (vote.leader_id.node_id < 2 ^ 64)
    × (granted ≡ true → Among (grant-of (rank_of vote.leader_id) sender) w.grants)
BodyFits m w sender (AppendRequest a) = AppendFits m w a
BodyFits m w sender (AppendReply r) = (r.vote.leader_id.node_id < 2 ^ 64) × RepliesFit w sender r r.outcome
BodyFits m w sender (SnapshotRequest vote id x) = InstallFits m w vote x
BodyFits m w sender (SnapshotReply r) = (r.vote.leader_id.node_id < 2 ^ 64) × RepliesFit w sender r r.outcome

abbrev pub MessageFits : Membership → BallotWorld → Message → Type 0
MessageFits m w x = BodyFits m w x.sender x.body

-- ---- what stays as the ballot machine goes on

module _ {n : ℕ} {w w' : BallotWorld} (e : Extends n w w') where
  pub replies_on : (sender : ℕ) (r : ReplyFields) (o : ReplyResult) → RepliesFit w sender r o → RepliesFit w' sender r o
  replies_on sender r Success h = λ id q. e.replies _ (h id q)
  replies_on sender r (PartialSuccess last) h = absurd h
  replies_on sender r Conflict h = tt
  replies_on sender r (HigherVote vote) h = h

  body_on : (m : Membership) (sender : ℕ) (b : MessageBody) → BodyFits m w sender b → BodyFits m w' sender b
  body_on m sender (VoteRequest vote last) h = (h.0, e.requests _ h.1)
  body_on m sender (VoteReply vote granted last) h = (h.0, λ t. e.grants _ (h.1 t))
  body_on m sender (AppendRequest a) h = record { bound = h.bound; good = h.good; previous = h.previous; sent = e.appends _ h.sent }
  body_on m sender (AppendReply r) h = (h.0, replies_on sender r r.outcome h.1)
  body_on m sender (SnapshotRequest vote id x) h =
      record { bound = h.bound; good = h.good; snapshot = h.snapshot; sent = e.appends _ h.sent }
  body_on m sender (SnapshotReply r) h = (h.0, replies_on sender r r.outcome h.1)

  pub message_on : (m : Membership) (x : Message) → MessageFits m w x → MessageFits m w' x
  message_on m x h = body_on m x.sender x.body h

-- a longer list has what the shorter had
pub has_id_on : {xs ys : List Entry} {id : LogId ℕ} → ((i : ℕ) (e : Entry) → slice_get xs i ≡ Some e → slice_get ys i ≡ Some e) → HasId xs id → HasId ys id
has_id_on {xs} {ys} {id} f h = record { entry = h.entry; there = f id.index h.entry h.there; same = h.same }

pub peer_on : {replies replies' : List BallotReply} {rank : ℕ} {xs ys : List Entry} {p : PeerState} → ((r : BallotReply) → Among r replies → Among r replies') → ((i : ℕ) (e : Entry) → slice_get xs i ≡ Some e → slice_get ys i ≡ Some e) → PeerFits replies rank xs p → PeerFits replies' rank ys p
peer_on f g h =
    record {
      matched = λ id e. let k = h.matched id e in (f _ k.0, has_id_on g k.1);
      outstanding = λ o id e q. has_id_on g (h.outstanding o id e q);
    }

-- the role fits where more was sent, and the list is as long or longer
pub role_on : (own : ℕ) {n : ℕ} {w w' : BallotWorld} (vote : Vote ℕ) (xs ys : List Entry) (role : Role) → Extends n w w' → ((i : ℕ) (e : Entry) → slice_get xs i ≡ Some e → slice_get ys i ≡ Some e) → (HasMembership xs → HasMembership ys) → RoleFits own w vote xs role → RoleFits own w' vote ys role
role_on own vote xs ys Follower e f g h = tt
role_on own vote xs ys (Candidate granters) e f g h = (h.0, g h.1, λ n a. e.grants _ (h.2 n a))
role_on own vote xs ys (Leader lead) e f g h = (h.0, g h.1, λ p a. peer_on (λ r b. e.replies r b) f (h.2 p a))
