-- What a leader knows of its peers is in order, along every history: an outstanding request ends no lower than what its peer
-- has accepted.
use Rattle.std.specs.Prelude.{◌≡◌, ℕ, ◌+◌, ◌-◌, ◌*◌, ◌/◌, ◌≤◌, ◌==◌, ◌&&◌, cond, is_none, nat_le, nat_lt, Bool, true, false, List, [], ◌∷◌, drop, length, take, Option, Some, None, refl}
use Rattle.std.proofs.Common.{sym, ap, ◌∙◌, subst, arith, eqb-true, leb-true, ltb-true, length-drop}
use Rattle.std.proofs.lemmas.Bool.{and_parts, cond_both}
use Rattle.std.proofs.lemmas.List.{length-take}
use Rattle.raft_values.specs.declared.log_id.LogId.{LogId}
use Rattle.raft_values.specs.declared.vote.Vote.{Vote}
use Rattle.raft_values.specs.LogId.{next_place}
use Rattle.raft_group_step.specs.Values.{Entry, last_id_eq, leader_eq, vote_eq}
use Rattle.raft_group_step.specs.StoredGroup.{Snapshot, StoredGroup, end_place, first_place, id_before}
use Rattle.raft_group_step.specs.Message.{MessageBody, VoteRequest, VoteReply, AppendRequest, AppendReply, SnapshotRequest, SnapshotReply, Numbered, ReplyFields, ReplyResult, Success, PartialSuccess, Conflict, HigherVote, last_sent, request_id_eq}
use Rattle.raft_group_step.specs.Peer.{Outstanding, PeerState, is_answer_to, new_peer, with_peer}
use Rattle.raft_group_step.specs.GroupState.{GroupState, Lead, Role, Follower, Candidate, Leader}
use Rattle.raft_group_step.specs.GroupEvent.{GroupEvent, AddGroup, Call, Receive, Open}
use Rattle.raft_group_step.specs.StepResult.{StepResult, send}
use Rattle.raft_group_step.specs.Lead.{peer_of}
use Rattle.raft_group_step.specs.Frames.{entries_in_request, lacks_entries, notice, request_start, send_entries, send_request, send_snapshot, serve, serve_all, serve_as, waiting}
use Rattle.raft_group_step.specs.Reply.{accepted_up_to, after_answer, ended, is_part_of, search_after}
use Rattle.raft_group_step.proofs.Words.{either, either_by}
use Rattle.raft_group_step.proofs.Peers.{with_peer-found, with_peer-others}
use Rattle.raft_laws.proofs.TrackReplies.{peer_of_is}
use Rattle.raft_step_laws.specs.Fitting.{ArePlacedFrom, FitsStored}
use Rattle.raft_step_laws.specs.PeerStates.{loses, peer_after_event, peer_after_message, peer_after_reply}
use Rattle.raft_step_laws.proofs.FitWords.{StandFrom, before_next, placed_drop, placed_stand, placed_take}
use Rattle.raft_step_laws.proofs.LeaderSends.{same_lead}

-- where the leader's log ends here
pub record IsInOrder (end : ℕ) (p : PeerState) : Type 0 where
  pub accepted : next_place p.matched ≤ p.search
  pub within : p.search ≤ end
  pub follows : (o : Outstanding) → p.outstanding ≡ Some o → next_place p.matched ≤ next_place o.last
  pub ends : (o : Outstanding) → p.outstanding ≡ Some o → next_place o.last ≤ end
  pub begins : (o : Outstanding) → p.outstanding ≡ Some o → next_place o.previous ≤ end

none_out : {P : Type 0} (o : Outstanding) → None ≡ Some o → P
none_out o e = absurd (let f : None ≡ Some o = e in cc)

some_same : {a b : Outstanding} → Some a ≡ Some b → a ≡ b
some_same e = cc

pub new_in_order : (end search n : ℕ) → search ≤ end → IsInOrder end (new_peer search n)
new_in_order end search n l =
    record {
      accepted = omega arith;
      within = l;
      follows = λ o e. none_out o e;
      ends = λ o e. none_out o e;
      begins = λ o e. none_out o e;
    }

pub longer_in_order : (end end' : ℕ) (p : PeerState) → end ≤ end' → IsInOrder end p → IsInOrder end' p
longer_in_order end end' p l h =
    record {
      accepted = h.accepted;
      within = let w = h.within in omega arith;
      follows = h.follows;
      ends = λ o e. let w = h.ends o e in omega arith;
      begins = λ o e. let w = h.begins o e in omega arith;
    }

-- ---- what comes

ended_in_order : (end : ℕ) (p : PeerState) → IsInOrder end p → IsInOrder end (ended p)
ended_in_order end p h =
    record {
      accepted = h.accepted;
      within = h.within;
      follows = λ o e. none_out o e;
      ends = λ o e. none_out o e;
      begins = λ o e. none_out o e;
    }

pub last_next : (a b : Option (LogId ℕ)) → last_id_eq a b ≡ true → next_place a ≡ next_place b
last_next None None t = refl
last_next None (Some b) t = absurd (let f : false ≡ true = t in cc)
last_next (Some a) None t = absurd (let f : false ≡ true = t in cc)
last_next (Some a) (Some b) t =
    ap (λ k. k + 1) (eqb-true a.index b.index (and_parts (leader_eq a.leader_id b.leader_id) (a.index == b.index) t).1)

-- the reply is to a request that is outstanding, and repeats its places
pub record IsAnswered (reply : ReplyFields) (p : PeerState) : Type 0 where
  pub request : Outstanding
  pub outstanding : p.outstanding ≡ Some request
  pub previous : next_place reply.previous ≡ next_place request.previous
  pub last : next_place reply.last ≡ next_place request.last

pub is_answered : (reply : ReplyFields) (p : PeerState) → is_answer_to reply p.outstanding ≡ true → IsAnswered reply p
is_answered reply p = go p.outstanding refl
  where
    go : (o : Option Outstanding) → p.outstanding ≡ o → is_answer_to reply o ≡ true → IsAnswered reply p
    go None is t = absurd (let f : false ≡ true = t in cc)
    go (Some o) is t =
        let two = and_parts (request_id_eq reply.id (Numbered o.id) && last_id_eq reply.previous o.previous) (last_id_eq reply.last o.last) t in
        let one = and_parts (request_id_eq reply.id (Numbered o.id)) (last_id_eq reply.previous o.previous) two.0 in
        record {
          request = o;
          outstanding = is;
          previous = last_next reply.previous o.previous one.1;
          last = last_next reply.last o.last two.1;
        }

search_in_order : (end : ℕ) (p : PeerState) (previous : Option (LogId ℕ)) → IsInOrder end p → next_place previous ≤ end → (next_place p.matched ≤ search_after p previous) × (search_after p previous ≤ end)
search_in_order end p None h l = (h.accepted, h.within)
search_in_order end p (Some previous) h l =
    cond_both (nat_le (next_place p.matched) previous.index) previous.index p.search (λ k. (next_place p.matched ≤ k) × (k ≤ end))
    (λ t. let low = leb-true (next_place p.matched) previous.index t in (low, omega arith))
    (λ t. (h.accepted, h.within))

-- what the peer has accepted ends within its request
accepted_in_order : (end : ℕ) (p : PeerState) (reply : ReplyFields) → IsAnswered reply p → IsInOrder end p → (upto : Option (LogId ℕ)) → next_place upto ≤ next_place reply.last → IsInOrder end (accepted_up_to upto p)
accepted_in_order end p reply a h upto top =
    let last = a.last in
    let low = h.within in
    let high = h.ends a.request a.outstanding in
    record {
      accepted = omega arith;
      within = omega arith;
      follows = λ o e. none_out o e;
      ends = λ o e. none_out o e;
      begins = λ o e. none_out o e;
    }

answer_in_order : (end : ℕ) (p : PeerState) (reply : ReplyFields) → IsAnswered reply p → IsInOrder end p → (o : ReplyResult) → IsInOrder end (after_answer p reply o)
answer_in_order end p reply a h Success = accepted_in_order end p reply a h reply.last (omega arith)
answer_in_order end p reply a h (PartialSuccess upto) =
    cond_both (is_part_of p reply upto) (accepted_up_to upto p) (ended p) (IsInOrder end)
    (λ t.
    let part = and_parts (nat_le (next_place p.matched) (next_place upto)) (nat_le (next_place upto) (next_place reply.last)) t in
    accepted_in_order end p reply a h upto (leb-true (next_place upto) (next_place reply.last) part.1))
    (λ t. ended_in_order end p h)
answer_in_order end p reply a h Conflict =
    let previous = a.previous in
    let high = h.begins a.request a.outstanding in
    let search = search_in_order end p reply.previous h (omega arith) in
    record {
      accepted = search.0;
      within = search.1;
      follows = λ o e. none_out o e;
      ends = λ o e. none_out o e;
      begins = λ o e. none_out o e;
    }
answer_in_order end p reply a h (HigherVote v) = ended_in_order end p h

reply_in_order : (end : ℕ) (v : Vote ℕ) (reply : ReplyFields) (p : PeerState) → IsInOrder end p → IsInOrder end (peer_after_reply v reply p)
reply_in_order end v reply p h =
    cond_both (vote_eq reply.vote v && is_answer_to reply p.outstanding) (after_answer p reply reply.outcome) p (IsInOrder end)
    (λ t. answer_in_order end p reply (is_answered reply p (and_parts (vote_eq reply.vote v) (is_answer_to reply p.outstanding) t).1) h reply.outcome)
    (λ t. h)

message_in_order : (end : ℕ) (v : Vote ℕ) (b : MessageBody) (p : PeerState) → IsInOrder end p → IsInOrder end (peer_after_message v b p)
message_in_order end v (VoteRequest w last) p h = h
message_in_order end v (VoteReply w granted last) p h = h
message_in_order end v (AppendRequest m) p h = h
message_in_order end v (AppendReply m) p h = reply_in_order end v m p h
message_in_order end v (SnapshotRequest w id x) p h = h
message_in_order end v (SnapshotReply m) p h = reply_in_order end v m p h

pub event_in_order : (end : ℕ) (s : GroupState) (e : GroupEvent) (p : PeerState) → IsInOrder end p → IsInOrder end (peer_after_event s e p)
event_in_order end s AddGroup p h = h
event_in_order end s (Call call now) p h =
    cond_both (loses call p.peer) (ended p) p (IsInOrder end) (λ t. ended_in_order end p h) (λ t. h)
event_in_order end s (Receive peer m now) p h =
    cond_both (peer == p.peer) (peer_after_message s.stored.vote m.body p) p (IsInOrder end)
    (λ t. message_in_order end s.stored.vote m.body p h) (λ t. h)
event_in_order end s Open p h = h

-- ---- what is sent

-- the last log id that goes with entries is that of the last one
last_of : (previous : Option (LogId ℕ)) (start : ℕ) (es : List Entry) → next_place previous ≡ start → StandFrom start es → next_place (last_sent previous es) ≡ start + length es
last_of previous start [] e h = omega (arith, e)
last_of previous start (x ∷ xs) e h =
    let first = h.0 in
    let rest = last_of (Some x.log_id) (start + 1) xs (omega arith) h.1 in
    omega arith

-- the snapshot reaches the log's front at least, and no further than its end
abbrev pub CoversFront : StoredGroup → Type 0
CoversFront st = (x : Snapshot) → st.snapshot ≡ Some x → (first_place st ≤ x.last.index + 1) × (x.last.index + 1 ≤ end_place st)

half_within : (n : ℕ) → n / 16 * 8 ≤ n
half_within n = omega arith

-- of each of its peers
abbrev pub AllInOrder : StoredGroup → Lead → Type 0
AllInOrder st lead = (n : ℕ) → IsInOrder (end_place st) (peer_of lead n)

-- so it is with each lead that the step's role has
abbrev pub RoleInOrder : StoredGroup → Role → Type 0
RoleInOrder st role = (lead : Lead) → role ≡ Leader lead → AllInOrder st lead

module _ (own : ℕ) (lead : Lead) (n : ℕ) (r : StepResult) (is : r.state.role ≡ Leader lead) (fits : FitsStored r.state.stored) (covers : CoversFront r.state.stored) (h : AllInOrder r.state.stored lead) where
  abbrev st : StoredGroup
  st = r.state.stored

  abbrev p : PeerState
  p = peer_of lead n

  set_in_order : (w : PeerState) → w.peer ≡ n → IsInOrder (end_place st) w → RoleInOrder st (Leader (record lead { peers = with_peer w lead.peers }))
  set_in_order w at ok after e k =
      let same : record lead { peers = with_peer w lead.peers } ≡ after = same_lead (record lead { peers = with_peer w lead.peers }) after e in
      subst (λ (l : Lead). IsInOrder (end_place st) (peer_of l k)) same (go (w.peer == k) refl)
    where
      go : (b : Bool) → (w.peer == k) ≡ b → IsInOrder (end_place st) (peer_of (record lead { peers = with_peer w lead.peers }) k)
      go true t = subst (IsInOrder (end_place st)) (sym (with_peer-found w (new_peer lead.began k) lead.peers (eqb-true w.peer k t))) ok
      go false t = subst (IsInOrder (end_place st)) (sym (with_peer-others w (new_peer lead.began k) lead.peers t)) (h k)

  entries_waiting : lacks_entries st p ≡ true → IsInOrder (end_place st) (waiting p (id_before st (request_start st p)) (last_sent (id_before st (request_start st p)) (take entries_in_request (drop (request_start st p - first_place st) st.log))) false)
  entries_waiting lacks =
      let start = request_start st p in
      let k = start - first_place st in
      let es = take 64 (drop k st.log) in
      let o = h n in
      let accepted = o.accepted in
      let within = o.within in
      let more = ltb-true (next_place p.matched) (end_place st) lacks in
      let half = half_within (p.search - next_place p.matched) in
      let low : first_place st ≤ start = omega arith in
      let matched : next_place p.matched ≤ start = omega arith in
      let high : start ≤ end_place st = omega arith in
      let before : next_place (id_before st start) ≡ start = before_next st fits start low high in
      let from : first_place st + k ≡ start = omega arith in
      let placed : ArePlacedFrom start es = placed_take 64 start (drop k st.log) (subst (λ i. ArePlacedFrom i (drop k st.log)) from (placed_drop k (first_place st) st.log fits.placed)) in
      let last = last_of (id_before st start) start es before (placed_stand start es placed) in
      let size = length-take 64 (drop k st.log) in
      let rest = length-drop k st.log in
      record {
        accepted = accepted;
        within = within;
        follows = λ x e. subst (λ (y : Outstanding). next_place p.matched ≤ next_place y.last) (some_same e) (omega arith);
        ends = λ x e. subst (λ (y : Outstanding). next_place y.last ≤ end_place st) (some_same e) (omega arith);
        begins = λ x e. subst (λ (y : Outstanding). next_place y.previous ≤ end_place st) (some_same e) (omega arith);
      }

  snapshot_waiting : (x : Snapshot) → st.snapshot ≡ Some x → nat_lt p.search (first_place st) ≡ true → IsInOrder (end_place st) (waiting p None (Some x.last) true)
  snapshot_waiting x has t =
      let o = h n in
      let accepted = o.accepted in
      let within = o.within in
      let below = ltb-true p.search (first_place st) t in
      let cover = covers x has in
      let low = cover.0 in
      let high = cover.1 in
      record {
        accepted = accepted;
        within = within;
        follows = λ y e. subst (λ (z : Outstanding). next_place p.matched ≤ next_place z.last) (some_same e) (omega arith);
        ends = λ y e. subst (λ (z : Outstanding). next_place z.last ≤ end_place st) (some_same e) (omega arith);
        begins = λ y e. subst (λ (z : Outstanding). next_place z.previous ≤ end_place st) (some_same e) (omega arith);
      }

  sends_entries : lacks_entries st p ≡ true → RoleInOrder st (send_entries own p lead r).state.role
  sends_entries lacks = set_in_order _ (peer_of_is lead n) (entries_waiting lacks)

  sends_request : lacks_entries st p ≡ true → (o : Option Snapshot) → st.snapshot ≡ o → RoleInOrder st (send_request own p lead o r).state.role
  sends_request lacks None has = sends_entries lacks
  sends_request lacks (Some x) has =
      either_by (λ q. RoleInOrder st q.state.role) (nat_lt p.search (first_place st)) (send_snapshot own p lead x r) (send_entries own p lead r)
      (λ t. set_in_order _ (peer_of_is lead n) (snapshot_waiting x has t))
      (λ t. sends_entries lacks)

  same_in_order : RoleInOrder st r.state.role
  same_in_order after e = subst (AllInOrder st) (same_lead lead after (sym is ∙ e)) h

  pub serves_in_order : (news : Bool) → RoleInOrder st (serve own news p lead r).state.role
  serves_in_order news =
      let told = send own p.peer (notice r.state p) r in
      either_by (λ q. RoleInOrder st q.state.role) (is_none p.outstanding && lacks_entries st p) (send_request own p lead st.snapshot r) (cond news told r)
      (λ t. sends_request (and_parts (is_none p.outstanding) (lacks_entries st p) t).1 st.snapshot refl)
      (λ t. either (λ q. RoleInOrder st q.state.role) news told r same_in_order same_in_order)

  pub serves_stored : (news : Bool) → (serve own news p lead r).state.stored ≡ st
  serves_stored news =
      let told = send own p.peer (notice r.state p) r in
      either (λ q. q.state.stored ≡ st) (is_none p.outstanding && lacks_entries st p) (send_request own p lead st.snapshot r) (cond news told r)
      (go st.snapshot)
      (either (λ q. q.state.stored ≡ st) news told r refl refl)
    where
      go : (o : Option Snapshot) → (send_request own p lead o r).state.stored ≡ st
      go None = refl
      go (Some x) = either (λ q. q.state.stored ≡ st) (nat_lt p.search (first_place st)) (send_snapshot own p lead x r) (send_entries own p lead r) refl refl

-- from this step on
abbrev ServeInOrder : ℕ → Bool → List ℕ → StepResult → Type 0
ServeInOrder own news ns r =
    FitsStored r.state.stored → CoversFront r.state.stored → RoleInOrder r.state.stored r.state.role
    → RoleInOrder r.state.stored (serve_all own news ns r).state.role

next_in_order : (own : ℕ) (news : Bool) (n : ℕ) (ns : List ℕ) (r : StepResult) → ((q : StepResult) → ServeInOrder own news ns q) → FitsStored r.state.stored → CoversFront r.state.stored → RoleInOrder r.state.stored r.state.role → (role : Role) → r.state.role ≡ role → RoleInOrder r.state.stored (serve_all own news ns (serve_as own news n role r)).state.role
next_in_order own news n ns r rest fits covers h Follower is = rest r fits covers h
next_in_order own news n ns r rest fits covers h (Candidate granters) is = rest r fits covers h
next_in_order own news n ns r rest fits covers h (Leader lead) is =
    let q = serve own news (peer_of lead n) lead r in
    let same = serves_stored own lead n r is fits covers (h lead is) news in
    subst (λ st. RoleInOrder st (serve_all own news ns q).state.role) same
    (rest q
    (subst FitsStored (sym same) fits)
    (subst CoversFront (sym same) covers)
    (subst (λ st. RoleInOrder st q.state.role) (sym same) (serves_in_order own lead n r is fits covers (h lead is) news)))

pub all_serve_in_order : (own : ℕ) (news : Bool) (ns : List ℕ) (r : StepResult) → ServeInOrder own news ns r
all_serve_in_order own news [] r fits covers h = h
all_serve_in_order own news (n ∷ ns) r fits covers h =
    next_in_order own news n ns r (λ q. all_serve_in_order own news ns q) fits covers h r.state.role refl
