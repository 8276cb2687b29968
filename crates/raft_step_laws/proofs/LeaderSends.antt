-- What a leader sends at the end of an event: what it makes of its peers, and that each is served.
use Rattle.std.specs.Prelude.{◌≡◌, ℕ, ◌-◌, ◌==◌, ◌&&◌, cond, nat_eq, nat_lt, is_none, Bool, true, false, List, [], ◌∷◌, ◌++◌, drop, take, Option, Some, None, refl}
use Rattle.std.proofs.Common.{sym, ap, ◌∙◌, subst, eqb-true, append-nil, append_assoc, ⊎_elim}
use Rattle.std.proofs.lemmas.Bool.{cond_both, or_cases}
use Rattle.raft_values.specs.LogId.{next_place}
use Rattle.raft_values.specs.declared.log_id.LogId.{LogId}
use Rattle.raft_group_step.specs.Values.{has_id}
use Rattle.raft_group_step.specs.StoredGroup.{Snapshot, StoredGroup, end_place, entry_at, first_place, id_before, id_of}
use Rattle.raft_group_step.specs.Message.{Message, MessageBody, AppendRequest, SnapshotRequest, Numbered, last_sent}
use Rattle.raft_group_step.specs.Peer.{Outstanding, PeerState, is_kept_for_peers, new_peer, with_peer}
use Rattle.raft_group_step.specs.GroupState.{Lead, Role, Follower, Candidate, Leader}
use Rattle.raft_group_step.specs.StepResult.{StepResult, send}
use Rattle.raft_group_step.specs.Lead.{commit_as_leader, other_ids, peer_of, purge_as_wished, purge_up_to, remove_up_to, with_wish}
use Rattle.raft_group_step.specs.Frames.{committed_id, entries_in_request, has_grown, lacks_entries, notice, request_start, send_entries, send_request, send_snapshot, serve, serve_all, serve_as, waiting}
use Rattle.raft_group_step.specs.GroupStep.{finished}
use Rattle.raft_group_step.proofs.Words.{either, either_by, commit_keeps_role, purge_keeps_role}
use Rattle.raft_group_step.proofs.Peers.{with_peer-found, with_peer-others}
use Rattle.raft_laws.proofs.TrackReplies.{peer_of_is}
use Rattle.raft_step_laws.specs.PeerStates.{after_body, peer_after_sending}
use Rattle.raft_step_laws.proofs.PeerLists.{body_has, body_matched, cond_same, sending_joins}

-- ---- what a leader sends at the end of an event

-- the leader's peers are those that what it sent makes of them
pub record Sends (lead : Lead) (r q : StepResult) : Type 0 where
  pub after : Lead
  pub role : q.state.role ≡ Leader after
  pub began : after.began ≡ lead.began
  pub more : List Message
  pub added : q.messages ≡ r.messages ++ more
  pub stored : q.state.stored ≡ r.state.stored
  pub peers : (n : ℕ) → peer_of after n ≡ peer_after_sending more (peer_of lead n)

sends_nothing : (lead : Lead) (r : StepResult) → r.state.role ≡ Leader lead → Sends lead r r
sends_nothing lead r is =
    record {
      after = lead;
      role = is;
      began = refl;
      more = [];
      added = sym (append-nil r.messages);
      stored = refl;
      peers = λ n. refl;
    }

sends_then : {lead : Lead} (p q r : StepResult) → (h : Sends lead p q) → Sends h.after q r → Sends lead p r
sends_then {lead} p q r h k =
    record {
      after = k.after;
      role = k.role;
      began = k.began ∙ h.began;
      more = h.more ++ k.more;
      added = k.added ∙ ap (λ ms. ms ++ k.more) h.added ∙ append_assoc p.messages h.more k.more;
      stored = k.stored ∙ h.stored;
      peers = λ n. k.peers n ∙ ap (peer_after_sending k.more) (h.peers n) ∙ sym (sending_joins h.more k.more (peer_of lead n));
    }

-- one peer's new state is what its request makes of it; the request goes to no other
set_peer : (lead : Lead) (n : ℕ) (w : PeerState) (own : ℕ) (b : MessageBody) → w.peer ≡ n → after_body b (peer_of lead n) ≡ w
    → (m : ℕ) → peer_of (record lead { peers = with_peer w lead.peers }) m ≡ peer_after_sending (record { sender = own; addressee = (peer_of lead n).peer; body = b } ∷ []) (peer_of lead m)
set_peer lead n w own b is made m =
    cond_both ((peer_of lead n).peer == (peer_of lead m).peer) (after_body b (peer_of lead m)) (peer_of lead m) (λ q. peer_of (record lead { peers = with_peer w lead.peers }) m ≡ q)
    (λ t.
    let same : n ≡ m = sym (peer_of_is lead n) ∙ eqb-true (peer_of lead n).peer (peer_of lead m).peer t ∙ peer_of_is lead m in
    with_peer-found w (new_peer lead.began m) lead.peers (is ∙ same) ∙ sym made ∙ ap (λ k. after_body b (peer_of lead k)) same)
    (λ f.
    with_peer-others w (new_peer lead.began m) lead.peers
    (ap (λ k. k == m) is ∙ ap (λ k. k == m) (sym (peer_of_is lead n)) ∙ ap (λ k. (peer_of lead n).peer == k) (sym (peer_of_is lead m)) ∙ f))

module _ (own : ℕ) (lead : Lead) (n : ℕ) (r : StepResult) (is : r.state.role ≡ Leader lead) where
  abbrev p : PeerState
  p = peer_of lead n

  entries_sent : Sends lead r (send_entries own p lead r)
  entries_sent =
      let s = r.state.stored in
      let start = request_start s p in
      let previous = id_before s start in
      let entries = take entries_in_request (drop (start - first_place s) s.log) in
      let w = waiting p previous (last_sent previous entries) false in
      let b = AppendRequest (record { vote = s.vote; id = Numbered p.next_id; previous = previous; committed = committed_id r.state; entries = entries }) in
      record {
        after = record lead { peers = with_peer w lead.peers };
        role = refl;
        began = refl;
        more = record { sender = own; addressee = p.peer; body = b } ∷ [];
        added = refl;
        stored = refl;
        peers = set_peer lead n w own b (peer_of_is lead n) refl;
      }

  snapshot_sent : (x : Snapshot) → Sends lead r (send_snapshot own p lead x r)
  snapshot_sent x =
      let w = waiting p None (Some x.last) true in
      let b = SnapshotRequest r.state.stored.vote p.next_id x in
      record {
        after = record lead { peers = with_peer w lead.peers };
        role = refl;
        began = refl;
        more = record { sender = own; addressee = p.peer; body = b } ∷ [];
        added = refl;
        stored = refl;
        peers = set_peer lead n w own b (peer_of_is lead n) refl;
      }

  request_sent : (o : Option Snapshot) → Sends lead r (send_request own p lead o r)
  request_sent None = entries_sent
  request_sent (Some x) =
      either (Sends lead r) (nat_lt p.search (first_place r.state.stored)) (send_snapshot own p lead x r) (send_entries own p lead r)
      (snapshot_sent x) entries_sent

  -- a notice changes nothing
  notice_sent : Sends lead r (send own p.peer (notice r.state p) r)
  notice_sent =
      record {
        after = lead;
        role = is;
        began = refl;
        more = record { sender = own; addressee = p.peer; body = notice r.state p } ∷ [];
        added = refl;
        stored = refl;
        peers = λ m. sym (cond_same (p.peer == (peer_of lead m).peer) (peer_of lead m));
      }

  news_sent : (news : Bool) → Sends lead r (cond news (send own p.peer (notice r.state p) r) r)
  news_sent true = notice_sent
  news_sent false = sends_nothing lead r is

  served : (news : Bool) → Sends lead r (serve own news p lead r)
  served news =
      either (Sends lead r) (is_none p.outstanding && lacks_entries r.state.stored p) (send_request own p lead r.state.stored.snapshot r)
      (cond news (send own p.peer (notice r.state p) r) r)
      (request_sent r.state.stored.snapshot) (news_sent news)

serves : (own : ℕ) (news : Bool) (ns : List ℕ) (lead : Lead) (r : StepResult) → r.state.role ≡ Leader lead → Sends lead r (serve_all own news ns r)
serves own news [] lead r is = sends_nothing lead r is
serves own news (n ∷ ns) lead r is =
    let q = serve own news (peer_of lead n) lead r in
    let one = served own lead n r is news in
    subst (λ role. Sends lead r (serve_all own news ns (serve_as own news n role r))) (sym is)
    (sends_then r q (serve_all own news ns q) one (serves own news ns one.after q one.role))

-- ---- each of these peers has a request outstanding then, or lacks nothing

abbrev pub HasRequest : PeerState → Type 0
HasRequest p = (o : Outstanding) × (p.outstanding ≡ Some o)

has_request_after : (ms : List Message) (p : PeerState) → HasRequest p → HasRequest (peer_after_sending ms p)
has_request_after [] p h = h
has_request_after (m ∷ ms) p h =
    has_request_after ms (cond (m.addressee == p.peer) (after_body m.body p) p)
    (cond_both (m.addressee == p.peer) (after_body m.body p) p HasRequest (λ t. body_has m.body p h) (λ t. h))

-- sending leaves what the peer has accepted
pub matched_after : (ms : List Message) (p : PeerState) → (peer_after_sending ms p).matched ≡ p.matched
matched_after [] p = refl
matched_after (m ∷ ms) p =
    matched_after ms (cond (m.addressee == p.peer) (after_body m.body p) p)
    ∙ cond_both (m.addressee == p.peer) (after_body m.body p) p (λ q. q.matched ≡ p.matched) (λ t. body_matched m.body p) (λ t. refl)

lacks_after : (st : StoredGroup) (ms : List Message) (p : PeerState) → lacks_entries st (peer_after_sending ms p) ≡ lacks_entries st p
lacks_after st ms p = ap (λ id. nat_lt (next_place id) (end_place st)) (matched_after ms p)

pub same_lead : (a b : Lead) → Leader a ≡ Leader b → a ≡ b
same_lead a b e = cc

is_some_has : (o : Option Outstanding) → is_none o ≡ false → (x : Outstanding) × (o ≡ Some x)
is_some_has None e = absurd (let f : true ≡ false = e in cc)
is_some_has (Some x) e = (x, refl)

-- a node that lacks entries has a request outstanding
abbrev pub ServedAt : StoredGroup → ℕ → StepResult → Type 0
ServedAt st n q = (after : Lead) → q.state.role ≡ Leader after → lacks_entries st (peer_of after n) ≡ true → HasRequest (peer_of after n)

module _ (own : ℕ) (lead : Lead) (n : ℕ) (r : StepResult) (is : r.state.role ≡ Leader lead) where
  abbrev st : StoredGroup
  st = r.state.stored

  -- the peer that is waited for
  set_served : (w : PeerState) (q : StepResult) → w.peer ≡ n → HasRequest w → q.state.role ≡ Leader (record lead { peers = with_peer w lead.peers }) → ServedAt st n q
  set_served w q at has f after g lacks =
      let same : record lead { peers = with_peer w lead.peers } ≡ after = same_lead (record lead { peers = with_peer w lead.peers }) after (sym f ∙ g) in
      let found : peer_of after n ≡ w = ap (λ l. peer_of l n) (sym same) ∙ with_peer-found w (new_peer lead.began n) lead.peers at in
      subst HasRequest (sym found) has

  request_serves : (o : Option Snapshot) → ServedAt st n (send_request own (peer_of lead n) lead o r)
  request_serves None = set_served _ (send_entries own (peer_of lead n) lead r) (peer_of_is lead n) (_, refl) refl
  request_serves (Some x) =
      let p = peer_of lead n in
      either (ServedAt st n) (nat_lt p.search (first_place st)) (send_snapshot own p lead x r) (send_entries own p lead r)
      (set_served _ (send_snapshot own p lead x r) (peer_of_is lead n) (_, refl) refl)
      (set_served _ (send_entries own p lead r) (peer_of_is lead n) (_, refl) refl)

  -- a peer that isn't sent a request has one already, or lacks nothing
  news_serves : (q : StepResult) → q.state.role ≡ r.state.role → (is_none (peer_of lead n).outstanding && lacks_entries st (peer_of lead n)) ≡ false → ServedAt st n q
  news_serves q e none after f lacks =
      let same : lead ≡ after = same_lead lead after (sym is ∙ sym e ∙ f) in
      subst (λ l. HasRequest (peer_of l n)) same
      (is_some_has (peer_of lead n).outstanding
      (without (is_none (peer_of lead n).outstanding) (lacks_entries st (peer_of lead n)) none (ap (λ l. lacks_entries st (peer_of l n)) same ∙ lacks)))
    where
      without : (a b : Bool) → (a && b) ≡ false → b ≡ true → a ≡ false
      without true b f t = absurd (let g : true ≡ false = sym t ∙ f in cc)
      without false b f t = refl

  serve_serves : (news : Bool) → ServedAt st n (serve own news (peer_of lead n) lead r)
  serve_serves news =
      let p = peer_of lead n in
      let told = send own p.peer (notice r.state p) r in
      either_by (ServedAt st n) (is_none p.outstanding && lacks_entries st p) (send_request own p lead st.snapshot r) (cond news told r)
      (λ t. request_serves st.snapshot)
      (λ f. news_serves (cond news told r) (either (λ q. q.state.role ≡ r.state.role) news told r refl refl) f)

all_served : (own : ℕ) (news : Bool) (ns : List ℕ) (lead : Lead) (r : StepResult) → r.state.role ≡ Leader lead → (n : ℕ) → has_id ns n ≡ true → ServedAt r.state.stored n (serve_all own news ns r)
all_served own news [] lead r is n among = absurd (let f : false ≡ true = among in cc)
all_served own news (k ∷ ns) lead r is n among =
    let q = serve own news (peer_of lead k) lead r in
    let one = served own lead k r is news in
    let rest = serves own news ns one.after q one.role in
    let later = all_served own news ns one.after q one.role n in
    subst (λ role. ServedAt r.state.stored n (serve_all own news ns (serve_as own news k role r))) (sym is)
    (⊎_elim
    (λ t.
    let here : k ≡ n = eqb-true k n t in
    λ after f lacks.
    let same : rest.after ≡ after = same_lead rest.after after (sym rest.role ∙ f) in
    let is_peer : peer_of after n ≡ peer_after_sending rest.more (peer_of one.after n) = ap (λ l. peer_of l n) (sym same) ∙ rest.peers n in
    let lacked : lacks_entries r.state.stored (peer_of one.after n) ≡ true =
    sym (lacks_after r.state.stored rest.more (peer_of one.after n)) ∙ ap (lacks_entries r.state.stored) (sym is_peer) ∙ lacks
    in
    subst HasRequest (sym is_peer)
    (has_request_after rest.more (peer_of one.after n)
    (subst (λ m. ServedAt r.state.stored m q) here (serve_serves own lead k r is news) one.after one.role lacked)))
    (λ t. subst (λ s. ServedAt s n (serve_all own news ns q)) one.stored (later t))
    (or_cases (nat_eq k n) (has_id ns n) among))

-- ---- from the event's own part to the end

commit_messages : (own : ℕ) (role : Role) (r : StepResult) → (commit_as_leader own role r).messages ≡ r.messages
commit_messages own Follower r = refl
commit_messages own (Candidate granters) r = refl
commit_messages own (Leader lead) r = refl

removed_messages : (id : Option (LogId ℕ)) (r : StepResult) → (remove_up_to id r).messages ≡ r.messages
removed_messages None r = refl
removed_messages (Some id) r = refl

purge_messages : (role : Role) (wish : Option ℕ) (r : StepResult) → (purge_as_wished role wish r).messages ≡ r.messages
purge_messages Follower wish r = refl
purge_messages (Candidate granters) wish r = refl
purge_messages (Leader lead) None r = refl
purge_messages (Leader lead) (Some place) r =
    let wished = with_wish None r in
    either (λ q. q.messages ≡ r.messages) (is_kept_for_peers place lead.peers) r (purge_up_to place wished)
    refl (removed_messages (id_of (entry_at r.state.stored place)) wished)

-- what is there before a leader sends
abbrev pub settled : ℕ → StepResult → StepResult
settled own r =
    let committed = commit_as_leader own r.state.role r in purge_as_wished committed.state.role committed.state.wish committed

pub settled_role : (own : ℕ) (r : StepResult) → (settled own r).state.role ≡ r.state.role
settled_role own r =
    let committed = commit_as_leader own r.state.role r in
    purge_keeps_role committed.state.role committed.state.wish committed ∙ commit_keeps_role own r.state.role r

pub settled_messages : (own : ℕ) (r : StepResult) → (settled own r).messages ≡ r.messages
settled_messages own r =
    let committed = commit_as_leader own r.state.role r in
    purge_messages committed.state.role committed.state.wish committed ∙ commit_messages own r.state.role r

pub finished_sends : (own : ℕ) (before : Option ℕ) (lead : Lead) (r : StepResult) → r.state.role ≡ Leader lead → Sends lead (settled own r) (finished own before r)
finished_sends own before lead r is =
    let p = settled own r in
    serves own (has_grown before p.state.committed) (other_ids own p.state.stored) lead p (settled_role own r ∙ is)

pub finished_serves : (own : ℕ) (before : Option ℕ) (lead : Lead) (r : StepResult) → r.state.role ≡ Leader lead → (n : ℕ) → has_id (other_ids own (settled own r).state.stored) n ≡ true → ServedAt (settled own r).state.stored n (finished own before r)
finished_serves own before lead r is n among =
    let p = settled own r in
    all_served own (has_grown before p.state.committed) (other_ids own p.state.stored) lead p (settled_role own r ∙ is) n among
