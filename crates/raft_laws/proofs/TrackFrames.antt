-- What a leader sends, followed by the ballot machine.
use Rattle.std.specs.Prelude.{◌≡◌, ◌⊎◌, ℕ, suc, ◌+◌, ◌-◌, ◌<◌, ◌≤◌, ◌^◌, ◌==◌, ◌&&◌, nat_lt, nat_le, Bool, true, false, List, [], ◌∷◌, length, take, drop, slice_get, Option, Some, None, is_none, option_and_then, refl}
use Rattle.std.proofs.Common.{inl, inr, sym, ap, ◌∙◌, subst, arith, ⊎_elim, le-leb, ne_eqb}
use Rattle.std.proofs.lemmas.Bool.{and_from, cond-true, cond-false, cases_lt}
use Rattle.std.proofs.lemmas.List.{take-map, drop-map, drop-drop}
use Rattle.std.proofs.lemmas.Option.{slice_get_within, slice_get_past}
use Rattle.raft_values.specs.declared.log_id.LogId.{LogId}
use Rattle.raft_values.specs.LogId.{next_place}
use Rattle.raft_group_step.specs.Values.{Membership, Entry}
use Rattle.raft_group_step.specs.StoredGroup.{StoredGroup, Snapshot, first_place, id_of, id_at, id_before, prefix_of, held}
use Rattle.raft_group_step.specs.Message.{AppendFields, AppendRequest, SnapshotRequest, Numbered, last_sent}
use Rattle.raft_group_step.specs.Peer.{PeerState, Outstanding, with_peer}
use Rattle.raft_group_step.specs.GroupState.{GroupState, Lead, Role, Follower, Candidate, Leader}
use Rattle.raft_group_step.specs.StepResult.{StepResult, send}
use Rattle.raft_group_step.specs.Lead.{peer_of, other_ids}
use Rattle.raft_group_step.specs.Frames.{committed_id, notice, request_start, waiting, send_entries, send_snapshot, send_request, serve, serve_as, serve_all, lacks_entries, entries_in_request}
use Rattle.raft_group_step.specs.Heartbeat.{send_notices, beat_as}
use Rattle.raft_group_step.specs.SnapshotRequest.{place_above}
use Rattle.raft_group_step.proofs.Words.{either_by}
use Rattle.raft_laws.specs.BallotLogs.{BallotEntry, ballot_of, ballot_before}
use Rattle.raft_laws.specs.BallotWorld.{BallotWorld, BallotEvent, SendEntries, is_ballot_leader, sent, ballot_step}
use Rattle.raft_laws.specs.BallotRanks.{rank_of, ballot_entry, ballot_log, ballot_group}
use Rattle.raft_laws.proofs.BallotAgreement.{some_at, same_some}
use Rattle.raft_laws.proofs.BallotSafe.{Among}
use Rattle.raft_laws.proofs.BallotOthers.{Extends, extends_refl}
use Rattle.raft_laws.proofs.Shapes.{Good, good_none, good_take, good_drop, joined_held, joined_at, slice_taken, slice_drop}
use Rattle.raft_laws.proofs.Ids.{before, id_at_is, size_same, ballot_at}
use Rattle.raft_laws.proofs.Standing.{HasId, PeerFits, RoleFits, OwnVote, AppendFits, InstallFits, append-of, reply-of, id_rank, message_on, peer_on}
use Rattle.raft_laws.proofs.BallotAppends.{drop_past}
use Rattle.raft_laws.proofs.Tracking.{Tracks, track_on, track_same, track_send, reached_next, reached_safe, step_extends}
use Rattle.raft_laws.proofs.TrackWrites.{leads}
use Rattle.raft_laws.proofs.TrackElections.{Ends, ends_from}
use Rattle.raft_laws.proofs.TrackReplies.{peer_of_fits, with_peer_is}

same_append : (b b' s s' p p' c c' : ℕ) (e e' : List BallotEntry) → b ≡ b' → s ≡ s' → p ≡ p' → e ≡ e' → c ≡ c' → append-of b s p e c ≡ append-of b' s' p' e' c'
same_append b b' s s' p p' c c' e e' h i j k l =
    ap (λ x. append-of x s p e c) h ∙ ap (λ x. append-of b' x p e c) i ∙ ap (λ x. append-of b' s' x e c) j
    ∙ ap (λ x. append-of b' s' p' x c) k ∙ ap (λ x. append-of b' s' p' e' x) l

last_sent_in : (previous : Option (LogId ℕ)) (es : List Entry) (id : LogId ℕ) → last_sent previous es ≡ Some id → (previous ≡ Some id) ⊎ ((i : ℕ) × (e : Entry) × (slice_get es i ≡ Some e) × (e.log_id ≡ id))
last_sent_in previous [] id h = inl h
last_sent_in previous (e ∷ es) id h =
    ⊎_elim
    (λ q. inr (0, e, refl, same_some q))
    (λ q. inr (suc q.0, q.1, q.2, q.3))
    (last_sent_in (Some e.log_id) es id h)

-- the vote is the own one, and the peers fit
abbrev pub LeadFits : ℕ → BallotWorld → GroupState → Lead → Type 0
LeadFits own w s lead = RoleFits own w s.stored.vote (held s.stored) (Leader lead)

module _ {m : Membership} {some : 0 < length m.configs} {own : ℕ} {before' : List BallotEvent} {base : StoredGroup} (w : BallotWorld) (r : StepResult) (t : Tracks m some own before' base w r) (mine : OwnVote own r.state.stored.vote true) where
  abbrev list : List Entry
  list = t.up.list

  held_is : held r.state.stored ≡ list
  held_is = joined_held r.state.stored list t.up.joined

  within : place_above r.state.committed ≤ length list
  within =
      let ok = reached_safe t.reached in
      let size = ap length t.up.fits.log in
      ⊎_elim
      (λ none. omega (arith, none, t.up.commit))
      (λ c. omega (arith, c.agrees.left, t.up.commit, size, size_same list))
      (ok.node own).sure

  committed_next : next_place (committed_id r.state) ≡ place_above r.state.committed
  committed_next = go r.state.committed refl
    where
      go : (c : Option ℕ) → r.state.committed ≡ c → next_place (option_and_then (id_at r.state.stored) c) ≡ place_above c
      go None e = refl
      go (Some c) e =
          let same = ap place_above e in
          let y = some_at list c (omega (arith, within, same)) in
          let is = id_at_is m (w.node own) r.state.stored list t.up.fits t.up.joined c y.0 y.1 (omega (arith, same, t.up.fits.reaches, t.up.commit, (t.up.joined).low)) in
          let place = t.up.fits.good.placed c y.0 y.1 in
          ap next_place is ∙ (let q : (y.0).log_id.index + 1 ≡ c + 1 = omega arith in q)

  -- the machine sends a part of the leader's list
  module _ (start count commit : ℕ) (low : start ≤ length list) (known : commit ≤ place_above r.state.committed) where
    send_is : ballot_step (ballot_group m) w (SendEntries own start count commit) ≡ sent w own start count commit
    send_is =
        cond-true _ _ _
        (and_from (is_ballot_leader (ballot_group m) own (w.node own)) _ (leads w r t mine)
        (and_from (nat_le start (length (w.node own).log)) (nat_le commit (w.node own).commit)
        (le-leb start (length (w.node own).log) (omega (arith, low, ap length t.up.fits.log, size_same list)))
        (le-leb commit (w.node own).commit (omega (arith, known, t.up.commit)))))

    pub sent_extends : Extends own w (sent w own start count commit)
    sent_extends = step_extends m own w (SendEntries own start count commit) refl (sent w own start count commit) send_is

    pub sent_tracks : Tracks m some own before' base (sent w own start count commit) r
    sent_tracks =
        track_on r t refl refl (reached_next (SendEntries own start count commit) refl (sent w own start count commit) send_is t.reached)
        t.up (λ x a. message_on sent_extends m x (t.messages x a))

    -- an append request of that part fits
    pub sent_fits : (a : AppendFields) → a.vote ≡ r.state.stored.vote → Good m (next_place a.previous) a.entries → ((id : LogId ℕ) → a.previous ≡ Some id → HasId list id) → next_place a.previous ≡ start → id_rank a.previous ≡ ballot_before (ballot_log list) start → ballot_log a.entries ≡ take count (drop start (ballot_log list)) → next_place a.committed ≡ commit → AppendFits m (sent w own start count commit) a
    sent_fits a vote good has s p e c =
        record {
          bound = subst (λ v. v.leader_id.node_id < 2 ^ 64) (sym vote) t.up.fits.bound;
          good = good;
          previous = λ id q. let h = has id q in subst (λ i. i.leader_id.node_id < 2 ^ 64) h.same (t.up.fits.good.bounded id.index h.entry h.there);
          sent =
              inl
              (same_append _ _ _ _ _ _ _ _ _ _
              (ap (λ v. rank_of v.leader_id) vote ∙ sym t.up.fits.ballot)
              s
              (p ∙ ap (λ l. ballot_before l start) (sym t.up.fits.log))
              (e ∙ ap (λ l. take count (drop start l)) (sym t.up.fits.log))
              c);
        }

  -- ---- a notice

  module _ (p : PeerState) (h : PeerFits w.replies (rank_of r.state.stored.vote.leader_id) (held r.state.stored) p) where
    matched_in : (id : LogId ℕ) → p.matched ≡ Some id → HasId list id
    matched_in id e = subst (λ l. HasId l id) held_is (h.matched id e).1

    record Known (o : Option (LogId ℕ)) : Type 0 where
      low : next_place o ≤ length list
      rank : id_rank o ≡ ballot_before (ballot_log list) (next_place o)

    known_at : (o : Option (LogId ℕ)) → ((id : LogId ℕ) → o ≡ Some id → HasId list id) → Known o
    known_at None f = record { low = omega arith; rank = refl }
    known_at (Some id) f =
        let has = f id refl in
        let l = slice_get_within list id.index has.entry has.there in
        let e : suc id.index ≡ id.index + 1 = omega arith in
        record {
          low = omega (arith, l);
          rank =
              ap (λ i. rank_of i.leader_id) (sym has.same)
              ∙ sym (ap ballot_of (ballot_at list id.index has.entry has.there))
              ∙ ap (ballot_before (ballot_log list)) e;
        }

    known : Known p.matched
    known = known_at p.matched matched_in

    abbrev notice_world : BallotWorld
    notice_world = sent w own (next_place p.matched) 0 (next_place (committed_id r.state))

    pub notice_extends : Extends own w notice_world
    notice_extends = sent_extends (next_place p.matched) 0 (next_place (committed_id r.state)) known.low (omega (arith, committed_next))

    pub notice_tracks : (n : ℕ) → Tracks m some own before' base notice_world (send own n (notice r.state p) r)
    notice_tracks n =
        track_send n (notice r.state p)
        (sent_tracks (next_place p.matched) 0 (next_place (committed_id r.state)) known.low (omega (arith, committed_next)))
        (sent_fits (next_place p.matched) 0 (next_place (committed_id r.state)) known.low (omega (arith, committed_next)) _ refl
        (good_none m (next_place p.matched)) matched_in refl known.rank refl refl)

  -- a leader that waits for one more answer
  waiting_role : {w' : BallotWorld} (lead : Lead) → LeadFits own w r.state lead → {p : PeerState} → PeerFits w.replies (rank_of r.state.stored.vote.leader_id) (held r.state.stored) p → Extends own w w' → (q : PeerState) → ((id : LogId ℕ) → q.matched ≡ Some id → Among (reply-of (rank_of r.state.stored.vote.leader_id) q.peer (id.index + 1)) w.replies) → ((id : LogId ℕ) → q.matched ≡ Some id → HasId (held r.state.stored) id) → ((o : Outstanding) (id : LogId ℕ) → q.outstanding ≡ Some o → o.last ≡ Some id → HasId (held r.state.stored) id) → LeadFits own w' r.state (record lead { peers = with_peer q lead.peers })
  waiting_role {w'} lead h fits e q f g k = (
    h.0,
    h.1,
    λ x a.
        ⊎_elim
        (λ s. subst (PeerFits w'.replies (rank_of r.state.stored.vote.leader_id) (held r.state.stored)) (sym s)
        (record { matched = λ id z. (e.replies _ (f id z), g id z); outstanding = k }))
        (λ b. peer_on (λ y c. e.replies y c) (λ i y z. z) (h.2 x b))
        (with_peer_is q lead.peers x a),
  )

  -- ---- a request with entries

  module _ (p : PeerState) where
    abbrev start : ℕ
    start = request_start r.state.stored p

    abbrev previous : Option (LogId ℕ)
    previous = id_before r.state.stored start

    abbrev entries : List Entry
    entries = take entries_in_request (drop (start - first_place r.state.stored) r.state.stored.log)

    from : first_place r.state.stored ≤ start
    from = omega arith

    -- what is sent is a part of the list, from its start on
    record Part : Type 0 where
      at : ℕ
      count : ℕ
      low : at ≤ length list
      next : next_place previous ≡ at
      rank : id_rank previous ≡ ballot_before (ballot_log list) at
      same : ballot_log entries ≡ take count (drop at (ballot_log list))
      good : Good m (next_place previous) entries
      has : (id : LogId ℕ) → previous ≡ Some id → HasId list id
      last : (id : LogId ℕ) → last_sent previous entries ≡ Some id → HasId list id

    log_from : drop (start - first_place r.state.stored) r.state.stored.log ≡ drop start list
    log_from =
        let e : first_place r.state.stored + (start - first_place r.state.stored) ≡ start = omega (arith, from) in
        ap (drop (start - first_place r.state.stored)) (t.up.joined).log
        ∙ drop-drop (start - first_place r.state.stored) (first_place r.state.stored) list
        ∙ ap (λ k. drop k list) e

    inside : start ≤ length list → Part
    inside l =
        let b = before m (w.node own) r.state.stored list t.up.fits t.up.joined start l from in
        let es : entries ≡ take entries_in_request (drop start list) = ap (take entries_in_request) log_from in
        let zero-start : 0 + start ≡ start = omega arith in
        let good : Good m start entries = subst (Good m start) (sym es) (good_take entries_in_request (subst (λ k. Good m k (drop start list)) zero-start (good_drop start t.up.fits.good))) in
        record {
          at = start;
          count = entries_in_request;
          low = l;
          next = b.next;
          rank = b.rank;
          same = ap ballot_log es ∙ sym (take-map ballot_entry entries_in_request (drop start list)) ∙ ap (take entries_in_request) (sym (drop-map ballot_entry start list));
          good = subst (λ k. Good m k entries) (sym b.next) good;
          has = b.has;
          last = λ id q.
              ⊎_elim
              (λ e. b.has id e)
              (λ e.
              let there = slice_taken entries_in_request (drop start list) e.0 e.1 (subst (λ l. slice_get l e.0 ≡ Some e.1) es e.2) in
              let here = sym (slice_drop start list e.0) ∙ there in
              let place = good.placed e.0 e.1 e.2 in
              let index : start + e.0 ≡ id.index = omega (arith, place, ap (λ i. i.index) e.3) in
              record { entry = e.1; there = ap (slice_get list) (sym index) ∙ here; same = e.3 })
              (last_sent_in previous entries id q);
        }

    past : length list < start → Part
    past l =
        let none : previous ≡ None =
        cond-false (start == 0) None (id_at r.state.stored (start - 1)) (ne_eqb start 0 (λ e. omega arith))
        ∙ cond-false (start - 1 + 1 == first_place r.state.stored) r.state.stored.purged _ (ne_eqb (start - 1 + 1) (first_place r.state.stored) (λ e. omega (arith, (t.up.joined).low, (t.up.joined).high)))
        ∙ ap id_of (joined_at r.state.stored list t.up.joined (start - 1) (omega (arith, (t.up.joined).low, (t.up.joined).high)) ∙ slice_get_past list (start - 1) (omega arith))
        in
        let es : entries ≡ [] = ap (take entries_in_request) (log_from ∙ drop_past start list (omega arith)) in
        record {
          at = 0;
          count = 0;
          low = omega arith;
          next = ap next_place none;
          rank = ap id_rank none;
          same = ap ballot_log es;
          good = subst (Good m (next_place previous)) (sym es) (good_none m (next_place previous));
          has = λ id q. absurd (let f : None ≡ Some id = sym none ∙ q in cc);
          last = λ id q. absurd (let f : None ≡ Some id = sym none ∙ (ap (last_sent previous) (sym es) ∙ q) in cc);
        }

    part : Part
    part = ⊎_elim (λ l. past l) (λ l. inside l) (cases_lt (length list) start)

    abbrev entries_world : BallotWorld
    entries_world = sent w own part.at part.count (next_place (committed_id r.state))

    pub entries_ends : (lead : Lead) → LeadFits own w r.state lead → PeerFits w.replies (rank_of r.state.stored.vote.leader_id) (held r.state.stored) p → Ends m some own before' base w (send_entries own p lead r)
    entries_ends lead h fits =
        let known : next_place (committed_id r.state) ≤ place_above r.state.committed = omega (arith, committed_next) in
        let extends = sent_extends part.at part.count (next_place (committed_id r.state)) part.low known in
        let body = sent_fits part.at part.count (next_place (committed_id r.state)) part.low known (record { vote = r.state.stored.vote; id = Numbered p.next_id; previous = previous; committed = committed_id r.state; entries = entries }) refl part.good part.has part.next part.rank part.same refl in
        let sent-one = track_send p.peer (AppendRequest (record { vote = r.state.stored.vote; id = Numbered p.next_id; previous = previous; committed = committed_id r.state; entries = entries })) (sent_tracks part.at part.count (next_place (committed_id r.state)) part.low known) body in
        record {
          world = sent w own part.at part.count (next_place (committed_id r.state));
          extends = extends;
          tracks = track_same (send_entries own p lead r) sent-one refl refl refl refl refl;
          role = waiting_role lead h fits extends (waiting p previous (last_sent previous entries) false) (λ id e. (fits.matched id e).0)
              (λ id e. (fits.matched id e).1)
              (λ o id e q. subst (λ l. HasId l id) (sym held_is) (part.last id (ap (λ x. x.last) (same_some e) ∙ q)));
        }

  -- ---- a snapshot

  module _ (x : Snapshot) (is : r.state.stored.snapshot ≡ Some x) where
    prefix_is : prefix_of r.state.stored.snapshot ≡ x.«prefix»
    prefix_is = ap prefix_of is

    front_is : x.«prefix» ≡ take (length x.«prefix») list
    front_is = sym prefix_is ∙ (t.up.joined).front ∙ ap (λ l. take (length l) list) prefix_is

    snapshot_known : length x.«prefix» ≤ place_above r.state.committed
    snapshot_known = omega (arith, ap length prefix_is, t.up.fits.reaches, t.up.commit)

    snapshot_fits : InstallFits m (sent w own 0 (length x.«prefix») (length x.«prefix»)) r.state.stored.vote x
    snapshot_fits =
        record {
          bound = t.up.fits.bound;
          good = subst (Good m 0) (sym front_is) (good_take (length x.«prefix») t.up.fits.good);
          snapshot = t.up.fits.snapshot x is;
          sent =
              inl
              (same_append _ _ _ _ _ _ _ _ _ _ (sym t.up.fits.ballot) refl refl
              (ap ballot_log front_is ∙ sym (take-map ballot_entry (length x.«prefix») list) ∙ ap (take (length x.«prefix»)) (sym t.up.fits.log))
              refl);
        }

    snapshot_last : HasId list x.last
    snapshot_last =
        let last = (t.up.fits.snapshot x is).last in
        record {
          entry = last.entry;
          there = slice_taken (length x.«prefix») list x.last.index last.entry (ap (λ l. slice_get l x.last.index) (sym front_is) ∙ last.there);
          same = last.same;
        }

    pub snapshot_ends : (p : PeerState) (lead : Lead) → LeadFits own w r.state lead → PeerFits w.replies (rank_of r.state.stored.vote.leader_id) (held r.state.stored) p → Ends m some own before' base w (send_snapshot own p lead x r)
    snapshot_ends p lead h fits =
        let extends = sent_extends 0 (length x.«prefix») (length x.«prefix») (omega arith) snapshot_known in
        let sent-one = track_send p.peer (SnapshotRequest r.state.stored.vote p.next_id x) (sent_tracks 0 (length x.«prefix») (length x.«prefix») (omega arith) snapshot_known) snapshot_fits in
        record {
          world = sent w own 0 (length x.«prefix») (length x.«prefix»);
          extends = extends;
          tracks = track_same (send_snapshot own p lead x r) sent-one refl refl refl refl refl;
          role = waiting_role lead h fits extends (waiting p None (Some x.last) true) (λ id e. (fits.matched id e).0)
              (λ id e. (fits.matched id e).1)
              (λ o id e q. subst (λ l. HasId l id) (sym held_is) (subst (HasId list) (same_some (ap (λ y. y.last) (same_some e) ∙ q)) snapshot_last));
        }

  -- ---- one peer is served

  same_ends : (lead : Lead) → r.state.role ≡ Leader lead → LeadFits own w r.state lead → Ends m some own before' base w r
  same_ends lead e h = record { world = w; extends = extends_refl own w; tracks = t; role = subst (RoleFits own w r.state.stored.vote (held r.state.stored)) (sym e) h }

  request_ends : (p : PeerState) (lead : Lead) → LeadFits own w r.state lead → PeerFits w.replies (rank_of r.state.stored.vote.leader_id) (held r.state.stored) p → (o : Option Snapshot) → r.state.stored.snapshot ≡ o → Ends m some own before' base w (send_request own p lead o r)
  request_ends p lead h fits None e = entries_ends p lead h fits
  request_ends p lead h fits (Some x) e =
      either_by (Ends m some own before' base w) (nat_lt p.search (first_place r.state.stored)) _ _
      (λ b. snapshot_ends x e p lead h fits)
      (λ b. entries_ends p lead h fits)

  notice_ends : (p : PeerState) (lead : Lead) (n : ℕ) → r.state.role ≡ Leader lead → LeadFits own w r.state lead → PeerFits w.replies (rank_of r.state.stored.vote.leader_id) (held r.state.stored) p → Ends m some own before' base w (send own n (notice r.state p) r)
  notice_ends p lead n e h fits =
      let extends = notice_extends p fits in
      record {
        world = sent w own (next_place p.matched) 0 (next_place (committed_id r.state));
        extends = extends;
        tracks = notice_tracks p fits n;
        role = subst (RoleFits own (sent w own (next_place p.matched) 0 (next_place (committed_id r.state))) r.state.stored.vote (held r.state.stored)) (sym e)
            (h.0, h.1, λ x a. peer_on (λ y c. extends.replies y c) (λ i y z. z) (h.2 x a));
      }

  pub serve_ends : (has_news : Bool) (p : PeerState) (lead : Lead) → r.state.role ≡ Leader lead → LeadFits own w r.state lead → PeerFits w.replies (rank_of r.state.stored.vote.leader_id) (held r.state.stored) p → Ends m some own before' base w (serve own has_news p lead r)
  serve_ends has_news p lead e h fits =
      either_by (Ends m some own before' base w) (is_none p.outstanding && lacks_entries r.state.stored p) _ _
      (λ b. request_ends p lead h fits r.state.stored.snapshot refl)
      (λ b. either_by (Ends m some own before' base w) has_news _ _ (λ c. notice_ends p lead p.peer e h fits) (λ c. same_ends lead e h))

-- ---- all peers

module _ {m : Membership} {some : 0 < length m.configs} {own : ℕ} {before' : List BallotEvent} {base : StoredGroup} where
  pub serve_as_ends : (w : BallotWorld) (r : StepResult) → Tracks m some own before' base w r → (has_news : Bool) (n : ℕ) (role : Role) → r.state.role ≡ role → RoleFits own w r.state.stored.vote (held r.state.stored) role → Ends m some own before' base w (serve_as own has_news n role r)
  serve_as_ends w r t has_news n Follower e h = record { world = w; extends = extends_refl own w; tracks = t; role = subst (RoleFits own w r.state.stored.vote (held r.state.stored)) (sym e) h }
  serve_as_ends w r t has_news n (Candidate granters) e h = record { world = w; extends = extends_refl own w; tracks = t; role = subst (RoleFits own w r.state.stored.vote (held r.state.stored)) (sym e) h }
  serve_as_ends w r t has_news n (Leader lead) e h =
      serve_ends w r t h.0 has_news (peer_of lead n) lead e h
      (peer_of_fits w.replies (rank_of r.state.stored.vote.leader_id) (held r.state.stored) lead n h.2)

  pub serve_all_ends : (has_news : Bool) (ns : List ℕ) (w : BallotWorld) (r : StepResult) → Tracks m some own before' base w r → RoleFits own w r.state.stored.vote (held r.state.stored) r.state.role → Ends m some own before' base w (serve_all own has_news ns r)
  serve_all_ends has_news [] w r t h = record { world = w; extends = extends_refl own w; tracks = t; role = h }
  serve_all_ends has_news (n ∷ ns) w r t h =
      let one = serve_as_ends w r t has_news n r.state.role refl h in
      ends_from one.extends (serve_all_ends has_news ns one.world _ one.tracks one.role)

  notices_ends : (lead : Lead) (ns : List ℕ) (w : BallotWorld) (r : StepResult) → Tracks m some own before' base w r → r.state.role ≡ Leader lead → LeadFits own w r.state lead → Ends m some own before' base w (send_notices own lead ns r)
  notices_ends lead [] w r t e h = record { world = w; extends = extends_refl own w; tracks = t; role = subst (RoleFits own w r.state.stored.vote (held r.state.stored)) (sym e) h }
  notices_ends lead (n ∷ ns) w r t e h =
      let one = notice_ends w r t h.0 (peer_of lead n) lead n e h (peer_of_fits w.replies (rank_of r.state.stored.vote.leader_id) (held r.state.stored) lead n h.2) in
      ends_from one.extends (notices_ends lead ns one.world _ one.tracks e (subst (RoleFits own one.world r.state.stored.vote (held r.state.stored)) e one.role))

  pub heartbeat_ends : (w : BallotWorld) (r : StepResult) → Tracks m some own before' base w r → (role : Role) → r.state.role ≡ role → RoleFits own w r.state.stored.vote (held r.state.stored) role → Ends m some own before' base w (beat_as own role r)
  heartbeat_ends w r t Follower e h = record { world = w; extends = extends_refl own w; tracks = t; role = subst (RoleFits own w r.state.stored.vote (held r.state.stored)) (sym e) h }
  heartbeat_ends w r t (Candidate granters) e h = record { world = w; extends = extends_refl own w; tracks = t; role = subst (RoleFits own w r.state.stored.vote (held r.state.stored)) (sym e) h }
  heartbeat_ends w r t (Leader lead) e h = notices_ends lead (other_ids own r.state.stored) w r t e h
