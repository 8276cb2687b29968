-- Vote requests, and replies of each kind, followed by the ballot machine.
use Rattle.std.specs.Prelude.{◌≡◌, ◌⊎◌, ℕ, ◌+◌, ◌<◌, ◌^◌, ◌==◌, ◌&&◌, ◌||◌, nat_lt, Bool, true, false, cond, List, [], ◌∷◌, length, Option, Some, None, refl}
use Rattle.std.proofs.Common.{inl, inr, sym, ap, ap₂, ◌∙◌, subst, ⊎_elim, eqb-true, eq-eqb}
use Rattle.std.proofs.lemmas.Bool.{and_parts, and_from, or_parts, cond_both, not-true}
use Rattle.raft_values.specs.declared.log_id.LogId.{LogId}
use Rattle.raft_values.specs.declared.vote.Vote.{Vote}
use Rattle.raft_values.specs.declared.vote.LeaderId.{LeaderId}
use Rattle.raft_values.specs.LogId.{next_place}
use Rattle.raft_group_step.specs.Values.{Membership, Entry, vote_eq, vote_lt, leader_eq, last_id_lt, last_id_eq}
use Rattle.raft_group_step.specs.StoredGroup.{StoredGroup, last_id, held}
use Rattle.raft_group_step.specs.Message.{ReplyFields, ReplyResult, Success, PartialSuccess, Conflict, HigherVote}
use Rattle.raft_group_step.specs.Peer.{PeerState, Outstanding, new_peer, peer_or, with_peer, is_answer_to}
use Rattle.raft_group_step.specs.GroupState.{Lead, Role, Follower, Candidate, Leader}
use Rattle.raft_group_step.specs.StepResult.{StepResult, store_vote, step_down}
use Rattle.raft_group_step.specs.Lead.{peer_of}
use Rattle.raft_group_step.specs.Frames.{with_peer_state}
use Rattle.raft_group_step.specs.VoteRequest.{may_grant, is_under_lease, judged, vote_request_step}
use Rattle.raft_group_step.specs.VoteReply.{take_over_greater, counted, vote_reply_step}
use Rattle.raft_group_step.specs.Reply.{after_answer, answered, with_higher_vote, reply_step}
use Rattle.raft_group_step.specs.Refusal.{is_foreign, is_foreign_result}
use Rattle.raft_group_step.proofs.Words.{either_by}
use Rattle.raft_group_step.proofs.Votes.{leader_eq_same}
use Rattle.raft_laws.specs.BallotWorld.{BallotReply, BallotWorld, BallotEvent, raised}
use Rattle.raft_laws.specs.BallotRanks.{rank_of}
use Rattle.raft_laws.proofs.BallotSafe.{Among}
use Rattle.raft_laws.proofs.BallotOthers.{extends_refl}
use Rattle.raft_laws.proofs.VoteRanks.{vote_eq_same, rank_rises}
use Rattle.raft_laws.proofs.Shapes.{joined_held}
use Rattle.raft_laws.proofs.Standing.{replies_on, PeerFits, RoleFits, RepliesFit, request-of, grant-of, reply-of, id_rank}
use Rattle.raft_laws.proofs.Tracking.{Tracks, track_same, track_send}
use Rattle.raft_laws.proofs.TrackVotes.{grant_tracks, raise_tracks'}
use Rattle.raft_laws.proofs.TrackElections.{Ends, ends_from, grant_ends}
use Rattle.raft_laws.proofs.TrackAppendRequest.{follows_ends}

-- ---- a leader's peers

pub peer_or_is : (p : PeerState) (ps : List PeerState) → (peer_or p ps ≡ p) ⊎ (((peer_or p ps).peer ≡ p.peer) × Among (peer_or p ps) ps)
peer_or_is p [] = inl refl
peer_or_is p (x ∷ xs) =
    cond_both (x.peer == p.peer) x (peer_or p xs) (λ q. (q ≡ p) ⊎ ((q.peer ≡ p.peer) × Among q (x ∷ xs)))
    (λ t. inr (eqb-true x.peer p.peer t, inl refl))
    (λ t. ⊎_elim (λ e. inl e) (λ h. inr (h.0, inr h.1)) (peer_or_is p xs))

pub with_peer_is : (p : PeerState) (ps : List PeerState) (q : PeerState) → Among q (with_peer p ps) → (q ≡ p) ⊎ Among q ps
with_peer_is p [] q h = ⊎_elim (λ e. inl e) (λ a. absurd a) h
with_peer_is p (x ∷ xs) q h = go (with_peer_is p xs q) h
  where
    go : (Among q (with_peer p xs) → (q ≡ p) ⊎ Among q xs) → Among q (with_peer p (x ∷ xs)) → (q ≡ p) ⊎ Among q (x ∷ xs)
    go rest =
        cond_both (x.peer == p.peer) (p ∷ xs) (cond (nat_lt p.peer x.peer) (p ∷ x ∷ xs) (x ∷ with_peer p xs)) (λ l. Among q l → (q ≡ p) ⊎ Among q (x ∷ xs))
        (λ t a. ⊎_elim (λ e. inl e) (λ b. inr (inr b)) a)
        (λ t.
        cond_both (nat_lt p.peer x.peer) (p ∷ x ∷ xs) (x ∷ with_peer p xs) (λ l. Among q l → (q ≡ p) ⊎ Among q (x ∷ xs))
        (λ s a. ⊎_elim (λ e. inl e) (λ b. inr b) a)
        (λ s a. ⊎_elim (λ e. inr (inl e)) (λ b. ⊎_elim (λ e. inl e) (λ c. inr (inr c)) (rest b)) a))

-- of a peer of which nothing is known
pub new_fits : (replies : List BallotReply) (rank : ℕ) (xs : List Entry) (search n : ℕ) → PeerFits replies rank xs (new_peer search n)
new_fits replies rank xs search n =
    record {
      matched = λ id e. absurd (let f : None ≡ Some id = e in cc);
      outstanding = λ o id e q. absurd (let f : None ≡ Some o = e in cc);
    }

pub peer_of_fits : (replies : List BallotReply) (rank : ℕ) (xs : List Entry) (lead : Lead) (n : ℕ) → ((p : PeerState) → Among p lead.peers → PeerFits replies rank xs p) → PeerFits replies rank xs (peer_of lead n)
peer_of_fits replies rank xs lead n h =
    ⊎_elim
    (λ e. subst (PeerFits replies rank xs) (sym e) (new_fits replies rank xs lead.began n))
    (λ a. h (peer_of lead n) a.1)
    (peer_or_is (new_peer lead.began n) lead.peers)

pub peer_of_is : (lead : Lead) (n : ℕ) → (peer_of lead n).peer ≡ n
peer_of_is lead n = ⊎_elim (λ e. ap (λ p. p.peer) e) (λ a. a.0) (peer_or_is (new_peer lead.began n) lead.peers)

-- an answer's last log id is the request's

last_same : (a b : Option (LogId ℕ)) (id : LogId ℕ) → last_id_eq a b ≡ true → a ≡ Some id → b ≡ Some id
last_same None b id h e = absurd (let f : None ≡ Some id = e in cc)
last_same (Some a) None id h e = absurd (let f : false ≡ true = h in cc)
last_same (Some a) (Some b) id h e =
    let parts = and_parts (leader_eq a.leader_id b.leader_id) (a.index == b.index) h in
    let leader = leader_eq_same a.leader_id b.leader_id parts.0 in
    let index = eqb-true a.index b.index parts.1 in
    let same : b ≡ a = ap₂ made (sym leader) (sym index) in
    ap Some same ∙ e
  where
    made : LeaderId ℕ → ℕ → LogId ℕ
    made l i = record { leader_id = l; index = i }

answered_last : (reply : ReplyFields) (o : Option Outstanding) → is_answer_to reply o ≡ true → (x : Outstanding) × (o ≡ Some x) × (last_id_eq reply.last x.last ≡ true)
answered_last reply None h = absurd (let f : false ≡ true = h in cc)
answered_last reply (Some x) h = (x, refl, (and_parts _ (last_id_eq reply.last x.last) h).1)

module _ {m : Membership} {some : 0 < length m.configs} {own : ℕ} {before : List BallotEvent} {base : StoredGroup} (small : own < 2 ^ 64) (w : BallotWorld) (r : StepResult) (t : Tracks m some own before base w r) (role : RoleFits own w r.state.stored.vote (held r.state.stored) r.state.role) where
  stays : Ends m some own before base w r
  stays = record { world = w; extends = extends_refl own w; tracks = t; role = role }

  -- ---- votes

  pub greater_ends : (v : Vote ℕ) → v.leader_id.node_id < 2 ^ 64 → is_foreign own r.state.stored.vote v ≡ true → Ends m some own before base w (take_over_greater v r)
  greater_ends v bound foreign =
      either_by (Ends m some own before base w) (vote_lt r.state.stored.vote v) _ _
      (λ l.
      let down = track_same (step_down r) t refl refl refl refl refl in
      let other : v.leader_id.node_id ≡ own → ⊥ = λ e.
      let both = and_from (v.leader_id.node_id == own) (vote_lt r.state.stored.vote v) (eq-eqb v.leader_id.node_id own e) l in
      let f : true ≡ false = sym both ∙ not-true _ foreign in
      absurd cc
      in
      let raise = raise_tracks' m some own small before base w (step_down r) down v bound other (rank_rises r.state.stored.vote v t.up.fits.bound l) in
      follows_ends (store_vote v (step_down r)) (raised w own (rank_of v.leader_id) v.committed) raise.1 raise.0 refl)
      (λ l. stays)

  module _ (peer : ℕ) (v : Vote ℕ) (bound : v.leader_id.node_id < 2 ^ 64) where
    counted_ends : (granted : Bool) → (granted ≡ true → Among (grant-of (rank_of v.leader_id) peer) w.grants) → is_foreign own r.state.stored.vote v ≡ true → (b : Bool) → (granted && vote_eq v r.state.stored.vote) ≡ b → Ends m some own before base w (counted peer b v r)
    counted_ends granted given foreign true h =
        let parts = and_parts granted (vote_eq v r.state.stored.vote) h in
        let same = vote_eq_same v r.state.stored.vote parts.1 in
        grant_ends peer w r t (subst (λ x. Among (grant-of (rank_of x.leader_id) peer) w.grants) same (given parts.0)) r.state.role refl role
    counted_ends granted given foreign false h = greater_ends v bound foreign

    pub vote_reply_ends : (granted : Bool) → (granted ≡ true → Among (grant-of (rank_of v.leader_id) peer) w.grants) → is_foreign own r.state.stored.vote v ≡ true → Ends m some own before base w (vote_reply_step peer v granted r)
    vote_reply_ends granted given foreign = counted_ends granted given foreign (granted && vote_eq v r.state.stored.vote) refl

    -- a candidate asks
    module _ (last : Option (LogId ℕ)) (asked : Among (request-of (rank_of v.leader_id) (id_rank last) (next_place last)) w.requests) (young : v.committed ≡ false) (other : v.leader_id.node_id ≡ own → ⊥) where
      judged_ends : (b : Bool) → may_grant r.state v last ≡ b → Ends m some own before base w (judged own peer v b r)
      judged_ends false h =
          record {
            world = w;
            extends = extends_refl own w;
            tracks = track_send peer _ t (t.up.fits.bound, λ e. absurd (let f : false ≡ true = e in cc));
            role = role;
          }
      judged_ends true h =
          let refused = none_of (is_under_lease r.state || last_id_lt last (last_id r.state.stored) || vote_lt v r.state.stored.vote) h in
          let two = or_parts (is_under_lease r.state || last_id_lt last (last_id r.state.stored)) (vote_lt v r.state.stored.vote) refused in
          let one = or_parts (is_under_lease r.state) (last_id_lt last (last_id r.state.stored)) two.0 in
          let listed = subst (λ l. RoleFits own w r.state.stored.vote l r.state.role) (joined_held r.state.stored t.up.list t.up.joined) role in
          let g = grant_tracks m some own small before base w r t v bound other last asked young two.1 one.1 listed in
          let took = g.took in
          follows_ends _ took.world took.extends
          (track_send peer _ took.tracks
          (took.tracks.up.fits.bound, λ e. subst (λ x. Among (grant-of (rank_of x.leader_id) own) (took.world).grants) (sym took.vote) g.grant))
          took.role
        where
          none_of : (b : Bool) → cond b false true ≡ true → b ≡ false
          none_of true e = absurd (let f : false ≡ true = e in cc)
          none_of false e = refl

      pub vote_request_ends : Ends m some own before base w (vote_request_step own peer v last r)
      vote_request_ends = judged_ends (may_grant r.state v last) refl

  -- ---- answers to a leader's requests

  module _ (peer : ℕ) (reply : ReplyFields) where
    after_fits : (lead : Lead) → ((p : PeerState) → Among p lead.peers → PeerFits w.replies (rank_of r.state.stored.vote.leader_id) (held r.state.stored) p) → (o : ReplyResult) → RepliesFit w peer reply o → (vote_eq reply.vote r.state.stored.vote && is_answer_to reply (peer_of lead peer).outstanding) ≡ true → PeerFits w.replies (rank_of r.state.stored.vote.leader_id) (held r.state.stored) (after_answer (peer_of lead peer) reply o)
    after_fits lead h Success fits t =
        let p = peer_of_fits w.replies (rank_of r.state.stored.vote.leader_id) (held r.state.stored) lead peer h in
        let parts = and_parts (vote_eq reply.vote r.state.stored.vote) (is_answer_to reply (peer_of lead peer).outstanding) t in
        let vote = vote_eq_same reply.vote r.state.stored.vote parts.0 in
        let last = answered_last reply (peer_of lead peer).outstanding parts.1 in
        record {
          matched = λ id e. (
            subst (λ n. Among (reply-of (rank_of r.state.stored.vote.leader_id) n (id.index + 1)) w.replies) (sym (peer_of_is lead peer))
                (subst (λ v. Among (reply-of (rank_of v.leader_id) peer (id.index + 1)) w.replies) vote (fits id e)),
            p.outstanding last.0 id last.1 (last_same reply.last (last.0).last id last.2 e),
          );
          outstanding = λ o id e q. absurd (let f : None ≡ Some o = e in cc);
        }
    after_fits lead h (PartialSuccess last) fits t = absurd fits
    after_fits lead h Conflict fits t =
        let p = peer_of_fits w.replies (rank_of r.state.stored.vote.leader_id) (held r.state.stored) lead peer h in
        record { matched = λ id e. p.matched id e; outstanding = λ o id e q. absurd (let f : None ≡ Some o = e in cc) }
    after_fits lead h (HigherVote v) fits t =
        let p = peer_of_fits w.replies (rank_of r.state.stored.vote.leader_id) (held r.state.stored) lead peer h in
        record { matched = λ id e. p.matched id e; outstanding = λ o id e q. absurd (let f : None ≡ Some o = e in cc) }

    pub answered_ends : (part : Role) → r.state.role ≡ part → RepliesFit w peer reply reply.outcome → Ends m some own before base w (answered peer reply part r)
    answered_ends Follower e fits = stays
    answered_ends (Candidate granters) e fits = stays
    answered_ends (Leader lead) e fits =
        let h = subst (RoleFits own w r.state.stored.vote (held r.state.stored)) e role in
        either_by (Ends m some own before base w) (vote_eq reply.vote r.state.stored.vote && is_answer_to reply (peer_of lead peer).outstanding) _ _
        (λ q.
        record {
          world = w;
          extends = extends_refl own w;
          tracks = track_same (with_peer_state (after_answer (peer_of lead peer) reply reply.outcome) lead r) t refl refl refl refl refl;
          role = (
            h.0,
            h.1,
            λ p a.
                ⊎_elim
                (λ s. subst (PeerFits w.replies (rank_of r.state.stored.vote.leader_id) (held r.state.stored)) (sym s) (after_fits lead h.2 reply.outcome fits q))
                (λ b. h.2 p b)
                (with_peer_is (after_answer (peer_of lead peer) reply reply.outcome) lead.peers p a),
          );
        })
        (λ q. stays)

  higher_ends : (peer : ℕ) (reply : ReplyFields) (o : ReplyResult) → RepliesFit w peer reply o → is_foreign_result own r.state.stored.vote o ≡ true → Ends m some own before base w (with_higher_vote o r)
  higher_ends peer reply Success fits foreign = stays
  higher_ends peer reply (PartialSuccess last) fits foreign = stays
  higher_ends peer reply Conflict fits foreign = stays
  higher_ends peer reply (HigherVote v) fits foreign = greater_ends v fits foreign

pub reply_ends : {m : Membership} {some : 0 < length m.configs} {own : ℕ} {before : List BallotEvent} {base : StoredGroup} (small : own < 2 ^ 64) (w : BallotWorld) (r : StepResult) (t : Tracks m some own before base w r) (role : RoleFits own w r.state.stored.vote (held r.state.stored) r.state.role) (peer : ℕ) (reply : ReplyFields) → RepliesFit w peer reply reply.outcome → is_foreign_result own r.state.stored.vote reply.outcome ≡ true → Ends m some own before base w (reply_step peer reply r)
reply_ends small w r t role peer reply fits foreign =
    let h = higher_ends small w r t role peer reply reply.outcome fits foreign in
    ends_from h.extends
    (answered_ends small h.world (with_higher_vote reply.outcome r) h.tracks h.role peer reply (with_higher_vote reply.outcome r).state.role refl
    (replies_on h.extends peer reply reply.outcome fits))
