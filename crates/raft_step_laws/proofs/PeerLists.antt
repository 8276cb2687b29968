-- A leader's peers by their ids, and what sending makes of each.
use Rattle.std.specs.Prelude.{◌≡◌, ◌⊎◌, ℕ, ◌==◌, cond, Bool, true, false, List, [], ◌∷◌, ◌++◌, Some, None, refl}
use Rattle.std.proofs.Common.{inl, inr, sym, ap, ◌∙◌, subst, arith, eqb-true, ⊎_elim}
use Rattle.std.proofs.lemmas.Bool.{cond_both}
use Rattle.std.proofs.lemmas.List.Elements.{Contains-append_right}
use Rattle.raft_group_step.specs.Message.{Message, MessageBody, VoteRequest, VoteReply, AppendRequest, AppendReply, SnapshotRequest, SnapshotReply, AppendFields, RequestId, HeartBeat, Numbered}
use Rattle.raft_group_step.specs.Peer.{Outstanding, PeerState}
use Rattle.raft_step_laws.specs.PeerStates.{after_append, after_body, peer_after_sending}
use Rattle.raft_step_laws.specs.Serving.{IsSent, number_of_id, request_number}

-- whichever it is, it is the same
pub cond_same : {A : Type 0} (b : Bool) (x : A) → cond b x x ≡ x
cond_same true x = refl
cond_same false x = refl

-- ---- the peer that is set is found, and each other one is what it was

-- ---- what is sent, in two parts

pub sending_joins : (ms ns : List Message) (p : PeerState) → peer_after_sending (ms ++ ns) p ≡ peer_after_sending ns (peer_after_sending ms p)
sending_joins [] ns p = refl
sending_joins (m ∷ ms) ns p = sending_joins ms ns (cond (m.addressee == p.peer) (after_body m.body p) p)

-- ---- messages without a number change nothing

abbrev pub Unnumbered : Message → Type 0
Unnumbered m = request_number m.body ≡ None

unnumbered_append : (id : RequestId) (m : AppendFields) (p : PeerState) → number_of_id id ≡ None → after_append id m p ≡ p
unnumbered_append HeartBeat m p e = refl
unnumbered_append (Numbered id) m p e = absurd (let f : None ≡ Some id = sym e in cc)

unnumbered_body : (b : MessageBody) (p : PeerState) → request_number b ≡ None → after_body b p ≡ p
unnumbered_body (VoteRequest vote last) p e = refl
unnumbered_body (VoteReply vote granted last) p e = refl
unnumbered_body (AppendRequest m) p e = unnumbered_append m.id m p e
unnumbered_body (AppendReply m) p e = refl
unnumbered_body (SnapshotRequest vote id snapshot) p e = absurd (let f : None ≡ Some id = sym e in cc)
unnumbered_body (SnapshotReply m) p e = refl

abbrev pub AllUnnumbered : List Message → Type 0
AllUnnumbered [] = Unit {0}
AllUnnumbered (m ∷ ms) = Unnumbered m × AllUnnumbered ms

pub unnumbered_more : (ms ns : List Message) → AllUnnumbered ms → AllUnnumbered ns → AllUnnumbered (ms ++ ns)
unnumbered_more [] ns h k = k
unnumbered_more (m ∷ ms) ns h k = (h.0, unnumbered_more ms ns h.1 k)

unnumbered_one : (m : Message) (p : PeerState) → Unnumbered m → cond (m.addressee == p.peer) (after_body m.body p) p ≡ p
unnumbered_one m p e = ap (λ q. cond (m.addressee == p.peer) q p) (unnumbered_body m.body p e) ∙ cond_same (m.addressee == p.peer) p

pub unnumbered_all : (ms : List Message) (p : PeerState) → AllUnnumbered ms → peer_after_sending ms p ≡ p
unnumbered_all [] p h = refl
unnumbered_all (m ∷ ms) p h = ap (peer_after_sending ms) (unnumbered_one m p h.0) ∙ unnumbered_all ms p h.1

-- ---- a request is outstanding since before, or was sent

appended_number : (id : RequestId) (m : AppendFields) (p : PeerState) (o : Outstanding) → (after_append id m p).outstanding ≡ Some o → (p.outstanding ≡ Some o) ⊎ (number_of_id id ≡ Some o.id)
appended_number HeartBeat m p o e = inl e
appended_number (Numbered id) m p o e = inr (let f : Some id ≡ Some o.id = cc in f)

body_number : (b : MessageBody) (p : PeerState) (o : Outstanding) → (after_body b p).outstanding ≡ Some o → (p.outstanding ≡ Some o) ⊎ (request_number b ≡ Some o.id)
body_number (VoteRequest vote last) p o e = inl e
body_number (VoteReply vote granted last) p o e = inl e
body_number (AppendRequest m) p o e = appended_number m.id m p o e
body_number (AppendReply m) p o e = inl e
body_number (SnapshotRequest vote id snapshot) p o e = inr (let f : Some id ≡ Some o.id = cc in f)
body_number (SnapshotReply m) p o e = inl e

appended_peer : (id : RequestId) (m : AppendFields) (p : PeerState) → (after_append id m p).peer ≡ p.peer
appended_peer HeartBeat m p = refl
appended_peer (Numbered id) m p = refl

body_peer : (b : MessageBody) (p : PeerState) → (after_body b p).peer ≡ p.peer
body_peer (VoteRequest vote last) p = refl
body_peer (VoteReply vote granted last) p = refl
body_peer (AppendRequest m) p = appended_peer m.id m p
body_peer (AppendReply m) p = refl
body_peer (SnapshotRequest vote id snapshot) p = refl
body_peer (SnapshotReply m) p = refl

appended_has : (id : RequestId) (m : AppendFields) (p : PeerState) → (o : Outstanding) × (p.outstanding ≡ Some o) → (o : Outstanding) × ((after_append id m p).outstanding ≡ Some o)
appended_has HeartBeat m p h = h
appended_has (Numbered id) m p h = (_, refl)

-- a request stays outstanding until another is sent
pub body_has : (b : MessageBody) (p : PeerState) → (o : Outstanding) × (p.outstanding ≡ Some o) → (o : Outstanding) × ((after_body b p).outstanding ≡ Some o)
body_has (VoteRequest vote last) p h = h
body_has (VoteReply vote granted last) p h = h
body_has (AppendRequest m) p h = appended_has m.id m p h
body_has (AppendReply m) p h = h
body_has (SnapshotRequest vote id snapshot) p h = (_, refl)
body_has (SnapshotReply m) p h = h

appended_matched : (id : RequestId) (m : AppendFields) (p : PeerState) → (after_append id m p).matched ≡ p.matched
appended_matched HeartBeat m p = refl
appended_matched (Numbered id) m p = refl

pub body_matched : (b : MessageBody) (p : PeerState) → (after_body b p).matched ≡ p.matched
body_matched (VoteRequest vote last) p = refl
body_matched (VoteReply vote granted last) p = refl
body_matched (AppendRequest m) p = appended_matched m.id m p
body_matched (AppendReply m) p = refl
body_matched (SnapshotRequest vote id snapshot) p = refl
body_matched (SnapshotReply m) p = refl

one_peer : (m : Message) (p : PeerState) → (cond (m.addressee == p.peer) (after_body m.body p) p).peer ≡ p.peer
one_peer m p =
    cond_both (m.addressee == p.peer) (after_body m.body p) p (λ q. q.peer ≡ p.peer) (λ t. body_peer m.body p) (λ t. refl)

-- one of the messages
sent_here : (m : Message) (ms : List Message) (n id : ℕ) → m.addressee ≡ n → request_number m.body ≡ Some id → IsSent (m ∷ ms) n id
sent_here m ms n id e f = record { message = m; sent = (0, omega arith, refl); addressee = e; number = f }

sent_later : (m : Message) (ms : List Message) (n id : ℕ) → IsSent ms n id → IsSent (m ∷ ms) n id
sent_later m ms n id h =
    record {
      message = h.message;
      sent = Contains-append_right (m ∷ []) ms h.message h.sent;
      addressee = h.addressee;
      number = h.number;
    }

one_since : (m : Message) (p : PeerState) (o : Outstanding) → (cond (m.addressee == p.peer) (after_body m.body p) p).outstanding ≡ Some o → (p.outstanding ≡ Some o) ⊎ ((m.addressee ≡ p.peer) × (request_number m.body ≡ Some o.id))
one_since m p o =
    cond_both (m.addressee == p.peer) (after_body m.body p) p (λ q. q.outstanding ≡ Some o → (p.outstanding ≡ Some o) ⊎ ((m.addressee ≡ p.peer) × (request_number m.body ≡ Some o.id)))
    (λ t e. ⊎_elim (λ f. inl f) (λ f. inr (eqb-true m.addressee p.peer t, f)) (body_number m.body p o e))
    (λ t e. inl e)

pub outstanding_since : (ms : List Message) (p : PeerState) (o : Outstanding) → (peer_after_sending ms p).outstanding ≡ Some o → (p.outstanding ≡ Some o) ⊎ IsSent ms p.peer o.id
outstanding_since [] p o e = inl e
outstanding_since (m ∷ ms) p o e =
    let q = cond (m.addressee == p.peer) (after_body m.body p) p in
    ⊎_elim
    (λ f. ⊎_elim (λ g. inl g) (λ g. inr (sent_here m ms p.peer o.id g.0 g.1)) (one_since m p o f))
    (λ h. inr (sent_later m ms p.peer o.id (subst (λ n. IsSent ms n o.id) (one_peer m p) h)))
    (outstanding_since ms q o e)
