-- A leader's peers by their ids.
use Rattle.std.specs.Prelude.{◌≡◌, ◌==◌, nat_lt, cond, false, List, [], ◌∷◌, refl}
use Rattle.std.proofs.Common.{sym, ap, ◌∙◌, eqb-true, eq-eqb}
use Rattle.std.proofs.lemmas.Bool.{cond_both, cond-true, cond-false}
use Rattle.raft_group_step.specs.Message.{ReplyFields, ReplyResult, Success, PartialSuccess, Conflict, HigherVote}
use Rattle.raft_group_step.specs.Peer.{PeerState, peer_or, with_peer}
use Rattle.raft_group_step.specs.Reply.{accepted_up_to, after_answer, ended, is_part_of}

-- the peer that is set is found
pub with_peer-found : (p d : PeerState) (ps : List PeerState) → p.peer ≡ d.peer → peer_or d (with_peer p ps) ≡ p
with_peer-found p d [] e = cond-true (p.peer == d.peer) p d (eq-eqb p.peer d.peer e)
with_peer-found p d (x ∷ xs) e = go (with_peer-found p d xs e)
  where
    first : (rest : List PeerState) → peer_or d (p ∷ rest) ≡ p
    first rest = cond-true (p.peer == d.peer) p (peer_or d rest) (eq-eqb p.peer d.peer e)

    go : peer_or d (with_peer p xs) ≡ p → peer_or d (with_peer p (x ∷ xs)) ≡ p
    go rest =
        cond_both (x.peer == p.peer) (p ∷ xs) (cond (nat_lt p.peer x.peer) (p ∷ x ∷ xs) (x ∷ with_peer p xs)) (λ ps. peer_or d ps ≡ p)
        (λ t. first xs)
        (λ f.
        cond_both (nat_lt p.peer x.peer) (p ∷ x ∷ xs) (x ∷ with_peer p xs) (λ ps. peer_or d ps ≡ p)
        (λ t. first (x ∷ xs))
        (λ g. cond-false (x.peer == d.peer) x (peer_or d (with_peer p xs)) (ap (λ n. x.peer == n) (sym e) ∙ f) ∙ rest))

-- and each other one is what it was
pub with_peer-others : (p d : PeerState) (ps : List PeerState) → (p.peer == d.peer) ≡ false → peer_or d (with_peer p ps) ≡ peer_or d ps
with_peer-others p d [] e = cond-false (p.peer == d.peer) p d e
with_peer-others p d (x ∷ xs) e = go (with_peer-others p d xs e)
  where
    first : (rest : List PeerState) → peer_or d (p ∷ rest) ≡ peer_or d rest
    first rest = cond-false (p.peer == d.peer) p (peer_or d rest) e

    go : peer_or d (with_peer p xs) ≡ peer_or d xs → peer_or d (with_peer p (x ∷ xs)) ≡ peer_or d (x ∷ xs)
    go rest =
        cond_both (x.peer == p.peer) (p ∷ xs) (cond (nat_lt p.peer x.peer) (p ∷ x ∷ xs) (x ∷ with_peer p xs)) (λ ps. peer_or d ps ≡ peer_or d (x ∷ xs))
        (λ t.
        first xs
        ∙ sym (cond-false (x.peer == d.peer) x (peer_or d xs) (ap (λ n. n == d.peer) (eqb-true x.peer p.peer t) ∙ e)))
        (λ f.
        cond_both (nat_lt p.peer x.peer) (p ∷ x ∷ xs) (x ∷ with_peer p xs) (λ ps. peer_or d ps ≡ peer_or d (x ∷ xs))
        (λ t. first (x ∷ xs))
        (λ g. ap (λ q. cond (x.peer == d.peer) x q) rest))

-- an answer is of the same peer
pub answer_keeps_peer : (p : PeerState) (reply : ReplyFields) (outcome : ReplyResult) → (after_answer p reply outcome).peer ≡ p.peer
answer_keeps_peer p reply Success = refl
answer_keeps_peer p reply (PartialSuccess last) =
    cond_both (is_part_of p reply last) (accepted_up_to last p) (ended p) (λ q. q.peer ≡ p.peer) (λ t. refl) (λ t. refl)
answer_keeps_peer p reply Conflict = refl
answer_keeps_peer p reply (HigherVote vote) = refl
