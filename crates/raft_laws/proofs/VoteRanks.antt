-- Leaders as numbers stand in the order of leaders.
use Rattle.std.specs.Prelude.{◌≡◌, ℕ, ◌+◌, ◌*◌, ◌%◌, ◌^◌, ◌<◌, ◌≤◌, ◌==◌, Bool, true, false, refl}
use Rattle.std.specs.Bool.{beq}
use Rattle.std.proofs.Common.{sym, ap, ap₂, ◌∙◌, ⊎_elim, arith, lt-ltb, le-ltb, eq-eqb}
use Rattle.std.proofs.lemmas.Bool.{and_parts, and_from, cond-true, cond-false, cases_lt}
use Rattle.raft_values.specs.declared.vote.LeaderId.{LeaderId}
use Rattle.raft_values.specs.declared.vote.Vote.{Vote}
use Rattle.raft_group_step.specs.Values.{leader_eq, vote_eq, vote_lt}
use Rattle.raft_group_step.proofs.Votes.{leader_eq_same, same_leader}
use Rattle.raft_laws.specs.BallotRanks.{rank_of, owner_of}
use Rattle.raft_laws.proofs.VoteOrders.{LeaderBelow, by_term, by_node, VoteOrder, lower, earlier, level, later, higher, vote_order, differ_flags}

pub rank_below : (a b : LeaderId ℕ) → a.node_id < 2 ^ 64 → LeaderBelow a b → rank_of a < rank_of b
rank_below a b h (by_term l) = omega arith
rank_below a b h (by_node e l) = omega arith

pub rank_same : (a b : LeaderId ℕ) → a.term ≡ b.term → a.node_id ≡ b.node_id → rank_of a ≡ rank_of b
rank_same a b e f = ap₂ (λ t n. t * 2 ^ 64 + n) e f

-- equal numbers are of equal leaders
pub rank_leader : (a b : LeaderId ℕ) → a.node_id < 2 ^ 64 → b.node_id < 2 ^ 64 → rank_of a ≡ rank_of b → a ≡ b
rank_leader a b h k e =
    let t : a.term ≡ b.term = omega arith in
    let n : a.node_id ≡ b.node_id = omega arith in
    same_leader a b t n

pub leader_eq_from : (a b : LeaderId ℕ) → a ≡ b → leader_eq a b ≡ true
leader_eq_from a b e =
    and_from (a.term == b.term) (a.node_id == b.node_id) (eq-eqb a.term b.term (ap (λ x. x.term) e))
    (eq-eqb a.node_id b.node_id (ap (λ x. x.node_id) e))

pub beq_same : (c d : Bool) → beq c d ≡ true → c ≡ d
beq_same true true h = refl
beq_same true false h = absurd (let e : false ≡ true = h in cc)
beq_same false true h = absurd (let e : false ≡ true = h in cc)
beq_same false false h = refl

abbrev vote-of : LeaderId ℕ → Bool → Vote ℕ
vote-of leader committed = record { leader_id = leader; committed = committed }

pub vote_eq_same : (a b : Vote ℕ) → vote_eq a b ≡ true → a ≡ b
vote_eq_same a b h =
    let p = and_parts (leader_eq a.leader_id b.leader_id) (beq a.committed b.committed) h in
    ap₂ vote-of (leader_eq_same a.leader_id b.leader_id p.0) (beq_same a.committed b.committed p.1)

-- the node of a ballot in a term
pub owner_is : (a : LeaderId ℕ) → 0 < a.term → a.node_id < 2 ^ 64 → owner_of (rank_of a) ≡ a.node_id
owner_is a pos h =
    cond-false _ _ _ (le-ltb (rank_of a) (2 ^ 64) (omega arith))
    ∙ (let e : (a.term * 2 ^ 64 + a.node_id) % 2 ^ 64 ≡ a.node_id = omega arith in e)

-- a ballot of another node, or of none
pub owner_other : (a : LeaderId ℕ) (n : ℕ) → a.node_id < 2 ^ 64 → n < 2 ^ 64 → (a.node_id ≡ n → ⊥) → owner_of (rank_of a) ≡ n → ⊥
owner_other a n h k ne e =
    ⊎_elim
    (λ l.
    let none : owner_of (rank_of a) ≡ 2 ^ 64 = cond-true _ _ _ (lt-ltb (rank_of a) (2 ^ 64) l) in
    let f : 2 ^ 64 ≡ n = sym none ∙ e in
    omega arith)
    (λ l.
    let pos : 0 < a.term = omega arith in
    ne (sym (owner_is a pos h) ∙ e))
    (cases_lt (rank_of a) (2 ^ 64))

-- a vote that is below: its number isn't above, and is below where the other isn't committed
pub rank_rises : (a b : Vote ℕ) → a.leader_id.node_id < 2 ^ 64 → vote_lt a b ≡ true → rank_of a.leader_id ≤ rank_of b.leader_id
rank_rises a b h t = go (vote_order a b)
  where
    go : VoteOrder a b → rank_of a.leader_id ≤ rank_of b.leader_id
    go (lower l o) = let s = rank_below a.leader_id b.leader_id h l in omega arith
    go (earlier e f p q o) = let s = rank_same a.leader_id b.leader_id e f in omega arith
    go (level e f p o) = differ_flags (vote_lt a b) t o
    go (later e f p q o) = differ_flags (vote_lt a b) t o
    go (higher l o) = differ_flags (vote_lt a b) t o

pub rank_rises_strictly : (a b : Vote ℕ) → a.leader_id.node_id < 2 ^ 64 → b.committed ≡ false → vote_lt a b ≡ true → rank_of a.leader_id < rank_of b.leader_id
rank_rises_strictly a b h c t = go (vote_order a b)
  where
    go : VoteOrder a b → rank_of a.leader_id < rank_of b.leader_id
    go (lower l o) = rank_below a.leader_id b.leader_id h l
    go (earlier e f p q o) = differ_flags b.committed q c
    go (level e f p o) = differ_flags (vote_lt a b) t o
    go (later e f p q o) = differ_flags (vote_lt a b) t o
    go (higher l o) = differ_flags (vote_lt a b) t o

-- neither is below the other
pub same_vote : (a b : Vote ℕ) → vote_lt a b ≡ false → vote_lt b a ≡ false → a ≡ b
same_vote a b h k = go (vote_order a b) (vote_order b a)
  where
    go : VoteOrder a b → VoteOrder b a → a ≡ b
    go (lower l o) y = differ_flags (vote_lt a b) o h
    go (earlier e f p q o) y = differ_flags (vote_lt a b) o h
    go (level e f p o) y = ap₂ vote-of (same_leader a.leader_id b.leader_id e f) p
    go x (lower l o) = differ_flags (vote_lt b a) o k
    go x (earlier e f p q o) = differ_flags (vote_lt b a) o k
    go x (level e f p o) = sym (ap₂ vote-of (same_leader b.leader_id a.leader_id e f) p)
    go (later e f p q o) (later e' f' p' q' o') = differ_flags a.committed p q'
    go (later e f p q o) (higher m o') = absurd (let l = not_self m e f in l)
      where
        not_self : LeaderBelow a.leader_id b.leader_id → a.leader_id.term ≡ b.leader_id.term → a.leader_id.node_id ≡ b.leader_id.node_id → ⊥
        not_self (by_term l) x y = omega arith
        not_self (by_node g l) x y = omega arith
    go (higher m o) (later e f p q o') = absurd (let l = not_self m e f in l)
      where
        not_self : LeaderBelow b.leader_id a.leader_id → b.leader_id.term ≡ a.leader_id.term → b.leader_id.node_id ≡ a.leader_id.node_id → ⊥
        not_self (by_term l) x y = omega arith
        not_self (by_node g l) x y = omega arith
    go (higher m o) (higher l o') = absurd (not_both m l)
      where
        not_both : LeaderBelow b.leader_id a.leader_id → LeaderBelow a.leader_id b.leader_id → ⊥
        not_both (by_term l) (by_term m) = omega arith
        not_both (by_term l) (by_node e m) = omega arith
        not_both (by_node e l) (by_term m) = omega arith
        not_both (by_node e l) (by_node f m) = omega arith
