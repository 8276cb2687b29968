-- The order of votes, in the words of numbers.
use Rattle.std.specs.Prelude.{◌≡◌, ℕ, ◌<◌, Bool, true, false, refl}
use Rattle.std.proofs.Common.{sym, ap, ap₂, ◌∙◌, ⊎_elim, arith}
use Rattle.std.proofs.lemmas.Bool.{cases_order}
use Rattle.std.specs.declared.cmp.Ordering.{Ordering}
use Rattle.std.specs.declared.cmp.Ordering.TheVariants.{Less, Equal, Greater}
use Rattle.std.specs.Ordering.{nat_cmp, bool_cmp, ordering_then, is_lt}
use Rattle.raft_values.specs.declared.vote.LeaderId.{LeaderId}
use Rattle.raft_values.specs.declared.vote.Vote.{Vote}
use Rattle.raft_values.specs.Vote.{leader_cmp}
use Rattle.raft_group_step.specs.Values.{vote_lt}
use Rattle.raft_group_step.proofs.Votes.{greater_is, less_is, same_is}

-- the first leader comes before the second
pub data LeaderBelow (a b : LeaderId ℕ) : Type 0 where
  by_term : a.term < b.term → LeaderBelow a b
  by_node : a.term ≡ b.term → a.node_id < b.node_id → LeaderBelow a b

-- they are in this order
pub data LeaderOrder (a b : LeaderId ℕ) : Type 0 where
  below : LeaderBelow a b → leader_cmp nat_cmp a b ≡ Less → LeaderOrder a b
  equal : a.term ≡ b.term → a.node_id ≡ b.node_id → leader_cmp nat_cmp a b ≡ Equal → LeaderOrder a b
  above : LeaderBelow b a → leader_cmp nat_cmp a b ≡ Greater → LeaderOrder a b

pub leader_order : (a b : LeaderId ℕ) → LeaderOrder a b
leader_order a b =
    ⊎_elim
    (λ e. ⊎_elim
    (λ f. equal e f (ap₂ ordering_then (same_is a.term b.term e) (same_is a.node_id b.node_id f)))
    (⊎_elim
    (λ l. below (by_node e l) (ap₂ ordering_then (same_is a.term b.term e) (less_is a.node_id b.node_id l)))
    (λ l. above (by_node (sym e) l) (ap₂ ordering_then (same_is a.term b.term e) (greater_is a.node_id b.node_id l))))
    (cases_order a.node_id b.node_id))
    (⊎_elim
    (λ l. below (by_term l) (ap (λ o. ordering_then o (nat_cmp a.node_id b.node_id)) (less_is a.term b.term l)))
    (λ l. above (by_term l) (ap (λ o. ordering_then o (nat_cmp a.node_id b.node_id)) (greater_is a.term b.term l))))
    (cases_order a.term b.term)

pub not_both_below : (a b : LeaderId ℕ) → LeaderBelow a b → LeaderBelow b a → ⊥
not_both_below a b (by_term l) (by_term m) = omega arith
not_both_below a b (by_term l) (by_node e m) = omega arith
not_both_below a b (by_node e l) (by_term m) = omega arith
not_both_below a b (by_node e l) (by_node f m) = omega arith

below_differ : (a b : LeaderId ℕ) → LeaderBelow a b → a.term ≡ b.term → a.node_id ≡ b.node_id → ⊥
below_differ a b (by_term l) e f = omega arith
below_differ a b (by_node g l) e f = omega arith

-- of a vote and the test whether it is below another: what that says
pub data VoteOrder (a b : Vote ℕ) : Type 0 where
  lower : LeaderBelow a.leader_id b.leader_id → vote_lt a b ≡ true → VoteOrder a b
  earlier : a.leader_id.term ≡ b.leader_id.term → a.leader_id.node_id ≡ b.leader_id.node_id → a.committed ≡ false → b.committed ≡ true → vote_lt a b ≡ true → VoteOrder a b
  level : a.leader_id.term ≡ b.leader_id.term → a.leader_id.node_id ≡ b.leader_id.node_id → a.committed ≡ b.committed → vote_lt a b ≡ false → VoteOrder a b
  later : a.leader_id.term ≡ b.leader_id.term → a.leader_id.node_id ≡ b.leader_id.node_id → a.committed ≡ true → b.committed ≡ false → vote_lt a b ≡ false → VoteOrder a b
  higher : LeaderBelow b.leader_id a.leader_id → vote_lt a b ≡ false → VoteOrder a b

abbrev then_flags : Ordering → Bool → Bool → Bool
then_flags o c d = is_lt (ordering_then o (bool_cmp c d))

by_flags : (a b : Vote ℕ) → a.leader_id.term ≡ b.leader_id.term → a.leader_id.node_id ≡ b.leader_id.node_id → leader_cmp nat_cmp a.leader_id b.leader_id ≡ Equal → (c d : Bool) → a.committed ≡ c → b.committed ≡ d → VoteOrder a b
by_flags a b e f o false false p q = level e f (p ∙ sym q) (ap (λ x. then_flags x a.committed b.committed) o ∙ ap₂ (then_flags Equal) p q)
by_flags a b e f o false true p q = earlier e f p q (ap (λ x. then_flags x a.committed b.committed) o ∙ ap₂ (then_flags Equal) p q)
by_flags a b e f o true false p q = later e f p q (ap (λ x. then_flags x a.committed b.committed) o ∙ ap₂ (then_flags Equal) p q)
by_flags a b e f o true true p q = level e f (p ∙ sym q) (ap (λ x. then_flags x a.committed b.committed) o ∙ ap₂ (then_flags Equal) p q)

pub vote_order : (a b : Vote ℕ) → VoteOrder a b
vote_order a b = go (leader_order a.leader_id b.leader_id)
  where
    go : LeaderOrder a.leader_id b.leader_id → VoteOrder a b
    go (below l o) = lower l (ap (λ x. then_flags x a.committed b.committed) o)
    go (equal e f o) = by_flags a b e f o a.committed b.committed refl refl
    go (above l o) = higher l (ap (λ x. then_flags x a.committed b.committed) o)

pub differ_flags : {P : Type 0} (x : Bool) → x ≡ true → x ≡ false → P
differ_flags x t f = absurd (let e : true ≡ false = sym t ∙ f in cc)

-- a vote that is above isn't below
pub not_below : (a b : Vote ℕ) → vote_lt a b ≡ true → vote_lt b a ≡ false
not_below a b h = go (vote_order a b) (vote_order b a)
  where
    go : VoteOrder a b → VoteOrder b a → vote_lt b a ≡ false
    go x (level e f p o) = o
    go x (later e f p q o) = o
    go x (higher l o) = o
    go (level e f p o) y = differ_flags (vote_lt a b) h o
    go (later e f p q o) y = differ_flags (vote_lt a b) h o
    go (higher l o) y = differ_flags (vote_lt a b) h o
    go (lower l o) (lower m q) = absurd (not_both_below a.leader_id b.leader_id l m)
    go (lower l o) (earlier e f p q r) = absurd (below_differ a.leader_id b.leader_id l (sym e) (sym f))
    go (earlier e f p q o) (lower m r) = absurd (below_differ b.leader_id a.leader_id m (sym e) (sym f))
    go (earlier e f p q o) (earlier e' f' p' q' o') = differ_flags b.committed q p'

-- of a leader in a later term
pub later_term_not_below : (a b : Vote ℕ) → b.leader_id.term < a.leader_id.term → vote_lt a b ≡ false
later_term_not_below a b l = go (vote_order a b)
  where
    go : VoteOrder a b → vote_lt a b ≡ false
    go (lower (by_term m) o) = absurd (omega arith)
    go (lower (by_node e m) o) = absurd (omega arith)
    go (earlier e f p q o) = absurd (omega arith)
    go (level e f p o) = o
    go (later e f p q o) = o
    go (higher m o) = o

-- of the same leader, and committed
pub committed_not_below : (a b : Vote ℕ) → a.leader_id ≡ b.leader_id → a.committed ≡ true → vote_lt a b ≡ false
committed_not_below a b same c = go (vote_order a b)
  where
    go : VoteOrder a b → vote_lt a b ≡ false
    go (lower m o) = absurd (below_differ a.leader_id b.leader_id m (ap (λ x. x.term) same) (ap (λ x. x.node_id) same))
    go (earlier e f p q o) = differ_flags a.committed c p
    go (level e f p o) = o
    go (later e f p q o) = o
    go (higher m o) = o
