-- Leaders that are equal, and the order of votes.
use Rattle.std.specs.Prelude.{◌≡◌, ℕ, ◌<◌, ◌==◌, nat_lt, Bool, true, false, refl}
use Rattle.std.proofs.Common.{ap₂, ◌∙◌, arith, lt-ltb, le-ltb, eq-eqb, ne_eqb, eqb-true}
use Rattle.std.proofs.lemmas.Bool.{and_parts, cond-true, cond-false}
use Rattle.std.specs.declared.cmp.Ordering.TheVariants.{Less, Equal, Greater}
use Rattle.std.specs.Ordering.{nat_cmp, bool_cmp, ordering_then, is_lt}
use Rattle.raft_values.specs.declared.vote.LeaderId.{LeaderId}
use Rattle.raft_values.specs.declared.vote.Vote.{Vote}
use Rattle.raft_group_step.specs.Values.{leader_eq, vote_lt}

pub less_is : (x y : ℕ) → x < y → nat_cmp x y ≡ Less
less_is x y l = cond-true (nat_lt x y) _ _ (lt-ltb x y l)

pub same_is : (x y : ℕ) → x ≡ y → nat_cmp x y ≡ Equal
same_is x y e = cond-false (nat_lt x y) _ _ (le-ltb x y (omega arith)) ∙ cond-true (x == y) _ _ (eq-eqb x y e)

pub greater_is : (x y : ℕ) → y < x → nat_cmp x y ≡ Greater
greater_is x y l = cond-false (nat_lt x y) _ _ (le-ltb x y (omega arith)) ∙ cond-false (x == y) _ _ (ne_eqb x y (λ e. omega arith))

-- ---- leaders

abbrev leader-of : ℕ → ℕ → LeaderId ℕ
leader-of t n = record { term = t; node_id = n }

pub same_leader : (a b : LeaderId ℕ) → a.term ≡ b.term → a.node_id ≡ b.node_id → a ≡ b
same_leader a b e f = ap₂ leader-of e f

pub leader_eq_same : (a b : LeaderId ℕ) → leader_eq a b ≡ true → a ≡ b
leader_eq_same a b h =
    let p = and_parts (a.term == b.term) (a.node_id == b.node_id) h in
    same_leader a b (eqb-true a.term b.term p.0) (eqb-true a.node_id b.node_id p.1)

-- ---- votes

-- of two votes of one leader, the granted one is the greater
pub of_one_leader : (a b : Vote ℕ) → a.leader_id.term ≡ b.leader_id.term → a.leader_id.node_id ≡ b.leader_id.node_id → vote_lt a b ≡ is_lt (bool_cmp a.committed b.committed)
of_one_leader a b e f =
    ap₂ (λ o p. is_lt (ordering_then (ordering_then o p) (bool_cmp a.committed b.committed))) (same_is a.leader_id.term b.leader_id.term e) (same_is a.leader_id.node_id b.leader_id.node_id f)

pub not_below_itself : (a : Vote ℕ) → vote_lt a a ≡ false
not_below_itself a = of_one_leader a a refl refl ∙ flags a.committed
  where
    flags : (c : Bool) → is_lt (bool_cmp c c) ≡ false
    flags true = refl
    flags false = refl
