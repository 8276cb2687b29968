-- Laws of quorums.
use Rattle.std.specs.Prelude.{◌≡◌, ℕ, suc, ◌+◌, ◌<◌, ◌≤◌, Bool, true, false, ◌&&◌, ◌||◌, List, [], ◌∷◌, length, count_by, refl, cond}
use Rattle.std.specs.List.{list_all, list_any}
use Rattle.std.proofs.Common.{arith, sym}
use Rattle.std.proofs.lemmas.Grind.{common_steps}
use Rattle.std.proofs.Math.Bool.{true≢false}
use Rattle.raft_quorums.specs.Nodes.{has_id}
use borrow.Author.Tests.{ltb-true, lt-ltb}
use Rattle.raft_quorums.specs.Quorum.{is_majority, is_quorum}

-- whoever passes the first test passes the second
abbrev pub IsWithin : {K : Type 0} → (K → Bool) → (K → Bool) → Type 0
IsWithin {K} p r = (x : K) → p x ≡ true → r x ≡ true

-- someone of the group passes both tests
abbrev pub share_a_member : {K : Type 0} → (K → Bool) → (K → Bool) → List K → Bool
share_a_member p r group = list_any (λ x. p x && r x) group

one_counted : (a b : Bool) (m n : ℕ) → (a ≡ true → b ≡ true) → m ≤ n → cond a 1 0 + m ≤ cond b 1 0 + n
one_counted true true m n f h = omega arith
one_counted true false m n f h = cc (f refl)
one_counted false true m n f h = omega arith
one_counted false false m n f h = omega arith

one_shared : (a b c : Bool) (l m n : ℕ) → (l < m + n → c ≡ true) → suc l < (cond a 1 0 + m) + (cond b 1 0 + n) → ((a && b) || c) ≡ true
one_shared true true c l m n f h = refl
one_shared true false c l m n f h = f (omega arith)
one_shared false true c l m n f h = f (omega arith)
one_shared false false c l m n f h = f (omega arith)

pub count_more : {K : Type 0} (p : K → Bool) (x : K) (xs : List K) → count_by p (x ∷ xs) ≡ cond (p x) 1 0 + count_by p xs
count_more p x xs = grind (arith, common_steps)

both_hold : (a b c d : Bool) → (a ≡ true → c ≡ true) → (b ≡ true → d ≡ true) → (a && b) ≡ true → (c && d) ≡ true
both_hold true true c d f g h = cc (f refl, g refl)
both_hold true false c d f g h = cc h
both_hold false b c d f g h = cc h

pub or_right : (a b : Bool) → b ≡ true → (a || b) ≡ true
or_right true b h = refl
or_right false b h = h

pub or_left : (a b : Bool) → a ≡ true → (a || b) ≡ true
or_left true b h = refl
or_left false b h = absurd (true≢false (sym h))

pub and_left : (a b : Bool) → (a && b) ≡ true → a ≡ true
and_left true b h = refl
and_left false b h = absurd (true≢false (sym h))

pub and_right : (a b : Bool) → (a && b) ≡ true → b ≡ true
and_right true b h = h
and_right false b h = absurd (true≢false (sym h))

module _ {K : Type 0} (p r : K → Bool) where
  pub count_within : IsWithin p r → (group : List K) → count_by p group ≤ count_by r group
  count_within wider [] = omega arith
  count_within wider (x ∷ xs) = rw (count_more p x xs, count_more r x xs) (one_counted (p x) (r x) (count_by p xs) (count_by r xs) (wider x) (count_within wider xs))

  -- those who pass one test and those who pass another are more than all, so someone passes both
  pub some_pass_both : (group : List K) → length group < count_by p group + count_by r group → share_a_member p r group ≡ true
  some_pass_both [] h = absurd (omega arith)
  some_pass_both (x ∷ xs) h =
      one_shared (p x) (r x) (share_a_member p r xs) (length xs) (count_by p xs) (count_by r xs) (some_pass_both xs) (rw (count_more p x xs, count_more r x xs) at h)

  -- a wider set than a majority is a majority
  pub wider_majority : IsWithin p r → (group : List K) → is_majority p group ≡ true → is_majority r group ≡ true
  wider_majority wider group h = lt-ltb _ _ (omega (arith, ltb-true _ _ h, count_within wider group))

  -- two majorities of a group share a member
  pub majorities_share : (group : List K) → is_majority p group ≡ true → is_majority r group ≡ true → share_a_member p r group ≡ true
  majorities_share group h k = some_pass_both group (omega (arith, ltb-true _ _ h, ltb-true _ _ k))

  -- a wider set than a quorum is a quorum
  pub wider_quorum : IsWithin p r → (configs : List (List K)) → is_quorum configs p ≡ true → is_quorum configs r ≡ true
  wider_quorum wider [] h = refl
  wider_quorum wider (x ∷ xs) h =
      both_hold (is_majority p x) (is_quorum xs p) (is_majority r x) (is_quorum xs r) (wider_majority wider x) (wider_quorum wider xs) h

-- a joint of sets whose wider sets are quorums is one too
pub wider_joint : {K Q : Type 0} (accepts : Q → (K → Bool) → Bool) (p r : K → Bool) → ((q : Q) → accepts q p ≡ true
    → accepts q r ≡ true) → (sets : List Q) → list_all (λ q. accepts q p) sets ≡ true → list_all (λ q. accepts q r) sets ≡ true
wider_joint accepts p r wider [] h = refl
wider_joint accepts p r wider (x ∷ xs) h =
    both_hold (accepts x p) (list_all (λ q. accepts q p) xs) (accepts x r) (list_all (λ q. accepts q r) xs) (wider x) (wider_joint accepts p r wider xs) h

module _ {K : Type 0} (eq : K → K → Bool) (same : (x : K) → eq x x ≡ true) (p r : K → Bool) where
  has_more : (x y : K) (ys : List K) → has_id eq ys x ≡ true → has_id eq (y ∷ ys) x ≡ true
  has_more x y ys h = or_right (eq y x) (has_id eq ys x) h

  -- who passes both tests, and is of the group
  pub one_of_both : (group : List K) → share_a_member p r group ≡ true → (x : K) × (has_id eq group x ≡ true) × (p x ≡ true) × (r x ≡ true)
  one_of_both [] h = absurd (true≢false (sym h))
  one_of_both (x ∷ xs) h =
      elim (p x && r x) as (λ b. (p x && r x) ≡ b → (b || share_a_member p r xs) ≡ true → (y : K) × (has_id eq (x ∷ xs) y ≡ true) × (p y ≡ true) × (r y ≡ true)) [
        | true ↦ λ e _. (x, or_left (eq x x) (has_id eq xs x) (same x), and_left (p x) (r x) e, and_right (p x) (r x) e)
        | false ↦ λ _ k. let w = one_of_both xs k in (w.0, has_more w.0 x xs w.1, w.2, w.3)
      ] refl h
