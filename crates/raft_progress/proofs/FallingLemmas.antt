-- An entry that moves up past the lesser ones comes to its place.
use Rattle.std.proofs.Common.{◌≡◌, ℕ, zero, suc, ◌<◌, ◌≤◌, ◌-◌, List, [], ◌∷◌, ◌++◌, length, get_or, take, refl, ap, sym, ◌∙◌, subst, arith}
use Rattle.std.specs.Prelude.{Bool, true, false}
use Rattle.std.specs.declared.cmp.Ordering.{Ordering}
use Rattle.std.specs.Ordering.{is_lt, is_le}
use Rattle.std.specs.Cmp.{IsTotalOrder}
use Rattle.std.specs.List.{AllByRecursion, swap}
use Rattle.std.proofs.Math.ListN.{set}
use Rattle.raft_progress.specs.Granted.{IsFalling, IsFallingBut, AllBut}
use Rattle.raft_progress.proofs.OrderLemmas.{le_if_lt, le_if_not_lt, le_le}

-- the list with the element at the index and the next one in each other's place
abbrev pub swap_next : {X : Type 0} → ℕ → List X → List X
swap_next n [] = []
swap_next n (x ∷ []) = x ∷ []
swap_next zero (x ∷ y ∷ xs) = y ∷ x ∷ xs
swap_next (suc n) (x ∷ y ∷ xs) = x ∷ swap_next n (y ∷ xs)

module _ {X : Type 0} where
  sets-swap_next : (xs : List X) (n : ℕ) (d : X) → suc n < length xs → set (set xs n (get_or xs (suc n) d)) (suc n) (get_or xs n d) ≡ swap_next n xs
  sets-swap_next [] n d h = refl
  sets-swap_next (x ∷ []) n d h = absurd (omega arith)
  sets-swap_next (x ∷ y ∷ xs) zero d h = refl
  sets-swap_next (x ∷ y ∷ xs) (suc n) d h = ap (λ l. x ∷ l) (sets-swap_next (y ∷ xs) n d (omega arith))

  pub swap-next : (xs : List X) (i j : ℕ) → j ≡ suc i → j < length xs → swap xs i j ≡ swap_next i xs
  swap-next [] i j e h = refl
  swap-next (x ∷ xs) i j e h =
      ap (λ k. swap (x ∷ xs) i k) e ∙ sets-swap_next (x ∷ xs) i x (omega arith)

  take-swap_next : (k n : ℕ) (xs : List X) → k ≤ n → take k (swap_next n xs) ≡ take k xs
  take-swap_next k n [] h = refl
  take-swap_next k n (x ∷ []) h = refl
  take-swap_next zero zero (x ∷ y ∷ xs) h = refl
  take-swap_next (suc k) zero (x ∷ y ∷ xs) h = absurd (omega arith)
  take-swap_next zero (suc n) (x ∷ y ∷ xs) h = refl
  take-swap_next (suc k) (suc n) (x ∷ y ∷ xs) h = ap (λ l. x ∷ l) (take-swap_next k n (y ∷ xs) (omega arith))

  pub take-swap : (xs : List X) (i j k : ℕ) → j ≡ suc i → j < length xs → k ≤ i → take k (swap xs i j) ≡ take k xs
  take-swap xs i j k e h l = ap (take k) (swap-next xs i j e h) ∙ take-swap_next k i xs l

  at-swap_next : (n : ℕ) (xs : List X) (d : X) → suc n < length xs → get_or (swap_next n xs) n d ≡ get_or xs (suc n) d
  at-swap_next n [] d h = absurd (omega arith)
  at-swap_next n (x ∷ []) d h = absurd (omega arith)
  at-swap_next zero (x ∷ y ∷ xs) d h = refl
  at-swap_next (suc n) (x ∷ y ∷ xs) d h = at-swap_next n (y ∷ xs) d (omega arith)

  pub at-swap : (xs : List X) (i j : ℕ) (d : X) → j ≡ suc i → j < length xs → get_or (swap xs i j) i d ≡ get_or xs j d
  at-swap xs i j d e h =
      ap (λ l. get_or l i d) (swap-next xs i j e h) ∙ at-swap_next i xs d (omega arith) ∙ ap (λ k. get_or xs k d) (sym e)

  -- within the list no default is read
  pub at_any : (xs : List X) (i : ℕ) (d e : X) → i < length xs → get_or xs i d ≡ get_or xs i e
  at_any [] i d e h = absurd (omega arith)
  at_any (x ∷ xs) zero d e h = refl
  at_any (x ∷ xs) (suc i) d e h = at_any xs i d e (omega arith)

module _ {K V P : Type 0} {cmp : P → P → Ordering} (o : IsTotalOrder cmp) (compared : V → P) where
  abbrev at_most : K × V → K × V → Type 0
  at_most y x = is_le (cmp (compared y.1) (compared x.1)) ≡ true

  but_swapped : (Q : K × V → Type 0) (n : ℕ) (xs : List (K × V)) → suc n < length xs → AllBut (suc n) Q xs → AllBut n Q (swap_next n xs)
  but_swapped Q n [] h a = tt
  but_swapped Q n (x ∷ []) h a = absurd (omega arith)
  but_swapped Q zero (x ∷ y ∷ xs) h a = a
  but_swapped Q (suc n) (x ∷ y ∷ xs) h a = (a.0, but_swapped Q n (y ∷ xs) (omega arith) a.1)

  falling_swapped : (n : ℕ) (xs : List (K × V)) (d : K × V) → suc n < length xs → is_lt (cmp (compared (get_or xs n d).1) (compared (get_or xs (suc n) d).1)) ≡ true → IsFallingBut cmp compared (suc n) xs → IsFallingBut cmp compared n (swap_next n xs)
  falling_swapped n [] d h l f = tt
  falling_swapped n (x ∷ []) d h l f = absurd (omega arith)
  falling_swapped zero (x ∷ y ∷ xs) d h l f =
      ((le_if_lt o (compared x.1) (compared y.1) l, f.1.0), (f.0, f.1.1))
  falling_swapped (suc n) (x ∷ y ∷ xs) d h l f =
      (but_swapped (λ z. at_most z x) n (y ∷ xs) (omega arith) f.0, falling_swapped n (y ∷ xs) d (omega arith) l f.1)

  -- an entry above the one before it changes places with it
  pub falling_but_swap : (xs : List (K × V)) (i j : ℕ) (d : K × V) → j ≡ suc i → j < length xs → is_lt (cmp (compared (get_or xs i d).1) (compared (get_or xs j d).1)) ≡ true → IsFallingBut cmp compared j xs → IsFallingBut cmp compared i (swap xs i j)
  falling_but_swap xs i j d e h l f =
      subst (IsFallingBut cmp compared i) (sym (swap-next xs i j e h))
      (falling_swapped i xs d (omega arith) (subst (λ k. is_lt (cmp (compared (get_or xs i d).1) (compared (get_or xs k d).1)) ≡ true) e l)
      (subst (λ k. IsFallingBut cmp compared k xs) e f))

  pub falling_first : (xs : List (K × V)) → IsFallingBut cmp compared zero xs → IsFalling cmp compared xs
  falling_first [] f = tt
  falling_first (x ∷ xs) f = f

  -- what all but one are at most, and that one is at most one of the others before it
  but_all : (x : K × V) (n : ℕ) (xs : List (K × V)) (d : K × V) → suc n < length xs → at_most (get_or xs (suc n) d) (get_or xs n d) → AllBut (suc n) (λ y. at_most y x) xs → AllByRecursion (λ y. at_most y x) xs
  but_all x n [] d h l a = tt
  but_all x n (y ∷ []) d h l a = absurd (omega arith)
  but_all x zero (y ∷ z ∷ xs) d h l a = (a.0, (le_le o (compared z.1) (compared y.1) (compared x.1) l a.0, a.1))
  but_all x (suc n) (y ∷ z ∷ xs) d h l a = (a.0, but_all x n (z ∷ xs) d (omega arith) l a.1)

  falling_stop : (n : ℕ) (xs : List (K × V)) (d : K × V) → suc n < length xs → at_most (get_or xs (suc n) d) (get_or xs n d) → IsFallingBut cmp compared (suc n) xs → IsFalling cmp compared xs
  falling_stop n [] d h l f = tt
  falling_stop n (x ∷ []) d h l f = absurd (omega arith)
  falling_stop zero (x ∷ y ∷ xs) d h l f = ((l, f.0), f.1)
  falling_stop (suc n) (x ∷ y ∷ xs) d h l f =
      (but_all x n (y ∷ xs) d (omega arith) l f.0, falling_stop n (y ∷ xs) d (omega arith) l f.1)

  -- an entry that isn't above the one before it is in its place
  pub falling_at_rest : (xs : List (K × V)) (i j : ℕ) (d : K × V) → j ≡ suc i → j < length xs → is_lt (cmp (compared (get_or xs i d).1) (compared (get_or xs j d).1)) ≡ false → IsFallingBut cmp compared j xs → IsFalling cmp compared xs
  falling_at_rest xs i j d e h l f =
      falling_stop i xs d (omega arith)
      (subst (λ k. at_most (get_or xs k d) (get_or xs i d)) e (le_if_not_lt o (compared (get_or xs i d).1) (compared (get_or xs j d).1) l))
      (subst (λ k. IsFallingBut cmp compared k xs) e f)

  -- the same two, of the answer of a test
  pub step_up : (r : Bool) (xs : List (K × V)) (i j : ℕ) → 0 < j → i ≡ j - 1 → j < length xs → ((d : K × V) → r ≡ is_lt (cmp (compared (get_or xs i d).1) (compared (get_or xs j d).1))) → r ≡ true → IsFallingBut cmp compared j xs → IsFallingBut cmp compared i (swap xs i j)
  step_up r [] i j p e h t q f = tt
  step_up r (x ∷ xs) i j p e h t q f =
      falling_but_swap (x ∷ xs) i j x (omega arith) h (sym (t x) ∙ q) f

  pub step_rests : (r : Bool) (xs : List (K × V)) (i j : ℕ) → 0 < j → i ≡ j - 1 → j < length xs → ((d : K × V) → r ≡ is_lt (cmp (compared (get_or xs i d).1) (compared (get_or xs j d).1))) → r ≡ false → IsFallingBut cmp compared j xs → IsFalling cmp compared xs
  step_rests r [] i j p e h t q f = tt
  step_rests r (x ∷ xs) i j p e h t q f =
      falling_at_rest (x ∷ xs) i j x (omega arith) h (sym (t x) ∙ q) f

  every_weaker : (Q R : K × V → Type 0) → ((x : K × V) → Q x → R x) → (xs : List (K × V)) → AllByRecursion Q xs → AllByRecursion R xs
  every_weaker Q R w [] h = tt
  every_weaker Q R w (x ∷ xs) h = (w x h.0, every_weaker Q R w xs h.1)

  every_but_set : (Q : K × V → Type 0) (xs : List (K × V)) (i : ℕ) (y : K × V) → AllByRecursion Q xs → AllBut i Q (set xs i y)
  every_but_set Q [] i y h = tt
  every_but_set Q (x ∷ xs) zero y h = h.1
  every_but_set Q (x ∷ xs) (suc i) y h = (h.0, every_but_set Q xs i y h.1)

  -- a greater value in the place of one leaves the others falling
  pub falling_but_set : (xs : List (K × V)) (i : ℕ) (y d : K × V) → i < length xs → at_most (get_or xs i d) y → IsFalling cmp compared xs → IsFallingBut cmp compared i (set xs i y)
  falling_but_set [] i y d h l f = tt
  falling_but_set (x ∷ xs) zero y d h l f =
      (every_weaker (λ z. at_most z x) (λ z. at_most z y) (λ z k. le_le o (compared z.1) (compared x.1) (compared y.1) k l) xs f.0, f.1)
  falling_but_set (x ∷ xs) (suc i) y d h l f =
      (every_but_set (λ z. at_most z x) xs i y f.0, falling_but_set xs i y d (omega arith) l f.1)

  but_pushed : (Q : K × V → Type 0) (xs : List (K × V)) (y : K × V) → AllByRecursion Q xs → AllBut (length xs) Q (xs ++ y ∷ [])
  but_pushed Q [] y h = tt
  but_pushed Q (x ∷ xs) y h = (h.0, but_pushed Q xs y h.1)

  -- an entry behind falling ones leaves the others falling
  pub falling_pushed : (xs : List (K × V)) (y : K × V) → IsFalling cmp compared xs → IsFallingBut cmp compared (length xs) (xs ++ y ∷ [])
  falling_pushed [] y f = (tt, tt)
  falling_pushed (x ∷ xs) y f = (but_pushed (λ z. at_most z x) xs y f.0, falling_pushed xs y f.1)
