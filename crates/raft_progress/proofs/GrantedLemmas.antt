-- What a quorum has reached, as values rise.
use Rattle.std.proofs.Common.{◌≡◌, ℕ, zero, suc, ◌<◌, ◌≤◌, List, [], ◌∷◌, length, get_or, take, map, refl, ap, sym, ◌∙◌, subst, inl, inr, arith}
use Rattle.std.specs.Prelude.{Bool, true, false, ◌&&◌, ◌||◌, ◌⊎◌, filter, cond}
use Rattle.std.specs.declared.cmp.Ordering.{Ordering}
use Rattle.std.specs.Ordering.{is_lt, is_le, is_eq}
use Rattle.std.specs.Cmp.{IsTotalOrder}
use Rattle.std.specs.List.{AllByRecursion, list_any, list_all}
use Rattle.std.specs.List.Sorted.{IsPermutation}
use Rattle.std.proofs.lemmas.List.Sorted.{list_any-IsPermutation, IsPermutation-sym}
use Rattle.std.proofs.Math.ListN.{set}
use Rattle.std.proofs.lemmas.List.{get_or-set_same, take-set-le}
use Rattle.std.proofs.lemmas.Bool.{and_from, both_ways}
use Rattle.raft_quorums.specs.Nodes.{has_node}
use Rattle.raft_quorums.specs.QuorumLaws.{IsWithin, and_left, and_right, or_left, or_right}
use Rattle.raft_progress.specs.Granted.{IsFalling, value_of, has_reached, reached_values, IsGranted}
use Rattle.raft_progress.proofs.FallingLemmas.{at_any}
use Rattle.raft_progress.proofs.OrderLemmas.{bool_cases, le_if_not_lt, lt_if_not_le, not_lt_if_le, le_if_lt, le_if_eq, eq_if_both, eq_back, le_self, eq_self, lt_le, le_lt, le_le}

or_cases : {G : Type 0} (a b : Bool) → (a || b) ≡ true → (a ≡ true → G) → (b ≡ true → G) → G
or_cases true b h f g = f refl
or_cases false b h f g = g h

false_unless : (a : Bool) → (a ≡ true → false ≡ true) → a ≡ false
false_unless true f = sym (f refl)
false_unless false f = refl

module _ {X : Type 0} where
  every_any : (Q : X → Type 0) → ((x : X) → Q x) → (xs : List X) → AllByRecursion Q xs
  every_any Q q [] = tt
  every_any Q q (x ∷ xs) = (q x, every_any Q q xs)

  pub every_at : (Q : X → Type 0) (xs : List X) (i : ℕ) (d : X) → i < length xs → AllByRecursion Q xs → Q (get_or xs i d)
  every_at Q [] i d h e = absurd (omega arith)
  every_at Q (x ∷ xs) zero d h e = e.0
  every_at Q (x ∷ xs) (suc i) d h e = every_at Q xs i d (omega arith) e.1

  any_along : (p r : X → Bool) (xs : List X) → AllByRecursion (λ x. p x ≡ true → r x ≡ true) xs → list_any p xs ≡ true → list_any r xs ≡ true
  any_along p r [] e h = h
  any_along p r (x ∷ xs) e h =
      or_cases (p x) (list_any p xs) h (λ k. or_left (r x) (list_any r xs) (e.0 k)) (λ k. or_right (r x) (list_any r xs) (any_along p r xs e.1 k))

  any_wider : (p r : X → Bool) (xs : List X) → ((x : X) → p x ≡ true → r x ≡ true) → list_any p xs ≡ true → list_any r xs ≡ true
  any_wider p r xs w h = any_along p r xs (every_any (λ x. p x ≡ true → r x ≡ true) w xs) h

  any_take : (p : X → Bool) (n : ℕ) (xs : List X) → list_any p (take n xs) ≡ true → list_any p xs ≡ true
  any_take p zero xs h = cc h
  any_take p (suc n) [] h = h
  any_take p (suc n) (x ∷ xs) h =
      or_cases (p x) (list_any p (take n xs)) h (or_left (p x) (list_any p xs)) (λ k. or_right (p x) (list_any p xs) (any_take p n xs k))

  any_set : (p : X → Bool) (xs : List X) (i : ℕ) (y d : X) → p y ≡ p (get_or xs i d) → list_any p (set xs i y) ≡ list_any p xs
  any_set p [] i y d e = refl
  any_set p (x ∷ xs) zero y d e = ap (λ b. b || list_any p xs) e
  any_set p (x ∷ xs) (suc i) y d e = ap (λ b. p x || b) (any_set p xs i y d e)

  any_set_more : (p : X → Bool) (xs : List X) (i : ℕ) (y d : X) → (p (get_or xs i d) ≡ true → p y ≡ true) → list_any p xs ≡ true → list_any p (set xs i y) ≡ true
  any_set_more p [] i y d e h = h
  any_set_more p (x ∷ xs) zero y d e h =
      or_cases (p x) (list_any p xs) h (λ k. or_left (p y) (list_any p xs) (e k)) (or_right (p y) (list_any p xs))
  any_set_more p (x ∷ xs) (suc i) y d e h =
      or_cases (p x) (list_any p xs) h (or_left (p x) (list_any p (set xs i y))) (λ k. or_right (p x) (list_any p (set xs i y)) (any_set_more p xs i y d e k))

  any_at : (p : X → Bool) (xs : List X) (i : ℕ) (d : X) → i < length xs → p (get_or xs i d) ≡ true → list_any p xs ≡ true
  any_at p [] i d h e = absurd (omega arith)
  any_at p (x ∷ xs) zero d h e = or_left (p x) (list_any p xs) e
  any_at p (x ∷ xs) (suc i) d h e = or_right (p x) (list_any p xs) (any_at p xs i d (omega arith) e)

  none_at_all : (p : X → Bool) (xs : List X) → list_any p xs ≡ false → AllByRecursion (λ x. p x ≡ false) xs
  none_at_all p [] h = tt
  none_at_all p (x ∷ xs) h =
      (false_unless (p x) (λ k. sym h ∙ or_left (p x) (list_any p xs) k), none_at_all p xs (false_unless (list_any p xs) (λ k. sym h ∙ or_right (p x) (list_any p xs) k)))

  -- what passes a test that is filtered by one and asked by another
  all_filtered : {P : Type 0} (q t : P → Bool) (f : X → P) (xs : List X) → AllByRecursion (λ x. q (f x) ≡ true → t (f x) ≡ true) xs → list_all t (filter q (map f xs)) ≡ true
  all_filtered q t f [] e = refl
  all_filtered q t f (x ∷ xs) e =
      elim (q (f x)) as (λ b. (b ≡ true → t (f x) ≡ true) → list_all t (cond b (f x ∷ filter q (map f xs)) (filter q (map f xs))) ≡ true) [
        | true ↦ λ k. and_from (t (f x)) (list_all t (filter q (map f xs))) (k refl) (all_filtered q t f xs e.1)
        | false ↦ λ k. all_filtered q t f xs e.1
      ] e.0

  filtered_all : {P : Type 0} (q t : P → Bool) (f : X → P) (xs : List X) → list_all t (filter q (map f xs)) ≡ true → AllByRecursion (λ x. q (f x) ≡ true → t (f x) ≡ true) xs
  filtered_all q t f [] h = tt
  filtered_all q t f (x ∷ xs) h =
      elim (q (f x)) as (λ b. list_all t (cond b (f x ∷ filter q (map f xs)) (filter q (map f xs))) ≡ true → (b ≡ true → t (f x) ≡ true) × AllByRecursion (λ x. q (f x) ≡ true → t (f x) ≡ true) xs) [
        | true ↦ λ k. (λ _. and_left (t (f x)) (list_all t (filter q (map f xs))) k, filtered_all q t f xs (and_right (t (f x)) (list_all t (filter q (map f xs))) k))
        | false ↦ λ k. (λ e. cc e, filtered_all q t f xs k)
      ] h

  any_filtered : {P : Type 0} (q t : P → Bool) (f : X → P) (xs : List X) → list_any t (filter q (map f xs)) ≡ list_any (λ x. q (f x) && t (f x)) xs
  any_filtered q t f [] = refl
  any_filtered q t f (x ∷ xs) =
      elim (q (f x)) as (λ b. list_any t (cond b (f x ∷ filter q (map f xs)) (filter q (map f xs))) ≡ ((b && t (f x)) || list_any (λ x. q (f x) && t (f x)) xs)) [
        | true ↦ ap (λ b. t (f x) || b) (any_filtered q t f xs)
        | false ↦ any_filtered q t f xs
      ]

  any_gives : {G : Type 0} (p : X → Bool) (xs : List X) → list_any p xs ≡ true → ((x : X) → p x ≡ true → G) → G
  any_gives p [] h f = cc h
  any_gives p (x ∷ xs) h f = or_cases (p x) (list_any p xs) h (f x) (λ k. any_gives p xs k f)

module _ {K V P : Type 0} (eq : K → K → Bool) {cmp : P → P → Ordering} (o : IsTotalOrder cmp) (compared : V → P) where
  abbrev val : K × V → P
  val x = compared x.1

  -- some of the values are above g
  abbrev pub some_above : List (K × V) → P → Bool
  some_above xs g = list_any (λ (x : K × V). is_lt (cmp g (compared x.1))) xs

  abbrev pub some_equal : List (K × V) → P → Bool
  some_equal xs g = list_any (λ (x : K × V). is_eq (cmp (compared x.1) g)) xs

  -- the id is of one whose value is above g
  abbrev pub has_above : List (K × V) → P → K → Bool
  has_above xs g id = list_any (λ (x : K × V). eq x.0 id && is_lt (cmp g (compared x.1))) xs

  -- the search ends at n: who stands there is not above g
  abbrev pub RestsAt : List (K × V) → P → ℕ → Type 0
  RestsAt xs g n = (d : K × V) → n < length xs → is_lt (cmp g (compared (get_or xs n d).1)) ≡ false

  above_is_some : (xs : List (K × V)) (g : P) (id : K) → has_above xs g id ≡ true → some_above xs g ≡ true
  above_is_some xs g id h =
      any_wider (λ (x : K × V). eq x.0 id && is_lt (cmp g (compared x.1))) (λ (x : K × V). is_lt (cmp g (compared x.1))) xs (λ x. and_right (eq x.0 id) (is_lt (cmp g (compared x.1)))) h

  none_above : (x : K × V) (xs : List (K × V)) (g : P) → IsFalling cmp compared (x ∷ xs) → is_lt (cmp g (val x)) ≡ false → some_above (x ∷ xs) g ≡ false
  none_above x xs g f h =
      false_unless (some_above (x ∷ xs) g) (λ k. or_cases (is_lt (cmp g (val x))) (some_above xs g) k (λ e. sym h ∙ e)
      (λ e. sym h ∙ any_along_gives g x xs f.0 e))
    where
      any_along_gives : (g : P) (x : K × V) (xs : List (K × V)) → AllByRecursion (λ y. is_le (cmp (compared y.1) (compared x.1)) ≡ true) xs → some_above xs g ≡ true → is_lt (cmp g (val x)) ≡ true
      any_along_gives g x [] e h = cc h
      any_along_gives g x (y ∷ ys) e h =
          or_cases (is_lt (cmp g (val y))) (some_above ys g) h (λ k. lt_le o g (val y) (val x) k e.0) (any_along_gives g x ys e.1)

  all_fall : (x : K × V) (xs : List (K × V)) (i : ℕ) (d : K × V) → i < length xs → IsFalling cmp compared (x ∷ xs) → is_le (cmp (val (get_or xs i d)) (val x)) ≡ true
  all_fall x xs i d h f = every_at (λ (y : K × V). is_le (cmp (compared y.1) (compared x.1)) ≡ true) xs i d h f.0

  rests_next : (x : K × V) (xs : List (K × V)) (g : P) (n : ℕ) → RestsAt (x ∷ xs) g (suc n) → RestsAt xs g n
  rests_next x xs g n r d h = r d (omega arith)

  -- who is above g stands before the place where the search ends
  above_in_front : (xs : List (K × V)) (g : P) (n : ℕ) → IsFalling cmp compared xs → RestsAt xs g n → IsWithin (has_above xs g) (has_node eq (take n xs))
  above_in_front [] g n f r id h = cc h
  above_in_front (x ∷ xs) g zero f r id h =
      absurd (both_ways (some_above (x ∷ xs) g) (none_above x xs g f (r x (omega arith))) (above_is_some (x ∷ xs) g id h))
  above_in_front (x ∷ xs) g (suc n) f r id h =
      or_cases (eq x.0 id && is_lt (cmp g (val x))) (has_above xs g id) h
      (λ k. or_left (eq x.0 id) (has_node eq (take n xs) id) (and_left (eq x.0 id) (is_lt (cmp g (val x))) k))
      (λ k. or_right (eq x.0 id) (has_node eq (take n xs) id) (above_in_front xs g n f.1 (rests_next x xs g n r) id k))

  none_where_it_rests : (xs : List (K × V)) (g : P) → IsFalling cmp compared xs → RestsAt xs g 0 → some_above xs g ≡ false
  none_where_it_rests [] g f r = refl
  none_where_it_rests (x ∷ xs) g f r = none_above x xs g f (r x (omega arith))

  -- who stands before a place has reached the value at the place
  front_has_reached : (xs : List (K × V)) (i : ℕ) (d : K × V) → i < length xs → IsFalling cmp compared xs → IsWithin (has_node eq (take (suc i) xs)) (has_reached eq cmp compared xs (val (get_or xs i d)))
  front_has_reached [] i d h f id k = absurd (omega arith)
  front_has_reached (x ∷ xs) zero d h f id k =
      or_cases (eq x.0 id) false k
      (λ e. or_left (eq x.0 id && is_le (cmp (val x) (val x))) (has_reached eq cmp compared xs (val x) id) (and_from (eq x.0 id) (is_le (cmp (val x) (val x))) e (le_self o (val x))))
      (λ e. cc e)
  front_has_reached (x ∷ xs) (suc i) d h f id k =
      or_cases (eq x.0 id) (has_node eq (take (suc i) xs) id) k
      (λ e. or_left (eq x.0 id && is_le (cmp (val (get_or xs i d)) (val x))) (has_reached eq cmp compared xs (val (get_or xs i d)) id)
      (and_from (eq x.0 id) (is_le (cmp (val (get_or xs i d)) (val x))) e (all_fall x xs i d (omega arith) f)))
      (λ e. or_right (eq x.0 id && is_le (cmp (val (get_or xs i d)) (val x))) (has_reached eq cmp compared xs (val (get_or xs i d)) id)
      (front_has_reached xs i d (omega arith) f.1 id e))

  -- all before a value above g are above g
  front_above : (xs : List (K × V)) (g : P) (n : ℕ) (d : K × V) → n < length xs → IsFalling cmp compared xs → is_lt (cmp g (val (get_or xs n d))) ≡ true → AllByRecursion (λ (x : K × V). is_lt (cmp g (val x)) ≡ true) (take n xs)
  front_above xs g zero d h f l = tt
  front_above [] g (suc n) d h f l = tt
  front_above (x ∷ xs) g (suc n) d h f l =
      (lt_le o g (val (get_or xs n d)) (val x) l (all_fall x xs n d (omega arith) f), front_above xs g n d (omega arith) f.1 l)

  all_above_within : (xs : List (K × V)) (g : P) → AllByRecursion (λ (x : K × V). is_lt (cmp g (val x)) ≡ true) xs → IsWithin (has_node eq xs) (has_above xs g)
  all_above_within [] g e id h = h
  all_above_within (x ∷ xs) g e id h =
      or_cases (eq x.0 id) (has_node eq xs id) h
      (λ k. or_left (eq x.0 id && is_lt (cmp g (val x))) (has_above xs g id) (and_from (eq x.0 id) (is_lt (cmp g (val x))) k e.0))
      (λ k. or_right (eq x.0 id && is_lt (cmp g (val x))) (has_above xs g id) (all_above_within xs g e.1 id k))

  -- the least of those above g
  least_above : {G : Type 0} (T : K × V → Type 0) (xs : List (K × V)) (g : P) → AllByRecursion T xs → some_above xs g ≡ true → ((m : K × V) → T m → is_lt (cmp g (val m)) ≡ true → AllByRecursion (λ (y : K × V). is_lt (cmp g (val y)) ≡ true → is_le (cmp (val m) (val y)) ≡ true) xs → G) → G
  least_above T [] g t h f = cc h
  least_above T (x ∷ xs) g t h f =
      bool_cases (some_above xs g)
      (λ e. least_above T xs g t.1 e (λ m tm l a. bool_cases (is_lt (cmp g (val x)))
      (λ k. bool_cases (is_le (cmp (val m) (val x)))
      (λ u. f m tm l ((λ _. u), a))
      (λ u. f x t.0 k ((λ _. le_self o (val x)), every_step (val x) (val m) xs (le_if_not_le (val m) (val x) u) a)))
      (λ k. f m tm l ((λ q. absurd (both_ways (is_lt (cmp g (val x))) k q)), a))))
      (λ e. or_cases (is_lt (cmp g (val x))) (some_above xs g) h
      (λ k. f x t.0 k ((λ _. le_self o (val x)), every_none (val x) xs (none_at_all (λ (y : K × V). is_lt (cmp g (compared y.1))) xs e)))
      (λ k. absurd (both_ways (some_above xs g) e k)))
    where
      le_if_not_le : (a b : P) → is_le (cmp a b) ≡ false → is_le (cmp b a) ≡ true
      le_if_not_le a b u = le_if_lt o b a (lt_if_not_le o a b u)

      every_step : (p q : P) (ys : List (K × V)) → is_le (cmp p q) ≡ true → AllByRecursion (λ (y : K × V). is_lt (cmp g (val y)) ≡ true → is_le (cmp q (val y)) ≡ true) ys → AllByRecursion (λ (y : K × V). is_lt (cmp g (val y)) ≡ true → is_le (cmp p (val y)) ≡ true) ys
      every_step p q [] u a = tt
      every_step p q (y ∷ ys) u a = ((λ k. le_le o p q (val y) u (a.0 k)), every_step p q ys u a.1)

      every_none : (p : P) (ys : List (K × V)) → AllByRecursion (λ (y : K × V). is_lt (cmp g (val y)) ≡ false) ys → AllByRecursion (λ (y : K × V). is_lt (cmp g (val y)) ≡ true → is_le (cmp p (val y)) ≡ true) ys
      every_none p [] e = tt
      every_none p (y ∷ ys) e = ((λ k. absurd (both_ways (is_lt (cmp g (val y))) e.0 k)), every_none p ys e.1)

  above_reached_along : (xs : List (K × V)) (g p : P) → AllByRecursion (λ (y : K × V). is_lt (cmp g (val y)) ≡ true → is_le (cmp p (val y)) ≡ true) xs → IsWithin (has_above xs g) (has_reached eq cmp compared xs p)
  above_reached_along [] g p e id h = h
  above_reached_along (y ∷ ys) g p e id h =
      or_cases (eq y.0 id && is_lt (cmp g (val y))) (has_above ys g id) h
      (λ k. or_left (eq y.0 id && is_le (cmp p (val y))) (has_reached eq cmp compared ys p id) (and_from (eq y.0 id) (is_le (cmp p (val y))) (and_left (eq y.0 id) (is_lt (cmp g (val y))) k) (e.0 (and_right (eq y.0 id) (is_lt (cmp g (val y))) k))))
      (λ k. or_right (eq y.0 id && is_le (cmp p (val y))) (has_reached eq cmp compared ys p id) (above_reached_along ys g p e.1 id k))

  -- a value above g is reached by none but those above g
  reached_is_above : (xs : List (K × V)) (g p : P) → is_lt (cmp g p) ≡ true → IsWithin (has_reached eq cmp compared xs p) (has_above xs g)
  reached_is_above xs g p l id h =
      any_wider (λ (x : K × V). eq x.0 id && is_le (cmp p (compared x.1))) (λ (x : K × V). eq x.0 id && is_lt (cmp g (compared x.1))) xs
      (λ x k. and_from (eq x.0 id) (is_lt (cmp g (val x))) (and_left (eq x.0 id) (is_le (cmp p (val x))) k) (lt_le o g p (val x) l (and_right (eq x.0 id) (is_le (cmp p (val x))) k))) h

  -- who has reached a value has reached one that is no greater
  reached_lower : (xs : List (K × V)) (p q : P) → is_le (cmp q p) ≡ true → IsWithin (has_reached eq cmp compared xs p) (has_reached eq cmp compared xs q)
  reached_lower xs p q l id h =
      any_wider (λ (x : K × V). eq x.0 id && is_le (cmp p (compared x.1))) (λ (x : K × V). eq x.0 id && is_le (cmp q (compared x.1))) xs
      (λ x k. and_from (eq x.0 id) (is_le (cmp q (val x))) (and_left (eq x.0 id) (is_le (cmp p (val x))) k) (le_le o q p (val x) l (and_right (eq x.0 id) (is_le (cmp p (val x))) k))) h

  module _ (accepts : (K → Bool) → Bool) (wider : (p r : K → Bool) → IsWithin p r → accepts p ≡ true → accepts r ≡ true) where
    -- those above g are no quorum, or there are none
    abbrev pub Quiet : P → List (K × V) → Type 0
    Quiet g xs = accepts (has_above xs g) ≡ true → some_above xs g ≡ false

    abbrev Attained : P → P → List (K × V) → Type 0
    Attained d g xs = (is_eq (cmp d g) ≡ true) ⊎ ((some_equal xs g ≡ true) × (accepts (has_reached eq cmp compared xs g) ≡ true))

    -- those before n are no quorum, or there are none
    abbrev pub NoQuorum : List (K × V) → ℕ → Type 0
    NoQuorum xs n = 0 < n → accepts (has_node eq (take n xs)) ≡ false

    abbrev Granted : P → P → List (K × V) → Type 0
    Granted d g xs = IsGranted eq cmp compared accepts d g xs

    abbrev reached : List (K × V) → P → Bool
    reached xs p = accepts (has_reached eq cmp compared xs p)

    granted_quiet : (d g : P) (xs : List (K × V)) → Granted d g xs → Quiet g xs
    granted_quiet d g xs h a =
        false_unless (some_above xs g)
        (λ s. least_above (λ (x : K × V). reached xs (val x) ≡ true → is_le (cmp (val x) g) ≡ true) xs g
        (filtered_all (reached xs) (λ p. is_le (cmp p g)) (value_of compared) xs (and_right (is_le (cmp d g)) (list_all (λ p. is_le (cmp p g)) (reached_values eq cmp compared accepts xs)) h.1)) s
        (λ m tm l e. sym (not_lt_if_le o (val m) g (tm (wider (has_above xs g) (has_reached eq cmp compared xs (val m)) (above_reached_along xs g (val m) e) a))) ∙ l))

    granted_attained : (d g : P) (xs : List (K × V)) → Granted d g xs → Attained d g xs
    granted_attained d g xs h =
        or_cases (is_eq (cmp d g)) (list_any (λ p. is_eq (cmp p g)) (reached_values eq cmp compared accepts xs)) h.0 inl
        (λ k. let both : list_any (λ (x : K × V). reached xs (val x) && is_eq (cmp (val x) g)) xs ≡ true = sym (any_filtered (reached xs) (λ p. is_eq (cmp p g)) (value_of compared) xs) ∙ k in
        inr (
          any_wider (λ (x : K × V). reached xs (val x) && is_eq (cmp (val x) g)) (λ (x : K × V). is_eq (cmp (val x) g)) xs (λ x. and_right (reached xs (val x)) (is_eq (cmp (val x) g))) both,
          any_gives (λ (x : K × V). reached xs (val x) && is_eq (cmp (val x) g)) xs both
              (λ x e. wider (has_reached eq cmp compared xs (val x)) (has_reached eq cmp compared xs g)
              (reached_lower xs (val x) g (le_if_eq o g (val x) (eq_back o (val x) g (and_right (reached xs (val x)) (is_eq (cmp (val x) g)) e))))
              (and_left (reached xs (val x)) (is_eq (cmp (val x) g)) e)),
        ))

    pub granted_least : (d g : P) (xs : List (K × V)) → Granted d g xs → is_le (cmp d g) ≡ true
    granted_least d g xs h =
        and_left (is_le (cmp d g)) (list_all (λ p. is_le (cmp p g)) (reached_values eq cmp compared accepts xs)) h.1

    every_not_lt : (g : P) (ys xs : List (K × V)) → AllByRecursion (λ (x : K × V). is_lt (cmp g (val x)) ≡ false) ys → AllByRecursion (λ (x : K × V). reached xs (val x) ≡ true → is_le (cmp (val x) g) ≡ true) ys
    every_not_lt g [] xs e = tt
    every_not_lt g (y ∷ ys) xs e = ((λ _. le_if_not_lt o g (val y) e.0), every_not_lt g ys xs e.1)

    counted_granted : (d g : P) (xs : List (K × V)) → Quiet g xs → Attained d g xs → is_le (cmp d g) ≡ true → Granted d g xs
    counted_granted d g xs q a l = (
      elim a [
        | inl e ↦ or_left (is_eq (cmp d g)) (list_any (λ p. is_eq (cmp p g)) (reached_values eq cmp compared accepts xs)) e
        | inr e ↦ or_right (is_eq (cmp d g)) (list_any (λ p. is_eq (cmp p g)) (reached_values eq cmp compared accepts xs))
            (any_filtered (reached xs) (λ p. is_eq (cmp p g)) (value_of compared) xs
            ∙ any_wider (λ (x : K × V). is_eq (cmp (val x) g)) (λ (x : K × V). reached xs (val x) && is_eq (cmp (val x) g)) xs
            (λ x k. and_from (reached xs (val x)) (is_eq (cmp (val x) g)) (wider (has_reached eq cmp compared xs g) (has_reached eq cmp compared xs (val x)) (reached_lower xs g (val x) (le_if_eq o (val x) g k)) e.1) k) e.0)
      ],
      and_from (is_le (cmp d g)) (list_all (λ p. is_le (cmp p g)) (reached_values eq cmp compared accepts xs)) l
          (all_filtered (reached xs) (λ p. is_le (cmp p g)) (value_of compared) xs
          (bool_cases (accepts (has_above xs g))
          (λ k. every_not_lt g xs xs (none_at_all (λ (x : K × V). is_lt (cmp g (compared x.1))) xs (q k)))
          (λ k. every_any (λ (x : K × V). reached xs (val x) ≡ true → is_le (cmp (val x) g) ≡ true)
          (λ x r. bool_cases (is_le (cmp (val x) g)) (λ u. u)
          (λ u. absurd (both_ways (accepts (has_above xs g)) k (wider (has_reached eq cmp compared xs (val x)) (has_above xs g) (reached_is_above xs g (val x) (lt_if_not_le o (val x) g u)) r)))) xs))),
    )

    quiet_stop : (g : P) (ys : List (K × V)) (n : ℕ) → IsFalling cmp compared ys → RestsAt ys g n → NoQuorum ys n → Quiet g ys
    quiet_stop g ys zero f r nq a = none_where_it_rests ys g f r
    quiet_stop g ys (suc n) f r nq a =
        absurd (both_ways (accepts (has_node eq (take (suc n) ys))) (nq (omega arith)) (wider (has_above ys g) (has_node eq (take (suc n) ys)) (above_in_front ys g (suc n) f r) a))

    some_first : (ys : List (K × V)) (g : P) (n : ℕ) → 0 < n → n < length ys → AllByRecursion (λ (x : K × V). is_lt (cmp g (val x)) ≡ true) (take n ys) → some_above (take n ys) g ≡ true
    some_first [] g n p h e = absurd (omega arith)
    some_first (y ∷ ys) g zero p h e = absurd (omega arith)
    some_first (y ∷ ys) g (suc n) p h e = or_left (is_lt (cmp g (val y))) (some_above (take n ys) g) e.0

    -- those that an entry above g stays behind are no quorum
    start_quiet : (g : P) (xs ys : List (K × V)) (n : ℕ) (d : K × V) → Quiet g xs → IsFalling cmp compared ys → n < length ys → is_lt (cmp g (val (get_or ys n d))) ≡ true → take n ys ≡ take n xs → NoQuorum ys n
    start_quiet g xs ys n d q f h l e p =
        let above = front_above ys g n d h f l in
        false_unless (accepts (has_node eq (take n ys)))
        (λ a. sym (q (wider (has_node eq (take n ys)) (has_above xs g)
        (λ id k. any_take (λ (x : K × V). eq x.0 id && is_lt (cmp g (compared x.1))) n xs (subst (λ zs. has_above zs g id ≡ true) e (all_above_within (take n ys) g above id k))) a))
        ∙ any_take (λ (x : K × V). is_lt (cmp g (compared x.1))) n xs (subst (λ zs. some_above zs g ≡ true) e (some_first ys g n p h above)))

    quiet_moved : (g : P) (xs ys : List (K × V)) → IsPermutation xs ys → Quiet g xs → Quiet g ys
    quiet_moved g xs ys m q a =
        sym (list_any-IsPermutation (λ (x : K × V). is_lt (cmp g (compared x.1))) xs ys m)
        ∙ q (wider (has_above ys g) (has_above xs g) (λ id k. list_any-IsPermutation (λ (x : K × V). eq x.0 id && is_lt (cmp g (compared x.1))) xs ys m ∙ k) a)

    attained_moved : (d g : P) (xs ys : List (K × V)) → IsPermutation xs ys → Attained d g xs → Attained d g ys
    attained_moved d g xs ys m a =
        elim a [
          | inl e ↦ inl e
          | inr e ↦ inr (
            sym (list_any-IsPermutation (λ (x : K × V). is_eq (cmp (compared x.1) g)) xs ys m) ∙ e.0,
            wider (has_reached eq cmp compared xs g) (has_reached eq cmp compared ys g) (λ id k. sym (list_any-IsPermutation (λ (x : K × V). eq x.0 id && is_le (cmp g (compared x.1))) xs ys m) ∙ k) e.1,
          )
        ]

    -- a quorum in front of a falling list grants the value at its end
    pub granted_found : (d g : P) (ys : List (K × V)) (i : ℕ) (e : K × V) → IsFalling cmp compared ys → i < length ys → is_lt (cmp g (val (get_or ys i e))) ≡ true → is_le (cmp d g) ≡ true → NoQuorum ys i → accepts (has_node eq (take (suc i) ys)) ≡ true → Granted d (val (get_or ys i e)) ys
    granted_found d g ys i e f h l least nq a =
        let v = val (get_or ys i e) in
        counted_granted d v ys
        (quiet_stop v ys i f (λ c k. subst (λ (z : K × V). is_lt (cmp v (val z)) ≡ false) (at_any ys i e c h) (not_lt_if_le o v v (le_self o v))) nq)
        (inr (
          any_at (λ (x : K × V). is_eq (cmp (compared x.1) v)) ys i e h (eq_self o v),
          wider (has_node eq (take (suc i) ys)) (has_reached eq cmp compared ys v) (front_has_reached ys i e h f) a,
        ))
        (le_if_lt o d v (le_lt o d g v least l))

    -- where no quorum is found the default is granted
    pub granted_default : (d : P) (ys : List (K × V)) (n : ℕ) → IsFalling cmp compared ys → RestsAt ys d n → NoQuorum ys n → Granted d d ys
    granted_default d ys n f r nq = counted_granted d d ys (quiet_stop d ys n f r nq) (inl (eq_self o d)) (le_self o d)

    module _ (xs : List (K × V)) (i : ℕ) (y e : K × V) (within : i < length xs) (key : y.0 ≡ (get_or xs i e).0) (rises : is_le (cmp (val (get_or xs i e)) (val y)) ≡ true) where
      abbrev old : P
      old = val (get_or xs i e)

      reached_set : (g : P) → IsWithin (has_reached eq cmp compared xs g) (has_reached eq cmp compared (set xs i y) g)
      reached_set g id h =
          any_set_more (λ (x : K × V). eq x.0 id && is_le (cmp g (compared x.1))) xs i y e
          (λ k. and_from (eq y.0 id) (is_le (cmp g (val y))) (ap (λ z. eq z id) key ∙ and_left (eq (get_or xs i e).0 id) (is_le (cmp g old)) k)
          (le_le o g old (val y) (and_right (eq (get_or xs i e).0 id) (is_le (cmp g old)) k) rises)) h

      -- an update that doesn't cross what is granted
      quiet_set : (g : P) → is_lt (cmp g (val y)) ≡ is_lt (cmp g old) → Quiet g xs → Quiet g (set xs i y)
      quiet_set g s q a =
          any_set (λ (x : K × V). is_lt (cmp g (compared x.1))) xs i y e s
          ∙ q (wider (has_above (set xs i y) g) (has_above xs g)
          (λ id k. sym (any_set (λ (x : K × V). eq x.0 id && is_lt (cmp g (compared x.1))) xs i y e
          (ap (λ z. eq z id && is_lt (cmp g (val y))) key ∙ ap (λ b. eq (get_or xs i e).0 id && b) s)) ∙ k) a)

      attained_set : (d g : P) → is_lt (cmp g (val y)) ≡ is_lt (cmp g old) → Attained d g xs → Attained d g (set xs i y)
      attained_set d g s a =
          elim a [
            | inl k ↦ inl k
            | inr k ↦ inr (
              any_set_more (λ (x : K × V). is_eq (cmp (compared x.1) g)) xs i y e
                  (λ q. eq_if_both o (val y) g (le_if_not_lt o g (val y) (s ∙ not_lt_if_le o old g (le_if_eq o old g q)))
                  (le_le o g old (val y) (le_if_eq o g old (eq_back o old g q)) rises)) k.0,
              wider (has_reached eq cmp compared xs g) (has_reached eq cmp compared (set xs i y) g) (reached_set g) k.1,
            )
          ]

      pub granted_same : (d g : P) (ys : List (K × V)) → is_lt (cmp g (val y)) ≡ is_lt (cmp g old) → IsPermutation (set xs i y) ys → Granted d g xs → Granted d g ys
      granted_same d g ys s m h =
          counted_granted d g ys
          (quiet_moved g (set xs i y) ys m (quiet_set g s (granted_quiet d g xs h)))
          (attained_moved d g (set xs i y) ys m (attained_set d g s (granted_attained d g xs h)))
          (granted_least d g xs h)

      every_step_up : (g : P) (zs : List (K × V)) → AllByRecursion (λ (x : K × V). is_eq (cmp (val x) g) ≡ false) zs → AllByRecursion (λ (x : K × V). is_le (cmp g (val x)) ≡ true → is_lt (cmp g (val x)) ≡ true) zs
      every_step_up g [] k = tt
      every_step_up g (z ∷ zs) k =
          ((λ l. bool_cases (is_lt (cmp g (val z))) (λ u. u) (λ u. absurd (both_ways (is_eq (cmp (val z) g)) k.0 (eq_if_both o (val z) g (le_if_not_lt o g (val z) u) l)))), every_step_up g zs k.1)

      reached_above : (g : P) (zs : List (K × V)) → AllByRecursion (λ (x : K × V). is_le (cmp g (val x)) ≡ true → is_lt (cmp g (val x)) ≡ true) zs → IsWithin (has_reached eq cmp compared zs g) (has_above zs g)
      reached_above g [] k id h = h
      reached_above g (z ∷ zs) k id h =
          or_cases (eq z.0 id && is_le (cmp g (val z))) (has_reached eq cmp compared zs g id) h
          (λ u. or_left (eq z.0 id && is_lt (cmp g (val z))) (has_above zs g id) (and_from (eq z.0 id) (is_lt (cmp g (val z))) (and_left (eq z.0 id) (is_le (cmp g (val z))) u) (k.0 (and_right (eq z.0 id) (is_le (cmp g (val z))) u))))
          (λ u. or_right (eq z.0 id && is_lt (cmp g (val z))) (has_above zs g id) (reached_above g zs k.1 id u))

      some_above_set : (g : P) (zs : List (K × V)) (j : ℕ) → j < length zs → is_lt (cmp g (val y)) ≡ true → some_above (set zs j y) g ≡ true
      some_above_set g [] j h l = absurd (omega arith)
      some_above_set g (z ∷ zs) zero h l = or_left (is_lt (cmp g (val y))) (some_above zs g) l
      some_above_set g (z ∷ zs) (suc j) h l = or_right (is_lt (cmp g (val z))) (some_above (set zs j y) g) (some_above_set g zs j (omega arith) l)

      attained_crossed : (d g : P) → is_lt (cmp g (val y)) ≡ true → Quiet g (set xs i y) → Attained d g xs → Attained d g (set xs i y)
      attained_crossed d g l q a =
          elim a [
            | inl k ↦ inl k
            | inr k ↦ inr (
                let more = wider (has_reached eq cmp compared xs g) (has_reached eq cmp compared (set xs i y) g) (reached_set g) k.1 in (
                  bool_cases (some_equal (set xs i y) g) (λ u. u)
                      (λ u. absurd (both_ways (some_above (set xs i y) g) (q (wider (has_reached eq cmp compared (set xs i y) g) (has_above (set xs i y) g) (reached_above g (set xs i y) (every_step_up g (set xs i y) (none_at_all (λ (x : K × V). is_eq (cmp (compared x.1) g)) (set xs i y) u))) more)) (some_above_set g xs i within l))),
                  more,
                ))
          ]

      -- an update past what is granted that finds no quorum
      pub granted_stopped : (d g : P) (ys : List (K × V)) (n : ℕ) → is_lt (cmp g (val y)) ≡ true → IsPermutation (set xs i y) ys → IsFalling cmp compared ys → RestsAt ys g n → NoQuorum ys n → Granted d g xs → Granted d g ys
      granted_stopped d g ys n l m f r nq h =
          let quiet = quiet_stop g ys n f r nq in
          counted_granted d g ys quiet
          (attained_moved d g (set xs i y) ys m (attained_crossed d g l (quiet_moved g ys (set xs i y) (IsPermutation-sym (set xs i y) ys m) quiet) (granted_attained d g xs h)))
          (granted_least d g xs h)

      -- those that the entry stays behind, once it has moved up past what is granted
      pub start_moved : (d g : P) (ys : List (K × V)) (n : ℕ) → is_lt (cmp g (val y)) ≡ true → IsFalling cmp compared ys → n ≤ i → n < length ys → ((c : K × V) → get_or ys n c ≡ get_or (set xs i y) i c) → take n ys ≡ take n (set xs i y) → Granted d g xs → NoQuorum ys n
      start_moved d g ys n l f at h entry front grant =
          start_quiet g xs ys n e (granted_quiet d g xs grant) f h
          (subst (λ (z : K × V). is_lt (cmp g (val z)) ≡ true) (sym (entry e ∙ get_or-set_same xs i y e within)) l)
          (front ∙ take-set-le n xs i y at)

-- where all have the value that it was built with, that is granted
module _ {K V P : Type 0} (eq : K → K → Bool) {cmp : P → P → Ordering} (o : IsTotalOrder cmp) (compared : V → P) (v : V) where
  abbrev beside : K → K × V
  beside id = (id, v)

  every_beside : (Q : K × V → Type 0) → ((id : K) → Q (id, v)) → (ids : List K) → AllByRecursion Q (map beside ids)
  every_beside Q q [] = tt
  every_beside Q q (id ∷ ids) = (q id, every_beside Q q ids)

  pub built_falling : (ids : List K) → IsFalling cmp compared (map beside ids)
  built_falling [] = tt
  built_falling (id ∷ ids) =
      (every_beside (λ y. is_le (cmp (compared y.1) (compared v)) ≡ true) (λ _. le_self o (compared v)) ids, built_falling ids)

  pub built_granted : (accepts : (K → Bool) → Bool) (ids : List K) → IsGranted eq cmp compared accepts (compared v) (compared v) (map beside ids)
  built_granted accepts ids =
      let xs = map beside ids in (
        or_left (is_eq (cmp (compared v) (compared v))) (list_any (λ p. is_eq (cmp p (compared v))) (reached_values eq cmp compared accepts xs)) (eq_self o (compared v)),
        and_from (is_le (cmp (compared v) (compared v))) (list_all (λ p. is_le (cmp p (compared v))) (reached_values eq cmp compared accepts xs)) (le_self o (compared v))
            (all_filtered (λ p. accepts (has_reached eq cmp compared xs p)) (λ p. is_le (cmp p (compared v))) (value_of compared) xs
            (every_beside (λ x. accepts (has_reached eq cmp compared xs (compared x.1)) ≡ true → is_le (cmp (compared x.1) (compared v)) ≡ true) (λ _ _. le_self o (compared v)) ids)),
      )
