-- What two lists share, and the place of an element.
use Rattle.std.proofs.Common.{◌≡◌, ℕ, zero, suc, ◌+◌, ◌<◌, ◌≤◌, List, [], ◌∷◌, ◌++◌, length, take, drop, Some, eqb, refl, sym, ap, ◌∙◌, arith, eqb-true, length-append}
use Rattle.std.specs.Prelude.{slice_get}
use Rattle.std.proofs.lemmas.Bool.{cond_both, eqb-false}
use Rattle.raft_laws.specs.BallotLists.{with_value, AgreeBelow}

-- a map with a value at n: two cases
pub with_value_cases : {A : Type 0} (f : ℕ → A) (n : ℕ) (v : A) (m : ℕ) (P : A → Type 0) → (m ≡ n → P v) → ((m ≡ n → ⊥) → P (f m)) → P (with_value f n v m)
with_value_cases f n v m P same other =
    cond_both (eqb m n) v (f m) P (λ e. same (eqb-true m n e)) (λ e. other (eqb-false m n e))

pub some_at : {A : Type 0} (xs : List A) (k : ℕ) → k < length xs → (x : A) × (slice_get xs k ≡ Some x)
some_at [] k h = absurd (omega arith)
some_at (x ∷ xs) zero h = (x, refl)
some_at (x ∷ xs) (suc k) h = some_at xs k (omega arith)

pub same_some : {A : Type 0} {x y : A} → Some x ≡ Some y → x ≡ y
same_some e = cc

pub agree_refl : {A : Type 0} (k : ℕ) (xs : List A) → k ≤ length xs → AgreeBelow k xs xs
agree_refl k xs h = record { left = h; right = h; same = λ j l. refl }

pub agree_sym : {A : Type 0} {k : ℕ} {xs ys : List A} → AgreeBelow k xs ys → AgreeBelow k ys xs
agree_sym a = record { left = a.right; right = a.left; same = λ j l. sym (a.same j l) }

pub agree_trans : {A : Type 0} {k : ℕ} {xs ys zs : List A} → AgreeBelow k xs ys → AgreeBelow k ys zs → AgreeBelow k xs zs
agree_trans a b = record { left = a.left; right = b.right; same = λ j l. a.same j l ∙ b.same j l }

pub agree_less : {A : Type 0} {k : ℕ} {xs ys : List A} (m : ℕ) → m ≤ k → AgreeBelow k xs ys → AgreeBelow m xs ys
agree_less {k = k} {xs = xs} {ys = ys} m h a =
    record { left = omega (arith, a.left); right = omega (arith, a.right); same = λ j l. a.same j (omega arith) }

-- ys is the front of zs
pub agree_more : {A : Type 0} {k : ℕ} {xs ys zs : List A} → AgreeBelow k xs ys → AgreeBelow (length ys) ys zs → AgreeBelow k xs zs
agree_more a b = agree_trans a (agree_less _ a.right b)

pub agree_none : {A : Type 0} (xs : List A) → AgreeBelow 0 [] xs
agree_none xs = record { left = omega arith; right = omega arith; same = λ j l. absurd (omega arith) }

pub slice_get-append : {A : Type 0} (xs ys : List A) (j : ℕ) → j < length xs → slice_get (xs ++ ys) j ≡ slice_get xs j
slice_get-append [] ys j h = absurd (omega arith)
slice_get-append (x ∷ xs) ys zero h = refl
slice_get-append (x ∷ xs) ys (suc j) h = slice_get-append xs ys j (omega arith)

pub slice_get_end : {A : Type 0} (xs : List A) (y : A) → slice_get (xs ++ y ∷ []) (length xs) ≡ Some y
slice_get_end [] y = refl
slice_get_end (x ∷ xs) y = slice_get_end xs y

pub agree_append : {A : Type 0} (xs ys : List A) → AgreeBelow (length xs) xs (xs ++ ys)
agree_append xs ys =
    record { left = omega arith; right = omega (arith, length-append xs ys); same = λ j l. sym (slice_get-append xs ys j l) }

pub agree_cons : {A : Type 0} {k : ℕ} {x y : A} {xs ys : List A} → x ≡ y → AgreeBelow k xs ys → AgreeBelow (suc k) (x ∷ xs) (y ∷ ys)
agree_cons {k = k} {x = x} {y = y} {xs = xs} {ys = ys} e a =
    record { left = omega (arith, a.left); right = omega (arith, a.right); same = go }
  where
    go : (j : ℕ) → j < suc k → slice_get (x ∷ xs) j ≡ slice_get (y ∷ ys) j
    go zero l = ap Some e
    go (suc j) l = a.same j (omega arith)

pub agree_tail : {A : Type 0} {k : ℕ} {x y : A} {xs ys : List A} → AgreeBelow (suc k) (x ∷ xs) (y ∷ ys) → AgreeBelow k xs ys
agree_tail {k = k} {x = x} {y = y} {xs = xs} {ys = ys} a =
    record { left = omega (arith, a.left); right = omega (arith, a.right); same = λ j l. a.same (suc j) (omega arith) }

pub agree_head : {A : Type 0} {k : ℕ} {x y : A} {xs ys : List A} → AgreeBelow (suc k) (x ∷ xs) (y ∷ ys) → x ≡ y
agree_head {k = k} a = same_some (a.same 0 (omega arith))

pub agree_drop : {A : Type 0} (s k : ℕ) (xs ys : List A) → AgreeBelow (s + k) xs ys → AgreeBelow k (drop s xs) (drop s ys)
agree_drop zero k xs ys a = agree_less k (omega arith) a
agree_drop (suc s) k [] ys a = absurd (omega (arith, a.left))
agree_drop (suc s) k (x ∷ xs) [] a = absurd (omega (arith, a.right))
agree_drop (suc s) k (x ∷ xs) (y ∷ ys) a = let e : suc s + k ≡ suc (s + k) = omega arith in agree_drop s k xs ys (agree_tail (agree_less (suc (s + k)) (omega arith) a))

pub agree_take : {A : Type 0} (k : ℕ) (xs : List A) → AgreeBelow (length (take k xs)) (take k xs) xs
agree_take zero xs = agree_none xs
agree_take (suc k) [] = agree_none []
agree_take (suc k) (x ∷ xs) = agree_cons refl (agree_take k xs)

pub with_value_same : {A : Type 0} (f : ℕ → A) (n : ℕ) (v : A) → with_value f n v n ≡ v
with_value_same f n v = with_value_cases f n v n (λ x. x ≡ v) (λ e. refl) (λ ne. absurd (ne refl))

pub with_value_other : {A : Type 0} (f : ℕ → A) (n : ℕ) (v : A) (m : ℕ) → (m ≡ n → ⊥) → with_value f n v m ≡ f m
with_value_other f n v m ne = with_value_cases f n v m (λ x. x ≡ f m) (λ e. absurd (ne e)) (λ o. refl)
