-- Those of a list that are waited for, one after the other.
use Rattle.std.proofs.Common.{◌≡◌, ◌∙◌, ◌<◌, ◌+◌, ℕ, Bool, true, false, cond, List, [], ◌∷◌, ◌++◌, length, ap, get_or, refl, sym, take}
use Rattle.std.proofs.lemmas.List.{take_more}
use Rattle.std.specs.Prelude.{filter}
use Rattle.raft_node_clock.specs.View.{joined_if}

-- one that joins a list joins what is behind the first
behind_first : (b : Bool) (x y : ℕ) (ys : List ℕ) → joined_if b x (y ∷ ys) ≡ y ∷ joined_if b x ys
behind_first true x y ys = refl
behind_first false x y ys = refl

last : (f : ℕ → Bool) (ys : List ℕ) (x : ℕ) → joined_if (f x) x (filter f ys) ≡ filter f (ys ++ x ∷ [])
last f [] x = by_test (f x)
  where
    by_test : (b : Bool) → joined_if b x [] ≡ cond b (x ∷ []) []
    by_test true = refl
    by_test false = refl
last f (y ∷ ys) x = by_test (last f ys x) (f y)
  where
    by_test : joined_if (f x) x (filter f ys) ≡ filter f (ys ++ x ∷ []) → (b : Bool) → joined_if (f x) x (cond b (y ∷ filter f ys) (filter f ys)) ≡ cond b (y ∷ filter f (ys ++ x ∷ [])) (filter f (ys ++ x ∷ []))
    by_test rest true = behind_first (f x) x y (filter f ys) ∙ ap (λ (zs : List ℕ). y ∷ zs) rest
    by_test rest false = rest

pub one_more : (f : ℕ → Bool) (peers : List ℕ) (index : ℕ) (old new : List ℕ) (b : Bool) → index < length peers → old ≡ filter f (take index peers) → b ≡ f (get_or peers index 0)
    → new ≡ joined_if b (get_or peers index 0) old → new ≡ filter f (take (index + 1) peers)
one_more f peers index old new b within was is made =
    made ∙ (λ i. joined_if (is i) (get_or peers index 0) (was i)) ∙ last f (take index peers) (get_or peers index 0)
    ∙ ap (filter f) (sym (take_more peers index 0 within))
