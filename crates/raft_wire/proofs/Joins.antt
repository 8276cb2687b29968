-- Parts that are written one behind the other.
use Rattle.std.proofs.Common.{◌≡◌, ℕ, ◌+◌, ◌<◌, List, [], ◌∷◌, ◌++◌, length, get_or, take, sym, ap, ◌∙◌, append_assoc}
use Rattle.std.specs.List.{flat_map}
use Rattle.std.proofs.lemmas.List.{append-nil, take_more}
use Rattle.std.proofs.lemmas.List.Concat.{flat_map-append, flat_map-cons}

pub one_more : {A : Type 0} (spelled : A → List ℕ) (xs : List A) (i : ℕ) (x : A) (start out new : List ℕ) → i < length xs → x ≡ get_or xs i x → out ≡ start ++ flat_map spelled (take i xs) → new ≡ out ++ spelled x
    → new ≡ start ++ flat_map spelled (take (i + 1) xs)
one_more {A} spelled xs i x start out new lt is so_far next =
    let front : take (i + 1) xs ≡ take i xs ++ x ∷ [] = take_more xs i x lt ∙ ap (λ (y : A). take i xs ++ y ∷ []) (sym is) in
    let single : flat_map spelled (x ∷ []) ≡ spelled x = flat_map-cons spelled x [] ∙ append-nil (spelled x) in
    let joined : flat_map spelled (take (i + 1) xs) ≡ flat_map spelled (take i xs) ++ spelled x =
    ap (flat_map spelled) front ∙ flat_map-append spelled (take i xs) (x ∷ []) ∙ ap (λ (l : List ℕ). flat_map spelled (take i xs) ++ l) single in
    next ∙ ap (λ (l : List ℕ). l ++ spelled x) so_far ∙ append_assoc start (flat_map spelled (take i xs)) (spelled x) ∙ ap (λ (l : List ℕ). start ++ l) (sym joined)

-- a byte, some parts and a last part
pub three_parts : (start first second : List ℕ) (byte : ℕ) (middle last : List ℕ) → first ≡ start ++ byte ∷ [] → second ≡ first ++ middle → start ++ (byte ∷ (middle ++ last)) ≡ second ++ last
three_parts start first second byte middle last p q =
    sym (ap (λ (l : List ℕ). l ++ last) (q ∙ ap (λ (l : List ℕ). l ++ middle) p) ∙ append_assoc (start ++ byte ∷ []) middle last ∙ append_assoc start (byte ∷ []) (middle ++ last))
