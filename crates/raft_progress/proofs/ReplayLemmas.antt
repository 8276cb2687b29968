-- Items that are done one after the other.
use Rattle.std.proofs.Common.{◌≡◌, ℕ, ◌<◌, List, [], ◌∷◌, ◌++◌, suc, length, take, drop, get_or, refl, sym, ap, ◌∙◌, subst, arith, length-append}
use Rattle.std.specs.Prelude.{Bool}
use Rattle.std.specs.declared.cmp.Ordering.{Ordering}
use Rattle.std.proofs.Math.Seq.{drop-cons, take-suc}
use Rattle.std.proofs.lemmas.List.{take-append-drop}
use Rattle.raft_progress.specs.declared.replaying.ReplayItem.{ReplayItem}
use Rattle.raft_progress.specs.Parts.{Parts}
use Rattle.raft_progress.specs.Replay.{DoesItem, Replays}

module _ {K V P Q : Type 0} (eq : K → K → Bool) (cmp : P → P → Ordering) (compared : V → P) (members : Q → List K) where
  -- one item more
  pub replays_push : (old : Parts K V P Q) (items : List (ReplayItem K V Q)) (between : Parts K V P Q) (item : ReplayItem K V Q) (new : Parts K V P Q)
      → Replays eq cmp compared members old items between → DoesItem eq cmp compared members between item new → Replays eq cmp compared members old (items ++ item ∷ []) new
  replays_push old [] between item new h d = (new, subst (λ p. DoesItem eq cmp compared members p item new) h d, refl)
  replays_push old (x ∷ items) between item new h d = (h.0, h.1, replays_push h.0 items between item new h.2 d)

-- the list before, at and behind an index
pub split_at : {X : Type 0} (xs : List X) (i : ℕ) (x : X) → i < length xs → x ≡ get_or xs i x → xs ≡ take i xs ++ x ∷ drop (suc i) xs
split_at xs i x h e =
    sym (take-append-drop i xs) ∙ ap (λ l. take i xs ++ l) (drop-cons xs i x h ∙ ap (λ y. y ∷ drop (suc i) xs) (sym e))

-- the front of the list as long as what was taken so far, with the element that comes next
pub take_push : {X : Type 0} (ys xs : List X) (x : X) → length ys < length xs → x ≡ get_or xs (length ys) x → take (length (ys ++ x ∷ [])) xs ≡ take (length ys) xs ++ x ∷ []
take_push ys xs x h e =
    let one_more : length (ys ++ x ∷ []) ≡ suc (length ys) = omega (arith, length-append ys (x ∷ [])) in
    ap (λ n. take n xs) one_more ∙ take-suc xs (length ys) x h ∙ ap (λ y. take (length ys) xs ++ y ∷ []) (sym e)
