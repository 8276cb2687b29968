-- What a lookup in a slice gave.
use Rattle.std.specs.Prelude.{◌≡◌, ◌<◌, ◌≤◌, ℕ, nat_lt, true, List, length, slice_get, Option, Some, None, IfSome, is_some, refl}
use Rattle.std.specs.List.{slice_index_or as get_or}
use Rattle.std.specs.Option.{option_copied}
use Rattle.std.proofs.Common.{Bor, sym, ap, ◌∙◌, arith}
use Rattle.std.proofs.lemmas.Bool.Decides.{nat_tests}
use Rattle.std.proofs.lemmas.Option.{slice_get_past, slice_get_read}

module _ {X : Type 0} where
  -- the item that was found
  pub item_there : (xs ys : List X) (i : ℕ) (x : X) → xs ≡ ys → true ≡ nat_lt i (length xs) → x ≡ get_or xs i x → slice_get ys i ≡ Some x
  item_there xs ys i x same e f =
      let low : i < length xs = grind (arith, nat_tests, e) in
      ap (λ l. slice_get l i) (sym same) ∙ slice_get_read xs (length xs) i x refl low f

  found_in : (xs : List X) (i : ℕ) (found : Option (Bor X)) → is_some found ≡ nat_lt i (length xs) → IfSome found (λ x. x.now ≡ get_or xs i x.now) → option_copied found ≡ slice_get xs i
  found_in xs i None e f = let past : length xs ≤ i = grind (arith, nat_tests, e) in sym (slice_get_past xs i past)
  found_in xs i (Some x) e f = let low : i < length xs = grind (arith, nat_tests, e) in sym (slice_get_read xs (length xs) i x.now refl low f)

  -- the item, or none
  pub item_or_none : (xs ys : List X) (i : ℕ) (found : Option (Bor X)) → xs ≡ ys → is_some found ≡ nat_lt i (length xs) → IfSome found (λ x. x.now ≡ get_or xs i x.now) → option_copied found ≡ slice_get ys i
  item_or_none xs ys i found same e f = found_in xs i found e f ∙ ap (λ l. slice_get l i) same
