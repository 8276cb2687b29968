-- Sizes and the texts that say them.
use Rattle.std.proofs.Common.{◌≡◌, ℕ, suc, ◌+◌, ◌-◌, ◌*◌, ◌^◌, ◌<◌, Bool, true, false, cond, eqb, List, [], ◌∷◌, ◌++◌, length, take, drop, fold, Some, None, refl, ◌∙◌, rules, arith}
use Rattle.std.proofs.lemmas.Bool.{and_parts, ne_eqb}
use Rattle.std.proofs.lemmas.Bool.Decides.{nat_tests}
use Rattle.std.proofs.lemmas.Fmt.{digits_decimal, digits_value-decimal, decimal_nonempty}
use Rattle.std.proofs.lemmas.Str.Parse.{IsNumeralModel, numerals_by_fold}
use Rattle.std.proofs.Math.Seq.{take-append_seam, drop-append_seam}
use Rattle.std.proofs.Math.Nat.{mul-one}
use Rattle.std.specs.Fmt.{decimal}
use Rattle.std.specs.List.{list_all, prefix_len}
use Rattle.raft_log_records.specs.declared.size.ReadableSize.{ReadableSize}
use Rattle.raft_log_disk.specs.Name.{is_digit, value_of}
use Rattle.raft_log_files.specs.Size.{size_below_end, sized, size_said, size_text, unit_bytes, after_spaces}

take-one-more : (n x : ℕ) (xs : List ℕ) → take (1 + n) (x ∷ xs) ≡ x ∷ take n xs
take-one-more n x xs = let e : 1 + n ≡ suc n = omega arith in rw e

front_step : (p : ℕ → Bool) (x : ℕ) (xs : List ℕ) (b : Bool) → p x ≡ b → list_all p (take (prefix_len p xs) xs) ≡ true
    → list_all p (take (cond b (1 + prefix_len p xs) 0) (x ∷ xs)) ≡ true
front_step p x xs true is ih =
    rw (take-one-more (prefix_len p xs) x xs, is) ih
front_step p x xs false is ih = refl

-- the digits at the front are digits
pub front_passes : (p : ℕ → Bool) (xs : List ℕ) → list_all p (take (prefix_len p xs) xs) ≡ true
front_passes p [] = refl
front_passes p (x ∷ xs) = front_step p x xs (p x) refl (front_passes p xs)

own : IsNumeralModel (λ text. list_all is_digit text ≡ true) value_of
own = numerals_by_fold _ (search rules) (λ n text. fold (λ n b. n * 10 + (b - 48)) n text) (search rules)

prefix_all : (p : ℕ → Bool) (xs : List ℕ) (y : ℕ) (ys : List ℕ) → list_all p xs ≡ true → p y ≡ false → prefix_len p (xs ++ y ∷ ys) ≡ length xs
prefix_all p [] y ys all stops = rw stops
prefix_all p (x ∷ xs) y ys all stops =
    let parts = and_parts (p x) (list_all p xs) all in
    rw (parts.0, prefix_all p xs y ys parts.1 stops) (omega arith)

fitting : (n : ℕ) → n < 2 ^ 64 → size_below_end n ≡ Some (record { 0 = n })
fitting n h = grind (arith, nat_tests)

said_at : (text : List ℕ) (count : ℕ) → prefix_len is_digit text ≡ count
    → size_said text ≡ cond (eqb count 0) None (sized (take count text) (unit_bytes (after_spaces (drop count text))))
said_at text count e = rw e

-- a text of digits before a `B` says their value
digits_said : (text : List ℕ) (n : ℕ) → 0 < length text → list_all is_digit text ≡ true → value_of text ≡ n → n < 2 ^ 64
    → size_said (text ++ 66 ∷ []) ≡ Some (record { 0 = n })
digits_said text n some all value fits =
    said_at (text ++ 66 ∷ []) (length text) (prefix_all is_digit text 66 [] all refl)
    ∙ rw (ne_eqb (length text) 0 (omega arith), take-append_seam text (66 ∷ []), drop-append_seam text (66 ∷ []), value, mul-one n) (fitting n fits)

-- a size that is written is the size that its text says
pub size_said-text : (size : ReadableSize) → size.0 < 2 ^ 64 → size_said (size_text size) ≡ Some size
size_said-text size fits =
    digits_said (decimal size.0) size.0 (decimal_nonempty size.0 fits) (digits_decimal own size.0 fits) (digits_value-decimal own size.0 fits) fits
