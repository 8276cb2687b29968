-- Decimal digits and the numbers that they spell.
use Rattle.std.proofs.Common.{◌≡◌, ℕ, zero, suc, ◌+◌, ◌-◌, ◌*◌, ◌^◌, ◌<◌, ◌≤◌, true, cond, nat_lt, Option, Some, None, List, [], ◌∷◌, ◌++◌, length, get_or, take, drop, fold, refl, sym, ap, ◌∙◌, arith}
use Rattle.std.proofs.Math.Nat.{pow-suc, pow-le-pow_right}
use Rattle.std.proofs.lemmas.Bool.{and_parts, lt-ltb, le-ltb}
use Rattle.std.proofs.lemmas.Bool.Decides.{nat_tests}
use Rattle.std.proofs.lemmas.List.{take_more, take_all, take-append-drop, length-take-le}
use Rattle.std.proofs.lemmas.List.Sums.{fold_more, fold_push, fold-append}
use Rattle.std.proofs.lemmas.List.Folds.{list_all_more}
use Rattle.std.specs.List.{list_all}
use Rattle.raft_log_disk.specs.Name.{is_digit, value_of}

pub value_of-last : (text : List ℕ) (c : ℕ) → value_of (text ++ c ∷ []) ≡ value_of text * 10 + (c - 48)
value_of-last text c = fold_push (λ n b. n * 10 + (b - 48)) 0 text c

-- a list of some length is its front and its last
pub split_last : (k : ℕ) (text : List ℕ) → length text ≡ suc k → text ≡ take k text ++ get_or text k 0 ∷ []
split_last k text h = sym (take_all (k + 1) text (omega arith)) ∙ take_more text k 0 (omega arith)

pub last_is_digit : (c : ℕ) → is_digit c ≡ true → (47 < c) × (c < 58)
last_is_digit c h = grind (arith, nat_tests)

-- a value never falls as digits go on
value_on : (n : ℕ) (text : List ℕ) → n ≤ fold (λ n b. n * 10 + (b - 48)) n text
value_on n [] = omega arith
value_on n (c ∷ text) = omega (arith, value_on (n * 10 + (c - 48)) text)

value_of-take-le : (text : List ℕ) (i : ℕ) → value_of (take i text) ≤ value_of text
value_of-take-le text i =
    let whole : value_of text ≡ fold (λ n b. n * 10 + (b - 48)) (value_of (take i text)) (drop i text) =
    ap value_of (sym (take-append-drop i text)) ∙ fold-append (λ n b. n * 10 + (b - 48)) 0 (take i text) (drop i text) in
    omega (arith, whole, value_on (value_of (take i text)) (drop i text))

-- digits spell less than the next power of ten
pub value_of-lt : (k : ℕ) (text : List ℕ) → length text ≡ k → list_all is_digit text ≡ true → value_of text < 10 ^ k
value_of-lt zero [] h d = omega arith
value_of-lt zero (c ∷ text) h d = absurd (omega arith)
value_of-lt (suc k) text h d =
    let c : ℕ = get_or text k 0 in
    let parts : text ≡ take k text ++ c ∷ [] = split_last k text h in
    let tests = and_parts (list_all is_digit (take k text)) (is_digit c)
    (sym (list_all_more is_digit text k 0 (omega arith)) ∙ ap (list_all is_digit) (take_all (k + 1) text (omega arith)) ∙ d) in
    let digit = last_is_digit c tests.1 in
    let value : value_of text ≡ value_of (take k text) * 10 + (c - 48) = ap value_of parts ∙ value_of-last (take k text) c in
    let below = value_of-lt k (take k text) (omega (arith, length-take-le k text (omega arith))) tests.0 in
    omega (arith, pow-suc 10 k)

-- sixteen digits at most spell less than 2^64
pub short_value-fits : (text : List ℕ) → length text ≤ 16 → list_all is_digit text ≡ true → value_of text < 2 ^ 64
short_value-fits text short digits =
    let below : value_of text < 10 ^ length text = value_of-lt (length text) text refl digits in
    let room : 10 ^ length text ≤ 10 ^ 16 = pow-le-pow_right {n = 10} (omega arith) {i = length text} {j = 16} short in
    omega arith

pub short_value-is : (text : List ℕ) (r : Option ℕ) → length text ≤ 16 → list_all is_digit text ≡ true
    → r ≡ cond (nat_lt (value_of text) (2 ^ 64)) (Some (value_of text)) None → r ≡ cond (list_all is_digit text) (Some (value_of text)) None
short_value-is text r short digits is =
    let fits = short_value-fits text short digits in
    is ∙ rw (lt-ltb (value_of text) (2 ^ 64) fits, digits)

-- ---- numbers past the end of their type

pub too_large : (text : List ℕ) (i : ℕ) → i < length text → 2 ^ 64 ≤ value_of (take i text) * 10 + (get_or text i 0 - 48)
    → None ≡ cond (nat_lt (value_of text) (2 ^ 64)) (Some (value_of text)) None
too_large text i within large =
    let more : value_of (take (i + 1) text) ≡ value_of (take i text) * 10 + (get_or text i 0 - 48) = fold_more (λ n b. n * 10 + (b - 48)) 0 text i 0 within in
    let above : 2 ^ 64 ≤ value_of text = omega (arith, more, value_of-take-le text (i + 1)) in
    rw (le-ltb (value_of text) (2 ^ 64) above)

pub whole_value : (text : List ℕ) (v i : ℕ) → length text ≤ i → v ≡ value_of (take i text) → v < 2 ^ 64
    → Some v ≡ cond (nat_lt (value_of text) (2 ^ 64)) (Some (value_of text)) None
whole_value text v i past is fits =
    let whole : value_of text ≡ v = ap value_of (sym (take_all i text past)) ∙ sym is in
    rw (whole, lt-ltb v (2 ^ 64) fits)
