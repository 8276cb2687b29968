-- Bytes that differ in a run of up to four have different checksums.
use Rattle.std.proofs.Common.{◌≡◌, ◌≢◌, ℕ, zero, suc, ◌/◌, ◌%◌, ◌^◌, ◌<◌, ◌≤◌, inl, inr, List, [], ◌∷◌, ◌++◌, length, get_or, refl, sym, ap, subst, ◌∙◌, arith}
use Rattle.std.specs.Prelude.{bit_xor, fold}
use Rattle.std.specs.List.{AllByRecursion}
use Rattle.std.proofs.lemmas.Nat.{xor_comm, xor_shr, xor_of_32}
use Rattle.std.proofs.lemmas.Bool.{cases_eq}
use Rattle.std.proofs.lemmas.List.Sums.{fold-append}
use Rattle.raft_log_records.specs.Checksum.{shifted, after_byte, after_zeros, crc32_of, IsChangedRun}
use Rattle.raft_log_records.proofs.RegisterLemmas.{shifted-even, shifted-odd, polynomial, same_from_xor, low_first, enter_all, fold-apart, after_byte-xor}
use Rattle.std.proofs.Math.Nat.{pow-suc, pow-le-pow_right}

-- ---- one bit

pub shifted_fits : (a : ℕ) → a < 2 ^ 32 → shifted a < 2 ^ 32
shifted_fits a h = elim (cases_eq (a % 2) 0) [
  | inl even ↦ rw (shifted-even a even) (omega arith)
  | inr odd ↦ rw (shifted-odd a (omega arith)) (xor_of_32 (a / 2) polynomial (omega arith) (omega arith))
]

-- the polynomial's highest bit shows that it went in
highest_set : (a b : ℕ) → a < 2 ^ 32 → b < 2 ^ 32 → a / 2 ≢ bit_xor (b / 2) polynomial
highest_set a b ha hb e =
    let low : a / 2 / 2 ^ 31 ≡ 0 = omega arith in
    let none : b / 2 / 2 ^ 31 ≡ 0 = omega arith in
    let one : bit_xor (b / 2) polynomial / 2 ^ 31 ≡ 1 = xor_shr (b / 2) polynomial 31 ∙ ap (λ x. bit_xor x 1) none in
    let same = ap (λ x. x / 2 ^ 31) e in
    absurd (omega arith)

same_from_shifted : (a b : ℕ) → a < 2 ^ 32 → b < 2 ^ 32 → shifted a ≡ shifted b → a ≡ b
same_from_shifted a b ha hb e = elim (cases_eq (a % 2) 0) [
  | inl even_a ↦ elim (cases_eq (b % 2) 0) [
    | inl even_b ↦
        let halves : a / 2 ≡ b / 2 = sym (shifted-even a even_a) ∙ e ∙ shifted-even b even_b in
        omega arith
    | inr odd_b ↦ absurd (highest_set a b ha hb (sym (shifted-even a even_a) ∙ e ∙ shifted-odd b (omega arith)))
  ]
  | inr odd_a ↦ elim (cases_eq (b % 2) 0) [
    | inl even_b ↦ absurd (highest_set b a hb ha (sym (shifted-even b even_b) ∙ sym e ∙ shifted-odd a (omega arith)))
    | inr odd_b ↦
        let halves : a / 2 ≡ b / 2 = same_from_xor (a / 2) (b / 2) polynomial (sym (shifted-odd a (omega arith)) ∙ e ∙ shifted-odd b (omega arith)) in
        omega arith
  ]
]

-- ---- bytes

module _ (a b : ℕ) (ha : a < 2 ^ 32) (hb : b < 2 ^ 32) where
  after_byte_fits : after_byte a b < 2 ^ 32
  unfolding after_byte
  after_byte_fits =
      shifted_fits _ (shifted_fits _ (shifted_fits _ (shifted_fits _ (shifted_fits _ (shifted_fits _ (shifted_fits _ (shifted_fits _ (xor_of_32 a b ha hb))))))))

fold_fits : (bytes : List ℕ) (a : ℕ) → a < 2 ^ 32 → AllByRecursion (λ b. b < 256) bytes → fold after_byte a bytes < 2 ^ 32
fold_fits [] a h all = h
fold_fits (b ∷ bytes) a h all = let small = all.0 in fold_fits bytes (after_byte a b) (after_byte_fits a b h (omega arith)) all.1

-- ---- registers that are one afterwards were one before

module _ (a b : ℕ) (ha : a < 2 ^ 32) (hb : b < 2 ^ 32) where
  same_from_two : shifted (shifted a) ≡ shifted (shifted b) → a ≡ b
  same_from_two e = same_from_shifted a b ha hb (same_from_shifted (shifted a) (shifted b) (shifted_fits a ha) (shifted_fits b hb) e)

two_fit : (a : ℕ) → a < 2 ^ 32 → shifted (shifted a) < 2 ^ 32
two_fit a h = shifted_fits (shifted a) (shifted_fits a h)

module _ (a b : ℕ) (ha : a < 2 ^ 32) (hb : b < 2 ^ 32) where
  same_from_four : shifted (shifted (shifted (shifted a))) ≡ shifted (shifted (shifted (shifted b))) → a ≡ b
  same_from_four e = same_from_two a b ha hb (same_from_two (shifted (shifted a)) (shifted (shifted b)) (two_fit a ha) (two_fit b hb) e)

module _ (a b : ℕ) (ha : a < 2 ^ 32) (hb : b < 2 ^ 32) where
  same_from_eight : after_byte 0 a ≡ after_byte 0 b → a ≡ b
  unfolding after_byte
  same_from_eight e =
      same_from_four a b ha hb
      (same_from_four (shifted (shifted (shifted (shifted a)))) (shifted (shifted (shifted (shifted b)))) (two_fit _ (two_fit a ha)) (two_fit _ (two_fit b hb)) e)

  same_from_after_zero : after_byte a 0 ≡ after_byte b 0 → a ≡ b
  same_from_after_zero e = same_from_eight (after_byte-xor 0 a ∙ e ∙ sym (after_byte-xor 0 b))

same_from_after_zeros : (n a b : ℕ) → a < 2 ^ 32 → b < 2 ^ 32 → after_zeros n a ≡ after_zeros n b → a ≡ b
unfolding after_zeros
same_from_after_zeros zero a b ha hb e = e
same_from_after_zeros (suc n) a b ha hb e =
    same_from_after_zero a b ha hb
    (same_from_after_zeros n (after_byte a 0) (after_byte b 0) (after_byte_fits a 0 ha (omega arith)) (after_byte_fits b 0 hb (omega arith)) e)

-- the same bytes after two registers
same_from_rest : (rest : List ℕ) (a b : ℕ) → a < 2 ^ 32 → b < 2 ^ 32 → fold after_byte a rest ≡ fold after_byte b rest → a ≡ b
same_from_rest rest a b ha hb e =
    same_from_after_zeros (length rest) a b ha hb
    (same_from_xor (after_zeros (length rest) a) (after_zeros (length rest) b) (fold after_byte 0 rest) (sym (fold-apart a rest) ∙ e ∙ fold-apart b rest))

-- ---- four bytes and fewer

low_first_below : (bytes : List ℕ) → AllByRecursion (λ b. b < 256) bytes → low_first bytes < 256 ^ length bytes
low_first_below [] all = omega arith
low_first_below (b ∷ bytes) all =
    let small = all.0 in
    let rest = low_first_below bytes all.1 in
    rw pow-suc (omega arith)

low_first_fits : (bytes : List ℕ) → AllByRecursion (λ b. b < 256) bytes → length bytes ≤ 4 → low_first bytes < 2 ^ 32
low_first_fits bytes all short =
    let most : 256 ^ length bytes ≤ 256 ^ 4 = pow-le-pow_right (omega arith) short in
    let below = low_first_below bytes all in
    omega arith

same_from_low_first : (xs ys : List ℕ) → AllByRecursion (λ b. b < 256) xs → AllByRecursion (λ b. b < 256) ys → length ys ≡ length xs
    → low_first xs ≡ low_first ys → xs ≡ ys
same_from_low_first [] [] hx hy l e = refl
same_from_low_first [] (y ∷ ys) hx hy l e = absurd (omega arith)
same_from_low_first (x ∷ xs) [] hx hy l e = absurd (omega arith)
same_from_low_first (x ∷ xs) (y ∷ ys) hx hy l e =
    let x_small = hx.0 in
    let y_small = hy.0 in
    let first : x ≡ y = omega arith in
    let rest = same_from_low_first xs ys hx.1 hy.1 (omega arith) (omega arith) in
    cc

-- the same register before two short runs
same_run : (a : ℕ) (run other : List ℕ) → a < 2 ^ 32 → AllByRecursion (λ b. b < 256) run → AllByRecursion (λ b. b < 256) other
    → length other ≡ length run → length run ≤ 4 → fold after_byte a run ≡ fold after_byte a other → run ≡ other
same_run a run other ha hr ho same short e =
    let x = low_first run in
    let y = low_first other in
    let x_fits = low_first_fits run hr short in
    let y_fits = low_first_fits other ho (omega arith) in
    let entered : after_zeros (length run) (bit_xor a x) ≡ after_zeros (length run) (bit_xor a y) =
    sym (enter_all a run hr) ∙ e ∙ enter_all a other ho ∙ ap (λ n. after_zeros n (bit_xor a y)) same in
    let sums = same_from_after_zeros (length run) (bit_xor a x) (bit_xor a y) (xor_of_32 a x ha x_fits) (xor_of_32 a y ha y_fits) entered in
    same_from_low_first run other hr ho same (same_from_xor x y a (xor_comm x a ∙ sums ∙ xor_comm a y))

-- ---- a run within other bytes

all_left : (xs ys : List ℕ) → AllByRecursion (λ b. b < 256) (xs ++ ys) → AllByRecursion (λ b. b < 256) xs
all_left [] ys h = tt
all_left (x ∷ xs) ys h = (h.0, all_left xs ys h.1)

all_right : (xs ys : List ℕ) → AllByRecursion (λ b. b < 256) (xs ++ ys) → AllByRecursion (λ b. b < 256) ys
all_right [] ys h = h
all_right (x ∷ xs) ys h = all_right xs ys h.1

pub same_from_crc32_of : (front run other back : List ℕ)
    → AllByRecursion (λ b. b < 256) (front ++ run ++ back) → AllByRecursion (λ b. b < 256) (front ++ other ++ back)
    → length other ≡ length run → length run ≤ 4 → crc32_of (front ++ run ++ back) ≡ crc32_of (front ++ other ++ back) → run ≡ other
unfolding crc32_of
same_from_crc32_of front run other back hr ho same short e =
    let start : ℕ = 0xFFFF_FFFF in
    let middle = fold after_byte start front in
    let run_bytes = all_left (front ++ run) back hr in
    let other_bytes = all_left (front ++ other) back ho in
    let fits = fold_fits front start (omega arith) (all_left front run run_bytes) in
    let split : (xs : List ℕ) → fold after_byte start (front ++ xs ++ back) ≡ fold after_byte (fold after_byte middle xs) back = λ (xs : List ℕ).
    fold-append after_byte start (front ++ xs) back ∙ ap (λ x. fold after_byte x back) (fold-append after_byte start front xs) in
    let registers = same_from_xor (fold after_byte start (front ++ run ++ back)) (fold after_byte start (front ++ other ++ back)) start e in
    same_run middle run other fits (all_right front run run_bytes) (all_right front other other_bytes) same short
    (same_from_rest back (fold after_byte middle run) (fold after_byte middle other)
    (fold_fits run middle fits (all_right front run run_bytes)) (fold_fits other middle fits (all_right front other other_bytes))
    (sym (split run) ∙ registers ∙ split other))

all_from_places : (xs : List ℕ) → ((i : ℕ) → i < length xs → get_or xs i 0 < 256) → AllByRecursion (λ b. b < 256) xs
all_from_places [] h = tt
all_from_places (x ∷ xs) h = (h 0 (omega arith), all_from_places xs (λ i l. h (suc i) (omega arith)))

-- a change in a run of up to four neighbouring bytes changes the checksum
pub crc32_of-IsChangedRun : (sent received : List ℕ)
    → ((i : ℕ) → i < length sent → get_or sent i 0 < 256) → ((i : ℕ) → i < length received → get_or received i 0 < 256)
    → IsChangedRun sent received → crc32_of received ≢ crc32_of sent
crc32_of-IsChangedRun sent received hs hr change e =
    let sent_bytes = all_from_places sent hs in
    let received_bytes = all_from_places received hr in
    change.changed
    (sym (same_from_crc32_of change.front change.run change.other change.back
    (subst (λ xs. AllByRecursion (λ b. b < 256) xs) change.sent_is sent_bytes)
    (subst (λ xs. AllByRecursion (λ b. b < 256) xs) change.received_is received_bytes)
    change.as_many change.up_to_four
    (ap crc32_of (sym change.sent_is) ∙ sym e ∙ ap crc32_of change.received_is)))
