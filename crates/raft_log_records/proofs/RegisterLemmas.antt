-- The register of CRC-32 is linear over `xor`, so what a byte leaves can be looked up apart from the others.
use Rattle.std.proofs.Common.{◌≡◌, ℕ, zero, suc, ◌+◌, ◌*◌, ◌/◌, ◌%◌, ◌<◌, inl, inr, List, [], ◌∷◌, length, refl, sym, ap, ◌∙◌, arith, add-zero, add-one, add-suc}
use Rattle.std.specs.Prelude.{bit_xor, fold}
use Rattle.std.specs.List.{AllByRecursion}
use Rattle.std.specs.Int.Bits.{xor_assoc, xor_zero_r, xor_self}
use Rattle.std.proofs.lemmas.Nat.{xor_comm, xor_shr, xor_mod, xor_block}
use Rattle.std.proofs.lemmas.Bool.{cases_eq, eq-eqb, ne_eqb}
use Rattle.raft_log_records.specs.Checksum.{shifted, after_byte, after_zeros}

-- ---- one bit

pub shifted-even : (a : ℕ) → a % 2 ≡ 0 → shifted a ≡ a / 2
unfolding shifted
shifted-even a even = rw (eq-eqb _ _ even) refl

pub shifted-odd : (a : ℕ) → a % 2 ≡ 1 → shifted a ≡ bit_xor (a / 2) 0xEDB8_8320
unfolding shifted
shifted-odd a odd = rw (ne_eqb (a % 2) 0 (λ even. absurd (omega arith))) refl

half-xor : (a b : ℕ) → bit_xor a b / 2 ≡ bit_xor (a / 2) (b / 2)
half-xor a b = xor_shr a b 1

lowest-xor : (a b : ℕ) → bit_xor a b % 2 ≡ bit_xor (a % 2) (b % 2)
lowest-xor a b = xor_mod a b 1

-- two sums, term by term
xor_pairs : (a b c d : ℕ) → bit_xor (bit_xor a b) (bit_xor c d) ≡ bit_xor (bit_xor a c) (bit_xor b d)
xor_pairs a b c d =
    xor_assoc a b (bit_xor c d) ∙ ap (bit_xor a) (sym (xor_assoc b c d) ∙ ap (λ x. bit_xor x d) (xor_comm b c) ∙ xor_assoc c b d)
    ∙ sym (xor_assoc a c (bit_xor b d))

abbrev pub polynomial : ℕ
polynomial = 0xEDB8_8320

xor_twice : (a mask : ℕ) → bit_xor (bit_xor a mask) mask ≡ a
xor_twice a mask = xor_assoc a mask mask ∙ ap (bit_xor a) (xor_self mask) ∙ xor_zero_r a

-- what is complemented alike is alike
pub same_from_xor : (a b mask : ℕ) → bit_xor a mask ≡ bit_xor b mask → a ≡ b
same_from_xor a b mask e = sym (xor_twice a mask) ∙ ap (λ x. bit_xor x mask) e ∙ xor_twice b mask

pub shifted-xor : (a b : ℕ) → shifted (bit_xor a b) ≡ bit_xor (shifted a) (shifted b)
shifted-xor a b = elim (cases_eq (a % 2) 0) [
  | inl p ↦ elim (cases_eq (b % 2) 0) [
    | inl q ↦
        shifted-even _ (lowest-xor a b ∙ simp (p, q)) ∙ half-xor a b
        ∙ sym (rw (shifted-even a p, shifted-even b q) refl)
    | inr q ↦
        let odd : b % 2 ≡ 1 = omega arith in
        shifted-odd _ (lowest-xor a b ∙ simp (p, odd)) ∙ ap (λ x. bit_xor x polynomial) (half-xor a b)
        ∙ xor_assoc (a / 2) (b / 2) polynomial ∙ sym (rw (shifted-even a p, shifted-odd b odd) refl)
  ]
  | inr p ↦
      let odd_a : a % 2 ≡ 1 = omega arith in
      elim (cases_eq (b % 2) 0) [
        | inl q ↦
            shifted-odd _ (lowest-xor a b ∙ simp (odd_a, q)) ∙ ap (λ x. bit_xor x polynomial) (half-xor a b ∙ xor_comm (a / 2) (b / 2))
            ∙ xor_assoc (b / 2) (a / 2) polynomial ∙ xor_comm (b / 2) (bit_xor (a / 2) polynomial)
            ∙ sym (rw (shifted-odd a odd_a, shifted-even b q) refl)
        | inr q ↦
            let odd : b % 2 ≡ 1 = omega arith in
            shifted-even _ (lowest-xor a b ∙ simp (odd_a, odd)) ∙ half-xor a b
            ∙ sym (xor_zero_r _) ∙ ap (bit_xor (bit_xor (a / 2) (b / 2))) (sym (xor_self polynomial))
            ∙ xor_pairs (a / 2) (b / 2) polynomial polynomial
            ∙ sym (rw (shifted-odd a odd_a, shifted-odd b odd) refl)
      ]
]

shifted-twice : (a : ℕ) → shifted (a * 2) ≡ a
shifted-twice a = shifted-even (a * 2) (omega arith) ∙ omega arith

-- ---- one byte

-- the register after a zero byte
after_zero-xor : (a b : ℕ) → after_byte (bit_xor a b) 0 ≡ bit_xor (after_byte a 0) (after_byte b 0)
unfolding after_byte
after_zero-xor a b = simp (xor_zero_r, shifted-xor)

-- a byte enters as an `xor`
pub after_byte-xor : (a b : ℕ) → after_byte a b ≡ after_byte (bit_xor a b) 0
unfolding after_byte
after_byte-xor a b = simp xor_zero_r

-- the upper bytes move down
after_zero-high : (a : ℕ) → after_byte (a * 256) 0 ≡ a
unfolding after_byte
after_zero-high a =
    let e : a * 256 ≡ a * 2 * 2 * 2 * 2 * 2 * 2 * 2 * 2 = omega arith in
    rw e (simp (xor_zero_r, shifted-twice))

xor-high : (a b : ℕ) → b < 256 → bit_xor b (a * 256) ≡ b + a * 256
xor-high a b h =
    let e : b ≡ 0 * 256 + b = omega arith in
    let f : a * 256 ≡ a * 256 + 0 = omega arith in
    ap (λ x. bit_xor x (a * 256)) e ∙ ap (bit_xor (0 * 256 + b)) f ∙ xor_block 8 0 a b 0 h (omega arith)
    ∙ ap (λ x. a * 256 + x) (xor_zero_r b) ∙ omega arith

-- the register after a byte: the upper bytes move down, and the lowest is looked up
pub after_byte-split : (a b : ℕ) → b < 256 → after_byte a b ≡ bit_xor (a / 256) (after_byte (bit_xor (a % 256) b) 0)
after_byte-split a b h =
    let x = bit_xor a b in
    let parts : x ≡ x % 256 + x / 256 * 256 = omega arith in
    let high : x / 256 ≡ a / 256 = xor_shr a b 8 ∙ ap (bit_xor (a / 256)) (omega arith) ∙ xor_zero_r (a / 256) in
    let low : x % 256 ≡ bit_xor (a % 256) b = xor_mod a b 8 ∙ ap (bit_xor (a % 256)) (omega arith) in
    after_byte-xor a b ∙ ap (λ y. after_byte y 0) (parts ∙ sym (xor-high (x / 256) (x % 256) (omega arith)))
    ∙ after_zero-xor (x % 256) (x / 256 * 256) ∙ ap (bit_xor (after_byte (x % 256) 0)) (after_zero-high (x / 256))
    ∙ xor_comm (after_byte (x % 256) 0) (x / 256) ∙ ap (λ y. bit_xor y (after_byte (x % 256) 0)) high
    ∙ ap (λ y. bit_xor (a / 256) (after_byte y 0)) low

-- a number whose lowest byte is b: the byte enters, and the upper ones wait
enter : (a b rest : ℕ) → b < 256 → after_byte (bit_xor a (b + rest * 256)) 0 ≡ bit_xor (after_byte a b) rest
enter a b rest h =
    ap (λ x. after_byte (bit_xor a x) 0) (sym (xor-high rest b h)) ∙ ap (λ x. after_byte x 0) (sym (xor_assoc a b (rest * 256)))
    ∙ after_zero-xor (bit_xor a b) (rest * 256) ∙ ap (bit_xor (after_byte (bit_xor a b) 0)) (after_zero-high rest)
    ∙ ap (λ x. bit_xor x rest) (sym (after_byte-xor a b))

-- ---- several bytes

pub after_zeros-xor : (n a b : ℕ) → after_zeros n (bit_xor a b) ≡ bit_xor (after_zeros n a) (after_zeros n b)
unfolding after_zeros
after_zeros-xor zero a b = refl
after_zeros-xor (suc n) a b = ap (after_zeros n) (after_zero-xor a b) ∙ after_zeros-xor n (after_byte a 0) (after_byte b 0)

-- zero bytes before and after
pub after_zeros-next : (n a : ℕ) → after_zeros (suc n) a ≡ after_byte (after_zeros n a) 0
unfolding after_zeros
after_zeros-next zero a = refl
after_zeros-next (suc n) a = after_zeros-next n (after_byte a 0)

pub after_zeros-add : (m n a : ℕ) → after_zeros (m + n) a ≡ after_zeros m (after_zeros n a)
unfolding after_zeros
after_zeros-add m zero a = ap (λ x. after_zeros x a) (add-zero m)
after_zeros-add m (suc n) a = ap (λ x. after_zeros x a) (add-suc m n) ∙ after_zeros-add m n (after_byte a 0)

-- some bytes as one number, the first the lowest
abbrev pub low_first : List ℕ → ℕ
low_first [] = 0
low_first (b ∷ bytes) = b + low_first bytes * 256

-- some bytes enter at once, as one number
pub enter_all : (a : ℕ) (bytes : List ℕ) → AllByRecursion (λ b. b < 256) bytes
    → fold after_byte a bytes ≡ after_zeros (length bytes) (bit_xor a (low_first bytes))
unfolding after_zeros
enter_all a [] h = sym (xor_zero_r a)
enter_all a (b ∷ bytes) h =
    enter_all (after_byte a b) bytes h.1 ∙ ap (after_zeros (length bytes)) (sym (enter a b (low_first bytes) h.0))

-- the register and some bytes, apart
pub fold-apart : (a : ℕ) (bytes : List ℕ)
    → fold after_byte a bytes ≡ bit_xor (after_zeros (length bytes) a) (fold after_byte 0 bytes)
unfolding after_zeros
fold-apart a [] = sym (xor_zero_r a)
fold-apart a (b ∷ bytes) =
    let before = after_byte a 0 in
    let alone = after_byte b 0 in
    let n = length bytes in
    ap (λ x. fold after_byte x bytes) (after_byte-xor a b ∙ after_zero-xor a b) ∙ fold-apart (bit_xor before alone) bytes
    ∙ ap (λ x. bit_xor x (fold after_byte 0 bytes)) (after_zeros-xor n before alone)
    ∙ xor_assoc (after_zeros n before) (after_zeros n alone) (fold after_byte 0 bytes)
    ∙ ap (bit_xor (after_zeros n before)) (sym (fold-apart alone bytes) ∙ ap (λ x. fold after_byte x bytes) (sym (after_byte-xor 0 b)))

pub after_zeros-none : (a : ℕ) → after_zeros 0 a ≡ a
unfolding after_zeros
after_zeros-none a = refl

-- an empty register stays empty
pub after_zeros-zero : (n : ℕ) → after_zeros n 0 ≡ 0
unfolding after_zeros
after_zeros-zero zero = refl
after_zeros-zero (suc n) = ap (after_zeros n) (after_zero-high 0) ∙ after_zeros-zero n

-- what a byte leaves after n zero bytes, apart from the register before it
pub after_one-apart : (n a b : ℕ) → after_zeros n (after_byte a b) ≡ bit_xor (after_zeros (n + 1) a) (after_zeros (n + 1) b)
unfolding after_zeros
after_one-apart n a b =
    ap (after_zeros n) (after_byte-xor a b) ∙ after_zeros-xor (suc n) a b
    ∙ ap (λ k. bit_xor (after_zeros k a) (after_zeros k b)) (sym (add-one n))
