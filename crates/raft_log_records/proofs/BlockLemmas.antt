-- Four and sixteen bytes at a time leave what one at a time leave.
use Rattle.std.proofs.Common.{◌≡◌, ℕ, zero, suc, ◌+◌, ◌*◌, ◌/◌, ◌%◌, ◌^◌, ◌<◌, List, [], ◌∷◌, length, refl, sym, ap, ◌∙◌, arith}
use Rattle.std.proofs.Common.{zero-add, add-one, get_or, take, drop, drop-cons}
use Rattle.std.specs.Prelude.{bit_xor, fold, map}
use Rattle.std.specs.List.{range_with_len}
use Rattle.std.specs.Simd.{first_chunks}
use Rattle.std.proofs.Math.ListN.{drop_of_length-le}
use Rattle.std.proofs.Math.Nat.{suc-mul, zero-mul}
use Rattle.std.proofs.Math.Seq.{take-add}
use Rattle.std.proofs.lemmas.List.{take-append-drop}
use Rattle.std.proofs.lemmas.List.Sums.{fold-append}
use Rattle.std.proofs.lemmas.Nat.{xor_of_32}
use Rattle.raft_log_records.specs.Checksum.{after_byte, after_zeros}
use Rattle.raft_log_records.proofs.RegisterLemmas.{low_first, enter_all, fold-apart, after_one-apart, after_zeros-add, after_zeros-none, after_zeros-xor, after_zeros-zero}

-- ---- lists spelled out

spelled_from : (n : ℕ) (bytes : List ℕ) (i : ℕ) → i + n ≡ length bytes → drop i bytes ≡ map (λ k. get_or bytes k 0) (range_with_len i n)
spelled_from zero bytes i all = drop_of_length-le bytes (omega arith)
spelled_from (suc n) bytes i all =
    drop-cons bytes i 0 (omega arith) ∙ ap (λ k. get_or bytes i 0 ∷ drop k bytes) (sym (add-one i))
    ∙ ap (λ xs. get_or bytes i 0 ∷ xs) (spelled_from n bytes (i + 1) (omega arith))

pub spelled_out : (n : ℕ) (bytes : List ℕ) → length bytes ≡ n → bytes ≡ map (λ k. get_or bytes k 0) (range_with_len 0 n)
spelled_out n bytes all = spelled_from n bytes 0 (zero-add n ∙ sym all)

-- ---- four bytes

-- what four bytes leave after n zero bytes, each looked up apart
pub after_four : (n p q r s : ℕ)
    → bit_xor (bit_xor (bit_xor (after_zeros (n + 3 + 1) p) (after_zeros (n + 2 + 1) q)) (after_zeros (n + 1 + 1) r)) (after_zeros (n + 1) s)
    ≡ after_zeros n (fold after_byte 0 (p ∷ q ∷ r ∷ s ∷ []))
after_four n p q r s =
    let first : n + 3 + 1 ≡ n + 1 + 1 + 1 + 1 = omega arith in
    let second : n + 2 + 1 ≡ n + 1 + 1 + 1 = omega arith in
    rw (first, second) (sym (simp (after_one-apart, after_zeros-zero)))

-- the four bytes of a number
abbrev pub four_of : ℕ → List ℕ
four_of n = n % 256 ∷ n / 256 % 256 ∷ n / 65536 % 256 ∷ n / 16777216 % 256 ∷ []

four_of-low_first : (n : ℕ) → n < 2 ^ 32 → low_first (four_of n) ≡ n
four_of-low_first n h = omega arith

-- four bytes enter the register as one number
pub enter_four : (a word : ℕ) (bytes : List ℕ) → length bytes ≡ 4 → ((i : ℕ) → i < 4 → get_or bytes i 0 < 256) → a < 2 ^ 32 → word < 2 ^ 32
    → word ≡ get_or bytes 0 0 + get_or bytes 1 0 * 256 + get_or bytes 2 0 * 65536 + get_or bytes 3 0 * 16777216
    → fold after_byte 0 (four_of (bit_xor a word)) ≡ fold after_byte a bytes
enter_four a word bytes four fits ha hw is =
    let sum = bit_xor a word in
    let spelled = map (λ k. get_or bytes k 0) (range_with_len 0 4) in
    let same : low_first spelled ≡ word = omega arith in
    enter_all 0 (four_of sum) (omega arith, (omega arith, (omega arith, (omega arith, tt))))
    ∙ ap (after_zeros 4) (four_of-low_first sum (xor_of_32 a word ha hw) ∙ ap (bit_xor a) (sym same))
    ∙ sym (enter_all a spelled (fits 0 (omega arith), (fits 1 (omega arith), (fits 2 (omega arith), (fits 3 (omega arith), tt)))))
    ∙ ap (fold after_byte a) (sym (spelled_out 4 bytes four))

-- ---- sixteen bytes

-- four bytes more after two sums
more_four : (a b : ℕ) (bytes : List ℕ) → length bytes ≡ 4
    → fold after_byte (bit_xor a b) bytes ≡ bit_xor (bit_xor (after_zeros 4 a) (after_zeros 4 b)) (fold after_byte 0 bytes)
more_four a b bytes four = fold-apart (bit_xor a b) bytes ∙ rw (four, after_zeros-xor) refl

module _ (a : ℕ) (x y z : List ℕ) (x_four : length x ≡ 4) (y_four : length y ≡ 4) (z_four : length z ≡ 4) where
  after_x : fold after_byte a x ≡ bit_xor (after_zeros 4 a) (fold after_byte 0 x)
  after_x = fold-apart a x ∙ rw x_four refl

  after_xy : fold after_byte (fold after_byte a x) y
      ≡ bit_xor (bit_xor (after_zeros 8 a) (after_zeros 4 (fold after_byte 0 x))) (fold after_byte 0 y)
  after_xy =
      ap (λ v. fold after_byte v y) after_x ∙ more_four (after_zeros 4 a) (fold after_byte 0 x) y y_four
      ∙ rw (← after_zeros-add 4 4 a) refl

  pub after_xyz : fold after_byte (fold after_byte (fold after_byte a x) y) z
      ≡ bit_xor (bit_xor (bit_xor (after_zeros 12 a) (after_zeros 8 (fold after_byte 0 x))) (after_zeros 4 (fold after_byte 0 y))) (fold after_byte 0 z)
  after_xyz =
      let far = after_zeros 8 a in
      let near = after_zeros 4 (fold after_byte 0 x) in
      ap (λ v. fold after_byte v z) after_xy ∙ more_four (bit_xor far near) (fold after_byte 0 y) z z_four
      ∙ rw (after_zeros-xor 4 far near, ← after_zeros-add 4 8 a, ← after_zeros-add 4 4 (fold after_byte 0 x)) refl

module _ (a : ℕ) (block : List ℕ) where
  abbrev pub part : ℕ → List ℕ
  part i = get_or block i 0 ∷ get_or block (i + 1) 0 ∷ get_or block (i + 2) 0 ∷ get_or block (i + 3) 0 ∷ []

  -- sixteen bytes, four and four, each four followed by as many zero bytes as come after them
  pub by_fours : length block ≡ 16 → (first : List ℕ) → fold after_byte 0 first ≡ fold after_byte a (part 0)
      → (p q r s : ℕ) → p ≡ after_zeros 12 (fold after_byte 0 first) → q ≡ after_zeros 8 (fold after_byte 0 (part 4))
      → r ≡ after_zeros 4 (fold after_byte 0 (part 8)) → s ≡ after_zeros 0 (fold after_byte 0 (part 12))
      → bit_xor (bit_xor (bit_xor p q) r) s ≡ fold after_byte a block
  by_fours long first entered p q r s hp hq hr hs =
      let before = fold after_byte a (part 0) in
      rw (hp, hq, hr, hs, entered, after_zeros-none)
      (sym (after_xyz before (part 4) (part 8) (part 12) refl refl refl) ∙ ap (fold after_byte a) (sym (spelled_out 16 block long)))

-- ---- blocks

-- block by block is byte by byte
pub fold_blocks : (n k a : ℕ) (bytes : List ℕ)
    → fold (fold after_byte) a (first_chunks n k bytes) ≡ fold after_byte a (take (k * n) bytes)
fold_blocks n zero a bytes = ap (λ m. fold after_byte a (take m bytes)) (sym (zero-mul n))
fold_blocks n (suc k) a bytes =
    fold_blocks n k (fold after_byte a (take n bytes)) (drop n bytes)
    ∙ sym (fold-append after_byte a (take n bytes) (take (k * n) (drop n bytes)))
    ∙ ap (fold after_byte a) (sym (take-add n (k * n) bytes))
    ∙ ap (λ m. fold after_byte a (take m bytes)) (omega (arith, suc-mul k n))

-- the blocks, and then the bytes after the last whole one
pub fold_chunks : (n k a : ℕ) (bytes : List ℕ)
    → fold after_byte (fold (fold after_byte) a (first_chunks n k bytes)) (drop (k * n) bytes) ≡ fold after_byte a bytes
fold_chunks n k a bytes =
    ap (λ x. fold after_byte x (drop (k * n) bytes)) (fold_blocks n k a bytes)
    ∙ sym (fold-append after_byte a (take (k * n) bytes) (drop (k * n) bytes)) ∙ ap (fold after_byte a) (take-append-drop (k * n) bytes)
