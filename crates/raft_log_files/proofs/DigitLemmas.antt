-- Decimal digits and the numbers that they spell.
use Rattle.std.proofs.Common.{◌≡◌, ℕ, zero, suc, ◌+◌, ◌-◌, ◌*◌, ◌/◌, ◌%◌, ◌^◌, ◌<◌, ◌≤◌, true, cond, nat_lt, Option, Some, None, List, [], ◌∷◌, ◌++◌, length, get_or, take, drop, refl, sym, ap, ◌∙◌, arith, length-append}
use Rattle.std.proofs.Math.Nat.{pow-suc}
use Rattle.std.proofs.lemmas.Bool.{and_parts, lt-ltb}
use Rattle.std.proofs.lemmas.Bool.Decides.{nat_tests}
use Rattle.std.proofs.lemmas.List.{take_all, take-append-drop, length-take-le}
use Rattle.std.proofs.lemmas.List.Folds.{list_all-append, list_all_more}
use Rattle.std.specs.List.{list_all}
use Rattle.std.proofs.Math.Seq.{take-append_seam, drop-append_seam}
use Rattle.raft_log_disk.specs.Name.{digits, is_digit, value_of, file_name, suffix_of}
use Rattle.raft_log_disk.proofs.DigitLemmas.{value_of-last, split_last, last_is_digit, value_of-lt}
use Rattle.raft_log_records.specs.declared.file_id.FileId.{FileId}
use Rattle.raft_log_files.specs.FileName.{suffixed}

pub length-digits : (k n : ℕ) → length (digits k n) ≡ k
length-digits zero n = refl
length-digits (suc k) n = omega (arith, length-append (digits k (n / 10)) ((48 + n % 10) ∷ []), length-digits k (n / 10))

digit_passes : (n : ℕ) → is_digit (48 + n % 10) ≡ true
digit_passes n = grind (arith, nat_tests)

pub digits_are_digits : (k n : ℕ) → list_all is_digit (digits k n) ≡ true
digits_are_digits zero n = refl
digits_are_digits (suc k) n =
    rw (list_all-append is_digit (digits k (n / 10)) ((48 + n % 10) ∷ []), digits_are_digits k (n / 10), digit_passes n)

pub value_of-digits : (k n : ℕ) → n < 10 ^ k → value_of (digits k n) ≡ n
value_of-digits zero n h = omega arith
value_of-digits (suc k) n h =
    let below : n < 10 ^ k * 10 = rw (pow-suc 10 k) at h in
    let front : value_of (digits k (n / 10)) ≡ n / 10 = value_of-digits k (n / 10) (omega arith) in
    omega (arith, value_of-last (digits k (n / 10)) (48 + n % 10), front)

-- so many digits are those of their value
pub digits-value_of : (k : ℕ) (text : List ℕ) → length text ≡ k → list_all is_digit text ≡ true → digits k (value_of text) ≡ text
digits-value_of zero [] h d = refl
digits-value_of zero (c ∷ text) h d = absurd (omega arith)
digits-value_of (suc k) text h d =
    let c : ℕ = get_or text k 0 in
    let parts : text ≡ take k text ++ c ∷ [] = split_last k text h in
    let tests = and_parts (list_all is_digit (take k text)) (is_digit c)
    (sym (list_all_more is_digit text k 0 (omega arith)) ∙ ap (list_all is_digit) (take_all (k + 1) text (omega arith)) ∙ d) in
    let digit = last_is_digit c tests.1 in
    let value : value_of text ≡ value_of (take k text) * 10 + (c - 48) = ap value_of parts ∙ value_of-last (take k text) c in
    let front : value_of text / 10 ≡ value_of (take k text) = omega arith in
    let last : 48 + value_of text % 10 ≡ c = omega arith in
    rw (front, last, digits-value_of k (take k text) (omega (arith, length-take-le k text (omega arith))) tests.0) (sym parts)

-- ---- names

front_of : (k n : ℕ) (suffix : List ℕ) → take k (digits k n ++ suffix) ≡ digits k n
front_of k n suffix =
    ap (λ (i : ℕ). take i (digits k n ++ suffix)) (sym (length-digits k n)) ∙ take-append_seam (digits k n) suffix

behind_of : (k n : ℕ) (suffix : List ℕ) → drop k (digits k n ++ suffix) ≡ suffix
behind_of k n suffix =
    ap (λ (i : ℕ). drop i (digits k n ++ suffix)) (sym (length-digits k n)) ∙ drop-append_seam (digits k n) suffix

-- a text that is so many digits and a suffix
pub record IsSplit (k : ℕ) (name suffix : List ℕ) : Type 0 where
  pub long : k ≤ length name
  pub behind : drop k name ≡ suffix
  pub front : list_all is_digit (take k name) ≡ true

named : (k : ℕ) (name suffix : List ℕ) → IsSplit k name suffix → (value_of (take k name) < 10 ^ k) × (name ≡ digits k (value_of (take k name)) ++ suffix)
named k name suffix s =
    let long : length (take k name) ≡ k = length-take-le k name s.long in (
      value_of-lt k (take k name) long s.front,
      sym (take-append-drop k name) ∙ rw (s.behind, digits-value_of k (take k name) long s.front),
    )

split_of : (k n : ℕ) (suffix name : List ℕ) → n < 10 ^ k → name ≡ digits k n ++ suffix → IsSplit k name suffix × (value_of (take k name) ≡ n)
split_of k n suffix name below is =
    let front : take k name ≡ digits k n = ap (take k) is ∙ front_of k n suffix in
    let whole : length name ≡ length (digits k n) + length suffix = ap length is ∙ length-append (digits k n) suffix in (
      record {
        long = omega (arith, length-digits k n);
        behind = ap (drop k) is ∙ behind_of k n suffix;
        front = ap (list_all is_digit) front ∙ digits_are_digits k n;
      },
      ap value_of front ∙ value_of-digits k n below,
    )

pub name_found : (name suffix : List ℕ) → IsSplit 16 name suffix → (value_of (take 16 name) < 10 ^ 16) × (name ≡ suffixed (value_of (take 16 name)) suffix)
unfolding suffixed
name_found name suffix s = named 16 name suffix s

pub name_split : (n : ℕ) (suffix name : List ℕ) → n < 10 ^ 16 → name ≡ suffixed n suffix → IsSplit 16 name suffix × (value_of (take 16 name) ≡ n)
unfolding suffixed
name_split n suffix name below is = split_of 16 n suffix name below is

-- the name that a crash is judged by is this one
pub file_name-is : (id : FileId) → file_name id ≡ suffixed id.seq (suffix_of id.queue)
unfolding suffixed
file_name-is id = refl

-- what the digits of a name are read as
pub read_value : (r : Option ℕ) (front name suffix : List ℕ) → front ≡ take 16 name → IsSplit 16 name suffix
    → r ≡ cond (nat_lt (value_of front) (2 ^ 64)) (Some (value_of front)) None → r ≡ Some (value_of (take 16 name))
read_value r front name suffix is s read =
    let below : value_of (take 16 name) < 10 ^ 16 = (name_found name suffix s).0 in
    read ∙ rw (is, lt-ltb (value_of (take 16 name)) (2 ^ 64) (omega arith))

pub suffixed_from : (n : ℕ) (front suffix name : List ℕ) → name ≡ front ++ suffix → front ≡ digits 16 n → name ≡ suffixed n suffix
unfolding suffixed
suffixed_from n front suffix name is digits = is ∙ ap (λ (b : List ℕ). b ++ suffix) digits
