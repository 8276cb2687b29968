-- A header that was written is read as it was, and what is read is spelled so.
use Rattle.std.proofs.Common.{◌≡◌, ◌⊎◌, inl, inr, ℕ, zero, suc, ◌+◌, ◌^◌, ◌<◌, ◌≤◌, Bool, true, false, cond, not, nat_lt, eqb, List, [], ◌∷◌, ◌++◌, length, get_or, take, drop, Result, Ok, Err, refl, sym, ap, subst, ◌∙◌, arith, append_assoc}
use Rattle.std.specs.Int.{w64, from_be_bytes, to_be_bytes}
use Rattle.std.proofs.lemmas.Bool.{le-ltb, ltb-false, eqb-true, not-false}
use Rattle.std.proofs.lemmas.Nat.{be_bytes_8, from_be_bytes-to_be_bytes_8}
use Rattle.std.proofs.lemmas.List.{length-append, length-drop, length-take-le, take_at, drop_at, drop-drop}
use Rattle.std.proofs.Math.Seq.{take-add}
use lib.Pointwise.{bytes_decides}
use Rattle.raft_log_records.specs.declared.version.Version.{Version}
use Rattle.raft_log_records.specs.declared.version.Version.TheVariants.{V1, V2}
use Rattle.raft_log_disk.specs.declared.format.LogFileFormat.{LogFileFormat}
use Rattle.raft_log_disk.specs.declared.format.HeaderFault.{HeaderFault}
use Rattle.raft_log_disk.specs.declared.format.HeaderFault.TheVariants.{CutShort, NoHeader, BadVersion}
use Rattle.raft_log_disk.specs.Text.{Text, same_text}
use Rattle.raft_log_disk.specs.Disk.{AreBytes}
use Rattle.raft_log_disk.specs.Format.{magic, header_len, header_at, spelled_header, versioned, IsSpellable}
use Rattle.raft_log_disk.proofs.NameLemmas.{same_text-self}
use Rattle.raft_log_disk.proofs.RecoverableLemmas.{bytes_taken, bytes_dropped}

-- ---- what was written

by_parts : (bytes : List ℕ) (v : ℕ) (rest : List ℕ) → nat_lt (length bytes) 61 ≡ false → same_text (take 53 bytes) magic ≡ true
    → from_be_bytes w64 (take 8 (drop 53 bytes)) ≡ v → drop 61 bytes ≡ rest → header_at bytes ≡ versioned v rest
by_parts bytes v rest long same number whole = rw (long, same, number, whole) refl

-- a text of 53 bytes, eight bytes, and more
record IsFront (text : List ℕ) (m : Text) (v : ℕ) (rest : List ℕ) : Type 0 where
  pub long : 61 ≤ length text
  pub front : take 53 text ≡ m
  pub number : take 8 (drop 53 text) ≡ to_be_bytes w64 v
  pub behind : drop 61 text ≡ rest

front_of : (m : Text) (v : ℕ) (rest : List ℕ) → length m ≡ 53 → IsFront (m ++ (to_be_bytes w64 v ++ rest)) m v rest
front_of m v rest len =
    let text : List ℕ = m ++ (to_be_bytes w64 v ++ rest) in
    let after : drop 53 text ≡ to_be_bytes w64 v ++ rest = drop_at m (to_be_bytes w64 v ++ rest) 53 len in
    let wide : length (to_be_bytes w64 v) ≡ 8 = refl in
    record {
      long = omega (arith, length-append m (to_be_bytes w64 v ++ rest), length-append (to_be_bytes w64 v) rest, len, wide);
      front = take_at m (to_be_bytes w64 v ++ rest) 53 len;
      number = ap (take 8) after ∙ take_at (to_be_bytes w64 v) rest 8 wide;
      behind = sym (drop-drop 8 53 text) ∙ ap (drop 8) after ∙ drop_at (to_be_bytes w64 v) rest 8 wide;
    }

read_front : (text : List ℕ) (v : ℕ) (rest : List ℕ) → v < 2 ^ 64 → IsFront text magic v rest → header_at text ≡ versioned v rest
read_front text v rest fits f =
    by_parts text v rest (le-ltb (length text) 61 f.long) (ap (λ (t : Text). same_text t magic) f.front ∙ same_text-self magic)
    (ap (from_be_bytes w64) f.number ∙ from_be_bytes-to_be_bytes_8 v fits) f.behind

alignment_read : (a : ℕ) (rest : List ℕ) → nat_lt (length rest) 8 ≡ false → from_be_bytes w64 (take 8 rest) ≡ a → versioned 2 rest ≡ Ok (record { version = V2; alignment = a })
alignment_read a rest long is = rw (long, is) refl

second_version : (a : ℕ) (rest : List ℕ) → a < 2 ^ 64 → versioned 2 (to_be_bytes w64 a ++ rest) ≡ Ok (record { version = V2; alignment = a })
second_version a rest fits =
    let wide : length (to_be_bytes w64 a) ≡ 8 = refl in
    alignment_read a (to_be_bytes w64 a ++ rest) (le-ltb (length (to_be_bytes w64 a ++ rest)) 8 (omega (arith, length-append (to_be_bytes w64 a) rest, wide)))
    (ap (from_be_bytes w64) (take_at (to_be_bytes w64 a) rest 8 wide) ∙ from_be_bytes-to_be_bytes_8 a fits)

pub header_again : (v : Version) (a : ℕ) (rest : List ℕ) → IsSpellable (record { version = v; alignment = a })
    → header_at (spelled_header (record { version = v; alignment = a }) ++ rest) ≡ Ok (record { version = v; alignment = a })
header_again V1 a rest s =
    ap header_at (append_assoc magic (to_be_bytes w64 1) rest)
    ∙ read_front _ 1 rest (omega arith) (front_of magic 1 rest refl)
    ∙ ap (λ n. Ok (record { version = V1; alignment = n })) (sym (s.1 refl))
header_again V2 a rest s =
    ap header_at (append_assoc magic (to_be_bytes w64 2 ++ to_be_bytes w64 a) rest
    ∙ ap (λ (l : List ℕ). magic ++ l) (append_assoc (to_be_bytes w64 2) (to_be_bytes w64 a) rest))
    ∙ read_front _ 2 (to_be_bytes w64 a ++ rest) (omega arith) (front_of magic 2 (to_be_bytes w64 a ++ rest) refl)
    ∙ second_version a rest s.0

-- ---- what is read

-- a test that did not fail, and what came after it
guard_then : (b : Bool) (d : HeaderFault) (r : Result LogFileFormat HeaderFault) (f : LogFileFormat) → cond b (Err d) r ≡ Ok f → (b ≡ false) × (r ≡ Ok f)
guard_then true d r f e = absurd cc
guard_then false d r f e = (refl, e)

-- what a version and what follows it were read as
abbrev AreRead : ℕ → List ℕ → LogFileFormat → Type 0
AreRead v rest f = ((v ≡ 1) × (f ≡ record { version = V1; alignment = 0 }))
    ⊎ ((v ≡ 2) × (8 ≤ length rest) × (f ≡ record { version = V2; alignment = from_be_bytes w64 (take 8 rest) }))

version_read : (b : Bool) (v : ℕ) (rest : List ℕ) (f : LogFileFormat) → eqb v 1 ≡ b
    → cond b (Ok (record { version = V1; alignment = 0 })) (cond (not (eqb v 2)) (Err BadVersion)
    (cond (nat_lt (length rest) 8) (Err CutShort) (Ok (record { version = V2; alignment = from_be_bytes w64 (take 8 rest) })))) ≡ Ok f
    → AreRead v rest f
version_read true v rest f is e = inl (eqb-true v 1 is, cc)
version_read false v rest f is e =
    let g = guard_then (not (eqb v 2)) BadVersion _ f e in
    let h = guard_then (nat_lt (length rest) 8) CutShort _ f g.1 in
    inr (eqb-true v 2 (not-false (eqb v 2) g.0), ltb-false _ _ h.0, cc)

each_byte : (bytes : List ℕ) → AreBytes bytes → (i : ℕ) → get_or bytes i 0 < 256
each_byte [] fits i = omega arith
each_byte (b ∷ bs) fits zero = fits.0
each_byte (b ∷ bs) fits (suc i) = each_byte bs fits.1 i

-- eight bytes from a place on, which a number was read from
record IsNumber (bytes : List ℕ) (i n : ℕ) : Type 0 where
  pub spelled : to_be_bytes w64 n ≡ take 8 (drop i bytes)
  pub below : n < 2 ^ 64

number_at : (bytes : List ℕ) (i n : ℕ) → i + 8 ≤ length bytes → AreBytes bytes → n ≡ from_be_bytes w64 (take 8 (drop i bytes)) → IsNumber bytes i n
number_at bytes i n long fits is =
    let eight : List ℕ = take 8 (drop i bytes) in
    let byte : (k : ℕ) → get_or eight k 0 < 256 = each_byte eight (bytes_taken 8 (drop i bytes) (bytes_dropped i bytes fits)) in
    record {
      spelled = be_bytes_8 eight n (length-take-le 8 (drop i bytes) (omega (arith, length-drop i bytes))) byte is;
      below = omega (arith, is, byte 0, byte 1, byte 2, byte 3, byte 4, byte 5, byte 6, byte 7);
    }

-- the header of a format stands at the front
pub record IsSpelled (bytes : List ℕ) (f : LogFileFormat) : Type 0 where
  pub front : take (header_len f.version) bytes ≡ spelled_header f
  pub spellable : IsSpellable f

first_spelled : (bytes : List ℕ) → AreBytes bytes → 61 ≤ length bytes → take 53 bytes ≡ magic → from_be_bytes w64 (take 8 (drop 53 bytes)) ≡ 1
    → IsSpelled bytes (record { version = V1; alignment = 0 })
first_spelled bytes fits long text is =
    let number = number_at bytes 53 1 (omega arith) fits (sym is) in
    record {
      front = take-add 53 8 bytes ∙ (λ i. text i ++ sym number.spelled i);
      spellable = (omega arith, λ _. refl);
    }

second_spelled : (bytes : List ℕ) (a : ℕ) → AreBytes bytes → 61 ≤ length bytes → take 53 bytes ≡ magic → from_be_bytes w64 (take 8 (drop 53 bytes)) ≡ 2
    → 8 ≤ length (drop 61 bytes) → a ≡ from_be_bytes w64 (take 8 (drop 61 bytes)) → IsSpelled bytes (record { version = V2; alignment = a })
second_spelled bytes a fits long text is more alignment =
    let number = number_at bytes 53 2 (omega arith) fits (sym is) in
    let behind = number_at bytes 61 a (omega (arith, length-drop 61 bytes)) fits alignment in
    record {
      front = take-add 61 8 bytes ∙ (λ i. take-add 53 8 bytes i ++ sym behind.spelled i) ∙ (λ i. (text i ++ sym number.spelled i) ++ to_be_bytes w64 a)
          ∙ append_assoc magic (to_be_bytes w64 2) (to_be_bytes w64 a);
      spellable = (behind.below, λ e. absurd cc);
    }

pub header_spelled : (bytes : List ℕ) (f : LogFileFormat) → AreBytes bytes → header_at bytes ≡ Ok f → IsSpelled bytes f
header_spelled bytes f fits e =
    let g = guard_then (nat_lt (length bytes) 61) CutShort _ f e in
    let h = guard_then (not (same_text (take 53 bytes) magic)) NoHeader _ f g.1 in
    let long : 61 ≤ length bytes = ltb-false _ _ g.0 in
    let text : take 53 bytes ≡ magic = (bytes_decides (take 53 bytes) magic).0 (not-false _ h.0) in
    elim (version_read _ (from_be_bytes w64 (take 8 (drop 53 bytes))) (drop 61 bytes) f refl h.1) [
      | inl w ↦ subst (IsSpelled bytes) (sym w.1) (first_spelled bytes fits long text w.0)
      | inr w ↦ subst (IsSpelled bytes) (sym w.2) (second_spelled bytes _ fits long text w.0 w.1 refl)
    ]
