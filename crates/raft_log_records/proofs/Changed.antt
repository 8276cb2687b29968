-- A record of which one byte behind its header was changed is refused by a checksum.
use Rattle.std.proofs.Common.{◌≡◌, ◌≢◌, ◌⊎◌, inl, inr, ℕ, zero, suc, ◌-◌, ◌^◌, ◌<◌, Bool, true, false, cond, eqb, List, [], ◌∷◌, ◌++◌, length, take, drop, Option, Some, None, Ok, Err, refl, sym, ap, subst, ◌∙◌, append_assoc, arith, length-append}
use Rattle.std.specs.Prelude.{IfSome}
use Rattle.std.specs.Int.{w32, from_be_bytes, to_be_bytes}
use Rattle.std.proofs.lemmas.Bool.{eqb-true}
use Rattle.std.proofs.lemmas.Nat.{from_be_bytes-to_be_bytes_4, be_bytes_4}
use Rattle.std.proofs.lemmas.List.{take_at, drop_at, append_cancel_left}
use Rattle.raft_log_records.specs.declared.error.RecordFault.{RecordFault}
use Rattle.raft_log_records.specs.Checksum.{crc32_of, IsChangedRun}
use Rattle.raft_log_records.specs.Spelling.{signed, sealed}
use Rattle.raft_log_records.specs.Reading.{unsealed}
use Rattle.raft_log_records.proofs.ChangeLemmas.{crc32_of-IsChangedRun}
use Rattle.raft_bytes.specs.Bytes.{AreBytes}
use Rattle.raft_log_records.proofs.RecordAgain.{crc_fits, signed_fits, front_bytes, back_bytes}
use Rattle.raft_log_records.proofs.RegisterLemmas.{same_from_xor}

-- ---- lists

-- where an element of two joined lists lies
pub joint : {X : Type 0} (a b front back : List X) (x : X) → a ++ b ≡ front ++ x ∷ back
    → ((f : List X) × (front ≡ a ++ f) × (b ≡ f ++ x ∷ back)) ⊎ ((g : List X) × (a ≡ front ++ x ∷ g) × (back ≡ g ++ b))
joint [] b front back x e = inl (front, refl, e)
joint (y ∷ a) b [] back x e =
    let head : y ≡ x = cc in
    let tail : a ++ b ≡ back = cc in
    inr (a, ap (λ z. z ∷ a) head, sym tail)
joint (y ∷ a) b (z ∷ front) back x e =
    let head : z ≡ y = cc in
    let tail : a ++ b ≡ front ++ x ∷ back = cc in
    elim (joint a b front back x tail) [
      | inl p ↦ inl (p.0, rw (head, p.1) refl, p.2)
      | inr p ↦ inr (p.0, rw (head, p.1) refl, p.2)
    ]

-- the bytes with another one in its place
pub other_byte : (front back : List ℕ) (x y : ℕ) → x < 256 → AreBytes (front ++ y ∷ back) → AreBytes (front ++ x ∷ back)
other_byte [] back x y l h zero = l
other_byte [] back x y l h (suc i) = h (suc i)
other_byte (z ∷ front) back x y l h zero = h 0
other_byte (z ∷ front) back x y l h (suc i) = other_byte front back x y l (λ j. h (suc j)) i

same_element : (front back : List ℕ) (x y : ℕ) → front ++ y ∷ back ≡ front ++ x ∷ back → y ≡ x
same_element front back x y e = let t : y ∷ back ≡ x ∷ back = append_cancel_left front (y ∷ back) (x ∷ back) e in cc

-- ---- bytes with their checksum

same_from_signed : (signature : Option ℕ) (a b : ℕ) → signed signature a ≡ signed signature b → a ≡ b
same_from_signed None a b e = e
same_from_signed (Some s) a b e = same_from_xor a b s e

-- what is read of bytes behind which four others stand
unsealed_is : (wrong : RecordFault) (signature : Option ℕ) (body tail : List ℕ) → length tail ≡ 4
    → unsealed wrong signature (body ++ tail) ≡ cond (eqb (from_be_bytes w32 tail) (signed signature (crc32_of body))) (Ok body) (Err wrong)
unfolding unsealed
unsealed_is wrong signature body tail four =
    let n : length (body ++ tail) - 4 ≡ length body = omega (arith, length-append body tail) in
    let front : take (length body) (body ++ tail) ≡ body = take_at body tail (length body) refl in
    let behind : drop (length body) (body ++ tail) ≡ tail = drop_at body tail (length body) refl in
    rw (n, front, behind) refl

refused_unless : (wrong : RecordFault) (signature : Option ℕ) (body tail : List ℕ) → length tail ≡ 4 → (from_be_bytes w32 tail ≡ signed signature (crc32_of body) → ⊥)
    → unsealed wrong signature (body ++ tail) ≡ Err wrong
refused_unless wrong signature body tail four h = unsealed_is wrong signature body tail four ∙ by_test (eqb (from_be_bytes w32 tail) (signed signature (crc32_of body))) refl
  where
    by_test : (b : Bool) → eqb (from_be_bytes w32 tail) (signed signature (crc32_of body)) ≡ b → cond (eqb (from_be_bytes w32 tail) (signed signature (crc32_of body))) (Ok body) (Err wrong) ≡ Err wrong
    by_test true k = absurd (h (eqb-true _ _ k))
    by_test false k = rw k refl

-- a changed byte of bytes with their checksum, or of the checksum
pub changed_seal : (wrong : RecordFault) (signature : Option ℕ) (body front back : List ℕ) (x y : ℕ) → IfSome signature (λ s. s < 2 ^ 32) → AreBytes (front ++ y ∷ back) → x < 256 → y ≢ x
    → sealed signature body ≡ front ++ x ∷ back → unsealed wrong signature (front ++ y ∷ back) ≡ Err wrong
changed_seal wrong signature body front back x y s fits byte other e = elim (joint body tail front back x e) [
  | inl p ↦ in_sum p.0 p.1 p.2
  | inr p ↦ in_body p.0 p.1 p.2
]
  where
    sum : ℕ
    sum = signed signature (crc32_of body)

    tail : List ℕ
    tail = to_be_bytes w32 sum

    body_bytes : AreBytes body
    body_bytes = front_bytes body tail (subst AreBytes (sym e) (other_byte front back x y byte fits))

    sum_is : from_be_bytes w32 tail ≡ sum
    sum_is = from_be_bytes-to_be_bytes_4 sum (signed_fits signature (crc32_of body) s (crc_fits body body_bytes))

    in_body : (g : List ℕ) → body ≡ front ++ x ∷ g → back ≡ g ++ tail → unsealed wrong signature (front ++ y ∷ back) ≡ Err wrong
    in_body g is rest =
        let whole : front ++ y ∷ back ≡ (front ++ y ∷ g) ++ tail = ap (λ l. front ++ y ∷ l) rest ∙ sym (append_assoc front (y ∷ g) tail) in
        let new_bytes : AreBytes (front ++ y ∷ g) = front_bytes (front ++ y ∷ g) tail (subst AreBytes whole fits) in
        let change : IsChangedRun body (front ++ y ∷ g) = record {
          front = front;
          run = x ∷ [];
          other = y ∷ [];
          back = g;
          sent_is = is ∙ sym (append_assoc front (x ∷ []) g);
          received_is = sym (append_assoc front (y ∷ []) g);
          as_many = refl;
          up_to_four = omega arith;
          changed = λ k. other (let t : y ∷ [] ≡ x ∷ [] = k in cc);
        } in
        ap (λ l. unsealed wrong signature l) whole
        ∙ refused_unless wrong signature (front ++ y ∷ g) tail refl
        (λ k. crc32_of-IsChangedRun body (front ++ y ∷ g) (λ i l. body_bytes i) (λ i l. new_bytes i) change (same_from_signed signature _ _ (sym k ∙ sum_is)))

    in_sum : (f : List ℕ) → front ≡ body ++ f → tail ≡ f ++ x ∷ back → unsealed wrong signature (front ++ y ∷ back) ≡ Err wrong
    in_sum f is rest =
        let whole : front ++ y ∷ back ≡ body ++ (f ++ y ∷ back) = ap (λ l. l ++ y ∷ back) is ∙ append_assoc body f (y ∷ back) in
        let new_bytes : AreBytes (f ++ y ∷ back) = back_bytes body (f ++ y ∷ back) (subst AreBytes whole fits) in
        let four : length (f ++ y ∷ back) ≡ 4 = omega (arith, length-append f (y ∷ back), length-append f (x ∷ back), ap length rest) in
        ap (λ l. unsealed wrong signature l) whole
        ∙ refused_unless wrong signature body (f ++ y ∷ back) four
        (λ k. other (same_element f back x y (sym (be_bytes_4 (f ++ y ∷ back) sum four new_bytes (sym k)) ∙ rest)))
