-- Walking the records of some bytes, each looked up among what was written.
use Rattle.std.proofs.Common.{◌≡◌, ℕ, suc, zero, ◌+◌, ◌-◌, ◌<◌, ◌≤◌, List, length, take, drop, Option, Some, None, refl, sym, ap, subst, ◌∙◌, arith, add-zero}
use Rattle.std.specs.Prelude.{Result, Ok, Err, MatchResult}
use Rattle.std.proofs.lemmas.List.{length-drop}
use Rattle.raft_log_records.specs.Reading.{record_at}
use Rattle.raft_log_disk.specs.Disk.{FileState}
use Rattle.raft_log_disk.specs.Chance.{IsWritten, AreWritten, LengthIs, padding}

-- one record of the walk
pub record IsStep (f : FileState) (alignment : ℕ) (signature : Option ℕ) (k at len : ℕ) (rest : List ℕ) : Type 0 where
  pub on : AreWritten f alignment signature (suc k) at rest → IsWritten f at (take len rest) × AreWritten f alignment signature k (at + len) (drop len rest)
  pub back : IsWritten f at (take len rest) → AreWritten f alignment signature k (at + len) (drop len rest) → AreWritten f alignment signature (suc k) at rest

step_at : {X : Type 0} {E : Type 0} (W : ℕ → Type 0) (A : ℕ → Type 0) (Q : Type 0) (len : ℕ) (r : Result X E) (size : X → ℕ) → (is : MatchResult r (λ x. size x ≡ len) (λ e. ⊥))
    → (MatchResult r (λ x. W (size x) × A (size x)) (λ _. Q) → W len × A len) × (W len → A len → MatchResult r (λ x. W (size x) × A (size x)) (λ _. Q))
step_at W A Q len (Ok x) size is = (subst (λ n. W n × A n) is, λ w a. subst (λ n. W n × A n) (sym is) (w, a))
step_at W A Q len (Err e) size is = absurd is

length_some : {X Y E : Type 0} (r : Result (X × Y × ℕ) E) (len : ℕ) → LengthIs r (Some len) → MatchResult r (λ x. x.2 ≡ len) (λ e. ⊥)
length_some (Ok x) len h = h
length_some (Err e) len h = h

pub step : (f : FileState) (alignment : ℕ) (signature : Option ℕ) (k at len : ℕ) (rest : List ℕ) → LengthIs (record_at signature rest) (Some len) → IsStep f alignment signature k at len rest
unfolding AreWritten
step f alignment signature k at len rest h =
    let both = step_at (λ n. IsWritten f at (take n rest)) (λ n. AreWritten f alignment signature k (at + n) (drop n rest))
    (AreWritten f alignment signature k (at + padding alignment at rest) (drop (padding alignment at rest) rest)) len (record_at signature rest) (λ x. x.2) (length_some (record_at signature rest) len h) in
    record { on = both.0; back = both.1 }

pub out : (f : FileState) (alignment : ℕ) (signature : Option ℕ) (at : ℕ) (rest : List ℕ) → AreWritten f alignment signature 0 at rest
unfolding AreWritten
out f alignment signature at rest = tt

no_record : {X Y E : Type 0} (P : X × Y × ℕ → Type 0) (Q : Type 0) (r : Result (X × Y × ℕ) E) → LengthIs r None → MatchResult r P (λ _. Q) ≡ Q
no_record P Q (Ok x) h = absurd h
no_record P Q (Err e) h = refl

-- where no record is read, padding is skipped
skipping : (f : FileState) (alignment : ℕ) (signature : Option ℕ) (k at : ℕ) (rest : List ℕ) → LengthIs (record_at signature rest) None
    → AreWritten f alignment signature (suc k) at rest ≡ AreWritten f alignment signature k (at + padding alignment at rest) (drop (padding alignment at rest) rest)
unfolding AreWritten
skipping f alignment signature k at rest h = no_record (λ r. IsWritten f at (take r.2 rest) × AreWritten f alignment signature k (at + r.2) (drop r.2 rest))
    (AreWritten f alignment signature k (at + padding alignment at rest) (drop (padding alignment at rest) rest)) (record_at signature rest) h

along : {P Q : Type 0} → P ≡ Q → P → Q
along e p = subst (λ T. T) e p

-- where neither a record nor padding stands, nothing more has to be written
pub ends : (f : FileState) (alignment : ℕ) (signature : Option ℕ) (k at : ℕ) (rest : List ℕ) → LengthIs (record_at signature rest) None → padding alignment at rest ≡ 0 → AreWritten f alignment signature k at rest
ends f alignment signature zero at rest h none = out f alignment signature at rest
ends f alignment signature (suc k) at rest h none =
    along (sym (skipping f alignment signature k at rest h))
    (subst (λ n. AreWritten f alignment signature k (at + n) (drop n rest)) (sym none) (subst (λ n. AreWritten f alignment signature k n rest) (sym (add-zero at)) (ends f alignment signature k at rest h none)))

pub read_as : {X Y E : Type 0} (r : Result (X × Y × ℕ) E) (o p : Option ℕ) → o ≡ p → LengthIs r o → LengthIs r p
read_as r o p e h = subst (LengthIs r) e h

fuel : (total i : ℕ) → i < total → total - i ≡ suc (total - (i + 1))
fuel total i lt = omega arith

-- a walk that has come to a place
pub goes_yes : (f : FileState) (alignment : ℕ) (signature : Option ℕ) (total i at len : ℕ) (rest front behind : List ℕ) (P : Type 0) → i < total → LengthIs (record_at signature rest) (Some len) → front ≡ take len rest → behind ≡ drop len rest → IsWritten f at front
    → (AreWritten f alignment signature (total - i) at rest → P) → AreWritten f alignment signature (total - (i + 1)) (at + len) behind → P
goes_yes f alignment signature total i at len rest front behind P lt read first second written so_far more =
    so_far (subst (λ k. AreWritten f alignment signature k at rest) (sym (fuel total i lt)) ((step f alignment signature (total - (i + 1)) at len rest read).back (subst (IsWritten f at) first written) (subst (AreWritten f alignment signature (total - (i + 1)) (at + len)) second more)))

pub goes_no : (f : FileState) (alignment : ℕ) (signature : Option ℕ) (total i at len : ℕ) (rest behind : List ℕ) (P : Type 0) → i < total → LengthIs (record_at signature rest) (Some len) → behind ≡ drop len rest
    → (P → AreWritten f alignment signature (total - i) at rest) → P → AreWritten f alignment signature (total - (i + 1)) (at + len) behind
goes_no f alignment signature total i at len rest behind P lt read second back p =
    subst (AreWritten f alignment signature (total - (i + 1)) (at + len)) (sym second) ((step f alignment signature (total - (i + 1)) at len rest read).on (subst (λ k. AreWritten f alignment signature k at rest) (fuel total i lt) (back p))).1

pub fails_at : (f : FileState) (alignment : ℕ) (signature : Option ℕ) (total i at len : ℕ) (rest front : List ℕ) (P : Type 0) → i < total → LengthIs (record_at signature rest) (Some len) → front ≡ take len rest
    → (P → AreWritten f alignment signature (total - i) at rest) → P → IsWritten f at front
fails_at f alignment signature total i at len rest front P lt read first back p =
    subst (IsWritten f at) (sym first) ((step f alignment signature (total - (i + 1)) at len rest read).on (subst (λ k. AreWritten f alignment signature k at rest) (fuel total i lt) (back p))).0

pub runs_out : (f : FileState) (alignment : ℕ) (signature : Option ℕ) (total i at : ℕ) (rest : List ℕ) → total ≤ i → AreWritten f alignment signature (total - i) at rest
runs_out f alignment signature total i at rest le = let none : 0 ≡ total - i = omega arith in subst (λ k. AreWritten f alignment signature k at rest) none (out f alignment signature at rest)

-- a walk that skips padding
pub skips_yes : (f : FileState) (alignment : ℕ) (signature : Option ℕ) (total i at len : ℕ) (rest behind : List ℕ) (P : Type 0) → i < total → LengthIs (record_at signature rest) None → len ≡ padding alignment at rest → behind ≡ drop len rest
    → (AreWritten f alignment signature (total - i) at rest → P) → AreWritten f alignment signature (total - (i + 1)) (at + len) behind → P
skips_yes f alignment signature total i at len rest behind P lt none is second so_far more =
    let here = subst (AreWritten f alignment signature (total - (i + 1)) (at + len)) second more in
    let there = subst (λ n. AreWritten f alignment signature (total - (i + 1)) (at + n) (drop n rest)) is here in
    so_far (subst (λ k. AreWritten f alignment signature k at rest) (sym (fuel total i lt)) (along (sym (skipping f alignment signature (total - (i + 1)) at rest none)) there))

pub skips_no : (f : FileState) (alignment : ℕ) (signature : Option ℕ) (total i at len : ℕ) (rest behind : List ℕ) (P : Type 0) → i < total → LengthIs (record_at signature rest) None → len ≡ padding alignment at rest → behind ≡ drop len rest
    → (P → AreWritten f alignment signature (total - i) at rest) → P → AreWritten f alignment signature (total - (i + 1)) (at + len) behind
skips_no f alignment signature total i at len rest behind P lt none is second back p =
    let there = along (skipping f alignment signature (total - (i + 1)) at rest none) (subst (λ k. AreWritten f alignment signature k at rest) (fuel total i lt) (back p)) in
    subst (AreWritten f alignment signature (total - (i + 1)) (at + len)) (sym second) (subst (λ n. AreWritten f alignment signature (total - (i + 1)) (at + n) (drop n rest)) (sym is) there)
