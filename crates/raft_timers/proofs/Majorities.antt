-- Where a majority was heard of since a moment, one was since a moment that is told, and no earlier one.
use Rattle.std.proofs.Common.{◌≡◌, ℕ, ◌+◌, ◌≤◌, ◌<◌, ◌/◌, suc, true, false, List, [], ◌∷◌, length, get_or, cond, Option, Some, None, refl, inl, inr, arith}
use Rattle.std.specs.Prelude.{◌⊎◌, count_by, IfSome, IsSomeAnd}
use Rattle.std.proofs.lemmas.Bool.{leb-true, le-leb}
use Rattle.std.proofs.lemmas.Bool.Decides.{leb_tells}
use Rattle.std.proofs.lemmas.List.Sums.{sum_by-cons, sum_by-le-sum_by}
use Rattle.raft_timers.specs.Majority.{hears_majority, is_heard_since}

-- 1 where it was heard of since then
abbrev one : ℕ → Option ℕ → ℕ
one m h = cond (is_heard_since m h) 1 0

abbrev pub counted : ℕ → List (Option ℕ) → ℕ
counted m hs = count_by (is_heard_since m) hs

counted-cons : (m : ℕ) (h : Option ℕ) (hs : List (Option ℕ)) → counted m (h ∷ hs) ≡ one m h + counted m hs
counted-cons m h hs = sum_by-cons (one m) h hs

one_later : (m at : ℕ) → m ≤ at → one m (Some at) ≡ 1
one_later m at h = let e = le-leb m at h in cc

one_less : (a b : ℕ) (h : Option ℕ) → a ≤ b → one b h ≤ one a h
one_less a b None le = omega arith
one_less a b (Some at) le =
    elim (leb_tells b at) [
      | inl w ↦ let e : one b (Some at) ≡ 1 = one_later b at w.1 in let f : one a (Some at) ≡ 1 = one_later a at (omega arith) in omega arith
      | inr w ↦ let t = w.0 in let e : one b (Some at) ≡ 0 = cc in omega arith
    ]

counted_less : (a b : ℕ) (hs : List (Option ℕ)) → a ≤ b → counted b hs ≤ counted a hs
counted_less a b hs le = sum_by-le-sum_by (one b) (one a) hs (λ h. one_less a b h le)

-- a moment that is told, no earlier than this one, since which as many were heard of
pub record IsFound (m : ℕ) (hs : List (Option ℕ)) : Type 0 where
  pub moment : ℕ
  pub place : ℕ
  pub within : place < length hs
  pub told : get_or hs place None ≡ Some moment
  pub late : m ≤ moment
  pub counts : counted m hs ≤ counted moment hs

skipped : (m : ℕ) (h : Option ℕ) (hs : List (Option ℕ)) → is_heard_since m h ≡ false → (counted m hs ≡ 0) ⊎ IsFound m hs
    → (counted m (h ∷ hs) ≡ 0) ⊎ IsFound m (h ∷ hs)
skipped m h hs not (inl e) = let z : one m h ≡ 0 = cc in inl (omega (arith, counted-cons m h hs))
skipped m h hs not (inr f) =
    let z : one m h ≡ 0 = cc in
    let counts = f.counts in
    let within = f.within in
    inr
    (record {
      moment = f.moment;
      place = suc f.place;
      within = omega arith;
      told = f.told;
      late = f.late;
      counts = omega (arith, counted-cons m h hs, counted-cons f.moment h hs);
    })

first_one : (m at : ℕ) (hs : List (Option ℕ)) → m ≤ at → counted m hs ≤ counted at hs → IsFound m (Some at ∷ hs)
first_one m at hs le counts =
    let one_m = one_later m at le in
    let one_at = one_later at at (omega arith) in
    record {
      moment = at;
      place = 0;
      within = omega arith;
      told = refl;
      late = le;
      counts = omega (arith, counted-cons m (Some at) hs, counted-cons at (Some at) hs);
    }

other_one : (m at : ℕ) (hs : List (Option ℕ)) (f : IsFound m hs) → m ≤ at → f.moment ≤ at → IsFound m (Some at ∷ hs)
other_one m at hs f le earlier =
    let one_m = one_later m at le in
    let one_f = one_later f.moment at earlier in
    let counts = f.counts in
    let within = f.within in
    record {
      moment = f.moment;
      place = suc f.place;
      within = omega arith;
      told = f.told;
      late = f.late;
      counts = omega (arith, counted-cons m (Some at) hs, counted-cons f.moment (Some at) hs);
    }

taken : (m at : ℕ) (hs : List (Option ℕ)) → m ≤ at → (counted m hs ≡ 0) ⊎ IsFound m hs → IsFound m (Some at ∷ hs)
taken m at hs le (inl e) = first_one m at hs le (omega arith)
taken m at hs le (inr f) =
    elim (leb_tells at f.moment) [
      | inl w ↦ let counts = f.counts in first_one m at hs le (omega (arith, counted_less at f.moment hs w.1))
      | inr w ↦ other_one m at hs f le (omega (arith, w.1))
    ]

found : (m : ℕ) (hs : List (Option ℕ)) → (counted m hs ≡ 0) ⊎ IsFound m hs
found m [] = inl refl
found m (None ∷ hs) = skipped m None hs refl (found m hs)
found m (Some at ∷ hs) =
    elim (leb_tells m at) [
      | inl w ↦ inr (taken m at hs w.1 (found m hs))
      | inr w ↦ skipped m (Some at) hs w.0 (found m hs)
    ]

pub found_of_majority : (m : ℕ) (hs : List (Option ℕ)) → hears_majority hs m ≡ true → IsFound m hs
found_of_majority m hs h =
    let many : length hs / 2 < counted m hs = leb-true (suc (length hs / 2)) (counted m hs) h in
    elim (found m hs) [ inl e ↦ absurd (omega arith) | inr f ↦ f ]

pub majority_of_found : (m : ℕ) (hs : List (Option ℕ)) (f : IsFound m hs) → hears_majority hs m ≡ true
    → hears_majority hs f.moment ≡ true
majority_of_found m hs f h =
    let many : length hs / 2 < counted m hs = leb-true (suc (length hs / 2)) (counted m hs) h in
    let counts = f.counts in
    le-leb (suc (length hs / 2)) (counted f.moment hs) (omega arith)

-- ---- the latest one so far

-- it is no earlier than a moment since which a majority was heard of
abbrev pub Covers : List (Option ℕ) → Option ℕ → Option ℕ → Type 0
Covers heard latest at = IfSome at (λ m. hears_majority heard m ≡ true → IsSomeAnd latest (λ found. m ≤ found))

later : (old new : Option ℕ) (m : ℕ) → IsSomeAnd old (λ o. m ≤ o) → IfSome old (λ o. IsSomeAnd new (λ n. o ≤ n))
    → IsSomeAnd new (λ n. m ≤ n)
later None new m h kept = absurd h
later (Some o) None m h kept = absurd kept
later (Some o) (Some n) m h kept = omega arith

pub covers_on : (heard : List (Option ℕ)) (old new at : Option ℕ) → IfSome old (λ o. IsSomeAnd new (λ n. o ≤ n))
    → Covers heard old at → Covers heard new at
covers_on heard old new None kept h = tt
covers_on heard old new (Some m) kept h = λ is. later old new m (h is) kept

no_earlier : (latest : Option ℕ) (m moment : ℕ) → m ≤ moment → IsSomeAnd latest (λ f. moment ≤ f) → IsSomeAnd latest (λ f. m ≤ f)
no_earlier None m moment le h = absurd h
no_earlier (Some f) m moment le h = omega arith

-- the latest one covers each that is told, so it is no earlier than any such moment
pub latest_of : (heard : List (Option ℕ)) (latest : Option ℕ) (m : ℕ)
    → ((k : ℕ) → k < length heard → Covers heard latest (get_or heard k None)) → hears_majority heard m ≡ true
    → IsSomeAnd latest (λ f. m ≤ f)
latest_of heard latest m covers is =
    let f : IsFound m heard = found_of_majority m heard is in
    let at : Covers heard latest (Some f.moment) = rw f.told at (covers f.place f.within) in
    no_earlier latest m f.moment f.late (at (majority_of_found m heard f is))
