-- Quorums: a superset of one is one, and two of them meet.
use Rattle.std.proofs.Common.{◌≡◌, ℕ, suc, ◌+◌, ◌*◌, ◌<◌, ◌≤◌, List, [], ◌∷◌, length, Bool, true, false, cond, refl, arith}
use Rattle.std.specs.Prelude.{count_by, nat_lt}
use Rattle.std.proofs.Common.{ltb-true, lt-ltb}
use Rattle.std.proofs.lemmas.Bool.{and_parts, and_from}
use Rattle.std.proofs.lemmas.List.Sums.{sum_by-cons}
use Rattle.raft_laws.specs.BallotQuorum.{is_quorum}

one_more : (a b : Bool) → (a ≡ true → b ≡ true) → cond a 1 0 ≤ cond b 1 0
one_more true true h = omega arith
one_more true false h = absurd (let e : false ≡ true = h refl in cc)
one_more false b h = omega arith

count_cons : (s : ℕ → Bool) (x : ℕ) (xs : List ℕ) → count_by s (x ∷ xs) ≡ cond (s x) 1 0 + count_by s xs
count_cons s x xs = sum_by-cons (λ n. cond (s n) 1 0) x xs

count_more : (xs : List ℕ) (s t : ℕ → Bool) → ((n : ℕ) → s n ≡ true → t n ≡ true) → count_by s xs ≤ count_by t xs
count_more [] s t h = omega arith
count_more (x ∷ xs) s t h = omega (arith, count_cons s x xs, count_cons t x xs, one_more (s x) (t x) (h x), count_more xs s t h)

pub quorum_more : (groups : List (List ℕ)) (s t : ℕ → Bool) → ((n : ℕ) → s n ≡ true → t n ≡ true) → is_quorum groups s ≡ true → is_quorum groups t ≡ true
quorum_more [] s t h q = refl
quorum_more (voters ∷ groups) s t h q =
    let parts = and_parts (nat_lt (length voters) (2 * count_by s voters)) (is_quorum groups s) q in
    let enough = ltb-true (length voters) (2 * count_by s voters) parts.0 in
    and_from (nat_lt (length voters) (2 * count_by t voters)) (is_quorum groups t)
    (lt-ltb (length voters) (2 * count_by t voters) (omega (arith, enough, count_more voters s t h)))
    (quorum_more groups s t h parts.1)

-- of more than half and more than half, one is in both
counts_meet : (xs : List ℕ) (s t : ℕ → Bool) → length xs < count_by s xs + count_by t xs → (n : ℕ) × (s n ≡ true) × (t n ≡ true)
counts_meet [] s t h = absurd (omega arith)
counts_meet (x ∷ xs) s t h = go (s x) (t x) refl refl (omega (arith, count_cons s x xs, count_cons t x xs)) (counts_meet xs s t)
  where
    go : (a b : Bool) → s x ≡ a → t x ≡ b → suc (length xs) < (cond a 1 0 + count_by s xs) + (cond b 1 0 + count_by t xs) → (length xs < count_by s xs + count_by t xs → (n : ℕ) × (s n ≡ true) × (t n ≡ true)) → (n : ℕ) × (s n ≡ true) × (t n ≡ true)
    go true true e f l rest = (x, e, f)
    go true false e f l rest = rest (omega arith)
    go false true e f l rest = rest (omega arith)
    go false false e f l rest = rest (omega arith)

pub quorums_meet : (groups : List (List ℕ)) (s t : ℕ → Bool) → 0 < length groups → is_quorum groups s ≡ true → is_quorum groups t ≡ true → (n : ℕ) × (s n ≡ true) × (t n ≡ true)
quorums_meet [] s t h p q = absurd (omega arith)
quorums_meet (voters ∷ groups) s t h p q =
    let enough = ltb-true (length voters) (2 * count_by s voters) (and_parts (nat_lt (length voters) (2 * count_by s voters)) (is_quorum groups s) p).0 in
    let enough' = ltb-true (length voters) (2 * count_by t voters) (and_parts (nat_lt (length voters) (2 * count_by t voters)) (is_quorum groups t) q).0 in
    counts_meet voters s t (omega (arith, enough, enough'))
