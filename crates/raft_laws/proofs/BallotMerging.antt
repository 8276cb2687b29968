-- What an append request makes of a log that matches the leader's.
use Rattle.std.proofs.Common.{◌≡◌, ℕ, zero, suc, ◌+◌, ◌<◌, ◌≤◌, List, [], ◌∷◌, length, drop, Some, true, false, eqb, refl, sym, ap, ◌∙◌, subst, arith, eqb-true, eq-eqb, inl, inr}
use Rattle.std.specs.Prelude.{slice_get, ◌⊎◌}
use Rattle.std.proofs.lemmas.Bool.{cond_both, eqb-false}
use Rattle.raft_laws.specs.BallotLists.{AgreeBelow}
use Rattle.raft_laws.specs.BallotLogs.{BallotEntry, ballot_of, ballot_before, last_ballot, holds_before, put_over, put_from, cut_over, cut_from}
use Rattle.raft_laws.proofs.BallotAgreement.{some_at, agree_refl, agree_none, agree_cons, agree_tail, agree_head}

-- entries of one ballot at one place have the same entries before them
pub record Matching (xs ys : List BallotEntry) : Type 0 where
  pub at : (j : ℕ) (x y : BallotEntry) → slice_get xs j ≡ Some x → slice_get ys j ≡ Some y → x.ballot ≡ y.ballot → AgreeBelow (suc j) xs ys

matching_tail : (x y : BallotEntry) (xs ys : List BallotEntry) → Matching (x ∷ xs) (y ∷ ys) → Matching xs ys
matching_tail x y xs ys m = record { at = λ j a b e f same. agree_tail (m.at (suc j) a b e f same) }

-- the outcome: the leader's first n entries are held, and the log either stays or ends with them, having differed
pub record Merged (n : ℕ) (xs ys result : List BallotEntry) : Type 0 where
  pub holds : AgreeBelow n result ys
  pub kept : (result ≡ xs) ⊎ ((length result ≡ n) × ((k : ℕ) → AgreeBelow k xs ys → k < n))

merged_cons : (n : ℕ) (x y : BallotEntry) (xs ys result : List BallotEntry) → x ≡ y → Merged n xs ys result → Merged (suc n) (x ∷ xs) (y ∷ ys) (x ∷ result)
merged_cons n x y xs ys result e m = record { holds = agree_cons e m.holds; kept = go m.kept }
  where
    shift : ((k : ℕ) → AgreeBelow k xs ys → k < n) → (k : ℕ) → AgreeBelow k (x ∷ xs) (y ∷ ys) → k < suc n
    shift h zero a = omega arith
    shift h (suc k) a = let l = h k (agree_tail a) in omega arith

    go : (result ≡ xs) ⊎ ((length result ≡ n) × ((k : ℕ) → AgreeBelow k xs ys → k < n)) → (x ∷ result ≡ x ∷ xs) ⊎ ((length (x ∷ result) ≡ suc n) × ((k : ℕ) → AgreeBelow k (x ∷ xs) (y ∷ ys) → k < suc n))
    go (inl same) = inl (ap (λ l. x ∷ l) same)
    go (inr d) = inr (ap suc d.0, shift d.1)

pub merged_over : (xs ys es : List BallotEntry) → Matching xs ys → AgreeBelow (length es) es ys → Merged (length es) xs ys (put_over xs es)
merged_over xs ys [] m a = record { holds = record { left = omega arith; right = omega arith; same = λ j l. absurd (omega arith) }; kept = inl refl }
merged_over [] ys (e ∷ es) m a = record { holds = a; kept = inr (refl, λ k b. omega (arith, b.left)) }
merged_over (x ∷ xs) [] (e ∷ es) m a = absurd (omega (arith, a.right))
merged_over (x ∷ xs) (y ∷ ys) (e ∷ es) m a =
    cond_both (eqb x.ballot e.ballot) (x ∷ put_over xs es) (e ∷ es) (Merged (suc (length es)) (x ∷ xs) (y ∷ ys))
    (λ t. merged_cons (length es) x y xs ys (put_over xs es) (same t) (merged_over xs ys es (matching_tail x y xs ys m) (agree_tail a)))
    (λ t. record { holds = a; kept = inr (refl, λ k b. differ t k b) })
  where
    at_y : e ≡ y
    at_y = agree_head a

    same : eqb x.ballot e.ballot ≡ true → x ≡ y
    same t = agree_head (m.at 0 x y refl refl (eqb-true x.ballot e.ballot t ∙ ap (λ z. z.ballot) at_y))

    differ : eqb x.ballot e.ballot ≡ false → (k : ℕ) → AgreeBelow k (x ∷ xs) (y ∷ ys) → k < suc (length es)
    differ t zero b = omega arith
    differ t (suc k) b = absurd (eqb-false x.ballot e.ballot t (ap (λ z. z.ballot) (agree_head b ∙ sym at_y)))

pub merged_from : (start : ℕ) (xs ys es : List BallotEntry) → Matching xs ys → AgreeBelow start xs ys → AgreeBelow (length es) es (drop start ys) → Merged (start + length es) xs ys (put_from xs start es)
merged_from zero xs ys es m a b = let e : length es ≡ 0 + length es = omega arith in subst (λ n. Merged n xs ys (put_over xs es)) e (merged_over xs ys es m b)
merged_from (suc start) [] ys es m a b = absurd (omega (arith, a.left))
merged_from (suc start) (x ∷ xs) [] es m a b = absurd (omega (arith, a.right))
merged_from (suc start) (x ∷ xs) (y ∷ ys) es m a b =
    let e : suc (start + length es) ≡ suc start + length es = omega arith in
    subst (λ n. Merged n (x ∷ xs) (y ∷ ys) (x ∷ put_from xs start es)) e
    (merged_cons (start + length es) x y xs ys (put_from xs start es) (agree_head a)
    (merged_from start xs ys es (matching_tail x y xs ys m) (agree_tail a) b))

held : (start : ℕ) (xs : List BallotEntry) (previous : ℕ) → holds_before xs (suc start) previous ≡ true → (x : BallotEntry) × (slice_get xs start ≡ Some x) × (x.ballot ≡ previous)
held start [] previous h = absurd (let e : false ≡ true = h in cc)
held zero (x ∷ xs) previous h = (x, refl, eqb-true x.ballot previous h)
held (suc start) (x ∷ xs) previous h = held start xs previous h

-- the place before is held, so all before is
pub held_before : (start : ℕ) (xs ys : List BallotEntry) (previous : ℕ) → Matching xs ys → start ≤ length ys → previous ≡ ballot_before ys start → holds_before xs start previous ≡ true → AgreeBelow start xs ys
held_before zero xs ys previous m l p h = record { left = omega arith; right = omega arith; same = λ j k. absurd (omega arith) }
held_before (suc start) xs ys previous m l p h =
    let x = held start xs previous h in
    let y = some_at ys start (omega arith) in
    let p' = p ∙ ap ballot_of y.1 in
    m.at start x.0 y.0 x.1 y.1 (x.2 ∙ p')

pub last_at : (xs : List BallotEntry) (n : ℕ) → length xs ≡ suc n → (x : BallotEntry) × (slice_get xs n ≡ Some x) × (x.ballot ≡ last_ballot xs)
last_at [] n e = absurd (omega arith)
last_at (x ∷ []) zero e = (x, refl, refl)
last_at (x ∷ []) (suc n) e = absurd (omega arith)
last_at (x ∷ y ∷ xs) zero e = absurd (omega arith)
last_at (x ∷ y ∷ xs) (suc n) e = last_at (y ∷ xs) n (omega arith)

-- a log cut at the first that differs
pub record CutAt (xs ys result : List BallotEntry) : Type 0 where
  pub front : AgreeBelow (length result) result xs
  pub kept : (result ≡ xs) ⊎ ((k : ℕ) → AgreeBelow k xs ys → k ≤ length result)

cut_cons : (x y : BallotEntry) (xs ys result : List BallotEntry) → CutAt xs ys result → CutAt (x ∷ xs) (y ∷ ys) (x ∷ result)
cut_cons x y xs ys result m = record { front = agree_cons refl m.front; kept = go m.kept }
  where
    shift : ((k : ℕ) → AgreeBelow k xs ys → k ≤ length result) → (k : ℕ) → AgreeBelow k (x ∷ xs) (y ∷ ys) → k ≤ suc (length result)
    shift h zero a = omega arith
    shift h (suc k) a = let l = h k (agree_tail a) in omega arith

    go : (result ≡ xs) ⊎ ((k : ℕ) → AgreeBelow k xs ys → k ≤ length result) → (x ∷ result ≡ x ∷ xs) ⊎ ((k : ℕ) → AgreeBelow k (x ∷ xs) (y ∷ ys) → k ≤ length (x ∷ result))
    go (inl same) = inl (ap (λ l. x ∷ l) same)
    go (inr d) = inr (shift d)

pub cut_over_at : (xs ys es : List BallotEntry) → AgreeBelow (length es) es ys → CutAt xs ys (cut_over xs es)
cut_over_at xs ys [] a = record { front = agree_refl _ _ (omega arith); kept = inl refl }
cut_over_at [] ys (e ∷ es) a = record { front = agree_none []; kept = inl refl }
cut_over_at (x ∷ xs) [] (e ∷ es) a = absurd (omega (arith, a.right))
cut_over_at (x ∷ xs) (y ∷ ys) (e ∷ es) a =
    cond_both (eqb x.ballot e.ballot) (x ∷ cut_over xs es) [] (CutAt (x ∷ xs) (y ∷ ys))
    (λ t. cut_cons x y xs ys (cut_over xs es) (cut_over_at xs ys es (agree_tail a)))
    (λ t. record { front = agree_none (x ∷ xs); kept = inr (differ t) })
  where
    differ : eqb x.ballot e.ballot ≡ false → (k : ℕ) → AgreeBelow k (x ∷ xs) (y ∷ ys) → k ≤ 0
    differ t zero b = omega arith
    differ t (suc k) b = absurd (eqb-false x.ballot e.ballot t (ap (λ z. z.ballot) (agree_head b ∙ sym (agree_head a))))

pub cut_from_at : (start : ℕ) (xs ys es : List BallotEntry) → AgreeBelow start xs ys → AgreeBelow (length es) es (drop start ys) → CutAt xs ys (cut_from xs start es)
cut_from_at zero xs ys es a b = cut_over_at xs ys es b
cut_from_at (suc start) [] ys es a b = absurd (omega (arith, a.left))
cut_from_at (suc start) (x ∷ xs) [] es a b = absurd (omega (arith, a.right))
cut_from_at (suc start) (x ∷ xs) (y ∷ ys) es a b = cut_cons x y xs ys (cut_from xs start es) (cut_from_at start xs ys es (agree_tail a) b)

-- who has the front has the place before its end
pub holds_front : (k : ℕ) (xs es : List BallotEntry) → AgreeBelow k xs es → holds_before xs k (ballot_before es k) ≡ true
holds_front zero xs es a = refl
holds_front (suc k) [] es a = absurd (omega (arith, a.left))
holds_front (suc k) (x ∷ xs) [] a = absurd (omega (arith, a.right))
holds_front (suc zero) (x ∷ xs) (e ∷ es) a = eq-eqb x.ballot e.ballot (ap (λ z. z.ballot) (agree_head a))
holds_front (suc (suc k)) (x ∷ xs) (e ∷ es) a = holds_front (suc k) xs es (agree_tail a)
