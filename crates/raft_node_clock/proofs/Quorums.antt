-- A quorum is heard of where more than half of each voter group are.
use Rattle.std.proofs.Common.{◌≡◌, ◌∙◌, ℕ, ◌*◌, ◌/◌, ◌≤◌, ◌<◌, suc, true, false, List, [], ◌∷◌, ◌++◌, length, map, take, get_or, ◌+◌, cond, Bool, Option, Some, None, refl, sym, ap, inl, inr, arith}
use Rattle.std.specs.Prelude.{◌⊎◌, ◌&&◌, min, nat_lt, count_by, IfSome, IsSomeAnd}
use Rattle.std.specs.List.{list_all}
use Rattle.std.proofs.lemmas.Bool.Decides.{leb_tells}
use Rattle.std.proofs.lemmas.Bool.{leb-true, le-leb}
use Rattle.std.proofs.lemmas.List.{length-map, take_more}
use Rattle.std.proofs.lemmas.List.Folds.{list_all-append}
use Rattle.raft_quorums.specs.Quorum.{is_majority, is_quorum}
use Rattle.raft_quorums.specs.QuorumLaws.{and_left, and_right, count_more, wider_quorum}
use Rattle.raft_timers.specs.Majority.{hears_majority, is_heard_since}
use Rattle.raft_node_clock.specs.Quorum.{IsLatestQuorum, earlier, hears_quorum}

-- ---- one voter group

counts-map : (m : ℕ) (heard : ℕ → Option ℕ) (ids : List ℕ)
    → count_by (is_heard_since m) (map heard ids) ≡ count_by (λ id. is_heard_since m (heard id)) ids
counts-map m heard [] = refl
counts-map m heard (id ∷ ids) =
    let more = counts-map m heard ids in
    let a = count_more (is_heard_since m) (heard id) (map heard ids) in
    let b = count_more (λ id. is_heard_since m (heard id)) id ids in
    cc

more_than_half : (n c : ℕ) → nat_lt (n / 2) c ≡ nat_lt n (2 * c)
more_than_half n c =
    elim (leb_tells (suc (n / 2)) c) [
      | inl w ↦ let h = w.1 in w.0 ∙ sym (le-leb (suc n) (2 * c) (omega arith))
      | inr w ↦
          elim (leb_tells (suc n) (2 * c)) [
            | inl v ↦ let h = w.1 in let k = v.1 in absurd (omega arith)
            | inr v ↦ w.0 ∙ sym v.0
          ]
    ]

and_true : (b : Bool) → (b && true) ≡ b
and_true true = refl
and_true false = refl

of_group : (m : ℕ) (heard : ℕ → Option ℕ) (voters : List ℕ)
    → hears_quorum (voters ∷ []) heard m ≡ hears_majority (map heard voters) m
of_group m heard voters =
    and_true (is_majority (λ id. is_heard_since m (heard id)) voters)
    ∙ (sym (more_than_half (length voters) (count_by (λ id. is_heard_since m (heard id)) voters))
    ∙ sym (rw (length-map voters heard, counts-map m heard voters) refl))

pub of_majority : (heard : ℕ → Option ℕ) (voters : List ℕ) (ms : List (Option ℕ)) (found : Option ℕ) → ms ≡ map heard voters
    → IfSome found (λ m. hears_majority ms m ≡ true)
    → ((m : ℕ) → hears_majority ms m ≡ true → IsSomeAnd found (λ last. m ≤ last))
    → IsLatestQuorum (voters ∷ []) heard found
of_majority heard voters ms None e some latest =
    record { quorum = tt; latest = λ m is. latest m (ap (λ xs. hears_majority xs m) e ∙ (sym (of_group m heard voters) ∙ is)) }
of_majority heard voters ms (Some found) e some latest =
    record {
      quorum = of_group found heard voters ∙ (sym (ap (λ xs. hears_majority xs found) e) ∙ some);
      latest = λ m is. latest m (ap (λ xs. hears_majority xs m) e ∙ (sym (of_group m heard voters) ∙ is));
    }

-- ---- one more voter group

earlier_too : (a b : ℕ) (at : Option ℕ) → a ≤ b → is_heard_since b at ≡ true → is_heard_since a at ≡ true
earlier_too a b None le h = h
earlier_too a b (Some at) le h = let k = leb-true b at h in le-leb a at (omega arith)

hears_earlier : (heard : ℕ → Option ℕ) (a b : ℕ) (x : List ℕ) (xs : List (List ℕ)) → a ≤ b
    → hears_quorum (x ∷ xs) heard b ≡ true → hears_quorum (x ∷ xs) heard a ≡ true
hears_earlier heard a b x xs le h =
    wider_quorum (λ id. is_heard_since b (heard id)) (λ id. is_heard_since a (heard id))
    (λ id. earlier_too a b (heard id) le) (x ∷ xs) h

both : (a b : Bool) → a ≡ true → b ≡ true → (a && b) ≡ true
both true b h k = k
both false b h k = h

of_joint : (heard : ℕ → Option ℕ) (m : ℕ) (x g : List ℕ) (xs : List (List ℕ))
    → hears_quorum (x ∷ (xs ++ g ∷ [])) heard m ≡ (hears_quorum (x ∷ xs) heard m && hears_quorum (g ∷ []) heard m)
of_joint heard m x g xs = list_all-append (is_majority (λ id. is_heard_since m (heard id))) (x ∷ xs) (g ∷ [])

least : (m a b : ℕ) → m ≤ a → m ≤ b → m ≤ min a b
least m a b h k = omega arith

below_left : (a b : ℕ) → min a b ≤ a
below_left a b = omega arith

below_right : (a b : ℕ) → min a b ≤ b
below_right a b = omega arith

pub with_group : (heard : ℕ → Option ℕ) (x g : List ℕ) (xs : List (List ℕ)) (a b : Option ℕ) → IsLatestQuorum (x ∷ xs) heard a
    → IsLatestQuorum (g ∷ []) heard b → IsLatestQuorum (x ∷ (xs ++ g ∷ [])) heard (earlier a b)
with_group heard x g xs None b p q =
    record {
      quorum = tt;
      latest = λ m is.
          absurd (p.latest m (and_left (hears_quorum (x ∷ xs) heard m) (hears_quorum (g ∷ []) heard m) (sym (of_joint heard m x g xs) ∙ is)));
    }
with_group heard x g xs (Some a) None p q =
    record {
      quorum = tt;
      latest = λ m is.
          absurd (q.latest m (and_right (hears_quorum (x ∷ xs) heard m) (hears_quorum (g ∷ []) heard m) (sym (of_joint heard m x g xs) ∙ is)));
    }
with_group heard x g xs (Some a) (Some b) p q =
    record {
      quorum =
          of_joint heard (min a b) x g xs
          ∙ both (hears_quorum (x ∷ xs) heard (min a b)) (hears_quorum (g ∷ []) heard (min a b))
          (hears_earlier heard (min a b) a x xs (below_left a b) p.quorum)
          (hears_earlier heard (min a b) b g [] (below_right a b) q.quorum);
      latest = λ m is.
          least m a b
          (p.latest m (and_left (hears_quorum (x ∷ xs) heard m) (hears_quorum (g ∷ []) heard m) (sym (of_joint heard m x g xs) ∙ is)))
          (q.latest m (and_right (hears_quorum (x ∷ xs) heard m) (hears_quorum (g ∷ []) heard m) (sym (of_joint heard m x g xs) ∙ is)));
    }

-- the groups up to the next one
pub with_next : (heard : ℕ → Option ℕ) (x d : List ℕ) (others : List (List ℕ)) (i : ℕ) (a b found : Option ℕ) → i < length others
    → IsLatestQuorum (x ∷ take i others) heard a → IsLatestQuorum (get_or others i d ∷ []) heard b → found ≡ earlier a b
    → IsLatestQuorum (x ∷ take (i + 1) others) heard found
with_next heard x d others i a b found within p q is =
    rw (is, take_more others i d within) (with_group heard x (get_or others i d) (take i others) a b p q)

-- ---- no voter group

pub of_nobody : (heard : ℕ → Option ℕ) (configs : List (List ℕ)) → length configs ≡ 0 → IsLatestQuorum configs heard None
of_nobody heard [] e = record { quorum = tt; latest = λ m never. cc }
of_nobody heard (x ∷ xs) e = absurd (omega (arith, e))
