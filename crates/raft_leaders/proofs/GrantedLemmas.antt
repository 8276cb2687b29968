-- What is granted, once a voter has granted, is whether those who have are a quorum.
use Rattle.std.proofs.Common.{◌≡◌, List, [], ◌∷◌, map, refl, ap, sym, ◌∙◌}
use Rattle.std.specs.Prelude.{Bool, true, false, not, ◌&&◌, ◌||◌, cond, filter, Option, Some, None}
use Rattle.std.specs.List.{list_any, list_all}
use Rattle.std.specs.Ordering.{bool_cmp, is_eq, is_le}
use Rattle.std.proofs.lemmas.Bool.{and_right, not-true}
use Rattle.raft_progress.specs.Counted.{IsNoLess}
use Rattle.raft_progress.specs.Granted.{IsGreatest, value_of}
use Rattle.raft_leaders.specs.Candidate.{any_granted}

-- a set flag stays in the list where the test lets it through
any_true : (r : Bool → Bool) (bs : List Bool) → list_any (λ y. is_eq (bool_cmp y true)) (filter r bs) ≡ (list_any (λ b. b) bs && r true)
any_true r [] = refl
any_true r (true ∷ bs) =
    elim (r true) as (λ b. list_any (λ y. is_eq (bool_cmp y true)) (filter r bs) ≡ (list_any (λ b. b) bs && b)
    → list_any (λ y. is_eq (bool_cmp y true)) (cond b (true ∷ filter r bs) (filter r bs)) ≡ b) [
      | true ↦ λ ih. refl
      | false ↦ λ ih. ih ∙ and_right (list_any (λ b. b) bs) false refl
    ] (any_true r bs)
any_true r (false ∷ bs) =
    elim (r false) as (λ b. list_any (λ y. is_eq (bool_cmp y true)) (cond b (false ∷ filter r bs) (filter r bs)) ≡ (list_any (λ b. b) bs && r true)) [
      | true ↦ any_true r bs
      | false ↦ any_true r bs
    ]

none_true : (r : Bool → Bool) (bs : List Bool) → list_all (λ y. is_le (bool_cmp y false)) (filter r bs) ≡ not (list_any (λ b. b) bs && r true)
none_true r [] = refl
none_true r (true ∷ bs) =
    elim (r true) as (λ b. list_all (λ y. is_le (bool_cmp y false)) (filter r bs) ≡ not (list_any (λ b. b) bs && b)
    → list_all (λ y. is_le (bool_cmp y false)) (cond b (true ∷ filter r bs) (filter r bs)) ≡ not b) [
      | true ↦ λ ih. refl
      | false ↦ λ ih. ih ∙ ap not (and_right (list_any (λ b. b) bs) false refl)
    ] (none_true r bs)
none_true r (false ∷ bs) =
    elim (r false) as (λ b. list_all (λ y. is_le (bool_cmp y false)) (cond b (false ∷ filter r bs) (filter r bs)) ≡ not (list_any (λ b. b) bs && r true)) [
      | true ↦ none_true r bs
      | false ↦ none_true r bs
    ]

-- the greatest of false and the flags that the test lets through
greatest_flag : (r : Bool → Bool) (bs : List Bool) (granted : Bool) → IsGreatest bool_cmp granted (false ∷ filter r bs) → granted ≡ (list_any (λ b. b) bs && r true)
greatest_flag r bs true h = sym h.0 ∙ any_true r bs
greatest_flag r bs false h = sym (not-true (list_any (λ b. b) bs && r true) (sym (none_true r bs) ∙ h.1))

any_flags : {K : Type 0} (voters : List (K × Bool)) → list_any (λ b. b) (map (value_of (λ b. b)) voters) ≡ any_granted voters
any_flags [] = refl
any_flags (x ∷ xs) = ap (λ b. x.1 || b) (any_flags xs)

pub granted_flag : {K : Type 0} (r : Bool → Bool) (voters : List (K × Bool)) (granted : Bool) → IsGreatest bool_cmp granted (false ∷ filter r (map (value_of (λ b. b)) voters))
    → granted ≡ (any_granted voters && r true)
granted_flag r voters granted h = greatest_flag r (map (value_of (λ b. b)) voters) granted h ∙ ap (λ b. b && r true) (any_flags voters)

-- a flag that is set is no less than before
pub set_is_no_less : (before : Option Bool) → IsNoLess bool_cmp (λ b. b) before true
set_is_no_less None = tt
set_is_no_less (Some true) = refl
set_is_no_less (Some false) = refl
