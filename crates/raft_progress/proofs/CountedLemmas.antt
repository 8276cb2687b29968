-- A value that is written without a change of what is compared leaves what is granted counted.
use Rattle.std.proofs.Common.{◌≡◌, ℕ, zero, suc, ◌<◌, List, [], ◌∷◌, length, get_or, refl, ap, sym, ◌∙◌, subst, arith}
use Rattle.std.specs.Prelude.{Bool, true, false, if◌then◌else◌}
use Rattle.std.specs.declared.cmp.Ordering.{Ordering}
use Rattle.std.specs.List.{AllByRecursion}
use Rattle.std.specs.Ordering.{is_lt, is_le}
use Rattle.std.specs.Cmp.{IsTotalOrder}
use Rattle.std.proofs.Math.ListN.{set}
use Rattle.std.proofs.lemmas.List.Sorted.{IsPermutation-refl}
use Rattle.raft_quorums.specs.Nodes.{has_node}
use Rattle.raft_quorums.specs.QuorumLaws.{IsWithin}
use Rattle.raft_progress.specs.Counted.{IsCounted, IsSamePart}
use Rattle.raft_progress.specs.Granted.{IsFalling, IsGranted}
use Rattle.raft_progress.specs.Parts.{Parts, written}
use Rattle.raft_progress.specs.Values.{value_at, with_value}
use Rattle.raft_progress.proofs.GrantedLemmas.{granted_same}
use Rattle.raft_progress.proofs.OrderLemmas.{le_self}
use Rattle.raft_progress.proofs.PartsLemmas.{index_of}
use Rattle.raft_progress.proofs.ValuesLemmas.{some_of}

every_set : {X : Type 0} (Q : X → Type 0) (xs : List X) (i : ℕ) (y d : X) → (Q (get_or xs i d) → Q y) → AllByRecursion Q xs → AllByRecursion Q (set xs i y)
every_set Q [] i y d f h = tt
every_set Q (x ∷ xs) zero y d f h = (f h.0, h.1)
every_set Q (x ∷ xs) (suc i) y d f h = (h.0, every_set Q xs i y d f h.1)

every_as : {X : Type 0} (Q R : X → Type 0) → ((x : X) → Q x → R x) → (xs : List X) → AllByRecursion Q xs → AllByRecursion R xs
every_as Q R w [] h = tt
every_as Q R w (x ∷ xs) h = (w x h.0, every_as Q R w xs h.1)

module _ {K V P : Type 0} (cmp : P → P → Ordering) (compared : V → P) where
  falling_set : (xs : List (K × V)) (i : ℕ) (y d : K × V) → compared (get_or xs i d).1 ≡ compared y.1 → IsFalling cmp compared xs → IsFalling cmp compared (set xs i y)
  falling_set [] i y d e f = tt
  falling_set (x ∷ xs) zero y d e f =
      (every_as (λ (z : K × V). is_le (cmp (compared z.1) (compared x.1)) ≡ true) (λ (z : K × V). is_le (cmp (compared z.1) (compared y.1)) ≡ true) (λ z k. subst (λ c. is_le (cmp (compared z.1) c) ≡ true) e k) xs f.0, f.1)
  falling_set (x ∷ xs) (suc i) y d e f =
      (every_set (λ (z : K × V). is_le (cmp (compared z.1) (compared x.1)) ≡ true) xs i y d (λ k. subst (λ c. is_le (cmp c (compared x.1)) ≡ true) e k) f.0, falling_set xs i y d e f.1)

module _ {K V P Q : Type 0} (eq : K → K → Bool) {cmp : P → P → Ordering} (o : IsTotalOrder cmp) (compared : V → P) (accepts : Q → (K → Bool) → Bool)
    (superset : (q : Q) (p r : K → Bool) → IsWithin p r → accepts q p ≡ true → accepts q r ≡ true) (old : Parts K V P Q) (id : K) (value : V) where
  counted_at : (at : ℕ) (d : K × V) → at < length old.voters → with_value eq old.voters id value ≡ set old.voters at ((get_or old.voters at d).0, value)
      → compared (get_or old.voters at d).1 ≡ compared value → IsCounted eq cmp compared accepts old → IsCounted eq cmp compared accepts (record old { voters = with_value eq old.voters id value })
  counted_at at d h e same counted =
      let y : K × V = ((get_or old.voters at d).0, value) in
      subst (λ l. IsFalling cmp compared l × IsGranted eq cmp compared (accepts old.quorum_set) old.built_with old.granted l) (sym e) (
        falling_set cmp compared old.voters at y d same counted.0,
        granted_same eq o compared (accepts old.quorum_set) (superset old.quorum_set) old.voters at y d h refl
            (subst (λ c. is_le (cmp (compared (get_or old.voters at d).1) c) ≡ true) same (le_self o (compared (get_or old.voters at d).1)))
            old.built_with old.granted (set old.voters at y) (ap (λ c. is_lt (cmp old.granted c)) (sym same)) (IsPermutation-refl (set old.voters at y)) counted.1,
      )

  pub counted_written : IsSamePart compared (value_at eq old.voters id) value → IsCounted eq cmp compared accepts old → IsCounted eq cmp compared accepts (written eq old id value)
  counted_written same counted =
      elim (has_node eq old.voters id) as (λ b. has_node eq old.voters id ≡ b
      → IsCounted eq cmp compared accepts (if b then record old { voters = with_value eq old.voters id value } else record old { learners = with_value eq old.learners id value })) [
        | true ↦ λ has.
            let w = index_of eq old.voters id has in
            some_of old.voters w.0 w.1 (λ d. counted_at w.0 d w.1 (w.2 d value) (subst (λ o. IsSamePart compared o value) (w.3 d) same) counted)
        | false ↦ λ none. counted
      ] refl
