-- The ids of voters but the own one, a node at a time.
use Rattle.std.specs.Prelude.{◌≡◌, ℕ, ◌+◌, ◌<◌, ◌==◌, Bool, true, false, if◌then◌else◌, List, [], ◌∷◌, ◌++◌, map, length, take, refl}
use Rattle.std.specs.List.{filter}
use Rattle.std.proofs.Common.{ap, ◌∙◌, append-nil, sym, get_or, arith}
use Rattle.std.proofs.lemmas.Bool.Decides.{nat_tests}
use Rattle.std.proofs.lemmas.List.{map-append, take_more}
use Rattle.std.proofs.lemmas.List.Elements.{filter-append}
use Rattle.raft_known_state.specs.KnownState.{others}

abbrev Nodes : Type 0
Nodes = List (ℕ × List ℕ)

-- the ids of these nodes
abbrev ids : Nodes → List ℕ
ids nodes = map (λ (x : ℕ × List ℕ). x.0) nodes

module _ (own : ℕ) (voter : ℕ → Bool) where
  others-append : (ns more : List ℕ) → others own (filter voter (ns ++ more)) ≡ others own (filter voter ns) ++ others own (filter voter more)
  others-append ns more =
      ap (others own) (filter-append voter ns more) ∙ filter-append (λ n. if n == own then false else true) (filter voter ns) (filter voter more)

  one_more : (nodes : Nodes) (i : ℕ) (x : ℕ × List ℕ) → i < length nodes → x ≡ get_or nodes i x
      → others own (filter voter (ids (take (i + 1) nodes))) ≡ others own (filter voter (ids (take i nodes))) ++ others own (filter voter (x.0 ∷ []))
  one_more nodes i x l e =
      ap (λ (ns : Nodes). others own (filter voter (ids ns))) (take_more nodes i x l ∙ ap (λ (y : ℕ × List ℕ). take i nodes ++ y ∷ []) (sym e))
      ∙ ap (λ ns. others own (filter voter ns)) (map-append (λ (y : ℕ × List ℕ). y.0) (take i nodes) (x ∷ []))
      ∙ others-append (ids (take i nodes)) (x.0 ∷ [])

  module _ (nodes : Nodes) (i : ℕ) (x : ℕ × List ℕ) (within : i < length nodes) (there : x ≡ get_or nodes i x) (so_far : List ℕ) (known : so_far ≡ others own (filter voter (ids (take i nodes)))) where
    with_more : (last : List ℕ) → others own (filter voter (x.0 ∷ [])) ≡ last → so_far ++ last ≡ others own (filter voter (ids (take (i + 1) nodes)))
    with_more last e = ap (λ ns. so_far ++ ns) (sym e) ∙ ap (λ ns. ns ++ others own (filter voter (x.0 ∷ []))) known ∙ sym (one_more nodes i x within there)

    -- another voter is one more
    pub voter_comes : (x.0 ≡ own → ⊥) → voter x.0 ≡ true → so_far ++ x.0 ∷ [] ≡ others own (filter voter (ids (take (i + 1) nodes)))
    voter_comes differs votes =
        let other : (x.0 == own) ≡ false = grind (arith, nat_tests, differs) in with_more (x.0 ∷ []) (rw (votes, other) refl)

    -- the own id isn't
    pub own_stays_out : x.0 ≡ own → so_far ≡ others own (filter voter (ids (take (i + 1) nodes)))
    own_stays_out e = sym (append-nil so_far) ∙ with_more [] (by_voter (voter x.0))
      where
        same : (x.0 == own) ≡ true
        same = grind (arith, nat_tests, e)

        by_voter : (b : Bool) → others own (if b then x.0 ∷ [] else []) ≡ []
        by_voter true = rw same refl
        by_voter false = refl

    -- nor is a learner
    pub learner_stays_out : voter x.0 ≡ false → so_far ≡ others own (filter voter (ids (take (i + 1) nodes)))
    learner_stays_out learns = sym (append-nil so_far) ∙ with_more [] (rw learns refl)
