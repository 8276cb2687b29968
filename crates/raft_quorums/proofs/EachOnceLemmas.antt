-- Ids of which each counts once, from a place on.
use Rattle.std.proofs.Common.{◌≡◌, ℕ, ◌+◌, ◌-◌, ◌<◌, Bool, true, false, List, ◌∷◌, length, get_or, take, drop, ap, sym, ◌∙◌, arith, length-drop}
use Rattle.std.specs.Prelude.{if◌then◌else◌}
use Rattle.std.proofs.lemmas.List.{drop_more, take_all}
use Rattle.raft_quorums.specs.Nodes.{has_id}
use Rattle.raft_quorums.specs.Quorum.{each_once}

module _ {K : Type 0} (eq : K → K → Bool) (xs : List K) (i : ℕ) (x : K) (within : i < length xs) (here : x ≡ get_or xs i x) where
  -- whether the id stands again behind the place
  has_behind : has_id eq (take (length xs - (i + 1)) (drop (i + 1) xs)) x ≡ has_id eq (drop (i + 1) xs) x
  has_behind = ap (λ ids. has_id eq ids x) (take_all (length xs - (i + 1)) (drop (i + 1) xs) (omega (arith, length-drop (i + 1) xs)))

  -- the id at a place counts if it doesn't stand again behind
  from_place : (b : Bool) → b ≡ has_id eq (take (length xs - (i + 1)) (drop (i + 1) xs)) x
      → each_once eq (drop i xs) ≡ (if b then each_once eq (drop (i + 1) xs) else x ∷ each_once eq (drop (i + 1) xs))
  from_place b e =
      ap (each_once eq) (drop_more xs i x within ∙ ap (λ y. y ∷ drop (i + 1) xs) (sym here))
      ∙ ap (λ t. if t then each_once eq (drop (i + 1) xs) else x ∷ each_once eq (drop (i + 1) xs)) (sym (e ∙ has_behind))

  pub stands_again : (b : Bool) → b ≡ has_id eq (take (length xs - (i + 1)) (drop (i + 1) xs)) x → b ≡ true
      → each_once eq (drop i xs) ≡ each_once eq (drop (i + 1) xs)
  stands_again b e h = from_place true (sym h ∙ e)

  pub stands_last : (b : Bool) → b ≡ has_id eq (take (length xs - (i + 1)) (drop (i + 1) xs)) x → b ≡ false
      → each_once eq (drop i xs) ≡ x ∷ each_once eq (drop (i + 1) xs)
  stands_last b e h = from_place false (sym h ∙ e)
