-- What is kept of a stopped call, behind a write, a new end or a removal.
use Rattle.std.specs.Prelude.{◌≡◌, ◌<◌, ◌≤◌, ◌==◌, ℕ, zero, suc, Bool, true, false, List, [], ◌∷◌, ◌++◌, length, get_or, slice_get, Option, Some, None, option_map, refl}
use Rattle.std.specs.List.{find, position_or_len, remove}
use Rattle.std.specs.Option.{option_or}
use Rattle.std.proofs.Common.{sym, ap, ◌∙◌, arith, cond, ⊎_elim}
use Rattle.std.proofs.Math.ListN.{set}
use Rattle.std.proofs.lemmas.Bool.{cond-false, cond-true}
use Rattle.std.proofs.lemmas.Bool.Decides.{eqb_tells}
use Rattle.std.proofs.lemmas.Grind.{common_steps}
use Rattle.std.proofs.lemmas.List.Folds.{find-append, find-set, find_at, find_past}
use Rattle.std.proofs.lemmas.List.Quantifiers.{position-Some}
use Rattle.std.proofs.lemmas.Option.{slice_get_past}
use Rattle.raft_group_step.specs.Values.{EntryPayload}
use Rattle.raft_cluster_lists.specs.declared.kept.StoppedCall.{StoppedCall}
use Rattle.raft_cluster_lists.specs.Lists.{first_at, stopped_at}

-- the removal of an element that fails changes nothing
find_removed : {X : Type 0} (q : X → Bool) (xs : List X) (i : ℕ) (d : X) → i < length xs → q (get_or xs i d) ≡ false → find q (remove xs i) ≡ find q xs
find_removed q [] zero d within fails = refl
find_removed q [] (suc i) d within fails = refl
find_removed q (x ∷ xs) zero d within fails = sym (cond-false (q x) (Some x) (find q xs) fails)
find_removed q (x ∷ xs) (suc i) d within fails = ap (λ r. cond (q x) (Some x) r) (find_removed q xs i d (omega (arith, within)) fails)

is_at : (xs : List StoppedCall) (node at : ℕ) → first_at xs node ≡ Some at → position_or_len (λ (x : StoppedCall). x.node == node) xs ≡ at
is_at xs node at e = grind (arith, common_steps)

pub found_at : (xs : List StoppedCall) (node at : ℕ) (d : StoppedCall) → first_at xs node ≡ Some at → stopped_at xs node ≡ option_map (λ (x : StoppedCall). x.payload) (slice_get xs at)
found_at xs node at d e =
    ap (option_map (λ (x : StoppedCall). x.payload)) (find_at (λ (x : StoppedCall). x.node == node) xs ∙ ap (slice_get xs) (is_at xs node at e))

pub none_found : (xs : List StoppedCall) (node : ℕ) → first_at xs node ≡ None → find (λ (x : StoppedCall). x.node == node) xs ≡ None
none_found xs node e =
    let past : length xs ≤ position_or_len (λ (x : StoppedCall). x.node == node) xs = grind (arith, common_steps) in
    find_at (λ (x : StoppedCall). x.node == node) xs ∙ slice_get_past xs (position_or_len (λ (x : StoppedCall). x.node == node) xs) past

same_node : (n : ℕ) → (n == n) ≡ true
same_node n = ⊎_elim (λ y. y.0) (λ no. absurd (no.1 refl)) (eqb_tells n n)

other_node : (n node other : ℕ) → (n == node) ≡ true → (other ≡ node → ⊥) → (n == other) ≡ false
other_node n node other is differs =
    ⊎_elim
    (λ same. absurd (⊎_elim (λ here. differs (sym same.1 ∙ here.1)) (λ no. let f : true ≡ false = sym is ∙ no.0 in cc) (eqb_tells n node)))
    (λ no. no.0)
    (eqb_tells n other)

module _ (xs : List StoppedCall) (node at : ℕ) (d : StoppedCall) (e : first_at xs node ≡ Some at) where
  pub there : (at < length xs) × ((get_or xs at d).node == node ≡ true)
  there = let x = position-Some (λ (x : StoppedCall). x.node == node) xs at d e in (x.0, x.1)

  pub set_kept : (payload : EntryPayload) → stopped_at (set xs at (record { node = node; payload = payload })) node ≡ Some payload
  set_kept payload =
      ap (option_map (λ (x : StoppedCall). x.payload))
      (find-set (λ (x : StoppedCall). x.node == node) xs at (record { node = node; payload = payload }) (sym (is_at xs node at e)) there.0 (same_node node))

  pub set_others : (payload : EntryPayload) (other : ℕ) → (other ≡ node → ⊥) → stopped_at (set xs at (record { node = node; payload = payload })) other ≡ stopped_at xs other
  set_others payload other differs =
      ap (option_map (λ (x : StoppedCall). x.payload))
      (find_past (λ (x : StoppedCall). x.node == other) xs at (record { node = node; payload = payload }) d
      (other_node (get_or xs at d).node node other there.1 differs) (other_node node node other (same_node node) differs))

  pub removed_others : (other : ℕ) → (other ≡ node → ⊥) → stopped_at (remove xs at) other ≡ stopped_at xs other
  removed_others other differs =
      ap (option_map (λ (x : StoppedCall). x.payload))
      (find_removed (λ (x : StoppedCall). x.node == other) xs at d there.0 (other_node (get_or xs at d).node node other there.1 differs))

module _ (xs : List StoppedCall) (node : ℕ) (payload : EntryPayload) where
  abbrev new : StoppedCall
  new = record { node = node; payload = payload }

  pub push_kept : first_at xs node ≡ None → stopped_at (xs ++ new ∷ []) node ≡ Some payload
  push_kept none =
      ap (option_map (λ (x : StoppedCall). x.payload))
      (find-append (λ (x : StoppedCall). x.node == node) xs (new ∷ [])
      ∙ ap (λ o. option_or o (find (λ (x : StoppedCall). x.node == node) (new ∷ []))) (none_found xs node none)
      ∙ cond-true (node == node) (Some new) None (same_node node))

  or_none : (o : Option StoppedCall) → option_or o None ≡ o
  or_none None = refl
  or_none (Some x) = refl

  pub push_others : (other : ℕ) → (other ≡ node → ⊥) → stopped_at (xs ++ new ∷ []) other ≡ stopped_at xs other
  push_others other differs =
      ap (option_map (λ (x : StoppedCall). x.payload))
      (find-append (λ (x : StoppedCall). x.node == other) xs (new ∷ [])
      ∙ ap (option_or (find (λ (x : StoppedCall). x.node == other) xs)) (cond-false (node == other) (Some new) None (other_node node node other (same_node node) differs))
      ∙ or_none (find (λ (x : StoppedCall). x.node == other) xs))
