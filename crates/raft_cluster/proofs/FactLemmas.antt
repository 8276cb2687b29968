-- Where a node stands, and which set-up was the first.
use Rattle.std.proofs.Common.{◌≡◌, ◌+◌, ℕ, Bool, true, false, ◌≤◌, nat_lt, cond, List, [], ◌∷◌, length, map, Some, None, refl, sym, ap, ◌∙◌, position, not, arith, slice_get}
use Rattle.std.proofs.lemmas.List.{length-map}
use Rattle.std.proofs.lemmas.List.Folds.{find_at}
use Rattle.std.proofs.lemmas.Option.{slice_get_past}
use Rattle.std.specs.List.{find, position_or_len}
use Rattle.std.specs.Option.{option_map}
use Rattle.raft_group_step.specs.Values.{Membership, membership_eq}
use Rattle.raft_cluster_events.specs.declared.outcome.Recorded.{Recorded}
use Rattle.raft_cluster.specs.Facts.{differs, differs_from, node_there, set_up_by}

there : {N : Type 0} (nodes : List N) (n : ℕ) (b : Bool) → (b ≡ false → length nodes ≤ n) → node_there nodes (cond b (Some n) None) ≡ slice_get nodes n
there nodes n true h = refl
there nodes n false h = sym (slice_get_past nodes n (h refl))

pub there_found : {N : Type 0} (p : N → Bool) (nodes : List N) → node_there nodes (position p nodes) ≡ find p nodes
there_found p nodes =
    there nodes (position_or_len p nodes) (nat_lt (position_or_len p nodes) (length nodes)) (λ e. grind arith) ∙ sym (find_at p nodes)

at_mapped : {A B : Type 0} (f : A → B) (p : B → Bool) (xs : List A) → position_or_len (λ x. p (f x)) xs ≡ position_or_len p (map f xs)
at_mapped f p [] = refl
at_mapped f p (x ∷ xs) = ap (λ k. cond (not (p (f x))) (1 + k) 0) (at_mapped f p xs)

-- where an item stands whose image passes, the image stands
pub position_of_mapped : {A B : Type 0} (f : A → B) (p : B → Bool) (xs : List A) → position (λ x. p (f x)) xs ≡ position p (map f xs)
position_of_mapped f p xs =
    ap (λ k. cond (nat_lt k (length xs)) (Some k) None) (at_mapped f p xs) ∙ ap (λ n. cond (nat_lt (position_or_len p (map f xs)) n) (Some (position_or_len p (map f xs))) None) (sym (length-map xs f))

-- the image of the first item whose image passes is the first image that does
pub find_of_mapped : {A B : Type 0} (f : A → B) (p : B → Bool) (xs : List A) → option_map f (find (λ x. p (f x)) xs) ≡ find p (map f xs)
find_of_mapped f p [] = refl
find_of_mapped f p (x ∷ xs) = go (p (f x)) (find_of_mapped f p xs)
  where
    go : (b : Bool) → option_map f (find (λ y. p (f y)) xs) ≡ find p (map f xs) → option_map f (cond b (Some x) (find (λ y. p (f y)) xs)) ≡ cond b (Some (f x)) (find p (map f xs))
    go true more = refl
    go false more = more

-- a record that set the group up decides, and one that didn't leaves it to the others
pub first_decides : (recorded : Recorded) (history : List Recorded) (group : ℕ) (m first : Membership) → set_up_by group recorded ≡ Some first → differs (recorded ∷ history) group m ≡ not (membership_eq first m)
first_decides recorded history group m first e = ap (λ s. differs_from m s (differs history group m)) e

pub others_decide : (recorded : Recorded) (history : List Recorded) (group : ℕ) (m : Membership) → set_up_by group recorded ≡ None → differs (recorded ∷ history) group m ≡ differs history group m
others_decide recorded history group m e = ap (λ s. differs_from m s (differs history group m)) e
