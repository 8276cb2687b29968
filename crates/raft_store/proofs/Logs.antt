-- Entries that stand under their places: fronts, ends and changes of them.
use Rattle.std.proofs.Common.{◌≡◌, ◌<◌, ◌≤◌, ◌+◌, ℕ, zero, suc, Bool, true, false, cond, List, [], ◌∷◌, ◌++◌, length, map, take, drop, Option, Some, None, refl, ap, subst, ◌∙◌, arith, eq-eqb}
use Rattle.std.specs.Prelude.{nat_eq, IsSome, slice_get}
use Rattle.std.specs.List.{AllByRecursion}
use Rattle.std.proofs.lemmas.Bool.{ne_eqb}
use Rattle.raft_group_step.specs.Values.{Entry}
use Rattle.raft_wire.specs.Entries.{FitsEntry, spelled_entry}
use Rattle.raft_log_records.specs.Batch.{numbered}
use Rattle.raft_log_memtables.specs.Content.{entry_at}
use Rattle.raft_store.specs.Reading.{HoldsLog}

abbrev pub Cells : Type 0
Cells = ℕ → Option (List ℕ)

pub log_taken : (entry : Cells) (place n : ℕ) (es : List Entry) → HoldsLog entry place es → HoldsLog entry place (take n es)
log_taken entry place zero es h = tt
log_taken entry place (suc n) [] h = tt
log_taken entry place (suc n) (e ∷ es) h = (h.0, h.1, log_taken entry (place + 1) n es h.2)

pub log_at : (entry : Cells) (a b : ℕ) (es : List Entry) → a ≡ b → HoldsLog entry a es → HoldsLog entry b es
log_at entry a b es same h = subst (λ (n : ℕ). HoldsLog entry n es) same h

pub log_dropped : (entry : Cells) (place n : ℕ) (es : List Entry) → HoldsLog entry place es → HoldsLog entry (place + n) (drop n es)
log_dropped entry place zero es h = log_at entry place (place + zero) es (omega arith) h
log_dropped entry place (suc n) [] h = tt
log_dropped entry place (suc n) (e ∷ es) h = log_at entry (place + 1 + n) (place + suc n) (drop n es) (omega arith) (log_dropped entry (place + 1) n es h.2)

pub log_joined : (entry : Cells) (place : ℕ) (xs ys : List Entry) → HoldsLog entry place xs → HoldsLog entry (place + length xs) ys → HoldsLog entry place (xs ++ ys)
log_joined entry place [] ys hx hy = log_at entry (place + 0) place ys (omega arith) hy
log_joined entry place (x ∷ xs) ys hx hy =
    (hx.0, hx.1, log_joined entry (place + 1) xs ys hx.2 (log_at entry (place + length (x ∷ xs)) (place + 1 + length xs) ys (omega arith) hy))

pub log_changed : (old new : Cells) (place : ℕ) (es : List Entry) → ((i : ℕ) → place ≤ i → i < place + length es → new i ≡ old i) → HoldsLog old place es → HoldsLog new place es
log_changed old new place [] same h = tt
log_changed old new place (e ∷ es) same h =
    (same place (omega arith) (omega arith) ∙ h.0, h.1, log_changed old new (place + 1) es (λ i ge lt. same i (omega arith) (omega arith)) h.2)

-- ---- entries with their indexes

not_here : (place : ℕ) (part : List ℕ) (rest : Option (List ℕ)) (i : ℕ) → (place ≡ i → ⊥) → cond (nat_eq place i) (Some part) rest ≡ rest
not_here place part rest i ne = ap (λ (b : Bool). cond b (Some part) rest) (ne_eqb place i ne)

pub log_numbered : (place : ℕ) (es : List Entry) → AllByRecursion FitsEntry es → HoldsLog (entry_at (numbered place (map spelled_entry es))) place es
log_numbered place [] fits = tt
log_numbered place (e ∷ es) fits = (
  ap (λ (b : Bool). cond b (Some (spelled_entry e)) (entry_at (numbered (place + 1) (map spelled_entry es)) place)) (eq-eqb place place refl),
  fits.0,
  log_changed (entry_at (numbered (place + 1) (map spelled_entry es))) (entry_at (numbered place (map spelled_entry (e ∷ es)))) (place + 1) es
      (λ i ge lt. not_here place (spelled_entry e) (entry_at (numbered (place + 1) (map spelled_entry es)) i) i (λ same. absurd (omega arith)))
      (log_numbered (place + 1) es fits.1),
)

some_either : (b : Bool) (x : List ℕ) (rest : Option (List ℕ)) → (b ≡ false → IsSome rest) → IsSome (cond b (Some x) rest)
some_either true x rest h = refl
some_either false x rest h = h refl

unequal : (a b : ℕ) → nat_eq a b ≡ false → a ≡ b → ⊥
unequal a b h same = let t : nat_eq a b ≡ true = eq-eqb a b same in cc

pub numbered_there : (place : ℕ) (parts : List (List ℕ)) (i : ℕ) → place ≤ i → i < place + length parts → IsSome (entry_at (numbered place parts) i)
numbered_there place [] i ge lt = absurd (omega arith)
numbered_there place (part ∷ parts) i ge lt =
    some_either (nat_eq place i) part (entry_at (numbered (place + 1) parts) i)
    (λ other. let ne = unequal place i other in numbered_there (place + 1) parts i (omega (arith, ne)) (omega arith))

pub numbered_none : (place : ℕ) (parts : List (List ℕ)) (i : ℕ) → place + length parts ≤ i → entry_at (numbered place parts) i ≡ None
numbered_none place [] i past = refl
numbered_none place (part ∷ parts) i past =
    not_here place part (entry_at (numbered (place + 1) parts) i) i (λ same. absurd (omega arith)) ∙ numbered_none (place + 1) parts i (omega arith)

-- ---- entries that are read

pub log_fits : (entry : Cells) (place : ℕ) (es : List Entry) → HoldsLog entry place es → AllByRecursion FitsEntry es
log_fits entry place [] h = tt
log_fits entry place (e ∷ es) h = (h.1, log_fits entry (place + 1) es h.2)

-- what is found at the places of a log are its entries' bytes
pub log_found : (entry : Cells) (place : ℕ) (es : List Entry) (found : List (List ℕ)) → HoldsLog entry place es → length found ≡ length es
    → ((i : ℕ) → i < length es → slice_get found i ≡ entry (place + i)) → found ≡ map spelled_entry es
log_found entry place [] [] h len each = refl
log_found entry place [] (bytes ∷ rest) h len each = absurd (omega arith)
log_found entry place (e ∷ es) [] h len each = absurd (omega arith)
log_found entry place (e ∷ es) (bytes ∷ rest) h len each =
    let here : place + 0 ≡ place = omega arith in
    let first : Some bytes ≡ Some (spelled_entry e) = each 0 (omega arith) ∙ ap entry here ∙ h.0 in
    let others : rest ≡ map spelled_entry es =
    log_found entry (place + 1) es rest h.2 (omega arith)
    (λ i lt. let next : place + suc i ≡ place + 1 + i = omega arith in each (suc i) (omega arith) ∙ ap entry next) in
    cc
