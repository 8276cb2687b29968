-- The last membership of a list, where the entries before it end somewhere among its own.
use Rattle.std.specs.Prelude.{◌≡◌, ℕ, zero, suc, ◌≤◌, List, [], ◌∷◌, ◌++◌, take, drop, Option, refl}
use Rattle.std.proofs.Common.{sym, ap, ◌∙◌, arith, take-append-drop}
use Rattle.raft_values.specs.declared.log_id.LogId.{LogId}
use Rattle.raft_state.specs.declared.entry.EntryPayload.TheVariants.{Blank, Normal, Membership as Members}
use Rattle.raft_group_step.specs.Values.{Entry, EntryPayload, LoggedMembership, last_membership, membership_after}

pub last_membership-append : (b : Option LoggedMembership) (xs ys : List Entry) → last_membership b (xs ++ ys) ≡ last_membership (last_membership b xs) ys
last_membership-append b [] ys = refl
last_membership-append b (x ∷ xs) ys = last_membership-append (membership_after b x.log_id x.payload) xs ys

-- a list has a membership of its own, or leaves the one before it
data Decides (xs : List Entry) : Type 0 where
  own : ((b c : Option LoggedMembership) → last_membership b xs ≡ last_membership c xs) → Decides xs
  none : ((b : Option LoggedMembership) → last_membership b xs ≡ b) → Decides xs

by_payload : (id : LogId ℕ) (p : EntryPayload) (xs : List Entry) → Decides xs → Decides (record { log_id = id; payload = p } ∷ xs)
by_payload id p xs (own f) = own (λ b c. f (membership_after b id p) (membership_after c id p))
by_payload id Blank xs (none f) = none f
by_payload id (Normal command) xs (none f) = none f
by_payload id (Members m) xs (none f) = own (λ b c. refl)

decides : (xs : List Entry) → Decides xs
decides [] = none (λ b. refl)
decides (x ∷ xs) = by_payload x.log_id x.payload xs (decides xs)

twice : (b : Option LoggedMembership) (xs : List Entry) → last_membership (last_membership b xs) xs ≡ last_membership b xs
twice b xs = go (decides xs)
  where
    go : Decides xs → last_membership (last_membership b xs) xs ≡ last_membership b xs
    go (own f) = f (last_membership b xs) b
    go (none f) = f (last_membership b xs)

-- an end of the list after all of it
overlaps : (n : ℕ) (b : Option LoggedMembership) (xs : List Entry) → last_membership (last_membership b xs) (drop n xs) ≡ last_membership b xs
overlaps zero b xs = twice b xs
overlaps (suc n) b [] = refl
overlaps (suc n) b (x ∷ xs) = overlaps n (membership_after b x.log_id x.payload) xs

drop_split : (n k : ℕ) (xs : List Entry) → n ≤ k → drop n xs ≡ drop n (take k xs) ++ drop k xs
drop_split zero k xs l = sym (take-append-drop k xs)
drop_split (suc n) zero xs l = absurd (omega arith)
drop_split (suc n) (suc k) [] l = refl
drop_split (suc n) (suc k) (x ∷ xs) l = drop_split n k xs (omega arith)

-- all from a place on, after all up to a place that isn't before it
pub last_overlap : (n k : ℕ) (b : Option LoggedMembership) (xs : List Entry) → n ≤ k → last_membership (last_membership b (take k xs)) (drop n xs) ≡ last_membership b xs
last_overlap n k b xs l =
    ap (last_membership (last_membership b (take k xs))) (drop_split n k xs l)
    ∙ last_membership-append (last_membership b (take k xs)) (drop n (take k xs)) (drop k xs)
    ∙ ap (λ c. last_membership c (drop k xs)) (overlaps n b (take k xs))
    ∙ sym (last_membership-append b (take k xs) (drop k xs))
    ∙ ap (last_membership b) (take-append-drop k xs)
