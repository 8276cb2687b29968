-- The last membership of a list, seen through a snapshot and a log that overlap.
use Rattle.std.specs.Prelude.{◌≡◌, ℕ, List, [], ◌∷◌, ◌++◌, length, drop, ◌+◌, Option, Some, None, option_and_then, refl}
use Rattle.std.proofs.Common.{sym, ap, ◌∙◌}
use Rattle.raft_values.specs.declared.log_id.LogId.{LogId}
use Rattle.raft_group_step.specs.Values.{Membership}
use Rattle.raft_group_step.specs.Values.{Entry, EntryPayload, LoggedMembership, membership_after, last_membership}
use Rattle.raft_state.specs.declared.entry.EntryPayload.TheVariants.{Blank, Normal, Membership as Members}
use Rattle.raft_group_step.specs.StoredGroup.{StoredGroup, Snapshot, first_place, prefix_of, membership_in_force}
use Rattle.raft_group_step.proofs.LastMembership.{last_membership-append, last_overlap}
use Rattle.raft_laws.proofs.BallotAgreement.{same_some}
use Rattle.raft_laws.proofs.Shapes.{Good, Joined, good_drop}

-- where there was a membership, there is one
some_after : (x : LoggedMembership) (id : LogId ℕ) (p : EntryPayload) → (y : LoggedMembership) × (membership_after (Some x) id p ≡ Some y)
some_after x id Blank = (x, refl)
some_after x id (Normal command) = (x, refl)
some_after x id (Members m) = (record { log_id = id; membership = m }, refl)

pub still_some : (x : LoggedMembership) (ys : List Entry) → (y : LoggedMembership) × (last_membership (Some x) ys ≡ Some y)
still_some x [] = (x, refl)
still_some x (y ∷ ys) =
    let next = some_after x y.log_id y.payload in
    let more = still_some next.0 ys in
    (more.0, ap (λ b. last_membership b ys) next.1 ∙ more.1)

abbrev pub HasMembership : List Entry → Type 0
HasMembership xs = (x : LoggedMembership) × (last_membership None xs ≡ Some x)

pub has_more : (xs ys : List Entry) → HasMembership xs → HasMembership (xs ++ ys)
has_more xs ys h =
    let more = still_some h.0 ys in
    (more.0, last_membership-append None xs ys ∙ ap (λ b. last_membership b ys) h.1 ∙ more.1)

-- the last membership of a good list keeps the group's voters
voters_after : (m : Membership) (b : Option LoggedMembership) → ((y : LoggedMembership) → b ≡ Some y → y.membership.configs ≡ m.configs) → (id : LogId ℕ) (p : EntryPayload) → ((y : Membership) → p ≡ Members y → y.configs ≡ m.configs) → (x : LoggedMembership) → membership_after b id p ≡ Some x → x.membership.configs ≡ m.configs
voters_after m b h id Blank k x q = h x q
voters_after m b h id (Normal command) k x q = h x q
voters_after m b h id (Members y) k x q = ap (λ v. v.membership.configs) (sym (same_some q)) ∙ k y refl

pub last_voters : (m : Membership) (from : ℕ) (xs : List Entry) (b : Option LoggedMembership) → ((y : LoggedMembership) → b ≡ Some y → y.membership.configs ≡ m.configs) → Good m from xs → (x : LoggedMembership) → last_membership b xs ≡ Some x → x.membership.configs ≡ m.configs
last_voters m from [] b h g x e = h x e
last_voters m from (e ∷ es) b h g x q =
    last_voters m (from + 1) es (membership_after b e.log_id e.payload)
    (voters_after m b h e.log_id e.payload (λ y r. g.voters 0 e y refl r))
    (good_drop 1 g) x q

-- what is in force is the last membership of the list
pub in_force : (st : StoredGroup) (xs : List Entry) → Joined st xs → ((x : Snapshot) → st.snapshot ≡ Some x → x.membership ≡ last_membership None x.«prefix») → membership_in_force st ≡ last_membership None xs
in_force st xs j h =
    ap (last_membership (option_and_then (λ (x : Snapshot). x.membership) st.snapshot)) j.log
    ∙ ap (λ b. last_membership b (drop (first_place st) xs)) (of_snapshot st.snapshot h ∙ ap (last_membership None) j.front)
    ∙ last_overlap (first_place st) (length (prefix_of st.snapshot)) None xs j.low
  where
    of_snapshot : (o : Option Snapshot) → ((x : Snapshot) → o ≡ Some x → x.membership ≡ last_membership None x.«prefix») → option_and_then (λ (x : Snapshot). x.membership) o ≡ last_membership None (prefix_of o)
    of_snapshot None k = refl
    of_snapshot (Some x) k = k x refl
