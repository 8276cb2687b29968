-- The last membership of a list, by its last entry.
use Rattle.std.specs.Prelude.{◌≡◌, List, [], ◌∷◌, ◌++◌, Option, Some, None, option_map, refl}
use Rattle.std.proofs.Common.{ap, ◌∙◌}
use Rattle.raft_state.specs.declared.entry.EntryPayload.TheVariants.{Blank, Normal, Membership as Members}
use Rattle.raft_group_step.specs.Values.{Entry, EntryPayload, LoggedMembership, Membership, last_membership, membership_after}
use Rattle.raft_group_lists.specs.Notes.{membership_in}

last_behind : (before : Option LoggedMembership) (list : List Entry) (e : Entry) → last_membership before (list ++ e ∷ []) ≡ membership_after (last_membership before list) e.log_id e.payload
last_behind before [] e = refl
last_behind before (x ∷ xs) e = last_behind (membership_after before x.log_id x.payload) xs e

abbrev pub membership_of : Option LoggedMembership → Option Membership
membership_of m = option_map (λ (x : LoggedMembership). x.membership) m

in_behind : (list : List Entry) (e : Entry) → membership_in (list ++ e ∷ []) ≡ membership_of (membership_after (last_membership None list) e.log_id e.payload)
in_behind list e = ap membership_of (last_behind None list e)

-- the last entry has it
pub membership_here : (list : List Entry) (e : Entry) (m : Membership) → e.payload ≡ Members m → membership_in (list ++ e ∷ []) ≡ Some m
membership_here list e m is =
    in_behind list e ∙ ap (λ (p : EntryPayload). membership_of (membership_after (last_membership None list) e.log_id p)) is

-- it has none
pub membership_past : (list : List Entry) (e : Entry) → ((m : Membership) → e.payload ≡ Members m → ⊥) → membership_in (list ++ e ∷ []) ≡ membership_in list
membership_past list e other = in_behind list e ∙ go e.payload refl
  where
    after : EntryPayload → Option Membership
    after p = membership_of (membership_after (last_membership None list) e.log_id p)

    go : (p : EntryPayload) → e.payload ≡ p → after e.payload ≡ membership_in list
    go Blank is = ap after is
    go (Normal command) is = ap after is
    go (Members m) is = absurd (other m is)
