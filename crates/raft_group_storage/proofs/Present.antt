-- Which groups are present among those kept in memory.
use Rattle.std.proofs.Common.{◌≡◌, ◌∙◌, ℕ, ap, inl, inr, refl}
use Rattle.std.specs.Prelude.{true, false, List, [], ◌∷◌, Option, Some, None, is_some, unwrap_or}
use Rattle.std.specs.BTreeMap.{BTreeMap, get}
use Rattle.std.specs.Ordering.{nat_cmp}
use Rattle.raft_group_step.specs.GroupState.{no_group}
use Rattle.raft_group_step.specs.StoredGroup.{StoredGroup}
use Rattle.raft_group_storage.specs.Plain.{IsAmong, stored_in}

none_present : (stored : Option StoredGroup) → is_some stored ≡ false → (unwrap_or stored no_group).present ≡ false
none_present None none = refl
none_present (Some s) none = absurd (let no : true ≡ false = none in cc)

-- a group of which nothing is kept isn't present
pub not_present : (groups : BTreeMap ℕ StoredGroup) (group : ℕ) → is_some (get nat_cmp groups group) ≡ false → (stored_in groups.entries group).present ≡ false
not_present groups group none = none_present (get nat_cmp groups group) none

-- one of which a part is shown is present as that says
pub present_as_shown : (kept seen : List (ℕ × StoredGroup)) (group : ℕ) (s : StoredGroup) → kept ≡ seen → IsAmong seen group (s ∷ []) → (stored_in kept group).present ≡ s.present
present_as_shown kept seen group s same (inl is) = ap (λ (groups : List (ℕ × StoredGroup)). (stored_in groups group).present) same ∙ ap (λ (x : StoredGroup). x.present) is
present_as_shown kept seen group s same (inr none) = absurd none
