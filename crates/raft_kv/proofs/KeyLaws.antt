-- What keys have after a put and a drop.
use Rattle.std.proofs.Common.{◌≡◌, ℕ, Bool, true, false, cond, List, Some, None, refl, ap, ◌∙◌}
use Rattle.std.specs.FinMap as finite
use Rattle.std.specs.Ordering.{eq_by_cmp}
use Rattle.std.specs.Cmp.Lexicographic.{nat_list_cmp_total}
use Rattle.raft_wire.specs.declared.kv.KvCommand.TheVariants.{Put}
use Rattle.raft_kv.specs.Map.{Map, in_order}
use Rattle.raft_kv.specs.Machine.{after_command, is_full_for}
use Rattle.raft_kv.proofs.Maps.{same_key}
use Rattle.raft_kv.proofs.WithinMaps.{itself}

pub differs : (x y : List ℕ) → (x ≡ y → ⊥) → eq_by_cmp in_order x y ≡ false
differs x y other = by (eq_by_cmp in_order x y) refl where
  by : (b : Bool) → eq_by_cmp in_order x y ≡ b → b ≡ false
  by true h = absurd (other (same_key x y h))
  by false h = refl

abbrev put_if : Map → List ℕ → List ℕ → Bool → Map
put_if m key value full = cond full m (finite.insert m key value)

pub got_put : (m : Map) (key value : List ℕ) → is_full_for m key ≡ false → finite.get (after_command m (Put key value)) key ≡ Some value
got_put m key value full =
    ap (λ (b : Bool). finite.get (put_if m key value b) key) full ∙ finite.get-insert nat_list_cmp_total m key value key
    ∙ ap (λ (b : Bool). cond b (Some value) (finite.get m key)) (itself key)

pub got_drop : (m : Map) (key : List ℕ) → finite.get (finite.remove m key) key ≡ None
got_drop m key = finite.get-remove nat_list_cmp_total m key key ∙ ap (λ (b : Bool). cond b None (finite.get m key)) (itself key)

pub other_put : (m : Map) (key value other : List ℕ) → (other ≡ key → ⊥) → finite.get (after_command m (Put key value)) other ≡ finite.get m other
other_put m key value other differ = by (is_full_for m key) where
  by : (b : Bool) → finite.get (put_if m key value b) other ≡ finite.get m other
  by true = refl
  by false =
      finite.get-insert nat_list_cmp_total m key value other ∙ ap (λ (b : Bool). cond b (Some value) (finite.get m other)) (differs other key differ)

pub other_drop : (m : Map) (key other : List ℕ) → (other ≡ key → ⊥) → finite.get (finite.remove m key) other ≡ finite.get m other
other_drop m key other differ =
    finite.get-remove nat_list_cmp_total m key other ∙ ap (λ (b : Bool). cond b None (finite.get m other)) (differs other key differ)
