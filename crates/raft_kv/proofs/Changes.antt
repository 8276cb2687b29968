-- Changes of the machine's tree leave it within its limits.
use Rattle.std.proofs.Common.{◌≡◌, ℕ, ◌+◌, ◌≤◌, Bool, true, false, cond, not, List, [], ◌∷◌, Option, Some, None, refl, sym, ap, subst, ◌∙◌, arith}
use Rattle.std.specs.Prelude.{Vec, ◌&&◌, nat_le, is_some}
use Rattle.std.specs.declared.alloc.Global.{Global}
use Rattle.std.specs.FinMap as finite
use Rattle.std.specs.BTreeMap as tree
use Rattle.std.specs.Map.{keys_of, lookup, remove_entry, values_of}
use Rattle.std.specs.List.{All}
use Rattle.std.specs.Option.{option_map}
use Rattle.std.proofs.lemmas.Bool.Decides.{nat_tests}
use Rattle.std.proofs.lemmas.List.Elements.{All-head, All-tail}
use Rattle.std.proofs.lemmas.Map.Views.{All-keys-insert_entry, All-map-remove_entry, All-values-insert_entry}
use Rattle.raft_wire.specs.Kv.{IsKey, IsValue}
use Rattle.raft_kv.specs.Machine.{is_full_for}
use Rattle.raft_kv.specs.Map.{key_count_limit, Tree, map_of, tree_order, IsTreeWithin, IsWithin, KeyFits, ValueFits}
use Rattle.raft_kv.proofs.Maps.{bytes_of, get_of, len_of, same_key, test_at}

abbrev Owned : Type 0
Owned = Vec ℕ Global

still_there : (o : Option Owned) → is_some (option_map bytes_of o) ≡ is_some o
still_there None = refl
still_there (Some v) = refl

room : (there : Bool) (len more : ℕ) → (nat_le key_count_limit len && not there) ≡ false → len ≤ key_count_limit → more ≡ len + cond there 0 1 → more ≤ key_count_limit
room true len more full few is = omega (arith, few, is)
room false len more full few is = grind (arith, nat_tests, full, few, is)

-- a tree that has a place for the key
pub inserted : (m n : Tree) (key value : Owned) (old : Option Owned) → IsTreeWithin m → is_full_for (map_of m) key.items ≡ false → IsKey key.items → IsValue value.items → old ≡ tree.get tree_order m key
    → n.entries ≡ tree.insert_entry tree_order m.entries key value → tree.btree_map_len n ≡ tree.btree_map_len m + cond (is_some old) 0 1 → tree.IsOrdered tree_order n → IsTreeWithin n
inserted m n key value old h full key_fits value_fits is entries len ordered =
    let there : finite.contains_key (map_of m) key.items ≡ is_some old = ap is_some (get_of m key.items) ∙ still_there (tree.get tree_order m key) ∙ ap is_some (sym is) in
    let no_room : (nat_le key_count_limit (tree.btree_map_len m) && not (is_some old)) ≡ false =
    sym (ap (λ (k : ℕ). nat_le key_count_limit k && not (finite.contains_key (map_of m) key.items)) (len_of m h.ordered) ∙ ap (λ (b : Bool). nat_le key_count_limit (tree.btree_map_len m) && not b) there) ∙ full in
    record {
      ordered = ordered;
      count = room (is_some old) (tree.btree_map_len m) (tree.btree_map_len n) no_room h.count len;
      keys = subst (λ (es : List (Owned × Owned)). All KeyFits (keys_of es)) (sym entries) (All-keys-insert_entry tree_order key value KeyFits m.entries h.keys key_fits);
      values = subst (λ (es : List (Owned × Owned)). All ValueFits (values_of es)) (sym entries) (All-values-insert_entry tree_order key value ValueFits m.entries h.values value_fits);
    }

pub removed : (m n : Tree) (test : Owned → Bool) (gone : ℕ) → IsTreeWithin m → n.entries ≡ remove_entry test m.entries → tree.btree_map_len n + gone ≡ tree.btree_map_len m → tree.IsOrdered tree_order n → IsTreeWithin n
removed m n test gone h entries len ordered = record {
  ordered = ordered;
  count = omega (arith, h.count, len);
  keys = subst (λ (es : List (Owned × Owned)). All KeyFits (keys_of es)) (sym entries) (All-map-remove_entry test (λ (e : Owned × Owned). e.0) KeyFits m.entries h.keys);
  values = subst (λ (es : List (Owned × Owned)). All ValueFits (values_of es)) (sym entries) (All-map-remove_entry test (λ (e : Owned × Owned). e.1) ValueFits m.entries h.values);
}

-- ---- the tree's map is within its limits

fits_there : (q : List ℕ) (es : List (Owned × Owned)) (v : Owned) → All KeyFits (keys_of es) → All ValueFits (values_of es) → lookup (test_at q) es ≡ Some v → IsKey q × IsValue v.items
fits_there q [] v k w h = absurd cc
fits_there q (e ∷ es) v k w h =
    by (test_at q e.0) refl h (fits_there q es v (All-tail KeyFits e.0 (keys_of es) k) (All-tail ValueFits e.1 (values_of es) w))
  where
    by : (b : Bool) → test_at q e.0 ≡ b → cond b (Some e.1) (lookup (test_at q) es) ≡ Some v → (lookup (test_at q) es ≡ Some v → IsKey q × IsValue v.items) → IsKey q × IsValue v.items
    by true at f later =
        let same : e.1 ≡ v = cc in
        (subst IsKey (sym (same_key q e.0.items at)) (All-head KeyFits e.0 (keys_of es) k), subst ValueFits same (All-head ValueFits e.1 (values_of es) w))
    by false at f later = later f

pub map_within : (t : Tree) → IsTreeWithin t → IsWithin (map_of t)
map_within t h = record {
  count = subst (λ (n : ℕ). n ≤ key_count_limit) (sym (len_of t h.ordered)) h.count;
  each = λ key value f. by key value (lookup (test_at key) t.entries) refl (sym (get_of t key) ∙ f);
}
  where
    by : (key value : List ℕ) (found : Option Owned) → lookup (test_at key) t.entries ≡ found → option_map bytes_of found ≡ Some value → IsKey key × IsValue value
    by key value None at f = absurd cc
    by key value (Some v) at f =
        let same : v.items ≡ value = cc in
        let fits = fits_there key t.entries v h.keys h.values at in
        (fits.0, subst IsValue same fits.1)
