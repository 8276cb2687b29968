-- The machine's tree as a map.
use Rattle.std.proofs.Common.{◌≡◌, ℕ, ◌≤◌, Bool, true, false, cond, List, [], ◌∷◌, map, length, Option, Some, None, Ok, refl, sym, ap, subst, ◌∙◌}
use Rattle.std.specs.Prelude.{Vec, ◌&&◌, T}
use Rattle.std.specs.declared.alloc.Global.{Global}
use Rattle.std.specs.declared.cmp.Ordering.{Ordering}
use Rattle.std.specs.declared.cmp.Ordering.TheVariants.{Less, Equal, Greater}
use Rattle.std.specs.FinMap as finite
use Rattle.std.specs.FinMap.Entries.{below_all}
use Rattle.std.specs.List.{All, AllByRecursion}
use Rattle.std.specs.List.Sorted.{IsStrictlySortedBy}
use Rattle.std.specs.Map.{lookup, keys_of, values_of, KeepsOthers, IsKeyTest, AreApart}
use Rattle.std.specs.BTreeMap as tree
use Rattle.std.specs.Option.{option_map}
use Rattle.std.specs.Ordering.{is_eq, is_lt, eq_by_cmp}
use Rattle.std.specs.Cmp.Lexicographic.{nat_list_cmp_total}
use Rattle.std.proofs.lemmas.Cmp.{eq_by_cmp_equiv}
use Rattle.std.proofs.lemmas.List.{length-map}
use Rattle.std.proofs.lemmas.List.Elements.{All-head, All-tail}
use Rattle.raft_wire.specs.Reader.{all_of}
use Rattle.raft_wire.specs.Memberships.{Chained, spelled_list}
use Rattle.raft_wire.proofs.Whole.{whole_again}
use Rattle.raft_kv.specs.Map.{key_count_limit, Pair, Tree, are_rising, in_order, is_map, is_map_read, map_in, map_of, map_read, nothing_left, pairs_at, plain, spelled_map, spelled_pair, tree_order, IsTreeWithin, KeyFits, ValueFits}
use Rattle.raft_kv.specs.Machine.{state_of}
use Rattle.raft_kv.proofs.Reading.{FitsPair, FitsPairs, pairs_reads}

abbrev Owned : Type 0
Owned = Vec ℕ Global

abbrev pub bytes_of : Owned → List ℕ
bytes_of v = v.items

abbrev pub test_at : List ℕ → Owned → Bool
test_at q k = is_eq (in_order q k.items)

-- ---- what a key has

found_plain : (q : List ℕ) (es : List (Owned × Owned)) → finite.find in_order q (map plain es) ≡ option_map bytes_of (lookup (test_at q) es)
found_plain q [] = refl
found_plain q (e ∷ es) = by (test_at q e.0) (found_plain q es) where
  by : (b : Bool) → finite.find in_order q (map plain es) ≡ option_map bytes_of (lookup (test_at q) es)
      → cond b (Some e.1.items) (finite.find in_order q (map plain es)) ≡ option_map bytes_of (cond b (Some e.1) (lookup (test_at q) es))
  by true h = refl
  by false h = h

pub get_of : (t : Tree) (q : List ℕ) → finite.get (map_of t) q ≡ option_map bytes_of (tree.get_by (λ (k : Owned). in_order q k.items) t)
get_of t q = finite.get-from_entries nat_list_cmp_total (map plain t.entries) q ∙ found_plain q t.entries

-- ---- what a change leaves

equal : (o : Ordering) → is_eq o ≡ true → o ≡ Equal
equal Less h = absurd cc
equal Equal h = refl
equal Greater h = absurd cc

pub same_key : (x y : List ℕ) → is_eq (in_order x y) ≡ true → x ≡ y
same_key x y h = finite.slice_cmp-IsAntisymmetric finite.nat_cmp-IsAntisymmetric x y (equal (in_order x y) h)

other_entries : {X K : Type 0} (eq : K → K → Bool) (test : K → Bool) (old new : List (K × X)) → KeepsOthers eq test old new → (other : K → Bool) → IsKeyTest eq other → AreApart test other → lookup other new ≡ lookup other old
unfolding KeepsOthers
other_entries eq test old new h = h

updated : (key : List ℕ) (m n : Tree) (w : Option Owned) → tree.UpdatesBy tree_order (λ (k : Owned). in_order key k.items) m n w
    → (q : List ℕ) → tree.get_by (λ (k : Owned). in_order q k.items) n ≡ cond (eq_by_cmp in_order q key) w (tree.get_by (λ (k : Owned). in_order q k.items) m)
updated key m n w h q = by (eq_by_cmp in_order q key) refl where
  by : (b : Bool) → eq_by_cmp in_order q key ≡ b → tree.get_by (λ (k : Owned). in_order q k.items) n ≡ cond b w (tree.get_by (λ (k : Owned). in_order q k.items) m)
  by true e = subst (λ (l : List ℕ). tree.get_by (λ (k : Owned). in_order l k.items) n ≡ w) (sym (same_key q key e)) h.1
  by false e =
      other_entries _ _ _ _ h.3 (test_at q) (λ x y. (eq_by_cmp_equiv nat_list_cmp_total).congr q x.items y.items)
      (λ k at. subst (λ (l : List ℕ). is_eq (in_order q l) ≡ false) (same_key key k.items at) e)

seen_either : (b : Bool) (x y : Option Owned) → option_map bytes_of (cond b x y) ≡ cond b (option_map bytes_of x) (option_map bytes_of y)
seen_either true x y = refl
seen_either false x y = refl

seen : (key : List ℕ) (m n : Tree) (w : Option Owned) → tree.UpdatesBy tree_order (λ (k : Owned). in_order key k.items) m n w
    → (q : List ℕ) → finite.get (map_of n) q ≡ cond (eq_by_cmp in_order q key) (option_map bytes_of w) (finite.get (map_of m) q)
seen key m n w h q =
    get_of n q ∙ ap (option_map bytes_of) (updated key m n w h q) ∙ seen_either (eq_by_cmp in_order q key) w (tree.get_by (λ (k : Owned). in_order q k.items) m)
    ∙ ap (cond (eq_by_cmp in_order q key) (option_map bytes_of w)) (sym (get_of m q))

abbrev exact : finite.IsAntisymmetric in_order
exact = finite.slice_cmp-IsAntisymmetric finite.nat_cmp-IsAntisymmetric

pub insert_of : (m n : Tree) (key value : Owned) → tree.UpdatesBy tree_order (λ (k : Owned). in_order key.items k.items) m n (Some value) → map_of n ≡ finite.insert (map_of m) key.items value.items
insert_of m n key value h =
    finite.same_map nat_list_cmp_total exact (map_of n) (finite.insert (map_of m) key.items value.items)
    (λ q. seen key.items m n (Some value) h q ∙ sym (finite.get-insert nat_list_cmp_total (map_of m) key.items value.items q))

pub remove_of : (m n : Tree) (key : List ℕ) → tree.UpdatesBy tree_order (λ (k : Owned). in_order key k.items) m n None → map_of n ≡ finite.remove (map_of m) key
remove_of m n key h =
    finite.same_map nat_list_cmp_total exact (map_of n) (finite.remove (map_of m) key)
    (λ q. seen key m n None h q ∙ sym (finite.get-remove nat_list_cmp_total (map_of m) key q))

-- ---- the entries, in order

both : (a b : Bool) → T a → T b → T (a && b)
both true b p q = q
both false b p q = absurd p

below : (x : Owned) (es : List (Owned × Owned)) → AllByRecursion (λ (y : Owned). tree_order x y ≡ Less) (keys_of es) → T (below_all in_order x.items (map plain es))
below x [] h = tt
below x (e ∷ es) h = both _ _ (subst (λ (o : Ordering). T (is_lt o)) (sym h.0) tt) (below x es h.1)

sorted_plain : (es : List (Owned × Owned)) → IsStrictlySortedBy tree_order (keys_of es) → T (finite.is_sorted in_order (map plain es))
unfolding IsStrictlySortedBy
sorted_plain [] h = tt
sorted_plain (e ∷ es) h = both _ _ (below e.0 es h.0) (sorted_plain es h.1)

pub from_rising : (pairs : List Pair) → T (finite.is_sorted in_order pairs) → finite.from_entries {R = in_order} pairs ≡ finite.from_sorted pairs
from_rising pairs h =
    finite.same_map nat_list_cmp_total exact (finite.from_entries pairs) (finite.from_sorted pairs)
    (λ q. finite.get-from_entries nat_list_cmp_total pairs q ∙ sym (finite.get-from_sorted in_order pairs q h))

pub entries_of : (t : Tree) → tree.IsOrdered tree_order t → finite.entries (map_of t) ≡ map plain t.entries
entries_of t h =
    let sorted = sorted_plain t.entries h in
    ap finite.entries (from_rising (map plain t.entries) sorted) ∙ finite.entries-from_sorted in_order (map plain t.entries) sorted

pub len_of : (t : Tree) → tree.IsOrdered tree_order t → finite.len (map_of t) ≡ length t.entries
len_of t h = finite.len-entries (map_of t) ∙ ap length (entries_of t h) ∙ length-map t.entries plain

-- ---- limits

pairs_fit : (es : List (Owned × Owned)) → All KeyFits (keys_of es) → All ValueFits (values_of es) → Chained (λ _ pair. FitsPair pair) nothing_left None (map plain es)
pairs_fit [] k v = tt
pairs_fit (e ∷ es) k v =
    ((All-head KeyFits e.0 (keys_of es) k, All-head ValueFits e.1 (values_of es) v), pairs_fit es (All-tail KeyFits e.0 (keys_of es) k) (All-tail ValueFits e.1 (values_of es) v))

tree_fits : (t : Tree) → IsTreeWithin t → FitsPairs (map plain t.entries)
tree_fits t h = (subst (λ (n : ℕ). n ≤ key_count_limit) (sym (length-map t.entries plain)) h.count, pairs_fit t.entries h.keys h.values)

-- the spelling of a machine's tree is read as its pairs
tree_again : (t : Tree) → IsTreeWithin t → all_of pairs_at (spelled_map (map_of t)) ≡ Ok (map plain t.entries)
tree_again t h =
    ap (λ (pairs : List Pair). all_of pairs_at (spelled_list spelled_pair pairs)) (entries_of t h.ordered)
    ∙ whole_again pairs_at (spelled_list spelled_pair) FitsPairs pairs_reads (map plain t.entries) (tree_fits t h)

pub passes : (b : Bool) → T b → b ≡ true
passes true h = refl
passes false h = absurd h

pub ordered_rises : (t : Tree) → tree.IsOrdered tree_order t → are_rising (map plain t.entries) ≡ true
ordered_rises t h = passes _ (sorted_plain t.entries h)

pub tree_map : (t : Tree) → IsTreeWithin t → map_in (spelled_map (map_of t)) ≡ map_of t
tree_map t h =
    ap map_read (tree_again t h) ∙ ap (λ (b : Bool). cond b (map_of t) finite.empty) (ordered_rises t h.ordered)

pub tree_state : (t : Tree) → IsTreeWithin t → state_of (map_of t) ≡ spelled_map (map_of t)
tree_state t h =
    let is : is_map (spelled_map (map_of t)) ≡ true = ap is_map_read (tree_again t h) ∙ ordered_rises t h.ordered in
    ap (λ (b : Bool). cond b (spelled_map (map_of t)) (spelled_map finite.empty)) is

pub state_map : (t : Tree) → IsTreeWithin t → map_in (state_of (map_of t)) ≡ map_of t
state_map t h = ap map_in (tree_state t h) ∙ tree_map t h
