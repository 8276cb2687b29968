-- Trees that are made of the pairs that bytes spell.
use Rattle.std.proofs.Common.{◌≡◌, ℕ, ◌≤◌, Bool, true, false, cond, List, [], ◌∷◌, ◌++◌, map, Some, None, Ok, refl, sym, ap, subst, ◌∙◌}
use Rattle.std.specs.Prelude.{Vec, ◌&&◌, slice_get}
use Rattle.std.specs.declared.alloc.Global.{Global}
use Rattle.std.specs.FinMap as finite
use Rattle.std.specs.FinMap.Entries.{below_all}
use Rattle.std.specs.List.{All}
use Rattle.std.specs.Map.{keys_of, values_of}
use Rattle.std.specs.Ordering.{is_lt}
use Rattle.std.proofs.lemmas.List.{length-map}
use Rattle.std.proofs.lemmas.List.Elements.{All-cons, All-nil}
use Rattle.raft_bytes.specs.Bytes.{AreBytes}
use Rattle.raft_wire.specs.Reader.{all_of}
use Rattle.raft_wire.specs.Memberships.{Chained, spelled_list}
use Rattle.raft_wire.proofs.Whole.{whole_takes}
use Rattle.raft_kv.specs.Map.{key_count_limit, Pair, Tree, are_rising, in_order, is_map, is_map_read, map_of, nothing_left, pairs_at, plain, restored, spelled_map, spelled_pair, IsTreeWithin, KeyFits, ValueFits}
use Rattle.raft_kv.specs.Pairs.{IsTreeOf, is_before}
use Rattle.raft_kv.proofs.Reading.{FitsPair, FitsPairs, pairs_reads}
use Rattle.raft_kv.proofs.Maps.{entries_of, ordered_rises}

abbrev Owned : Type 0
Owned = Vec ℕ Global

-- ---- keys that don't rise

never : (b : Bool) → (b && false) ≡ false
never true = refl
never false = refl

not_before : (p : Pair) (es : List (Owned × Owned)) → is_before p.0 es ≡ false → are_rising (p ∷ map plain es) ≡ false
not_before p [] h = absurd cc
not_before p (e ∷ es) h =
    ap (λ (b : Bool). (b && below_all in_order p.0 (map plain es)) && are_rising (map plain (e ∷ es))) h

pub not_rising : (front : List Pair) (p : Pair) (es : List (Owned × Owned)) → is_before p.0 es ≡ false → are_rising (front ++ p ∷ map plain es) ≡ false
not_rising [] p es h = not_before p es h
not_rising (x ∷ front) p es h =
    ap (λ (b : Bool). below_all in_order x.0 (front ++ p ∷ map plain es) && b) (not_rising front p es h) ∙ never (below_all in_order x.0 (front ++ p ∷ map plain es))

pub before_first : (key : List ℕ) (es : List (Owned × Owned)) (first value : Owned) → slice_get es 0 ≡ Some (first, value) → is_before key es ≡ is_lt (in_order key first.items)
before_first key [] first value h = absurd cc
before_first key (e ∷ es) first value h =
    let same : e ≡ (first, value) = cc in
    ap (λ (x : Owned × Owned). is_lt (in_order key x.0.items)) same

-- ---- keys that rise

keys_fit : (es : List (Owned × Owned)) → Chained (λ _ pair. FitsPair pair) nothing_left None (map plain es) → All KeyFits (keys_of es)
keys_fit [] h = All-nil KeyFits
keys_fit (e ∷ es) h = All-cons KeyFits e.0 (keys_of es) h.0.0 (keys_fit es h.1)

values_fit : (es : List (Owned × Owned)) → Chained (λ _ pair. FitsPair pair) nothing_left None (map plain es) → All ValueFits (values_of es)
values_fit [] h = All-nil ValueFits
values_fit (e ∷ es) h = All-cons ValueFits e.1 (values_of es) h.0.1 (values_fit es h.1)

module _ (bytes : List ℕ) (pairs : List Pair) (t : Tree) (fits : AreBytes bytes) (read : all_of pairs_at bytes ≡ Ok pairs) (is : IsTreeOf pairs (Some t)) where
  found : FitsPairs pairs × (bytes ≡ spelled_list spelled_pair pairs)
  found = whole_takes pairs_at (spelled_list spelled_pair) FitsPairs pairs_reads bytes pairs fits read

  pub tree_restored : spelled_map (map_of t) ≡ restored bytes
  tree_restored =
      let rises : is_map bytes ≡ true = ap is_map_read read ∙ ap are_rising (sym is.1) ∙ ordered_rises t is.0 in
      ap (spelled_list spelled_pair) (entries_of t is.0 ∙ is.1) ∙ sym found.1
      ∙ sym (ap (λ (b : Bool). cond b bytes (spelled_map finite.empty)) rises)

  pub tree_within : IsTreeWithin t
  tree_within =
      let fit : FitsPairs (map plain t.entries) = subst FitsPairs (sym is.1) found.0 in
      record {
        ordered = is.0;
        count = subst (λ (n : ℕ). n ≤ key_count_limit) (length-map t.entries plain) fit.0;
        keys = keys_fit t.entries fit.1;
        values = values_fit t.entries fit.1;
      }
