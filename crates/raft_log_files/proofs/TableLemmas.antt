-- What a table of TOML has at a key after a value was put there.
use Rattle.std.proofs.Common.{◌≡◌, ℕ, cond, List, [], ◌∷◌, Option, Some, None, Global, String, string_bytes, Ordering, Less, Equal, Greater, nat_cmp, is_eq, refl, sym, ap, ◌∙◌, arith}
use Rattle.std.specs.Cmp.Lexicographic.{slice_cmp}
use Rattle.std.specs.Ordering.{match_ordering, ordering_reverse}
use Rattle.std.specs.String.{string_cmp}
use Rattle.std.specs.BTreeMap.{insert_entry}
use Rattle.std.proofs.lemmas.Cmp.{nat_list_cmp_total}
use Rattle.toml.specs.Data.{Data, get_member, depth, members_depth}
use Rattle.toml.specs.View.{view, members_view}
use Rattle.toml.specs.declared.value.Value.{Value}
use Rattle.raft_log_files.specs.Toml.{after_put}

abbrev pub Entry : Type 0
Entry = String Global × Value

as_test : (o : Ordering) (a b : Option Data) → match_ordering o a b a ≡ cond (is_eq o) b a
as_test Less a b = refl
as_test Equal a b = refl
as_test Greater a b = refl

same_place : (o : Ordering) (r d e : Option Data) → match_ordering o r d r ≡ cond (is_eq o) d (match_ordering o r e r)
same_place Less r d e = refl
same_place Equal r d e = refl
same_place Greater r d e = refl

-- equal keys are found alike
ties : (q k l : List ℕ) → slice_cmp nat_cmp k l ≡ Equal → slice_cmp nat_cmp q k ≡ slice_cmp nat_cmp q l
ties q k l h =
    nat_list_cmp_total.antisymm q k ∙ ap ordering_reverse (nat_list_cmp_total.congr k l q h) ∙ sym (nat_list_cmp_total.antisymm q l)

-- a key above another is not found where that one is
apart : (q k l : List ℕ) → slice_cmp nat_cmp k l ≡ Greater → slice_cmp nat_cmp q l ≡ Equal → slice_cmp nat_cmp q k ≡ Less
apart q k l above here = nat_list_cmp_total.congr q l k here ∙ nat_list_cmp_total.antisymm l k ∙ ap ordering_reverse above

behind : (o p : Ordering) (r d e : Option Data) → (o ≡ Equal → p ≡ Less) → match_ordering o (cond (is_eq p) d r) e (cond (is_eq p) d r) ≡ cond (is_eq p) d (match_ordering o r e r)
behind Less p r d e h = refl
behind Equal p r d e h = rw (h refl)
behind Greater p r d e h = refl

found_at : (o : Ordering) (k : String Global) (v : Value) (e : Entry) (es : List Entry) (q : List ℕ) → string_cmp k e.0 ≡ o
    → get_member q (members_view (insert_entry string_cmp es k v)) ≡ after_put (string_bytes k) (Some (view v)) q (get_member q (members_view es))
    → get_member q (members_view (match_ordering o ((k, v) ∷ e ∷ es) ((e.0, v) ∷ es) (e ∷ insert_entry string_cmp es k v)))
    ≡ after_put (string_bytes k) (Some (view v)) q (get_member q (members_view (e ∷ es)))
found_at Less k v e es q is ih = as_test (slice_cmp nat_cmp q (string_bytes k)) _ _
found_at Equal k v e es q is ih =
    rw (ties q (string_bytes k) (string_bytes e.0) is) (same_place (slice_cmp nat_cmp q (string_bytes e.0)) _ _ _)
found_at Greater k v e es q is ih =
    rw ih (behind (slice_cmp nat_cmp q (string_bytes e.0)) (slice_cmp nat_cmp q (string_bytes k)) _ _ _ (apart q (string_bytes k) (string_bytes e.0) is))

-- what each key has after an insert
pub found_after : (k : String Global) (v : Value) (q : List ℕ) (es : List Entry)
    → get_member q (members_view (insert_entry string_cmp es k v)) ≡ after_put (string_bytes k) (Some (view v)) q (get_member q (members_view es))
found_after k v q [] = as_test (slice_cmp nat_cmp q (string_bytes k)) None (Some (view v))
found_after k v q (e ∷ es) = found_at (string_cmp k e.0) k v e es q refl (found_after k v q es)

flat_at : (o : Ordering) (k : String Global) (v : Value) (e : Entry) (es : List Entry) → depth (view v) ≡ 0 → members_depth (members_view (e ∷ es)) ≡ 0
    → members_depth (members_view (insert_entry string_cmp es k v)) ≡ 0
    → members_depth (members_view (match_ordering o ((k, v) ∷ e ∷ es) ((e.0, v) ∷ es) (e ∷ insert_entry string_cmp es k v))) ≡ 0
flat_at Less k v e es flat all ih = rw (flat, all)
flat_at Equal k v e es flat all ih = omega arith
flat_at Greater k v e es flat all ih = omega arith

-- a flat table stays flat
pub flat_after : (k : String Global) (v : Value) (es : List Entry) → depth (view v) ≡ 0 → members_depth (members_view es) ≡ 0
    → members_depth (members_view (insert_entry string_cmp es k v)) ≡ 0
flat_after k v [] flat all = omega arith
flat_after k v (e ∷ es) flat all = flat_at (string_cmp k e.0) k v e es flat all (flat_after k v es flat (omega arith))
