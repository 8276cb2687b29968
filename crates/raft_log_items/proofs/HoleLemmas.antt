-- Spans of what is written and of more behind it, and the holes that a machine tells.
use Rattle.std.proofs.Common.{◌≡◌, inl, inr, ◌+◌, ◌-◌, ◌<◌, ℕ, Bool, true, false, List, [], ◌∷◌, ◌++◌, length, get_or, take, map, Option, Some, None, refl, sym, ap, subst, ◌∙◌, append-nil, arith}
use Rattle.std.specs.Prelude.{slice_get, option_to_list, if◌then◌else◌, nat_eq}
use Rattle.std.specs.List.{AllByRecursion, filter_map, flat_map}
use Rattle.std.specs.List.Sorted.{IsStrictlySortedBy}
use Rattle.std.specs.Map.{keys_of, lookup}
use Rattle.std.specs.Option.{option_or}
use Rattle.std.specs.BTreeMap.{get, is_at}
use Rattle.std.specs.Cmp.{eq_by_cmp_equiv}
use Rattle.std.specs.Ordering.{is_eq, nat_cmp}
use Rattle.std.specs.declared.cmp.Ordering.TheVariants.{Less}
use Rattle.std.proofs.lemmas.Grind.{flat_map-append}
use Rattle.std.proofs.lemmas.Bool.{eq-eqb, eqb-true}
use Rattle.std.proofs.lemmas.Cmp.{nat_cmp_total}
use Rattle.std.proofs.lemmas.List.{map-append, take_more}
use Rattle.std.proofs.lemmas.List.Elements.{filter_map-append}
use Rattle.std.proofs.lemmas.Map.{lookup-none}
use Rattle.std.proofs.lemmas.Map.Entries.{lookup_head, lookup_tail, none_past_head}
use Rattle.std.proofs.lemmas.Map.Keys.{IsDistinct-from_sorted, sorted_tail}
use Rattle.raft_log_records.specs.declared.item.EntryIndex.{EntryIndex}
use Rattle.raft_log_records.specs.declared.item.LogItem.{LogItem}
use Rattle.raft_log_records.specs.Item.{Item, item_of, items_of}
use Rattle.raft_log_records.specs.Item.Change.{entries}
use Rattle.raft_log_disk.specs.Disk.{IsIn}
use Rattle.raft_log_recovery.specs.Replay.{Placed}
use Rattle.raft_log_items.specs.declared.checker.ConsistencyChecker.{ConsistencyChecker}
use Rattle.raft_log_items.specs.declared.checker.Span.{Span}
use Rattle.raft_log_items.specs.Holes.{AreHoles, Bounds, HasSpans, bounds_in, bounds_of, end_behind, hole_behind, hole_between, hole_in, joined, last_behind, span_in, with_span, with_spans, written_by, written_in}

option_or_assoc : {X : Type 0} (a b c : Option X) → option_or (option_or a b) c ≡ option_or a (option_or b c)
option_or_assoc None b c = refl
option_or_assoc (Some x) b c = refl

-- ---- more behind

end_append : (last : ℕ) (xs : List Bounds) (y : Bounds) (ys : List Bounds) → end_behind last (xs ++ y ∷ ys) ≡ end_behind y.1 ys
end_append last [] y ys = refl
end_append last (x ∷ xs) y ys = end_append x.1 xs y ys

hole_append : (last : ℕ) (xs : List Bounds) (y : Bounds) (ys : List Bounds)
    → hole_behind last (xs ++ y ∷ ys) ≡ option_or (hole_behind last xs) (option_or (hole_between (end_behind last xs) y.0) (hole_behind y.1 ys))
hole_append last [] y ys = refl
hole_append last (x ∷ xs) y ys =
    ap (option_or (hole_between last x.0)) (hole_append x.1 xs y ys)
    ∙ sym (option_or_assoc (hole_between last x.0) (hole_behind x.1 xs) (option_or (hole_between (end_behind x.1 xs) y.0) (hole_behind y.1 ys)))

-- what is written and more behind it: the span of both is that of the one with that of the other
span_append : (xs ys : List Bounds) → span_in (xs ++ ys) ≡ with_spans (span_in xs) (span_in ys)
span_append xs [] = ap span_in (append-nil xs)
span_append [] (y ∷ ys) = refl
span_append (x ∷ xs) (y ∷ ys) = λ i. Some (record { first = x.0; last = end_append x.1 xs y ys i; hole = hole_append x.1 xs y ys i })

joined_assoc : (a b c : Span) → joined (joined a b) c ≡ joined a (joined b c)
joined_assoc a b c = λ i. record {
  first = a.first;
  last = c.last;
  hole = (option_or_assoc a.hole (option_or (hole_between a.last b.first) b.hole) (option_or (hole_between b.last c.first) c.hole)
      ∙ ap (option_or a.hole) (option_or_assoc (hole_between a.last b.first) b.hole (option_or (hole_between b.last c.first) c.hole))) i;
}

with_spans_assoc : (a b c : Option Span) → with_spans (with_spans a b) c ≡ with_spans a (with_spans b c)
with_spans_assoc a b None = refl
with_spans_assoc a None (Some c) = refl
with_spans_assoc None (Some b) (Some c) = refl
with_spans_assoc (Some a) (Some b) (Some c) = ap (λ (s : Span). Some s) (joined_assoc a b c)

-- ---- what items write

last_told : (e : EntryIndex) (es : List EntryIndex) (last : EntryIndex) → slice_get (e ∷ es) (length es) ≡ Some last → last_behind e.index (map (λ e. (e.index, e)) es) ≡ last.index
last_told e [] last is = ap (λ (o : Option EntryIndex). elim o as (λ _. ℕ) [ None ↦ 0 | Some x ↦ x.index ]) is
last_told e (x ∷ es) last is = last_told x es last is

-- entries of which the first and the last one are known
pub entries_told : (es : List EntryIndex) (first last : EntryIndex) → slice_get es 0 ≡ Some first → slice_get es (length es - 1) ≡ Some last
    → Some (record { first = first.index; last = last.index; hole = None }) ≡ span_in (option_to_list (bounds_in (entries (map (λ e. (e.index, e)) es))))
entries_told [] first last begins ends = absurd cc
entries_told (e ∷ es) first last begins ends =
    let one_less : length (e ∷ es) - 1 ≡ length es = omega arith in
    let here : e.index ≡ first.index = ap (λ (o : Option EntryIndex). elim o as (λ _. ℕ) [ None ↦ 0 | Some x ↦ x.index ]) begins in
    λ i. Some (record { first = sym here i; last = sym (last_told e es last (subst (λ k. slice_get (e ∷ es) k ≡ Some last) one_less ends)) i; hole = None })

-- one item more
pub items_more : (items : List LogItem) (i : ℕ) (item : LogItem) (n : ℕ) (old before new : Option Span) → i < length items → item ≡ get_or items i item
    → before ≡ with_spans old (span_in (written_by n (items_of (take i items)))) → new ≡ with_spans before (span_in (written_by n (item_of item ∷ [])))
    → new ≡ with_spans old (span_in (written_by n (items_of (take (i + 1) items))))
items_more items i item n old before new within is so more =
    let written : List LogItem → List Bounds = λ l. written_by n (items_of l) in
    let whole : written (take (i + 1) items) ≡ written (take i items) ++ written (item ∷ []) =
    ap written (take_more items i item within ∙ ap (λ (x : LogItem). take i items ++ x ∷ []) (sym is))
    ∙ ap (filter_map (bounds_of n)) (map-append item_of (take i items) (item ∷ []))
    ∙ filter_map-append (bounds_of n) (items_of (take i items)) (items_of (item ∷ [])) in
    more
    ∙ ap (λ (o : Option Span). with_spans o (span_in (written (item ∷ [])))) so
    ∙ with_spans_assoc old (span_in (written (take i items))) (span_in (written (item ∷ [])))
    ∙ ap (with_spans old) (sym (span_append (written (take i items)) (written (item ∷ []))) ∙ ap span_in (sym whole))

-- batches and more behind them
pub placed_more : (machine : ConsistencyChecker) (placed more : List Placed) (spans : ℕ → Option Span) (group : ℕ) → HasSpans machine placed → spans group ≡ with_spans (get nat_cmp machine.spans group) (span_in (written_in group more))
    → spans group ≡ span_in (written_in group (placed ++ more))
placed_more machine placed more spans group has is =
    let items : List Placed → List (Item EntryIndex) = flat_map (λ p. p.items) in
    is
    ∙ ap (λ (o : Option Span). with_spans o (span_in (written_in group more))) (has group)
    ∙ sym (ap (λ (l : List (Item EntryIndex)). span_in (written_by group l)) (flat_map-append (λ p. p.items) placed more)
    ∙ ap span_in (filter_map-append (bounds_of group) (items placed) (items more))
    ∙ span_append (written_in group placed) (written_in group more))

-- ---- group by group

same_key : (a b : ℕ) → is_eq (nat_cmp a b) ≡ nat_eq b a
same_key a b = grind arith

abbrev Entries : Type 0
Entries = List (ℕ × Span)

-- a key that stands first stands nowhere behind
once : (n : ℕ) (e : ℕ × Span) (rest : Entries) → IsStrictlySortedBy nat_cmp (keys_of (e ∷ rest)) → is_eq (nat_cmp n e.0) ≡ true → lookup (is_at (nat_cmp n)) rest ≡ None
once n e rest rising here = lookup-none (is_at (nat_cmp n)) rest (none_past_head (eq_by_cmp_equiv nat_cmp_total) n e rest (IsDistinct-from_sorted nat_cmp (keys_of (e ∷ rest)) rising) here)

-- the span of one group more
pub spans_more : (n : ℕ) (e : ℕ × Span) (rest : Entries) (before new : ℕ → Option Span) → IsStrictlySortedBy nat_cmp (keys_of (e ∷ rest))
    → new n ≡ (if nat_eq e.0 n then Some (with_span (before e.0) e.1) else before n)
    → with_spans (new n) (lookup (is_at (nat_cmp n)) rest) ≡ with_spans (before n) (lookup (is_at (nat_cmp n)) (e ∷ rest))
spans_more n e rest before new rising is = by_key (nat_eq e.0 n) refl
  where
    by_key : (b : Bool) → nat_eq e.0 n ≡ b → with_spans (new n) (lookup (is_at (nat_cmp n)) rest) ≡ with_spans (before n) (lookup (is_at (nat_cmp n)) (e ∷ rest))
    by_key true k =
        let here : is_eq (nat_cmp n e.0) ≡ true = same_key n e.0 ∙ k in
        ap (with_spans (new n)) (once n e rest rising here) ∙ is
        ∙ ap (λ (b : Bool). if b then Some (with_span (before e.0) e.1) else before n) k
        ∙ ap (λ (group : ℕ). Some (with_span (before group) e.1)) (eqb-true e.0 n k)
        ∙ sym (ap (with_spans (before n)) (lookup_head (is_at (nat_cmp n)) e rest here))
    by_key false k =
        ap (λ (o : Option Span). with_spans o (lookup (is_at (nat_cmp n)) rest)) (is ∙ ap (λ (b : Bool). if b then Some (with_span (before e.0) e.1) else before n) k)
        ∙ sym (ap (with_spans (before n)) (lookup_tail (is_at (nat_cmp n)) e rest (same_key n e.0 ∙ k)))

-- ---- what is told

abbrev pub with_hole : ℕ → Option ℕ → List (ℕ × ℕ) → List (ℕ × ℕ)
with_hole group None holes = holes
with_hole group (Some index) holes = (group, index) ∷ holes

-- the holes of groups
abbrev pub holes_of : List (ℕ × Span) → List (ℕ × ℕ)
holes_of [] = []
holes_of (e ∷ es) = with_hole e.0 e.1.hole (holes_of es)

abbrev hole_at : Option Span → Option ℕ
hole_at None = None
hole_at (Some span) = span.hole

abbrev AreBelow : ℕ → List ℕ → Type 0
AreBelow group groups = AllByRecursion (λ y. nat_cmp group y ≡ Less) groups

abbrev groups_in : List (ℕ × ℕ) → List ℕ
groups_in holes = map (λ hole. hole.0) holes

below_one : (group other : ℕ) (o : Option ℕ) (holes : List (ℕ × ℕ)) → nat_cmp group other ≡ Less → AreBelow group (groups_in holes) → AreBelow group (groups_in (with_hole other o holes))
below_one group other None holes less all = all
below_one group other (Some index) holes less all = (less, all)

below_all : (group : ℕ) (es : Entries) → AreBelow group (keys_of es) → AreBelow group (groups_in (holes_of es))
below_all group [] all = tt
below_all group (e ∷ es) all = below_one group e.0 e.1.hole (holes_of es) all.0 (below_all group es all.1)

rising_one : (group : ℕ) (o : Option ℕ) (holes : List (ℕ × ℕ)) → AreBelow group (groups_in holes) → IsStrictlySortedBy nat_cmp (groups_in holes) → IsStrictlySortedBy nat_cmp (groups_in (with_hole group o holes))
unfolding IsStrictlySortedBy
rising_one group None holes below rising = rising
rising_one group (Some index) holes below rising = (below, rising)

rising_holes : (es : Entries) → IsStrictlySortedBy nat_cmp (keys_of es) → IsStrictlySortedBy nat_cmp (groups_in (holes_of es))
unfolding IsStrictlySortedBy
rising_holes [] rising = tt
rising_holes (e ∷ es) rising = rising_one e.0 e.1.hole (holes_of es) (below_all e.0 es rising.0) (rising_holes es rising.1)

-- a hole that is told is its group's
told_one : (group index : ℕ) (e : ℕ × Span) (es : Entries) → IsStrictlySortedBy nat_cmp (keys_of (e ∷ es)) → (IsIn (group, index) (holes_of es) → hole_at (lookup (is_at (nat_cmp group)) es) ≡ Some index)
    → (o : Option ℕ) → e.1.hole ≡ o → IsIn (group, index) (with_hole e.0 o (holes_of es)) → hole_at (lookup (is_at (nat_cmp group)) (e ∷ es)) ≡ Some index
told_one group index e es rising others = by_hole
  where
    behind : (b : Bool) → is_eq (nat_cmp group e.0) ≡ b → hole_at (lookup (is_at (nat_cmp group)) es) ≡ Some index → hole_at (lookup (is_at (nat_cmp group)) (e ∷ es)) ≡ Some index
    behind true key is = let none : None ≡ Some index = sym (ap hole_at (once group e es rising key)) ∙ is in absurd cc
    behind false key is = ap hole_at (lookup_tail (is_at (nat_cmp group)) e es key) ∙ is

    by_hole : (o : Option ℕ) → e.1.hole ≡ o → IsIn (group, index) (with_hole e.0 o (holes_of es)) → hole_at (lookup (is_at (nat_cmp group)) (e ∷ es)) ≡ Some index
    by_hole None hole told = behind (is_eq (nat_cmp group e.0)) refl (others told)
    by_hole (Some x) hole (inl is) =
        ap hole_at (lookup_head (is_at (nat_cmp group)) e es (same_key group e.0 ∙ eq-eqb e.0 group (sym (ap (λ (p : ℕ × ℕ). p.0) is))))
        ∙ hole ∙ ap (λ (p : ℕ × ℕ). Some p.1) (sym is)
    by_hole (Some x) hole (inr told) = behind (is_eq (nat_cmp group e.0)) refl (others told)

told_of : (group index : ℕ) (es : Entries) → IsStrictlySortedBy nat_cmp (keys_of es) → IsIn (group, index) (holes_of es) → hole_at (lookup (is_at (nat_cmp group)) es) ≡ Some index
told_of group index [] rising told = absurd told
told_of group index (e ∷ es) rising told = told_one group index e es rising (told_of group index es (sorted_tail nat_cmp e.0 (keys_of es) rising)) e.1.hole refl told

-- and each group's is told
one_told : (group index : ℕ) (e : ℕ × Span) (es : Entries) → hole_at (lookup (is_at (nat_cmp group)) (e ∷ es)) ≡ Some index → (hole_at (lookup (is_at (nat_cmp group)) es) ≡ Some index → IsIn (group, index) (holes_of es))
    → (b : Bool) → is_eq (nat_cmp group e.0) ≡ b → IsIn (group, index) (holes_of (e ∷ es))
one_told group index e es is others = by_key
  where
    later : (o : Option ℕ) → IsIn (group, index) (holes_of es) → IsIn (group, index) (with_hole e.0 o (holes_of es))
    later None told = told
    later (Some x) told = inr told

    by_key : (b : Bool) → is_eq (nat_cmp group e.0) ≡ b → IsIn (group, index) (holes_of (e ∷ es))
    by_key true key =
        let same : e.0 ≡ group = eqb-true e.0 group (sym (same_key group e.0) ∙ key) in
        let hole : e.1.hole ≡ Some index = sym (ap hole_at (lookup_head (is_at (nat_cmp group)) e es key)) ∙ is in
        subst (λ (o : Option ℕ). IsIn (group, index) (with_hole e.0 o (holes_of es))) (sym hole) (inl (λ i. (sym same i, index)))
    by_key false key = later e.1.hole (others (sym (ap hole_at (lookup_tail (is_at (nat_cmp group)) e es key)) ∙ is))

all_told : (group index : ℕ) (es : Entries) → hole_at (lookup (is_at (nat_cmp group)) es) ≡ Some index → IsIn (group, index) (holes_of es)
all_told group index [] is = absurd cc
all_told group index (e ∷ es) is = one_told group index e es is (all_told group index es) (is_eq (nat_cmp group e.0)) refl

-- a span has the first hole
hole_of_span : (bounds : List Bounds) → hole_at (span_in bounds) ≡ hole_in bounds
hole_of_span [] = refl
hole_of_span (b ∷ bs) = refl

pub are_holes : (machine : ConsistencyChecker) (placed : List Placed) (holes : List (ℕ × ℕ)) → IsStrictlySortedBy nat_cmp (keys_of machine.spans.entries) → holes ≡ holes_of machine.spans.entries → HasSpans machine placed → AreHoles placed holes
are_holes machine placed holes rising is has = subst (AreHoles placed) (sym is) (record {
  rising = rising_holes machine.spans.entries rising;
  exactly = λ group index. (
    λ told. sym (hole group) ∙ told_of group index machine.spans.entries rising told,
    λ there. all_told group index machine.spans.entries (hole group ∙ there),
  );
})
  where
    hole : (group : ℕ) → hole_at (lookup (is_at (nat_cmp group)) machine.spans.entries) ≡ hole_in (written_in group placed)
    hole group = ap hole_at (has group) ∙ hole_of_span (written_in group placed)
