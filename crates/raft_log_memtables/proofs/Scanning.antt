-- Keys of a range, as a map gives them.
use Rattle.std.proofs.Common.{◌≡◌, ℕ, Bool, true, false, cond, not, List, [], ◌∷◌, ◌++◌, map, Option, Some, None, reverse, refl, sym, ap, subst, ◌∙◌, append_assoc, append-nil}
use Rattle.std.specs.Prelude.{◌&&◌, bytes_eq, filter, Vec}
use Rattle.std.specs.declared.alloc.Global.{Global}
use Rattle.std.specs.List.{AllByRecursion}
use Rattle.std.specs.List.Sorted.{IsStrictlySortedBy}
use Rattle.std.specs.Map.{lookup, keys_of}
use Rattle.std.specs.BTreeMap.{BTreeMap, IsOrdered}
use Rattle.std.specs.BTreeMap.Range.{entries_between, is_from_start, is_past_end, range_contains, IsLeBy, IsLtBy}
use Rattle.std.specs.Range.Bound.{IsForward}
use Rattle.std.specs.declared.ops.Bound.{Bound}
use Rattle.std.specs.declared.ops.Bound.TheVariants.{Included, Excluded, Unbounded}
use Rattle.std.specs.declared.cmp.Ordering.{Ordering}
use Rattle.std.specs.declared.cmp.Ordering.TheVariants.{Less, Equal, Greater}
use Rattle.std.specs.Ordering.{nat_cmp, is_eq, is_le, is_gt, ordering_reverse}
use Rattle.std.specs.Option.{option_map}
use Rattle.std.specs.Cmp.Lexicographic.{slice_cmp, bytes_decides, nat_list_cmp_total}
use Rattle.std.proofs.lemmas.Map.Text.{is_eq-slice_cmp}
use Rattle.std.proofs.lemmas.List.{reverse-append, reverse-reverse, map_push}
use Rattle.raft_log_memtables.specs.KeyRange.{IsStart, IsEnd, is_backwards, shown}
use Rattle.raft_log_memtables.specs.MemTable.{value_of}
use Rattle.raft_log_memtables.specs.Scan.{is_from, is_before, is_between, AreKeysBetween, Scans}

abbrev Key : Type 0
Key = Vec ℕ Global

abbrev Entry : Type 0
Entry = Key × Key

abbrev in_order : Key → Key → Ordering
in_order x y = slice_cmp nat_cmp x.items y.items

-- ---- bounds

pub is_forward : (lo hi : Bound Key) (start end : Option (List ℕ)) → IsStart lo start → IsEnd hi end → is_backwards start end ≡ false → IsForward (IsLeBy in_order) (IsLtBy in_order) lo hi
is_forward (Included a) (Excluded b) (Some start) (Some end) s e h = ap (λ (x : List ℕ). is_gt (slice_cmp nat_cmp x b.items)) s ∙ ap (λ (x : List ℕ). is_gt (slice_cmp nat_cmp start x)) e ∙ h
is_forward (Included a) (Excluded b) (Some start) None s e h = absurd e
is_forward (Included a) (Included b) (Some start) end s e h = absurd e
is_forward (Included a) Unbounded (Some start) (Some end) s e h = absurd e
is_forward (Included a) Unbounded (Some start) None s e h = tt
is_forward (Included a) hi None end s e h = absurd s
is_forward (Excluded a) hi start end s e h = absurd s
is_forward Unbounded hi (Some start) end s e h = absurd s
is_forward Unbounded hi None end s e h = tt

not_le : (o : Ordering) → not (is_le o) ≡ is_gt o
not_le Less = refl
not_le Equal = refl
not_le Greater = refl

same_start : (lo : Bound Key) (start : Option (List ℕ)) → IsStart lo start → (k : Key) → is_from_start in_order lo k ≡ is_from start k.items
same_start (Included a) (Some start) s k = ap (λ (x : List ℕ). is_le (slice_cmp nat_cmp x k.items)) s
same_start (Included a) None s k = absurd s
same_start (Excluded a) start s k = absurd s
same_start Unbounded (Some start) s k = absurd s
same_start Unbounded None s k = refl

same_end : (hi : Bound Key) (end : Option (List ℕ)) → IsEnd hi end → (k : Key) → not (is_past_end in_order hi k) ≡ is_before end k.items
same_end (Excluded b) (Some end) e k = not_le (slice_cmp nat_cmp b.items k.items) ∙ ap (λ (x : List ℕ). is_gt (slice_cmp nat_cmp x k.items)) e
same_end (Excluded b) None e k = absurd e
same_end (Included b) end e k = absurd e
same_end Unbounded (Some end) e k = absurd e
same_end Unbounded None e k = refl

pub same_range : (lo hi : Bound Key) (start end : Option (List ℕ)) → IsStart lo start → IsEnd hi end → (k : Key) → range_contains in_order lo hi k ≡ is_between start end k.items
same_range lo hi start end s e k = λ i. same_start lo start s k i && same_end hi end e k i

-- ---- a range that runs backwards

less_not : (o : Ordering) → o ≡ Less → is_gt o ≡ true → ⊥
less_not o l g = let not_greater : is_gt o ≡ false = ap is_gt l in cc

not_both : (start end key : List ℕ) → is_gt (slice_cmp nat_cmp start end) ≡ true → (o p : Ordering) → slice_cmp nat_cmp start key ≡ o → slice_cmp nat_cmp end key ≡ p → (is_le o && is_gt p) ≡ false
not_both start end key h Greater p s e = refl
not_both start end key h Less Less s e = refl
not_both start end key h Less Equal s e = refl
not_both start end key h Equal Less s e = refl
not_both start end key h Equal Equal s e = refl
not_both start end key h Less Greater s e =
    absurd (less_not (slice_cmp nat_cmp start end) (nat_list_cmp_total.trans start key end s (nat_list_cmp_total.antisymm key end ∙ ap ordering_reverse e)) h)
not_both start end key h Equal Greater s e =
    absurd (less_not (slice_cmp nat_cmp start end) (nat_list_cmp_total.congr start key end s ∙ nat_list_cmp_total.antisymm key end ∙ ap ordering_reverse e) h)

none_backwards : (start end : Option (List ℕ)) → is_backwards start end ≡ true → (key : List ℕ) → is_between start end key ≡ false
none_backwards (Some start) (Some end) h key = not_both start end key h (slice_cmp nat_cmp start key) (slice_cmp nat_cmp end key) refl refl
none_backwards (Some start) None h key = absurd cc
none_backwards None end h key = absurd cc

pub empty_backwards : (value : List ℕ → Option (List ℕ)) (start end : Option (List ℕ)) → is_backwards start end ≡ true → AreKeysBetween value start end []
unfolding IsStrictlySortedBy
empty_backwards value start end h = record {
  rising = tt;
  exactly = λ key. ap (λ (b : Bool). cond b (value key) None) (sym (none_backwards start end h key));
}

none_of : (b : Bool) → cond {A = Option (List ℕ)} b None None ≡ None
none_of true = refl
none_of false = refl

nothing_either : (b : Bool) → [] ≡ cond {A = List (List ℕ × List ℕ)} b [] []
nothing_either true = refl
nothing_either false = refl

-- where there are no keys
pub no_keys : (value : List ℕ → Option (List ℕ)) (start end : Option (List ℕ)) (falling : Bool) → value ≡ (λ key. None) → Scans value start end falling []
unfolding IsStrictlySortedBy
no_keys value start end falling none =
    subst (AreKeysBetween value start end) (nothing_either falling) (record {
      rising = tt;
      exactly = λ key. sym (none_of (is_between start end key)) ∙ ap (λ (v : List ℕ → Option (List ℕ)). cond (is_between start end key) (v key) None) (sym none);
    })

-- ---- what a range gives

abbrev bytes_of : Key → List ℕ
bytes_of v = v.items

pick : (b t within : Bool) (l : Option Key) (r : Option (List ℕ)) (x : Key) → r ≡ cond within (option_map bytes_of l) None → (b ≡ true → t ≡ within)
    → cond t (cond b (Some x.items) r) r ≡ cond within (option_map bytes_of (cond b (Some x) l)) None
pick false true within l r x h k = h
pick false false within l r x h k = h
pick true true true l r x h k = refl
pick true true false l r x h k = absurd (let e = k refl in cc)
pick true false true l r x h k = absurd (let e = k refl in cc)
pick true false false l r x h k = h

first_kept : (q : List ℕ → Bool) (b : Bool) (e : Entry) (r : List Entry) → lookup q (map shown (cond b (e ∷ r) r)) ≡ cond b (cond (q e.0.items) (Some e.1.items) (lookup q (map shown r))) (lookup q (map shown r))
first_kept q true e r = refl
first_kept q false e r = refl

found_between : (test : Entry → Bool) (start end : Option (List ℕ)) → ((e : Entry) → test e ≡ is_between start end e.0.items) → (es : List Entry) (key : List ℕ)
    → lookup (bytes_eq key) (map shown (filter test es)) ≡ cond (is_between start end key) (option_map bytes_of (lookup (λ (k : Key). is_eq (slice_cmp nat_cmp key k.items)) es)) None
found_between test start end h [] key = sym (none_of (is_between start end key))
found_between test start end h (e ∷ es) key =
    first_kept (bytes_eq key) (test e) e (filter test es)
    ∙ pick (bytes_eq key e.0.items) (test e) (is_between start end key) (lookup (λ (k : Key). is_eq (slice_cmp nat_cmp key k.items)) es) (lookup (bytes_eq key) (map shown (filter test es))) e.1 (found_between test start end h es key)
    (λ same. h e ∙ ap (is_between start end) (sym ((bytes_decides key e.0.items).0 same)))
    ∙ ap (λ (b : Bool). cond (is_between start end key) (option_map bytes_of (cond b (Some e.1) (lookup (λ (k : Key). is_eq (slice_cmp nat_cmp key k.items)) es))) None) (sym (is_eq-slice_cmp key e.0.items))

kept : (test : Entry → Bool) (P : List ℕ → Type 0) (es : List Entry) → AllByRecursion (λ (k : Key). P k.items) (keys_of es) → AllByRecursion P (keys_of (map shown (filter test es)))
kept test P [] h = tt
kept test P (e ∷ es) h = by_test (test e) (kept test P es h.1)
  where
    by_test : (b : Bool) → AllByRecursion P (keys_of (map shown (filter test es))) → AllByRecursion P (keys_of (map shown (cond b (e ∷ filter test es) (filter test es))))
    by_test true r = (h.0, r)
    by_test false r = r

rising_between : (test : Entry → Bool) (es : List Entry) → IsStrictlySortedBy in_order (keys_of es) → IsStrictlySortedBy (slice_cmp nat_cmp) (keys_of (map shown (filter test es)))
unfolding IsStrictlySortedBy
rising_between test [] h = tt
rising_between test (e ∷ es) h = by_test (test e) (rising_between test es h.1)
  where
    by_test : (b : Bool) → IsStrictlySortedBy (slice_cmp nat_cmp) (keys_of (map shown (filter test es))) → IsStrictlySortedBy (slice_cmp nat_cmp) (keys_of (map shown (cond b (e ∷ filter test es) (filter test es))))
    by_test true r = (kept test (λ k. slice_cmp nat_cmp e.0.items k ≡ Less) es h.0, r)
    by_test false r = r

pub keys_between : (m : BTreeMap Key Key) (lo hi : Bound Key) (start end : Option (List ℕ)) → IsStart lo start → IsEnd hi end → IsOrdered in_order m → AreKeysBetween (value_of m) start end (map shown (entries_between in_order lo hi m.entries))
keys_between m lo hi start end s e h = record {
  rising = rising_between (λ (x : Entry). range_contains in_order lo hi x.0) m.entries h;
  exactly = found_between (λ (x : Entry). range_contains in_order lo hi x.0) start end (λ x. same_range lo hi start end s e x.0) m.entries;
}

-- ---- one after the other

pub shown_more : (done new : List (List ℕ × List ℕ)) (e : Entry) (rest old : List Entry) (all : List (List ℕ × List ℕ)) → new ≡ done ++ shown e ∷ [] → old ≡ e ∷ rest → done ++ map shown old ≡ all → new ++ map shown rest ≡ all
shown_more done new e rest old all n o h = ap (λ (l : List (List ℕ × List ℕ)). l ++ map shown rest) n ∙ append_assoc done (shown e ∷ []) (map shown rest) ∙ ap (λ (l : List Entry). done ++ map shown l) (sym o) ∙ h

pub shown_all : (done : List (List ℕ × List ℕ)) (old first all : List Entry) → old ≡ [] → first ≡ all → done ++ map shown old ≡ map shown first → map shown all ≡ done
shown_all done old first all o f h = ap (map shown) (sym f) ∙ sym h ∙ ap (λ (l : List Entry). done ++ map shown l) o ∙ append-nil done

-- ---- falling

map_reversed : {A B : Type 0} (f : A → B) (xs : List A) → map f (reverse xs) ≡ reverse (map f xs)
map_reversed f [] = refl
map_reversed f (x ∷ xs) =
    ap (map f) (reverse-append (x ∷ []) xs) ∙ map_push f (reverse xs) x ∙ ap (λ l. l ++ f x ∷ []) (map_reversed f xs) ∙ sym (reverse-append (f x ∷ []) (map f xs))

pub rising_scan : {A : Type 0} (value : List ℕ → Option (List ℕ)) (start end : Option (List ℕ)) (f : A → List ℕ × List ℕ) (falling : Bool) (before after : List A) → falling ≡ false → after ≡ before → AreKeysBetween value start end (map f before)
    → AreKeysBetween value start end (cond falling (reverse (map f after)) (map f after))
rising_scan value start end f falling before after rises same h = rw (rises, same) h

pub falling_scan : {A : Type 0} (value : List ℕ → Option (List ℕ)) (start end : Option (List ℕ)) (f : A → List ℕ × List ℕ) (falling : Bool) (before after : List A) → falling ≡ true → after ≡ reverse before → AreKeysBetween value start end (map f before)
    → AreKeysBetween value start end (cond falling (reverse (map f after)) (map f after))
falling_scan value start end f falling before after falls turned h =
    rw falls (subst (AreKeysBetween value start end) (sym (ap reverse (ap (map f) turned ∙ map_reversed f before) ∙ reverse-reverse (map f before))) h)
