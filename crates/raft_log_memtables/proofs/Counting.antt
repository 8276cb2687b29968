-- How many entries a map has before an index.
use Rattle.std.proofs.Common.{◌≡◌, ◌+◌, ℕ, zero, suc, Bool, true, false, cond, not, List, [], ◌∷◌, length, Some, None, refl, sym, ap, ◌∙◌, arith, add-zero, zero-add, subst}
use Rattle.std.specs.Prelude.{◌&&◌, is_some, nat_eq, nat_lt, sum_by, count_by}
use Rattle.std.specs.List.{range_with_len, AllByRecursion}
use Rattle.std.specs.List.Sorted.{IsStrictlySortedBy}
use Rattle.std.specs.Map.{lookup, keys_of}
use Rattle.std.specs.BTreeMap.{BTreeMap, IsOrdered}
use Rattle.std.specs.BTreeMap.Range.{entries_between}
use Rattle.std.specs.declared.ops.Bound.TheVariants.{Excluded, Unbounded}
use Rattle.std.specs.Ordering.{nat_cmp, is_eq, is_le}
use Rattle.std.specs.declared.cmp.Ordering.TheVariants.{Less}
use Rattle.std.proofs.lemmas.Bool.{eqb-true}
use Rattle.std.proofs.lemmas.Bool.Decides.{nat_tests}
use Rattle.std.proofs.lemmas.List.Sums.{length-filter, sum_by-cons}
use Rattle.raft_log_records.specs.declared.item.EntryIndex.{EntryIndex}
use Rattle.raft_log_memtables.specs.Entries.{entry_of}
use Rattle.raft_log_memtables.specs.Fetch.{count_before}

-- ---- indexes one after the other

range_more : (g : ℕ → ℕ) (a n : ℕ) → sum_by g (range_with_len a (suc n)) ≡ sum_by g (range_with_len a n) + g (a + n)
range_more g a zero = ap (λ (x : ℕ). 0 + g x) (sym (add-zero a))
range_more g a (suc n) =
    let rec : sum_by g (range_with_len (a + 1) (suc n)) ≡ sum_by g (range_with_len (a + 1) n) + g ((a + 1) + n) = range_more g (a + 1) n in
    let at : (a + 1) + n ≡ a + suc n = omega arith in
    let one = sum_by-cons g a (range_with_len (a + 1) (suc n)) in
    let other = sum_by-cons g a (range_with_len (a + 1) n) in
    omega (arith, rec, ap g at, one, other)

-- ---- entries before an index, and at it

abbrev Placed : Type 0
Placed = ℕ × EntryIndex

tested : (p : Placed → Bool) (e : Placed) (es : List Placed) → count_by p (e ∷ es) ≡ cond (p e) 1 0 + count_by p es
tested p e es = sum_by-cons (λ (x : Placed). cond (p x) 1 0) e es

abbrev is_below : ℕ → Placed → Bool
is_below n e = nat_lt e.0 n

abbrev is_here : ℕ → Placed → Bool
is_here n e = nat_eq n e.0

less_or_not : (n k : ℕ) → (true && not (is_le (nat_cmp n k))) ≡ nat_lt k n
less_or_not n k = grind (arith, nat_tests)

one_more : (n k : ℕ) → cond (nat_lt k (suc n)) 1 0 ≡ cond (nat_lt k n) 1 0 + cond (nat_eq n k) 1 0
one_more n k = grind (arith, nat_tests)

count_step : (n : ℕ) (es : List Placed) → count_by (is_below (suc n)) es ≡ count_by (is_below n) es + count_by (is_here n) es
count_step n [] = refl
count_step n (e ∷ es) = omega (arith, count_step n es, one_more n e.0, tested (is_below (suc n)) e es, tested (is_below n) e es, tested (is_here n) e es)

not_below_zero : (k : ℕ) → cond {A = ℕ} (nat_lt k 0) 1 0 ≡ 0
not_below_zero k = grind (arith, nat_tests)

count_none : (es : List Placed) → count_by (is_below 0) es ≡ 0
count_none [] = refl
count_none (e ∷ es) = omega (arith, count_none es, not_below_zero e.0, tested (is_below 0) e es)

not_here : (n k : ℕ) → nat_cmp n k ≡ Less → cond {A = ℕ} (nat_eq n k) 1 0 ≡ 0
not_here n k h = grind (arith, nat_tests)

none_at : (n : ℕ) (es : List Placed) → AllByRecursion (λ k. nat_cmp n k ≡ Less) (keys_of es) → count_by (is_here n) es ≡ 0
none_at n [] h = refl
none_at n (e ∷ es) h = omega (arith, none_at n es h.1, not_here n e.0 h.0, tested (is_here n) e es)

same_test : (n k : ℕ) → is_eq (nat_cmp n k) ≡ nat_eq n k
same_test n k = grind (arith, nat_tests)

none_past : (n k : ℕ) (es : List Placed) → n ≡ k → AllByRecursion (λ q. nat_cmp k q ≡ Less) (keys_of es) → count_by (is_here n) es ≡ 0
none_past n k es e h = none_at n es (subst (λ (x : ℕ). AllByRecursion (λ q. nat_cmp x q ≡ Less) (keys_of es)) (sym e) h)

one_at : (n : ℕ) (es : List Placed) → IsStrictlySortedBy nat_cmp (keys_of es) → count_by (is_here n) es ≡ cond (is_some (lookup (λ k. is_eq (nat_cmp n k)) es)) 1 0
unfolding IsStrictlySortedBy
one_at n [] h = refl
one_at n (e ∷ es) h = tested (is_here n) e es ∙ by_test (nat_eq n e.0) refl (one_at n es h.1) ∙ ap (λ (b : Bool). cond (is_some (cond b (Some e.1) (lookup (λ k. is_eq (nat_cmp n k)) es))) 1 0) (sym (same_test n e.0))
  where
    by_test : (b : Bool) → nat_eq n e.0 ≡ b → count_by (is_here n) es ≡ cond (is_some (lookup (λ k. is_eq (nat_cmp n k)) es)) 1 0
        → cond (nat_eq n e.0) 1 0 + count_by (is_here n) es ≡ cond (is_some (cond (nat_eq n e.0) (Some e.1) (lookup (λ k. is_eq (nat_cmp n k)) es))) 1 0
    by_test true k rec = let none = none_past n e.0 es (eqb-true n e.0 k) h.0 in rw (k, none) refl
    by_test false k rec = rw k (zero-add (count_by (is_here n) es) ∙ rec)

all_before : (m : BTreeMap ℕ EntryIndex) (n : ℕ) → IsOrdered nat_cmp m → count_by (is_below n) m.entries ≡ count_before (entry_of m) n
all_before m zero h = count_none m.entries
all_before m (suc n) h =
    omega (arith, count_step n m.entries, all_before m n h, one_at n m.entries h, range_more (λ (i : ℕ). cond (is_some (entry_of m i)) 1 0) 0 n, ap {B = ℕ} (λ (i : ℕ). cond (is_some (entry_of m i)) 1 0) (zero-add n))

pub counted_before : (m : BTreeMap ℕ EntryIndex) (n : ℕ) → IsOrdered nat_cmp m → length (entries_between nat_cmp Unbounded (Excluded n) m.entries) ≡ count_before (entry_of m) n
counted_before m n h =
    length-filter (λ (e : Placed). true && not (is_le (nat_cmp n e.0))) m.entries
    ∙ (λ i. count_by (λ (e : Placed). less_or_not n e.0 i) m.entries)
    ∙ all_before m n h

-- where there are no entries
pub none_before : (n : ℕ) → count_before {E = EntryIndex} (λ _. None) n ≡ 0
none_before n = none_of (range_with_len 0 n)
  where
    none_of : (xs : List ℕ) → count_by (λ (i : ℕ). false) xs ≡ 0
    none_of [] = refl
    none_of (x ∷ xs) = sum_by-cons (λ (i : ℕ). 0) x xs ∙ zero-add (count_by (λ (i : ℕ). false) xs) ∙ none_of xs
