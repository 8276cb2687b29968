-- Each file has a path and a number of its own, through all changes of names.
use Rattle.std.proofs.Common.{◌≡◌, ◌≢◌, ◌⊎◌, inl, inr, ℕ, ◌+◌, ◌<◌, ◌≤◌, Bool, true, false, cond, eqb, List, [], ◌∷◌, ◌++◌, Option, Some, None, refl, sym, ap, subst, ◌∙◌, arith}
use Rattle.std.specs.Prelude.{not, nat_lt, ◌&&◌, ◌||◌, is_some, map, ◌==◌}
use Rattle.std.specs.List.{list_any}
use Rattle.std.proofs.lemmas.Bool.{eq-eqb, ne_eqb, eqb-true, eqb-false, ltb-true, lt-ltb, or_parts, and_parts, not-true}
use Rattle.std.proofs.lemmas.List.Folds.{list_any-append}
use lib.Pointwise.{bytes_decides}
use Rattle.raft_log_disk.specs.Text.{Text, same_text}
use Rattle.raft_log_disk.specs.Disk.{IsIn, are_named, fd_of, without, moved}

abbrev Names : Type 0
Names = List (Text × ℕ)

-- a number is among the names
abbrev pub has_number : Names → ℕ → Bool
has_number es n = list_any (λ other. other.1 == n) es

is_none : (o : Option ℕ) → not (is_some o) ≡ true → o ≡ None
is_none None e = refl
is_none (Some x) e = absurd cc

-- what the test of the first name says
pub record IsNamedFirst (e : Text × ℕ) (es : Names) (next : ℕ) : Type 0 where
  pub below : nat_lt e.1 next ≡ true
  pub number : has_number es e.1 ≡ false
  pub path : fd_of es e.0 ≡ None
  pub others : are_named es next ≡ true

pub named_first : (e : Text × ℕ) (es : Names) (next : ℕ) → are_named (e ∷ es) next ≡ true → IsNamedFirst e es next
named_first e es next h =
    let a = and_parts (nat_lt e.1 next) (not (has_number es e.1) && (not (is_some (fd_of es e.0)) && are_named es next)) h in
    let b = and_parts (not (has_number es e.1)) (not (is_some (fd_of es e.0)) && are_named es next) a.1 in
    let d = and_parts (not (is_some (fd_of es e.0))) (are_named es next) b.1 in
    record { below = a.0; number = not-true (has_number es e.1) b.0; path = is_none (fd_of es e.0) d.0; others = d.1 }

pub named_join : (e : Text × ℕ) (es : Names) (next : ℕ) → IsNamedFirst e es next → are_named (e ∷ es) next ≡ true
named_join e es next p = λ i. p.below i && (not (p.number i) && (not (is_some (p.path i)) && p.others i))

same_text-sym : (a b : Text) → same_text a b ≡ false → same_text b a ≡ false
same_text-sym a b e = go (same_text b a) refl
  where
    go : (t : Bool) → same_text b a ≡ t → t ≡ false
    go true h = let same : same_text a b ≡ true = (bytes_decides a b).1 (sym ((bytes_decides b a).0 h)) in absurd cc
    go false h = refl

-- of a path that is not there
first_other : (e : Text × ℕ) (es : Names) (path : Text) → fd_of (e ∷ es) path ≡ None → (same_text e.0 path ≡ false) × (fd_of es path ≡ None)
first_other e es path none = go (same_text e.0 path) refl none
  where
    go : (t : Bool) → same_text e.0 path ≡ t → cond t (Some e.1) (fd_of es path) ≡ None → (same_text e.0 path ≡ false) × (fd_of es path ≡ None)
    go true h n = absurd cc
    go false h n = (h, n)

-- ---- a new name

fd_of-push : (es : Names) (path asked : Text) (n : ℕ) → fd_of es asked ≡ None → same_text path asked ≡ false → fd_of (es ++ (path, n) ∷ []) asked ≡ None
fd_of-push [] path asked n none other = ap (λ t. cond t (Some n) None) other
fd_of-push (e ∷ es) path asked n none other =
    let f = first_other e es asked none in
    ap (λ t. cond t (Some e.1) (fd_of (es ++ (path, n) ∷ []) asked)) f.0 ∙ fd_of-push es path asked n f.1 other

has_number-push : (es : Names) (path : Text) (n asked : ℕ) → has_number es asked ≡ false → n ≢ asked → has_number (es ++ (path, n) ∷ []) asked ≡ false
has_number-push es path n asked none other =
    list_any-append (λ (e : Text × ℕ). e.1 == asked) es ((path, n) ∷ []) ∙ ap (λ t. t || (n == asked || false)) none ∙ ap (λ t. t || false) (ne_eqb n asked other)

below_more : (a next : ℕ) → nat_lt a next ≡ true → nat_lt a (next + 1) ≡ true
below_more a next h = let lt = ltb-true a next h in lt-ltb a (next + 1) (omega arith)

next_new : (path : Text) (next : ℕ) → are_named ((path, next) ∷ []) (next + 1) ≡ true
next_new path next = ap (λ t. t && true) (lt-ltb next (next + 1) (omega arith))

pub named_push : (es : Names) (path : Text) (next : ℕ) → are_named es next ≡ true → fd_of es path ≡ None → are_named (es ++ (path, next) ∷ []) (next + 1) ≡ true
named_push [] path next h none = next_new path next
named_push (e ∷ es) path next h none =
    let p = named_first e es next h in
    let f = first_other e es path none in
    let lt = ltb-true e.1 next p.below in
    named_join e (es ++ (path, next) ∷ []) (next + 1) (record {
      below = below_more e.1 next p.below;
      number = has_number-push es path next e.1 p.number (omega arith);
      path = fd_of-push es path e.0 next p.path (same_text-sym e.0 path f.0);
      others = named_push es path next p.others f.1;
    })

-- ---- a name that goes

none_step : (t : Bool) (e : Text × ℕ) (es rest : Names) (asked : Text) → same_text e.0 asked ≡ false → fd_of es asked ≡ None → fd_of rest asked ≡ None → fd_of (cond t es (e ∷ rest)) asked ≡ None
none_step true e es rest asked other none next = none
none_step false e es rest asked other none next = ap (λ t. cond t (Some e.1) (fd_of rest asked)) other ∙ next

without_none : (es : Names) (path asked : Text) → fd_of es asked ≡ None → fd_of (without es path) asked ≡ None
without_none [] path asked none = none
without_none (e ∷ es) path asked none =
    let f = first_other e es asked none in
    none_step (same_text e.0 path) e es (without es path) asked f.0 f.1 (without_none es path asked f.1)

number_step : (t : Bool) (e : Text × ℕ) (es rest : Names) (n : ℕ) → (e.1 == n) ≡ false → has_number es n ≡ false → has_number rest n ≡ false → has_number (cond t es (e ∷ rest)) n ≡ false
number_step true e es rest n other none next = none
number_step false e es rest n other none next = ap (λ t. t || has_number rest n) other ∙ next

without_number : (es : Names) (path : Text) (n : ℕ) → has_number es n ≡ false → has_number (without es path) n ≡ false
without_number [] path n none = refl
without_number (e ∷ es) path n none =
    let f = or_parts (e.1 == n) (has_number es n) none in
    number_step (same_text e.0 path) e es (without es path) n f.0 f.1 (without_number es path n f.1)

named_step : (t : Bool) (e : Text × ℕ) (es rest : Names) (next : ℕ) → are_named es next ≡ true → are_named (e ∷ rest) next ≡ true → are_named (cond t es (e ∷ rest)) next ≡ true
named_step true e es rest next h k = h
named_step false e es rest next h k = k

pub named_without : (es : Names) (path : Text) (next : ℕ) → are_named es next ≡ true → are_named (without es path) next ≡ true
named_without [] path next h = h
named_without (e ∷ es) path next h =
    let p = named_first e es next h in
    named_step (same_text e.0 path) e es (without es path) next p.others (named_join e (without es path) next (record {
      below = p.below;
      number = without_number es path e.1 p.number;
      path = without_none es path e.0 p.path;
      others = named_without es path next p.others;
    }))

-- ---- a name that is another one

moved_none_step : (t : Bool) (e : Text × ℕ) (es rest : Names) (to asked : Text) → same_text e.0 asked ≡ false → same_text to asked ≡ false → fd_of es asked ≡ None → fd_of rest asked ≡ None → fd_of (cond t ((to, e.1) ∷ es) (e ∷ rest)) asked ≡ None
moved_none_step true e es rest to asked other new none next = ap (λ t. cond t (Some e.1) (fd_of es asked)) new ∙ none
moved_none_step false e es rest to asked other new none next = ap (λ t. cond t (Some e.1) (fd_of rest asked)) other ∙ next

moved_none : (es : Names) (from to asked : Text) → fd_of es asked ≡ None → same_text to asked ≡ false → fd_of (moved es from to) asked ≡ None
moved_none [] from to asked none new = none
moved_none (e ∷ es) from to asked none new =
    let f = first_other e es asked none in
    moved_none_step (same_text e.0 from) e es (moved es from to) to asked f.0 new f.1 (moved_none es from to asked f.1 new)

moved_number_step : (t : Bool) (e : Text × ℕ) (es rest : Names) (to : Text) (n : ℕ) → (e.1 == n) ≡ false → has_number es n ≡ false → has_number rest n ≡ false → has_number (cond t ((to, e.1) ∷ es) (e ∷ rest)) n ≡ false
moved_number_step true e es rest to n other none next = ap (λ t. t || has_number es n) other ∙ none
moved_number_step false e es rest to n other none next = ap (λ t. t || has_number rest n) other ∙ next

moved_number : (es : Names) (from to : Text) (n : ℕ) → has_number es n ≡ false → has_number (moved es from to) n ≡ false
moved_number [] from to n none = refl
moved_number (e ∷ es) from to n none =
    let f = or_parts (e.1 == n) (has_number es n) none in
    moved_number_step (same_text e.0 from) e es (moved es from to) to n f.0 f.1 (moved_number es from to n f.1)

moved_step : (t : Bool) (e : Text × ℕ) (es rest : Names) (to : Text) (next : ℕ) → are_named ((to, e.1) ∷ es) next ≡ true → are_named (e ∷ rest) next ≡ true → are_named (cond t ((to, e.1) ∷ es) (e ∷ rest)) next ≡ true
moved_step true e es rest to next h k = h
moved_step false e es rest to next h k = k

pub named_moved : (es : Names) (from to : Text) (next : ℕ) → are_named es next ≡ true → fd_of es to ≡ None → are_named (moved es from to) next ≡ true
named_moved [] from to next h none = h
named_moved (e ∷ es) from to next h none =
    let p = named_first e es next h in
    let f = first_other e es to none in
    moved_step (same_text e.0 from) e es (moved es from to) to next
    (named_join (to, e.1) es next (record { below = p.below; number = p.number; path = f.1; others = p.others }))
    (named_join e (moved es from to) next (record {
      below = p.below;
      number = moved_number es from to e.1 p.number;
      path = moved_none es from to e.0 p.path (same_text-sym e.0 to f.0);
      others = named_moved es from to next p.others f.1;
    }))

-- ---- the next number

pub next_free : (es : Names) (next : ℕ) → are_named es next ≡ true → has_number es next ≡ false
next_free [] next h = refl
next_free (e ∷ es) next h =
    let p = named_first e es next h in
    let lt = ltb-true e.1 next p.below in
    ap (λ t. t || has_number es next) (ne_eqb e.1 next (omega arith)) ∙ next_free es next p.others

-- ---- numbers

pub in_other : (e : Text × ℕ) (es : Names) (n : ℕ) → has_number es n ≡ false → IsIn e es → e.1 ≢ n
in_other e [] n none there same = there
in_other e (x ∷ es) n none (inl is) same = eqb-false x.1 n (or_parts (x.1 == n) (has_number es n) none).0 (ap (λ (y : Text × ℕ). y.1) (sym is) ∙ same)
in_other e (x ∷ es) n none (inr there) same = in_other e es n (or_parts (x.1 == n) (has_number es n) none).1 there same

pub number_in : (path : Text) (n : ℕ) (es : Names) → IsIn (path, n) es → IsIn n (map (λ (e : Text × ℕ). e.1) es)
number_in path n [] there = there
number_in path n (e ∷ es) (inl is) = inl (ap (λ (y : Text × ℕ). y.1) is)
number_in path n (e ∷ es) (inr there) = inr (number_in path n es there)

-- a number has one path
pub one_path : (es : Names) (next n : ℕ) (path other : Text) → are_named es next ≡ true → IsIn (path, n) es → IsIn (other, n) es → path ≡ other
one_path [] next n path other h there here = absurd there
one_path (e ∷ es) next n path other h (inl p) (inl q) = ap (λ (y : Text × ℕ). y.0) (p ∙ sym q)
one_path (e ∷ es) next n path other h (inl p) (inr q) = absurd (in_other (other, n) es e.1 (named_first e es next h).number q (ap (λ (y : Text × ℕ). y.1) p))
one_path (e ∷ es) next n path other h (inr p) (inl q) = absurd (in_other (path, n) es e.1 (named_first e es next h).number p (ap (λ (y : Text × ℕ). y.1) q))
one_path (e ∷ es) next n path other h (inr p) (inr q) = one_path es next n path other (named_first e es next h).others p q
