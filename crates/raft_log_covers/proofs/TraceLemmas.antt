-- What memtables keep bounds the account.
use Rattle.std.proofs.Common.{◌≡◌, ◌≤◌, ◌<◌, ◌+◌, ℕ, suc, Bool, true, false, cond, length, Option, Some, None, refl, sym, ◌∙◌, subst, le_refl, le_trans, arith, ltb-true, ltb-false, leb-false}
use Rattle.std.specs.Prelude.{nat_le, nat_lt, bytes_eq, is_some}
use Rattle.std.proofs.lemmas.Bool.{le-ltb}
use Rattle.raft_log_records.specs.Item.{Change}
use Rattle.raft_log_records.specs.Item.Change.{entries, clean, compact, put, delete, mark}
use Rattle.raft_log_records.specs.Spelling.{first_index}
use Rattle.raft_log_memtables.specs.Content.{GroupContent, after_change}
use Rattle.raft_log_covers.specs.Cells.{Cell}
use Rattle.raft_log_covers.specs.Cells.Cell.{presence, index, key}
use Rattle.raft_log_covers.specs.Marks.{Names}
use Rattle.raft_log_covers.specs.Trace.{Trace, least, index_file, file_of, IsBounded, Bounds, entered, greater, cut, trace_after, names_after, GoOn}

bounded_left : (o kept other : Option ℕ) → IsBounded o kept → IsBounded o (least kept other)
bounded_left None kept other h = tt
bounded_left (Some file) None other h = absurd h
bounded_left (Some file) (Some kept) None h = h
bounded_left (Some file) (Some kept) (Some other) h = omega (arith, h)

bounded_right : (o kept other : Option ℕ) → IsBounded o other → IsBounded o (least kept other)
bounded_right None kept other h = tt
bounded_right (Some file) kept None h = absurd h
bounded_right (Some file) None (Some other) h = h
bounded_right (Some file) (Some kept) (Some other) h = omega (arith, h)

-- one of three files, by where an index lies
by_place : (o since file tail : Option ℕ) (i low next : ℕ) → (i < low → IsBounded o since) → (low ≤ i → i < next → IsBounded o file) → (low ≤ i → next ≤ i → IsBounded o tail)
    → IsBounded o (cond (nat_lt i low) since (cond (nat_lt i next) file tail))
by_place o since file tail i low next below within above = by_low (nat_lt i low) refl (nat_lt i next) refl
  where
    by_low : (b : Bool) → nat_lt i low ≡ b → (d : Bool) → nat_lt i next ≡ d → IsBounded o (cond b since (cond d file tail))
    by_low true e d f = below (ltb-true i low e)
    by_low false e true f = within (ltb-false i low e) (ltb-true i next f)
    by_low false e false f = above (ltb-false i low e) (ltb-false i next f)

-- what the bound is, where the place is known
from_place : (o since file tail : Option ℕ) (i low next : ℕ) → IsBounded o (cond (nat_lt i low) since (cond (nat_lt i next) file tail))
    → (P : Type 0) → (i < low → IsBounded o since → P) → (low ≤ i → i < next → IsBounded o file → P) → (low ≤ i → next ≤ i → IsBounded o tail → P) → P
from_place o since file tail i low next h P below within above = by_low (nat_lt i low) refl (nat_lt i next) refl h
  where
    by_low : (b : Bool) → nat_lt i low ≡ b → (d : Bool) → nat_lt i next ≡ d → IsBounded o (cond b since (cond d file tail)) → P
    by_low true e d f h = below (ltb-true i low e) h
    by_low false e true f h = within (ltb-false i low e) (ltb-true i next f) h
    by_low false e false f h = above (ltb-false i low e) (ltb-false i next f) h

pub least_of_greater : (m n : ℕ) → (m ≤ greater m n) × (n ≤ greater m n)
least_of_greater m n = by_test (nat_lt m n) refl
  where
    by_test : (b : Bool) → nat_lt m n ≡ b → (m ≤ cond b n m) × (n ≤ cond b n m)
    by_test true e = let h = ltb-true m n e in (omega (arith, h), le_refl n)
    by_test false e = (le_refl m, ltb-false m n e)

pub in_greater : (m n i : ℕ) → i < greater m n → n ≤ i → i < m
in_greater m n i h k = by_test (nat_lt m n) h
  where
    by_test : (b : Bool) → i < cond b n m → i < m
    by_test true h = absurd (omega (arith, h, k))
    by_test false h = h

since_kept : (file : ℕ) (t : Trace) (o : Option ℕ) → IsBounded o t.since → IsBounded o (least t.since (Some file))
since_kept file t o h = bounded_left o t.since (Some file) h

now : (file : ℕ) (kept : Option ℕ) → IsBounded (Some file) (least kept (Some file))
now file kept = bounded_right (Some file) kept (Some file) (le_refl file)

none_below : {i : ℕ} → i < 0 → ⊥
none_below h = omega (arith, h)

-- ---- entries

entered_at : (file first next : ℕ) (t : Trace) (names : Option ℕ) (i : ℕ) → first ≤ next → (b : Bool) → nat_lt t.low t.next ≡ b → (b ≡ true → first ≤ t.next) → (s : Bool) → nat_le first i ≡ s → IsBounded names (index_file t i)
    → IsBounded (cond s (Some file) names) (index_file (entered file first next t b) i)
entered_at file first next t names i on true e go true s h =
    by_place (Some file) (least t.since (Some file)) (cond (nat_le first i) (Some file) (t.entry_file i)) (Some file) i t.low next
    (λ l. now file t.since)
    (λ l m. subst (λ (d : Bool). IsBounded (Some file) (cond d (Some file) (t.entry_file i))) (sym s) (le_refl file))
    (λ l m. le_refl file)
entered_at file first next t names i on true e go false s h =
    let before : suc i ≤ first = leb-false first i s in
    by_place names (least t.since (Some file)) (cond (nat_le first i) (Some file) (t.entry_file i)) (Some file) i t.low next
    (λ l. since_kept file t names (from_place names t.since (t.entry_file i) t.tail i t.low t.next h (IsBounded names t.since)
    (λ l2 x. x) (λ l2 m2 x. absurd (omega (arith, l, l2))) (λ l2 m2 x. absurd (omega (arith, l, l2)))))
    (λ l m. subst (λ (d : Bool). IsBounded names (cond d (Some file) (t.entry_file i))) (sym s)
    (from_place names t.since (t.entry_file i) t.tail i t.low t.next h (IsBounded names (t.entry_file i))
    (λ l2 x. absurd (omega (arith, l, l2))) (λ l2 m2 x. x) (λ l2 m2 x. absurd (let g = go refl in omega (arith, before, m2, g)))))
    (λ l m. absurd (omega (arith, before, m, on)))
entered_at file first next t names i on false e go true s h =
    by_place (Some file) (least (least t.since t.tail) (Some file)) (cond (nat_le first i) (Some file) None) (Some file) i first next
    (λ l. now file (least t.since t.tail))
    (λ l m. subst (λ (d : Bool). IsBounded (Some file) (cond d (Some file) None)) (sym s) (le_refl file))
    (λ l m. le_refl file)
entered_at file first next t names i on false e go false s h =
    let before : suc i ≤ first = leb-false first i s in
    let none : t.next ≤ t.low = ltb-false t.low t.next e in
    by_place names (least (least t.since t.tail) (Some file)) (cond (nat_le first i) (Some file) None) (Some file) i first next
    (λ l. bounded_left names (least t.since t.tail) (Some file) (from_place names t.since (t.entry_file i) t.tail i t.low t.next h (IsBounded names (least t.since t.tail))
    (λ l2 x. bounded_left names t.since t.tail x) (λ l2 m2 x. absurd (omega (arith, l2, m2, none))) (λ l2 m2 x. bounded_right names t.since t.tail x)))
    (λ l m. absurd (omega (arith, before, l)))
    (λ l m. absurd (omega (arith, before, l)))

-- ---- a compaction

cut_at : (file limit : ℕ) (t : Trace) (names : Option ℕ) (i : ℕ) → (b : Bool) → nat_lt (greater t.low limit) t.next ≡ b → (s : Bool) → nat_lt i limit ≡ s → IsBounded names (index_file t i)
    → IsBounded (cond s (Some file) names) (index_file (cut file (greater t.low limit) t b) i)
cut_at file limit t names i true e true s h =
    let bounds = least_of_greater t.low limit in
    let small = ltb-true i limit s in
    by_place (Some file) (least t.since (Some file)) (cond (nat_lt i (greater t.low limit)) None (t.entry_file i)) t.tail i (greater t.low limit) t.next
    (λ l. now file t.since)
    (λ l m. absurd (out bounds.1 small l))
    (λ l m. absurd (out bounds.1 small l))
  where
    out : {limit low i : ℕ} → limit ≤ low → i < limit → low ≤ i → ⊥
    out a b c = omega (arith, a, b, c)
cut_at file limit t names i true e false s h =
    let big = ltb-false i limit s in
    let bounds = least_of_greater t.low limit in
    by_place names (least t.since (Some file)) (cond (nat_lt i (greater t.low limit)) None (t.entry_file i)) t.tail i (greater t.low limit) t.next
    (λ l. since_kept file t names (from_place names t.since (t.entry_file i) t.tail i t.low t.next h (IsBounded names t.since)
    (λ l2 x. x) (λ l2 m2 x. absurd (less (in_greater t.low limit i l big) l2)) (λ l2 m2 x. absurd (less (in_greater t.low limit i l big) l2))))
    (λ l m. subst (λ (d : Bool). IsBounded names (cond d None (t.entry_file i))) (sym (le-ltb i (greater t.low limit) l))
    (from_place names t.since (t.entry_file i) t.tail i t.low t.next h (IsBounded names (t.entry_file i))
    (λ l2 x. absurd (less l2 (le_trans bounds.0 l))) (λ l2 m2 x. x) (λ l2 m2 x. absurd (less m m2))))
    (λ l m. from_place names t.since (t.entry_file i) t.tail i t.low t.next h (IsBounded names t.tail)
    (λ l2 x. absurd (less l2 (le_trans bounds.0 l))) (λ l2 m2 x. absurd (less m2 m)) (λ l2 m2 x. x))
  where
    less : {a b : ℕ} → a < b → b ≤ a → ⊥
    less p q = omega (arith, p, q)
cut_at file limit t names i false e s x h = by_place (cond s (Some file) names) all None all i t.top t.top (λ l. whole s x) (λ l m. absurd (less m l)) (λ l m. whole s x)
  where
    less : {a b : ℕ} → a < b → b ≤ a → ⊥
    less p q = omega (arith, p, q)

    all : Option ℕ
    all = least (least t.since t.tail) (Some file)

    none_left : limit ≤ i → t.low ≤ i → i < t.next → ⊥
    none_left p q r = less r (le_trans (ltb-false (greater t.low limit) t.next e) (smaller (nat_lt t.low limit) p q))
      where
        smaller : (b : Bool) → limit ≤ i → t.low ≤ i → cond b limit t.low ≤ i
        smaller true p q = p
        smaller false p q = q

    whole : (s : Bool) → nat_lt i limit ≡ s → IsBounded (cond s (Some file) names) all
    whole true x = now file (least t.since t.tail)
    whole false x = bounded_left names (least t.since t.tail) (Some file) (from_place names t.since (t.entry_file i) t.tail i t.low t.next h (IsBounded names (least t.since t.tail))
        (λ l2 y. bounded_left names t.since t.tail y) (λ l2 m2 y. absurd (none_left (ltb-false i limit x) l2 m2)) (λ l2 m2 y. bounded_right names t.since t.tail y))

-- ---- others

touched_index : (file : ℕ) (t : Trace) (o : Option ℕ) (i : ℕ) → IsBounded o (index_file t i) → IsBounded o (cond (nat_lt i t.low) (least t.since (Some file)) (cond (nat_lt i t.next) (t.entry_file i) t.tail))
touched_index file t o i h = by_low (nat_lt i t.low) h
  where
    by_low : (b : Bool) → IsBounded o (cond b t.since (cond (nat_lt i t.next) (t.entry_file i) t.tail)) → IsBounded o (cond b (least t.since (Some file)) (cond (nat_lt i t.next) (t.entry_file i) t.tail))
    by_low true h = since_kept file t o h
    by_low false h = h

weaker_key : (o kept since other : Option ℕ) (b : Bool) → (IsBounded o since → IsBounded o other) → IsBounded o (cond b kept since) → IsBounded o (cond b kept other)
weaker_key o kept since other true w h = h
weaker_key o kept since other false w h = w h

module _ {E : Type 0} where
  pub changes_keep_bounds : (file : ℕ) (change : Change E) (t : Trace) (g : GroupContent E) (names : Names) → GoOn change t → Bounds t g names → Bounds (trace_after file change t) (after_change change g) (names_after file change names)
  changes_keep_bounds file (entries es) t g names on h c = by_cell c (nat_lt t.low t.next) refl
    where
      by_cell : (c : Cell) (b : Bool) → nat_lt t.low t.next ≡ b → IsBounded (names_after file (entries es) names c) (file_of (entered file (first_index es) (first_index es + length es) t b) (after_change (entries es) g) c)
      by_cell presence true e = now file t.since
      by_cell presence false e = now file (least t.since t.tail)
      by_cell (index i) b e = entered_at file (first_index es) (first_index es + length es) t (names (index i)) i (omega arith) b e (λ x. (on.inside (e ∙ x)).1) (nat_le (first_index es) i) refl (h (index i))
      by_cell (key k) true e = weaker_key (names (key k)) (t.key_file k) t.since (least t.since (Some file)) (is_some (g.value k)) (λ x. bounded_left (names (key k)) t.since (Some file) x) (h (key k))
      by_cell (key k) false e = weaker_key (names (key k)) (t.key_file k) t.since (least (least t.since t.tail) (Some file)) (is_some (g.value k))
          (λ x. bounded_left (names (key k)) (least t.since t.tail) (Some file) (bounded_left (names (key k)) t.since t.tail x)) (h (key k))
  changes_keep_bounds file clean t g names on h presence = le_refl file
  changes_keep_bounds file clean t g names on h (index i) = by_place (Some file) (Some file) None (Some file) i 0 0 (λ l. le_refl file) (λ l m. absurd (none_below m)) (λ l m. le_refl file)
  changes_keep_bounds file clean t g names on h (key k) = le_refl file
  changes_keep_bounds file (compact limit) t g names on h c = by_cell c (nat_lt (greater t.low limit) t.next) refl
    where
      by_cell : (c : Cell) (b : Bool) → nat_lt (greater t.low limit) t.next ≡ b → IsBounded (names_after {E = E} file (compact limit) names c) (file_of (cut file (greater t.low limit) t b) (after_change (compact limit) g) c)
      by_cell presence true e = now file t.since
      by_cell presence false e = now file (least t.since t.tail)
      by_cell (index i) b e = cut_at file limit t (names (index i)) i b e (nat_lt i limit) refl (h (index i))
      by_cell (key k) true e = weaker_key (names (key k)) (t.key_file k) t.since (least t.since (Some file)) (is_some (g.value k)) (λ x. bounded_left (names (key k)) t.since (Some file) x) (h (key k))
      by_cell (key k) false e = weaker_key (names (key k)) (t.key_file k) t.since (least (least t.since t.tail) (Some file)) (is_some (g.value k))
          (λ x. bounded_left (names (key k)) (least t.since t.tail) (Some file) (bounded_left (names (key k)) t.since t.tail x)) (h (key k))
  changes_keep_bounds file (put name value) t g names on h presence = now file t.since
  changes_keep_bounds file (put name value) t g names on h (index i) = touched_index file t (names (index i)) i (h (index i))
  changes_keep_bounds file (put name value) t g names on h (key k) = by_name (bytes_eq name k)
    where
      by_name : (b : Bool) → IsBounded (cond b (Some file) (names (key k))) (cond (is_some (cond b (Some value) (g.value k))) (cond b (Some file) (t.key_file k)) (least t.since (Some file)))
      by_name true = le_refl file
      by_name false = weaker_key (names (key k)) (t.key_file k) t.since (least t.since (Some file)) (is_some (g.value k)) (λ x. bounded_left (names (key k)) t.since (Some file) x) (h (key k))
  changes_keep_bounds file (delete name) t g names on h presence = now file t.since
  changes_keep_bounds file (delete name) t g names on h (index i) = touched_index file t (names (index i)) i (h (index i))
  changes_keep_bounds file (delete name) t g names on h (key k) = by_name (bytes_eq name k)
    where
      by_name : (b : Bool) → IsBounded (cond b (Some file) (names (key k))) (cond (is_some (cond b None (g.value k))) (cond b None (t.key_file k)) (least t.since (Some file)))
      by_name true = now file t.since
      by_name false = weaker_key (names (key k)) (t.key_file k) t.since (least t.since (Some file)) (is_some (g.value k)) (λ x. bounded_left (names (key k)) t.since (Some file) x) (h (key k))
  changes_keep_bounds file (mark id status) t g names on h presence = h presence
  changes_keep_bounds file (mark id status) t g names on h (index i) = h (index i)
  changes_keep_bounds file (mark id status) t g names on h (key k) = h (key k)
