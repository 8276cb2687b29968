-- Which entries a batch may add, and the search for entries behind its items.
use Rattle.std.proofs.Common.{◌≡◌, ◌≤◌, ◌<◌, ◌-◌, ℕ, Bool, true, false, cond, List, [], ◌∷◌, ◌++◌, Option, Some, None, refl, sym, ap, ◌∙◌, arith, max, min, ◌+◌, suc, length, take, drop, get_or, subst}
use Rattle.std.specs.Prelude.{nat_eq, nat_le, IsSome, IfSome, IfNone, ◌||◌}
use Rattle.std.specs.Cmp.Derive.{both_true}
use Rattle.std.specs.List.{list_any}
use Rattle.std.proofs.lemmas.Bool.{eq-eqb, eqb-true, leb-true, le-leb, and_parts}
use Rattle.std.proofs.lemmas.Bool.Decides.{nat_tests}
use Rattle.std.proofs.lemmas.List.{take_all, take_more, take-append-drop, map_push, map-append}
use Rattle.std.proofs.Math.Seq.{drop-cons}
use Rattle.raft_log_records.specs.declared.item.EntryIndex.{EntryIndex}
use Rattle.raft_log_records.specs.declared.item.LogItem.{LogItem}
use Rattle.raft_log_records.specs.Item.{Item, change_of, item_of, items_of}
use Rattle.raft_log_records.specs.Places.{indexed}
use Rattle.raft_log_records.specs.Spelling.{first_index}
use Rattle.raft_log_memtables.specs.Content.{GroupContent, Content, entry_at, after_change, after_item, after_batch}
use Rattle.raft_log_memtables.specs.Taken.{within, HasWithin, NoneWithin, Takes, TakesEach}
use Rattle.raft_log_memtables.specs.Search.{LeadsTo, Leaves}
use Rattle.raft_log_memtables.specs.declared.taken.Search.TheVariants.{Found, Missing, Before}
use Rattle.raft_log_memtables.proofs.Folds.{after_batch-append}

-- ---- between two indexes

abbrev Between : ℕ → Option ℕ → ℕ → Type 0
Between first None i = first ≤ i
Between first (Some last) i = (first ≤ i) × (i ≤ last)

between : (first : ℕ) (last : Option ℕ) (i : ℕ) → within first last i ≡ true → Between first last i
between first None i h = leb-true first i h
between first (Some last) i h = let p = and_parts (nat_le first i) (nat_le i last) h in (leb-true first i p.0, leb-true i last p.1)

within_of : (first : ℕ) (last : Option ℕ) (i : ℕ) → Between first last i → within first last i ≡ true
within_of first None i h = le-leb first i h
within_of first (Some last) i h = both_true (le-leb first i h.0) (le-leb i last h.1)

pub has_none : {E : Type 0} (entry : ℕ → Option E) (first : ℕ) (last : Option ℕ) → HasWithin entry first last → NoneWithin entry first last → ⊥
has_none entry first last h n = none_there (entry h.0) h.2 (n h.0 h.1)
  where
    none_there : {E : Type 0} (o : Option E) → IsSome o → o ≡ None → ⊥
    none_there None s e = cc
    none_there (Some x) s e = cc

-- ---- entries of one item

first_of_or : (b c : Bool) → (b || c) ≡ false → b ≡ false
first_of_or true c h = h
first_of_or false c h = refl

second_of_or : (b c : Bool) → (b || c) ≡ false → c ≡ false
second_of_or true c h = cc
second_of_or false c h = h

second_if_not_first : (b c : Bool) → b ≡ false → (b || c) ≡ true → c ≡ true
second_if_not_first true c k h = cc
second_if_not_first false c k h = h

own_entry : (e : EntryIndex) (es : List EntryIndex) → IsSome (entry_at (indexed (e ∷ es)) e.index)
own_entry e es = rw (eq-eqb e.index e.index refl) refl

later_entry : (e : EntryIndex) (es : List EntryIndex) (i : ℕ) → IsSome (entry_at (indexed es) i) → IsSome (entry_at (indexed (e ∷ es)) i)
later_entry e es i s = elim (nat_eq e.index i) as (λ b. IsSome (cond b (Some e) (entry_at (indexed es) i))) [ true ↦ refl | false ↦ s ]

pub any_finds : (first : ℕ) (last : Option ℕ) (es : List EntryIndex) → list_any (λ e. within first last e.index) es ≡ true → HasWithin (entry_at (indexed es)) first last
any_finds first last [] h = cc
any_finds first last (e ∷ es) h = by_test (any_finds first last es) (within first last e.index) refl
  where
    by_test : (list_any (λ (x : EntryIndex). within first last x.index) es ≡ true → HasWithin (entry_at (indexed es)) first last)
        → (b : Bool) → within first last e.index ≡ b → HasWithin (entry_at (indexed (e ∷ es))) first last
    by_test rec true k = (e.index, k, own_entry e es)
    by_test rec false k =
        let p : HasWithin (entry_at (indexed es)) first last = rec (second_if_not_first (within first last e.index) (list_any (λ (x : EntryIndex). within first last x.index) es) k h) in
        (p.0, p.1, later_entry e es p.0 p.2)

pub any_misses : (first : ℕ) (last : Option ℕ) (es : List EntryIndex) → list_any (λ e. within first last e.index) es ≡ false → NoneWithin (entry_at (indexed es)) first last
any_misses first last [] h i w = refl
any_misses first last (e ∷ es) h i w =
    by_index (any_misses first last es (second_of_or (within first last e.index) (list_any (λ (x : EntryIndex). within first last x.index) es) h) i w) (nat_eq e.index i) refl
  where
    by_index : entry_at (indexed es) i ≡ None → (b : Bool) → nat_eq e.index i ≡ b → entry_at (indexed (e ∷ es)) i ≡ None
    by_index rec true k =
        let same : e.index ≡ i = eqb-true e.index i k in
        let out : within first last e.index ≡ false = first_of_or (within first last e.index) (list_any (λ (x : EntryIndex). within first last x.index) es) h in
        let in_it : within first last e.index ≡ true = rw same w in
        cc
    by_index rec false k = rw k rec

-- ---- a search at entries, which begin at an index

from_max : (a b : ℕ) (last : Option ℕ) (i : ℕ) → within (max a b) last i ≡ true → (within a last i ≡ true) × (b ≤ i)
from_max a b None i h =
    let k : max a b ≤ i = between (max a b) None i h in (within_of a None i (omega arith), omega arith)
from_max a b (Some last) i h =
    let k = between (max a b) (Some last) i h in (within_of a (Some last) i (omega arith, omega arith), omega arith)

to_max : (a b : ℕ) (last : Option ℕ) (i : ℕ) → within a last i ≡ true → b ≤ i → within (max a b) last i ≡ true
to_max a b None i h l =
    let k : a ≤ i = between a None i h in within_of (max a b) None i (omega arith)
to_max a b (Some last) i h l =
    let k = between a (Some last) i h in within_of (max a b) (Some last) i (omega arith, k.1)

abbrev run_entry : List EntryIndex → (ℕ → Option EntryIndex) → ℕ → Option EntryIndex
run_entry es before i = cond (nat_le (first_index (indexed es)) i) (entry_at (indexed es) i) (before i)

pub run_found : (es : List EntryIndex) (start first : ℕ) (last : Option ℕ) (before : ℕ → Option EntryIndex) → start ≡ first_index (indexed es) → list_any (λ e. within (max first start) last e.index) es ≡ true → HasWithin (run_entry es before) first last
run_found es start first last before e h =
    let p : HasWithin (entry_at (indexed es)) (max first start) last = any_finds (max first start) last es h in
    let w = from_max first start last p.0 p.1 in
    (p.0, w.0, rw (le-leb (first_index (indexed es)) p.0 (omega arith)) p.2)

pub run_missing : (es : List EntryIndex) (start first : ℕ) (last : Option ℕ) (before : ℕ → Option EntryIndex) → start ≡ first_index (indexed es) → list_any (λ e. within (max first start) last e.index) es ≡ false → start ≡ 0 → NoneWithin (run_entry es before) first last
run_missing es start first last before e h z i w =
    rw (le-leb (first_index (indexed es)) i (omega arith)) (any_misses (max first start) last es h i (to_max first start last i w (omega arith)))

-- the last index below the first one of the entries
abbrev pub IsBelow : Option ℕ → ℕ → ℕ → Type 0
IsBelow last start high = IfSome last (λ l. high ≡ min l (start - 1)) × IfNone last (high ≡ start - 1)

still_within : (start first : ℕ) (last : Option ℕ) (high i : ℕ) → 0 < start → IsBelow last start high → within first (Some high) i ≡ true → (within first last i ≡ true) × (i < start)
still_within start first None high i s b w =
    let e : high ≡ start - 1 = b.1 in
    let k = between first (Some high) i w in (within_of first None i k.0, omega arith)
still_within start first (Some last) high i s b w =
    let e : high ≡ min last (start - 1) = b.0 in
    let k = between first (Some high) i w in (within_of first (Some last) i (k.0, omega arith), omega arith)

back_within : (start first : ℕ) (last : Option ℕ) (high i : ℕ) → IsBelow last start high → within first last i ≡ true → i < start → within first (Some high) i ≡ true
back_within start first None high i b w l =
    let e : high ≡ start - 1 = b.1 in
    let k : first ≤ i = between first None i w in within_of first (Some high) i (k, omega arith)
back_within start first (Some last) high i b w l =
    let e : high ≡ min last (start - 1) = b.0 in
    let k = between first (Some last) i w in within_of first (Some high) i (k.0, omega arith)

pub run_before : (es : List EntryIndex) (start first : ℕ) (last : Option ℕ) (high : ℕ) (before : ℕ → Option EntryIndex) → start ≡ first_index (indexed es) → list_any (λ e. within (max first start) last e.index) es ≡ false → 0 < start → IsBelow last start high
    → LeadsTo before first (Some high) (run_entry es before) first last
run_before es start first last high before e h s b = record {
  has = λ p.
      let w = still_within start first last high p.0 s b p.1 in
      (p.0, w.0, rw (not_from p.0 w.1) p.2);
  none = λ n i w. by_place n i w (nat_le (first_index (indexed es)) i) refl;
}
  where
    not_from : (i : ℕ) → i < start → nat_le (first_index (indexed es)) i ≡ false
    not_from i l = grind (arith, nat_tests)

    by_place : NoneWithin before first (Some high) → (i : ℕ) → within first last i ≡ true → (c : Bool) → nat_le (first_index (indexed es)) i ≡ c → run_entry es before i ≡ None
    by_place n i w true k = rw k (any_misses (max first start) last es h i (to_max first start last i w (let l = leb-true (first_index (indexed es)) i k in omega arith)))
    by_place n i w false k = rw k (n i (back_within start first last high i b w (below i k)))
      where
        below : (i : ℕ) → nat_le (first_index (indexed es)) i ≡ false → i < start
        below i k = grind (arith, nat_tests)

-- ---- a search behind items, from the last one on

-- the last one of some items, and those before it
last_of_items : {X : Type 0} (xs : List X) (x : X) → 1 ≤ length xs → x ≡ get_or xs (length xs - 1) x → xs ≡ take (length xs - 1) xs ++ x ∷ []
last_of_items xs x l e =
    sym (take_all (length xs - 1 + 1) xs (omega arith)) ∙ take_more xs (length xs - 1) x (omega arith) ∙ ap (λ y. take (length xs - 1) xs ++ y ∷ []) (sym e)

module _ (rest : List LogItem) (item : LogItem) (content : Content EntryIndex) (group : ℕ) (some : 1 ≤ length rest) (is : item ≡ get_or rest (length rest - 1) item) where
  abbrev all : GroupContent EntryIndex
  all = after_batch (items_of rest) content group

  abbrev front : GroupContent EntryIndex
  front = after_batch (items_of (take (length rest - 1) rest)) content group

  one_more : all ≡ cond (nat_eq item.raft_group_id group) (after_change (change_of item.content) (after_batch (items_of (take (length rest - 1) rest)) content group)) front
  one_more =
      ap (λ (l : List LogItem). after_batch (items_of l) content group) (last_of_items rest item some is)
      ∙ ap (λ (l : List (Item EntryIndex)). after_batch l content group) (map_push item_of (take (length rest - 1) rest) item)
      ∙ ap (λ (f : Content EntryIndex). f group) (after_batch-append (items_of (take (length rest - 1) rest)) (item_of item ∷ []) content)

  changed : item.raft_group_id ≡ group → all ≡ after_change (change_of item.content) front
  changed same = one_more ∙ ap (λ (b : Bool). cond b (after_change (change_of item.content) front) front) (eq-eqb item.raft_group_id group same)

  kept : (item.raft_group_id ≡ group → ⊥) → all ≡ front
  kept other = one_more ∙ ap (λ (b : Bool). cond b (after_change (change_of item.content) front) front) (no_eqb (nat_eq item.raft_group_id group) refl)
    where
      no_eqb : (b : Bool) → nat_eq item.raft_group_id group ≡ b → nat_eq item.raft_group_id group ≡ false
      no_eqb true k = absurd (other (eqb-true item.raft_group_id group k))
      no_eqb false k = k

  module _ (target : ℕ → Option EntryIndex) (low first : ℕ) (high last : Option ℕ) (leads : LeadsTo all.entry low high target first last) where
    behind : item.raft_group_id ≡ group → LeadsTo (after_change (change_of item.content) front).entry low high target first last
    behind same = subst (λ (g : GroupContent EntryIndex). LeadsTo g.entry low high target first last) (changed same) leads

    pub search_found : item.raft_group_id ≡ group → Leaves (change_of item.content) low high Found → HasWithin target first last
    search_found same h = (behind same).has (h front)

    pub search_missing : item.raft_group_id ≡ group → Leaves (change_of item.content) low high Missing → NoneWithin target first last
    search_missing same h = (behind same).none (h front)

    pub search_before : (low' : ℕ) (high' : Option ℕ) → item.raft_group_id ≡ group → Leaves (change_of item.content) low high (Before low' high') → LeadsTo front.entry low' high' target first last
    search_before low' high' same h = record {
      has = λ p. (behind same).has ((h front).has p);
      none = λ n. (behind same).none ((h front).none n);
    }

    pub search_on : (item.raft_group_id ≡ group → ⊥) → LeadsTo front.entry low high target first last
    search_on other = subst (λ (g : GroupContent EntryIndex). LeadsTo g.entry low high target first last) (kept other) leads

-- ---- items of other groups

pub others_leave : (items : List LogItem) (content : Content EntryIndex) (group : ℕ) → list_any (λ item. nat_eq item.raft_group_id group) items ≡ false → after_batch (items_of items) content group ≡ content group
others_leave [] content group none = refl
others_leave (item ∷ items) content group none =
    let later : list_any (λ (x : LogItem). nat_eq x.raft_group_id group) items ≡ false = second_of_or (nat_eq item.raft_group_id group) (list_any (λ (x : LogItem). nat_eq x.raft_group_id group) items) none in
    let other : nat_eq item.raft_group_id group ≡ false = first_of_or (nat_eq item.raft_group_id group) (list_any (λ (x : LogItem). nat_eq x.raft_group_id group) items) none in
    others_leave items (after_item (item_of item) content) group later
    ∙ ap (λ (b : Bool). cond b (after_change (change_of item.content) (content group)) (content group)) other

-- ---- items one after the other

pub takes_more : {E : Type 0} (items : List (Item E)) (item : Item E) (content : Content E) → TakesEach items content → Takes item.change (after_batch items content item.group) → TakesEach (items ++ item ∷ []) content
takes_more [] item content t h = (h, tt)
takes_more (x ∷ items) item content t h = (t.0, takes_more items item (after_item x content) t.1 h)

pub takes_at : {E : Type 0} (items : List (Item E)) (item : Item E) (more : List (Item E)) (content : Content E) → TakesEach (items ++ item ∷ more) content → Takes item.change (after_batch items content item.group)
takes_at [] item more content t = t.0
takes_at (x ∷ items) item more content t = takes_at items item more (after_item x content) t.1

-- the items of a list up to a place
pub takes_next : (xs : List LogItem) (i : ℕ) (x : LogItem) (content : Content EntryIndex) → i < length xs → x ≡ get_or xs i x → TakesEach (items_of (take i xs)) content
    → Takes (change_of x.content) (after_batch (items_of (take i xs)) content x.raft_group_id) → TakesEach (items_of (take (i + 1) xs)) content
takes_next xs i x content l e t h =
    let grown : items_of (take (i + 1) xs) ≡ items_of (take i xs) ++ item_of x ∷ [] =
    ap items_of (take_more xs i x l ∙ ap (λ y. take i xs ++ y ∷ []) (sym e)) ∙ map_push item_of (take i xs) x in
    subst (λ (items : List (Item EntryIndex)). TakesEach items content) (sym grown) (takes_more (items_of (take i xs)) (item_of x) content t h)

pub takes_there : (xs : List LogItem) (i : ℕ) (x : LogItem) (content : Content EntryIndex) → i < length xs → x ≡ get_or xs i x → TakesEach (items_of xs) content
    → Takes (change_of x.content) (after_batch (items_of (take i xs)) content x.raft_group_id)
takes_there xs i x content l e t =
    let parts : xs ≡ take i xs ++ x ∷ drop (suc i) xs =
    sym (take-append-drop i xs) ∙ ap (λ ys. take i xs ++ ys) (drop-cons xs i x l ∙ ap (λ y. y ∷ drop (suc i) xs) (sym e)) in
    let split : items_of xs ≡ items_of (take i xs) ++ item_of x ∷ items_of (drop (suc i) xs) =
    ap items_of parts ∙ map-append item_of (take i xs) (x ∷ drop (suc i) xs) in
    takes_at (items_of (take i xs)) (item_of x) (items_of (drop (suc i) xs)) content (subst (λ (items : List (Item EntryIndex)). TakesEach items content) split t)
