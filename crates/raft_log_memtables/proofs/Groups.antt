-- What an item does to the memtables of groups.
use Rattle.std.proofs.Common.{◌≡◌, ℕ, Bool, true, false, cond, Option, Some, None, refl, sym, ap, ◌∙◌}
use Rattle.std.specs.Prelude.{IsSome, is_some, nat_eq}
use Rattle.std.specs.BTreeMap.{BTreeMap, get, UpdatesBy}
use Rattle.std.specs.Ordering.{nat_cmp}
use Rattle.std.proofs.lemmas.Bool.{eqb-true}
use Rattle.raft_log_records.specs.declared.item.EntryIndex.{EntryIndex}
use Rattle.raft_log_records.specs.Item.{Change, change_map}
use Rattle.raft_log_records.specs.Item.Change.{entries, clean, compact, put, delete, mark}
use Rattle.raft_log_memtables.specs.declared.memtable.MemTable.{MemTable}
use Rattle.raft_log_memtables.specs.Content.{GroupContent, Content, no_group, after_change, after_item, reach_after, reach_after_item}
use Rattle.raft_log_memtables.specs.MemTable.{table_content, only_there, is_clean_of, is_mark_of}
use Rattle.raft_log_memtables.specs.Tables.{content_by, reach_by, table_at, reach_at, present, IsMade, IsChanged}
use Rattle.raft_log_memtables.proofs.Cells.{apart_number}

abbrev Tables : Type 0
Tables = BTreeMap ℕ MemTable

-- ---- the memtable of a group is made where it has none

table_there : (o : Option MemTable) → is_some o ≡ true → IsSome o × (content_by o ≡ present (content_by o))
table_there None h = absurd cc
table_there (Some t) h = (refl, refl)

pub kept_table : (tables : Tables) (group : ℕ) → is_some (get nat_cmp tables group) ≡ true → IsMade tables group tables
kept_table tables group h =
    let t = table_there (get nat_cmp tables group) h in
    record { there = t.0; content = t.1; reach = refl; others = λ other e. refl }

none_there : (o : Option MemTable) → is_some o ≡ false → (content_by o ≡ no_group) × (reach_by o ≡ None)
none_there None h = (refl, refl)
none_there (Some t) h = absurd cc

some_is : (o : Option MemTable) (t : MemTable) → o ≡ Some t → IsSome o
some_is None t h = absurd cc
some_is (Some u) t h = refl

pub made_table : (old new : Tables) (group : ℕ) (t : MemTable) → is_some (get nat_cmp old group) ≡ false → UpdatesBy nat_cmp (nat_cmp group) old new (Some t) → table_content t ≡ only_there → t.reached ≡ None → IsMade old group new
made_table old new group t h u c r =
    let none = none_there (get nat_cmp old group) h in
    record {
      there = some_is (get nat_cmp new group) t u.1;
      content = ap content_by u.1 ∙ c ∙ ap present (sym none.0);
      reach = ap reach_by u.1 ∙ r ∙ sym none.1;
      others = λ other e. u.2 other (apart_number group other e);
    }

-- ---- a memtable is changed

pub changed_table : (old new : Tables) (group : ℕ) (t w : MemTable) (change : Change EntryIndex) → get nat_cmp old group ≡ Some t → UpdatesBy nat_cmp (nat_cmp group) old new (Some w)
    → table_content w ≡ after_change change (table_content t) → w.reached ≡ reach_after change t.reached → IsChanged old group change new
changed_table old new group t w change h u c r = record {
  content = ap content_by u.1 ∙ c ∙ ap (λ (o : Option MemTable). after_change change (content_by o)) (sym h);
  reach = ap reach_by u.1 ∙ r ∙ ap (λ (o : Option MemTable). reach_after change (reach_by o)) (sym h);
  others = λ other e. u.2 other (apart_number group other e);
}

-- ---- an item

after_present : (c : Change EntryIndex) (g : GroupContent EntryIndex) → is_mark_of c ≡ false → is_clean_of c ≡ false → after_change c (present g) ≡ after_change c g
after_present (entries es) g h k = refl
after_present clean g h k = absurd cc
after_present (compact index) g h k = refl
after_present (put key value) g h k = refl
after_present (delete key) g h k = refl
after_present (mark id status) g h k = absurd cc

content_at : (old mid new : Tables) (group : ℕ) (c : Change EntryIndex) (other : ℕ) (b : Bool) → nat_eq group other ≡ b → IsMade old group mid → IsChanged mid group c new → is_mark_of c ≡ false → is_clean_of c ≡ false
    → table_at new other ≡ cond b (after_change c (table_at old other)) (table_at old other)
content_at old mid new group c other true e m d h k =
    let same = eqb-true group other e in
    ap (λ (n : ℕ). table_at new n) (sym same) ∙ d.content ∙ ap (after_change c) m.content ∙ after_present c (table_at old group) h k ∙ ap (λ (n : ℕ). after_change c (table_at old n)) same
content_at old mid new group c other false e m d h k = ap content_by (d.others other e ∙ m.others other e)

reach_of_other : (old mid new : Tables) (group : ℕ) (c : Change EntryIndex) (other : ℕ) (b : Bool) → nat_eq group other ≡ b → IsMade old group mid → IsChanged mid group c new
    → reach_at new other ≡ cond b (reach_after c (reach_at old other)) (reach_at old other)
reach_of_other old mid new group c other true e m d =
    let same = eqb-true group other e in
    ap (λ (n : ℕ). reach_at new n) (sym same) ∙ d.reach ∙ ap (reach_after c) m.reach ∙ ap (λ (n : ℕ). reach_after c (reach_at old n)) same
reach_of_other old mid new group c other false e m d = ap reach_by (d.others other e ∙ m.others other e)

pub content_applied : (old mid new : Tables) (group : ℕ) (c : Change EntryIndex) → IsMade old group mid → IsChanged mid group c new → is_mark_of c ≡ false → is_clean_of c ≡ false
    → table_at new ≡ after_item (record { group = group; change = c }) (table_at old)
content_applied old mid new group c m d h k = λ i. λ other. content_at old mid new group c other (nat_eq group other) refl m d h k i

pub reach_applied : (old mid new : Tables) (group : ℕ) (c : Change EntryIndex) → IsMade old group mid → IsChanged mid group c new → reach_at new ≡ reach_after_item (record { group = group; change = c }) (reach_at old)
reach_applied old mid new group c m d = λ i. λ other. reach_of_other old mid new group c other (nat_eq group other) refl m d i

-- ---- a Clean

after_clean : (c : Change EntryIndex) (g : GroupContent EntryIndex) (r : Option ℕ) → is_clean_of c ≡ true → (no_group ≡ after_change c g) × (None ≡ reach_after c r)
after_clean (entries es) g r h = absurd cc
after_clean clean g r h = (refl, refl)
after_clean (compact index) g r h = absurd cc
after_clean (put key value) g r h = absurd cc
after_clean (delete key) g r h = absurd cc
after_clean (mark id status) g r h = absurd cc

cleaned_at : (old new : Tables) (group : ℕ) (c : Change EntryIndex) (other : ℕ) (b : Bool) → nat_eq group other ≡ b → UpdatesBy nat_cmp (nat_cmp group) old new None → is_clean_of c ≡ true
    → (table_at new other ≡ cond b (after_change c (table_at old other)) (table_at old other)) × (reach_at new other ≡ cond b (reach_after c (reach_at old other)) (reach_at old other))
cleaned_at old new group c other true e u h =
    let same = eqb-true group other e in
    let gone : get nat_cmp new other ≡ None = ap (λ (n : ℕ). get nat_cmp new n) (sym same) ∙ u.1 in
    let both = after_clean c (table_at old other) (reach_at old other) h in
    (ap content_by gone ∙ both.0, ap reach_by gone ∙ both.1)
cleaned_at old new group c other false e u h =
    let same = u.2 other (apart_number group other e) in
    (ap content_by same, ap reach_by same)

pub content_cleaned : (old new : Tables) (group : ℕ) (c : Change EntryIndex) → UpdatesBy nat_cmp (nat_cmp group) old new None → is_clean_of c ≡ true → table_at new ≡ after_item (record { group = group; change = c }) (table_at old)
content_cleaned old new group c u h = λ i. λ other. (cleaned_at old new group c other (nat_eq group other) refl u h).0 i

pub reach_cleaned : (old new : Tables) (group : ℕ) (c : Change EntryIndex) → UpdatesBy nat_cmp (nat_cmp group) old new None → is_clean_of c ≡ true → reach_at new ≡ reach_after_item (record { group = group; change = c }) (reach_at old)
reach_cleaned old new group c u h = λ i. λ other. (cleaned_at old new group c other (nat_eq group other) refl u h).1 i

-- ---- a mark

after_mark : (c : Change EntryIndex) (g : GroupContent EntryIndex) (r : Option ℕ) → is_mark_of c ≡ true → (g ≡ after_change c g) × (r ≡ reach_after c r)
after_mark (entries es) g r h = absurd cc
after_mark clean g r h = absurd cc
after_mark (compact index) g r h = absurd cc
after_mark (put key value) g r h = absurd cc
after_mark (delete key) g r h = absurd cc
after_mark (mark id status) g r h = (refl, refl)

either : {A : Type 0} (b : Bool) (x y : A) → x ≡ y → x ≡ cond b y x
either true x y h = h
either false x y h = refl

pub content_marked : (content : Content EntryIndex) (group : ℕ) (c : Change EntryIndex) → is_mark_of c ≡ true → content ≡ after_item (record { group = group; change = c }) content
content_marked content group c h = λ i. λ other. either (nat_eq group other) (content other) (after_change c (content other)) (after_mark c (content other) None h).0 i

pub reach_marked : (reach : ℕ → Option ℕ) (group : ℕ) (c : Change EntryIndex) → is_mark_of c ≡ true → reach ≡ reach_after_item (record { group = group; change = c }) reach
reach_marked reach group c h = λ i. λ other. either (nat_eq group other) (reach other) (reach_after c (reach other)) (after_mark c no_group (reach other) h).1 i

-- the item that the program has does the same kind of thing as the one in its place
pub mark_kept : {E F : Type 0} (f : E → F) (c : Change E) → is_mark_of c ≡ is_mark_of (change_map f c)
mark_kept f (entries es) = refl
mark_kept f clean = refl
mark_kept f (compact index) = refl
mark_kept f (put key value) = refl
mark_kept f (delete key) = refl
mark_kept f (mark id status) = refl

pub clean_kept : {E F : Type 0} (f : E → F) (c : Change E) → is_clean_of c ≡ is_clean_of (change_map f c)
clean_kept f (entries es) = refl
clean_kept f clean = refl
clean_kept f (compact index) = refl
clean_kept f (put key value) = refl
clean_kept f (delete key) = refl
clean_kept f (mark id status) = refl

-- ---- which groups are there

pub there_by : (o : Option MemTable) → (content_by o).there ≡ is_some o
there_by None = refl
there_by (Some t) = refl

pub some_there : (o : Option MemTable) → IsSome o → (content_by o).there ≡ true
some_there None h = h
some_there (Some t) h = refl
