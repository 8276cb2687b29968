-- Entries that stand at new places.
use Rattle.std.proofs.Common.{◌≡◌, ℕ, Bool, true, false, cond, List, ◌∷◌, Option, Some, None, refl, sym, ap, ◌∙◌}
use Rattle.std.specs.Prelude.{nat_eq}
use Rattle.std.specs.Option.{option_map}
use Rattle.std.specs.BTreeMap.{BTreeMap, get, UpdatesBy}
use Rattle.std.specs.Ordering.{nat_cmp}
use Rattle.std.proofs.lemmas.Bool.{eqb-true}
use Rattle.raft_log_records.specs.declared.file_id.FileBlockHandle.{FileBlockHandle}
use Rattle.raft_log_records.specs.declared.item.EntryIndex.{EntryIndex}
use Rattle.raft_log_memtables.specs.declared.memtable.MemTable.{MemTable}
use Rattle.raft_log_memtables.specs.Content.{GroupContent, entry_at}
use Rattle.raft_log_memtables.specs.ContentLaws.{group_map}
use Rattle.raft_log_memtables.specs.Entries.{entry_of, placed_in, placed_pairs}
use Rattle.raft_log_memtables.specs.MemTable.{table_content}
use Rattle.raft_log_memtables.specs.Moved.{moved, group_moved, content_moved, EntriesMayMove}
use Rattle.raft_log_memtables.specs.Tables.{content_by, reach_by, table_at, reach_at}
use Rattle.raft_log_memtables.proofs.Cells.{apart_number}

-- ---- one entry

found : {E : Type 0} (o : Option E) (x : E) → Some x ≡ o → (place : E) → moved o (Some place) ≡ Some place
found None x e place = absurd cc
found (Some y) x e place = refl

none_moved : {E : Type 0} (o place : Option E) → o ≡ None → o ≡ moved o place
none_moved None place e = refl
none_moved (Some x) place e = absurd cc

pub entry_moved : (old new : BTreeMap ℕ EntryIndex) (entry there : EntryIndex) → Some there ≡ entry_of old entry.index → UpdatesBy nat_cmp (nat_cmp entry.index) old new (Some entry)
    → (i : ℕ) → entry_of new i ≡ cond (nat_eq entry.index i) (moved (entry_of old i) (Some entry)) (entry_of old i)
entry_moved old new entry there is u i = by_index (nat_eq entry.index i) refl
  where
    by_index : (b : Bool) → nat_eq entry.index i ≡ b → entry_of new i ≡ cond b (moved (entry_of old i) (Some entry)) (entry_of old i)
    by_index true k =
        let same = eqb-true entry.index i k in
        ap (λ (n : ℕ). entry_of new n) (sym same) ∙ u.1 ∙ sym (found (entry_of old entry.index) there is entry) ∙ ap (λ (n : ℕ). moved (entry_of old n) (Some entry)) same
    by_index false k = u.2 i (apart_number entry.index i k)

pub entry_absent : (old : BTreeMap ℕ EntryIndex) (entry : EntryIndex) → entry_of old entry.index ≡ None → (i : ℕ) → entry_of old i ≡ cond (nat_eq entry.index i) (moved (entry_of old i) (Some entry)) (entry_of old i)
entry_absent old entry none i = by_index (nat_eq entry.index i) refl
  where
    by_index : (b : Bool) → nat_eq entry.index i ≡ b → entry_of old i ≡ cond b (moved (entry_of old i) (Some entry)) (entry_of old i)
    by_index true k = none_moved (entry_of old i) (Some entry) (ap (λ (n : ℕ). entry_of old n) (sym (eqb-true entry.index i k)) ∙ none)
    by_index false k = refl

-- ---- one entry more, before those that were moved

unmoved : {E : Type 0} (o : Option E) → o ≡ moved o None
unmoved None = refl
unmoved (Some x) = refl

pub none_yet : (o : Option EntryIndex) → o ≡ moved o None
none_yet = unmoved

again : {E : Type 0} (o place : Option E) (first : E) → moved (moved o place) (Some first) ≡ moved o (Some first)
again None place first = refl
again (Some x) None first = refl
again (Some x) (Some y) first = refl

pub moved_more : (handle : FileBlockHandle) (before after : List EntryIndex) (e placed : EntryIndex) (old mid new : ℕ → Option EntryIndex) → before ≡ e ∷ after → placed ≡ placed_in handle e
    → ((i : ℕ) → new i ≡ cond (nat_eq placed.index i) (moved (mid i) (Some placed)) (mid i)) → ((i : ℕ) → mid i ≡ moved (old i) (entry_at (placed_pairs handle after) i))
    → (i : ℕ) → new i ≡ moved (old i) (entry_at (placed_pairs handle before) i)
moved_more handle before after e placed old mid new d p k h i =
    k i ∙ ap (λ (x : EntryIndex). cond (nat_eq x.index i) (moved (mid i) (Some x)) (mid i)) p ∙ by_index (nat_eq e.index i)
    ∙ sym (ap (λ (l : List EntryIndex). moved (old i) (entry_at (placed_pairs handle l) i)) d)
  where
    by_index : (b : Bool) → cond b (moved (mid i) (Some (placed_in handle e))) (mid i) ≡ moved (old i) (cond b (Some (placed_in handle e)) (entry_at (placed_pairs handle after) i))
    by_index true = ap (λ (o : Option EntryIndex). moved o (Some (placed_in handle e))) (h i) ∙ again (old i) (entry_at (placed_pairs handle after) i) (placed_in handle e)
    by_index false = h i

-- ---- a group

pub same_entries : (there : Bool) (a b : ℕ → Option EntryIndex) (value : List ℕ → Option (List ℕ)) → ((i : ℕ) → a i ≡ b i)
    → (let g : GroupContent EntryIndex = record { there = there; entry = a; value = value } in g ≡ record { there = there; entry = b; value = value })
same_entries there a b value h = λ i. record { there = there; entry = λ n. h n i; value = value }

no_table : (handle : FileBlockHandle) (es : List EntryIndex) (o : Option MemTable) → o ≡ None → content_by o ≡ group_moved handle es (content_by o)
no_table handle es None e = refl
no_table handle es (Some t) e = absurd cc

pub groups_unmoved : (tables : BTreeMap ℕ MemTable) (group : ℕ) (handle : FileBlockHandle) (es : List EntryIndex) → get nat_cmp tables group ≡ None → table_at tables ≡ content_moved group handle es (table_at tables)
groups_unmoved tables group handle es none = λ i. λ other. by_group other (nat_eq group other) refl i
  where
    by_group : (other : ℕ) (b : Bool) → nat_eq group other ≡ b → table_at tables other ≡ cond b (group_moved handle es (table_at tables other)) (table_at tables other)
    by_group other true k = no_table handle es (get nat_cmp tables other) (ap (λ (n : ℕ). get nat_cmp tables n) (sym (eqb-true group other k)) ∙ none)
    by_group other false k = refl

pub groups_moved : (old new : BTreeMap ℕ MemTable) (group : ℕ) (handle : FileBlockHandle) (es : List EntryIndex) (t u : MemTable) → Some t ≡ get nat_cmp old group → UpdatesBy nat_cmp (nat_cmp group) old new (Some u)
    → table_content u ≡ group_moved handle es (table_content t) → table_at new ≡ content_moved group handle es (table_at old)
groups_moved old new group handle es t u is up h = λ i. λ other. by_group other (nat_eq group other) refl i
  where
    by_group : (other : ℕ) (b : Bool) → nat_eq group other ≡ b → table_at new other ≡ cond b (group_moved handle es (table_at old other)) (table_at old other)
    by_group other true k =
        let same = eqb-true group other k in
        ap (λ (n : ℕ). table_at new n) (sym same) ∙ ap content_by up.1 ∙ h ∙ ap (λ (o : Option MemTable). group_moved handle es (content_by o)) is ∙ ap (λ (n : ℕ). group_moved handle es (table_at old n)) same
    by_group other false k = ap content_by (up.2 other (apart_number group other k))

pub reach_unmoved : (old new : BTreeMap ℕ MemTable) (group : ℕ) (t u : MemTable) → Some t ≡ get nat_cmp old group → UpdatesBy nat_cmp (nat_cmp group) old new (Some u) → u.reached ≡ t.reached → reach_at new ≡ reach_at old
reach_unmoved old new group t u is up h = λ i. λ other. by_group other (nat_eq group other) refl i
  where
    by_group : (other : ℕ) (b : Bool) → nat_eq group other ≡ b → reach_at new other ≡ reach_at old other
    by_group other true k =
        let same = eqb-true group other k in
        ap (λ (n : ℕ). reach_at new n) (sym same) ∙ ap reach_by up.1 ∙ h ∙ ap reach_by is ∙ ap (λ (n : ℕ). reach_at old n) same
    by_group other false k = ap reach_by (up.2 other (apart_number group other k))

-- ---- the content is as before

cell_as_before : {F : Type 0} (f : EntryIndex → F) (o place : Option EntryIndex) → ((old new : EntryIndex) → o ≡ Some old → place ≡ Some new → f new ≡ f old) → option_map f (moved o place) ≡ option_map f o
cell_as_before f None place h = refl
cell_as_before f (Some x) None h = refl
cell_as_before f (Some x) (Some y) h = ap (λ z. Some z) (h x y refl refl)

pub entries_may_move : {F : Type 0} → EntriesMayMove F
entries_may_move f group handle es content h = λ i. λ other. by_group other (nat_eq group other) refl i
  where
    by_group : (other : ℕ) (b : Bool) → nat_eq group other ≡ b → group_map f (cond b (group_moved handle es (content other)) (content other)) ≡ group_map f (content other)
    by_group other true k =
        let same = eqb-true group other k in
        λ i. record {
          there = (content other).there;
          entry = λ n. cell_as_before f ((content other).entry n) (entry_at (placed_pairs handle es) n) (λ x y e p. h n x y (ap (λ (m : ℕ). (content m).entry n) same ∙ e) p) i;
          value = (content other).value;
        }
    by_group other false k = refl
