-- What the steps on a memtable do to its cells.
use Rattle.std.proofs.Common.{◌≡◌, ℕ, Bool, true, false, cond, List, [], ◌∷◌, Option, Some, None, Result, Ok, Err, ◌≤◌, arith, refl, sym, ap, subst, ◌∙◌, ⊎_elim}
use Rattle.std.specs.Prelude.{OnOk, Vec, nat_eq, nat_le, nat_lt, bytes_eq}
use Rattle.std.specs.declared.alloc.Global.{Global}
use Rattle.std.specs.BTreeMap.{BTreeMap}
use Rattle.std.specs.BTreeMap as tree
use Rattle.std.specs.Cmp.Lexicographic.{slice_cmp}
use Rattle.std.specs.Map.{lookup, IsKeyTest, AreApart, KeepsOthers}
use Rattle.std.specs.Option.{option_map}
use Rattle.std.specs.Ordering.{nat_cmp, is_eq}
use Rattle.std.specs.Cmp.Lexicographic.{bytes_decides, nat_list_cmp_total, nat_list_eq_equiv}
use Rattle.std.proofs.lemmas.Cmp.{eq_by_cmp_equiv}
use Rattle.std.specs.declared.cmp.Ordering.TheVariants.{Less, Equal, Greater}
use Rattle.std.proofs.lemmas.Bool.{cases_Bool, cond-true, cond-false, eqb-true, le-leb}
use Rattle.std.proofs.lemmas.Map.Text.{is_eq-slice_cmp}
use Rattle.raft_log_records.specs.declared.file_id.FileBlockHandle.{FileBlockHandle}
use Rattle.raft_log_records.specs.declared.item.EntryIndex.{EntryIndex}
use Rattle.raft_log_records.specs.Item.{change_map}
use Rattle.raft_log_records.specs.Item.Change.{entries, compact, put, delete}
use Rattle.raft_log_records.specs.Places.{indexed}
use Rattle.raft_log_records.specs.Spelling.{first_index}
use Rattle.raft_log_memtables.specs.Content.{GroupContent, entry_at, after_change, reach_of, greater_of}
use Rattle.raft_log_memtables.specs.Entries.{entry_of, placed_in, placed_pairs, or_else}
use Rattle.raft_log_memtables.specs.MemTable.{value_of}

pub on_ok : {A E : Type 0} {P Q : Type 0} (r : Result A E) → OnOk r P → (P → Q) → OnOk r Q
on_ok (Ok x) p f = f p
on_ok (Err e) p f = tt

pub on_ok_both : {A E : Type 0} {P Q R : Type 0} (r : Result A E) → OnOk r P → OnOk r Q → (P → Q → R) → OnOk r R
on_ok_both (Ok x) p q f = f p q
on_ok_both (Err e) p q f = tt

-- a group that is there, by its cells
abbrev pub there_with : (ℕ → Option EntryIndex) → (List ℕ → Option (List ℕ)) → GroupContent EntryIndex
there_with entry value = record { there = true; entry = entry; value = value }

pub same_cells : (e f : ℕ → Option EntryIndex) (v w : List ℕ → Option (List ℕ)) → ((i : ℕ) → e i ≡ f i) → ((k : List ℕ) → v k ≡ w k) → there_with e v ≡ there_with f w
same_cells e f v w h k = λ i. record { there = true; entry = λ index. h index i; value = λ key. k key i }

-- ---- entries

none_else : (o : Option EntryIndex) → or_else o None ≡ o
none_else None = refl
none_else (Some x) = refl

same_first : (handle : FileBlockHandle) (es : List EntryIndex) → first_index (placed_pairs handle es) ≡ first_index (indexed es)
same_first handle [] = refl
same_first handle (e ∷ es) = refl

entries_step : (o mid old new : Option EntryIndex) (b : Bool) → mid ≡ cond b None old → new ≡ cond b (or_else o mid) mid → new ≡ cond b o old
entries_step o mid old new true h k = k ∙ ap (λ (x : Option EntryIndex). or_else o x) h ∙ none_else o
entries_step o mid old new false h k = k ∙ h

pub entries_changed : (handle : FileBlockHandle) (more : List EntryIndex) (first : ℕ) (old mid new : ℕ → Option EntryIndex) (value : List ℕ → Option (List ℕ)) → first ≡ first_index (indexed more)
    → ((i : ℕ) → mid i ≡ cond (nat_le first i) None (old i)) → ((i : ℕ) → new i ≡ cond (nat_le first i) (or_else (entry_at (placed_pairs handle more) i) (mid i)) (mid i))
    → there_with new value ≡ after_change (change_map (placed_in handle) (entries (indexed more))) (there_with old value)
entries_changed handle more first old mid new value e h k =
    same_cells new (λ i. cond (nat_le (first_index (placed_pairs handle more)) i) (entry_at (placed_pairs handle more) i) (old i)) value value
    (λ i. entries_step (entry_at (placed_pairs handle more) i) (mid i) (old i) (new i) (nat_le first i) (h i) (k i)
    ∙ ap (λ (n : ℕ). cond (nat_le n i) (entry_at (placed_pairs handle more) i) (old i)) (e ∙ sym (same_first handle more)))
    (λ q. refl)

pub compact_changed : (limit : ℕ) (old new : ℕ → Option EntryIndex) (value : List ℕ → Option (List ℕ)) → ((i : ℕ) → new i ≡ cond (nat_lt i limit) None (old i)) → there_with new value ≡ after_change (compact limit) (there_with old value)
compact_changed limit old new value h = same_cells new (λ i. cond (nat_lt i limit) None (old i)) value value h (λ q. refl)

-- how far they reach does not rest on where they lie
pub reach_placed : (handle : FileBlockHandle) (es : List EntryIndex) (reach : Option ℕ) → reach_of (placed_pairs handle es) reach ≡ reach_of (indexed es) reach
reach_placed handle [] reach = refl
reach_placed handle (e ∷ es) reach = reach_placed handle es (Some (greater_of reach e.index))

pub apart_number : (a b : ℕ) → nat_eq a b ≡ false → is_eq (nat_cmp a b) ≡ false
apart_number a b h = by_test (nat_lt a b)
  where
    by_test : (l : Bool) → is_eq (cond l Less (cond (nat_eq a b) Equal Greater)) ≡ false
    by_test true = refl
    by_test false = ap (λ (x : Bool). is_eq (cond x Equal Greater)) h

-- one more entry, before those that were added
pub cells_more : (handle : FileBlockHandle) (before after : List EntryIndex) (first : ℕ) (e placed : EntryIndex) (old : ℕ → Option EntryIndex) (m n : BTreeMap ℕ EntryIndex) → before ≡ e ∷ after → first ≤ e.index → placed ≡ placed_in handle e
    → tree.UpdatesBy nat_cmp (nat_cmp e.index) m n (Some placed) → ((i : ℕ) → entry_of m i ≡ cond (nat_le first i) (or_else (entry_at (placed_pairs handle after) i) (old i)) (old i))
    → (i : ℕ) → entry_of n i ≡ cond (nat_le first i) (or_else (entry_at (placed_pairs handle before) i) (old i)) (old i)
cells_more handle before after first e placed old m n d up p u h i = by_index (nat_eq e.index i) refl ∙ sym (ap with_those d)
  where
    with_those : List EntryIndex → Option EntryIndex
    with_those l = cond (nat_le first i) (or_else (entry_at (placed_pairs handle l) i) (old i)) (old i)

    by_index : (b : Bool) → nat_eq e.index i ≡ b → entry_of n i ≡ cond (nat_le first i) (or_else (cond (nat_eq e.index i) (Some (placed_in handle e)) (entry_at (placed_pairs handle after) i)) (old i)) (old i)
    by_index true k =
        let same = eqb-true e.index i k in
        let low : nat_le first i ≡ true = le-leb first i (omega arith) in
        ap (λ (q : ℕ). entry_of n q) (sym same) ∙ u.1 ∙ ap (λ (x : EntryIndex). Some x) p
        ∙ sym (ap (λ (b : Bool). cond b (or_else (cond (nat_eq e.index i) (Some (placed_in handle e)) (entry_at (placed_pairs handle after) i)) (old i)) (old i)) low
        ∙ ap (λ (b : Bool). or_else (cond b (Some (placed_in handle e)) (entry_at (placed_pairs handle after) i)) (old i)) k)
    by_index false k = u.2 i (apart_number e.index i k) ∙ h i ∙ sym (ap (λ (b : Bool). cond (nat_le first i) (or_else (cond b (Some (placed_in handle e)) (entry_at (placed_pairs handle after) i)) (old i)) (old i)) k)

-- ---- keys

abbrev Keys : Type 0
Keys = BTreeMap (Vec ℕ Global) (Vec ℕ Global)

abbrev bytes_of : Vec ℕ Global → List ℕ
bytes_of v = v.items

seen_either : (b : Bool) (x y : Option (Vec ℕ Global)) → option_map bytes_of (cond b x y) ≡ cond b (option_map bytes_of x) (option_map bytes_of y)
seen_either true x y = refl
seen_either false x y = refl

apart : (bs cs ks : List ℕ) → bytes_eq bs cs ≡ false → bytes_eq bs ks ≡ true → bytes_eq cs ks ≡ false
apart bs cs ks n y = nat_list_eq_equiv.symm cs ks ∙ sym (nat_list_eq_equiv.congr bs ks cs y) ∙ n

apart_in_order : (bs cs ks : List ℕ) → bytes_eq bs cs ≡ false → is_eq (slice_cmp nat_cmp bs ks) ≡ true → is_eq (slice_cmp nat_cmp cs ks) ≡ false
apart_in_order bs cs ks n y = is_eq-slice_cmp cs ks ∙ apart bs cs ks n (sym (is_eq-slice_cmp bs ks) ∙ y)

other_entries : {X K : Type 0} (eq : K → K → Bool) (test : K → Bool) (old new : List (K × X)) → KeepsOthers eq test old new → (other : K → Bool) → IsKeyTest eq other → AreApart test other → lookup other new ≡ lookup other old
unfolding KeepsOthers
other_entries eq test old new h = h

bytes_updated : (bs : List ℕ) (m n : Keys) (w : Option (Vec ℕ Global)) → tree.UpdatesBy (λ (x y : Vec ℕ Global). slice_cmp nat_cmp x.items y.items) (λ (k : Vec ℕ Global). slice_cmp nat_cmp bs k.items) m n w
    → (q : List ℕ) → tree.get_by (λ (k : Vec ℕ Global). slice_cmp nat_cmp q k.items) n ≡ cond (bytes_eq bs q) w (tree.get_by (λ (k : Vec ℕ Global). slice_cmp nat_cmp q k.items) m)
bytes_updated bs m n w h q =
    ⊎_elim
    (λ y. subst (λ (l : List ℕ). tree.get_by (λ (k : Vec ℕ Global). slice_cmp nat_cmp l k.items) n ≡ w) ((bytes_decides bs q).0 y) h.1 ∙ sym (cond-true (bytes_eq bs q) w (tree.get_by (λ (k : Vec ℕ Global). slice_cmp nat_cmp q k.items) m) y))
    (λ e. other_entries _ _ _ _ h.3 _ (λ x y. (eq_by_cmp_equiv nat_list_cmp_total).congr q x.items y.items) (λ k. apart_in_order bs q k.items e) ∙ sym (cond-false (bytes_eq bs q) w (tree.get_by (λ (k : Vec ℕ Global). slice_cmp nat_cmp q k.items) m) e))
    (cases_Bool (bytes_eq bs q))

-- a map of keys after a change of one of them
pub value_updated : (m n : Keys) (bs : List ℕ) (w : Option (Vec ℕ Global)) → tree.UpdatesBy (λ (x y : Vec ℕ Global). slice_cmp nat_cmp x.items y.items) (λ (k : Vec ℕ Global). slice_cmp nat_cmp bs k.items) m n w
    → (q : List ℕ) → value_of n q ≡ cond (bytes_eq bs q) (option_map bytes_of w) (value_of m q)
value_updated m n bs w h q = ap (λ (o : Option (Vec ℕ Global)). option_map bytes_of o) (bytes_updated bs m n w h q) ∙ seen_either (bytes_eq bs q) w (tree.get_by (λ (k : Vec ℕ Global). slice_cmp nat_cmp q k.items) m)

pub put_changed : (entry : ℕ → Option EntryIndex) (m n : Keys) (key value : Vec ℕ Global) → tree.UpdatesBy (λ (x y : Vec ℕ Global). slice_cmp nat_cmp x.items y.items) (λ (k : Vec ℕ Global). slice_cmp nat_cmp key.items k.items) m n (Some value)
    → there_with entry (value_of n) ≡ after_change (put key.items value.items) (there_with entry (value_of m))
put_changed entry m n key value h = same_cells entry entry (value_of n) (λ q. cond (bytes_eq key.items q) (Some value.items) (value_of m q)) (λ i. refl) (value_updated m n key.items (Some value) h)

pub delete_changed : (entry : ℕ → Option EntryIndex) (m n : Keys) (key : List ℕ) → tree.UpdatesBy (λ (x y : Vec ℕ Global). slice_cmp nat_cmp x.items y.items) (λ (k : Vec ℕ Global). slice_cmp nat_cmp key k.items) m n None
    → there_with entry (value_of n) ≡ after_change (delete key) (there_with entry (value_of m))
delete_changed entry m n key h = same_cells entry entry (value_of n) (λ q. cond (bytes_eq key q) None (value_of m q)) (λ i. refl) (value_updated m n key None h)
