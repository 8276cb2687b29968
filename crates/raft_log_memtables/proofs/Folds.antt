-- Folds of items and of records.
use Rattle.std.proofs.Common.{◌≡◌, ℕ, Bool, cond, List, [], ◌∷◌, ◌++◌, length, map, Option, Some, None, refl, sym, ap, ◌∙◌, arith, append_assoc, append-nil}
use Rattle.std.proofs.lemmas.Bool.{eq-eqb}
use Rattle.raft_log_records.specs.declared.item.AtomicGroupStatus.TheVariants.{Begin, Middle, End}
use Rattle.raft_log_records.specs.declared.item.AtomicGroupStatus.{AtomicGroupStatus}
use Rattle.raft_log_records.specs.declared.item.EntryIndex.{EntryIndex}
use Rattle.raft_log_records.specs.Item.{Change, Item, change_map, item_map}
use Rattle.raft_log_records.specs.Item.Change.{entries, clean, compact, put, delete, mark}
use Rattle.raft_log_records.specs.declared.file_id.FileBlockHandle.{FileBlockHandle}
use Rattle.raft_log_memtables.specs.Content.{Content, nothing, after_batch, after_item, reach_after_batch, reach_after_item}
use Rattle.raft_log_memtables.specs.Entries.{placed_in}
use Rattle.raft_log_memtables.specs.MemTable.{items_in}
use Rattle.raft_log_memtables.specs.Replay.{Replay, mark_in, mark_of, after_end, after_marked, after_record, after_records, content_of}
use Rattle.raft_log_memtables.specs.Laws.{AreMiddles, all_of, CountsWhole, CountsNothing}

pub nothing_left : {X : Type 0} (l : List X) → length l ≡ 0 → l ≡ []
nothing_left [] h = refl
nothing_left (x ∷ xs) h = absurd (omega arith)

pub after_batch-append : {E : Type 0} (items more : List (Item E)) (content : Content E) → after_batch (items ++ more) content ≡ after_batch more (after_batch items content)
after_batch-append [] more content = refl
after_batch-append (item ∷ items) more content = after_batch-append items more (after_item item content)

pub reach_after_batch-append : {E : Type 0} (items more : List (Item E)) (reach : ℕ → Option ℕ) → reach_after_batch (items ++ more) reach ≡ reach_after_batch more (reach_after_batch items reach)
reach_after_batch-append [] more reach = refl
reach_after_batch-append (item ∷ items) more reach = reach_after_batch-append items more (reach_after_item item reach)

mark_in_kept : {E F : Type 0} (f : E → F) (c : Change E) (o : Option (ℕ × AtomicGroupStatus)) → mark_in (change_map f c) o ≡ mark_in c o
mark_in_kept f (entries es) o = refl
mark_in_kept f clean o = refl
mark_in_kept f (compact limit) o = refl
mark_in_kept f (put key value) o = refl
mark_in_kept f (delete key) o = refl
mark_in_kept f (mark id status) o = refl

-- how entries are seen says nothing of marks
pub marks_mapped : {E F : Type 0} (f : E → F) (items : List (Item E)) → mark_of (map (item_map f) items) ≡ mark_of items
marks_mapped f [] = refl
marks_mapped f (item ∷ items) = mark_in_kept f item.change (mark_of (map (item_map f) items)) ∙ ap (mark_in item.change) (marks_mapped f items)

-- a record is replayed by its mark
pub marked : {S : Type 0} (step : List (Item EntryIndex) → S → S) (handle : FileBlockHandle) (items : List (Item EntryIndex)) (m : Option (ℕ × AtomicGroupStatus)) (r : Replay EntryIndex S) → mark_of items ≡ m
    → after_marked step (items_in handle items) m r ≡ after_record step (items_in handle items) r
marked step handle items m r e = ap (λ (x : Option (ℕ × AtomicGroupStatus)). after_marked step (items_in handle items) x r) (sym e ∙ sym (marks_mapped (placed_in handle) items))

-- ---- atomic groups over whole lists of records

module _ {E S : Type 0} (step : List (Item E) → S → S) where
  records_append : (records more : List (List (Item E))) (r : Replay E S) → after_records step (records ++ more) r ≡ after_records step more (after_records step records r)
  records_append [] more r = refl
  records_append (items ∷ records) more r = records_append records more (after_record step items r)

  begun_first : (items : List (Item E)) (id : ℕ) (r : Replay E S) → mark_of items ≡ Some (id, Begin) → after_record step items r ≡ record { state = r.state; begun = Some (id, items) }
  begun_first items id r m = ap (λ (x : Option (ℕ × AtomicGroupStatus)). after_marked step items x r) m

  begun_middle : (items before : List (Item E)) (id : ℕ) (s : S) → mark_of items ≡ Some (id, Middle)
      → after_record step items (record { state = s; begun = Some (id, before) }) ≡ record { state = s; begun = Some (id, before ++ items) }
  begun_middle items before id s m =
      ap (λ (x : Option (ℕ × AtomicGroupStatus)). after_marked step items x (record { state = s; begun = Some (id, before) })) m
      ∙ ap (λ (b : Bool). record { state = s; begun = cond b (Some (id, before ++ items)) (Some (id, before)) }) (eq-eqb id id refl)

  ended : (items before : List (Item E)) (id : ℕ) (s : S) → mark_of items ≡ Some (id, End)
      → after_record step items (record { state = s; begun = Some (id, before) }) ≡ record { state = step (before ++ items) s; begun = None }
  ended items before id s m =
      ap (λ (x : Option (ℕ × AtomicGroupStatus)). after_marked step items x (record { state = s; begun = Some (id, before) })) m
      ∙ ap (λ (b : Bool). after_end step items (record { state = s; begun = Some (id, before) }) (cond b (Some before) None)) (eq-eqb id id refl)

  middles_kept : (records : List (List (Item E))) (before : List (Item E)) (id : ℕ) (s : S) → AreMiddles id records
      → after_records step records (record { state = s; begun = Some (id, before) }) ≡ record { state = s; begun = Some (id, before ++ all_of records) }
  middles_kept [] before id s m = ap (λ (l : List (Item E)). record { state = s; begun = Some (id, l) }) (sym (append-nil before))
  middles_kept (items ∷ records) before id s m =
      ap (λ (r : Replay E S). after_records step records r) (begun_middle items before id s m.0)
      ∙ middles_kept records (before ++ items) id s m.1
      ∙ ap (λ (l : List (Item E)). record { state = s; begun = Some (id, l) }) (regrouped before items (all_of records))
    where
      regrouped : (a b c : List (Item E)) → (a ++ b) ++ c ≡ a ++ (b ++ c)
      regrouped a b c = rw append_assoc

  open_group : (records middles : List (List (Item E))) (first : List (Item E)) (id : ℕ) (r : Replay E S) → mark_of first ≡ Some (id, Begin) → AreMiddles id middles
      → after_records step (records ++ first ∷ middles) r ≡ record { state = (after_records step records r).state; begun = Some (id, first ++ all_of middles) }
  open_group records middles first id r b m =
      records_append records (first ∷ middles) r
      ∙ ap (λ (x : Replay E S). after_records step middles x) (begun_first first id (after_records step records r) b)
      ∙ middles_kept middles first id (after_records step records r).state m

pub counts_nothing : {E : Type 0} → CountsNothing E
counts_nothing records middles first id b m = ap (λ (r : Replay _ _). r.state) (open_group after_batch records middles first id (record { state = nothing; begun = None }) b m)

pub counts_whole : {E : Type 0} → CountsWhole E
counts_whole {E} records middles first last id b m e =
    let start : Replay E (Content E) = record { state = nothing; begun = None } in
    let whole : records ++ first ∷ (middles ++ last ∷ []) ≡ (records ++ first ∷ middles) ++ last ∷ [] = rw append_assoc in
    let grouped : (first ++ all_of middles) ++ last ≡ first ++ (all_of middles ++ last) = rw append_assoc in
    let all =
    ap (λ (l : List (List (Item E))). after_records after_batch l start) whole
    ∙ records_append after_batch (records ++ first ∷ middles) (last ∷ []) start
    ∙ ap (λ (r : Replay E (Content E)). after_record after_batch last r) (open_group after_batch records middles first id start b m)
    ∙ ended after_batch last (first ++ all_of middles) id (after_records after_batch records start).state e in
    ap (λ (r : Replay E (Content E)). r.state) all ∙ ap (λ (l : List (Item E)). after_batch l (content_of records)) grouped
