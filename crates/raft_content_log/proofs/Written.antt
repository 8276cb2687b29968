-- A batch whose entries' block is kept, and whose items the tables have, is in the content.
use Rattle.std.proofs.Common.{◌≡◌, ◌||◌, ℕ, Bool, true, false, List, [], ◌∷◌, ◌++◌, length, map, Option, Some, Vec, Global, refl, ap, ◌∙◌, sym, append_assoc}
use Rattle.std.specs.Option.{option_map}
use Rattle.std.specs.List.{list_any, slice_get}
use Rattle.raft_log_records.specs.declared.file_id.FileBlockHandle.{FileBlockHandle}
use Rattle.raft_log_records.specs.declared.item.EntryIndex.{EntryIndex}
use Rattle.raft_log_records.specs.declared.record.LogItemBatch.{LogItemBatch}
use Rattle.raft_log_records.specs.Item.{Change, Item, change_map, item_map, items_of, with_bytes, entry_bytes}
use Rattle.raft_log_records.specs.Item.Change.{entries, clean, compact, put, delete, mark}
use Rattle.raft_log_records.specs.Spelling.{block_of, holds_entries, is_entries}
use Rattle.raft_log_memtables.specs.declared.memtables.MemTables.{MemTables}
use Rattle.raft_log_memtables.specs.Content.{Content, after_batch}
use Rattle.raft_log_memtables.specs.ContentLaws.{content_map}
use Rattle.raft_log_memtables.specs.Entries.{placed_in}
use Rattle.raft_log_memtables.specs.MemTable.{batch_items}
use Rattle.raft_log_memtables.specs.MemTables.{content_in}
use Rattle.raft_log_memtables.proofs.Mapped.{batch_mapped}
use Rattle.raft_content_log.specs.Plain.{bytes_of_block, bytes_in, seen_in}

-- ---- items, seen by their places in a new block

module _ (f : EntryIndex → List ℕ) (handle : FileBlockHandle) (block : List ℕ) where
  -- if there are entries, each is read from the block
  abbrev pub ReadsAll : Bool → Type 0
  ReadsAll holds = holds ≡ true → (e : EntryIndex) → f (placed_in handle e) ≡ entry_bytes block e

  run_seen : ReadsAll true → (es : List (ℕ × EntryIndex))
      → map {B = ℕ × List ℕ} (λ e. (e.0, f e.1)) (map {B = ℕ × EntryIndex} (λ e. (e.0, placed_in handle e.1)) es) ≡ map {B = ℕ × List ℕ} (λ e. (e.0, entry_bytes block e.1)) es
  run_seen same [] = refl
  run_seen same (e ∷ es) = λ i. (e.0, same refl e.1 i) ∷ run_seen same es i

  change_seen : (change : Change EntryIndex) → ReadsAll (is_entries change) → change_map f (change_map (placed_in handle) change) ≡ change_map (entry_bytes block) change
  change_seen (entries es) same = ap entries (run_seen same es)
  change_seen clean same = refl
  change_seen (compact limit) same = refl
  change_seen (put key value) same = refl
  change_seen (delete key) same = refl
  change_seen (mark id status) same = refl

  or_true : (a b : Bool) → b ≡ true → (a || b) ≡ true
  or_true true b h = refl
  or_true false b h = h

  pub items_seen : (items : List (Item EntryIndex)) → ReadsAll (list_any holds_entries items) → map (item_map f) (map (item_map (placed_in handle)) items) ≡ with_bytes block items
  items_seen [] same = refl
  items_seen (item ∷ items) same = λ i. record {
    group = item.group;
    change = change_seen item.change (λ h. same (ap (λ (b : Bool). b || list_any holds_entries items) h)) i;
  } ∷ items_seen items (λ h. same (or_true (is_entries item.change) (list_any holds_entries items) h)) i

-- ---- the new block is found behind the others

found_behind : {A : Type 0} (xs : List A) (x : A) (more : List A) → slice_get (xs ++ x ∷ more) (length xs) ≡ Some x
found_behind [] x more = refl
found_behind (y ∷ ys) x more = found_behind ys x more

module _ (blocks : List (Vec ℕ Global)) (block : Vec ℕ Global) (handle : FileBlockHandle) (seq : handle.id.seq ≡ length blocks) (more : List (Vec ℕ Global)) where
  placed_seen : (e : EntryIndex) → bytes_in (blocks ++ block ∷ more) (placed_in handle e) ≡ entry_bytes block.items e
  placed_seen e =
      ap (λ (o : Option (Vec ℕ Global)). entry_bytes (bytes_of_block o) e)
      (ap (slice_get (blocks ++ block ∷ more)) seq ∙ found_behind blocks block more)

-- ---- the content

abbrev Lies : List (Vec ℕ Global) → MemTables → Type 0
Lies blocks tables = (group index : ℕ) (more : List (Vec ℕ Global))
    → option_map (bytes_in (blocks ++ more)) ((content_in tables group).entry index) ≡ option_map (bytes_in blocks) ((content_in tables group).entry index)

content_lies : (blocks more : List (Vec ℕ Global)) (tables : MemTables) → Lies blocks tables → seen_in (blocks ++ more) tables ≡ seen_in blocks tables
content_lies blocks more tables lies = λ i. λ group. record {
  there = (content_in tables group).there;
  entry = λ index. lies group index more i;
  value = (content_in tables group).value;
}

module _ (blocks blocks_new : List (Vec ℕ Global)) (block : Vec ℕ Global) (items held : List (Item (List ℕ))) (drained : LogItemBatch) (handle : FileBlockHandle) (tables tables_new : MemTables)
    (lies : Lies blocks tables) (is_block : block.items ≡ block_of items) (kept : held ≡ items) (is_drained : with_bytes (block_of held) (items_of drained.items.items) ≡ held)
    (seq : handle.id.seq ≡ length blocks) (applied : content_in tables_new ≡ after_batch (batch_items handle drained) (content_in tables)) (pushed : blocks_new ≡ blocks ++ block ∷ []) where
  seen_more : (more : List (Vec ℕ Global)) → seen_in (blocks ++ block ∷ more) tables_new ≡ after_batch items (seen_in blocks tables)
  seen_more more =
      let f : EntryIndex → List ℕ = bytes_in (blocks ++ block ∷ more) in
      ap (content_map f) applied
      ∙ sym (batch_mapped f (batch_items handle drained) (content_in tables))
      ∙ ap (λ (l : List (Item (List ℕ))). after_batch l (content_map f (content_in tables))) (items_seen f handle block.items (items_of drained.items.items) (λ _. placed_seen blocks block handle seq more))
      ∙ ap (λ (l : List ℕ). after_batch (with_bytes l (items_of drained.items.items)) (content_map f (content_in tables))) (is_block ∙ ap block_of (sym kept))
      ∙ ap (λ (l : List (Item (List ℕ))). after_batch l (content_map f (content_in tables))) (is_drained ∙ kept)
      ∙ ap (after_batch items) (content_lies blocks (block ∷ more) tables lies)

  pub seen_now : seen_in blocks_new tables_new ≡ after_batch items (seen_in blocks tables)
  seen_now = ap (λ (l : List (Vec ℕ Global)). seen_in l tables_new) pushed ∙ seen_more []

  pub lies_now : Lies blocks_new tables_new
  lies_now group index more =
      ap (λ (c : Content (List ℕ)). (c group).entry index)
      (ap (λ (l : List (Vec ℕ Global)). seen_in (l ++ more) tables_new) pushed
      ∙ ap (λ (l : List (Vec ℕ Global)). seen_in l tables_new) (append_assoc blocks (block ∷ []) more)
      ∙ seen_more more ∙ sym seen_now)
