-- The tables have the content of the batches, also with one more batch.
use Rattle.std.proofs.Common.{◌≡◌, inr, ℕ, false, List, [], ◌∷◌, ◌++◌, length, map, Option, Some, None, refl, sym, ap, ◌∙◌, append_assoc}
use Rattle.std.specs.List.{list_any}
use Rattle.std.specs.Option.{option_map}
use Rattle.std.proofs.lemmas.Bool.{false≢true}
use Rattle.raft_log_records.specs.declared.block.EntriesBlock.{EntriesBlock}
use Rattle.raft_log_records.specs.declared.file_id.FileBlockHandle.{FileBlockHandle}
use Rattle.raft_log_records.specs.declared.item.EntryIndex.{EntryIndex}
use Rattle.raft_log_records.specs.declared.record.LogItemBatch.{LogItemBatch}
use Rattle.raft_log_records.specs.Item.{Change, Item, change_map, entry_bytes, item_map, items_of, with_bytes, with_lengths}
use Rattle.raft_log_records.specs.Item.Change.{entries, clean, compact, put, delete, mark}
use Rattle.raft_log_records.specs.Spelling.{block_of, holds_entries, holds_mark, lengths}
use Rattle.raft_log_records.proofs.Laid.{any_held}
use Rattle.raft_log_disk.specs.Disk.{Disk}
use Rattle.raft_log_file.specs.Laws.{Batch}
use Rattle.raft_log_pipe.specs.Blocks.{KeepsFiles}
use Rattle.raft_log_pipe.specs.Pipe.{Numbered}
use Rattle.raft_log_pipes.specs.declared.pipes.DualPipes.{DualPipes}
use Rattle.raft_log_memtables.specs.declared.memtables.MemTables.{MemTables}
use Rattle.raft_log_memtables.specs.Content.{Content, after_batch}
use Rattle.raft_log_memtables.specs.ContentLaws.{content_map}
use Rattle.raft_log_memtables.specs.Entries.{placed_in}
use Rattle.raft_log_memtables.specs.MemTable.{batch_items, items_in}
use Rattle.raft_log_memtables.specs.MemTables.{content_in}
use Rattle.raft_log_memtables.proofs.Mapped.{batch_mapped}
use Rattle.raft_content_log.proofs.Written.{ReadsAll, items_seen}
use Rattle.raft_log_blocks.specs.Held.{AreMeasured, IsHeld, IsTabled, ReadsEntries, content_of_batches}
use Rattle.raft_log_blocks.specs.Placed.{bytes_on}
use Rattle.raft_log_blocks.proofs.HeldLemmas.{either_lies, held_answered, more_lies}
use Rattle.raft_log_engine.proofs.Batches.{one_more_batch}
use Rattle.raft_log_blocks.proofs.NewEntries.{IsPut, new_lies}

-- ---- the lengths of entries in a block

pub put_lengths : (h : FileBlockHandle) (items : List (Item EntryIndex)) → map (item_map (λ e. e.entry_len)) (items_in h items) ≡ with_lengths items
put_lengths h [] = refl
put_lengths h (item ∷ items) = λ i. record { group = item.group; change = change_put item.change i } ∷ put_lengths h items i
  where
    run_put : (es : List (ℕ × EntryIndex)) → map {A = ℕ × EntryIndex} {B = ℕ × ℕ} (λ e. (e.0, e.1.entry_len)) (map {A = ℕ × EntryIndex} {B = ℕ × EntryIndex} (λ e. (e.0, placed_in h e.1)) es) ≡ map {A = ℕ × EntryIndex} {B = ℕ × ℕ} (λ e. (e.0, e.1.entry_len)) es
    run_put [] = refl
    run_put (e ∷ es) = λ i. (e.0, e.1.entry_len) ∷ run_put es i

    change_put : (c : Change EntryIndex) → change_map (λ e. e.entry_len) (change_map (placed_in h) c) ≡ change_map (λ e. e.entry_len) c
    change_put (entries es) = ap entries (run_put es)
    change_put clean = refl
    change_put (compact index) = refl
    change_put (put key value) = refl
    change_put (delete key) = refl
    change_put (mark id status) = refl

-- ---- one more batch

put_reads : (q : DualPipes) (r bs : Numbered) (seq : ℕ) (items : Batch) (h place : FileBlockHandle) (block : Option EntriesBlock) → IsPut q.append bs items h block place → seq ≡ h.id.seq
    → (read : EntryIndex → List ℕ) → ReadsEntries q r (bs ++ (seq, items) ∷ []) read → ReadsAll read place (block_of items) (list_any holds_entries items)
put_reads q r bs seq items h place (Some b) here number read reads holds e = reads (placed_in place e) (entry_bytes (block_of items) e) (inr (new_lies q.append bs seq items h place b here.at number (here.is b refl) here.stands e))
put_reads q r bs seq items h place None here number read reads holds e = absurd (false≢true (sym (here.stands None) ∙ holds))

-- with one more batch behind all
pub more_content : (r bs : Numbered) (seq : ℕ) (items : Batch) → list_any holds_mark items ≡ false → content_of_batches (r ++ (bs ++ (seq, items) ∷ [])) ≡ after_batch items (content_of_batches (r ++ bs))
more_content r bs seq items plain = ap content_of_batches (sym (append_assoc r bs ((seq, items) ∷ []))) ∙ one_more_batch (r ++ bs) seq items plain

pub more_tabled : (p q : DualPipes) (r bs : Numbered) (seq : ℕ) (items : Batch) (h place : FileBlockHandle) (block : Option EntriesBlock) (drained : LogItemBatch) (old new : MemTables) → KeepsFiles p.append q.append → q.rewrite ≡ p.rewrite
    → IsPut q.append bs items h block place → seq ≡ h.id.seq → with_bytes (block_of items) (items_of drained.items.items) ≡ items → with_lengths (items_of drained.items.items) ≡ lengths items → content_in new ≡ after_batch (batch_items place drained) (content_in old) → list_any holds_mark items ≡ false
    → IsTabled p r bs old → IsTabled q r (bs ++ (seq, items) ∷ []) new
more_tabled p q r bs seq items h place block drained old new keeps same here number is lens applied plain tabled =
    let some : list_any holds_entries (items_of drained.items.items) ≡ list_any holds_entries items = sym (any_held (entry_bytes (block_of items)) (items_of drained.items.items)) ∙ ap (list_any holds_entries) is in
    record {
      content = λ read reads.
          ap (content_map read) applied
          ∙ sym (batch_mapped read (batch_items place drained) (content_in old))
          ∙ ap (λ (l : Batch). after_batch l (content_map read (content_in old)))
          (items_seen read place (block_of items) (items_of drained.items.items) (λ held. put_reads q r bs seq items h place block here number read reads (sym some ∙ held)) ∙ is)
          ∙ ap (after_batch items)
          (tabled.content read (either_lies p q r bs (bs ++ (seq, items) ∷ []) same (more_lies p.append q.append bs seq items keeps (q.appends ∙ sym p.appends)) read reads))
          ∙ sym (more_content r bs seq items plain);
      lengths =
          ap (content_map (λ e. e.entry_len)) applied
          ∙ sym (batch_mapped (λ e. e.entry_len) (batch_items place drained) (content_in old))
          ∙ ap (λ (l : List (Item ℕ)). after_batch l (content_map (λ e. e.entry_len) (content_in old))) (put_lengths place (items_of drained.items.items) ∙ lens)
          ∙ ap (after_batch (lengths items)) tabled.lengths
          ∙ batch_mapped length items (content_of_batches (r ++ bs))
          ∙ ap (content_map length) (sym (more_content r bs seq items plain));
    }

-- ---- lengths of entries

one_length : (o : Option EntryIndex) (c : Option (List ℕ)) (e : EntryIndex) (bytes : EntryIndex → List ℕ) → option_map (λ x. x.entry_len) o ≡ option_map length c → option_map bytes o ≡ c → o ≡ Some e → length (bytes e) ≡ e.entry_len
one_length o c e bytes lens are is =
    let both : Some (e.entry_len) ≡ Some (length (bytes e)) =
    ap (option_map (λ (x : EntryIndex). x.entry_len)) (sym is) ∙ lens ∙ ap (option_map length) (sym are) ∙ ap (λ (x : Option EntryIndex). option_map length (option_map bytes x)) is in
    cc

pub measured : (d : Disk) (p : DualPipes) (tables : MemTables) (r s u : Numbered) → IsHeld d p tables r s u → AreMeasured d p tables
measured d p tables r s u held group index e is =
    let c : Content (List ℕ) = content_of_batches (r ++ (s ++ u)) in
    one_length ((content_in tables group).entry index) ((c group).entry index) e (bytes_on d p) (λ i. (held.tabled.lengths i group).entry index) (λ i. (held_answered d p tables r s u held i group).entry index) is
