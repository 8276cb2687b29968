-- What keeps a cleaning going: a batch that is written to the rewrite queue, and a sync of it.
use Rattle.std.proofs.Common.{◌≡◌, ◌⊎◌, inl, inr, ℕ, zero, suc, true, false, List, [], ◌∷◌, ◌++◌, length, take, Option, Some, None, refl, sym, ap, subst, ◌∙◌, append_assoc}
use Rattle.std.specs.Prelude.{IsSome}
use Rattle.std.specs.List.{list_any}
use Rattle.std.specs.Option.{option_map}
use Rattle.std.proofs.lemmas.Bool.{false≢true}
use Rattle.std.proofs.lemmas.List.{append-nil, map-append}
use Rattle.raft_log_records.specs.declared.block.EntriesBlock.{EntriesBlock}
use Rattle.raft_log_records.specs.declared.file_id.FileBlockHandle.{FileBlockHandle}
use Rattle.raft_log_records.specs.declared.file_id.FileId.{FileId}
use Rattle.raft_log_records.specs.declared.item.EntryIndex.{EntryIndex}
use Rattle.raft_log_records.specs.declared.record.LogItemBatch.{LogItemBatch}
use Rattle.raft_log_records.specs.Block.{StandsIn}
use Rattle.raft_log_records.specs.Item.{Item, entry_bytes, items_of, with_bytes, with_lengths}
use Rattle.raft_log_records.specs.Spelling.{block_of, holds_entries, lengths, spell_record}
use Rattle.raft_log_disk.specs.Disk.{Disk}
use Rattle.raft_log_file.specs.Laws.{Batch}
use Rattle.raft_log_pipe.specs.declared.pipe.SinglePipe.{SinglePipe}
use Rattle.raft_log_pipe.specs.Appending.{Appends, LeavesAppended, Stands}
use Rattle.raft_log_pipe.specs.Blocks.{KeepsFiles}
use Rattle.raft_log_pipe.specs.Pipe.{Holds, IsPipe, Leaves, Numbered, first_of}
use Rattle.raft_log_pipe.proofs.BlockLemmas.{same_files}
use Rattle.raft_log_pipe.proofs.PipeLemmas.{holds_leaves}
use Rattle.raft_log_pipes.specs.declared.pipes.DualPipes.{DualPipes}
use Rattle.raft_log_pipes.specs.Pipes.{ArePipes, IsAsBefore}
use Rattle.raft_log_memtables.specs.Content.{Content}
use Rattle.raft_log_memtables.specs.ContentLaws.{content_map}
use Rattle.raft_log_memtables.specs.Entries.{placed_in}
use Rattle.raft_log_memtables.specs.MemTables.{content_in}
use Rattle.raft_log_memtables.specs.Replay.{content_of}
use Rattle.raft_log_covers.specs.Kept.{Traces}
use Rattle.raft_log_covers.specs.Queues.{batches_of}
use Rattle.raft_log_traces.specs.GroupTraces.{traces_in}
use Rattle.raft_log_marks.specs.Standing.{CanBeCleaned}
use Rattle.raft_log_marks.proofs.StandingLemmas.{cleaned_queues_read_as_the_content}
use Rattle.raft_log_purge.specs.Anew.{StandTogether}
use Rattle.raft_log_purge.proofs.StepLemmas.{has_no_mark, no_steps, steps_leave_cleanable}
use Rattle.raft_log_purge.proofs.ToldLemmas.{plain_comes}
use Rattle.raft_log_blocks.specs.Held.{IsPlace, IsTabled, LiesIn, ReadsEntries, content_of_batches}
use Rattle.raft_log_blocks.proofs.HeldLemmas.{more_lies, same_lies}
use Rattle.raft_log_blocks.proofs.NewEntries.{IsPut, new_lies}
use Rattle.raft_log_traced.specs.declared.traced.TracedTables.{TracedTables}
use Rattle.raft_log_traced.specs.Places.{items_moved}
use Rattle.raft_log_cleaner.specs.Cleaning.{FrontsRead, IsCleaning, IsSynced, LeavesContent, filed, records_of}
use Rattle.raft_log_marks.specs.Opened.{TellPlaces}
use Rattle.raft_log_traced.specs.Traced.{lies_in}
use Rattle.raft_log_cleaner.proofs.Moved.{content_stays, places_told, still_there}
use Rattle.raft_log_cleaner.specs.Written.{written_at}
use Rattle.raft_log_cleaner.proofs.Written.{Rewrites, some_held, steps_rewrite, written_mapped}

-- ---- both queues as they read

batches_filed : (bs : Numbered) → batches_of (filed bs) ≡ records_of bs
batches_filed [] = refl
batches_filed (b ∷ bs) = ap (λ (l : List Batch). b.1 ∷ l) (batches_filed bs)

pub reads_as : (first : ℕ) (traces : Traces) (rewrites appends : Numbered) (content : Content (List ℕ)) → CanBeCleaned first traces (records_of rewrites) content (filed appends)
    → content_of_batches (rewrites ++ appends) ≡ content
reads_as first traces rewrites appends content can =
    ap content_of (map-append (λ b. b.1) rewrites appends ∙ ap (λ (l : List Batch). records_of rewrites ++ l) (sym (batches_filed appends)))
    ∙ cleaned_queues_read_as_the_content first traces (records_of rewrites) content (filed appends) can

pub records_more : (rewrites : Numbered) (seq : ℕ) (items : Batch) → records_of rewrites ++ items ∷ [] ≡ records_of (rewrites ++ (seq, items) ∷ [])
records_more rewrites seq items = sym (map-append (λ b. b.1) rewrites ((seq, items) ∷ []))

-- ---- fronts

abbrev no_batches : Numbered
no_batches = []

take_none : (n : ℕ) → take n no_batches ≡ no_batches
take_none zero = refl
take_none (suc n) = refl

pub take_all : {A : Type 0} (l : List A) → take (length l) l ≡ l
take_all [] = refl
take_all {A} (x ∷ l) = ap (λ (m : List A). x ∷ m) (take_all l)

-- a front of one more is one of before, or all
front_or_all : (fresh : Numbered) (x : ℕ × Batch) (n : ℕ) → (take n (fresh ++ x ∷ []) ≡ take n fresh) ⊎ (take n (fresh ++ x ∷ []) ≡ fresh ++ x ∷ [])
front_or_all fresh x zero = inl refl
front_or_all [] x (suc n) = inr (ap (λ (l : Numbered). x ∷ l) (take_none n))
front_or_all (y ∷ fresh) x (suc n) = by_rest (front_or_all fresh x n)
  where
    by_rest : (take n (fresh ++ x ∷ []) ≡ take n fresh) ⊎ (take n (fresh ++ x ∷ []) ≡ fresh ++ x ∷ [])
        → (y ∷ take n (fresh ++ x ∷ []) ≡ y ∷ take n fresh) ⊎ (y ∷ take n (fresh ++ x ∷ []) ≡ y ∷ (fresh ++ x ∷ []))
    by_rest (inl same) = inl (ap (λ (l : Numbered). y ∷ l) same)
    by_rest (inr all) = inr (ap (λ (l : Numbered). y ∷ l) all)

pub fronts_more : (content : Content (List ℕ)) (rewrites fresh appends : Numbered) (x : ℕ × Batch) → FrontsRead content rewrites fresh appends → content_of_batches ((rewrites ++ (fresh ++ x ∷ [])) ++ appends) ≡ content
    → FrontsRead content rewrites (fresh ++ x ∷ []) appends
fronts_more content rewrites fresh appends x fronts all n = by_front (front_or_all fresh x n)
  where
    by_front : (take n (fresh ++ x ∷ []) ≡ take n fresh) ⊎ (take n (fresh ++ x ∷ []) ≡ fresh ++ x ∷ []) → content_of_batches ((rewrites ++ take n (fresh ++ x ∷ [])) ++ appends) ≡ content
    by_front (inl same) = ap (λ (l : Numbered). content_of_batches ((rewrites ++ l) ++ appends)) same ∙ fronts n
    by_front (inr whole) = ap (λ (l : Numbered). content_of_batches ((rewrites ++ l) ++ appends)) whole ∙ all

pub fronts_all : (content : Content (List ℕ)) (rewrites fresh appends : Numbered) → FrontsRead content rewrites fresh appends → content_of_batches ((rewrites ++ fresh) ++ appends) ≡ content
fronts_all content rewrites fresh appends fronts = ap (λ (l : Numbered). content_of_batches ((rewrites ++ l) ++ appends)) (sym (take_all fresh)) ∙ fronts (length fresh)

-- all are on the disk
pub fronts_synced : (content : Content (List ℕ)) (rewrites appends : Numbered) → content_of_batches (rewrites ++ appends) ≡ content → FrontsRead content rewrites [] appends
fronts_synced content rewrites appends all n =
    ap (λ (l : Numbered). content_of_batches (l ++ appends)) (ap (λ (l : Numbered). rewrites ++ l) (take_none n) ∙ append-nil rewrites) ∙ all

-- ---- what a crash leaves

pub pipe_leaves : (p : SinglePipe) (d : Disk) (s u : Numbered) → Holds p d s u → Leaves p d s u
pipe_leaves p d s u holds = holds_leaves p.queue p.older.items p.active p.writer.offset d s u holds

pub still_leaves : (d : Disk) (p : DualPipes) (log : TracedTables) (items : Batch) (content : Content (List ℕ)) → IsCleaning d p log items content → LeavesContent d p content
still_leaves d p log items content s = record {
  rewrites = s.rewrites;
  fresh = s.fresh;
  appends = s.appends;
  rewrite = pipe_leaves p.rewrite d s.rewrites s.fresh s.rewrite;
  append = pipe_leaves p.append d s.appends [] s.append;
  fronts = s.fronts;
}

-- ---- what the tables have

some_of : {A B : Type 0} (f : A → B) (o : Option A) → IsSome o → IsSome (option_map f o)
some_of f None some = some
some_of f (Some x) some = refl

some_from : {A B : Type 0} (f : A → B) (o : Option A) → IsSome (option_map f o) → IsSome o
some_from f None some = some
some_from f (Some x) some = refl

-- the lengths of the content's entries
pub measured : (d : Disk) (p : DualPipes) (log : TracedTables) (items : Batch) (content : Content (List ℕ)) → IsCleaning d p log items content
    → content_map (λ e. e.entry_len) (content_in log.tables) ≡ content_map length content
measured d p log items content s = s.tabled.lengths ∙ ap (content_map length) (fronts_all content s.rewrites s.fresh s.appends s.fronts)

pub content_has : (d : Disk) (p : DualPipes) (log : TracedTables) (items : Batch) (content : Content (List ℕ)) → IsCleaning d p log items content
    → (group i : ℕ) → IsSome ((content_in log.tables group).entry i) → IsSome ((content group).entry i)
content_has d p log items content s group i some =
    let same : option_map (λ (e : EntryIndex). e.entry_len) ((content_in log.tables group).entry i) ≡ option_map length ((content group).entry i) =
    (λ j. (measured d p log items content s j group).entry i) in
    some_from length ((content group).entry i) (subst (λ (o : Option ℕ). IsSome o) same (some_of (λ (e : EntryIndex). e.entry_len) ((content_in log.tables group).entry i) some))

-- ---- a batch is written

-- the batch stands behind the others of the rewrite queue, and the entries of its items lie in its block
pub record IsWritten (d : Disk) (p : DualPipes) (log : TracedTables) (items : Batch) (e : Disk) (q : DualPipes) (new : TracedTables) : Type 0 where
  pub handle : FileBlockHandle
  pub place : FileBlockHandle
  pub block : Option EntriesBlock
  pub drained : LogItemBatch
  pub pipes : ArePipes q e
  pub other : IsAsBefore p.append d q.append e
  pub files : KeepsFiles p.rewrite q.rewrite
  pub appended : Appends p.rewrite d q.rewrite e handle.id.seq items
  pub at : Stands p.rewrite d q.rewrite items handle
  pub stands : (signature : Option ℕ) → StandsIn (spell_record signature items) items (block_of items) block
  pub is : (b : EntriesBlock) → block ≡ Some b → IsPlace handle b place
  pub id : place.id ≡ handle.id
  pub bytes : with_bytes (block_of items) (items_of drained.items.items) ≡ items
  pub lens : with_lengths (items_of drained.items.items) ≡ lengths items
  pub moved : content_in new.tables ≡ items_moved place drained.items.items (content_in log.tables)
  pub traces : new.traces ≡ log.traces
  pub parted : new.is_parted ≡ log.is_parted

-- the entries of the rewrite queue's batches lie where they lay, and the append queue is as it was
pub old_reads : (p q : DualPipes) (rewrites appends : Numbered) (seq : ℕ) (items : Batch) → KeepsFiles p.rewrite q.rewrite → q.append ≡ p.append → (read : EntryIndex → List ℕ)
    → ReadsEntries q (rewrites ++ (seq, items) ∷ []) appends read → ReadsEntries p rewrites appends read
old_reads p q rewrites appends seq items keeps same read reads e bytes (inl lies) =
    reads e bytes (inl (more_lies p.rewrite q.rewrite rewrites seq items keeps (q.rewrites ∙ sym p.rewrites) e bytes lies))
old_reads p q rewrites appends seq items keeps same read reads e bytes (inr lies) =
    reads e bytes (inr (subst (λ (x : SinglePipe). LiesIn x appends e bytes) (sym same) lies))

pub new_reads : (q : DualPipes) (rewrites appends : Numbered) (seq : ℕ) (items : Batch) (h place : FileBlockHandle) (block : Option EntriesBlock) → IsPut q.rewrite rewrites items h block place → seq ≡ h.id.seq
    → (read : EntryIndex → List ℕ) → ReadsEntries q (rewrites ++ (seq, items) ∷ []) appends read → list_any holds_entries items ≡ true → (e : EntryIndex) → read (placed_in place e) ≡ entry_bytes (block_of items) e
new_reads q rewrites appends seq items h place (Some b) put number read reads some e =
    reads (placed_in place e) (entry_bytes (block_of items) e) (inl (new_lies q.rewrite rewrites seq items h place b put.at number (put.is b refl) put.stands e))
new_reads q rewrites appends seq items h place None put number read reads some e = absurd (false≢true (sym (put.stands None) ∙ some))

pub same_by : {A : Type 0} (f : EntryIndex → A) (g : EntryIndex → A) (o : Option EntryIndex) (c : Option A) (old x : EntryIndex) → option_map f o ≡ c → o ≡ Some old → c ≡ Some (g x) → g x ≡ f old
same_by {A} f g o c old x seen is has = let both : Some (f old) ≡ Some (g x) = ap (option_map f) (sym is) ∙ seen ∙ has in cc

module _ (d e : Disk) (p q : DualPipes) (log new : TracedTables) (items : Batch) (content : Content (List ℕ)) (s : IsCleaning d p log items content) where
  abbrev all : Numbered
  all = s.rewrites ++ s.fresh

  abbrev tables_content : Content EntryIndex
  tables_content = content_in log.tables

  says : Rewrites content s.before (traces_in log.traces) items
  says = subst (λ (l : Batch). Rewrites content s.before (traces_in log.traces) l) (sym s.steps.1) (steps_rewrite content s.before (traces_in log.traces) s.steps.0 s.steps.2)

  -- with one more batch the queues can be cleaned, and read as before
  can_more : (seq : ℕ) → CanBeCleaned (first_of p.append) (traces_in log.traces) (records_of (all ++ (seq, items) ∷ [])) content (filed s.appends)
  can_more seq =
      subst (λ (l : List Batch). CanBeCleaned (first_of p.append) (traces_in log.traces) l content (filed s.appends)) (records_more all seq items)
      (steps_leave_cleanable (first_of p.append) s.before (traces_in log.traces) (records_of all) items content (filed s.appends) s.cleanable s.steps)

  reads_more : (seq : ℕ) → content_of_batches ((all ++ (seq, items) ∷ []) ++ s.appends) ≡ content
  reads_more seq = reads_as (first_of p.append) (traces_in log.traces) (all ++ (seq, items) ∷ []) s.appends content (can_more seq)

  -- a write that was refused leaves the batch or not
  pub refused : LeavesAppended q.rewrite e s.rewrites s.fresh items → IsAsBefore p.append d q.append e → LeavesContent e q content
  refused left other = record {
    rewrites = s.rewrites;
    fresh = s.fresh ++ (left.0, items) ∷ [];
    appends = s.appends;
    rewrite = left.1;
    append = pipe_leaves q.append e s.appends [] (other.holds s.appends [] s.append);
    fronts = fronts_more content s.rewrites s.fresh s.appends (left.0, items) s.fronts
        (ap (λ (l : Numbered). content_of_batches (l ++ s.appends)) (sym (append_assoc s.rewrites s.fresh ((left.0, items) ∷ []))) ∙ reads_more left.0);
  }

  module _ (w : IsWritten d p log items e q new) where
    abbrev more : Numbered
    more = all ++ (w.handle.id.seq, items) ∷ []

    abbrev drained_items : List (Item EntryIndex)
    drained_items = items_of w.drained.items.items

    put : IsPut q.rewrite all items w.handle w.block w.place
    put = record { at = w.at s.rewrites s.fresh s.rewrite; stands = w.stands; is = w.is }

    written_bytes : (group i : ℕ) → written_at items group i ≡ option_map (entry_bytes (block_of items)) (written_at drained_items group i)
    written_bytes group i = ap (λ (l : Batch). written_at l group i) (sym w.bytes) ∙ written_mapped (entry_bytes (block_of items)) drained_items group i

    -- an entry of the batch is that of the content
    written_is : (group i : ℕ) (x : EntryIndex) → written_at drained_items group i ≡ Some x → (content group).entry i ≡ Some (entry_bytes (block_of items) x)
    written_is group i x is = says.bytes group i (entry_bytes (block_of items) x) (written_bytes group i ∙ ap (option_map (entry_bytes (block_of items))) is)

    written_some : (group i : ℕ) (x : EntryIndex) → written_at drained_items group i ≡ Some x → list_any holds_entries items ≡ true
    written_some group i x is = some_held items group i (entry_bytes (block_of items) x) (written_bytes group i ∙ ap (option_map (entry_bytes (block_of items))) is)

    written_len : (group i : ℕ) (x : EntryIndex) → written_at drained_items group i ≡ Some x → option_map length ((content group).entry i) ≡ Some x.entry_len
    written_len group i x is =
        ap (option_map length) (written_is group i x is)
        ∙ sym (ap (option_map length) (written_bytes group i ∙ ap (option_map (entry_bytes (block_of items))) is))
        ∙ sym (written_mapped length items group i)
        ∙ ap (λ (l : List (Item ℕ)). written_at l group i) (sym w.lens)
        ∙ written_mapped (λ (x : EntryIndex). x.entry_len) drained_items group i
        ∙ ap (option_map (λ (x : EntryIndex). x.entry_len)) is

    new_tabled : IsTabled q more s.appends new.tables
    new_tabled = record {
      content = λ read reads.
          let old : content_map read tables_content ≡ content = s.tabled.content read (old_reads p q all s.appends w.handle.id.seq items w.files w.other.same read reads) ∙ fronts_all content s.rewrites s.fresh s.appends s.fronts in
          ap (content_map read) w.moved
          ∙ content_stays read w.place w.drained.items.items tables_content
          (λ group i o x there is.
          new_reads q all s.appends w.handle.id.seq items w.handle w.place w.block put refl read reads (written_some group i x is) x
          ∙ same_by read (entry_bytes (block_of items)) ((tables_content group).entry i) ((content group).entry i) o x (λ j. (old j group).entry i) there (written_is group i x is))
          ∙ old
          ∙ sym (reads_more w.handle.id.seq);
      lengths =
          ap (content_map (λ e. e.entry_len)) w.moved
          ∙ content_stays (λ e. e.entry_len) w.place w.drained.items.items tables_content
          (λ group i o x there is.
          same_by (λ (x : EntryIndex). x.entry_len) (λ (x : EntryIndex). x.entry_len) ((tables_content group).entry i) (option_map length ((content group).entry i)) o x (λ j. (measured d p log items content s j group).entry i) there (written_len group i x is))
          ∙ measured d p log items content s
          ∙ ap (content_map length) (sym (reads_more w.handle.id.seq));
    }

    new_placed : TellPlaces lies_in (traces_in new.traces) (content_in new.tables)
    new_placed =
        subst (λ (c : Content EntryIndex). TellPlaces lies_in (traces_in new.traces) c) (sym w.moved)
        (subst (λ t. TellPlaces lies_in (traces_in t) (items_moved w.place w.drained.items.items tables_content)) (sym w.traces) told)
      where
        told : TellPlaces lies_in (traces_in log.traces) (items_moved w.place w.drained.items.items tables_content)
        told group i some =
            let there : IsSome ((tables_content group).entry i) = still_there w.place w.drained.items.items tables_content group i some in
            places_told w.place w.drained.items.items tables_content group i (written_at items group i) ((s.before group).entry_file i) ((traces_in log.traces group).entry_file i)
            (ap (λ (x : FileId). x.queue) (w.id ∙ put.at.id) ∙ q.rewrites) (entry_bytes (block_of items)) (sym (written_bytes group i)) there (s.placed group i there)
            (says.file group i (content_has d p log items content s group i there))

    new_cleanable : CanBeCleaned (first_of q.append) (traces_in new.traces) (records_of more) content (filed s.appends)
    new_cleanable =
        subst (λ (x : SinglePipe). CanBeCleaned (first_of x) (traces_in new.traces) (records_of more) content (filed s.appends)) (sym w.other.same)
        (subst (λ t. CanBeCleaned (first_of p.append) (traces_in t) (records_of more) content (filed s.appends)) (sym w.traces) (can_more w.handle.id.seq))

    new_together : new.is_parted ≡ false → StandTogether (records_of more)
    new_together is =
        subst (λ (l : List Batch). StandTogether l) (records_more all w.handle.id.seq items)
        (plain_comes (records_of all) items (s.together (sym w.parted ∙ is)) (has_no_mark content s.before (traces_in log.traces) items s.steps))

    pub written : IsCleaning e q new [] content
    written = by_file (w.appended s.rewrites s.fresh s.rewrite)
      where
        by_file : Holds q.rewrite e s.rewrites (s.fresh ++ (w.handle.id.seq, items) ∷ []) ⊎ Holds q.rewrite e (s.rewrites ++ s.fresh) ((w.handle.id.seq, items) ∷ []) → IsCleaning e q new [] content
        by_file (inl same) =
            let joined : more ≡ s.rewrites ++ (s.fresh ++ (w.handle.id.seq, items) ∷ []) = append_assoc s.rewrites s.fresh ((w.handle.id.seq, items) ∷ []) in
            record {
              rewrites = s.rewrites;
              fresh = s.fresh ++ (w.handle.id.seq, items) ∷ [];
              appends = s.appends;
              before = traces_in new.traces;
              pipes = w.pipes;
              rewrite = same;
              append = w.other.holds s.appends [] s.append;
              tabled = subst (λ (l : Numbered). IsTabled q l s.appends new.tables) joined new_tabled;
              placed = new_placed;
              fronts = fronts_more content s.rewrites s.fresh s.appends (w.handle.id.seq, items) s.fronts (ap (λ (l : Numbered). content_of_batches (l ++ s.appends)) (sym joined) ∙ reads_more w.handle.id.seq);
              cleanable = subst (λ (l : Numbered). CanBeCleaned (first_of q.append) (traces_in new.traces) (records_of l) content (filed s.appends)) joined new_cleanable;
              steps = no_steps content (traces_in new.traces) [];
              together = λ is. subst (λ (l : Numbered). StandTogether (records_of l)) joined (new_together is);
            }
        by_file (inr next) = record {
          rewrites = all;
          fresh = (w.handle.id.seq, items) ∷ [];
          appends = s.appends;
          before = traces_in new.traces;
          pipes = w.pipes;
          rewrite = next;
          append = w.other.holds s.appends [] s.append;
          tabled = new_tabled;
          placed = new_placed;
          fronts = fronts_more content all [] s.appends (w.handle.id.seq, items) (fronts_synced content all s.appends (fronts_all content s.rewrites s.fresh s.appends s.fronts)) (reads_more w.handle.id.seq);
          cleanable = new_cleanable;
          steps = no_steps content (traces_in new.traces) [];
          together = new_together;
        }

-- ---- a sync of the rewrite queue

module _ (d e : Disk) (p q : DualPipes) (log : TracedTables) (items : Batch) (content : Content (List ℕ)) (s : IsCleaning d p log items content) (other : IsAsBefore p.append d q.append e) where
  -- refused, it changes nothing
  pub sync_refused : Holds q.rewrite e s.rewrites s.fresh → LeavesContent e q content
  sync_refused holds = record {
    rewrites = s.rewrites;
    fresh = s.fresh;
    appends = s.appends;
    rewrite = pipe_leaves q.rewrite e s.rewrites s.fresh holds;
    append = pipe_leaves q.append e s.appends [] (other.holds s.appends [] s.append);
    fronts = s.fronts;
  }

  same_reads : (q.rewrite.active ≡ p.rewrite.active) × (q.rewrite.older ≡ p.rewrite.older) → (read : EntryIndex → List ℕ) → ReadsEntries q (s.rewrites ++ s.fresh) s.appends read → ReadsEntries p (s.rewrites ++ s.fresh) s.appends read
  same_reads same read reads f bytes (inl lies) =
      reads f bytes (inl (same_lies p.rewrite q.rewrite (s.rewrites ++ s.fresh) (same_files p.rewrite q.rewrite same.0 same.1) (q.rewrites ∙ sym p.rewrites) f bytes lies))
  same_reads same read reads f bytes (inr lies) = reads f bytes (inr (subst (λ (x : SinglePipe). LiesIn x s.appends f bytes) (sym other.same) lies))

  pub all_synced : IsPipe q.rewrite e → (q.rewrite.active ≡ p.rewrite.active) × (q.rewrite.older ≡ p.rewrite.older) → Holds q.rewrite e (s.rewrites ++ s.fresh) [] → IsSynced e q log items content
  all_synced pipe same holds = (
    record {
      rewrites = s.rewrites ++ s.fresh;
      fresh = [];
      appends = s.appends;
      before = s.before;
      pipes = record { append = other.usable s.pipes.append; rewrite = pipe };
      rewrite = holds;
      append = other.holds s.appends [] s.append;
      tabled = subst (λ (l : Numbered). IsTabled q l s.appends log.tables) (sym (append-nil (s.rewrites ++ s.fresh)))
          (record { content = λ read reads. s.tabled.content read (same_reads same read reads); lengths = s.tabled.lengths });
      placed = s.placed;
      fronts = fronts_synced content (s.rewrites ++ s.fresh) s.appends (fronts_all content s.rewrites s.fresh s.appends s.fronts);
      cleanable =
          subst (λ (x : SinglePipe). CanBeCleaned (first_of x) s.before (records_of ((s.rewrites ++ s.fresh) ++ [])) content (filed s.appends)) (sym other.same)
          (subst (λ (l : Numbered). CanBeCleaned (first_of p.append) s.before (records_of l) content (filed s.appends)) (sym (append-nil (s.rewrites ++ s.fresh))) s.cleanable);
      steps = s.steps;
      together = λ is. subst (λ (l : Numbered). StandTogether (records_of l)) (sym (append-nil (s.rewrites ++ s.fresh))) (s.together is);
    },
    refl,
  )
