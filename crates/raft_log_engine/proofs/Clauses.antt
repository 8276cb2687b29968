-- What an engine's calls leave, from what it holds.
use Rattle.std.proofs.Common.{◌≡◌, inl, inr, ⊎_elim, ℕ, zero, suc, Bool, true, false, List, [], ◌∷◌, ◌++◌, take, drop, refl, sym, ap, subst, ◌∙◌, append_assoc}
use Rattle.std.proofs.lemmas.Bool.{false≢true}
use Rattle.std.proofs.lemmas.List.{append-nil}
use Rattle.std.proofs.Math.Seq.{take-nil}
use Rattle.std.specs.Prelude.{Option, Some}
use Rattle.std.specs.List.{list_any}
use Rattle.raft_log_records.specs.declared.block.EntriesBlock.{EntriesBlock}
use Rattle.raft_log_records.specs.declared.file_id.FileBlockHandle.{FileBlockHandle}
use Rattle.raft_log_records.specs.declared.record.LogItemBatch.{LogItemBatch}
use Rattle.raft_log_records.specs.Block.{StandsIn}
use Rattle.raft_log_records.specs.Item.{items_of, with_bytes, with_lengths}
use Rattle.raft_log_records.specs.Spelling.{block_of, holds_mark, lengths, spell_record}
use Rattle.raft_log_disk.specs.Disk.{Disk}
use Rattle.raft_log_file.specs.Laws.{Batch}
use Rattle.raft_log_pipes.specs.declared.pipes.DualPipes.{DualPipes}
use Rattle.raft_log_pipes.specs.Pipes.{ArePipes, IsAsBefore}
use Rattle.raft_log_pipe.specs.Appending.{LeavesAppended, Stands}
use Rattle.raft_log_pipe.specs.Blocks.{KeepsFiles}
use Rattle.raft_log_pipe.specs.Pipe.{Numbered, Holds, Leaves}
use Rattle.raft_log_pipe.proofs.PipeLemmas.{holds_leaves}
use Rattle.raft_log_memtables.specs.declared.memtables.MemTables.{MemTables}
use Rattle.raft_log_memtables.specs.Content.{Content, after_batch}
use Rattle.raft_log_memtables.specs.MemTable.{batch_items}
use Rattle.raft_log_memtables.specs.MemTables.{content_in}
use Rattle.raft_content_log.specs.Leaving.{AgreesElsewhere, IsEither, IsWritten, LeavesElsewhere, MayBeWritten}
use Rattle.raft_content_log.proofs.Elsewhere.{unnamed_stays}
use Rattle.raft_log_engine.specs.declared.block_cache.BlockCache.{BlockCache}
use Rattle.raft_log_engine.specs.Cached.{HoldsBlocks}
use Rattle.raft_log_blocks.specs.Held.{HoldsBatches, HoldsMore, IsHeld, IsKept, IsPlace, IsTabled, content_of_batches, seen_on}
use Rattle.raft_log_engine.specs.Parts.{Parts}
use Rattle.raft_log_engine.specs.Left.{IsAccount, IsSound, MayLeave, answers_on, leaves_on}
use Rattle.raft_log_engine.proofs.Appended.{all_more, both_parts, more_leaves}
use Rattle.raft_log_engine.proofs.Settled.{settled_more}
use Rattle.raft_log_blocks.proofs.HeldLemmas.{answered, held_answered, held_kept, kept_held}
use Rattle.raft_log_engine.proofs.Tables.{more_content, more_tabled}
use Rattle.raft_log_engine.proofs.Traced.{IsNoted, more_traced}
use Rattle.raft_log_traces.specs.declared.group_traces.GroupTraces.{GroupTraces}
use Rattle.raft_log_purge.specs.declared.due.RewriteCounts.{RewriteCounts}
use Rattle.raft_log_traced.specs.declared.traced.TracedTables.{TracedTables}

abbrev Seen : Type 0
Seen = Content (List ℕ)

-- ---- an engine that no write has stopped, and of which each write was synced

module _ (d : Disk) (p : DualPipes) (tables : MemTables) (is_stopped wrote_unsynced : Bool) (r bs : Numbered) (kept : IsKept d p tables r bs) where
  account : IsAccount d p is_stopped (seen_on d p tables) r bs []
  account = record {
    rewrite = holds_leaves p.rewrite.queue p.rewrite.older.items p.rewrite.active p.rewrite.writer.offset d r [] kept.rewrite;
    append = holds_leaves p.append.queue p.append.older.items p.append.active p.append.writer.offset d bs [] kept.append;
    answers = λ _. sym (answered d p tables r bs kept);
  }

  -- it leaves what it answers, and nothing else
  pub only_left : wrote_unsynced ≡ false → (left : Seen) → MayLeave d p is_stopped wrote_unsynced (seen_on d p tables) left → left ≡ seen_on d p tables
  only_left all left may =
      let front = may all r bs [] account in
      front.1
      ∙ ap (λ (l : Numbered). content_of_batches (r ++ (bs ++ l))) (take-nil front.0)
      ∙ ap (λ (l : Numbered). content_of_batches (r ++ l)) (append-nil bs)
      ∙ sym (answered d p tables r bs kept)

  pub is_left : is_stopped ≡ false → MayLeave d p is_stopped wrote_unsynced (seen_on d p tables) (seen_on d p tables)
  is_left sound all rewrites synced unsynced a = (0, sym (a.answers sound) ∙ ap (λ (l : Numbered). content_of_batches (rewrites ++ l)) (sym (append-nil synced)))

  -- nothing was written
  pub unwritten : (sound : Type 0) → wrote_unsynced ≡ false → (items : Batch) → MayBeWritten sound (seen_on d p tables) (MayLeave d p is_stopped wrote_unsynced (seen_on d p tables)) (seen_on d p tables) (after_batch items (seen_on d p tables))
  unwritten sound all items = record { answers = λ _. inl refl; leaves_either = λ left may. inl (only_left all left may) }

  pub written : wrote_unsynced ≡ false → (content : Seen) → seen_on d p tables ≡ content → IsWritten (seen_on d p tables) (MayLeave d p is_stopped wrote_unsynced (seen_on d p tables)) content
  written all content is = record { answers = is; leaves_only = λ left may. only_left all left may ∙ is }

-- ---- one that a write stopped

-- by an account of it, it leaves one of two
pub torn : (d : Disk) (p : DualPipes) (wrote_unsynced : Bool) (sound : Type 0) → (sound → ⊥) → wrote_unsynced ≡ false → (seen before content : Seen) (r synced unsynced : Numbered) → Leaves p.rewrite d r [] → Leaves p.append d synced unsynced
    → ((k : ℕ) → IsEither before content (content_of_batches (r ++ (synced ++ take k unsynced)))) → MayBeWritten sound seen (MayLeave d p true wrote_unsynced seen) before content
torn d p wrote_unsynced sound stopped all seen before content r synced unsynced rewrites leaves fronts = record {
  answers = λ goes_on. absurd (stopped goes_on);
  leaves_either = λ left may.
      let front = may all r synced unsynced (record { rewrite = rewrites; append = leaves; answers = λ goes_on. absurd (false≢true (sym goes_on)) }) in
      ⊎_elim (λ (is : content_of_batches (r ++ (synced ++ take front.0 unsynced)) ≡ before). inl (front.1 ∙ is)) (λ (is : content_of_batches (r ++ (synced ++ take front.0 unsynced)) ≡ content). inr (front.1 ∙ is)) (fronts front.0);
}

-- the last batch is there or not
pub last_or_not : (r bs : Numbered) (seq : ℕ) (items : Batch) (before content : Seen) → content_of_batches (r ++ bs) ≡ before → content_of_batches (r ++ (bs ++ (seq, items) ∷ [])) ≡ content
    → (k : ℕ) → IsEither before content (content_of_batches (r ++ (bs ++ take k ((seq, items) ∷ []))))
last_or_not r bs seq items before content old new zero = inl (ap (λ (l : Numbered). content_of_batches (r ++ l)) (append-nil bs) ∙ old)
last_or_not r bs seq items before content old new (suc k) = inr (ap (λ (l : Numbered). content_of_batches (r ++ (bs ++ (seq, items) ∷ l))) (take-nil k) ∙ new)

-- ---- groups that no item names

elsewhere : (items : Batch) (before left : Seen) → IsEither before (after_batch items before) left → AgreesElsewhere items left before
elsewhere items before left (inl is) group un = ap (λ (c : Seen). c group) is
elsewhere items before left (inr is) group un = ap (λ (c : Seen). c group) is ∙ unnamed_stays items before group un

pub leaves_elsewhere : (items : Batch) (old new : Seen → Type 0) (before : Seen) → old before → ((left : Seen) → new left → IsEither before (after_batch items before) left) → LeavesElsewhere items old new
leaves_elsewhere items old new before is either left may = (before, is, elsewhere items before left (either left may))

pub agrees : (items : Batch) (before now : Seen) → now ≡ after_batch items before → AgreesElsewhere items now before
agrees items before now is = elsewhere items before now (inr is)

-- where a write wasn't synced each content may be left
pub any_elsewhere : (items : Batch) (old new : Seen → Type 0) → ((left : Seen) → old left) → LeavesElsewhere items old new
any_elsewhere items old new any left may = (left, any left, λ group un. refl)

-- ---- the exits of a write

abbrev pub parts : {F : Type 0} → F → DualPipes → MemTables → Bool → Bool → ℕ → TracedTables → ℕ → Parts F
parts files p tables is_stopped wrote_unsynced reads traced threshold = record {
  files = files;
  pipes = p;
  tables = tables;
  is_stopped = is_stopped;
  wrote_unsynced = wrote_unsynced;
  block_reads = reads;
  traces = traced.traces;
  has_marked = traced.has_marked;
  is_parted = traced.is_parted;
  purge_threshold = threshold;
}

module _ {F : Type 0} (disk : F → Disk) (old : Parts F) where
  abbrev pub KeptBy : Type 0
  KeptBy = (r : Numbered) × (bs : Numbered) × IsKept (disk old.files) old.pipes old.tables r bs

  abbrev pub HeldBy : Type 0
  HeldBy = HoldsBatches (disk old.files) old.pipes old.tables old.wrote_unsynced

  -- where each write was synced
  pub kept_by : HeldBy → old.wrote_unsynced ≡ false → KeptBy
  kept_by held all = (held.rewrites, held.synced, held_kept (disk old.files) old.pipes old.tables held.rewrites held.synced held.unsynced held.held (held.none all))

  -- nothing was to be written
  pub empty_written : KeptBy → old.wrote_unsynced ≡ false → (items : Batch) → items ≡ [] → IsWritten (answers_on disk old) (leaves_on disk old) (after_batch items (answers_on disk old))
  empty_written kept all items none =
      written (disk old.files) old.pipes old.tables old.is_stopped old.wrote_unsynced kept.0 kept.1 kept.2 all (after_batch items (answers_on disk old)) (ap (λ (l : Batch). after_batch l (answers_on disk old)) (sym none))

  pub refused : KeptBy → old.wrote_unsynced ≡ false → (items : Batch) → MayBeWritten (IsSound old) (answers_on disk old) (leaves_on disk old) (answers_on disk old) (after_batch items (answers_on disk old))
  refused kept all items = unwritten (disk old.files) old.pipes old.tables old.is_stopped old.wrote_unsynced kept.0 kept.1 kept.2 (IsSound old) all items

  -- other groups, where the write leaves one of two contents if each write was synced
  pub others : HeldBy → old.is_stopped ≡ false → (items : Batch) (leaves : Seen → Type 0)
      → (old.wrote_unsynced ≡ false → (left : Seen) → leaves left → IsEither (answers_on disk old) (after_batch items (answers_on disk old)) left) → LeavesElsewhere items (leaves_on disk old) leaves
  others held goes_on items leaves either = by_flag old.wrote_unsynced refl
    where
      by_flag : (b : Bool) → old.wrote_unsynced ≡ b → LeavesElsewhere items (leaves_on disk old) leaves
      by_flag true is = any_elsewhere items (leaves_on disk old) leaves (λ left all. absurd (false≢true (sym all ∙ is)))
      by_flag false is =
          let kept = kept_by held is in
          leaves_elsewhere items (leaves_on disk old) leaves (answers_on disk old) (is_left (disk old.files) old.pipes old.tables old.is_stopped old.wrote_unsynced kept.0 kept.1 kept.2 goes_on) (either is)

  pub more : (r s u : Numbered) (seq : ℕ) (items : Batch) → IsHeld (disk old.files) old.pipes old.tables r s u → list_any holds_mark items ≡ false
      → content_of_batches (r ++ (s ++ (u ++ (seq, items) ∷ []))) ≡ after_batch items (answers_on disk old)
  more r s u seq items held plain =
      ap (λ (l : Numbered). content_of_batches (r ++ l)) (sym (append_assoc s u ((seq, items) ∷ [])))
      ∙ more_content r (s ++ u) seq items plain
      ∙ ap (after_batch items) (sym (held_answered (disk old.files) old.pipes old.tables r s u held))

  -- the append or what follows it failed
  pub failed : KeptBy → old.wrote_unsynced ≡ false → (files : F) (p : DualPipes) (tables : MemTables) (traced : TracedTables) (threshold : ℕ) (seen : Seen) (items : Batch) → list_any holds_mark items ≡ false
      → IsAsBefore old.pipes.rewrite (disk old.files) p.rewrite (disk files)
      → ((s u : Numbered) → Holds old.pipes.append (disk old.files) s u → LeavesAppended p.append (disk files) s u items)
      → MayBeWritten (IsSound (parts files p tables true old.wrote_unsynced old.block_reads traced threshold)) seen (MayLeave (disk files) p true old.wrote_unsynced seen) (answers_on disk old) (after_batch items (answers_on disk old))
  failed kept all files p tables traced threshold seen items plain other leaves =
      let left = leaves kept.1 [] kept.2.append in
      torn (disk files) p old.wrote_unsynced (IsSound (parts files p tables true old.wrote_unsynced old.block_reads traced threshold)) (λ sound. false≢true (sym sound.goes_on)) all seen (answers_on disk old) (after_batch items (answers_on disk old))
      kept.0 kept.1 ((left.0, items) ∷ [])
      (holds_leaves p.rewrite.queue p.rewrite.older.items p.rewrite.active p.rewrite.writer.offset (disk files) kept.0 [] (other.holds kept.0 [] kept.2.rewrite)) left.1
      (last_or_not kept.0 kept.1 left.0 items (answers_on disk old) (after_batch items (answers_on disk old)) (sym (answered (disk old.files) old.pipes old.tables kept.0 kept.1 kept.2))
      (more kept.0 kept.1 [] left.0 items (kept_held (disk old.files) old.pipes old.tables kept.0 kept.1 kept.2) plain))

  -- what was appended did not come into the tables
  pub put_leaves : (files : F) (p : DualPipes) (sync : Bool) (seq : ℕ) (items : Batch) → ((s u : Numbered) → Holds old.pipes.append (disk old.files) s u → HoldsMore p.append (disk files) sync s (u ++ (seq, items) ∷ []))
      → (s u : Numbered) → Holds old.pipes.append (disk old.files) s u → LeavesAppended p.append (disk files) s u items
  put_leaves files p sync seq items puts s u holds = (seq, more_leaves p.append (disk files) sync s (u ++ (seq, items) ∷ []) (puts s u holds))

  -- all was done
  pub record IsDone (files : F) (p : DualPipes) (tables : MemTables) (sync : Bool) (items : Batch) (h : FileBlockHandle) (block : Option EntriesBlock) (drained : LogItemBatch) : Type 0 where
    pub plain : list_any holds_mark items ≡ false
    pub pipes : ArePipes p (disk files)
    pub keeps : KeepsFiles old.pipes.append p.append
    pub other : IsAsBefore old.pipes.rewrite (disk old.files) p.rewrite (disk files)
    pub puts : (s u : Numbered) → Holds old.pipes.append (disk old.files) s u → HoldsMore p.append (disk files) sync s (u ++ (h.id.seq, items) ∷ [])
    pub stands : Stands old.pipes.append (disk old.files) p.append items h
    pub block_stands : (signature : Option ℕ) → StandsIn (spell_record signature items) items (block_of items) block
    pub place : FileBlockHandle
    pub placed : (b : EntriesBlock) → block ≡ Some b → IsPlace h b place
    pub applied : content_in tables ≡ after_batch (batch_items place drained) (content_in old.tables)
    pub named : place.id ≡ h.id
    pub read : with_bytes (block_of items) (items_of drained.items.items) ≡ items
    pub lengths_are : with_lengths (items_of drained.items.items) ≡ lengths items

  pub done_from : (files : F) (p : DualPipes) (tables : MemTables) (sync : Bool) (items given : Batch) (h : FileBlockHandle) (block : Option EntriesBlock) (drained : LogItemBatch) → items ≡ given → list_any holds_mark given ≡ false
      → ArePipes p (disk files) → KeepsFiles old.pipes.append p.append → IsAsBefore old.pipes.rewrite (disk old.files) p.rewrite (disk files)
      → ((s u : Numbered) → Holds old.pipes.append (disk old.files) s u → HoldsMore p.append (disk files) sync s (u ++ (h.id.seq, items) ∷ [])) → Stands old.pipes.append (disk old.files) p.append items h
      → ((signature : Option ℕ) → StandsIn (spell_record signature items) items (block_of items) block)
      → (place : FileBlockHandle) × ((b : EntriesBlock) → block ≡ Some b → IsPlace h b place) × (content_in tables ≡ after_batch (batch_items place drained) (content_in old.tables)) × (place.id ≡ h.id)
      → with_bytes (block_of given) (items_of drained.items.items) ≡ given → with_lengths (items_of drained.items.items) ≡ lengths given → IsDone files p tables sync items h block drained
  done_from files p tables sync items given h block drained same plain pipes keeps other puts stands block_stands applied read lens = record {
    plain = ap (list_any holds_mark) same ∙ plain;
    pipes = pipes;
    keeps = keeps;
    other = other;
    puts = puts;
    stands = stands;
    block_stands = block_stands;
    place = applied.0;
    placed = applied.1;
    applied = applied.2;
    named = applied.3;
    read = subst (λ (l : Batch). with_bytes (block_of l) (items_of drained.items.items) ≡ l) (sym same) read;
    lengths_are = subst (λ (l : Batch). with_lengths (items_of drained.items.items) ≡ lengths l) (sym same) lens;
  }

  module _ (files : F) (p : DualPipes) (tables : MemTables) (sync : Bool) (items : Batch) (h : FileBlockHandle) (block : Option EntriesBlock) (drained : LogItemBatch) (is : IsDone files p tables sync items h block drained) where
    -- with the new batch the tables have the content of all
    done_tabled : (r s u : Numbered) → IsHeld (disk old.files) old.pipes old.tables r s u → IsTabled p r (s ++ (u ++ (h.id.seq, items) ∷ [])) tables
    done_tabled r s u held =
        subst (λ (l : Numbered). IsTabled p r l tables) (append_assoc s u ((h.id.seq, items) ∷ []))
        (more_tabled old.pipes p r (s ++ u) h.id.seq items h is.place block drained old.tables tables is.keeps is.other.same
        (record { at = is.stands s u held.append; stands = is.block_stands; is = is.placed }) refl is.read is.lengths_are is.applied is.plain held.tabled)

    pub done_held : (r s u : Numbered) → (held : IsHeld (disk old.files) old.pipes old.tables r s u) → (m : HoldsMore p.append (disk files) sync s (u ++ (h.id.seq, items) ∷ []))
        → IsHeld (disk files) p tables r (s ++ take m.count (u ++ (h.id.seq, items) ∷ [])) (drop m.count (u ++ (h.id.seq, items) ∷ []))
    done_held r s u held m = record {
      pipes = is.pipes;
      rewrite = is.other.holds r [] held.rewrite;
      append = m.holds;
      tabled = subst (λ (l : Numbered). IsTabled p r l tables) (sym (both_parts m.count s (u ++ (h.id.seq, items) ∷ []))) (done_tabled r s u held);
    }

    -- so with a sync all are on the disk
    pub done_kept : sync ≡ true → (r s u : Numbered) → IsHeld (disk old.files) old.pipes old.tables r s u → IsKept (disk files) p tables r (s ++ (u ++ (h.id.seq, items) ∷ []))
    done_kept synced r s u held = record {
      pipes = is.pipes;
      rewrite = is.other.holds r [] held.rewrite;
      append = all_more p.append (disk files) s (u ++ (h.id.seq, items) ∷ []) (subst (λ (b : Bool). HoldsMore p.append (disk files) b s (u ++ (h.id.seq, items) ∷ [])) synced (is.puts s u held.append));
      tabled = done_tabled r s u held;
    }

    abbrev pub done_batches : HeldBy → (wrote_unsynced : Bool) → (wrote_unsynced ≡ false → (sync ≡ true) × (old.wrote_unsynced ≡ false)) → HoldsBatches (disk files) p tables wrote_unsynced
    done_batches held wrote_unsynced none =
        let m = is.puts held.synced held.unsynced held.held.append in
        record {
          rewrites = held.rewrites;
          synced = held.synced ++ take m.count (held.unsynced ++ (h.id.seq, items) ∷ []);
          unsynced = drop m.count (held.unsynced ++ (h.id.seq, items) ∷ []);
          held = done_held held.rewrites held.synced held.unsynced held.held m;
          none = λ all. m.none (none all).0;
        }

    -- the blocks that are kept stay what they are, and the files may be cleaned by the traces of all batches
    pub done_blocks : (traces others : GroupTraces) (was_marked now_marked was_parted now_parted : Bool) (was_written now_written : RewriteCounts) (cache : BlockCache) → HoldsBlocks (disk old.files) old.pipes (record { tables = old.tables; traces = traces; has_marked = was_marked; is_parted = was_parted; written = was_written }) old.wrote_unsynced cache
        → IsNoted (record { tables = old.tables; traces = traces; has_marked = was_marked; is_parted = was_parted; written = was_written }) (record { tables = tables; traces = others; has_marked = now_marked; is_parted = now_parted; written = now_written }) h items → (wrote_unsynced : Bool) → (wrote_unsynced ≡ false → (sync ≡ true) × (old.wrote_unsynced ≡ false))
        → HoldsBlocks (disk files) p (record { tables = tables; traces = others; has_marked = now_marked; is_parted = now_parted; written = now_written }) wrote_unsynced cache
    done_blocks traces others was_marked now_marked was_parted now_parted was_written now_written cache held noted wrote_unsynced none =
        let b = held.batches in
        let l : Numbered = b.unsynced ++ (h.id.seq, items) ∷ [] in
        let m = is.puts b.synced b.unsynced b.held.append in
        let split = append_assoc b.synced b.unsynced ((h.id.seq, items) ∷ []) ∙ sym (both_parts m.count b.synced l) in
        record {
          batches = done_batches b wrote_unsynced none;
          blocks = λ at bytes kept. settled_more old.pipes p b.rewrites (b.synced ++ b.unsynced) _ h.id.seq items is.other.same is.keeps split at bytes (held.blocks at bytes kept);
          traces = more_traced old.pipes p (disk files) (record { tables = old.tables; traces = traces; has_marked = was_marked; is_parted = was_parted; written = was_written }) (record { tables = tables; traces = others; has_marked = now_marked; is_parted = now_parted; written = now_written }) b.rewrites (b.synced ++ b.unsynced)
              (b.synced ++ take m.count l) (drop m.count l) h items b.held.pipes.append.numbers is.pipes.append.numbers is.keeps (is.stands b.synced b.unsynced b.held.append) m.holds (sym split) b.held.tabled.lengths noted held.traces;
        }

    pub done_seen : HeldBy → seen_on (disk files) p tables ≡ after_batch items (answers_on disk old)
    done_seen held =
        let l : Numbered = held.unsynced ++ (h.id.seq, items) ∷ [] in
        let m = is.puts held.synced held.unsynced held.held.append in
        held_answered (disk files) p tables held.rewrites (held.synced ++ take m.count l) (drop m.count l) (done_held held.rewrites held.synced held.unsynced held.held m)
        ∙ ap (λ (x : Numbered). content_of_batches (held.rewrites ++ x)) (both_parts m.count held.synced l)
        ∙ more held.rewrites held.synced held.unsynced h.id.seq items held.held is.plain

    pub done_written : HeldBy → sync ≡ true → (is_stopped wrote_unsynced : Bool) → wrote_unsynced ≡ false
        → IsWritten (seen_on (disk files) p tables) (MayLeave (disk files) p is_stopped wrote_unsynced (seen_on (disk files) p tables)) (after_batch items (answers_on disk old))
    done_written held synced is_stopped wrote_unsynced all =
        written (disk files) p tables is_stopped wrote_unsynced held.rewrites (held.synced ++ (held.unsynced ++ (h.id.seq, items) ∷ [])) (done_kept synced held.rewrites held.synced held.unsynced held.held) all (after_batch items (answers_on disk old)) (done_seen held)
