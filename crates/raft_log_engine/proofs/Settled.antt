-- Blocks that are kept are those of batches, and stay so.
use Rattle.std.proofs.Common.{◌≡◌, inl, inr, ℕ, Bool, true, false, cond, List, [], ◌∷◌, ◌++◌, Option, Some, None, refl, sym, ap, subst, ◌∙◌}
use Rattle.std.specs.Prelude.{◌⊎◌}
use Rattle.std.specs.Str.{bytes_eq}
use Rattle.std.proofs.lemmas.List.{append-nil}
use Rattle.std.proofs.lemmas.Slice.Eq.{bytes_eq-Decides}
use Rattle.raft_log_records.specs.declared.file_id.FileBlockHandle.{FileBlockHandle}
use Rattle.raft_log_records.specs.declared.item.EntryIndex.{EntryIndex}
use Rattle.raft_log_records.specs.Item.{entry_bytes}
use Rattle.raft_log_records.specs.Spelling.{block_of}
use Rattle.raft_log_disk.specs.Disk.{Disk}
use Rattle.raft_log_file.specs.Laws.{Batch}
use Rattle.raft_log_pipe.specs.declared.pipe.SinglePipe.{SinglePipe}
use Rattle.raft_log_pipe.specs.Blocks.{KeepsFiles}
use Rattle.raft_log_pipe.specs.Pipe.{Numbered}
use Rattle.raft_log_pipes.specs.declared.pipes.DualPipes.{DualPipes}
use Rattle.raft_log_memtables.specs.declared.memtables.MemTables.{MemTables}
use Rattle.raft_log_memtables.specs.ContentLaws.{content_map}
use Rattle.raft_log_memtables.specs.MemTables.{content_in}
use Rattle.raft_log_traced.specs.declared.traced.TracedTables.{TracedTables}
use Rattle.raft_log_engine.specs.declared.block_cache.BlockCache.{BlockCache}
use Rattle.raft_log_blocks.specs.Blocks.{IsReadAs, block_on}
use Rattle.raft_log_blocks.specs.Held.{ReadsBlocks}
use Rattle.raft_log_engine.specs.Cached.{AreRead, HoldsBlocks, IsSettled, Keeps, KeepsMore}
use Rattle.raft_log_blocks.specs.Held.{IsHeld, LiesIn, ReadsEntries}
use Rattle.raft_log_blocks.specs.Placed.{bytes_on, bytes_placed}
use Rattle.raft_log_blocks.proofs.HeldLemmas.{not_longer, some_same}
use Rattle.raft_log_blocks.proofs.EntryReads.{disk_reads_blocks}
use Rattle.raft_log_blocks.proofs.HeldLemmas.{held_answered, more_lies, same_lies}

-- ---- one is read as the batches say

pub settled_read : (d : Disk) (p : DualPipes) (tables : MemTables) (r s u : Numbered) → IsHeld d p tables r s u → (h : FileBlockHandle) (b : List ℕ) → IsSettled p r (s ++ u) h b → IsReadAs d p h b
settled_read d p tables r s u held h b settled = sym (settled (block_on d p) (disk_reads_blocks p d r s u held.pipes held.rewrite held.append))

-- ---- a block that was read for an entry of the tables

-- an entry's bytes in what the disk has of its block, with one more byte where another reading has another block
abbrev told_apart : Disk → DualPipes → (FileBlockHandle → List ℕ) → EntryIndex → Option FileBlockHandle → List ℕ
told_apart d p read e None = []
told_apart d p read e (Some h) = entry_bytes (block_on d p h) e ++ cond (bytes_eq (read h) (block_on d p h)) [] (0 ∷ [])

same_block : (d : Disk) (p : DualPipes) (read : FileBlockHandle → List ℕ) (e : EntryIndex) (h : FileBlockHandle) → e.entries ≡ Some h → told_apart d p read e e.entries ≡ bytes_on d p e → read h ≡ block_on d p h
same_block d p read e h place is = by_test (bytes_eq (read h) (block_on d p h)) refl
  where
    at : told_apart d p read e (Some h) ≡ entry_bytes (block_on d p h) e
    at = subst (λ (o : Option FileBlockHandle). told_apart d p read e o ≡ bytes_placed d p e o) place is

    by_test : (t : Bool) → bytes_eq (read h) (block_on d p h) ≡ t → read h ≡ block_on d p h
    by_test true same = (bytes_eq-Decides (read h) (block_on d p h)).0 same
    by_test false other = absurd (not_longer (entry_bytes (block_on d p h) e) (ap (λ (t : Bool). entry_bytes (block_on d p h) e ++ cond t [] (0 ∷ [])) (sym other) ∙ at))

-- entries of batches are read right so
lying_told : (d : Disk) (p : DualPipes) (q : SinglePipe) (bs : Numbered) (read : FileBlockHandle → List ℕ) (e : EntryIndex) (bytes : List ℕ) → (lies : LiesIn q bs e bytes)
    → read lies.handle ≡ block_of lies.items → block_on d p lies.handle ≡ block_of lies.items → told_apart d p read e e.entries ≡ bytes
lying_told d p q bs read e bytes lies is on =
    let same : bytes_eq (read lies.handle) (block_on d p lies.handle) ≡ true = (bytes_eq-Decides (read lies.handle) (block_on d p lies.handle)).1 (is ∙ sym on) in
    ap (λ (o : Option FileBlockHandle). told_apart d p read e o) lies.place
    ∙ ap (λ (t : Bool). entry_bytes (block_on d p lies.handle) e ++ cond t [] (0 ∷ [])) same
    ∙ append-nil (entry_bytes (block_on d p lies.handle) e)
    ∙ ap (λ (l : List ℕ). entry_bytes l e) on
    ∙ sym lies.bytes_are

all_told : (d : Disk) (p : DualPipes) (r bs : Numbered) (read : FileBlockHandle → List ℕ) → ReadsBlocks p r bs read → ReadsBlocks p r bs (block_on d p) → ReadsEntries p r bs (λ e. told_apart d p read e e.entries)
all_told d p r bs read reads on e bytes (inl lies) = lying_told d p p.rewrite r read e bytes lies (reads.rewrite e bytes lies) (on.rewrite e bytes lies)
all_told d p r bs read reads on e bytes (inr lies) = lying_told d p p.append bs read e bytes lies (reads.append e bytes lies) (on.append e bytes lies)

pub read_settled : (d : Disk) (p : DualPipes) (tables : MemTables) (r s u : Numbered) → IsHeld d p tables r s u → (group index : ℕ) (e : EntryIndex) (h : FileBlockHandle) (b : List ℕ)
    → (content_in tables group).entry index ≡ Some e → e.entries ≡ Some h → IsReadAs d p h b → IsSettled p r (s ++ u) h b
read_settled d p tables r s u held group index e h b there place is read reads =
    let on : ReadsBlocks p r (s ++ u) (block_on d p) = disk_reads_blocks p d r s u held.pipes held.rewrite held.append in
    let told : EntryIndex → List ℕ = λ x. told_apart d p read x x.entries in
    let same : content_map told (content_in tables) ≡ content_map (bytes_on d p) (content_in tables) =
    held.tabled.content told (all_told d p r (s ++ u) read reads on) ∙ sym (held_answered d p tables r s u held) in
    same_block d p read e h place (some_same told (bytes_on d p) ((content_in tables group).entry index) e (λ i. (same i group).entry index) there) ∙ sym is

-- ---- other batches behind them

-- an entry lies where it lay, in the same block
record IsMoved (p q : SinglePipe) (bs more : Numbered) (e : EntryIndex) (bytes : List ℕ) (lies : LiesIn p bs e bytes) : Type 0 where
  pub now : LiesIn q more e bytes
  pub handle : now.handle ≡ lies.handle
  pub items : now.items ≡ lies.items

either_blocks : (p q : DualPipes) (r bs more : Numbered) → q.rewrite ≡ p.rewrite → ((e : EntryIndex) (bytes : List ℕ) → (lies : LiesIn p.append bs e bytes) → IsMoved p.append q.append bs more e bytes lies) → (read : FileBlockHandle → List ℕ)
    → ReadsBlocks q r more read → ReadsBlocks p r bs read
either_blocks p q r bs more same moves read reads = record {
  rewrite = subst (λ (x : SinglePipe). (e : EntryIndex) (bytes : List ℕ) → (lies : LiesIn x r e bytes) → read lies.handle ≡ block_of lies.items) same reads.rewrite;
  append = λ e bytes lies.
      let m : IsMoved p.append q.append bs more e bytes lies = moves e bytes lies in
      ap read (sym m.handle) ∙ reads.append e bytes m.now ∙ ap block_of m.items;
}

-- behind an append
pub settled_more : (p q : DualPipes) (r bs more : Numbered) (seq : ℕ) (items : Batch) → q.rewrite ≡ p.rewrite → KeepsFiles p.append q.append → bs ++ (seq, items) ∷ [] ≡ more → (h : FileBlockHandle) (b : List ℕ) → IsSettled p r bs h b
    → IsSettled q r more h b
settled_more p q r bs more seq items same keeps is h b settled read reads =
    settled read
    (either_blocks p q r bs (bs ++ (seq, items) ∷ []) same
    (λ e bytes lies. record { now = more_lies p.append q.append bs seq items keeps (q.appends ∙ sym p.appends) e bytes lies; handle = refl; items = refl })
    read (subst (λ (l : Numbered). ReadsBlocks q r l read) (sym is) reads))

-- behind a sync
pub settled_still : (p q : DualPipes) (r bs more : Numbered) → q.rewrite ≡ p.rewrite → KeepsFiles p.append q.append → bs ≡ more → (h : FileBlockHandle) (b : List ℕ) → IsSettled p r bs h b → IsSettled q r more h b
settled_still p q r bs more same keeps is h b settled read reads =
    settled read
    (either_blocks p q r bs bs same
    (λ e bytes lies. record { now = same_lies p.append q.append bs keeps (q.appends ∙ sym p.appends) e bytes lies; handle = refl; items = refl })
    read (subst (λ (l : Numbered). ReadsBlocks q r l read) (sym is) reads))

-- ---- an engine's blocks

module _ (d : Disk) (p : DualPipes) (traced : TracedTables) (wrote_unsynced : Bool) (cache : BlockCache) (held : HoldsBlocks d p traced wrote_unsynced cache) where
  pub blocks_read : AreRead d p cache
  blocks_read h b kept = settled_read d p traced.tables held.batches.rewrites held.batches.synced held.batches.unsynced held.batches.held h b (held.blocks h b kept)

  -- those of entries of the tables are kept more
  pub blocks_more : (new : BlockCache) (IsAsked : EntryIndex → Type 0) → ((e : EntryIndex) → IsAsked e → (group : ℕ) × ((index : ℕ) × ((content_in traced.tables group).entry index ≡ Some e))) → KeepsMore d p IsAsked cache new
      → HoldsBlocks d p traced wrote_unsynced new
  blocks_more new IsAsked asked more = record { batches = held.batches; blocks = λ h b kept. of h b (more h b kept); traces = held.traces }
    where
      of : (h : FileBlockHandle) (b : List ℕ) → Keeps cache h b ⊎ ((e : EntryIndex) × IsAsked e × (e.entries ≡ Some h) × IsReadAs d p h b) → IsSettled p held.batches.rewrites (held.batches.synced ++ held.batches.unsynced) h b
      of h b (inl was) = held.blocks h b was
      of h b (inr read) =
          let there = asked read.0 read.1 in
          read_settled d p traced.tables held.batches.rewrites held.batches.synced held.batches.unsynced held.batches.held there.0 there.1.0 read.0 h b there.1.1 read.2 read.3
