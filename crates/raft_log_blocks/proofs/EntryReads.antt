-- Entries are read as their bytes.
use Rattle.std.proofs.Common.{◌≡◌, ◌≢◌, ◌⊎◌, inl, inr, ℕ, ◌+◌, ◌<◌, ◌≤◌, Bool, true, false, cond, List, [], ◌∷◌, ◌++◌, length, take, drop, Option, Some, None, refl, sym, ap, subst, ◌∙◌, arith, length-append}
use Rattle.std.specs.Prelude.{◌==◌}
use Rattle.std.specs.Int.{w32, to_be_bytes}
use Rattle.std.proofs.lemmas.Bool.{eq-eqb}
use Rattle.std.proofs.lemmas.Bool.Decides.{eqb_tells}
use Rattle.std.proofs.lemmas.List.{append-nil, take_at}
use Rattle.raft_log_records.specs.declared.file_id.FileBlockHandle.{FileBlockHandle}
use Rattle.raft_log_records.specs.declared.file_id.LogQueue.{LogQueue}
use Rattle.raft_log_records.specs.declared.file_id.LogQueue.TheVariants.{Append, Rewrite}
use Rattle.raft_log_records.specs.declared.item.EntryIndex.{EntryIndex}
use Rattle.raft_log_records.specs.Checksum.{crc32_of}
use Rattle.raft_log_records.specs.Item.{entry_bytes}
use Rattle.raft_log_records.specs.Spelling.{block_of, sealed, signed}
use Rattle.raft_log_disk.specs.Disk.{Disk, IsIn}
use Rattle.raft_log_pipe.specs.declared.file.File.{File}
use Rattle.raft_log_pipe.specs.declared.pipe.SinglePipe.{SinglePipe}
use Rattle.raft_log_pipe.specs.Blocks.{AreOfFile, IsOutOfSpan, files_of}
use Rattle.raft_log_pipe.specs.Pipe.{Numbered, AreConsecutive, Holds, IsPipe, first_of}
use Rattle.raft_log_pipe.proofs.BlockLemmas.{blocks_are, one_file}
use Rattle.raft_log_pipe.proofs.NextLemmas.{consecutive_push}
use Rattle.raft_log_pipes.specs.declared.pipes.DualPipes.{DualPipes}
use Rattle.raft_log_pipes.specs.Pipes.{ArePipes, pipe_of}
use Rattle.raft_log_blocks.specs.Blocks.{block_on}
use Rattle.raft_log_blocks.specs.Held.{ReadsBlocks}
use Rattle.raft_log_blocks.specs.Held.{LiesIn, ReadsEntries}
use Rattle.raft_log_blocks.specs.Placed.{block_in, bytes_on, bytes_placed, file_in, unsealed_bytes}

-- ---- the file of a number

pub record IsFound (seq : ℕ) (fs : List File) : Type 0 where
  pub file : File
  pub is : file_in seq fs ≡ Some file
  pub among : IsIn file fs
  pub number : file.seq ≡ seq

later_found : (seq : ℕ) (f : File) (fs : List File) → f.seq ≢ seq → IsFound seq fs → IsFound seq (f ∷ fs)
later_found seq f fs apart found = by_test (eqb_tells f.seq seq)
  where
    by_test : ((f.seq == seq) ≡ true) × (f.seq ≡ seq) ⊎ ((f.seq == seq) ≡ false) × (f.seq ≢ seq) → IsFound seq (f ∷ fs)
    by_test (inl same_number) = absurd (apart same_number.1)
    by_test (inr other) = record { file = found.file; is = ap (λ (b : Bool). cond b (Some f) (file_in seq fs)) other.0 ∙ found.is; among = inr found.among; number = found.number }

first_found : (seq : ℕ) (f : File) (fs : List File) → f.seq ≡ seq → IsFound seq (f ∷ fs)
first_found seq f fs same = record { file = f; is = ap (λ (b : Bool). cond b (Some f) (file_in seq fs)) (eq-eqb f.seq seq same); among = inl refl; number = same }

-- one that is among the files
pub found : (seq : ℕ) (fs : List File) (g : File) → IsIn g fs → g.seq ≡ seq → IsFound seq fs
found seq [] g there same = absurd there
found seq (f ∷ fs) g there same = by_test (λ later. found seq fs g later same) (eqb_tells f.seq seq) there
  where
    by_test : (IsIn g fs → IsFound seq fs) → ((f.seq == seq) ≡ true) × (f.seq ≡ seq) ⊎ ((f.seq == seq) ≡ false) × (f.seq ≢ seq) → IsIn g (f ∷ fs) → IsFound seq (f ∷ fs)
    by_test rest (inl same_number) here = first_found seq f fs same_number.1
    by_test rest (inr other) (inl is) = absurd (other.1 (ap (λ (x : File). x.seq) (sym is) ∙ same))
    by_test rest (inr other) (inr later) = later_found seq f fs other.1 (rest later)

-- one of a number in the span
in_span : (fs : List File) (last seq : ℕ) → AreConsecutive fs last → last ≤ seq + length fs → seq < last → IsFound seq fs
in_span [] last seq numbers low high = absurd (omega (arith, low, high))
in_span (f ∷ fs) last seq numbers low high = by_test (λ apart. in_span fs last seq numbers.1 (omega (arith, low, numbers.0, apart)) high) (eqb_tells f.seq seq)
  where
    by_test : (f.seq ≢ seq → IsFound seq fs) → ((f.seq == seq) ≡ true) × (f.seq ≡ seq) ⊎ ((f.seq == seq) ≡ false) × (f.seq ≢ seq) → IsFound seq (f ∷ fs)
    by_test rest (inl same_number) = first_found seq f fs same_number.1
    by_test rest (inr other) = later_found seq f fs other.1 (rest other.1)

not_out : (p : SinglePipe) (d : Disk) (seq : ℕ) → IsPipe p d → (IsOutOfSpan p seq → ⊥) → IsFound seq (files_of p)
not_out p d seq pipe within =
    in_span (files_of p) (p.active.seq + 1) seq (consecutive_push p.older.items p.active pipe.numbers)
    (omega (arith, length-append p.older.items (p.active ∷ []), low)) (omega (arith, high))
  where
    low : p.active.seq ≤ seq + length p.older.items
    low = omega (arith, λ (h : seq < first_of p). within (inl h))

    high : seq ≤ p.active.seq
    high = omega (arith, λ (h : p.active.seq < seq). within (inr h))

-- ---- blocks

pub length-sealed : (signature : Option ℕ) (block : List ℕ) → length (sealed signature block) ≡ length block + 4
length-sealed signature block = length-append block (to_be_bytes w32 (signed signature (crc32_of block)))

pub unsealed_is : (block bytes : List ℕ) → bytes ≡ sealed None block → unsealed_bytes bytes ≡ block
unsealed_is block bytes is =
    ap unsealed_bytes is
    ∙ ap (λ (n : ℕ). take n (sealed None block)) (omega (arith, length-sealed None block))
    ∙ take_at block (to_be_bytes w32 (crc32_of block)) (length block) refl

-- bytes of the file that is found
block_is : (p : SinglePipe) (d : Disk) (h : FileBlockHandle) (bytes block : List ℕ) → (f : IsFound h.id.seq (files_of p)) → AreOfFile p d h bytes → bytes ≡ sealed None block → block_in d h (file_in h.id.seq (files_of p)) ≡ block
block_is p d h bytes block f are is =
    ap (λ (o : Option File). block_in d h o) f.is ∙ ap unsealed_bytes (sym (are f.file f.among f.number)) ∙ unsealed_is block bytes is

-- a block that is read, without its checksum
pub block_read : (p : SinglePipe) (d : Disk) (h : FileBlockHandle) (bytes block kept : List ℕ) → IsPipe p d → AreOfFile p d h bytes → (IsOutOfSpan p h.id.seq → ⊥) → bytes ≡ sealed None block → kept ≡ take (length block) bytes
    → kept ≡ block_in d h (file_in h.id.seq (files_of p))
block_read p d h bytes block kept pipe are within is cut =
    cut
    ∙ ap (λ (l : List ℕ). take (length block) l) is
    ∙ take_at block (to_be_bytes w32 (crc32_of block)) (length block) refl
    ∙ sym (block_is p d h bytes block (not_out p d h.id.seq pipe within) are is)

-- a queue's pipe can be used where both can
pub pipe_there : (p : DualPipes) (d : Disk) → ArePipes p d → (queue : LogQueue) → IsPipe (pipe_of p queue) d
pipe_there p d pipes Append = pipes.append
pipe_there p d pipes Rewrite = pipes.rewrite

-- what is read of an entry in its block
pub entry_read : (p : DualPipes) (d : Disk) (e : EntryIndex) (h : FileBlockHandle) (block bytes : List ℕ) → e.entries ≡ Some h → block ≡ block_in d h (file_in h.id.seq (files_of (pipe_of p h.id.queue))) → bytes ≡ entry_bytes block e → bytes ≡ bytes_on d p e
entry_read p d e h block bytes place read is = is ∙ ap (λ (l : List ℕ). entry_bytes l e) read ∙ sym (ap (λ (o : Option FileBlockHandle). bytes_placed d p e o) place)

-- what stands at a block's place in a file
abbrev bytes_there : Disk → FileBlockHandle → File → List ℕ
bytes_there d h f = take h.len (drop h.offset (d.file f.handle.0).bytes)

lies_there : (p : SinglePipe) (d : Disk) (bs : Numbered) → IsPipe p d → (e : EntryIndex) (bytes : List ℕ) → (lies : LiesIn p bs e bytes) → AreOfFile p d lies.handle (bytes_there d lies.handle lies.file)
lies_there p d bs pipe e bytes lies f among number = ap (bytes_there d lies.handle) (one_file p d lies.file f pipe lies.among among (sym lies.block.seq ∙ sym number))

-- the block of an entry that lies in a batch of a pipe, with its checksum
pub lies_sealed : (p : SinglePipe) (d : Disk) (s u : Numbered) → IsPipe p d → Holds p d s u → (e : EntryIndex) (bytes : List ℕ) → (lies : LiesIn p (s ++ u) e bytes) → bytes_there d lies.handle lies.file ≡ sealed None (block_of lies.items)
lies_sealed p d s u pipe holds e bytes lies =
    blocks_are p d lies.handle (bytes_there d lies.handle lies.file) pipe (lies_there p d (s ++ u) pipe e bytes lies) s u lies.before lies.after lies.file lies.items 8 holds lies.split lies.among lies.block ∙ lies.stands

-- and without it
pub lies_block : (p : SinglePipe) (d : Disk) (s u : Numbered) → IsPipe p d → Holds p d s u → (e : EntryIndex) (bytes : List ℕ) → (lies : LiesIn p (s ++ u) e bytes)
    → block_in d lies.handle (file_in lies.handle.id.seq (files_of p)) ≡ block_of lies.items
lies_block p d s u pipe holds e bytes lies =
    block_is p d lies.handle (bytes_there d lies.handle lies.file) (block_of lies.items) (found lies.handle.id.seq (files_of p) lies.file lies.among (sym lies.block.seq)) (lies_there p d (s ++ u) pipe e bytes lies)
    (lies_sealed p d s u pipe holds e bytes lies)

-- an entry that lies in a batch of a pipe, in its block there
lies_read : (p : SinglePipe) (d : Disk) (s u : Numbered) → IsPipe p d → Holds p d s u → (e : EntryIndex) (bytes : List ℕ) → (lies : LiesIn p (s ++ u) e bytes)
    → entry_bytes (block_in d lies.handle (file_in lies.handle.id.seq (files_of p))) e ≡ bytes
lies_read p d s u pipe holds e bytes lies =
    ap (λ (l : List ℕ). entry_bytes l e) (lies_block p d s u pipe holds e bytes lies) ∙ sym lies.bytes_are

-- so it is read where the handle's queue is the pipe's
placed_read : (p : DualPipes) (d : Disk) (q : SinglePipe) (bs : Numbered) (e : EntryIndex) (bytes : List ℕ) → (lies : LiesIn q bs e bytes) → pipe_of p lies.handle.id.queue ≡ q
    → entry_bytes (block_in d lies.handle (file_in lies.handle.id.seq (files_of q))) e ≡ bytes → bytes_on d p e ≡ bytes
placed_read p d q bs e bytes lies is read =
    ap (λ (o : Option FileBlockHandle). bytes_placed d p e o) lies.place
    ∙ ap (λ (x : SinglePipe). entry_bytes (block_in d lies.handle (file_in lies.handle.id.seq (files_of x))) e) is
    ∙ read

-- entries that lie in batches of either queue are read as their bytes, also in batches of the rewrite queue that wait for a sync
pub all_disk_reads : (p : DualPipes) (d : Disk) (r f s u : Numbered) → ArePipes p d → Holds p.rewrite d r f → Holds p.append d s u → ReadsEntries p (r ++ f) (s ++ u) (bytes_on d p)
all_disk_reads p d r f s u pipes rewrite append e bytes (inl lies) =
    placed_read p d p.rewrite (r ++ f) e bytes lies (ap (pipe_of p) (lies.queue ∙ p.rewrites)) (lies_read p.rewrite d r f pipes.rewrite rewrite e bytes lies)
all_disk_reads p d r f s u pipes rewrite append e bytes (inr lies) =
    placed_read p d p.append (s ++ u) e bytes lies (ap (pipe_of p) (lies.queue ∙ p.appends)) (lies_read p.append d s u pipes.append append e bytes lies)

pub disk_reads : (p : DualPipes) (d : Disk) (r s u : Numbered) → ArePipes p d → Holds p.rewrite d r [] → Holds p.append d s u → ReadsEntries p r (s ++ u) (bytes_on d p)
disk_reads p d r s u pipes rewrite append = subst (λ (l : Numbered). ReadsEntries p l (s ++ u) (bytes_on d p)) (append-nil r) (all_disk_reads p d r [] s u pipes rewrite append)

-- and so are their blocks
queue_block : (p : DualPipes) (d : Disk) (q : SinglePipe) (bs : Numbered) (e : EntryIndex) (bytes : List ℕ) → (lies : LiesIn q bs e bytes) → pipe_of p lies.handle.id.queue ≡ q
    → block_in d lies.handle (file_in lies.handle.id.seq (files_of q)) ≡ block_of lies.items → block_on d p lies.handle ≡ block_of lies.items
queue_block p d q bs e bytes lies is read = ap (λ (x : SinglePipe). block_in d lies.handle (file_in lies.handle.id.seq (files_of x))) is ∙ read

pub disk_reads_blocks : (p : DualPipes) (d : Disk) (r s u : Numbered) → ArePipes p d → Holds p.rewrite d r [] → Holds p.append d s u → ReadsBlocks p r (s ++ u) (block_on d p)
disk_reads_blocks p d r s u pipes rewrite append = record {
  rewrite = subst (λ (l : Numbered). (e : EntryIndex) (bytes : List ℕ) → (lies : LiesIn p.rewrite l e bytes) → block_on d p lies.handle ≡ block_of lies.items) (append-nil r)
      (λ e bytes lies. queue_block p d p.rewrite (r ++ []) e bytes lies (ap (pipe_of p) (lies.queue ∙ p.rewrites)) (lies_block p.rewrite d r [] pipes.rewrite rewrite e bytes lies));
  append = λ e bytes lies. queue_block p d p.append (s ++ u) e bytes lies (ap (pipe_of p) (lies.queue ∙ p.appends)) (lies_block p.append d s u pipes.append append e bytes lies);
}
