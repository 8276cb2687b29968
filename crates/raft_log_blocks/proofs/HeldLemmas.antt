-- The tables have the content of the batches.
use Rattle.std.proofs.Common.{◌≡◌, inl, inr, ℕ, List, [], ◌∷◌, ◌++◌, length, Option, Some, sym, ap, subst, ◌∙◌, arith, append_assoc, length-append}
use Rattle.std.specs.Option.{option_map}
use Rattle.std.proofs.lemmas.List.{append-nil}
use Rattle.raft_log_records.specs.declared.item.EntryIndex.{EntryIndex}
use Rattle.raft_log_disk.specs.Disk.{Disk}
use Rattle.raft_log_file.specs.Laws.{Batch}
use Rattle.raft_log_pipe.specs.declared.pipe.SinglePipe.{SinglePipe}
use Rattle.raft_log_pipe.specs.Blocks.{IsBlockOf, KeepsFiles}
use Rattle.raft_log_pipe.specs.Pipe.{Holds, Numbered}
use Rattle.raft_log_pipes.specs.declared.pipes.DualPipes.{DualPipes}
use Rattle.raft_log_pipes.specs.Pipes.{ArePipes, IsAsBefore}
use Rattle.raft_log_pipe.proofs.BlockLemmas.{same_files}
use Rattle.raft_log_memtables.specs.declared.memtables.MemTables.{MemTables}
use Rattle.raft_log_blocks.specs.Held.{IsHeld, IsKept, IsTabled, LiesIn, ReadsEntries, content_of_batches, seen_on}
use Rattle.raft_log_blocks.specs.Placed.{bytes_on}
use Rattle.raft_log_blocks.proofs.EntryReads.{disk_reads}

-- what calls answer is the content of the batches
pub held_answered : (d : Disk) (p : DualPipes) (tables : MemTables) (r s u : Numbered) → IsHeld d p tables r s u → seen_on d p tables ≡ content_of_batches (r ++ (s ++ u))
held_answered d p tables r s u held = held.tabled.content (bytes_on d p) (disk_reads p d r s u held.pipes held.rewrite held.append)

-- batches that are all on the disk
pub kept_held : (d : Disk) (p : DualPipes) (tables : MemTables) (r bs : Numbered) → IsKept d p tables r bs → IsHeld d p tables r bs []
kept_held d p tables r bs kept = record {
  pipes = kept.pipes;
  rewrite = kept.rewrite;
  append = kept.append;
  tabled = subst (λ (l : Numbered). IsTabled p r l tables) (sym (append-nil bs)) kept.tabled;
}

pub held_kept : (d : Disk) (p : DualPipes) (tables : MemTables) (r s u : Numbered) → IsHeld d p tables r s u → u ≡ [] → IsKept d p tables r s
held_kept d p tables r s u held none = record {
  pipes = held.pipes;
  rewrite = held.rewrite;
  append = subst (λ (l : Numbered). Holds p.append d s l) none held.append;
  tabled = subst (λ (l : Numbered). IsTabled p r l tables) (ap (λ (l : Numbered). s ++ l) none ∙ append-nil s) held.tabled;
}

pub answered : (d : Disk) (p : DualPipes) (tables : MemTables) (r bs : Numbered) → IsKept d p tables r bs → seen_on d p tables ≡ content_of_batches (r ++ bs)
answered d p tables r bs kept = held_answered d p tables r bs [] (kept_held d p tables r bs kept) ∙ ap (λ (l : Numbered). content_of_batches (r ++ l)) (append-nil bs)

-- ---- where entries lie

-- the entries of before stay where they are
abbrev pub more_lies : (p q : SinglePipe) (bs : Numbered) (seq : ℕ) (items : Batch) → KeepsFiles p q → q.queue ≡ p.queue → (e : EntryIndex) (bytes : List ℕ) → LiesIn p bs e bytes → LiesIn q (bs ++ (seq, items) ∷ []) e bytes
more_lies p q bs seq items keeps queue e bytes lies = record {
  handle = lies.handle;
  file = lies.file;
  before = lies.before;
  items = lies.items;
  after = lies.after ++ (seq, items) ∷ [];
  place = lies.place;
  queue = lies.queue ∙ sym queue;
  among = keeps lies.file lies.among;
  split = ap (λ (l : Numbered). l ++ (seq, items) ∷ []) lies.split ∙ append_assoc lies.before ((lies.file.seq, lies.items) ∷ lies.after) ((seq, items) ∷ []);
  block = subst (λ x. IsBlockOf x lies.file lies.before lies.items 8 lies.handle) (sym queue) lies.block;
  stands = lies.stands;
  bytes_are = lies.bytes_are;
}

-- in the same files entries lie where they lay
abbrev pub same_lies : (p q : SinglePipe) (bs : Numbered) → KeepsFiles p q → q.queue ≡ p.queue → (e : EntryIndex) (bytes : List ℕ) → LiesIn p bs e bytes → LiesIn q bs e bytes
same_lies p q bs keeps queue e bytes lies = record {
  handle = lies.handle;
  file = lies.file;
  before = lies.before;
  items = lies.items;
  after = lies.after;
  place = lies.place;
  queue = lies.queue ∙ sym queue;
  among = keeps lies.file lies.among;
  split = lies.split;
  block = subst (λ x. IsBlockOf x lies.file lies.before lies.items 8 lies.handle) (sym queue) lies.block;
  stands = lies.stands;
  bytes_are = lies.bytes_are;
}

-- entries of either queue, of which the append queue's files stay or grow
pub either_lies : (p q : DualPipes) (r bs more : Numbered) → q.rewrite ≡ p.rewrite → ((e : EntryIndex) (bytes : List ℕ) → LiesIn p.append bs e bytes → LiesIn q.append more e bytes) → (read : EntryIndex → List ℕ)
    → ReadsEntries q r more read → ReadsEntries p r bs read
either_lies p q r bs more same moves read reads e bytes (inl lies) = reads e bytes (inl (subst (λ (x : SinglePipe). LiesIn x r e bytes) (sym same) lies))
either_lies p q r bs more same moves read reads e bytes (inr lies) = reads e bytes (inr (moves e bytes lies))

-- batches that a sync brought onto the disk
pub synced_kept : (d e : Disk) (p q : DualPipes) (tables : MemTables) (r s u : Numbered) → IsHeld d p tables r s u → ArePipes q e → (q.append.active ≡ p.append.active) × (q.append.older ≡ p.append.older) → IsAsBefore p.rewrite d q.rewrite e
    → ((x y : Numbered) → Holds p.append d x y → Holds q.append e (x ++ y) []) → IsKept e q tables r (s ++ u)
synced_kept d e p q tables r s u held pipes same other syncs = record {
  pipes = pipes;
  rewrite = other.holds r [] held.rewrite;
  append = syncs s u held.append;
  tabled = record {
    content = λ read reads. held.tabled.content read (either_lies p q r (s ++ u) (s ++ u) other.same (same_lies p.append q.append (s ++ u) (same_files p.append q.append same.0 same.1) (q.appends ∙ sym p.appends)) read reads);
    lengths = held.tabled.lengths;
  };
}

-- batches that are all on the disk, and stay there, of files that stay
pub kept_on : (d e : Disk) (p q : DualPipes) (tables : MemTables) (r bs : Numbered) → IsKept d p tables r bs → ArePipes q e → (q.append.active ≡ p.append.active) × (q.append.older ≡ p.append.older) → IsAsBefore p.rewrite d q.rewrite e
    → Holds q.append e bs [] → IsKept e q tables r bs
kept_on d e p q tables r bs kept pipes same other append = record {
  pipes = pipes;
  rewrite = other.holds r [] kept.rewrite;
  append = append;
  tabled = record {
    content = λ read reads. kept.tabled.content read (either_lies p q r bs bs other.same (same_lies p.append q.append bs (same_files p.append q.append same.0 same.1) (q.appends ∙ sym p.appends)) read reads);
    lengths = kept.tabled.lengths;
  };
}

-- ---- a queue that calls leave

-- two calls leave it
pub then_as_before : (p q r : SinglePipe) (d e f : Disk) → IsAsBefore p d q e → IsAsBefore q e r f → IsAsBefore p d r f
then_as_before p q r d e f first second = record {
  same = second.same ∙ first.same;
  usable = λ pipe. second.usable (first.usable pipe);
  holds = λ s u holds. second.holds s u (first.holds s u holds);
  alone = λ alone. second.alone (first.alone alone);
}

-- ---- what is seen in two ways

pub not_longer : (l : List ℕ) → l ++ 0 ∷ [] ≡ l → ⊥
not_longer l is = omega (arith, length-append l (0 ∷ []), ap length is)

pub some_same : (one other : EntryIndex → List ℕ) (o : Option EntryIndex) (e : EntryIndex) → option_map one o ≡ option_map other o → o ≡ Some e → one e ≡ other e
some_same one other o e same is =
    let both : Some (one e) ≡ Some (other e) = ap (option_map one) (sym is) ∙ same ∙ ap (option_map other) is in
    cc
