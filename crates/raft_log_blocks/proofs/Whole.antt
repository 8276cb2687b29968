-- The blocks of entries stand whole in their files: so each entry of the tables is read, unless its file isn't.
use Rattle.std.proofs.Common.{◌≡◌, ◌≢◌, ◌⊎◌, inl, inr, ℕ, Bool, true, false, cond, List, [], ◌∷◌, ◌++◌, take, drop, Option, Some, None, refl, sym, ap, subst, ◌∙◌, arith}
use Rattle.std.specs.Prelude.{◌==◌}
use Rattle.std.specs.Str.{bytes_eq}
use Rattle.std.proofs.lemmas.Bool.{false≢true}
use Rattle.std.proofs.lemmas.Bool.Decides.{eqb_tells}
use Rattle.std.proofs.lemmas.List.{append-nil}
use Rattle.std.proofs.lemmas.Slice.Eq.{bytes_eq-Decides}
use Rattle.raft_log_records.specs.declared.file_id.FileBlockHandle.{FileBlockHandle}
use Rattle.raft_log_records.specs.declared.file_id.LogQueue.{LogQueue}
use Rattle.raft_log_records.specs.declared.file_id.LogQueue.TheVariants.{Append, Rewrite}
use Rattle.raft_log_records.specs.declared.item.EntryIndex.{EntryIndex}
use Rattle.raft_log_records.specs.Spelling.{block_of, sealed}
use Rattle.raft_log_disk.specs.Disk.{Disk, IsIn, IsNoFile}
use Rattle.raft_log_disk.specs.Cause.{Meter}
use Rattle.raft_log_files.specs.declared.error.Error.{Error}
use Rattle.raft_log_file.specs.Errors.{IsReadFault}
use Rattle.raft_log_pipe.specs.declared.file.File.{File}
use Rattle.raft_log_pipe.specs.declared.pipe.SinglePipe.{SinglePipe}
use Rattle.raft_log_pipe.specs.Blocks.{IsBlockFault, IsOutOfSpan, files_of}
use Rattle.raft_log_pipe.specs.Pipe.{AreOlder, Holds, IsNamedSo, IsPipe, Numbered, id_of}
use Rattle.raft_log_pipe.proofs.BlockLemmas.{in_last, older_below, one_file}
use Rattle.raft_log_pipe.proofs.TakenLemmas.{named_there}
use Rattle.raft_log_pipes.specs.declared.pipes.DualPipes.{DualPipes}
use Rattle.raft_log_pipes.specs.Pipes.{ArePipes, pipe_of}
use Rattle.raft_log_memtables.specs.declared.memtables.MemTables.{MemTables}
use Rattle.raft_log_memtables.specs.ContentLaws.{content_map}
use Rattle.raft_log_memtables.specs.MemTables.{content_in}
use Rattle.raft_log_blocks.specs.Blocks.{HasBlock, StandsWhole}
use Rattle.raft_log_blocks.specs.Unread.{IsUnread}
use Rattle.raft_log_blocks.specs.Held.{IsHeld, IsTabled, LiesIn, ReadsEntries}
use Rattle.raft_log_blocks.specs.Placed.{bytes_on, file_in, unsealed_bytes}
use Rattle.raft_log_blocks.proofs.EntryReads.{IsFound, all_disk_reads, found, lies_sealed, pipe_there, unsealed_is}
use Rattle.raft_log_blocks.proofs.HeldLemmas.{not_longer, some_same}

-- ---- files of a pipe

-- the file of a number is one of them
file_there : (seq : ℕ) (fs : List File) (f : File) → file_in seq fs ≡ Some f → IsIn f fs × (f.seq ≡ seq)
file_there seq [] f is = absurd cc
file_there seq (g ∷ fs) f is = by_test (λ later. file_there seq fs f later) (eqb_tells g.seq seq)
  where
    by_test : (file_in seq fs ≡ Some f → IsIn f fs × (f.seq ≡ seq)) → ((g.seq == seq) ≡ true) × (g.seq ≡ seq) ⊎ ((g.seq == seq) ≡ false) × (g.seq ≢ seq) → IsIn f (g ∷ fs) × (f.seq ≡ seq)
    by_test rest (inl same) =
        let here : Some g ≡ Some f = sym (ap (λ (b : Bool). cond b (Some g) (file_in seq fs)) same.0) ∙ is in
        let is_it : f ≡ g = cc in
        (inl is_it, ap (λ (x : File). x.seq) is_it ∙ same.1)
    by_test rest (inr other) =
        let later = rest (sym (ap (λ (b : Bool). cond b (Some g) (file_in seq fs)) other.0) ∙ is) in
        (inr later.0, later.1)

-- each has a name
olders_named : (queue : LogQueue) (d : Disk) (fs : List File) (bs : Numbered) → AreOlder queue d fs bs → (f : File) → IsIn f fs → IsNamedSo d (id_of queue f.seq) f.handle.0
olders_named queue d [] bs olders f there = absurd there
olders_named queue d (g ∷ fs) bs (ks, rest, is, o, os) f (inl same) = subst (λ (x : File). IsNamedSo d (id_of queue x.seq) x.handle.0) (sym same) o.named
olders_named queue d (g ∷ fs) bs (ks, rest, is, o, os) f (inr later) = olders_named queue d fs rest os f later

file_named : (p : SinglePipe) (d : Disk) (s u : Numbered) → Holds p d s u → (f : File) → IsIn f (files_of p) → IsNoFile d f.handle.0 → ⊥
file_named p d s u holds f among none = by_place (in_last p.older.items f p.active among)
  where
    by_name : IsNamedSo d (id_of p.queue f.seq) f.handle.0 → ⊥
    by_name named = none (named_there d.names named.0 f.handle.0 named.1)

    by_place : IsIn f p.older.items ⊎ (f ≡ p.active) → ⊥
    by_place (inl older) = by_name (olders_named p.queue d p.older.items holds.before holds.olders f older)
    by_place (inr last) = by_name (subst (λ (x : File). IsNamedSo d (id_of p.queue x.seq) x.handle.0) (sym last) holds.named)

file_within : (p : SinglePipe) (d : Disk) (f : File) → IsPipe p d → IsIn f (files_of p) → IsOutOfSpan p f.seq → ⊥
file_within p d f pipe among out = by_place (in_last p.older.items f p.active among) out
  where
    by_place : IsIn f p.older.items ⊎ (f ≡ p.active) → IsOutOfSpan p f.seq → ⊥
    by_place (inl older) (inl below) = let one = older_below p.older.items p.active.seq f pipe.numbers older in absurd (omega (arith, one.1, below))
    by_place (inl older) (inr above) = let one = older_below p.older.items p.active.seq f pipe.numbers older in absurd (omega (arith, one.0, above))
    by_place (inr last) (inl below) = absurd (omega (arith, below, ap (λ (x : File). x.seq) last))
    by_place (inr last) (inr above) = absurd (omega (arith, above, ap (λ (x : File). x.seq) last))

-- ---- a test of blocks

-- the bytes end in their checksum
abbrev is_sealed : List ℕ → Bool
is_sealed bytes = bytes_eq bytes (sealed None (unsealed_bytes bytes))

abbrev stands_in : Disk → FileBlockHandle → Option File → Bool
stands_in d h None = false
stands_in d h (Some f) = is_sealed (take h.len (drop h.offset (d.file f.handle.0).bytes))

-- the block of an entry stands whole in its file
abbrev stands : Disk → DualPipes → Option FileBlockHandle → Bool
stands d p None = false
stands d p (Some h) = stands_in d h (file_in h.id.seq (files_of (pipe_of p h.id.queue)))

sealed_so : (bytes block : List ℕ) → bytes ≡ sealed None block → is_sealed bytes ≡ true
sealed_so bytes block is = (bytes_eq-Decides bytes (sealed None (unsealed_bytes bytes))).1 (is ∙ ap (sealed None) (sym (unsealed_is block bytes is)))

-- so does that of an entry that lies in a batch
lying_stands : (d : Disk) (p : DualPipes) (q : SinglePipe) (s u : Numbered) → IsPipe q d → Holds q d s u → (e : EntryIndex) (bytes : List ℕ) → (lies : LiesIn q (s ++ u) e bytes) → pipe_of p lies.handle.id.queue ≡ q → stands d p e.entries ≡ true
lying_stands d p q s u pipe holds e bytes lies is =
    let h : FileBlockHandle = lies.handle in
    let f : IsFound h.id.seq (files_of q) = found h.id.seq (files_of q) lies.file lies.among (sym lies.block.seq) in
    let same : lies.file ≡ f.file = one_file q d lies.file f.file pipe lies.among f.among (sym lies.block.seq ∙ sym f.number) in
    ap (stands d p) lies.place
    ∙ ap (λ (x : SinglePipe). stands_in d h (file_in h.id.seq (files_of x))) is
    ∙ ap (stands_in d h) f.is
    ∙ ap (λ (x : File). stands_in d h (Some x)) (sym same)
    ∙ sealed_so (take h.len (drop h.offset (d.file lies.file.handle.0).bytes)) (block_of lies.items) (lies_sealed q d s u pipe holds e bytes lies)

-- ---- entries of the tables

-- an entry's bytes, with one more byte where its block doesn't stand whole
abbrev tested : Disk → DualPipes → EntryIndex → List ℕ
tested d p e = bytes_on d p e ++ cond (stands d p e.entries) [] (0 ∷ [])

tested_read : (d : Disk) (p : DualPipes) (e : EntryIndex) (bytes : List ℕ) → stands d p e.entries ≡ true → bytes_on d p e ≡ bytes → tested d p e ≡ bytes
tested_read d p e bytes whole read = ap (λ (t : Bool). bytes_on d p e ++ cond t [] (0 ∷ [])) whole ∙ append-nil (bytes_on d p e) ∙ read

-- entries of batches are read right so
all_tested : (d : Disk) (p : DualPipes) (r f s u : Numbered) → ArePipes p d → Holds p.rewrite d r f → Holds p.append d s u → ReadsEntries p (r ++ f) (s ++ u) (tested d p)
all_tested d p r f s u pipes rewrite append e bytes (inl lies) =
    tested_read d p e bytes (lying_stands d p p.rewrite r f pipes.rewrite rewrite e bytes lies (ap (pipe_of p) (lies.queue ∙ p.rewrites))) (all_disk_reads p d r f s u pipes rewrite append e bytes (inl lies))
all_tested d p r f s u pipes rewrite append e bytes (inr lies) =
    tested_read d p e bytes (lying_stands d p p.append s u pipes.append append e bytes lies (ap (pipe_of p) (lies.queue ∙ p.appends))) (all_disk_reads p d r f s u pipes rewrite append e bytes (inr lies))

stands_so : (d : Disk) (p : DualPipes) (e : EntryIndex) → tested d p e ≡ bytes_on d p e → stands d p e.entries ≡ true
stands_so d p e same = by_test (stands d p e.entries) refl
  where
    by_test : (t : Bool) → stands d p e.entries ≡ t → stands d p e.entries ≡ true
    by_test true is = is
    by_test false is = absurd (not_longer (bytes_on d p e) (ap (λ (t : Bool). bytes_on d p e ++ cond t [] (0 ∷ [])) (sym is) ∙ same))

-- no file of either queue's pipe is gone
queue_named : (d : Disk) (p : DualPipes) (r f s u : Numbered) → Holds p.rewrite d r f → Holds p.append d s u → (queue : LogQueue) (file : File) → IsIn file (files_of (pipe_of p queue)) → IsNoFile d file.handle.0 → ⊥
queue_named d p r f s u rewrite append Append file among = file_named p.append d s u append file among
queue_named d p r f s u rewrite append Rewrite file among = file_named p.rewrite d r f rewrite file among

whole_in : (d : Disk) (p : DualPipes) → ((queue : LogQueue) (f : File) → IsIn f (files_of (pipe_of p queue)) → IsNoFile d f.handle.0 → ⊥) → (h : FileBlockHandle) (o : Option File)
    → file_in h.id.seq (files_of (pipe_of p h.id.queue)) ≡ o → stands_in d h o ≡ true → StandsWhole d p h
whole_in d p named h None is test = absurd (false≢true test)
whole_in d p named h (Some f) is test =
    let there = file_there h.id.seq (files_of (pipe_of p h.id.queue)) f is in
    let bytes : List ℕ = take h.len (drop h.offset (d.file f.handle.0).bytes) in
    record {
      file = f;
      among = there.0;
      number = there.1;
      there = named h.id.queue f there.0;
      entries = unsealed_bytes bytes;
      stands = (bytes_eq-Decides bytes (sealed None (unsealed_bytes bytes))).0 test;
    }

whole_of : (d : Disk) (p : DualPipes) (e : EntryIndex) → ((queue : LogQueue) (f : File) → IsIn f (files_of (pipe_of p queue)) → IsNoFile d f.handle.0 → ⊥) → (o : Option FileBlockHandle) → e.entries ≡ o → stands d p o ≡ true → HasBlock d p e
whole_of d p e named None is test = absurd (false≢true test)
whole_of d p e named (Some h) is test = (h, is, whole_in d p named h (file_in h.id.seq (files_of (pipe_of p h.id.queue))) refl test)

-- the blocks of entries of the tables, also where batches of the rewrite queue wait for a sync
pub block_there : (d : Disk) (p : DualPipes) (tables : MemTables) (r f s u : Numbered) → ArePipes p d → Holds p.rewrite d r f → Holds p.append d s u → IsTabled p (r ++ f) (s ++ u) tables
    → (group index : ℕ) (e : EntryIndex) → (content_in tables group).entry index ≡ Some e → HasBlock d p e
block_there d p tables r f s u pipes rewrite append tabled group index e there =
    let same : content_map (tested d p) (content_in tables) ≡ content_map (bytes_on d p) (content_in tables) =
    tabled.content (tested d p) (all_tested d p r f s u pipes rewrite append) ∙ sym (tabled.content (bytes_on d p) (all_disk_reads p d r f s u pipes rewrite append)) in
    whole_of d p e (queue_named d p r f s u rewrite append) e.entries refl
    (stands_so d p e (some_same (tested d p) (bytes_on d p) ((content_in tables group).entry index) e (λ i. (same i group).entry index) there))

pub has_block : (d : Disk) (p : DualPipes) (tables : MemTables) (r s u : Numbered) → IsHeld d p tables r s u → (group index : ℕ) (e : EntryIndex) → (content_in tables group).entry index ≡ Some e → HasBlock d p e
has_block d p tables r s u held = block_there d p tables r [] s u held.pipes held.rewrite held.append (subst (λ (l : Numbered). IsTabled p l (s ++ u) tables) (sym (append-nil r)) held.tabled)

-- ---- why such a block isn't read

pub whole_unread : (d : Disk) (p : DualPipes) (m : Meter) (h : FileBlockHandle) → ArePipes p d → StandsWhole d p h → (x : Error) → IsBlockFault (pipe_of p h.id.queue) d m h x → IsUnread d p m h x
whole_unread d p m h pipes whole x (inl (out, is)) =
    absurd (file_within (pipe_of p h.id.queue) d whole.file (pipe_there p d pipes h.id.queue) whole.among (subst (IsOutOfSpan (pipe_of p h.id.queue)) (sym whole.number) out))
whole_unread d p m h pipes whole x (inr (f, among, number, why)) = by_cause why
  where
    same : whole.file ≡ f
    same = one_file (pipe_of p h.id.queue) d whole.file f (pipe_there p d pipes h.id.queue) whole.among among (whole.number ∙ sym number)

    by_cause : IsReadFault d m f.handle.0 x → IsUnread d p m h x
    by_cause (inl memory) = inl memory
    by_cause (inr (inl (is, refuses))) = inr (is, (f, among, number, refuses))
    by_cause (inr (inr (is, gone))) = absurd (whole.there (subst (λ (y : File). IsNoFile d y.handle.0) (sym same) gone))

-- the bytes that are read are the block
pub whole_bytes : (d : Disk) (p : DualPipes) (h : FileBlockHandle) (bytes : List ℕ) → (whole : StandsWhole d p h) → ((f : File) → IsIn f (files_of (pipe_of p h.id.queue)) → f.seq ≡ h.id.seq → bytes ≡ take h.len (drop h.offset (d.file f.handle.0).bytes))
    → bytes ≡ sealed None whole.entries
whole_bytes d p h bytes whole are = are whole.file whole.among whole.number ∙ whole.stands
