-- What a writer makes of the last file of a pipe.
use Rattle.std.proofs.Common.{◌≡◌, ◌≢◌, ◌⊎◌, inl, inr, ℕ, ◌+◌, ◌-◌, ◌<◌, ◌≤◌, List, [], ◌∷◌, ◌++◌, length, take, refl, sym, ap, subst, ◌∙◌, arith, length-append, Option}
use Rattle.std.specs.Prelude.{Result, Ok, Err, map, replicate}
use Rattle.std.specs.String.{string_bytes}
use Rattle.std.specs.List.{AllByRecursion}
use Rattle.std.proofs.lemmas.List.{length-replicate, length-take-le, map-append}
use Rattle.raft_log_records.specs.declared.file_id.FileId.{FileId}
use Rattle.raft_log_records.specs.Signature.{signature_of}
use Rattle.raft_log_records.specs.Spelling.{AreItems, spell_record}
use Rattle.raft_log_disk.specs.declared.fault.IoFault.{IoFault}
use Rattle.raft_log_disk.specs.declared.fault.IoFault.TheVariants.{NotFound, NoSpace, Refused, Memory}
use Rattle.raft_log_records.specs.Batch.{Batch as Logged, Writing, encoded_of, record_of, signed_again}
use Rattle.raft_log_disk.specs.Cause.{UnlessRefused}
use Rattle.raft_log_disk.specs.declared.format.LogFileFormat.{LogFileFormat}
use Rattle.raft_log_disk.specs.Disk.{Disk, FileState, after_sync, after_write, filled, put, resized, with_file}
use Rattle.raft_log_file.specs.declared.writer.LogFileWriter.{LogFileWriter}
use Rattle.raft_log_file.specs.Laws.{Batch}
use Rattle.raft_log_file.specs.Unsynced.{IsUnsynced}
use Rattle.raft_log_file.specs.Writer.{IsWriter, IsReady, IsAppended, IsCut, IsClosed, MakesRoom, Writes, Cuts}
use Rattle.raft_log_file.proofs.UnsyncedLemmas.{unsynced_batches_grow}
use Rattle.raft_log_pipe.specs.declared.file.File.{File}
use Rattle.raft_log_pipe.specs.declared.pipe.SinglePipe.{SinglePipe}
use Rattle.raft_log_pipe.specs.Begun.{Changes}
use Rattle.raft_log_pipe.specs.Stored.{IsEnded, IsStored}
use Rattle.raft_log_pipe.specs.Pipe.{Numbered, numbered, id_of, HoldsIn, Holds, IsPipe, IsPopulated, LeavesIn, IsLast}
use Rattle.raft_log_pipe.proofs.StoredLemmas.{stored_cut, stored_more, stored_room, stored_synced, stored_within}
use Rattle.raft_log_pipe.proofs.PipeLemmas.{AreApart, changes, changes_on, file_there, each_named, holds_on, holds_synced, leaves_more, leaves_on, named_on, names_kept, stays}
use Rattle.raft_log_pipe.proofs.ReservedLemmas.{reserved_on}

-- ---- cuts

cuts_change : (r : Result (Unit {0}) IoFault) (d e : Disk) (fd len : ℕ) → Cuts r d e fd len → Changes d e fd
cuts_change (Ok u) d e fd len is = changes d e fd _ is
cuts_change (Err x) d e fd len (inl same) = stays d e fd same
cuts_change (Err x) d e fd len (inr refused) = changes d e fd _ refused.files

cut_changes : (w : LogFileWriter) (r : Result (Unit {0}) IoFault) (d e : Disk) → IsCut w r d e → Changes d e w.fd.0
cut_changes w r d e (inl (short, below, same)) = stays d e w.fd.0 same
cut_changes w r d e (inr (long, cuts)) = cuts_change r d e w.fd.0 w.offset cuts

pub closed_changes : (w : LogFileWriter) (d e : Disk) (r : Result (Unit {0}) IoFault) → IsClosed w d e r → Changes d e w.fd.0
closed_changes w d e (Ok u) (b, cut, synced) = changes_on d b e w.fd.0 (cut_changes w (Ok u) d b cut) (changes b e w.fd.0 _ synced)
closed_changes w d e (Err x) (inl cut) = cut_changes w (Err x) d e cut
closed_changes w d e (Err x) (inr cut) = cut_changes w (Ok tt) d e cut

cuts_stored : (id : FileId) (format : LogFileFormat) (ks us : List Batch) (offset : ℕ) (r : Result (Unit {0}) IoFault) (d e : Disk) (fd : ℕ) → IsStored id format ks us offset (d.file fd) → Cuts r d e fd offset
    → IsStored id format ks us offset (e.file fd)
cuts_stored id format ks us offset (Ok u) d e fd s is =
    subst (IsStored id format ks us offset) (sym (file_there d e fd _ is))
    (stored_cut id format ks us offset offset (d.file fd) (resized (d.file fd).bytes offset) s (omega arith) refl)
cuts_stored id format ks us offset (Err x) d e fd s (inl same) = subst (λ (y : Disk). IsStored id format ks us offset (y.file fd)) (sym same) s
cuts_stored id format ks us offset (Err x) d e fd s (inr refused) =
    let le = stored_within id format ks us offset (d.file fd) s in
    subst (IsStored id format ks us offset) (sym (file_there d e fd _ refused.files))
    (stored_cut id format ks us offset (length refused.seen) (d.file fd) refused.seen s (omega (arith, refused.part.no_shorter, le)) refused.part.front)

cut_stored : (id : FileId) (format : LogFileFormat) (ks us : List Batch) (w : LogFileWriter) (r : Result (Unit {0}) IoFault) (d e : Disk) → IsStored id format ks us w.offset (d.file w.fd.0) → IsCut w r d e
    → IsStored id format ks us w.offset (e.file w.fd.0)
cut_stored id format ks us w r d e s (inl (short, below, same)) = subst (λ (y : Disk). IsStored id format ks us w.offset (y.file w.fd.0)) (sym same) s
cut_stored id format ks us w r d e s (inr (long, cuts)) = cuts_stored id format ks us w.offset r d e w.fd.0 s cuts

closed_stored : (id : FileId) (format : LogFileFormat) (ks us : List Batch) (w : LogFileWriter) (d e : Disk) → IsStored id format ks us w.offset (d.file w.fd.0) → IsClosed {E = IoFault} w d e (Ok tt)
    → IsStored id format (ks ++ us) [] w.offset (e.file w.fd.0)
closed_stored id format ks us w d e s (b, cut, synced) =
    subst (IsStored id format (ks ++ us) [] w.offset) (sym (file_there b e w.fd.0 _ synced))
    (stored_synced id format ks us w.offset (b.file w.fd.0) (cut_stored id format ks us w (Ok tt) d b s cut))

unclosed_stored : (id : FileId) (format : LogFileFormat) (ks us : List Batch) (w : LogFileWriter) (d e : Disk) (x : IoFault) → IsStored id format ks us w.offset (d.file w.fd.0) → IsClosed w d e (Err x)
    → IsStored id format ks us w.offset (e.file w.fd.0)
unclosed_stored id format ks us w d e x s (inl cut) = cut_stored id format ks us w (Err x) d e s cut
unclosed_stored id format ks us w d e x s (inr cut) = cut_stored id format ks us w (Ok tt) d e s cut

-- ---- writes

room_changes : (d e : Disk) (fd at len : ℕ) → MakesRoom d e fd at len → Changes d e fd
room_changes d e fd at len (inl is) = changes d e fd _ is
room_changes d e fd at len (inr (inl same)) = stays d e fd same
room_changes d e fd at len (inr (inr refused)) = changes d e fd _ refused.files

pub ready_changes : (w : LogFileWriter) (d e : Disk) (end target : ℕ) → IsReady w d e end target → Changes d e w.fd.0
ready_changes w d e end target (inl (short, same)) = stays d e w.fd.0 same
ready_changes w d e end target (inr (long, room)) = room_changes d e w.fd.0 w.reached _ room

room_stored : (id : FileId) (format : LogFileFormat) (ks us : List Batch) (offset : ℕ) (d e : Disk) (fd at len : ℕ) → IsStored id format ks us offset (d.file fd) → offset ≤ at → MakesRoom d e fd at len
    → IsStored id format ks us offset (e.file fd)
room_stored id format ks us offset d e fd at len s le (inl is) =
    subst (IsStored id format ks us offset) (sym (file_there d e fd _ is))
    (stored_room id format ks us offset (d.file fd) at len (at + len) (filled (d.file fd).bytes (at + len)) s le refl)
room_stored id format ks us offset d e fd at len s le (inr (inl same)) = subst (λ (y : Disk). IsStored id format ks us offset (y.file fd)) (sym same) s
room_stored id format ks us offset d e fd at len s le (inr (inr refused)) =
    subst (IsStored id format ks us offset) (sym (file_there d e fd _ refused.files))
    (stored_room id format ks us offset (d.file fd) at len (length refused.seen) refused.seen s le refused.part.front)

ready_stored : (id : FileId) (format : LogFileFormat) (ks us : List Batch) (w : LogFileWriter) (d e : Disk) (end target : ℕ) → IsWriter w d → IsStored id format ks us w.offset (d.file w.fd.0) → IsReady w d e end target
    → IsStored id format ks us w.offset (e.file w.fd.0)
ready_stored id format ks us w d e end target writer s (inl (short, same)) = subst (λ (y : Disk). IsStored id format ks us w.offset (y.file w.fd.0)) (sym same) s
ready_stored id format ks us w d e end target writer s (inr (long, room)) = room_stored id format ks us w.offset d e w.fd.0 w.reached _ s writer.offset room

writes_change : (r : Result (Unit {0}) IoFault) (d e : Disk) (fd at : ℕ) (text : List ℕ) → Writes r d e fd at text → Changes d e fd
writes_change (Ok u) d e fd at text is = changes d e fd _ is
writes_change (Err x) d e fd at text (inl same) = stays d e fd same
writes_change (Err x) d e fd at text (inr refused) = changes d e fd _ refused.files

pub appended_changes : (w : LogFileWriter) (d e : Disk) (text : List ℕ) (target : ℕ) (r : Result (Unit {0}) IoFault) → IsAppended w d e text target r → Changes d e w.fd.0
appended_changes w d e text target r a = changes_on d a.between e w.fd.0 (ready_changes w d a.between _ target a.ready) (writes_change r a.between e w.fd.0 w.offset text a.writes)

-- ---- pipes

fd_is : (p : SinglePipe) (d : Disk) → IsPipe p d → p.writer.fd.0 ≡ p.active.handle.0
fd_is p d pipe = ap (λ h. h.0) pipe.handle

pub apart_of : (n fd : ℕ) (fs : List File) → AllByRecursion (λ f. (f.handle.0 < n) × (f.handle.0 ≢ fd)) fs → AreApart fd fs
apart_of n fd [] all = tt
apart_of n fd (f ∷ fs) all = (all.0.1, apart_of n fd fs all.1)

-- the last file as the writer sees it
stored_at : (p : SinglePipe) (d : Disk) (s u : Numbered) (pipe : IsPipe p d) (h : Holds p d s u) → IsStored (id_of p.queue p.active.seq) p.active.format h.ks h.us p.writer.offset (d.file p.writer.fd.0)
stored_at p d s u pipe h = subst (λ n. IsStored (id_of p.queue p.active.seq) p.active.format h.ks h.us p.writer.offset (d.file n)) (sym (fd_is p d pipe)) h.stored

here : (p : SinglePipe) (d e : Disk) → IsPipe p d → Changes d e p.writer.fd.0 → Changes d e p.active.handle.0
here p d e pipe change = subst (Changes d e) (fd_is p d pipe) change

-- with another writer of the last file the pipe goes on
abbrev pub with_writer : SinglePipe → LogFileWriter → SinglePipe
with_writer p w = record {
  alloc = p.alloc;
  queue = p.queue;
  paths = p.paths;
  default_format = p.default_format;
  target_file_size = p.target_file_size;
  older = p.older;
  active = p.active;
  writer = w;
  reserved = p.reserved;
  capacity = p.capacity;
}

pub pipe_on : (p : SinglePipe) (w : LogFileWriter) (d e : Disk) → IsPipe p d → IsWriter w e → w.fd ≡ p.writer.fd → Changes d e p.writer.fd.0 → IsPipe (with_writer p w) e
pipe_on p w d e pipe writer same change =
    let next : d.next ≡ e.next = sym (ap (λ (y : Disk). y.next) change) in
    record {
      writer = writer;
      handle = same ∙ pipe.handle;
      plain = pipe.plain;
      paths = pipe.paths;
      numbers = pipe.numbers;
      last = subst (λ (y : Disk). IsLast y p.paths.items p.queue p.active.seq) (sym change) pipe.last;
      named = named_on d e (id_of p.queue p.active.seq) p.active.handle.0 (names_kept d e p.writer.fd.0 change) pipe.named;
      placed = pipe.placed;
      there = subst (λ n. p.active.handle.0 < n) next pipe.there;
      apart = subst (λ n. AllByRecursion (λ f. (f.handle.0 < n) × (f.handle.0 ≢ p.active.handle.0)) p.older.items) next pipe.apart;
      olders = each_named p.queue d e p.older.items (names_kept d e p.writer.fd.0 change) pipe.olders;
      reserved = reserved_on p.queue (map string_bytes p.paths.items) d e p.reserved.items (ap (λ (y : Disk). y.names) change) (ap (λ (y : Disk). y.directories) change) pipe.reserved;
    }

pub closed_holds : (p : SinglePipe) (d e : Disk) (to : ℕ) → IsPipe p d → IsClosed {E = IoFault} p.writer d e (Ok tt) → to ≡ p.writer.offset → (s u : Numbered) → Holds p d s u
    → HoldsIn p.queue p.older.items p.active to e (s ++ u) []
closed_holds p d e to pipe closed same s u h =
    let id = id_of p.queue p.active.seq in
    subst (λ n. HoldsIn p.queue p.older.items p.active n e (s ++ u) []) (sym same)
    (holds_synced p.queue p.older.items p.active p.writer.offset d e s u h (here p d e pipe (closed_changes p.writer d e (Ok tt) closed)) (apart_of d.next p.active.handle.0 p.older.items pipe.apart)
    (subst (λ n. IsStored id p.active.format (h.ks ++ h.us) [] p.writer.offset (e.file n)) (fd_is p d pipe) (closed_stored id p.active.format h.ks h.us p.writer d e (stored_at p d s u pipe h) closed)))

-- what was made room for is cut away, so that nothing stands behind the records
cut_short : (w : LogFileWriter) (d b : Disk) → IsWriter w d → IsCut {E = IoFault} w (Ok tt) d b → length (b.file w.fd.0).bytes ≤ w.offset
cut_short w d b writer (inl (short, below, same)) = omega (arith, short, writer.within below, ap (λ (y : Disk). length (y.file w.fd.0).bytes) same)
cut_short w d b writer (inr (long, cuts)) =
    let none : ℕ = 0 in
    let bytes : List ℕ = (d.file w.fd.0).bytes in
    let n : ℕ = w.offset - length bytes in
    omega (arith, writer.offset, writer.long, ap (λ (x : FileState). length x.bytes) (file_there d b w.fd.0 _ cuts), length-append (take w.offset bytes) (replicate n none), length-take-le w.offset bytes (omega (arith, writer.offset, writer.long)), length-replicate n none)

pub closed_ended : (p : SinglePipe) (d e : Disk) (to : ℕ) → IsPipe p d → IsClosed {E = IoFault} p.writer d e (Ok tt) → to ≡ p.writer.offset → IsEnded to (e.file p.active.handle.0)
closed_ended p d e to pipe (b, cut, synced) same =
    let fd : ℕ = p.writer.fd.0 in
    let short = cut_short p.writer d b pipe.writer cut in
    subst (λ n. IsEnded to (e.file n)) (fd_is p d pipe)
    (subst (IsEnded to) (sym (file_there b e fd _ synced)) (record {
      short = omega (arith, short, same);
      still = record { kept = refl; changed = refl; least = refl; greatest = refl };
    }))

-- a refused close changes none of them
pub unclosed_holds : (p : SinglePipe) (d e : Disk) (to : ℕ) (x : IoFault) → IsPipe p d → IsClosed p.writer d e (Err x) → to ≡ p.writer.offset → (s u : Numbered) → Holds p d s u → HoldsIn p.queue p.older.items p.active to e s u
unclosed_holds p d e to x pipe closed same s u h =
    let id = id_of p.queue p.active.seq in
    subst (λ n. HoldsIn p.queue p.older.items p.active n e s u) (sym same)
    (holds_on p.queue p.older.items p.active p.writer.offset p.writer.offset d e s u s u h h.ks h.us (here p d e pipe (closed_changes p.writer d e (Err x) closed)) (apart_of d.next p.active.handle.0 p.older.items pipe.apart)
    h.synced_are h.unsynced_are
    (subst (λ n. IsStored id p.active.format h.ks h.us p.writer.offset (e.file n)) (fd_is p d pipe) (unclosed_stored id p.active.format h.ks h.us p.writer d e x (stored_at p d s u pipe h) closed)))

-- a sync
pub synced_holds : (p : SinglePipe) (d e : Disk) → IsPipe p d → e ≡ with_file d p.writer.fd.0 (after_sync (d.file p.writer.fd.0)) → (s u : Numbered) → Holds p d s u → HoldsIn p.queue p.older.items p.active p.writer.offset e (s ++ u) []
synced_holds p d e pipe is s u h =
    let id = id_of p.queue p.active.seq in
    holds_synced p.queue p.older.items p.active p.writer.offset d e s u h (here p d e pipe (changes d e p.writer.fd.0 _ is)) (apart_of d.next p.active.handle.0 p.older.items pipe.apart)
    (subst (λ n. IsStored id p.active.format (h.ks ++ h.us) [] p.writer.offset (e.file n)) (fd_is p d pipe)
    (subst (IsStored id p.active.format (h.ks ++ h.us) [] p.writer.offset) (sym (file_there d e p.writer.fd.0 _ is)) (stored_synced id p.active.format h.ks h.us p.writer.offset (d.file p.writer.fd.0) (stored_at p d s u pipe h))))

pub synced_writer : (w : LogFileWriter) (d e : Disk) → IsWriter w d → e ≡ with_file d w.fd.0 (after_sync (d.file w.fd.0)) → IsWriter w e
synced_writer w d e writer is = record {
  offset = writer.offset;
  reached = writer.reached;
  long = omega (arith, writer.long, ap (λ (f : FileState). length f.bytes) (file_there d e w.fd.0 _ is));
  within = λ below. omega (arith, writer.within below, ap (λ (f : FileState). length f.bytes) (file_there d e w.fd.0 _ is));
}

-- room was made, and nothing written
pub ready_holds : (p : SinglePipe) (d e : Disk) (to end target : ℕ) → IsPipe p d → IsReady p.writer d e end target → to ≡ p.writer.offset → (s u : Numbered) → Holds p d s u → HoldsIn p.queue p.older.items p.active to e s u
ready_holds p d e to end target pipe ready same s u h =
    let id = id_of p.queue p.active.seq in
    subst (λ n. HoldsIn p.queue p.older.items p.active n e s u) (sym same)
    (holds_on p.queue p.older.items p.active p.writer.offset p.writer.offset d e s u s u h h.ks h.us (here p d e pipe (ready_changes p.writer d e end target ready)) (apart_of d.next p.active.handle.0 p.older.items pipe.apart)
    h.synced_are h.unsynced_are
    (subst (λ n. IsStored id p.active.format h.ks h.us p.writer.offset (e.file n)) (fd_is p d pipe) (ready_stored id p.active.format h.ks h.us p.writer d e end target pipe.writer (stored_at p d s u pipe h) ready)))

numbered_push : (seq : ℕ) (us : List Batch) (p : Batch) (u : Numbered) → u ≡ numbered seq us → u ++ (seq, p) ∷ [] ≡ numbered seq (us ++ p ∷ [])
numbered_push seq us p u is = ap (λ (l : Numbered). l ++ (seq, p) ∷ []) is ∙ sym (map-append (λ (b : Batch). (seq, b)) us (p ∷ []))

-- one batch more
pub put_holds : (p : SinglePipe) (d e : Disk) (to : ℕ) (text : List ℕ) (items : Batch) (target : ℕ) → IsPipe p d → AreItems items → text ≡ spell_record (signature_of p.active.format.version p.active.seq) items
    → IsAppended {E = IoFault} p.writer d e text target (Ok tt) → to ≡ p.writer.offset + length text → (s u : Numbered) → Holds p d s u → HoldsIn p.queue p.older.items p.active to e s (u ++ (p.active.seq, items) ∷ [])
put_holds p d e to text items target pipe are is a same s u h =
    let id = id_of p.queue p.active.seq in
    let format = p.active.format in
    let fd : ℕ = p.writer.fd.0 in
    let spell : List ℕ = spell_record (signature_of format.version p.active.seq) items in
    let between = ready_stored id format h.ks h.us p.writer d a.between _ target pipe.writer (stored_at p d s u pipe h) a.ready in
    let more : IsStored id format h.ks (h.us ++ items ∷ []) (p.writer.offset + length spell) (e.file fd) =
    subst (IsStored id format h.ks (h.us ++ items ∷ []) (p.writer.offset + length spell))
    (ap (λ (l : List ℕ). after_write (a.between.file fd) p.writer.offset l (put (a.between.file fd).bytes p.writer.offset l)) (sym is) ∙ sym (file_there a.between e fd _ a.writes))
    (stored_more id format h.ks h.us items p.writer.offset (a.between.file fd) between are) in
    holds_on p.queue p.older.items p.active p.writer.offset to d e s u s (u ++ (p.active.seq, items) ∷ []) h h.ks (h.us ++ items ∷ [])
    (here p d e pipe (appended_changes p.writer d e text target (Ok tt) a)) (apart_of d.next p.active.handle.0 p.older.items pipe.apart)
    h.synced_are (numbered_push p.active.seq h.us items u h.unsynced_are)
    (subst (λ n. IsStored id format h.ks (h.us ++ items ∷ []) n (e.file p.active.handle.0)) (ap (λ (l : List ℕ). p.writer.offset + length l) (sym is) ∙ sym same)
    (subst (λ n. IsStored id format h.ks (h.us ++ items ∷ []) (p.writer.offset + length spell) (e.file n)) (fd_is p d pipe) more))

-- or a part of it: what the last file has then
pub record IsUnput (p : SinglePipe) (d e : Disk) (items : Batch) (ks us : List Batch) : Type 0 where
  pub change : Changes d e p.active.handle.0
  pub apart : AreApart p.active.handle.0 p.older.items
  pub all : List Batch
  pub are : (all ≡ us) ⊎ (all ≡ us ++ items ∷ [])
  pub unsynced : IsUnsynced (id_of p.queue p.active.seq) p.active.format ks all (e.file p.active.handle.0)

pub unput_last : (p : SinglePipe) (d e : Disk) (text : List ℕ) (items : Batch) (target : ℕ) (x : IoFault) → IsPipe p d → AreItems items → text ≡ spell_record (signature_of p.active.format.version p.active.seq) items
    → IsAppended p.writer d e text target (Err x) → (s u : Numbered) (h : Holds p d s u) → IsUnput p d e items h.ks h.us
unput_last p d e text items target x pipe are is a s u h = by_writes a.writes
  where
    id : FileId
    id = id_of p.queue p.active.seq

    fd : ℕ
    fd = p.writer.fd.0

    between : IsStored id p.active.format h.ks h.us p.writer.offset (a.between.file fd)
    between = ready_stored id p.active.format h.ks h.us p.writer d a.between _ target pipe.writer (stored_at p d s u pipe h) a.ready

    with_last : (all : List Batch) → (all ≡ h.us) ⊎ (all ≡ h.us ++ items ∷ []) → IsUnsynced id p.active.format h.ks all (e.file fd) → IsUnput p d e items h.ks h.us
    with_last all which unsynced = record {
      change = here p d e pipe (appended_changes p.writer d e text target (Err x) a);
      apart = apart_of d.next p.active.handle.0 p.older.items pipe.apart;
      all = all;
      are = which;
      unsynced = subst (λ n. IsUnsynced id p.active.format h.ks all (e.file n)) (fd_is p d pipe) unsynced;
    }

    by_writes : Writes (Err x) a.between e fd p.writer.offset text → IsUnput p d e items h.ks h.us
    by_writes (inl same) = with_last h.us (inl refl) (subst (λ (y : Disk). IsUnsynced id p.active.format h.ks h.us (y.file fd)) (sym same) between.unsynced)
    by_writes (inr refused) =
        with_last (h.us ++ items ∷ []) (inr refl)
        (subst (IsUnsynced id p.active.format h.ks (h.us ++ items ∷ []))
        (ap (λ (l : List ℕ). after_write (a.between.file fd) p.writer.offset l refused.seen) (sym is) ∙ sym (file_there a.between e fd _ refused.files))
        (unsynced_batches_grow id p.active.format h.ks h.us items (a.between.file fd) p.writer.offset refused.seen between.unsynced are between.place))

pub unput_leaves : (p : SinglePipe) (d e : Disk) (text : List ℕ) (items : Batch) (target : ℕ) (x : IoFault) → IsPipe p d → AreItems items → text ≡ spell_record (signature_of p.active.format.version p.active.seq) items
    → IsAppended p.writer d e text target (Err x) → (s u : Numbered) → Holds p d s u → LeavesIn p.queue (p.older.items ++ p.active ∷ []) e s (u ++ (p.active.seq, items) ∷ [])
unput_leaves p d e text items target x pipe are is a s u h = by_all last.are
  where
    last : IsUnput p d e items h.ks h.us
    last = unput_last p d e text items target x pipe are is a s u h

    leaves : (v : Numbered) → v ≡ numbered p.active.seq last.all → LeavesIn p.queue (p.older.items ++ p.active ∷ []) e s v
    leaves v same = leaves_on p.queue p.older.items p.active p.writer.offset d e s u v h last.all last.change last.apart same last.unsynced

    by_all : (last.all ≡ h.us) ⊎ (last.all ≡ h.us ++ items ∷ []) → LeavesIn p.queue (p.older.items ++ p.active ∷ []) e s (u ++ (p.active.seq, items) ∷ [])
    by_all (inl none) = leaves_more p.queue (p.older.items ++ p.active ∷ []) e s u ((p.active.seq, items) ∷ []) (leaves u (h.unsynced_are ∙ ap (numbered p.active.seq) (sym none)))
    by_all (inr more) = leaves (u ++ (p.active.seq, items) ∷ []) (numbered_push p.active.seq h.us items u h.unsynced_are ∙ ap (numbered p.active.seq) (sym more))

-- ---- batches as records

pub record_is : (old new : Logged) (signature other : Option ℕ) (text : List ℕ) → IsPopulated old → new ≡ record { items = old.items; writing = signed_again signature old.writing } → text ≡ encoded_of new → signature ≡ other
    → text ≡ spell_record other old.items
record_is old new signature other text populated is told same =
    told ∙ ap encoded_of is ∙ ap (λ (w : Writing). record_of old.items (signed_again signature w)) populated.1 ∙ ap (λ (s : Option ℕ). spell_record s old.items) same

pub by_fault : (U : Type 0) (e : IoFault) (P Q : Type 0) → (P → Q) → UnlessRefused {T = Unit {0}} (Err e) P → UnlessRefused {T = U} (Err e) Q
by_fault U NotFound P Q f p = f p
by_fault U NoSpace P Q f p = f p
by_fault U Refused P Q f p = tt
by_fault U Memory P Q f p = f p
