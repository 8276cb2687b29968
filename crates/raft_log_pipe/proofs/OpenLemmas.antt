-- The files that were found: what makes them a pipe.
use Rattle.std.proofs.Common.{◌≡◌, ◌≢◌, inl, inr, ℕ, ◌<◌, ◌≤◌, true, false, List, [], ◌∷◌, ◌++◌, length, refl, sym, ap, subst, ◌∙◌, arith, length-append}
use Rattle.std.specs.Prelude.{Ok, Err, String, map}
use Rattle.std.specs.String.{string_bytes}
use Rattle.std.specs.declared.alloc.Global.{Global}
use Rattle.std.specs.List.{AllByRecursion}
use Rattle.std.proofs.lemmas.Bool.{ltb-true}
use Rattle.raft_log_records.specs.declared.file_id.FileId.{FileId}
use Rattle.raft_log_records.specs.declared.file_id.LogQueue.{LogQueue}
use Rattle.raft_log_disk.specs.declared.fault.IoFault.{IoFault}
use Rattle.raft_log_disk.specs.declared.format.LogFileFormat.{LogFileFormat}
use Rattle.raft_log_disk.specs.Text.{Text}
use Rattle.raft_log_disk.specs.Disk.{Disk, FileState, IsIn, IsNamed, are_named}
use Rattle.raft_log_disk.specs.Format.{header_len, spelled_header}
use Rattle.raft_log_disk.specs.Name.{log_file_of}
use Rattle.raft_log_disk.proofs.NamedLemmas.{named_first, one_path}
use Rattle.raft_log_file.specs.declared.writer.LogFileWriter.{LogFileWriter}
use Rattle.raft_log_file.specs.Laws.{Batch, spelled_batches}
use Rattle.raft_log_records.specs.Signature.{signature_of}
use Rattle.raft_log_file.specs.Writer.{IsWriter, IsOpened}
use Rattle.raft_log_file.proofs.HeaderLemmas.{length-header}
use Rattle.raft_log_file.proofs.UnsyncedLemmas.{header_some}
use Rattle.raft_log_pipe.specs.declared.file.File.{File}
use Rattle.raft_log_pipe.specs.declared.pipe.SinglePipe.{SinglePipe}
use Rattle.raft_log_pipe.specs.Begun.{Changes}
use Rattle.raft_log_pipe.specs.Found.{IsFound, IsResumed, IsWhole, KeepsButHeader}
use Rattle.raft_log_pipe.specs.Stored.{IsStored}
use Rattle.raft_log_pipe.specs.Pipe.{Numbered, numbered, id_of, AreConsecutive, AreOlder, HoldsIn, IsLast, IsNamedSo, IsPipe, IsPlain}
use Rattle.raft_log_pipe.specs.Reserved.{AreReserved}
use Rattle.raft_log_pipe.proofs.ReservedLemmas.{reserved_on}
use Rattle.raft_log_pipe.proofs.PipeLemmas.{each_named, names_kept, named_on, olders_on, same_beside, stays}
use Rattle.raft_log_pipe.proofs.NextLemmas.{begun_changes, begun_short, begun_stored, some_is}
use Rattle.raft_log_pipe.proofs.ChangeLemmas.{apart_of}

-- ---- names

below_next : (names : List (Text × ℕ)) (next : ℕ) (path : Text) (n : ℕ) → are_named names next ≡ true → IsIn (path, n) names → n < next
below_next [] next path n named there = absurd there
below_next (e ∷ names) next path n named (inl same) = omega (arith, ltb-true e.1 next (named_first e names next named).below, ap (λ (y : Text × ℕ). y.1) same)
below_next (e ∷ names) next path n named (inr there) = below_next names next path n (named_first e names next named).others there

pub named_below : (d : Disk) (id : FileId) (fd : ℕ) → IsNamed d → IsNamedSo d id fd → fd < d.next
named_below d id fd named so = below_next d.names d.next so.0 fd named so.1

-- files of two numbers are two files
pub named_apart : (d : Disk) (queue : LogQueue) (n m fd : ℕ) → IsNamed d → IsNamedSo d (id_of queue n) fd → IsNamedSo d (id_of queue m) fd → n ≡ m
named_apart d queue n m fd named one two =
    ap (λ (id : FileId). id.seq) (some_is (id_of queue n) (id_of queue m)
    (sym one.2 ∙ ap log_file_of (one_path d.names d.next fd one.0 two.0 named one.1 two.1) ∙ two.2))

pub olders_apart : (queue : LogQueue) (d : Disk) (fs : List File) (active : File) (bs : Numbered) → IsNamed d → AreConsecutive fs active.seq → AreOlder queue d fs bs → IsNamedSo d (id_of queue active.seq) active.handle.0
    → AllByRecursion (λ f. (f.handle.0 < d.next) × (f.handle.0 ≢ active.handle.0)) fs
olders_apart queue d [] active bs named numbers os last = tt
olders_apart queue d (f ∷ fs) active bs named numbers (ks, rest, is, o, os) last = (
  (
    named_below d (id_of queue f.seq) f.handle.0 named o.named,
    λ same. absurd (omega (arith, numbers.0, named_apart d queue f.seq active.seq active.handle.0 named (subst (IsNamedSo d (id_of queue f.seq)) same o.named) last)),
  ),
  olders_apart queue d fs active rest named numbers.1 os last,
)

-- ---- the last of a list

no_files : (fs : List File) (f : File) → (let none : List File = [] in none ≡ fs ++ f ∷ []) → ⊥
no_files fs f is = absurd (omega (arith, ap length is, length-append fs (f ∷ [])))

same_first : (a b : File) (fs gs : List File) → a ∷ fs ≡ b ∷ gs → (a ≡ b) × (fs ≡ gs)
same_first a b fs gs e = (cc, cc)

pub same_last : (fs gs : List File) (a b : File) → fs ++ a ∷ [] ≡ gs ++ b ∷ [] → (fs ≡ gs) × (a ≡ b)
same_last [] [] a b e = (refl, (same_first a b [] [] e).0)
same_last [] (y ∷ gs) a b e = absurd (no_files gs b (same_first a y [] (gs ++ b ∷ []) e).1)
same_last (x ∷ fs) [] a b e = absurd (no_files fs a (sym (same_first x b (fs ++ a ∷ []) [] e).1))
same_last (x ∷ fs) (y ∷ gs) a b e =
    let parts = same_first x y (fs ++ a ∷ []) (gs ++ b ∷ []) e in
    let rest = same_last fs gs a b parts.1 in
    ((λ i. parts.0 i ∷ rest.0 i), rest.1)

-- what was found, of a list and its last file
pub record IsFoundSo (queue : LogQueue) (dirs : List (String Global)) (d : Disk) (older : List File) (active : File) (bs : Numbered) : Type 0 where
  pub before : Numbered
  pub ks : List Batch
  pub batches_are : bs ≡ before ++ numbered active.seq ks
  pub numbers : AreConsecutive older active.seq
  pub last : IsLast d dirs queue active.seq
  pub placed : AllByRecursion (λ f. f.path_id < length dirs) (older ++ active ∷ [])
  pub olders : AreOlder queue d older before
  pub named : IsNamedSo d (id_of queue active.seq) active.handle.0
  pub whole : IsWhole (id_of queue active.seq) active.format ks (d.file active.handle.0)

found_parts : (queue : LogQueue) (dirs : List (String Global)) (d : Disk) (fs : List File) (bs : Numbered) (found : IsFound queue dirs d fs bs) → IsFoundSo queue dirs d found.older found.active bs
found_parts queue dirs d fs bs found = record {
  before = found.before;
  ks = found.ks;
  batches_are = found.batches_are;
  numbers = found.numbers;
  last = found.last;
  placed = subst (AllByRecursion (λ (f : File). f.path_id < length dirs)) found.files_are found.placed;
  olders = found.olders;
  named = found.named;
  whole = found.whole;
}

pub found_so : (queue : LogQueue) (dirs : List (String Global)) (d : Disk) (fs older : List File) (active : File) (bs : Numbered) → fs ≡ older ++ active ∷ [] → IsFound queue dirs d fs bs → IsFoundSo queue dirs d older active bs
found_so queue dirs d fs older active bs is found =
    let same = same_last found.older older found.active active (sym found.files_are ∙ is) in
    subst (λ (f : File). IsFoundSo queue dirs d older f bs) same.1 (subst (λ (l : List File). IsFoundSo queue dirs d l found.active bs) same.0 (found_parts queue dirs d fs bs found))

pub found_some : (queue : LogQueue) (dirs : List (String Global)) (d : Disk) (fs : List File) (bs : Numbered) → fs ≡ [] → IsFound queue dirs d fs bs → ⊥
found_some queue dirs d fs bs none found = no_files found.older found.active (sym none ∙ found.files_are)

-- ---- the last file

stored_long : (id : FileId) (format : LogFileFormat) (ks : List Batch) (f : FileState) → IsStored id format ks [] (length f.bytes) f → header_len format.version ≤ length f.bytes
stored_long id format ks f s = omega (arith, s.place, length-append (spelled_header format) (spelled_batches (signature_of format.version id.seq) (ks ++ [])), length-header format)

pub whole_plain : (id : FileId) (format : LogFileFormat) (ks : List Batch) (f : FileState) → IsWhole id format ks f → IsPlain format
whole_plain id format ks f (inl s) = (s.unsynced.spellable, s.unsynced.plain)
whole_plain id format ks f (inr blank) = blank.plain

-- a file that goes on is as it was
goes_on : (d e : Disk) (fd : ℕ) (format : LogFileFormat) (w : LogFileWriter) → header_len format.version ≤ length (d.file fd).bytes → IsOpened d e fd format false (Ok w) → (e ≡ d) × (w.offset ≡ length (d.file fd).bytes)
goes_on d e fd format w long (inl (at_least, reset, same, at)) = (same, at)
goes_on d e fd format w long (inr (inl short, a, at)) = absurd (omega (arith, long, short))
goes_on d e fd format w long (inr (inr reset, a, at)) = absurd cc

stays_on : (d e : Disk) (fd : ℕ) (format : LogFileFormat) (x : IoFault) → header_len format.version ≤ length (d.file fd).bytes → IsOpened d e fd format false (Err x) → e ≡ d
stays_on d e fd format x long (inl same) = same
stays_on d e fd format x long (inr (inl short, a)) = absurd (omega (arith, long, short))
stays_on d e fd format x long (inr (inr reset, a)) = absurd cc

no_length : (bytes : List ℕ) → length bytes ≡ 0 → bytes ≡ []
no_length [] none = refl
no_length (b ∷ bytes) none = absurd (omega (arith, none))

-- what an opened file is
pub record IsOn (d e : Disk) (queue : LogQueue) (active : File) (ks : List Batch) (w : LogFileWriter) : Type 0 where
  pub change : Changes d e active.handle.0
  pub writer : IsWriter w e
  pub handle : w.fd ≡ active.handle
  pub stored : IsStored (id_of queue active.seq) active.format ks [] w.offset (e.file active.handle.0)

pub resumed_on : (d e : Disk) (queue : LogQueue) (active : File) (ks : List Batch) (w : LogFileWriter) → IsWhole (id_of queue active.seq) active.format ks (d.file active.handle.0) → IsResumed d e active (Ok w) → IsOn d e queue active ks w
resumed_on d e queue active ks w (inl s) (inl (none, begun)) =
    absurd (omega (arith, none, stored_long (id_of queue active.seq) active.format ks (d.file active.handle.0) s, header_some active.format.version))
resumed_on d e queue active ks w (inl s) (inr (some, opened, writer, handle)) =
    let on = goes_on d e active.handle.0 active.format w (stored_long (id_of queue active.seq) active.format ks (d.file active.handle.0) s) opened in
    record {
      change = stays d e active.handle.0 on.0;
      writer = writer;
      handle = handle;
      stored = subst (λ (y : Disk). IsStored (id_of queue active.seq) active.format ks [] w.offset (y.file active.handle.0)) (sym on.0)
          (subst (λ n. IsStored (id_of queue active.seq) active.format ks [] n (d.file active.handle.0)) (sym on.1) s);
    }
resumed_on d e queue active ks w (inr blank) (inl (none, begun)) = record {
  change = begun_changes d e active w begun;
  writer = begun.3;
  handle = begun.4;
  stored = subst (λ (l : List Batch). IsStored (id_of queue active.seq) active.format l [] w.offset (e.file active.handle.0)) (sym blank.none)
      (begun_stored d e active queue w (inr (omega (arith, none))) blank.plain begun);
}
resumed_on d e queue active ks w (inr blank) (inr (some, opened, writer, handle)) = absurd (omega (arith, some, ap length blank.bytes))

-- ---- the pipe

olders_named : (queue : LogQueue) (d : Disk) (fs : List File) (bs : Numbered) → AreOlder queue d fs bs → AllByRecursion (λ f. IsNamedSo d (id_of queue f.seq) f.handle.0) fs
olders_named queue d [] bs os = tt
olders_named queue d (f ∷ fs) bs (ks, rest, is, o, os) = (o.named, olders_named queue d fs rest os)

pub opened_pipe : (p : SinglePipe) (d e : Disk) (bs : Numbered) → IsNamed d → IsFoundSo p.queue p.paths.items d p.older.items p.active bs → IsResumed d e p.active (Ok p.writer) → 0 < length p.paths.items → IsPlain p.default_format
    → AreReserved p.queue (map string_bytes p.paths.items) d p.reserved.items → IsPipe p e
opened_pipe p d e bs named found resumed paths plain reserved =
    let on = resumed_on d e p.queue p.active found.ks p.writer found.whole resumed in
    let next : d.next ≡ e.next = sym (ap (λ (y : Disk). y.next) on.change) in
    record {
      writer = on.writer;
      handle = on.handle;
      plain = plain;
      paths = paths;
      numbers = found.numbers;
      last = subst (λ (y : Disk). IsLast y p.paths.items p.queue p.active.seq) (sym on.change) found.last;
      named = named_on d e (id_of p.queue p.active.seq) p.active.handle.0 (names_kept d e p.active.handle.0 on.change) found.named;
      placed = found.placed;
      there = subst (λ n. p.active.handle.0 < n) next (named_below d (id_of p.queue p.active.seq) p.active.handle.0 named found.named);
      apart = subst (λ n. AllByRecursion (λ f. (f.handle.0 < n) × (f.handle.0 ≢ p.active.handle.0)) p.older.items) next (olders_apart p.queue d p.older.items p.active found.before named found.numbers found.olders found.named);
      olders = each_named p.queue d e p.older.items (names_kept d e p.active.handle.0 on.change) (olders_named p.queue d p.older.items found.before found.olders);
      reserved = reserved_on p.queue (map string_bytes p.paths.items) d e p.reserved.items (ap (λ (y : Disk). y.names) on.change) (ap (λ (y : Disk). y.directories) on.change) reserved;
    }

pub opened_holds : (queue : LogQueue) (dirs : List (String Global)) (older : List File) (active : File) (w : LogFileWriter) (d e : Disk) (bs : Numbered) → IsNamed d → IsFoundSo queue dirs d older active bs → IsResumed d e active (Ok w) → HoldsIn queue older active w.offset e bs []
opened_holds queue dirs older active w d e bs named found resumed =
    let on = resumed_on d e queue active found.ks w found.whole resumed in
    let keeps = names_kept d e active.handle.0 on.change in
    let apart = apart_of d.next active.handle.0 older (olders_apart queue d older active found.before named found.numbers found.olders found.named) in
    record {
      before = found.before;
      ks = found.ks;
      us = [];
      synced_are = found.batches_are;
      unsynced_are = refl;
      olders = olders_on queue d e older found.before keeps (same_beside d e active.handle.0 older on.change apart) found.olders;
      named = named_on d e (id_of queue active.seq) active.handle.0 keeps found.named;
      stored = on.stored;
    }

-- the disk but for a header
pub unopened_keeps : (queue : LogQueue) (dirs : List (String Global)) (d e : Disk) (fs older : List File) (active : File) (bs : Numbered) (x : IoFault) → fs ≡ older ++ active ∷ [] → IsFoundSo queue dirs d older active bs → IsResumed d e active (Err x) → KeepsButHeader d e fs
unopened_keeps queue dirs d e fs older active bs x is found (inl (none, begun)) = by_whole found.whole
  where
    by_whole : IsWhole (id_of queue active.seq) active.format found.ks (d.file active.handle.0) → KeepsButHeader d e fs
    by_whole (inl s) = absurd (omega (arith, none, stored_long (id_of queue active.seq) active.format found.ks (d.file active.handle.0) s, header_some active.format.version))
    by_whole (inr blank) = inr (older, active, is, blank.bytes, begun.0, omega (arith, begun.1, blank.short))
unopened_keeps queue dirs d e fs older active bs x is found (inr (inl (some, opened))) = by_whole found.whole
  where
    by_whole : IsWhole (id_of queue active.seq) active.format found.ks (d.file active.handle.0) → KeepsButHeader d e fs
    by_whole (inl s) = inl (stays_on d e active.handle.0 active.format x (stored_long (id_of queue active.seq) active.format found.ks (d.file active.handle.0) s) opened)
    by_whole (inr blank) = absurd (omega (arith, some, ap length blank.bytes))
unopened_keeps queue dirs d e fs older active bs x is found (inr (inr same)) = inl same

pub opened_keeps : (queue : LogQueue) (dirs : List (String Global)) (d e : Disk) (fs older : List File) (active : File) (bs : Numbered) (w : LogFileWriter) → fs ≡ older ++ active ∷ [] → IsFoundSo queue dirs d older active bs → IsResumed d e active (Ok w)
    → KeepsButHeader d e fs
opened_keeps queue dirs d e fs older active bs w is found (inl (none, begun)) =
    inr (older, active, is, no_length (d.file active.handle.0).bytes none, begun_changes d e active w begun, begun_short d e active w none begun)
opened_keeps queue dirs d e fs older active bs w is found (inr (some, opened, writer, handle)) = by_whole found.whole
  where
    by_whole : IsWhole (id_of queue active.seq) active.format found.ks (d.file active.handle.0) → KeepsButHeader d e fs
    by_whole (inl s) = inl (goes_on d e active.handle.0 active.format w (stored_long (id_of queue active.seq) active.format found.ks (d.file active.handle.0) s) opened).0
    by_whole (inr blank) = absurd (omega (arith, some, ap length blank.bytes))
