-- A file behind the last one of a pipe: what it leaves of the others, and the pipe that goes on with it.
use Rattle.std.proofs.Common.{◌≡◌, ◌≢◌, inl, inr, ⊎_elim, ℕ, ◌+◌, ◌<◌, ◌≤◌, true, false, List, [], ◌∷◌, ◌++◌, length, Some, None, refl, sym, ap, subst, ◌∙◌, arith}
use Rattle.std.specs.Prelude.{Result, Ok, Err, Vec}
use Rattle.std.specs.Result.{IsErrAnd}
use Rattle.std.proofs.lemmas.Result.{err_from_is_err_and}
use Rattle.std.specs.String.{string_bytes}
use Rattle.std.specs.List.{AllByRecursion}
use Rattle.std.specs.declared.alloc.Global.{Global}
use Rattle.std.proofs.lemmas.List.{length-map}
use Rattle.std.proofs.Math.Seq.{take-nil}
use lib.Pointwise.{bytes_decides}
use Rattle.raft_log_records.specs.declared.file_id.FileId.{FileId}
use Rattle.raft_log_records.specs.declared.file_id.LogQueue.{LogQueue}
use Rattle.raft_log_records.proofs.Sound.{each_push}
use Rattle.raft_log_disk.specs.declared.fault.IoFault.{IoFault}
use Rattle.raft_log_disk.specs.declared.format.LogFileFormat.{LogFileFormat}
use Rattle.raft_log_disk.specs.Text.{Text, same_text}
use Rattle.raft_log_disk.specs.Name.{log_file_of}
use Rattle.raft_log_disk.specs.Disk.{Disk, FileState, IsIn, IsNamed, fd_of, no_bytes}
use Rattle.raft_log_disk.specs.Format.{spelled_header}
use Rattle.raft_log_disk.proofs.DiskLemmas.{other_file, pushed_other, pushed_there, same_file}
use Rattle.raft_log_files.specs.FileName.{IsFileSeq}
use Rattle.raft_log_file.specs.declared.writer.LogFileWriter.{LogFileWriter}
use Rattle.raft_log_file.specs.Laws.{Batch}
use Rattle.raft_log_file.specs.Unsynced.{ReadsAs}
use Rattle.raft_log_file.specs.Writer.{IsWriter}
use Rattle.raft_log_file.proofs.HeaderLemmas.{length-header}
use Rattle.raft_log_file.proofs.UnsyncedLemmas.{unsynced_batches_are_a_front}
use Rattle.raft_log_pipe.specs.declared.file.File.{File}
use Rattle.raft_log_pipe.specs.declared.file.ReservedFile.{ReservedFile}
use Rattle.raft_log_pipe.specs.declared.pipe.SinglePipe.{SinglePipe}
use Rattle.raft_log_pipe.specs.Alone.{AreLast, IsAlone, IsMadeAt, IsMadeIn, IsNearlyAlone, StandsAt, directories_of_pipe, path_in}
use Rattle.raft_log_pipe.specs.Begun.{Changes, IsBegun}
use Rattle.raft_log_pipe.specs.Blocks.{files_of}
use Rattle.raft_log_pipe.specs.Next.{GoesOn, HasNoBatches, IsBehind, KeepsAllLogs, KeepsLogs, next_in}
use Rattle.raft_log_pipe.specs.Pipe.{Numbered, id_of, AreConsecutive, Holds, HoldsIn, IsNamedSo, IsPipe, IsPlain, LeavesIn}
use Rattle.raft_log_pipe.specs.Reserved.{AreReserved}
use Rattle.raft_log_pipe.specs.Stored.{IsEnded, IsStored}
use Rattle.raft_log_pipe.specs.Torn.{IsTornAtEnd, IsUnaligned}
use Rattle.raft_log_pipe.proofs.AloneLemmas.{found_in, in_either, in_second, last_named, last_next, last_push, nearly, none_some, said_in, with_older}
use Rattle.raft_log_pipe.proofs.KeptLemmas.{holds_kept, names_still, writer_same}
use Rattle.raft_log_pipe.proofs.NextLemmas.{begun_changes, begun_stored, consecutive_push, has_path_says, header_short, new_empty, some_is}
use Rattle.raft_log_pipe.proofs.OthersLemmas.{below_next_name, found_there, one_path}
use Rattle.raft_log_pipe.proofs.PipeLemmas.{file_beside, genuine_there, holds_leaves, holds_next, image_there, olders_next, stays}
use Rattle.raft_log_pipe.proofs.ReservedLemmas.{not_same}
use Rattle.raft_log_pipe.proofs.TornLemmas.{bare_fresh, empty_bare, fresh_plain, held_torn, stored_some, unsynced_plain}

-- ---- log files that are as they were

-- but for a path that named none
module _ (d e : Disk) (but : Text → Type 0) (named : IsNamed d) (free : (path : Text) → but path → fd_of d.names path ≡ None) (logs : KeepsLogs but d e) where
  pub logs_named : (queue : LogQueue) (n fd : ℕ) → IsNamedSo d (id_of queue n) fd → IsNamedSo e (id_of queue n) fd × (e.file fd ≡ d.file fd)
  logs_named queue n fd (path, there, says) =
      let found = found_there d.names d.next path fd named there in
      let now : fd_of e.names path ≡ Some fd = logs.names path (id_of queue n) says (λ is. none_some (fd_of d.names path) fd (free path is) found) ∙ found in
      ((path, found_in e.names path fd now, says), logs.files path (id_of queue n) fd says found)

  pub logs_hold : (p : SinglePipe) (s u : Numbered) → Holds p d s u → Holds p e s u
  logs_hold p s u h = holds_kept p.queue d e (logs_named p.queue) p.older.items p.active p.writer.offset s u h

  pub logs_leave : (p : SinglePipe) (s : Numbered) → Holds p d s [] → LeavesIn p.queue (p.older.items ++ p.active ∷ []) e s []
  logs_leave p s h = holds_leaves p.queue p.older.items p.active p.writer.offset e s [] (logs_hold p s [] h)

  pub logs_writer : (p : SinglePipe) → IsPipe p d → IsWriter p.writer e
  logs_writer p pipe =
      let fd : p.writer.fd.0 ≡ p.active.handle.0 = ap (λ h. h.0) pipe.handle in
      let last = logs_named p.queue p.active.seq p.active.handle.0 pipe.named in
      writer_same p.writer d e (ap (λ (x : FileState). length x.bytes) (ap e.file fd ∙ last.1 ∙ sym (ap d.file fd))) pipe.writer

-- where none has a new path
module _ (d e : Disk) (logs : KeepsAllLogs d e) (directories : List Text) (queue : LogQueue) where
  found_same : (seq place : ℕ) → IsFileSeq seq → fd_of e.names (path_in directories place (id_of queue seq)) ≡ fd_of d.names (path_in directories place (id_of queue seq))
  found_same seq place number = logs.names (path_in directories place (id_of queue seq)) (id_of queue seq) (said_in directories queue seq place number) (λ none. none)

  stands_then : (seq place fd : ℕ) → StandsAt d.names directories queue seq place fd → StandsAt e.names directories queue seq place fd
  stands_then seq place fd s = (s.0, s.1, found_same seq place s.0 ∙ s.2)

  stood_before : (seq place fd : ℕ) → StandsAt e.names directories queue seq place fd → StandsAt d.names directories queue seq place fd
  stood_before seq place fd s = (s.0, s.1, sym (found_same seq place s.0) ∙ s.2)

  each_then : (fs : List File) → AllByRecursion (λ f. StandsAt d.names directories queue f.seq f.path_id f.handle.0) fs → AllByRecursion (λ f. StandsAt e.names directories queue f.seq f.path_id f.handle.0) fs
  each_then [] all = tt
  each_then (f ∷ fs) all = (stands_then f.seq f.path_id f.handle.0 all.0, each_then fs all.1)

  pub all_last : (fs : List File) → AreLast d.names directories queue fs → AreLast e.names directories queue fs
  all_last fs last = record {
    next = last.next;
    numbers = last.numbers;
    each = each_then fs last.each;
    once = record {
      apart = last.once.apart;
      once = λ seq i j fd gd a b. last.once.once seq i j fd gd (stood_before seq i fd a) (stood_before seq j gd b);
    };
    only = λ seq place fd f s among le. last.only seq place fd f (stood_before seq place fd s) among le;
  }

pub same_logs : (d e : Disk) → e ≡ d → KeepsAllLogs d e
same_logs d e same = record {
  names = λ path id says none. ap (λ (y : Disk). fd_of y.names path) same;
  files = λ path id fd says found. ap (λ (y : Disk). y.file fd) same;
  next = omega (arith, ap (λ (y : Disk). y.next) same);
}

-- ---- a file behind them

pub free_next : (p : SinglePipe) (d : Disk) (place : ℕ) → fd_of d.names (next_in p place) ≡ None → (path : Text) → path ≡ next_in p place → fd_of d.names path ≡ None
free_next p d place free path is = ap (fd_of d.names) is ∙ free

next_says : (p : SinglePipe) (place : ℕ) → IsFileSeq (p.active.seq + 1) → log_file_of (next_in p place) ≡ Some (id_of p.queue (p.active.seq + 1))
next_says p place number = said_in (directories_of_pipe p) p.queue (p.active.seq + 1) place number

same_false : (a b : Text) → same_text a b ≡ false → b ≡ a → ⊥
same_false a b apart is = let equal : same_text a b ≡ true = (bytes_decides a b).1 (sym is) in absurd cc

module _ (p : SinglePipe) (d e : Disk) (f : File) (number : IsFileSeq (p.active.seq + 1)) (b : IsBehind p d e f) where
  pub next_named : IsNamedSo e (id_of p.queue f.seq) f.handle.0
  next_named = subst (λ n. IsNamedSo e (id_of p.queue n) f.handle.0) (sym b.seq) (next_in p f.path_id, found_in e.names (next_in p f.path_id) f.handle.0 b.there, next_says p f.path_id number)

  pub behind_last : IsAlone p d → AreLast e.names (directories_of_pipe p) p.queue (files_of p ++ f ∷ [])
  behind_last alone =
      let among : IsIn p.active (files_of p) = in_second p.active p.older.items (p.active ∷ []) (inl refl) in
      let numbers : AreConsecutive (files_of p) f.seq = subst (AreConsecutive (files_of p)) (sym (last_next p.older.items p.active alone.next alone.numbers) ∙ sym b.seq) alone.numbers in
      last_push d.names e.names (directories_of_pipe p) p.queue (files_of p) p.active f (id_of p.queue (p.active.seq + 1)) alone among numbers number (λ i. id_of p.queue (sym b.seq i))
      (omega (arith, b.within, length-map p.paths.items string_bytes)) b.free (λ path x says apart. b.logs.names path x says (same_false (next_in p f.path_id) path apart)) b.there

  -- no file of before is it
  pub behind_apart : IsNamed d → IsNamed e → (n fd : ℕ) → IsNamedSo d (id_of p.queue n) fd → fd ≢ f.handle.0
  behind_apart named named_then n fd (path, there, says) same =
      let found = found_there d.names d.next path fd named there in
      let not : path ≡ next_in p f.path_id → ⊥ = λ is. none_some (fd_of d.names path) fd (free_next p d f.path_id b.free path is) found in
      let now : fd_of e.names path ≡ Some f.handle.0 = b.logs.names path (id_of p.queue n) says not ∙ found ∙ ap (λ (m : ℕ). Some m) same in
      not (one_path e.names e.next path (next_in p f.path_id) f.handle.0 named_then (found_in e.names path f.handle.0 now) (found_in e.names (next_in p f.path_id) f.handle.0 b.there))

-- ---- a file without batches

pub short_none : (id : FileId) (f : FileState) → f.greatest ≤ 69 → IsUnaligned id f → HasNoBatches id f
short_none id f short plain = record {
  none = λ bytes image genuine. inr (refl, omega (arith, short, image.no_longer));
  plain = plain;
}

pub stored_none : (id : FileId) (format : LogFileFormat) (offset : ℕ) (f : FileState) → IsStored id format [] [] offset f → HasNoBatches id f
stored_none id format offset f s = record {
  none = λ bytes image genuine.
      let front = unsynced_batches_are_a_front id format [] [] f bytes s.unsynced image genuine in
      inl (subst (λ (l : List Batch). ReadsAs id l bytes) (take-nil front.0) front.1);
  plain = unsynced_plain id format [] [] f s.unsynced;
}

-- ---- behind an `Err`

pub empty_nearly : (p : SinglePipe) (e : Disk) (f : File) → AreLast e.names (directories_of_pipe p) p.queue (files_of p ++ f ∷ []) → HasNoBatches (id_of p.queue f.seq) (e.file f.handle.0) → IsNearlyAlone p e
empty_nearly p e f last blank = record {
  others = f ∷ [];
  last = last;
  none = λ image are genuine.
      let named = last_named p e f last in
      (0, ([], [], refl, blank.none (image f.handle.0) (image_there e image (id_of p.queue f.seq) f.handle.0 named are) (genuine_there e image (id_of p.queue f.seq) f.handle.0 named genuine), refl));
}

pub gone_nearly : (p : SinglePipe) (d e : Disk) (x : IoFault) → IsFileSeq (p.active.seq + 1) → GoesOn p d e (Err x) → IsAlone p d → IsNearlyAlone p e
gone_nearly p d e x number (inl logs) alone = nearly p e (all_last d e logs (directories_of_pipe p) p.queue (files_of p) alone)
gone_nearly p d e x number (inr (f, b, blank)) alone = empty_nearly p e f (behind_last p d e f number b alone) blank

-- what is a pipe's holds with a list of older files that is the same
pub behind_nearly : (p : SinglePipe) (d e : Disk) (f : File) (older : Vec File Global) → older.items ≡ p.older.items → IsFileSeq (p.active.seq + 1) → IsBehind p d e f → HasNoBatches (id_of p.queue f.seq) (e.file f.handle.0) → IsAlone p d
    → IsNearlyAlone (with_older p older) e
behind_nearly p d e f older same number b blank alone =
    empty_nearly (with_older p older) e f (subst (λ (l : List File). AreLast e.names (directories_of_pipe p) p.queue ((l ++ p.active ∷ []) ++ f ∷ [])) (sym same) (behind_last p d e f number b alone)) blank

pub gone_leaves : (p : SinglePipe) (d e : Disk) (x : IoFault) → IsNamed d → GoesOn p d e (Err x) → (s : Numbered) → Holds p d s [] → LeavesIn p.queue (p.older.items ++ p.active ∷ []) e s []
gone_leaves p d e x named (inl logs) s h = logs_leave d e (λ path. ⊥) named (λ path none. absurd none) logs p s h
gone_leaves p d e x named (inr (f, b, blank)) s h = logs_leave d e (λ path. path ≡ next_in p f.path_id) named (free_next p d f.path_id b.free) b.logs p s h

pub gone_writer : (p : SinglePipe) (d e : Disk) (x : IoFault) → IsNamed d → IsPipe p d → GoesOn p d e (Err x) → IsWriter p.writer e
gone_writer p d e x named pipe (inl logs) = logs_writer d e (λ path. ⊥) named (λ path none. absurd none) logs p pipe
gone_writer p d e x named pipe (inr (f, b, blank)) = logs_writer d e (λ path. path ≡ next_in p f.path_id) named (free_next p d f.path_id b.free) b.logs p pipe

pub behind_leaves : (p : SinglePipe) (d e : Disk) (f : File) (fs : List File) → fs ≡ p.older.items → IsNamed d → IsBehind p d e f → (s : Numbered) → Holds p d s [] → LeavesIn p.queue (fs ++ p.active ∷ []) e s []
behind_leaves p d e f fs same named b s h =
    subst (λ (l : List File). LeavesIn p.queue (l ++ p.active ∷ []) e s []) (sym same) (logs_leave d e (λ path. path ≡ next_in p f.path_id) named (free_next p d f.path_id b.free) b.logs p s h)

pub behind_writer : (p : SinglePipe) (d e : Disk) (f : File) → IsNamed d → IsPipe p d → IsBehind p d e f → IsWriter p.writer e
behind_writer p d e f named pipe b = logs_writer d e (λ path. path ≡ next_in p f.path_id) named (free_next p d f.path_id b.free) b.logs p pipe

module _ (p : SinglePipe) (d e : Disk) (s : Numbered) (named : IsNamed d) (number : IsFileSeq (p.active.seq + 1)) (ended : IsEnded p.writer.offset (d.file p.active.handle.0)) (h : Holds p d s []) (alone : IsAlone p d) where
  -- it is the newest
  pub behind_torn : (f : File) (older : Vec File Global) → older.items ≡ p.older.items → IsBehind p d e f → IsUnaligned (id_of p.queue f.seq) (e.file f.handle.0) → IsTornAtEnd (with_older p older) e
  behind_torn f older same b plain =
      let but : Text → Type 0 = λ path. path ≡ next_in p f.path_id in
      let held = logs_hold d e but named (free_next p d f.path_id b.free) b.logs p s [] h in
      let stays = (logs_named d e but named (free_next p d f.path_id b.free) b.logs p.queue p.active.seq p.active.handle.0 h.named).1 in
      record {
        older = files_of p;
        newest = f;
        batches = s;
        last = behind_last p d e f number b alone;
        whole = olders_next p.queue p.older.items p.active p.writer.offset e s held (subst (IsEnded p.writer.offset) (sym stays) ended);
        known = λ x there none. subst (IsIn x) (sym same)
            (⊎_elim (λ before. before)
            (⊎_elim
            (λ is. absurd (stored_some (id_of p.queue p.active.seq) p.active.format held.ks held.us p.writer.offset (e.file p.active.handle.0) held.stored (subst (λ (y : File). (e.file y.handle.0).bytes ≡ []) is none)))
            (λ nothing. absurd nothing))
            (in_either x p.older.items (p.active ∷ []) there));
        plain = plain;
      }

  pub gone_torn : (x : IoFault) → GoesOn p d e (Err x) → IsTornAtEnd p e
  gone_torn x (inl logs) = held_torn p e (all_last d e logs (directories_of_pipe p) p.queue (files_of p) alone) s [] (logs_hold d e (λ path. ⊥) named (λ path none. absurd none) logs p s [] h)
  gone_torn x (inr (f, b, blank)) = behind_torn f p.older refl b blank.plain

-- ---- the pipe goes on

-- with a file, and these that are reserved still
abbrev pub with_next : SinglePipe → Vec File Global → File → LogFileWriter → Vec ReservedFile Global → SinglePipe
with_next p older f w reserved = record {
  alloc = p.alloc;
  queue = p.queue;
  paths = p.paths;
  default_format = p.default_format;
  target_file_size = p.target_file_size;
  older = older;
  active = f;
  writer = w;
  reserved = reserved;
  capacity = p.capacity;
}

module _ (p : SinglePipe) (d e : Disk) (older : Vec File Global) (reserved : Vec ReservedFile Global) (f : File) (w : LogFileWriter) (named : IsNamed d) (number : IsFileSeq (p.active.seq + 1)) (grown : older.items ≡ files_of p) (b : IsBehind p d e f) where
  pub next_alone : IsAlone p d → IsAlone (with_next p older f w reserved) e
  next_alone alone = subst (λ (l : List File). AreLast e.names (directories_of_pipe p) p.queue (l ++ f ∷ [])) (sym grown) (behind_last p d e f number b alone)

  pub next_holds : IsStored (id_of p.queue f.seq) f.format [] [] w.offset (e.file f.handle.0) → IsEnded p.writer.offset (d.file p.active.handle.0) → (s : Numbered) → Holds p d s [] → Holds (with_next p older f w reserved) e s []
  next_holds stored ended s h =
      let but : Text → Type 0 = λ path. path ≡ next_in p f.path_id in
      let held = logs_hold d e but named (free_next p d f.path_id b.free) b.logs p s [] h in
      let stays = (logs_named d e but named (free_next p d f.path_id b.free) b.logs p.queue p.active.seq p.active.handle.0 h.named).1 in
      subst (λ (l : List File). HoldsIn p.queue l f w.offset e s []) (sym grown)
      (holds_next p.queue p.older.items p.active f p.writer.offset w.offset e s held (subst (IsEnded p.writer.offset) (sym stays) ended) (next_named p d e f number b) stored)

  module _ (named_then : IsNamed e) where
    before_next : (fs : List File) → AllByRecursion (λ x. IsNamedSo d (id_of p.queue x.seq) x.handle.0) fs → AllByRecursion (λ x. x.handle.0 < d.next) fs → AllByRecursion (λ x. (x.handle.0 < e.next) × (x.handle.0 ≢ f.handle.0)) fs
    before_next [] names below = tt
    before_next (x ∷ fs) names below = ((omega (arith, below.0, b.logs.next), behind_apart p d e f number b named named_then x.seq x.handle.0 names.0), before_next fs names.1 below.1)

    below_of : (fd : ℕ) (fs : List File) → AllByRecursion (λ x. (x.handle.0 < d.next) × (x.handle.0 ≢ fd)) fs → AllByRecursion (λ x. x.handle.0 < d.next) fs
    below_of fd [] all = tt
    below_of fd (x ∷ fs) all = (all.0.0, below_of fd fs all.1)

    pub next_pipe : IsPipe p d → IsWriter w e → w.fd ≡ f.handle → AreReserved p.queue (directories_of_pipe p) e reserved.items → IsPipe (with_next p older f w reserved) e
    next_pipe pipe writer handle left =
        let names : AllByRecursion (λ x. IsNamedSo d (id_of p.queue x.seq) x.handle.0) (files_of p) = each_push (λ x. IsNamedSo d (id_of p.queue x.seq) x.handle.0) p.older.items p.active pipe.olders pipe.named in
        let below : AllByRecursion (λ x. x.handle.0 < d.next) (files_of p) = each_push (λ x. x.handle.0 < d.next) p.older.items p.active (below_of p.active.handle.0 p.older.items pipe.apart) pipe.there in
        record {
          writer = writer;
          handle = handle;
          plain = pipe.plain;
          paths = pipe.paths;
          numbers = subst (λ (l : List File). AreConsecutive l f.seq) (sym grown) (subst (AreConsecutive (files_of p)) (sym b.seq) (consecutive_push p.older.items p.active pipe.numbers));
          last = λ path seq lt under has.
              let says = has_path_says p.paths.items (id_of p.queue seq) path under has in
              b.logs.names path (id_of p.queue seq) says
              (λ is. absurd (omega (arith, lt, b.seq, ap (λ (x : FileId). x.seq) (some_is (id_of p.queue seq) (id_of p.queue (p.active.seq + 1)) (sym says ∙ ap log_file_of is ∙ next_says p f.path_id number)))))
              ∙ pipe.last path seq (omega (arith, lt, b.seq)) under has;
          named = next_named p d e f number b;
          placed = subst (λ (l : List File). AllByRecursion (λ x. x.path_id < length p.paths.items) (l ++ f ∷ [])) (sym grown) (each_push (λ x. x.path_id < length p.paths.items) (files_of p) f pipe.placed b.within);
          there = b.known;
          apart = subst (AllByRecursion (λ x. (x.handle.0 < e.next) × (x.handle.0 ≢ f.handle.0))) (sym grown) (before_next (files_of p) names below);
          olders = subst (AllByRecursion (λ x. IsNamedSo e (id_of p.queue x.seq) x.handle.0)) (sym grown)
              (names_still p.queue d e (logs_named d e (λ path. path ≡ next_in p f.path_id) named (free_next p d f.path_id b.free) b.logs p.queue) (files_of p) names);
          reserved = left;
        }

-- ---- a new file

pub made_behind : (p : SinglePipe) (d e g : Disk) (f : File) → IsNamed d → f.seq ≡ p.active.seq + 1 → IsMadeAt d e (directories_of_pipe p) (id_of p.queue (p.active.seq + 1)) f.path_id → f.handle.0 ≡ d.next → Changes e g f.handle.0 → IsBehind p d g f
made_behind p d e g f named seq made handle change =
    let next : Text = next_in p f.path_id in
    let names : g.names ≡ d.names ++ (next, d.next) ∷ [] = ap (λ (y : Disk). y.names) change ∙ ap (λ (y : Disk). y.names) made.is in
    record {
      seq = seq;
      within = omega (arith, made.within, length-map p.paths.items string_bytes);
      free = made.free;
      there = ap (λ (l : List (Text × ℕ)). fd_of l next) names ∙ pushed_there d.names next d.next made.free ∙ ap (λ (n : ℕ). Some n) (sym handle);
      known = omega (arith, handle, ap (λ (y : Disk). y.next) change, ap (λ (y : Disk). y.next) made.is);
      logs = record {
        names = λ path id says apart. ap (λ (l : List (Text × ℕ)). fd_of l path) names ∙ pushed_other d.names next path d.next (not_same next path (λ same. apart (sym same)));
        files = λ path id fd says found.
            let low = below_next_name d.names d.next path fd named (found_in d.names path fd found) in
            let apart : fd ≢ d.next = λ same. absurd (omega (arith, low, same)) in
            file_beside e g f.handle.0 fd change (λ same. apart (same ∙ handle)) ∙ ap (λ (y : Disk). y.file fd) made.is ∙ other_file fd d.next no_bytes (d.file fd) apart;
        next = omega (arith, ap (λ (y : Disk). y.next) change, ap (λ (y : Disk). y.next) made.is);
      };
    }

pub made_bare : (d e : Disk) (directories : List Text) (id : FileId) (f : File) → f.handle.0 ≡ d.next → IsMadeAt d e directories id f.path_id → e.file f.handle.0 ≡ no_bytes
made_bare d e directories id f handle made = ap e.file handle ∙ ap (λ (y : Disk). y.file d.next) made.is ∙ same_file d.next no_bytes (d.file d.next)

pub refused_goes : (p : SinglePipe) (d e : Disk) (id : FileId) (x : IoFault) → IsNamed d → id ≡ id_of p.queue (p.active.seq + 1) → IsPlain p.default_format → IsMadeIn d e (directories_of_pipe p) id (Err x) → GoesOn p d e (Err x)
refused_goes p d e id x named is plain (inl same) = inl (same_logs d e same)
refused_goes p d e id x named is plain (inr (place, made)) =
    let f : File = record { seq = p.active.seq + 1; handle = record { 0 = d.next }; format = p.default_format; path_id = place; reserved = false } in
    let there : IsMadeAt d e (directories_of_pipe p) (id_of p.queue (p.active.seq + 1)) place = subst (λ (y : FileId). IsMadeAt d e (directories_of_pipe p) y place) is made in
    let bare = made_bare d e (directories_of_pipe p) (id_of p.queue (p.active.seq + 1)) f refl there in
    inr (
      f,
      made_behind p d e e f named refl there refl (stays e e d.next refl),
      short_none (id_of p.queue f.seq) (e.file d.next) (omega (arith, ap (λ (s : FileState). s.greatest) bare))
          (fresh_plain (id_of p.queue f.seq) p.default_format (e.file d.next) plain (bare_fresh (spelled_header p.default_format) (e.file d.next) (empty_bare (e.file d.next) bare))),
    )

module _ (p : SinglePipe) (d e g : Disk) (f : File) (id : FileId) (named : IsNamed d) (is : id ≡ id_of p.queue (p.active.seq + 1)) (seq : f.seq ≡ p.active.seq + 1) (made : IsMadeIn d e (directories_of_pipe p) id (Ok f)) where
  made_there : IsMadeAt d e (directories_of_pipe p) (id_of p.queue (p.active.seq + 1)) f.path_id
  made_there = subst (λ (y : FileId). IsMadeAt d e (directories_of_pipe p) y f.path_id) is made.1

  pub unbegun_goes : (x y : IoFault) → IsBegun e g f (Err y) → (e.file f.handle.0 ≡ no_bytes → (id : FileId) → IsUnaligned id (g.file f.handle.0)) → GoesOn p d g (Err x)
  unbegun_goes x y begun plain =
      let bare = made_bare d e (directories_of_pipe p) (id_of p.queue (p.active.seq + 1)) f made.0 made_there in
      inr (
        f,
        made_behind p d e g f named seq made_there made.0 begun.0,
        short_none (id_of p.queue f.seq) (g.file f.handle.0) (omega (arith, begun.1, ap (λ (s : FileState). s.greatest) bare)) (plain bare (id_of p.queue f.seq)),
      )

  pub begun_goes : (w : LogFileWriter) → IsPlain f.format → IsBegun e g f (Ok w) → GoesOn p d g (Ok (f, w))
  begun_goes w plain begun =
      let bare = made_bare d e (directories_of_pipe p) (id_of p.queue (p.active.seq + 1)) f made.0 made_there in (
        made_behind p d e g f named seq made_there made.0 (begun_changes e g f w begun),
        begun_stored e g f p.queue w (new_empty (spelled_header f.format) (e.file f.handle.0) bare) plain begun,
        begun.3,
        begun.4,
        omega (arith, begun.5, header_short f.format, length-header f.format),
      )

-- what the exit of a `?` answers
pub exit_goes : (p : SinglePipe) (d e : Disk) (r : Result (File × LogFileWriter) IoFault) (x : IoFault) → IsErrAnd r (λ i. i ≡ x) → GoesOn p d e (Err x) → GoesOn p d e r
exit_goes p d e r x is goes = let q = err_from_is_err_and r is in subst (GoesOn p d e) (sym (q.1 ∙ ap Err q.2)) goes
