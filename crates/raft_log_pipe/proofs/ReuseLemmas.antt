-- A reserved file that goes on: its header is written, and then it gets the next name.
use Rattle.std.proofs.Common.{◌≡◌, ◌≢◌, ◌⊎◌, inl, inr, ℕ, ◌+◌, ◌<◌, ◌≤◌, Bool, true, List, [], ◌∷◌, ◌++◌, ◌-◌, length, get_or, take, drop, map, Option, Some, None, refl, sym, ap, subst, ◌∙◌, arith, length-append}
use Rattle.std.specs.Prelude.{Result, Ok, Err, String, Vec, IfOk, IsTrue, is_some}
use Rattle.std.proofs.lemmas.Bool.{ltb-true}
use Rattle.std.specs.String.{string_bytes}
use Rattle.std.specs.List.{AllByRecursion}
use Rattle.std.specs.declared.alloc.Global.{Global}
use Rattle.std.proofs.lemmas.List.{append-nil, take_all, take_at, length-map}
use Rattle.raft_log_records.specs.declared.file_id.FileId.{FileId}
use Rattle.raft_log_records.specs.declared.file_id.LogQueue.{LogQueue}
use Rattle.raft_log_records.specs.declared.file_id.LogQueue.TheVariants.{Append}
use Rattle.raft_log_disk.specs.declared.fault.IoFault.{IoFault}
use Rattle.raft_log_disk.specs.declared.format.LogFileFormat.{LogFileFormat}
use Rattle.raft_log_disk.specs.Text.{Text}
use Rattle.raft_log_disk.specs.Name.{log_file_of}
use Rattle.raft_log_disk.specs.Disk.{Disk, FileState, HasDirectory, IsIn, IsNamed, IsNoFile, IsNoMove, Renames, after_sync, after_write, fd_of, moved, put, renamed}
use Rattle.raft_log_disk.specs.Format.{spelled_header}
use Rattle.raft_log_disk.proofs.DiskLemmas.{moved_gone, moved_other, other_file, same_file}
use Rattle.raft_log_disk.proofs.NameLemmas.{moved_there}
use Rattle.raft_log_files.specs.FileName.{IsFileSeq, log_file_name, reserved_name}
use Rattle.raft_log_file.specs.declared.writer.LogFileWriter.{LogFileWriter}
use Rattle.raft_log_file.specs.Laws.{file_text}
use Rattle.raft_log_file.specs.Writer.{IsWriter}
use Rattle.raft_log_file.proofs.HeaderLemmas.{length-header}
use Rattle.raft_log_pipe.specs.declared.file.File.{File}
use Rattle.raft_log_pipe.specs.declared.file.ReservedFile.{ReservedFile}
use Rattle.raft_log_pipe.specs.declared.pipe.SinglePipe.{SinglePipe}
use Rattle.raft_log_pipe.specs.Alone.{directories_of_pipe, path_in}
use Rattle.raft_log_pipe.specs.Begun.{Changes, IsBegun}
use Rattle.raft_log_pipe.specs.Kept.{with_reserved}
use Rattle.raft_log_pipe.specs.Next.{GoesOn, IsBehind, KeepsAllLogs, TakesFirst, next_in}
use Rattle.raft_log_pipe.specs.Others.{IsOther, KeepsOthers}
use Rattle.raft_log_pipe.specs.Pipe.{id_of, IsPipe, IsPlain}
use Rattle.raft_log_pipe.specs.Purging.{AreLastOf}
use Rattle.raft_log_pipe.specs.Reserved.{AreReserved, IsReserved, IsReservedPath, is_before, reserved_path}
use Rattle.raft_log_pipe.specs.Stored.{IsStored}
use Rattle.raft_log_pipe.specs.Taken.{IsBarred, path_behind}
use Rattle.raft_log_pipe.proofs.AloneLemmas.{found_in, mapped_at, none_some, said_in}
use Rattle.raft_log_pipe.proofs.BehindLemmas.{stored_none}
use Rattle.raft_log_pipe.proofs.KeptLemmas.{writer_same}
use Rattle.raft_log_pipe.proofs.NextLemmas.{header_short, path_at}
use Rattle.raft_log_pipe.proofs.TakenLemmas.{named_there}
use Rattle.raft_log_pipe.proofs.OthersLemmas.{below_next_name, found_there, one_path}
use Rattle.raft_log_pipe.proofs.PipeLemmas.{file_beside, file_there}
use Rattle.raft_log_pipe.proofs.PurgeLemmas.{same_number}
use Rattle.raft_log_pipe.proofs.ReservedLemmas.{held_path, not_same, one_kept, one_number, reserved_no_log, reserved_says, says_none}

-- ---- the next name is free

pub next_is : (p : SinglePipe) (place : ℕ) (dir : String Global) (path : Text) → place < length p.paths.items → dir ≡ get_or p.paths.items place dir → path ≡ string_bytes dir ++ 47 ∷ log_file_name (id_of p.queue (p.active.seq + 1)) → path ≡ next_in p place
next_is p place dir path within at is = is ∙ ap (λ (l : Text). l ++ 47 ∷ log_file_name (id_of p.queue (p.active.seq + 1))) (sym (mapped_at p.paths.items place dir within at))

pub next_free : (p : SinglePipe) (d : Disk) (place : ℕ) (dir : String Global) (path : Text) → IsPipe p d → IsFileSeq (p.active.seq + 1) → place < length p.paths.items → dir ≡ get_or p.paths.items place dir
    → path ≡ string_bytes dir ++ 47 ∷ log_file_name (id_of p.queue (p.active.seq + 1)) → fd_of d.names path ≡ None
next_free p d place dir path pipe number within at is =
    pipe.last path (p.active.seq + 1) (omega arith) number (path_at p.paths.items place dir (id_of p.queue (p.active.seq + 1)) path within at is)

-- ---- the first reserved file

pub split_first : (fs : List ReservedFile) (f : ReservedFile) → 0 < length fs → f ≡ get_or fs 0 f → fs ≡ f ∷ drop 1 fs
split_first [] f some at = absurd (omega (arith, some))
split_first (g ∷ fs) f some at = ap (λ (x : ReservedFile). x ∷ fs) (sym at)

pub first_reserved : (p : SinglePipe) (d : Disk) (r : ReservedFile) → IsPipe p d → 0 < length p.reserved.items → r ≡ get_or p.reserved.items 0 r → AreReserved p.queue (directories_of_pipe p) d (r ∷ drop 1 p.reserved.items)
first_reserved p d r pipe some at = subst (AreReserved p.queue (directories_of_pipe p) d) (split_first p.reserved.items r some at) pipe.reserved

pub first_within : (p : SinglePipe) (d : Disk) (r : ReservedFile) → IsReserved p.queue (directories_of_pipe p) d r → r.path_id < length p.paths.items
first_within p d r is = omega (arith, is.within, length-map p.paths.items string_bytes)

-- ---- its header was perhaps written

-- a reserved file is there
pub reserved_there : (queue : LogQueue) (directories : List Text) (d : Disk) (r : ReservedFile) (is : IsReserved queue directories d r) → IsNoFile d is.fd → ⊥
reserved_there queue directories d r is none = none (named_there d.names (reserved_path directories r.path_id r.seq) is.fd is.there)

module _ (queue : LogQueue) (directories : List Text) (d e : Disk) (r : ReservedFile) (named : IsNamed d) (is : IsReserved queue directories d r) (change : Changes d e is.fd) where
  -- of one path
  its_path : (path : Text) (n : ℕ) → IsIn (path, n) d.names → n ≡ is.fd → path ≡ reserved_path directories r.path_id r.seq
  its_path path n there same = one_path d.names d.next path (reserved_path directories r.path_id r.seq) is.fd named (subst (λ (m : ℕ). IsIn (path, m) d.names) same there) is.there

  log_apart : (path : Text) (id : FileId) (n : ℕ) → log_file_of path ≡ Some id → IsIn (path, n) d.names → n ≢ is.fd
  log_apart path id n says there same = says_none path id (ap log_file_of (its_path path n there same) ∙ reserved_no_log queue directories d r is) says

  other_apart : (path : Text) (n : ℕ) → IsOther queue path → IsIn (path, n) d.names → n ≢ is.fd
  other_apart path n other there same = other.1 (subst (IsReservedPath queue) (sym (its_path path n there same)) (reserved_says queue directories d r is))

  pub header_logs : KeepsAllLogs d e
  header_logs = record {
    names = λ path id says none. ap (λ (y : Disk). fd_of y.names path) change;
    files = λ path id fd says found. file_beside d e is.fd fd change (log_apart path id fd says (found_in d.names path fd found));
    next = omega (arith, ap (λ (y : Disk). y.next) change);
  }

  pub header_others : KeepsOthers queue d e
  header_others = record {
    stay = λ path fd other there. (subst (λ (y : Disk). IsIn (path, fd) y.names) (sym change) there, file_beside d e is.fd fd change (other_apart path fd other there));
    none = λ path fd other there. subst (λ (y : Disk). IsIn (path, fd) y.names) change there;
    next = omega (arith, ap (λ (y : Disk). y.next) change);
    directories = ap (λ (y : Disk). y.directories) change;
  }

-- it is found by its path
pub opened_is : (queue : LogQueue) (directories : List Text) (d : Disk) (r : ReservedFile) (path : Text) (n : ℕ) → IsNamed d → (is : IsReserved queue directories d r) → path ≡ reserved_path directories r.path_id r.seq → fd_of d.names path ≡ Some n → n ≡ is.fd
opened_is queue directories d r path n named is path_is found =
    same_number n is.fd (sym found ∙ ap (fd_of d.names) path_is ∙ found_there d.names d.next (reserved_path directories r.path_id r.seq) is.fd named is.there)

pub is_there : (queue : LogQueue) (directories : List Text) (d : Disk) (r : ReservedFile) (path : Text) → IsNamed d → (is : IsReserved queue directories d r) → path ≡ reserved_path directories r.path_id r.seq → fd_of d.names path ≡ None → ⊥
is_there queue directories d r path named is path_is none =
    none_some (fd_of d.names path) is.fd none (ap (fd_of d.names) path_is ∙ found_there d.names d.next (reserved_path directories r.path_id r.seq) is.fd named is.there)

-- it can be renamed
pub can_move : (p : SinglePipe) (d e : Disk) (r : ReservedFile) (from to : Text) → IsNamed d → (is : IsReserved p.queue (directories_of_pipe p) d r) → Changes d e is.fd → IsFileSeq (p.active.seq + 1) → from ≡ reserved_path (directories_of_pipe p) r.path_id r.seq
    → to ≡ next_in p r.path_id → IsNoMove e from to → ⊥
can_move p d e r from to named is change number from_is to_is (inl none) =
    let own : Text = reserved_path (directories_of_pipe p) r.path_id r.seq in
    none_some (fd_of d.names own) is.fd (ap (fd_of d.names) (sym from_is) ∙ ap (λ (y : Disk). fd_of y.names from) (sym change) ∙ none) (found_there d.names d.next own is.fd named is.there)
can_move p d e r from to named is change number from_is to_is (inr none) =
    none (subst (λ (t : Text). HasDirectory e.directories t) (sym to_is) (subst (λ (l : List Text). HasDirectory l (next_in p r.path_id)) (sym (ap (λ (y : Disk). y.directories) change))
    (held_path d.directories (get_or (directories_of_pipe p) r.path_id []) (id_of p.queue (p.active.seq + 1)) number is.directory)))

-- a directory with the next path bars the way
pub barred_by : (p : SinglePipe) (d e : Disk) (r : ReservedFile) (rs : List ReservedFile) (to : Text) → p.reserved.items ≡ r ∷ rs → e.directories ≡ d.directories → to ≡ next_in p r.path_id → IsIn to e.directories → IsBarred p d
barred_by p d e r rs to is same to_is there =
    inr (subst (λ (l : List ReservedFile). IsIn (path_behind l p.paths.items (id_of p.queue (p.active.seq + 1))) d.directories) (sym is) (subst (λ (t : Text). IsIn t d.directories) to_is (subst (IsIn to) same there)))

-- ---- then it got the next name

-- a file whose header was written and synced, under a new name, has no batches
renamed_stored : (id : FileId) (format : LogFileFormat) (f : FileState) (rest : List ℕ) → IsPlain format → f.bytes ≡ spelled_header format ++ rest → IsStored id format [] [] (length (spelled_header format)) (renamed (after_sync f))
renamed_stored id format f rest plain is =
    let header : List ℕ = spelled_header format in
    let text : file_text id format [] ≡ header = append-nil header in
    let front : take (length header) f.bytes ≡ header = ap (take (length header)) is ∙ take_at header rest (length header) refl in
    record {
      unsynced = record {
        spellable = plain.0;
        plain = plain.1;
        synced = tt;
        others = tt;
        kept = ap (λ (l : List ℕ). take (length l) f.bytes) text ∙ front ∙ sym text;
        least = omega (arith, ap length text, ap length is, length-append header rest);
        outside = λ i lt. tt;
        older = [];
        later = refl;
        before = tt;
        earlier = λ at bytes past some there stands. absurd there;
      };
      place = sym (ap length text);
      front = front ∙ sym text;
      behind = inl (record { earlier = tt; later = tt });
    }

module _ (p : SinglePipe) (d e g : Disk) (r : ReservedFile) (rs : List ReservedFile) (from to : Text) (named : IsNamed d) (named_e : IsNamed e) (named_g : IsNamed g) (number : IsFileSeq (p.active.seq + 1))
    (all : AreReserved p.queue (directories_of_pipe p) d (r ∷ rs)) (change : Changes d e all.0.fd) (from_is : from ≡ reserved_path (directories_of_pipe p) r.path_id r.seq) (to_is : to ≡ next_in p r.path_id)
    (free : fd_of d.names to ≡ None) (renames : Renames e g from to) where
  abbrev directories : List Text
  directories = directories_of_pipe p

  names_are : e.names ≡ d.names
  names_are = ap (λ (y : Disk). y.names) change

  own : fd_of d.names from ≡ Some all.0.fd
  own = ap (fd_of d.names) from_is ∙ found_there d.names d.next (reserved_path directories r.path_id r.seq) all.0.fd named all.0.there

  fd_is : renames.0 ≡ all.0.fd
  fd_is = same_number renames.0 all.0.fd (sym renames.1 ∙ ap (λ (l : List (Text × ℕ)). fd_of l from) names_are ∙ own)

  names_then : g.names ≡ moved d.names from to
  names_then = ap (λ (y : Disk). y.names) renames.2 ∙ ap (λ (l : List (Text × ℕ)). moved l from to) names_are

  from_none : log_file_of from ≡ None
  from_none = ap log_file_of from_is ∙ reserved_no_log p.queue directories d r all.0

  to_says : log_file_of to ≡ Some (id_of p.queue (p.active.seq + 1))
  to_says = ap log_file_of to_is ∙ said_in directories p.queue (p.active.seq + 1) r.path_id number

  -- another path names what it named
  beside : (path : Text) → (path ≡ from → ⊥) → (path ≡ to → ⊥) → fd_of g.names path ≡ fd_of d.names path
  beside path not_from not_to = ap (λ (l : List (Text × ℕ)). fd_of l path) names_then ∙ moved_other d.names from to path (not_same from path (λ same. not_from (sym same))) (not_same to path (λ same. not_to (sym same)))

  not_from : (path : Text) (id : FileId) → log_file_of path ≡ Some id → path ≡ from → ⊥
  not_from path id says same = says_none path id (ap log_file_of same ∙ from_none) says

  file_then : (n : ℕ) → n ≢ all.0.fd → g.file n ≡ e.file n
  file_then n apart = ap (λ (y : Disk). y.file n) renames.2 ∙ other_file n renames.0 (renamed (e.file renames.0)) (e.file n) (λ same. apart (same ∙ fd_is))

  there_then : fd_of g.names to ≡ Some all.0.fd
  there_then = ap (λ (l : List (Text × ℕ)). fd_of l to) names_then ∙ moved_there d.names from to all.0.fd free own

  next_then : g.next ≡ d.next
  next_then = ap (λ (y : Disk). y.next) renames.2 ∙ ap (λ (y : Disk). y.next) change

  pub reused_behind : (f : File) → f.seq ≡ p.active.seq + 1 → f.path_id ≡ r.path_id → f.handle.0 ≡ all.0.fd → IsBehind p d g f
  reused_behind f seq place handle =
      let here : to ≡ next_in p f.path_id = to_is ∙ ap (next_in p) (sym place) in
      record {
        seq = seq;
        within = omega (arith, place, all.0.within, length-map p.paths.items string_bytes);
        free = ap (fd_of d.names) (sym here) ∙ free;
        there = ap (fd_of g.names) (sym here) ∙ there_then ∙ ap (λ (n : ℕ). Some n) (sym handle);
        known = omega (arith, handle, next_then, below_next_name d.names d.next (reserved_path directories r.path_id r.seq) all.0.fd named all.0.there);
        logs = record {
          names = λ path id says apart. beside path (not_from path id says) (λ same. apart (same ∙ here));
          files = λ path id fd says found.
              let not = log_apart p.queue directories d e r named all.0 change path id fd says (found_in d.names path fd found) in
              file_then fd not ∙ file_beside d e all.0.fd fd change not;
          next = omega (arith, next_then);
        };
      }

  pub reused_others : KeepsOthers p.queue d g
  reused_others = record {
    stay = λ path fd other there.
        let not = other_apart p.queue directories d e r named all.0 change path fd other there in (
          found_in g.names path fd (other_then path other ∙ found_there d.names d.next path fd named there),
          file_then fd not ∙ file_beside d e all.0.fd fd change not,
        );
    none = λ path fd other there. found_in d.names path fd (sym (other_then path other) ∙ found_there g.names g.next path fd named_g there);
    next = omega (arith, next_then);
    directories = ap (λ (y : Disk). y.directories) renames.2 ∙ ap (λ (y : Disk). y.directories) change;
  }
    where
      other_then : (path : Text) → IsOther p.queue path → fd_of g.names path ≡ fd_of d.names path
      other_then path other =
          beside path (λ same. other.1 (subst (IsReservedPath p.queue) (sym (same ∙ from_is)) (reserved_says p.queue directories d r all.0))) (λ same. other.0 (p.active.seq + 1) (ap log_file_of same ∙ to_says))

  -- the others stay reserved
  one_left : (s : ReservedFile) → r.seq < s.seq → IsReserved p.queue directories d s → IsReserved p.queue directories g s
  one_left s more is =
      let path : Text = reserved_path directories s.path_id s.seq in
      one_kept p.queue directories d g s is
      (found_in g.names path is.fd (beside path
      (λ same. absurd (omega (arith, more, one_number (get_or directories s.path_id []) (get_or directories r.path_id []) s.seq r.seq is.number all.0.number (same ∙ from_is))))
      (λ same. says_none path (id_of p.queue (p.active.seq + 1)) (reserved_no_log p.queue directories d s is) (ap log_file_of same ∙ to_says))
      ∙ found_there d.names d.next path is.fd named is.there))
      (ap (λ (y : Disk). y.directories) renames.2 ∙ ap (λ (y : Disk). y.directories) change)

  all_left : (ss : List ReservedFile) → AllByRecursion (λ s. r.seq < s.seq) ss → AreReserved p.queue directories d ss → AreReserved p.queue directories g ss
  all_left [] more are = tt
  all_left (s ∷ ss) more are = (one_left s more.0 are.0, are.1, all_left ss more.1 are.2)

  pub reused_left : AreReserved p.queue (directories_of_pipe p) g rs
  reused_left = all_left rs all.1 all.2

  pub reused_takes : (f : File) → f.handle.0 ≡ all.0.fd → TakesFirst (r ∷ rs) p d rs f g
  reused_takes f handle = (
    refl,
    ap (fd_of d.names) (sym from_is) ∙ own ∙ ap (λ (n : ℕ). Some n) (sym handle),
    ap (fd_of g.names) (sym from_is) ∙ ap (λ (l : List (Text × ℕ)). fd_of l from) names_then
        ∙ moved_gone d.names from to d.next named (not_same to from (λ same. says_none from (id_of p.queue (p.active.seq + 1)) from_none (ap log_file_of (sym same) ∙ to_says))),
    ap (fd_of g.names) (sym to_is) ∙ there_then ∙ ap (λ (n : ℕ). Some n) (sym handle),
  )

  -- ---- the file

  file_is : g.file all.0.fd ≡ renamed (e.file all.0.fd)
  file_is = subst (λ (n : ℕ). g.file n ≡ renamed (e.file n)) fd_is (ap (λ (y : Disk). y.file renames.0) renames.2 ∙ same_file renames.0 (renamed (e.file renames.0)) (e.file renames.0))

  module _ (f : File) (w : LogFileWriter) (handle : f.handle.0 ≡ all.0.fd) (begun : IsBegun d e f (Ok w)) where
    pub reused_stored : IsPlain f.format → (id : FileId) → IsStored id f.format [] [] w.offset (g.file f.handle.0)
    reused_stored plain id =
        let n : ℕ = f.handle.0 in
        let header : List ℕ = spelled_header f.format in
        let b : Disk = begun.0 in
        let a : Disk = begun.1.between in
        let rest : List ℕ = drop (0 + length header) (a.file n).bytes in
        let written : b.file n ≡ after_write (a.file n) 0 header (put (a.file n).bytes 0 header) = file_there a b n _ begun.1.writes in
        let synced : e.file n ≡ after_sync (b.file n) = file_there b e n _ begun.2 in
        let is : g.file n ≡ renamed (after_sync (b.file n)) = ap g.file handle ∙ file_is ∙ ap (λ (m : ℕ). renamed (e.file m)) (sym handle) ∙ ap renamed synced in
        subst (λ (m : ℕ). IsStored id f.format [] [] m (g.file n)) (length-header f.format ∙ sym begun.5)
        (subst (IsStored id f.format [] [] (length header)) (sym is) (renamed_stored id f.format (b.file n) rest plain (ap (λ (x : FileState). x.bytes) written)))

    pub reused_writer : IsWriter w g
    reused_writer =
        let fd : w.fd.0 ≡ all.0.fd = ap (λ h. h.0) begun.4 ∙ handle in
        writer_same w e g (ap (λ (x : FileState). length x.bytes) (ap g.file fd ∙ file_is ∙ ap (λ (m : ℕ). renamed (e.file m)) (sym fd))) begun.3

  -- or perhaps it got it
  pub reused_goes : (f : File) (w : LogFileWriter) → f.seq ≡ p.active.seq + 1 → f.path_id ≡ r.path_id → f.handle.0 ≡ all.0.fd → IsPlain f.format → IsBegun d e f (Ok w) → GoesOn p d g (Ok (f, w))
  reused_goes f w seq place handle plain begun = (
    reused_behind f seq place handle,
    reused_stored f w handle begun plain (id_of p.queue f.seq),
    reused_writer f w handle begun,
    begun.4,
    omega (arith, begun.5, header_short f.format, length-header f.format),
  )

  pub half_goes : (f : File) (w : LogFileWriter) (x : IoFault) → f.seq ≡ p.active.seq + 1 → f.path_id ≡ r.path_id → f.handle.0 ≡ all.0.fd → IsPlain f.format → IsBegun d e f (Ok w) → GoesOn p d g (Err x)
  half_goes f w x seq place handle plain begun =
      inr (f, reused_behind f seq place handle, stored_none (id_of p.queue f.seq) f.format w.offset (g.file f.handle.0) (reused_stored f w handle begun plain (id_of p.queue f.seq)))

-- it got its header, and then perhaps its name
module _ (p : SinglePipe) (d e g : Disk) (r : ReservedFile) (rs : List ReservedFile) (from to : Text) (named : IsNamed d) (named_e : IsNamed e) (named_g : IsNamed g) (number : IsFileSeq (p.active.seq + 1))
    (all : AreReserved p.queue (directories_of_pipe p) d (r ∷ rs)) (change : Changes d e all.0.fd) (from_is : from ≡ reserved_path (directories_of_pipe p) r.path_id r.seq) (to_is : to ≡ next_in p r.path_id)
    (free : fd_of d.names to ≡ None) where
  pub perhaps_goes : (f : File) (w : LogFileWriter) (x : IoFault) → f.seq ≡ p.active.seq + 1 → f.path_id ≡ r.path_id → f.handle.0 ≡ all.0.fd → IsPlain f.format → IsBegun d e f (Ok w) → (g ≡ e) ⊎ Renames e g from to → GoesOn p d g (Err x)
  perhaps_goes f w x seq place handle plain begun (inl same) =
      inl (subst (KeepsAllLogs d) (sym same) (header_logs p.queue (directories_of_pipe p) d e r named all.0 change))
  perhaps_goes f w x seq place handle plain begun (inr renames) =
      half_goes p d e g r rs from to named named_e named_g number all change from_is to_is free renames f w x seq place handle plain begun

  pub perhaps_others : (g ≡ e) ⊎ Renames e g from to → KeepsOthers p.queue d g
  perhaps_others (inl same) = subst (KeepsOthers p.queue d) (sym same) (header_others p.queue (directories_of_pipe p) d e r named all.0 change)
  perhaps_others (inr renames) = reused_others p d e g r rs from to named named_e named_g number all change from_is to_is free renames

-- ---- one call after another

-- the same files are reserved
pub left_same : (a b : Vec ReservedFile Global) → b ≡ a → AreLastOf a.items b.items
left_same a b same = (0, ap (λ (v : Vec ReservedFile Global). v.items) same)

-- what the call of a pipe with the same last file takes
pub takes_before : (p q : SinglePipe) (d e g : Disk) (left : List ReservedFile) (f : File) → q.active ≡ p.active → q.queue ≡ p.queue → q.paths ≡ p.paths → q.reserved ≡ p.reserved → e.next ≡ d.next → e.names ≡ d.names → TakesFirst q.reserved.items q e left f g
    → TakesFirst p.reserved.items p d left f g
takes_before p q d e g left f active queue paths reserved next names takes = by_list p.reserved.items (subst (λ (v : Vec ReservedFile Global). TakesFirst v.items q e left f g) reserved takes)
  where
    by_list : (rs : List ReservedFile) → TakesFirst rs q e left f g → TakesFirst rs p d left f g
    by_list [] (left_is, new) = (left_is, new ∙ next)
    by_list (r ∷ rs) (left_is, handle, gone, there) = (
      left_is,
      (λ i. fd_of (sym names i) (reserved_path (map string_bytes (sym paths i).items) r.path_id r.seq)) ∙ handle,
      (λ i. fd_of g.names (reserved_path (map string_bytes (sym paths i).items) r.path_id r.seq)) ∙ gone,
      (λ i. fd_of g.names (path_in (map string_bytes (sym paths i).items) r.path_id (id_of (sym queue i) ((sym active i).seq + 1)))) ∙ there,
    )

-- ---- which files are reserved

pub reserved_found : (queue : LogQueue) (directories : List Text) (d : Disk) (f : ReservedFile) (path directory : Text) → queue ≡ Append → IsFileSeq f.seq → f.path_id < length directories → path ≡ directory ++ 47 ∷ reserved_name f.seq
    → directory ≡ get_or directories f.path_id [] → IsIn directory d.directories → is_some (fd_of d.names path) ≡ true → IsReserved queue directories d f
reserved_found queue directories d f path directory own number within is at there found =
    let path_is : path ≡ reserved_path directories f.path_id f.seq = is ∙ ap (λ (l : Text). l ++ 47 ∷ reserved_name f.seq) at in
    let named = by_option (fd_of d.names path) refl found in
    record {
      own = own;
      number = number;
      within = within;
      fd = named.0;
      there = subst (λ (t : Text). IsIn (t, named.0) d.names) path_is (found_in d.names path named.0 named.1);
      directory = subst (λ (t : Text). IsIn t d.directories) at there;
    }
  where
    by_option : (o : Option ℕ) → fd_of d.names path ≡ o → is_some o ≡ true → (n : ℕ) × (fd_of d.names path ≡ Some n)
    by_option None same some = absurd cc
    by_option (Some n) same some = (n, same)

pub reserved_is_file : (queue : LogQueue) (directories : List Text) (d : Disk) (f : ReservedFile) (path : Text) → IsNamed d → path ≡ reserved_path directories f.path_id f.seq → IsReserved queue directories d f → is_some (fd_of d.names path) ≡ true
reserved_is_file queue directories d f path named path_is is = ap is_some (ap (fd_of d.names) path_is ∙ found_there d.names d.next (reserved_path directories f.path_id f.seq) is.fd named is.there)

ok_more : {T E : Type 0} (r : Result T E) (P Q : T → Type 0) → ((x : T) → P x → Q x) → IfOk r P → IfOk r Q
ok_more (Ok x) P Q f p = f x p
ok_more (Err e) P Q f p = tt

rising : (queue : LogQueue) (directories : List Text) (d : Disk) (f : ReservedFile) (fs : List ReservedFile) → is_before f fs ≡ true → AreReserved queue directories d fs → AllByRecursion (λ g. f.seq < g.seq) fs
rising queue directories d f [] before all = tt
rising queue directories d f (g ∷ fs) before all = let low = ltb-true f.seq g.seq before in (low, above fs all.1 low)
  where
    above : (hs : List ReservedFile) → AllByRecursion (λ h. g.seq < h.seq) hs → f.seq < g.seq → AllByRecursion (λ h. f.seq < h.seq) hs
    above [] more low = tt
    above (h ∷ hs) more low = (omega (arith, more.0, low), above hs more.1 low)

-- the first one, and the others behind it
pub all_reserved : {E : Type 0} (r : Result Bool E) (queue : LogQueue) (directories : List Text) (d : Disk) (fs : List ReservedFile) (x : ReservedFile) → 1 ≤ length fs → IsReserved queue directories d (get_or fs 0 x)
    → is_before (get_or fs 0 x) (take (length fs - 1) (drop 1 fs)) ≡ true → IfOk r (λ b. IsTrue b → AreReserved queue directories d (take (length fs - 1) (drop 1 fs))) → IfOk r (λ b. IsTrue b → AreReserved queue directories d fs)
all_reserved r queue directories d [] x some first before rest = absurd (omega (arith, some))
all_reserved r queue directories d (f ∷ fs) x some first before rest =
    let whole : take (length (f ∷ fs) - 1) fs ≡ fs = take_all (length (f ∷ fs) - 1) fs (omega arith) in
    ok_more r (λ b. IsTrue b → AreReserved queue directories d (take (length (f ∷ fs) - 1) fs)) (λ b. IsTrue b → AreReserved queue directories d (f ∷ fs))
    (λ b tells yes. let all = subst (AreReserved queue directories d) whole (tells yes) in (first, rising queue directories d f fs (ap (is_before f) (sym whole) ∙ before) all, all)) rest

-- ---- the pipe with other reserved files

pub pipe_with : (p : SinglePipe) (d : Disk) (rs : Vec ReservedFile Global) (capacity : ℕ) → IsPipe p d → AreReserved p.queue (directories_of_pipe p) d rs.items → IsPipe (with_reserved p rs capacity) d
pipe_with p d rs capacity pipe all = record {
  writer = pipe.writer;
  handle = pipe.handle;
  plain = pipe.plain;
  paths = pipe.paths;
  numbers = pipe.numbers;
  last = pipe.last;
  named = pipe.named;
  placed = pipe.placed;
  there = pipe.there;
  apart = pipe.apart;
  olders = pipe.olders;
  reserved = all;
}
