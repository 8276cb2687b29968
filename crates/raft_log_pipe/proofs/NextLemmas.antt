-- A new file: its name, its header, and the pipe that goes on with it.
use Rattle.std.proofs.Common.{◌≡◌, ◌≢◌, ◌⊎◌, inl, inr, ⊎_elim, ℕ, zero, suc, ◌+◌, ◌-◌, ◌<◌, ◌≤◌, ◌^◌, min, max, Bool, true, false, cond, nat_lt, List, [], ◌∷◌, ◌++◌, length, get_or, drop, Option, Some, None, refl, sym, ap, subst, ◌∙◌, arith, append_assoc, length-append}
use Rattle.std.specs.Prelude.{Result, Ok, Err, String, replicate, ◌==◌, ◌&&◌}
use Rattle.std.specs.String.{string_bytes}
use Rattle.std.specs.declared.alloc.Global.{Global}
use Rattle.std.proofs.lemmas.Bool.{eq-eqb, lt-ltb}
use Rattle.std.proofs.lemmas.List.{drop_at, length-drop, length-replicate}
use Rattle.std.proofs.Math.Seq.{get_or-append_seam}
use lib.Pointwise.{bytes_decides}
use Rattle.raft_log_records.specs.declared.file_id.FileId.{FileId}
use Rattle.raft_log_records.specs.declared.file_id.LogQueue.{LogQueue}
use Rattle.raft_log_records.specs.declared.file_id.LogQueue.TheVariants.{Append, Rewrite}
use Rattle.raft_log_disk.specs.declared.fault.IoFault.{IoFault}
use Rattle.raft_log_disk.specs.declared.format.LogFileFormat.{LogFileFormat}
use Rattle.raft_log_disk.specs.Text.{Text, same_text}
use Rattle.raft_log_disk.specs.Name.{file_id_of, log_file_of, queued, suffix_of}
use Rattle.raft_log_disk.specs.Disk.{Disk, FileState, IsIn, after_create, after_sync, after_write, fd_of, filled, no_bytes, put, with_file}
use Rattle.raft_log_records.specs.declared.version.Version.{Version}
use Rattle.raft_log_records.specs.declared.version.Version.TheVariants.{V1, V2}
use Rattle.raft_log_disk.specs.Format.{header_len, spelled_header}
use Rattle.raft_log_disk.proofs.DiskLemmas.{other_file, pushed_other, same_file}
use Rattle.raft_log_files.specs.FileName.{IsFileSeq, log_file_name, suffixed}
use Rattle.raft_log_files.proofs.DigitLemmas.{name_split}
use Rattle.raft_log_file.specs.declared.writer.LogFileWriter.{LogFileWriter}
use Rattle.raft_log_file.specs.Writer.{IsAppended, IsOpened, IsReady, IsWriter, MakesRoom, Writes, writer_at}
use Rattle.raft_log_file.proofs.HeaderLemmas.{length-header}
use Rattle.raft_log_pipe.specs.declared.file.File.{File}
use Rattle.raft_log_pipe.specs.Begun.{Changes, IsBegun}
use Rattle.raft_log_pipe.specs.Placing.{Creates, IsCreated}
use Rattle.raft_log_pipe.specs.Stored.{IsStored}
use Rattle.raft_log_pipe.specs.Pipe.{id_of, AreConsecutive, HasPath, IsLast, IsNamedSo, IsPlain}
use Rattle.raft_log_pipe.proofs.StoredLemmas.{IsNew, stored_begun}
use Rattle.raft_log_pipe.proofs.PipeLemmas.{Keeps, changes, changes_on, file_beside, file_there, names_kept, stays}
use Rattle.raft_log_pipe.proofs.ChangeLemmas.{appended_changes, synced_writer}

-- ---- names

suffix_len : (queue : LogQueue) → length (suffix_of queue) ≡ 8
suffix_len Append = refl
suffix_len Rewrite = refl

queued_so : (queue : LogQueue) (seq : ℕ) → queued (suffix_of queue) seq ≡ Some (id_of queue seq)
queued_so Append seq = refl
queued_so Rewrite seq = refl

pub both : {a b : Bool} → a ≡ true → b ≡ true → (a && b) ≡ true
both x y = (λ i. x i && y i)

id_said : (id : FileId) (name : Text) → IsFileSeq id.seq → name ≡ suffixed id.seq (suffix_of id.queue) → (length name ≡ 24) × (file_id_of name ≡ Some id)
id_said id name below is =
    let s = name_split id.seq (suffix_of id.queue) name below is in
    let long : length name ≡ 24 = omega (arith, s.0.long, ap length s.0.behind, suffix_len id.queue, length-drop 16 name) in (
      long,
      (λ i. cond (both (eq-eqb (length name) 24 long) s.0.front i) (queued (s.0.behind i) (s.1 i)) None) ∙ queued_so id.queue id.seq,
    )

-- the path of a log file in a directory says which it is
pub path_says : (directory name path : Text) (id : FileId) → IsFileSeq id.seq → name ≡ log_file_name id → path ≡ directory ++ 47 ∷ name → log_file_of path ≡ Some id
path_says directory name path id below is path_is =
    let said = id_said id name below is in
    let n : ℕ = length directory in
    let long : length path ≡ n + 25 = omega (arith, ap length path_is, length-append directory (47 ∷ name), said.0) in
    let before : length path - 25 ≡ n = omega (arith, long) in
    let slash : get_or path (length path - 25) 0 ≡ 47 = (λ i. get_or (path_is i) (before i) 0) ∙ get_or-append_seam directory 47 name 0 in
    let start : length path - 24 ≡ length (directory ++ 47 ∷ []) = omega (arith, long, length-append directory (47 ∷ [])) in
    let behind : drop (length path - 24) path ≡ name = (λ i. drop (start i) ((path_is ∙ sym (append_assoc directory (47 ∷ []) name)) i)) ∙ drop_at (directory ++ 47 ∷ []) name (length (directory ++ 47 ∷ [])) refl in
    let test : (nat_lt 24 (length path) && (get_or path (length path - 25) 0 == 47)) ≡ true = (λ i. lt-ltb 24 (length path) (omega (arith, long)) i && eq-eqb (get_or path (length path - 25) 0) 47 slash i) in
    (λ i. cond (test i) (file_id_of (behind i)) None) ∙ said.1

-- so does each path of it in one of these directories
pub has_path_says : (dirs : List (String Global)) (id : FileId) (path : Text) → IsFileSeq id.seq → HasPath dirs id path → log_file_of path ≡ Some id
has_path_says [] id path below has = absurd has
has_path_says (dir ∷ dirs) id path below (inl is) = path_says (string_bytes dir) (log_file_name id) path id below refl is
has_path_says (dir ∷ dirs) id path below (inr has) = has_path_says dirs id path below has

pub path_at : (dirs : List (String Global)) (i : ℕ) (dir : String Global) (id : FileId) (path : Text) → i < length dirs → dir ≡ get_or dirs i dir → path ≡ string_bytes dir ++ 47 ∷ log_file_name id → HasPath dirs id path
path_at [] i dir id path within at is = absurd (omega (arith, within))
path_at (first ∷ dirs) zero dir id path within at is = inl (is ∙ ap (λ (s : String Global). string_bytes s ++ 47 ∷ log_file_name id) at)
path_at (first ∷ dirs) (suc i) dir id path within at is = inr (path_at dirs i dir id path (omega (arith, within)) at is)

-- so it is not there yet
pub free_path : (d : Disk) (dirs : List (String Global)) (id : FileId) (path : Text) → IsLast d dirs id.queue (id.seq - 1) → (0 < id.seq) × IsFileSeq id.seq → HasPath dirs id path → fd_of d.names path ≡ None
free_path d dirs id path last number has = last path id.seq (omega (arith, number.0)) number.1 has

-- a file was perhaps made under it
pub perhaps_created : (d e : Disk) (id : FileId) (path : Text) → log_file_of path ≡ Some id → fd_of d.names path ≡ None → (e ≡ d) ⊎ (e ≡ after_create d path) → (e ≡ d) ⊎ Creates d e id
perhaps_created d e id path says none (inl same) = inl same
perhaps_created d e id path says none (inr made) = inr (path, says, none, made)

-- ---- what a new file leaves of the others

in_push : (names : List (List ℕ × ℕ)) (x y : List ℕ × ℕ) → IsIn x names → IsIn x (names ++ y ∷ [])
in_push (n ∷ names) x y (inl e) = inl e
in_push (n ∷ names) x y (inr there) = inr (in_push names x y there)
in_push [] x y there = absurd there

in_last : (names : List (List ℕ × ℕ)) (y : List ℕ × ℕ) → IsIn y (names ++ y ∷ [])
in_last [] y = inl refl
in_last (n ∷ names) y = inr (in_last names y)

created_keeps : (d e : Disk) (id : FileId) → Creates d e id → Keeps d e
created_keeps d e id (path, says, none, is) x there = subst (λ (y : Disk). IsIn x y.names) (sym is) (in_push d.names x (path, d.next) there)

created_beside : (d e : Disk) (id : FileId) (n : ℕ) → Creates d e id → n ≢ d.next → e.file n ≡ d.file n
created_beside d e id n (path, says, none, is) apart = ap (λ (y : Disk). y.file n) is ∙ other_file n d.next no_bytes (d.file n) apart

pub created_here : (d e : Disk) (id : FileId) → Creates d e id → e.file d.next ≡ no_bytes
created_here d e id (path, says, none, is) = ap (λ (y : Disk). y.file d.next) is ∙ same_file d.next no_bytes (d.file d.next)

-- the disk but for a file that was made, and for that file
pub record IsMade (d g : Disk) (id : FileId) : Type 0 where
  pub between : Disk
  pub creates : Creates d between id
  pub change : Changes between g d.next

pub made_alone : (d e : Disk) (id : FileId) → Creates d e id → IsMade d e id
made_alone d e id creates = record { between = e; creates = creates; change = stays e e d.next refl }

pub made_beside : (d g : Disk) (id : FileId) (n : ℕ) → IsMade d g id → n < d.next → g.file n ≡ d.file n
made_beside d g id n made below =
    let apart : n ≢ d.next = λ e. absurd (omega (arith, below, e)) in
    file_beside made.between g d.next n made.change apart ∙ created_beside d made.between id n made.creates apart

made_keeps : (d g : Disk) (id : FileId) → IsMade d g id → Keeps d g
made_keeps d g id made x there = names_kept made.between g d.next made.change x (created_keeps d made.between id made.creates x there)

-- ---- the header of a new file

pub opened_changes : (d e : Disk) (fd : ℕ) (format : LogFileFormat) (r : Result LogFileWriter IoFault) → IsOpened d e fd format true r → Changes d e fd
opened_changes d e fd format (Ok w) (inl (long, not_reset, same, at)) = absurd cc
opened_changes d e fd format (Ok w) (inr (begins, a, at)) = appended_changes (writer_at fd 0 (length (d.file fd).bytes)) d e (spelled_header format) 0 (Ok tt) a
opened_changes d e fd format (Err x) (inl same) = stays d e fd same
opened_changes d e fd format (Err x) (inr (begins, a)) = appended_changes (writer_at fd 0 (length (d.file fd).bytes)) d e (spelled_header format) 0 (Err x) a

-- room that is made for a header ends with it
header_room : (size end : ℕ) → size < end → size + (size + max (end - size) (min 2097152 (0 - size)) - size) ≡ end
header_room size end lt = omega (arith, lt)

new_room : (header : List ℕ) (e b : Disk) (fd at len : ℕ) → IsNew header (e.file fd) → at + len ≤ length header → MakesRoom e b fd at len → IsNew header (b.file fd)
new_room header e b fd at len new le (inl is) =
    subst (IsNew header) (sym (file_there e b fd _ is))
    (⊎_elim (λ none. inl none) (λ short. inr (omega (arith, short, le, length-filled (e.file fd).bytes (at + len)))) new)
  where
    length-filled : (bytes : List ℕ) (n : ℕ) → length (filled bytes n) ≡ length bytes + (n - length bytes)
    length-filled bytes n =
        let none : ℕ = 0 in
        length-append bytes (replicate (n - length bytes) none) ∙ ap (λ m. length bytes + m) (length-replicate (n - length bytes) none)
new_room header e b fd at len new le (inr (inl same)) = subst (λ (y : Disk). IsNew header (y.file fd)) (sym same) new
new_room header e b fd at len new le (inr (inr refused)) =
    subst (IsNew header) (sym (file_there e b fd _ refused.files)) (⊎_elim (λ none. inl none) (λ short. inr (omega (arith, short, le, refused.part.no_longer))) new)

new_ready : (header : List ℕ) (e b : Disk) (fd end : ℕ) → IsNew header (e.file fd) → end ≤ length header → IsReady (writer_at fd 0 (length (e.file fd).bytes)) e b end 0 → IsNew header (b.file fd)
new_ready header e b fd end new le (inl (short, same)) = subst (λ (y : Disk). IsNew header (y.file fd)) (sym same) new
new_ready header e b fd end new le (inr (long, room)) = new_room header e b fd _ _ new (omega (arith, header_room (length (e.file fd).bytes) end long, le)) room

-- once its header is on the disk it has no batches
pub begun_stored : (e g : Disk) (f : File) (queue : LogQueue) (w : LogFileWriter) → IsNew (spelled_header f.format) (e.file f.handle.0) → IsPlain f.format → IsBegun e g f (Ok w)
    → IsStored (id_of queue f.seq) f.format [] [] w.offset (g.file f.handle.0)
begun_stored e g f queue w new plain (between, a, synced, writer, fd, offset) =
    let n : ℕ = f.handle.0 in
    let header : List ℕ = spelled_header f.format in
    let bare = new_ready header e a.between n (min (0 + length header) (2 ^ 64 - 1)) new (omega arith) a.ready in
    let is : g.file n ≡ after_sync (after_write (a.between.file n) 0 header (put (a.between.file n).bytes 0 header)) = file_there between g n _ synced ∙ ap after_sync (file_there a.between between n _ a.writes) in
    subst (λ m. IsStored (id_of queue f.seq) f.format [] [] m (g.file n)) (length-header f.format ∙ sym offset)
    (subst (IsStored (id_of queue f.seq) f.format [] [] (length header)) (sym is)
    (stored_begun (id_of queue f.seq) f.format (a.between.file n) header plain.0 plain.1 refl bare))

pub new_empty : (header : List ℕ) (f : FileState) → f ≡ no_bytes → IsNew header f
new_empty header f is = inl (ap (λ (x : FileState). x.earlier) is, ap (λ (x : FileState). x.later) is)

-- a crash leaves no more than the header of a file that begins, or what it left before
abbrev IsShort : Disk → Disk → ℕ → Type 0
IsShort d e fd = (e.file fd).greatest ≤ max (d.file fd).greatest 69

pub header_short : (format : LogFileFormat) → length (spelled_header format) ≤ 69
header_short format = omega (arith, length-header format, by_version format.version)
  where
    by_version : (v : Version) → header_len v ≤ 69
    by_version V1 = omega arith
    by_version V2 = omega arith

greatest_is : (e : Disk) (fd : ℕ) (f : FileState) → e.file fd ≡ f → (e.file fd).greatest ≡ f.greatest
greatest_is e fd f is = ap (λ (x : FileState). x.greatest) is

short_room : (d e : Disk) (fd at len : ℕ) → at + len ≤ 69 → MakesRoom d e fd at len → IsShort d e fd
short_room d e fd at len le (inl is) = omega (arith, le, greatest_is e fd _ (file_there d e fd _ is))
short_room d e fd at len le (inr (inl same)) = omega (arith, ap (λ (y : Disk). (y.file fd).greatest) same)
short_room d e fd at len le (inr (inr refused)) = omega (arith, le, greatest_is e fd _ (file_there d e fd _ refused.files))

short_ready : (d e : Disk) (fd end : ℕ) → end ≤ 69 → IsReady (writer_at fd 0 (length (d.file fd).bytes)) d e end 0 → IsShort d e fd
short_ready d e fd end le (inl (short, same)) = omega (arith, ap (λ (y : Disk). (y.file fd).greatest) same)
short_ready d e fd end le (inr (long, room)) = short_room d e fd _ _ (omega (arith, header_room (length (d.file fd).bytes) end long, le)) room

short_writes : (r : Result (Unit {0}) IoFault) (d e : Disk) (fd : ℕ) (text : List ℕ) → length text ≤ 69 → Writes r d e fd 0 text → IsShort d e fd
short_writes (Ok u) d e fd text le is = omega (arith, le, greatest_is e fd _ (file_there d e fd _ is))
short_writes (Err x) d e fd text le (inl same) = omega (arith, ap (λ (y : Disk). (y.file fd).greatest) same)
short_writes (Err x) d e fd text le (inr refused) = omega (arith, le, greatest_is e fd _ (file_there d e fd _ refused.files))

short_appended : (r : Result (Unit {0}) IoFault) (d e : Disk) (fd : ℕ) (format : LogFileFormat) → IsAppended (writer_at fd 0 (length (d.file fd).bytes)) d e (spelled_header format) 0 r → IsShort d e fd
short_appended r d e fd format a =
    let le = header_short format in
    omega (arith, short_ready d a.between fd _ (omega (arith, le)) a.ready, short_writes r a.between e fd (spelled_header format) le a.writes)

pub opened_short : (d e : Disk) (fd : ℕ) (format : LogFileFormat) (r : Result LogFileWriter IoFault) → IsOpened d e fd format true r → IsShort d e fd
opened_short d e fd format (Ok w) (inl (long, not_reset, same, at)) = absurd cc
opened_short d e fd format (Ok w) (inr (begins, a, at)) = short_appended (Ok tt) d e fd format a
opened_short d e fd format (Err x) (inl same) = omega (arith, ap (λ (y : Disk). (y.file fd).greatest) same)
opened_short d e fd format (Err x) (inr (begins, a)) = short_appended (Err x) d e fd format a

pub unsynced_short : (d e g : Disk) (fd : ℕ) → IsShort d e fd → g ≡ e → IsShort d g fd
unsynced_short d e g fd short same = omega (arith, short, ap (λ (y : Disk). (y.file fd).greatest) same)

-- a file whose header was written and synced has begun
pub opened_begun : (d b e : Disk) (f : File) (w : LogFileWriter) → IsOpened d b f.handle.0 f.format true (Ok w) → IsWriter w b → w.fd ≡ f.handle → e ≡ with_file b w.fd.0 (after_sync (b.file w.fd.0)) → IsBegun d e f (Ok w)
opened_begun d b e f w (inl (long, not_reset, same, at)) writer fd is = absurd cc
opened_begun d b e f w (inr (begins, a, at)) writer fd is =
    (b, a, subst (λ n. e ≡ with_file b n (after_sync (b.file n))) (ap (λ h. h.0) fd) is, synced_writer w b e writer is, fd, at)

pub begun_changes : (e g : Disk) (f : File) (w : LogFileWriter) → IsBegun e g f (Ok w) → Changes e g f.handle.0
begun_changes e g f w (between, a, synced, writer, fd, offset) =
    changes_on e between g f.handle.0 (appended_changes (writer_at f.handle.0 0 (length (e.file f.handle.0).bytes)) e between (spelled_header f.format) 0 (Ok tt) a) (changes between g f.handle.0 _ synced)

-- nor do reads see more of one that has begun
few_room : (d e : Disk) (fd at len : ℕ) → at + len ≤ 69 → MakesRoom d e fd at len → length (e.file fd).bytes ≤ max (length (d.file fd).bytes) 69
few_room d e fd at len le (inl is) =
    let none : ℕ = 0 in
    let n : ℕ = at + len - length (d.file fd).bytes in
    omega (arith, le, ap (λ (x : FileState). length x.bytes) (file_there d e fd _ is), length-append (d.file fd).bytes (replicate n none), length-replicate n none)
few_room d e fd at len le (inr (inl same)) = omega (arith, ap (λ (y : Disk). length (y.file fd).bytes) same)
few_room d e fd at len le (inr (inr refused)) = omega (arith, le, ap (λ (x : FileState). length x.bytes) (file_there d e fd _ refused.files), refused.part.no_longer)

few_ready : (d e : Disk) (fd end : ℕ) → end ≤ 69 → IsReady (writer_at fd 0 (length (d.file fd).bytes)) d e end 0 → length (e.file fd).bytes ≤ max (length (d.file fd).bytes) 69
few_ready d e fd end le (inl (short, same)) = omega (arith, ap (λ (y : Disk). length (y.file fd).bytes) same)
few_ready d e fd end le (inr (long, room)) = few_room d e fd _ _ (omega (arith, header_room (length (d.file fd).bytes) end long, le)) room

pub begun_short : (e g : Disk) (f : File) (w : LogFileWriter) → length (e.file f.handle.0).bytes ≡ 0 → IsBegun e g f (Ok w) → (g.file f.handle.0).greatest ≤ 69
begun_short e g f w none (between, a, synced, writer, fd, offset) =
    let n : ℕ = f.handle.0 in
    let header : List ℕ = spelled_header f.format in
    let le = header_short f.format in
    let few = few_ready e a.between n (min (0 + length header) (2 ^ 64 - 1)) (omega (arith, le)) a.ready in
    let is : g.file n ≡ after_sync (after_write (a.between.file n) 0 header (put (a.between.file n).bytes 0 header)) = file_there between g n _ synced ∙ ap after_sync (file_there a.between between n _ a.writes) in
    omega (arith, le, few, none, greatest_is g n _ is, length-append header (drop (0 + length header) (a.between.file n).bytes), length-drop (0 + length header) (a.between.file n).bytes)

-- ---- going on

made_of : (d e g : Disk) (id : FileId) (n : ℕ) → n ≡ d.next → Creates d e id → Changes e g n → IsMade d g id
made_of d e g id n is creates change = record { between = e; creates = creates; change = subst (Changes e g) is change }

-- the file was made, and then its header written, in part at least
pub made_begun : (d e g : Disk) (f : File) (id : FileId) → IsCreated d e id (Ok f) → Changes e g f.handle.0 → IsMade d g id
made_begun d e g f id (handle, creates) change = made_of d e g id f.handle.0 handle creates change

pub made_refused : (d e : Disk) (id : FileId) (x : IoFault) → IsCreated d e id (Err x) → (e ≡ d) ⊎ IsMade d e id
made_refused d e id x (inl same) = inl same
made_refused d e id x (inr creates) = inr (made_alone d e id creates)

pub named_new : (d e g : Disk) (f : File) (id : FileId) → IsCreated d e id (Ok f) → Changes e g f.handle.0 → IsNamedSo g id f.handle.0
named_new d e g f id (handle, (path, says, none, is)) change =
    (path, names_kept e g f.handle.0 change (path, f.handle.0) (subst (λ (y : Disk). IsIn (path, f.handle.0) y.names) (sym is) (subst (λ n. IsIn (path, f.handle.0) (d.names ++ (path, n) ∷ [])) handle (in_last d.names (path, f.handle.0)))), says)

-- ---- the pipe can be used

pub consecutive_push : (fs : List File) (f : File) → AreConsecutive fs f.seq → AreConsecutive (fs ++ f ∷ []) (f.seq + 1)
consecutive_push fs f all = pushed fs f.seq all refl
  where
    pushed : (gs : List File) (last : ℕ) → AreConsecutive gs last → (last ≡ f.seq) → AreConsecutive (gs ++ f ∷ []) (last + 1)
    pushed [] last all is = (omega (arith, is), tt)
    pushed (g ∷ gs) last all is = (omega (arith, all.0, length-append gs (f ∷ [])), pushed gs last all.1 is)

pub some_is : (a b : FileId) → (let x : Option FileId = Some a in x ≡ Some b) → a ≡ b
some_is a b e = cc

apart_paths : (path other : Text) (id : FileId) (queue : LogQueue) (seq : ℕ) (b : Bool) → same_text path other ≡ b → log_file_of path ≡ Some id → log_file_of other ≡ Some (id_of queue seq) → id.seq < seq → b ≡ false
apart_paths path other id queue seq false is says tells lt = refl
apart_paths path other id queue seq true is says tells lt =
    let same : path ≡ other = (bytes_decides path other).0 is in
    let ids : id ≡ id_of queue seq = some_is id (id_of queue seq) (sym says ∙ ap log_file_of same ∙ tells) in
    absurd (omega (arith, lt, ap (λ (x : FileId). x.seq) ids))

pub next_last : (d e g : Disk) (dirs : List (String Global)) (f : File) (id : FileId) (queue : LogQueue) (last : ℕ) → IsLast d dirs queue last → last < id.seq → id.seq ≡ f.seq → IsCreated d e id (Ok f) → Changes e g f.handle.0 → IsLast g dirs queue f.seq
next_last d e g dirs f id queue last free below same (handle, (path, says, none, is)) change other seq lt number has =
    let tells = has_path_says dirs (id_of queue seq) other number has in
    ap (λ (y : Disk). fd_of y.names other) change ∙ ap (λ (y : Disk). fd_of y.names other) is
    ∙ pushed_other d.names path other d.next (apart_paths path other id queue seq (same_text path other) refl says tells (omega (arith, lt, same)))
    ∙ free other seq (omega (arith, below, same, lt)) number has
