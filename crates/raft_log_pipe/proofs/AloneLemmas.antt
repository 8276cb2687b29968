-- The log files of a queue in its directories, through the calls of a pipe.
use Rattle.std.proofs.Common.{◌≡◌, ◌⊎◌, inl, inr, ⊎_elim, ℕ, zero, suc, ◌+◌, ◌<◌, ◌≤◌, Bool, true, false, cond, List, [], ◌∷◌, ◌++◌, length, get_or, map, Option, Some, None, refl, sym, ap, subst, ◌∙◌, arith}
use Rattle.std.specs.Prelude.{Result, Ok, Err, OnOk, OnErr, String, Vec}
use Rattle.std.specs.String.{string_bytes}
use Rattle.std.specs.List.{AllByRecursion}
use Rattle.std.specs.declared.alloc.Global.{Global}
use Rattle.std.proofs.lemmas.List.{append-nil, append_cancel_right, length-map}
use lib.Pointwise.{bytes_decides}
use Rattle.raft_log_records.specs.declared.file_id.FileId.{FileId}
use Rattle.raft_log_records.specs.declared.file_id.LogQueue.{LogQueue}
use Rattle.raft_log_records.proofs.Sound.{each_push}
use Rattle.raft_log_disk.specs.declared.fault.IoFault.{IoFault}
use Rattle.raft_log_disk.specs.Text.{Text, same_text}
use Rattle.raft_log_disk.specs.Name.{log_file_of}
use Rattle.raft_log_disk.specs.Disk.{Disk, FileState, IsIn, after_create, fd_of, no_bytes}
use Rattle.raft_log_disk.proofs.DiskLemmas.{pushed_other, pushed_there, same_file}
use Rattle.raft_log_files.specs.FileName.{IsFileSeq, log_file_name}
use Rattle.raft_log_pipe.specs.declared.file.File.{File}
use Rattle.raft_log_pipe.specs.declared.pipe.SinglePipe.{SinglePipe}
use Rattle.raft_log_pipe.specs.Alone.{AreDistinct, AreLast, IsAlone, IsMadeAt, IsMadeIn, IsNearlyAlone, IsVacant, Names, StandsAt, directories_of_pipe, path_in}
use Rattle.raft_log_pipe.specs.Begun.{Changes}
use Rattle.raft_log_pipe.specs.Blocks.{files_of}
use Rattle.raft_log_pipe.specs.Found.{MakesButHeader}
use Rattle.raft_log_pipe.specs.Pipe.{AreConsecutive, IsNamedSo, id_of}
use Rattle.raft_log_pipe.proofs.PipeLemmas.{in_all, stays}
use Rattle.raft_log_pipe.proofs.NextLemmas.{consecutive_push, path_says, some_is}
use Rattle.raft_log_pipe.proofs.ReservedLemmas.{not_same}

-- ---- names

same_path : (b : Bool) (e : Text × ℕ) (es : Names) (path : Text) (fd : ℕ) → same_text e.0 path ≡ b → (fd_of es path ≡ Some fd → IsIn (path, fd) es) → cond b (Some e.1) (fd_of es path) ≡ Some fd → IsIn (path, fd) (e ∷ es)
same_path true e es path fd same next there = let n : e.1 ≡ fd = cc in inl (λ i. (sym ((bytes_decides e.0 path).0 same) i, sym n i))
same_path false e es path fd same next there = inr (next there)

-- a path that is found is among the names
pub found_in : (es : Names) (path : Text) (fd : ℕ) → fd_of es path ≡ Some fd → IsIn (path, fd) es
found_in [] path fd there = absurd cc
found_in (e ∷ es) path fd there = same_path (same_text e.0 path) e es path fd refl (found_in es path fd) there

pub never_some : (o : Option ℕ) → ((fd : ℕ) → o ≡ Some fd → ⊥) → o ≡ None
never_some None never = refl
never_some (Some fd) never = absurd (never fd refl)

-- ---- files

pub in_first : {X : Type 0} (x : X) (xs ys : List X) → IsIn x xs → IsIn x (xs ++ ys)
in_first x [] ys there = absurd there
in_first x (y ∷ xs) ys (inl is) = inl is
in_first x (y ∷ xs) ys (inr there) = inr (in_first x xs ys there)

pub in_second : {X : Type 0} (x : X) (xs ys : List X) → IsIn x ys → IsIn x (xs ++ ys)
in_second x [] ys there = there
in_second x (y ∷ xs) ys there = inr (in_second x xs ys there)

pub in_either : {X : Type 0} (x : X) (xs ys : List X) → IsIn x (xs ++ ys) → IsIn x xs ⊎ IsIn x ys
in_either x [] ys there = inr there
in_either x (y ∷ xs) ys (inl is) = inl (inl is)
in_either x (y ∷ xs) ys (inr there) = ⊎_elim (λ a. inl (inr a)) (λ b. inr b) (in_either x xs ys there)

-- the numbers of files that follow one another are below the next one
pub below_next : (fs : List File) (next : ℕ) (g : File) → AreConsecutive fs next → IsIn g fs → g.seq < next
below_next [] next g numbers there = absurd there
below_next (f ∷ fs) next g numbers (inl is) = omega (arith, numbers.0, ap (λ (x : File). x.seq) is)
below_next (f ∷ fs) next g numbers (inr there) = below_next fs next g numbers.1 there

pub last_next : (fs : List File) (f : File) (next : ℕ) → AreConsecutive (fs ++ f ∷ []) next → f.seq + 1 ≡ next
last_next [] f next numbers = omega (arith, numbers.0)
last_next (g ∷ fs) f next numbers = last_next fs f next numbers.1

-- ---- a new name

pub none_some : (o : Option ℕ) (fd : ℕ) → o ≡ None → o ≡ Some fd → ⊥
none_some o fd none some = let both : None ≡ Some fd = sym none ∙ some in absurd cc

pub said_in : (directories : List Text) (queue : LogQueue) (seq place : ℕ) → IsFileSeq seq → log_file_of (path_in directories place (id_of queue seq)) ≡ Some (id_of queue seq)
said_in directories queue seq place number = path_says (get_or directories place []) (log_file_name (id_of queue seq)) (path_in directories place (id_of queue seq)) (id_of queue seq) number refl refl

-- a log file has a path that named none, and the others have theirs
module _ (names then : Names) (directories : List Text) (queue : LogQueue) (id : FileId) (place : ℕ) (free : fd_of names (path_in directories place id) ≡ None)
    (beside : (path : Text) (x : FileId) → log_file_of path ≡ Some x → same_text (path_in directories place id) path ≡ false → fd_of then path ≡ fd_of names path) where
  stands_on : (seq at fd : ℕ) → StandsAt names directories queue seq at fd → StandsAt then directories queue seq at fd
  stands_on seq at fd s = (
    s.0,
    s.1,
    beside (path_in directories at (id_of queue seq)) (id_of queue seq) (said_in directories queue seq at s.0)
        (not_same (path_in directories place id) (path_in directories at (id_of queue seq)) (λ same. none_some (fd_of names (path_in directories place id)) fd free (ap (fd_of names) same ∙ s.2))) ∙ s.2,
  )

  each_on : (fs : List File) → AllByRecursion (λ f. StandsAt names directories queue f.seq f.path_id f.handle.0) fs → AllByRecursion (λ f. StandsAt then directories queue f.seq f.path_id f.handle.0) fs
  each_on [] all = tt
  each_on (f ∷ fs) all = (stands_on f.seq f.path_id f.handle.0 all.0, each_on fs all.1)

  module _ (distinct : AreDistinct directories) (below : IsFileSeq id.seq) (within : place < length directories) (is : id.queue ≡ queue) where
    -- the new one's number and place, where the paths are one
    same_place : (seq at fd : ℕ) → StandsAt then directories queue seq at fd → path_in directories place id ≡ path_in directories at (id_of queue seq) → (seq ≡ id.seq) × (at ≡ place)
    same_place seq at fd s same =
        let one = path_says (get_or directories place []) (log_file_name id) (path_in directories place id) id below refl refl in
        let two = path_says (get_or directories at []) (log_file_name (id_of queue seq)) (path_in directories at (id_of queue seq)) (id_of queue seq) s.0 refl refl in
        let ids : id ≡ id_of queue seq = some_is id (id_of queue seq) (sym one ∙ ap log_file_of same ∙ two) in
        let dirs : get_or directories place [] ≡ get_or directories at []
        = append_cancel_right (get_or directories place []) (get_or directories at []) (47 ∷ log_file_name (id_of queue seq))
        (ap (λ (x : FileId). get_or directories place [] ++ 47 ∷ log_file_name x) (sym ids) ∙ same) in
        (ap (λ (x : FileId). x.seq) (sym ids), sym (distinct place at within s.1 dirs))

    -- what stands there now stood there before, or is the new one
    stands_back : (seq at fd : ℕ) → StandsAt then directories queue seq at fd → StandsAt names directories queue seq at fd ⊎ ((seq ≡ id.seq) × (at ≡ place))
    stands_back seq at fd s = by_test (same_text (path_in directories place id) (path_in directories at (id_of queue seq))) refl
      where
        by_test : (t : Bool) → same_text (path_in directories place id) (path_in directories at (id_of queue seq)) ≡ t → StandsAt names directories queue seq at fd ⊎ ((seq ≡ id.seq) × (at ≡ place))
        by_test true test = inr (same_place seq at fd s ((bytes_decides (path_in directories place id) (path_in directories at (id_of queue seq))).0 test))
        by_test false test = inl (s.0, s.1, sym (beside (path_in directories at (id_of queue seq)) (id_of queue seq) (said_in directories queue seq at s.0) test) ∙ s.2)

-- no file stands there with the number after those of the last ones
none_next : (names : Names) (directories : List Text) (queue : LogQueue) (fs : List File) (some : File) (next seq place fd : ℕ) → AreLast names directories queue fs → IsIn some fs → AreConsecutive fs next
    → StandsAt names directories queue seq place fd → seq ≡ next → ⊥
none_next names directories queue fs some next seq place fd last there numbers s is =
    let g = last.only seq place fd some s there (omega (arith, below_next fs next some numbers there, is)) in
    omega (arith, below_next fs next g.0 numbers g.1, g.2, is)

-- a file of the next number is the last one now
module _ (names then : Names) (directories : List Text) (queue : LogQueue) (fs : List File) (some f : File) (id : FileId) (last : AreLast names directories queue fs) (there : IsIn some fs) (numbers : AreConsecutive fs f.seq)
    (below : IsFileSeq id.seq) (is : id ≡ id_of queue f.seq) (within : f.path_id < length directories) (free : fd_of names (path_in directories f.path_id id) ≡ None)
    (beside : (path : Text) (x : FileId) → log_file_of path ≡ Some x → same_text (path_in directories f.path_id id) path ≡ false → fd_of then path ≡ fd_of names path) where
  seq_is : id.seq ≡ f.seq
  seq_is = ap (λ (x : FileId). x.seq) is

  back : (m at fd : ℕ) → StandsAt then directories queue m at fd → StandsAt names directories queue m at fd ⊎ ((m ≡ id.seq) × (at ≡ f.path_id))
  back m at fd s = stands_back names then directories queue id f.path_id free beside last.once.apart below within (ap (λ (x : FileId). x.queue) is) m at fd s

  one_place : (m i j fd gd : ℕ) → StandsAt names directories queue m i fd ⊎ ((m ≡ id.seq) × (i ≡ f.path_id)) → StandsAt names directories queue m j gd ⊎ ((m ≡ id.seq) × (j ≡ f.path_id)) → i ≡ j
  one_place m i j fd gd (inl a) (inl b) = last.once.once m i j fd gd a b
  one_place m i j fd gd (inl a) (inr b) = absurd (none_next names directories queue fs some f.seq m i fd last there numbers a (omega (arith, b.0, seq_is)))
  one_place m i j fd gd (inr a) (inl b) = absurd (none_next names directories queue fs some f.seq m j gd last there numbers b (omega (arith, a.0, seq_is)))
  one_place m i j fd gd (inr a) (inr b) = omega (arith, a.1, b.1)

  of_old : (m place fd : ℕ) (h : File) → StandsAt names directories queue m place fd → IsIn h fs ⊎ IsIn h (f ∷ []) → h.seq ≤ m + 1 → (g : File) × IsIn g (fs ++ f ∷ []) × (g.seq ≡ m)
  of_old m place fd h s (inl among) le =
      let g = last.only m place fd h s among le in
      (g.0, in_first g.0 fs (f ∷ []) g.1, g.2)
  of_old m place fd h s (inr (inl same)) le =
      let g = last.only m place fd some s there (omega (arith, below_next fs f.seq some numbers there, le, ap (λ (x : File). x.seq) same)) in
      (g.0, in_first g.0 fs (f ∷ []) g.1, g.2)
  of_old m place fd h s (inr (inr none)) le = absurd none

  of_all : (m place fd : ℕ) (h : File) → StandsAt names directories queue m place fd ⊎ ((m ≡ id.seq) × (place ≡ f.path_id)) → IsIn h (fs ++ f ∷ []) → h.seq ≤ m + 1 → (g : File) × IsIn g (fs ++ f ∷ []) × (g.seq ≡ m)
  of_all m place fd h (inl s) among le = of_old m place fd h s (in_either h fs (f ∷ []) among) le
  of_all m place fd h (inr new) among le = (f, in_second f fs (f ∷ []) (inl refl), omega (arith, new.0, seq_is))

  pub last_push : fd_of then (path_in directories f.path_id id) ≡ Some f.handle.0 → AreLast then directories queue (fs ++ f ∷ [])
  last_push here = record {
    next = f.seq + 1;
    numbers = consecutive_push fs f numbers;
    each = each_push (λ x. StandsAt then directories queue x.seq x.path_id x.handle.0) fs f (each_on names then directories queue id f.path_id free beside fs last.each)
        (omega (arith, below, seq_is), within, subst (λ (x : FileId). fd_of then (path_in directories f.path_id x) ≡ Some f.handle.0) is here);
    once = record {
      apart = last.once.apart;
      once = λ m i j fd gd a b. one_place m i j fd gd (back m i fd a) (back m j gd b);
    };
    only = λ m place fd h s among le. of_all m place fd h (back m place fd s) among le;
  }

-- ---- of a pipe

-- what says which files are a pipe's
record View : Type 0 where
  names : Names
  paths : Vec (String Global) Global
  queue : LogQueue
  older : Vec File Global
  active : File

abbrev IsLastIn : View → Type 0
IsLastIn v = AreLast v.names (map string_bytes v.paths.items) v.queue (v.older.items ++ v.active ∷ [])

-- names and files are as they were
pub alone_on : (p q : SinglePipe) (d e : Disk) → (q.active ≡ p.active) × (q.older ≡ p.older) × (q.queue ≡ p.queue) → q.paths ≡ p.paths → e.names ≡ d.names → IsAlone p d → IsAlone q e
alone_on p q d e (active, older, queue) paths names alone =
    subst IsLastIn (λ i. record { names = sym names i; paths = sym paths i; queue = sym queue i; older = sym older i; active = sym active i }) alone

-- there is no other file
pub nearly : (p : SinglePipe) (d : Disk) → IsAlone p d → IsNearlyAlone p d
nearly p d alone = record {
  others = [];
  last = subst (AreLast d.names (directories_of_pipe p) p.queue) (sym (append-nil (files_of p))) alone;
  none = λ image are genuine. (0, refl);
}

pub nearly_on : (p q : SinglePipe) (d e : Disk) → (q.active ≡ p.active) × (q.older ≡ p.older) × (q.queue ≡ p.queue) → q.paths ≡ p.paths → e.names ≡ d.names → IsAlone p d → IsNearlyAlone q e
nearly_on p q d e same paths names alone = nearly q e (alone_on p q d e same paths names alone)

-- ---- results

pub ok_after : {T E : Type 0} (A B C : Type 0) (r : Result T E) → (A → B) → OnOk r (B → C) → OnOk r (A → C)
ok_after A B C (Ok x) f g = λ a. g (f a)
ok_after A B C (Err e) f g = tt

pub err_after : {T E : Type 0} (A B C : Type 0) (r : Result T E) → (A → B) → OnErr r (B → C) → OnErr r (A → C)
err_after A B C (Ok x) f g = tt
err_after A B C (Err e) f g = λ a. g (f a)

-- ---- a file that was made

-- the path of a directory at a place
pub mapped_at : (dirs : List (String Global)) (i : ℕ) (dir : String Global) → i < length dirs → dir ≡ get_or dirs i dir → get_or (map string_bytes dirs) i [] ≡ string_bytes dir
mapped_at [] i dir within is = absurd (omega (arith, within))
mapped_at (first ∷ dirs) zero dir within is = ap string_bytes (sym is)
mapped_at (first ∷ dirs) (suc i) dir within is = mapped_at dirs i dir (omega (arith, within)) is

pub made_at : (d e : Disk) (dirs : List (String Global)) (id : FileId) (place : ℕ) (dir : String Global) (path : Text) → place < length dirs → dir ≡ get_or dirs place dir → path ≡ string_bytes dir ++ 47 ∷ log_file_name id
    → fd_of d.names path ≡ None → e ≡ after_create d path → IsMadeAt d e (map string_bytes dirs) id place
made_at d e dirs id place dir path within at says free is =
    let same : path ≡ path_in (map string_bytes dirs) place id = says ∙ ap (λ (l : Text). l ++ 47 ∷ log_file_name id) (sym (mapped_at dirs place dir within at)) in
    record {
      within = omega (arith, within, length-map dirs string_bytes);
      free = subst (λ (x : Text). fd_of d.names x ≡ None) same free;
      is = subst (λ (x : Text). e ≡ after_create d x) same is;
    }

-- or wasn't
pub perhaps_at : (d e : Disk) (dirs : List (String Global)) (id : FileId) (place : ℕ) (dir : String Global) (path : Text) → place < length dirs → dir ≡ get_or dirs place dir → path ≡ string_bytes dir ++ 47 ∷ log_file_name id
    → fd_of d.names path ≡ None → (e ≡ d) ⊎ (e ≡ after_create d path) → (e ≡ d) ⊎ ((at : ℕ) × IsMadeAt d e (map string_bytes dirs) id at)
perhaps_at d e dirs id place dir path within at says free (inl same) = inl same
perhaps_at d e dirs id place dir path within at says free (inr is) = inr (place, made_at d e dirs id place dir path within at says free is)

-- what stands in a directory is named so
pub stands_named : (d : Disk) (directories : List Text) (queue : LogQueue) (seq place fd : ℕ) → StandsAt d.names directories queue seq place fd → IsNamedSo d (id_of queue seq) fd
stands_named d directories queue seq place fd s = (
  path_in directories place (id_of queue seq),
  found_in d.names (path_in directories place (id_of queue seq)) fd s.2,
  path_says (get_or directories place []) (log_file_name (id_of queue seq)) (path_in directories place (id_of queue seq)) (id_of queue seq) s.0 refl refl,
)

-- a pipe with other files before its last one
abbrev pub with_older : SinglePipe → Vec File Global → SinglePipe
with_older p older = record {
  alloc = p.alloc;
  queue = p.queue;
  paths = p.paths;
  default_format = p.default_format;
  target_file_size = p.target_file_size;
  older = older;
  active = p.active;
  writer = p.writer;
  reserved = p.reserved;
  capacity = p.capacity;
}

pub last_named : (p : SinglePipe) (g : Disk) (f : File) → AreLast g.names (directories_of_pipe p) p.queue (files_of p ++ f ∷ []) → IsNamedSo g (id_of p.queue f.seq) f.handle.0
last_named p g f last = stands_named g (directories_of_pipe p) p.queue f.seq f.path_id f.handle.0 (in_all (λ x. StandsAt g.names (directories_of_pipe p) p.queue x.seq x.path_id x.handle.0) (files_of p ++ f ∷ []) f last.each
    (in_second f (files_of p) (f ∷ []) (inl refl)))

-- ---- the first file of a queue

pub first_alone : (directories : List Text) (queue : LogQueue) (older : List File) (f : File) (d e g : Disk) (id : FileId) → id ≡ id_of queue f.seq → IsFileSeq id.seq → older ≡ [] → IsMadeIn d e directories id (Ok f) → g.names ≡ e.names
    → AreDistinct directories → IsVacant d.names directories queue → AreLast g.names directories queue (older ++ f ∷ [])
first_alone directories queue older f d e g id is below none (handle, made) same distinct vacant =
    let then : Names = d.names ++ (path_in directories f.path_id id, f.handle.0) ∷ [] in
    let names : then ≡ g.names = ap (λ n. d.names ++ (path_in directories f.path_id id, n) ∷ []) handle ∙ sym (ap (λ (y : Disk). y.names) made.is) ∙ sym same in
    let seq : id.seq ≡ f.seq = ap (λ (x : FileId). x.seq) is in
    let back = stands_back d.names then directories queue id f.path_id made.free (λ path x says apart. pushed_other d.names (path_in directories f.path_id id) path f.handle.0 apart) distinct below made.within (ap (λ (x : FileId). x.queue) is) in
    subst (λ (x : Names). AreLast x directories queue (older ++ f ∷ [])) names
    (subst (λ (l : List File). AreLast then directories queue (l ++ f ∷ [])) (sym none) (record {
      next = f.seq + 1;
      numbers = (omega arith, tt);
      each = (
        (
          omega (arith, below, seq),
          made.within,
          subst (λ (x : FileId). fd_of then (path_in directories f.path_id x) ≡ Some f.handle.0) is
              (pushed_there d.names (path_in directories f.path_id id) f.handle.0 made.free),
        ),
        tt,
      );
      once = record {
        apart = distinct;
        once = λ m i j fd gd a b. omega (arith, (the_new vacant m i fd (back m i fd a)).1, (the_new vacant m j gd (back m j gd b)).1);
      };
      only = λ m place fd h s among le. (f, inl refl, omega (arith, seq, (the_new vacant m place fd (back m place fd s)).0));
    }))
  where
    the_new : IsVacant d.names directories queue → (m i fd : ℕ) → StandsAt d.names directories queue m i fd ⊎ ((m ≡ id.seq) × (i ≡ f.path_id)) → (m ≡ id.seq) × (i ≡ f.path_id)
    the_new vacant m i fd (inl s) = absurd (vacant m i fd s)
    the_new vacant m i fd (inr new) = new

-- ---- no more than a header of it

pub made_header : (d e g : Disk) (directories : List Text) (id other : FileId) (f : File) → id ≡ other → IsMadeIn d e directories id (Ok f) → Changes e g f.handle.0
    → ((e.file f.handle.0).bytes ≡ [] → (e.file f.handle.0).greatest ≡ 0 → (g.file f.handle.0).greatest ≤ 69) → MakesButHeader d g directories other
made_header d e g directories id other f is (handle, made) change short =
    let bare : e.file f.handle.0 ≡ no_bytes = ap e.file handle ∙ ap (λ (y : Disk). y.file d.next) made.is ∙ same_file d.next no_bytes (d.file d.next) in
    let few = short (ap (λ (x : FileState). x.bytes) bare) (ap (λ (x : FileState). x.greatest) bare) in
    inr (f.path_id, e, subst (λ (x : FileId). IsMadeAt d e directories x f.path_id) is made, subst (Changes e g) handle change, subst (λ n. (g.file n).greatest ≤ 69) handle few)

pub refused_header : (d e : Disk) (directories : List Text) (id other : FileId) (x : IoFault) → id ≡ other → IsMadeIn d e directories id (Err x) → MakesButHeader d e directories other
refused_header d e directories id other x is (inl same) = inl same
refused_header d e directories id other x is (inr (place, made)) =
    let bare : e.file d.next ≡ no_bytes = ap (λ (y : Disk). y.file d.next) made.is ∙ same_file d.next no_bytes (d.file d.next) in
    inr (place, e, subst (λ (y : FileId). IsMadeAt d e directories y place) is made, stays e e d.next refl, omega (arith, ap (λ (s : FileState). s.greatest) bare))

-- ---- files that were found

pub found_alone : (d e : Disk) (directories : List Text) (queue : LogQueue) (fs gs : List File) → gs ≡ fs → e.names ≡ d.names → AreLast d.names directories queue fs → AreLast e.names directories queue gs
found_alone d e directories queue fs gs files names last =
    subst (λ (x : Names). AreLast x directories queue gs) (sym names) (subst (AreLast d.names directories queue) (sym files) last)
