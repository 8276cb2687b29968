-- A file that goes and is kept for reuse: it gets the next reserved name.
use Rattle.std.proofs.Common.{◌≡◌, ◌≢◌, ◌⊎◌, inl, inr, ⊎_elim, ℕ, ◌+◌, ◌<◌, zero, suc, Bool, true, false, cond, List, [], ◌∷◌, ◌++◌, length, get_or, take, drop, map, Option, Some, None, refl, sym, ap, subst, ◌∙◌, arith, length-drop, take-append-drop}
use Rattle.std.specs.Prelude.{Result, Ok, Err, OnOk, String, Vec, codes, is_some, not, remove, ◌==◌, ◌||◌}
use Rattle.std.specs.String.{string_bytes}
use Rattle.std.specs.List.{AllByRecursion}
use Rattle.std.specs.declared.alloc.Global.{Global}
use Rattle.std.proofs.lemmas.List.{append-nil, append_assoc, length-map}
use Rattle.std.proofs.lemmas.List.Folds.{list_any-append}
use lib.Pointwise.{bytes_decides}
use Rattle.raft_log_records.specs.declared.file_id.FileId.{FileId}
use Rattle.raft_log_records.specs.declared.file_id.LogQueue.{LogQueue}
use Rattle.raft_log_records.specs.declared.file_id.LogQueue.TheVariants.{Append}
use Rattle.raft_log_records.specs.declared.version.Version.TheVariants.{V2}
use Rattle.raft_log_disk.specs.Text.{Text, has_slash, name_in, same_text}
use Rattle.raft_log_disk.specs.Disk.{Disk, HasDirectory, IsIn, IsNamed, IsNoMove, Renames, fd_of, moved, renamed}
use Rattle.raft_log_disk.specs.Name.{log_file_of}
use Rattle.raft_log_disk.proofs.DiskLemmas.{moved_gone, moved_other, other_file, same_file}
use Rattle.raft_log_disk.proofs.NameLemmas.{moved_there}
use Rattle.raft_log_disk.proofs.TextLemmas.{in_directory}
use Rattle.raft_log_files.specs.FileName.{IsFileSeq, log_file_name, reserved_name}
use Rattle.raft_log_files.proofs.DigitLemmas.{name_split}
use Rattle.raft_log_pipe.specs.declared.file.File.{File}
use Rattle.raft_log_pipe.specs.declared.file.ReservedFile.{ReservedFile}
use Rattle.raft_log_pipe.specs.declared.pipe.SinglePipe.{SinglePipe}
use Rattle.raft_log_pipe.specs.Alone.{directories_of_pipe, path_in}
use Rattle.raft_log_pipe.specs.Kept.{with_reserved}
use Rattle.raft_log_pipe.specs.Pipe.{IsPipe, first_of, id_of}
use Rattle.raft_log_pipe.specs.Prepared.{IsFrontOf, number_behind}
use Rattle.raft_log_pipe.specs.Purging.{AreGone, AreKeptIfCan, AreLastOf, CanBeKept, IsKept, IsKeptFile, IsKeptIfCan, KeepsFrom, NamesNoOther, kept_behind, kept_path}
use Rattle.raft_log_pipe.specs.Reserved.{AreReserved, IsReserved, IsReservedPath, reserved_path}
use Rattle.raft_log_pipe.specs.Taken.{HasLost}
use Rattle.raft_log_pipe.proofs.PrefillLemmas.{all_behind, none_of, push_reserved}
use Rattle.raft_log_pipe.proofs.AloneLemmas.{found_in, in_first, mapped_at, never_some, none_some, said_in, with_older}
use Rattle.raft_log_pipe.proofs.LostLemmas.{first_lost, lost_before}
use Rattle.raft_log_pipe.proofs.OthersLemmas.{found_there, one_path}
use Rattle.raft_log_pipe.proofs.PipeLemmas.{in_all}
use Rattle.raft_log_pipe.proofs.PurgeLemmas.{IsPurged, first_gone, first_number, first_placed, log_kept, older_number, purged_so, removed_first, same_keeps, same_number}
use Rattle.raft_log_pipe.proofs.ReservedLemmas.{digits_slash, not_same, one_number, reserved_none, says_none}
use Rattle.raft_log_pipe.proofs.ReuseLemmas.{pipe_with}

-- ---- lists

all_front : {X : Type 0} (P : X → Type 0) (xs ys : List X) → AllByRecursion P (xs ++ ys) → AllByRecursion P xs
all_front P [] ys all = tt
all_front P (x ∷ xs) ys all = (all.0, all_front P xs ys all.1)

in_end : {X : Type 0} (x : X) (xs : List X) → IsIn x (xs ++ x ∷ [])
in_end x [] = inl refl
in_end x (y ∷ xs) = inr (in_end x xs)

pub first_self : {X : Type 0} (xs : List X) → IsFrontOf xs xs
first_self xs = ([], sym (append-nil xs))

pub first_same : {X : Type 0} (xs ys : List X) → ys ≡ xs → IsFrontOf xs ys
first_same xs ys same = ([], same ∙ sym (append-nil xs))

pub first_on : {X : Type 0} (xs ys zs : List X) → IsFrontOf xs ys → IsFrontOf ys zs → IsFrontOf xs zs
first_on {X = X} xs ys zs one two = (one.0 ++ two.0, two.1 ∙ ap (λ (l : List X). l ++ two.0) one.1 ∙ append_assoc xs one.0 two.0)

in_front : {X : Type 0} (x : X) (xs ys : List X) → IsFrontOf xs ys → IsIn x xs → IsIn x ys
in_front {X = X} x xs ys front there = subst (λ (l : List X). IsIn x l) (sym front.1) (in_first x xs front.0 there)

-- ---- numbers of reserved files

module _ (queue : LogQueue) (directories : List Text) (d : Disk) where
  one_reserved : (rs : List ReservedFile) (r : ReservedFile) → AreReserved queue directories d rs → IsIn r rs → IsReserved queue directories d r
  one_reserved [] r all there = absurd there
  one_reserved (s ∷ rs) r all (inl same) = subst (IsReserved queue directories d) (sym same) all.0
  one_reserved (s ∷ rs) r all (inr there) = one_reserved rs r all.2 there

  reserved_front : (rs ss : List ReservedFile) → AreReserved queue directories d (rs ++ ss) → AreReserved queue directories d rs
  reserved_front [] ss all = tt
  reserved_front (r ∷ rs) ss all = (all.0, all_front (λ s. r.seq < s.seq) rs ss all.1, reserved_front rs ss all.2)

-- ---- reserved names have no slash

reserved_slash : (n : ℕ) → IsFileSeq n → has_slash (reserved_name n) ≡ false
reserved_slash n below =
    let s = name_split n (codes ".raftlog.reserved") (reserved_name n) below refl in
    let suffix : has_slash (codes ".raftlog.reserved") ≡ false = refl in
    ap has_slash (sym (take-append-drop 16 (reserved_name n))) ∙ list_any-append (λ (b : ℕ). b == 47) (take 16 (reserved_name n)) (drop 16 (reserved_name n))
    ∙ (λ i. digits_slash (take 16 (reserved_name n)) s.0.front i || (ap has_slash s.0.behind ∙ suffix) i)

-- so a directory that is there holds their paths
held_reserved : (ds : List Text) (directory : Text) (n : ℕ) → IsFileSeq n → IsIn directory ds → HasDirectory ds (directory ++ 47 ∷ reserved_name n)
held_reserved [] directory n below there = absurd there
held_reserved (d ∷ ds) directory n below (inl same) =
    let name : Text = reserved_name n in
    inl (subst (λ (x : Text). is_some (name_in x (directory ++ 47 ∷ name)) ≡ true) same
    (ap is_some (in_directory directory (directory ++ 47 ∷ name) (47 ∷ name) name refl refl ∙ ap (λ (b : Bool). cond b None (Some name)) (reserved_slash n below))))
held_reserved (d ∷ ds) directory n below (inr there) = inr (held_reserved ds directory n below there)

reserved_as : (queue : LogQueue) (directory path : Text) (n : ℕ) → queue ≡ Append → IsFileSeq n → path ≡ directory ++ 47 ∷ reserved_name n → IsReservedPath queue path
reserved_as queue directory path n own below is = subst (λ (x : LogQueue). IsReservedPath x path) (sym own) (directory, n, below, is)

-- ---- the file gets its reserved name

same_or : (a b : Text) → (a ≡ b) ⊎ (a ≡ b → ⊥)
same_or a b = by_test (same_text a b) refl
  where
    by_test : (t : Bool) → same_text a b ≡ t → (a ≡ b) ⊎ (a ≡ b → ⊥)
    by_test true is = inl ((bytes_decides a b).0 is)
    by_test false is = inr (λ same. let equal : same_text a b ≡ true = (bytes_decides a b).1 same in absurd cc)

module _ (p : SinglePipe) (older : Vec File Global) (f : File) (d e : Disk) (dir : String Global) (from to : Text) (room : ℕ) (named : IsNamed d) (named_e : IsNamed e) (pipe : IsPipe p d) (some : 0 < length p.older.items)
    (at : f ≡ get_or p.older.items 0 f) (rest : older.items ≡ remove p.older.items 0) (can : CanBeKept p d room p.reserved.items f) (in_dir : dir ≡ get_or p.paths.items f.path_id dir)
    (from_is : from ≡ string_bytes dir ++ 47 ∷ log_file_name (id_of p.queue f.seq)) (to_is : to ≡ string_bytes dir ++ 47 ∷ reserved_name (number_behind p.reserved.items 1)) where
  abbrev directories : List Text
  directories = directories_of_pipe p

  abbrev now : ReservedFile
  now = kept_behind p.reserved.items f

  within : f.path_id < length p.paths.items
  within = first_placed p d f pipe some at

  here : get_or directories f.path_id [] ≡ string_bytes dir
  here = mapped_at p.paths.items f.path_id dir within in_dir

  own_is : from ≡ path_in directories f.path_id (id_of p.queue f.seq)
  own_is = from_is ∙ ap (λ (t : Text). t ++ 47 ∷ log_file_name (id_of p.queue f.seq)) (sym here)

  next_is : to ≡ kept_path p p.reserved.items f
  next_is = to_is ∙ ap (λ (t : Text). t ++ 47 ∷ reserved_name (number_behind p.reserved.items 1)) (sym here)

  number : IsFileSeq f.seq × (f.seq ≡ first_of p)
  number = first_number p d f pipe some at

  says : log_file_of from ≡ Some (id_of p.queue f.seq)
  says = ap log_file_of own_is ∙ said_in directories p.queue f.seq f.path_id number.0

  to_reserved : IsReservedPath p.queue to
  to_reserved = reserved_as p.queue (string_bytes dir) to (number_behind p.reserved.items 1) can.own can.number to_is

  split : p.older.items ≡ f ∷ older.items
  split = removed_first p.older.items f some at ∙ ap (λ (l : List File). f ∷ l) (sym rest)

  pub keep_free : fd_of d.names to ≡ None
  keep_free = ap (fd_of d.names) next_is ∙ can.free

  pub keep_vacant : IsIn to d.directories → ⊥
  keep_vacant there = can.vacant (subst (λ (t : Text). IsIn t d.directories) next_is there)

  -- it can be renamed, unless it isn't there
  pub keep_lost : IsNoMove d from to → HasLost p d (first_of p + 1)
  keep_lost (inl none) = first_lost p f dir d from pipe some at in_dir from_is none
  keep_lost (inr none) =
      absurd (none (subst (λ (t : Text). HasDirectory d.directories t) (sym next_is) (held_reserved d.directories (get_or directories f.path_id []) (number_behind p.reserved.items 1) can.number can.directory)))

  apart : to ≡ from → ⊥
  apart same = says_none to (id_of p.queue f.seq) (reserved_none p.queue to to_reserved) (ap log_file_of same ∙ says)

  module _ (renames : Renames d e from to) where
    names_then : e.names ≡ moved d.names from to
    names_then = ap (λ (y : Disk). y.names) renames.2

    directories_then : e.directories ≡ d.directories
    directories_then = ap (λ (y : Disk). y.directories) renames.2

    -- another path names what it named
    beside : (path : Text) → (path ≡ from → ⊥) → (path ≡ to → ⊥) → fd_of e.names path ≡ fd_of d.names path
    beside path not_from not_to =
        ap (λ (l : List (Text × ℕ)). fd_of l path) names_then ∙ moved_other d.names from to path (not_same from path (λ same. not_from (sym same))) (not_same to path (λ same. not_to (sym same)))

    from_gone : fd_of e.names from ≡ None
    from_gone = ap (λ (l : List (Text × ℕ)). fd_of l from) names_then ∙ moved_gone d.names from to d.next named (not_same to from apart)

    there_then : fd_of e.names to ≡ Some renames.0
    there_then = ap (λ (l : List (Text × ℕ)). fd_of l to) names_then ∙ moved_there d.names from to renames.0 keep_free renames.1

    file_is : e.file renames.0 ≡ renamed (d.file renames.0)
    file_is = ap (λ (y : Disk). y.file renames.0) renames.2 ∙ same_file renames.0 (renamed (d.file renames.0)) (d.file renames.0)

    its_number : (fd : ℕ) → IsIn (to, fd) e.names → fd ≡ renames.0
    its_number fd there = same_number fd renames.0 (sym (found_there e.names e.next to fd named_e there) ∙ there_then)

    was_there : (path : Text) (fd : ℕ) → (path ≡ to → ⊥) → IsIn (path, fd) e.names → (path ≡ from → ⊥) × IsIn (path, fd) d.names
    was_there path fd not there =
        let found = found_there e.names e.next path fd named_e there in
        let not_from : path ≡ from → ⊥ = λ same. none_some (fd_of e.names from) fd from_gone (ap (fd_of e.names) (sym same) ∙ found) in
        (not_from, found_in d.names path fd (sym (beside path not_from not) ∙ found))

    by_names : (path : Text) (fd : ℕ) → IsIn (path, fd) d.names → (path ≡ from) ⊎ (path ≡ from → ⊥) → IsIn (path, fd) e.names ⊎ ((n : ℕ) × (n < first_of p + 1) × (log_file_of path ≡ Some (id_of p.queue n)))
    by_names path fd there (inl same) = inr (f.seq, omega (arith, number.1), ap log_file_of same ∙ says)
    by_names path fd there (inr not) =
        let found = found_there d.names d.next path fd named there in
        inl (found_in e.names path fd (beside path not (λ same. none_some (fd_of d.names to) fd keep_free (ap (fd_of d.names) (sym same) ∙ found)) ∙ found))

    by_files : (path : Text) (fd : ℕ) → IsIn (path, fd) e.names → (path ≡ to) ⊎ (path ≡ to → ⊥) → (IsIn (path, fd) d.names × (e.file fd ≡ d.file fd)) ⊎ IsKeptFile p.queue (first_of p + 1) d e path fd
    by_files path fd there (inl same) =
        let is : fd ≡ renames.0 = its_number fd (subst (λ (t : Text). IsIn (t, fd) e.names) same there) in
        inr (record {
          reserved = subst (IsReservedPath p.queue) (sym same) to_reserved;
          from = from;
          number = f.seq;
          below = omega (arith, number.1);
          was = found_in d.names from fd (renames.1 ∙ ap (λ (n : ℕ). Some n) (sym is));
          said = says;
          file = subst (λ (n : ℕ). e.file n ≡ renamed (d.file n)) (sym is) file_is;
        })
    by_files path fd there (inr not) =
        let was = was_there path fd not there in
        let other : fd ≢ renames.0 = λ same. was.0 (one_path d.names d.next path from fd named was.1 (found_in d.names from fd (renames.1 ∙ ap (λ (n : ℕ). Some n) (sym same)))) in
        inl (was.1, ap (λ (y : Disk). y.file fd) renames.2 ∙ other_file fd renames.0 (renamed (d.file renames.0)) (d.file fd) other)

    kept_keeps : KeepsFrom p.queue (first_of p + 1) d e
    kept_keeps = record {
      names = λ path fd there. by_names path fd there (same_or path from);
      files = λ path fd there. by_files path fd there (same_or path to);
      next = ap (λ (y : Disk). y.next) renames.2;
      directories = directories_then;
    }

    kept_purged : IsPurged p older d e
    kept_purged = purged_so p older f d e pipe some at rest kept_keeps

    is_reserved : IsReserved p.queue directories e now
    is_reserved = record {
      own = can.own;
      number = can.number;
      within = omega (arith, within, length-map p.paths.items string_bytes);
      fd = renames.0;
      there = found_in e.names (kept_path p p.reserved.items f) renames.0 (ap (fd_of e.names) (sym next_is) ∙ there_then);
      directory = subst (IsIn (get_or directories f.path_id [])) (sym directories_then) can.directory;
    }

    pub keep_gone : AreGone p (with_older p older) e
    keep_gone = first_gone p (with_older p older) f dir e from split within in_dir from_is from_gone

    module _ (reserved : Vec ReservedFile Global) (pushed : reserved.items ≡ p.reserved.items ++ now ∷ []) where
      abbrev new : SinglePipe
      new = with_reserved (with_older p older) reserved p.capacity

      pub keep_pipe : IsPipe new e
      keep_pipe = pipe_with (with_older p older) e reserved p.capacity kept_purged.pipe
          (subst (AreReserved p.queue directories e) (sym pushed)
          (push_reserved p.queue directories e p.reserved.items now kept_purged.pipe.reserved (all_behind p.queue directories e p.reserved.items 1 kept_purged.pipe.reserved) is_reserved))

      among : IsIn now reserved.items
      among = subst (λ (l : List ReservedFile). IsIn now l) (sym pushed) (in_end now p.reserved.items)

      pub keep_kept : IsKept p d new e p.reserved.items f
      keep_kept = record {
        among = among;
        fd = renames.0;
        was = ap (fd_of d.names) (sym own_is) ∙ renames.1;
        is = ap (fd_of e.names) (sym next_is) ∙ there_then;
      }

      pub keep_fresh : NamesNoOther new d e
      keep_fresh path fd there = ⊎_elim (λ same. inr (now, among, same ∙ next_is)) (λ not. inl (was_there path fd not there).1) (same_or path to)

  -- it got it, or perhaps
  pub keep_purged : (e ≡ d) ⊎ Renames d e from to → IsPurged p older d e
  keep_purged (inl same) = purged_so p older f d e pipe some at rest (same_keeps p.queue (first_of p + 1) d e same)
  keep_purged (inr renames) = kept_purged renames

  pub keep_stays : (e ≡ d) ⊎ Renames d e from to → (e ≡ d) ⊎ AreGone p (with_older p older) e
  keep_stays (inl same) = inl same
  keep_stays (inr renames) = inr (keep_gone renames)

  pub keep_lost_before : (renames : Renames d e from to) (seq : ℕ) → HasLost (with_older p older) e seq → HasLost p d seq
  keep_lost_before renames seq =
      lost_before p older f d e (first_of (with_older p older)) seq pipe split (keep_purged (inr renames)).keeps (omega (arith, (keep_purged (inr renames)).shorter))

-- ---- one file after the other

module _ (p q r : SinglePipe) (d y g : Disk) (queue : q.queue ≡ p.queue) (paths : q.paths ≡ p.paths) (next_paths : r.paths ≡ q.paths) (front : IsFrontOf q.reserved.items r.reserved.items) (fresh : NamesNoOther q d y) where
  pub fresh_on : NamesNoOther r y g → NamesNoOther r d g
  fresh_on two path fd there = ⊎_elim
      (λ old. ⊎_elim (λ older. inl older)
      (λ (s, among, same). inr (s, in_front s q.reserved.items r.reserved.items front among, same ∙ ap (λ (v : Vec (String Global) Global). reserved_path (map string_bytes v.items) s.path_id s.seq) (sym next_paths)))
      (fresh path fd old))
      (λ new. inr new)
      (two path fd there)

  module _ (room : ℕ) (named : IsNamed d) (named_y : IsNamed y) (named_g : IsNamed g) (pipe : IsPipe p d) (pipe_q : IsPipe q y) (pipe_r : IsPipe r g) (before : IsFrontOf p.reserved.items q.reserved.items) (low : ℕ) (high : ℕ)
      (one : KeepsFrom p.queue low d y) (two : KeepsFrom q.queue high y g) where
    abbrev places : List Text
    places = directories_of_pipe p

    same_directories : directories_of_pipe q ≡ places
    same_directories = ap (λ (v : Vec (String Global) Global). map string_bytes v.items) paths

    same_path : (rs : List ReservedFile) (f : File) → kept_path q rs f ≡ kept_path p rs f
    same_path rs f = ap (λ (l : List Text). reserved_path l f.path_id (number_behind rs 1)) same_directories

    -- what could be kept before can be kept still
    can_still : (rs : List ReservedFile) (f : File) → IsFrontOf q.reserved.items rs → IsFrontOf rs r.reserved.items → CanBeKept p d room rs f → CanBeKept q y room rs f
    can_still rs f here behind can = record {
      own = queue ∙ can.own;
      version = can.version;
      few = can.few;
      number = can.number;
      directory = subst (λ (l : List Text). IsIn (get_or (directories_of_pipe q) f.path_id []) l) (sym one.directories) (subst (λ (l : List Text). IsIn (get_or l f.path_id []) d.directories) (sym same_directories) can.directory);
      vacant = λ there. can.vacant (subst (λ (t : Text). IsIn t d.directories) (same_path rs f) (subst (λ (l : List Text). IsIn (kept_path q rs f) l) one.directories there));
      free = ap (fd_of y.names) (same_path rs f) ∙ never_some (fd_of y.names (kept_path p rs f)) not_there;
    }
      where
        rising : AllByRecursion (λ s. s.seq < number_behind rs 1) rs
        rising = all_behind r.queue (directories_of_pipe r) g rs 1
            (reserved_front r.queue (directories_of_pipe r) g rs behind.0 (subst (AreReserved r.queue (directories_of_pipe r) g) behind.1 pipe_r.reserved))

        not_there : (fd : ℕ) → fd_of y.names (kept_path p rs f) ≡ Some fd → ⊥
        not_there fd found = ⊎_elim
            (λ old. none_some (fd_of d.names (kept_path p rs f)) fd can.free (found_there d.names d.next (kept_path p rs f) fd named old))
            (λ (s, among, same).
            let below : s.seq < number_behind rs 1 = in_all (λ (x : ReservedFile). x.seq < number_behind rs 1) rs s rising (in_front s q.reserved.items rs here among) in
            let number = (one_reserved q.queue (directories_of_pipe q) y q.reserved.items s pipe_q.reserved among).number in
            absurd (omega (arith, below, one_number (get_or places f.path_id []) (get_or (directories_of_pipe q) s.path_id []) (number_behind rs 1) s.seq can.number number same)))
            (fresh (kept_path p rs f) fd (found_in y.names (kept_path p rs f) fd found))

    -- what the next call kept
    kept_next : (rs : List ReservedFile) (f : File) → IsIn f p.older.items → IsKept q y r g rs f → IsKept p d r g rs f
    kept_next rs f there kept =
        let id : FileId = id_of p.queue f.seq in
        let path : Text = path_in places f.path_id id in
        let was : fd_of y.names path ≡ Some kept.fd = (λ i. fd_of y.names (path_in (sym same_directories i) f.path_id (id_of (sym queue i) f.seq))) ∙ kept.was in
        record {
          among = kept.among;
          fd = kept.fd;
          was = found_there d.names d.next path kept.fd named
              (log_kept p.queue low d y path id kept.fd one (said_in places p.queue f.seq f.path_id (older_number p d f pipe there)) (found_in y.names path kept.fd was)).0;
          is = ap (fd_of g.names) (sym (same_path rs f)) ∙ kept.is;
        }

    -- what was kept before stays
    kept_before : (rs : List ReservedFile) (f : File) → CanBeKept p d room rs f → IsKept p d q y rs f → IsKept p d r g rs f
    kept_before rs f can kept =
        let path : Text = kept_path p rs f in
        let none : log_file_of path ≡ None = reserved_none p.queue path (reserved_as p.queue (get_or places f.path_id []) path (number_behind rs 1) can.own can.number refl) in
        record {
          among = in_front (kept_behind rs f) q.reserved.items r.reserved.items front kept.among;
          fd = kept.fd;
          was = kept.was;
          is = found_there g.names g.next path kept.fd named_g
              (⊎_elim (λ left. left) (λ (n, lt, says). absurd (says_none path (id_of q.queue n) none says)) (two.names path kept.fd (found_in y.names path kept.fd kept.is)));
        }

    by_next : (f : File) → IsIn f p.older.items → IsIn f r.older.items ⊎ IsKeptIfCan q y r g room f → IsIn f r.older.items ⊎ IsKeptIfCan p d r g room f
    by_next f there (inl more) = inl more
    by_next f there (inr so) = inr (record {
      reserved = so.reserved;
      before = first_on p.reserved.items q.reserved.items so.reserved before so.before;
      behind = so.behind;
      kept = λ can. kept_next so.reserved f there (so.kept (can_still so.reserved f so.before so.behind can));
    })

    pub kept_on : AreKeptIfCan p d q y room → AreKeptIfCan q y r g room → AreKeptIfCan p d r g room
    kept_on first second f there = ⊎_elim
        (λ left. by_next f there (second f left))
        (λ so. inr (record {
          reserved = so.reserved;
          before = so.before;
          behind = first_on so.reserved q.reserved.items r.reserved.items so.behind front;
          kept = λ can. kept_before so.reserved f can (so.kept can);
        }))
        (first f there)

-- ---- none went, or one

pub none_went : (p : SinglePipe) (d e : Disk) (room : ℕ) → AreKeptIfCan p d p e room
none_went p d e room f there = inl there

pub none_fresh : (p : SinglePipe) (d : Disk) → NamesNoOther p d d
none_fresh p d path fd there = inl there

pub one_went : (p new : SinglePipe) (d e : Disk) (room : ℕ) (f : File) → p.older.items ≡ f ∷ new.older.items → IsFrontOf p.reserved.items new.reserved.items → (CanBeKept p d room p.reserved.items f → IsKept p d new e p.reserved.items f) → AreKeptIfCan p d new e room
one_went p new d e room f split front kept g there = by_place (subst (IsIn g) split there)
  where
    by_place : IsIn g (f ∷ new.older.items) → IsIn g new.older.items ⊎ IsKeptIfCan p d new e room g
    by_place (inr left) = inl left
    by_place (inl same) = inr (record {
      reserved = p.reserved.items;
      before = first_self p.reserved.items;
      behind = front;
      kept = λ can. subst (λ (x : File). IsKept p d new e p.reserved.items x) (sym same) (kept (subst (CanBeKept p d room p.reserved.items) same can));
    })

-- ---- the test of a file

pub can_yes : (p : SinglePipe) (d : Disk) (room : ℕ) (f : File) (directory : String Global) (path : Text) → p.queue ≡ Append → f.format.version ≡ V2 → length p.reserved.items < room → IsFileSeq (number_behind p.reserved.items 1) → f.path_id < length p.paths.items
    → directory ≡ get_or p.paths.items f.path_id directory → path ≡ string_bytes directory ++ 47 ∷ reserved_name (number_behind p.reserved.items 1) → IsIn (string_bytes directory) d.directories → (IsIn path d.directories → ⊥) → not (is_some (fd_of d.names path)) ≡ true
    → CanBeKept p d room p.reserved.items f
can_yes p d room f directory path own version few number within at is there vacant free =
    let here : get_or (directories_of_pipe p) f.path_id [] ≡ string_bytes directory = mapped_at p.paths.items f.path_id directory within at in
    let same : path ≡ kept_path p p.reserved.items f = is ∙ ap (λ (t : Text). t ++ 47 ∷ reserved_name (number_behind p.reserved.items 1)) (sym here) in
    record {
      own = own;
      version = version;
      few = few;
      number = number;
      directory = subst (λ (t : Text). IsIn t d.directories) (sym here) there;
      vacant = λ other. vacant (subst (λ (t : Text). IsIn t d.directories) (sym same) other);
      free = ap (fd_of d.names) (sym same) ∙ none_of (fd_of d.names path) free;
    }

pub can_no : (p : SinglePipe) (d : Disk) (room : ℕ) (f : File) (directory : String Global) (path : Text) → f.path_id < length p.paths.items → directory ≡ get_or p.paths.items f.path_id directory
    → path ≡ string_bytes directory ++ 47 ∷ reserved_name (number_behind p.reserved.items 1) → CanBeKept p d room p.reserved.items f → IsIn (string_bytes directory) d.directories × ((IsIn path d.directories → ⊥) × (not (is_some (fd_of d.names path)) ≡ true))
can_no p d room f directory path low at is can =
    let here : get_or (directories_of_pipe p) f.path_id [] ≡ string_bytes directory = mapped_at p.paths.items f.path_id directory low at in
    let same : path ≡ kept_path p p.reserved.items f = is ∙ ap (λ (t : Text). t ++ 47 ∷ reserved_name (number_behind p.reserved.items 1)) (sym here) in (
      subst (λ (t : Text). IsIn t d.directories) here can.directory,
      ((λ other. can.vacant (subst (λ (t : Text). IsIn t d.directories) same other)), ap (λ (o : Option ℕ). not (is_some o)) (ap (fd_of d.names) same ∙ can.free)),
    )

-- ---- behind a call

one_dropped : (n : ℕ) (l : List File) → length (drop n l) + 1 ≡ length l → drop n l ≡ drop 1 l
one_dropped zero l fewer = absurd (omega (arith, fewer))
one_dropped (suc zero) l fewer = refl
one_dropped (suc (suc n)) [] fewer = refl
one_dropped (suc (suc n)) (x ∷ []) fewer = refl
one_dropped (suc (suc n)) (x ∷ y ∷ l) fewer = absurd (omega (arith, fewer, length-drop n l))

pub first_split : (p new : SinglePipe) (f : File) → 0 < length p.older.items → f ≡ get_or p.older.items 0 f → AreLastOf p.older.items new.older.items → length new.older.items + 1 ≡ length p.older.items → p.older.items ≡ f ∷ new.older.items
first_split p new f some at last fewer =
    first_drop p.older.items some at ∙ ap (λ (l : List File). f ∷ l) (sym (last.1 ∙ one_dropped last.0 p.older.items (ap (λ (l : List File). length l + 1) (sym last.1) ∙ fewer)))
  where
    first_drop : (l : List File) → 0 < length l → f ≡ get_or l 0 f → l ≡ f ∷ drop 1 l
    first_drop [] some at = absurd (omega (arith, some))
    first_drop (g ∷ l) some at = ap (λ (x : File). x ∷ l) (sym at)

pub went_kept : {T E : Type 0} (r : Result T E) (p new : SinglePipe) (d e : Disk) (room : ℕ) (f : File) → 0 < length p.older.items → f ≡ get_or p.older.items 0 f → AreLastOf p.older.items new.older.items
    → OnOk r (length new.older.items + 1 ≡ length p.older.items) → IsFrontOf p.reserved.items new.reserved.items → OnOk r (CanBeKept p d room p.reserved.items f → IsKept p d new e p.reserved.items f) → OnOk r (AreKeptIfCan p d new e room)
went_kept (Ok x) p q d e room f some at last fewer front kept = one_went p q d e room f (first_split p q f some at last fewer) front kept
went_kept (Err x) p q d e room f some at last fewer front kept = tt
