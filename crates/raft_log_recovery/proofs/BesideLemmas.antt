-- What calls on one queue leave of what an opening finds of the other.
use Rattle.std.proofs.Common.{◌≡◌, ◌⊎◌, inl, inr, ℕ, ◌+◌, ◌≤◌, cond, List, [], ◌∷◌, ◌++◌, length, get_or, Some, None, refl, sym, ap, subst, ◌∙◌, arith}
use Rattle.std.specs.List.Sorted.{IsPermutation}
use Rattle.std.proofs.lemmas.List.Sorted.{Contains-permutation, IsPermutation-append, IsPermutation-cons, IsPermutation-middle, IsPermutation-refl, IsPermutation-sym, IsPermutation-trans}
use Rattle.raft_log_records.specs.declared.file_id.LogQueue.{LogQueue}
use Rattle.raft_log_disk.specs.Disk.{Disk, FileState, IsIn, IsNamed, fd_of, listed}
use Rattle.raft_log_disk.specs.Name.{log_file_of}
use Rattle.raft_log_disk.specs.Text.{Text, name_in}
use Rattle.raft_log_disk.proofs.TextLemmas.{in_directory}
use Rattle.raft_log_file.specs.Laws.{Batch}
use Rattle.raft_log_file.specs.Reading.{contents}
use Rattle.raft_log_files.specs.FileName.{IsFileSeq, log_file_name}
use Rattle.raft_log_files.specs.declared.recovery.RecoveryMode.{RecoveryMode}
use Rattle.raft_log_pipe.specs.declared.file.File.{File}
use Rattle.raft_log_pipe.specs.Alone.{Names}
use Rattle.raft_log_pipe.specs.Others.{KeepsOthers}
use Rattle.raft_log_pipe.specs.Pipe.{Numbered, id_of, numbered}
use Rattle.raft_log_pipe.proofs.AloneLemmas.{found_in}
use Rattle.raft_log_pipe.proofs.NextLemmas.{path_says}
use Rattle.raft_log_pipe.proofs.OthersLemmas.{one_path, path_back, path_beside}
use Rattle.raft_log_recovery.specs.declared.scan.FileKind.TheVariants.{Log}
use Rattle.raft_log_recovery.specs.declared.scan.FileName.{FileName}
use Rattle.raft_log_recovery.specs.Again.{FindsSound}
use Rattle.raft_log_recovery.specs.Opening.{AnyAligned, AreAllGot, AreGot, batches_of, said_in}
use Rattle.raft_log_recovery.specs.Queue.{AnyRefused, AreNumbered, AreOpen, HasRefused, IsFileOf, OnlyChanges, path_of}
use Rattle.raft_log_recovery.specs.Repair.{batches_in, fault_in, format_in}
use Rattle.raft_log_recovery.specs.Replay.{Placed}
use Rattle.raft_log_recovery.specs.Scan.{AreFound, AreInDirectories, files_named}
use Rattle.raft_log_recovery.proofs.FoundLemmas.{contained, found_numbered, in_contained, in_files, in_listed, name_slash}
use Rattle.raft_log_recovery.proofs.QueueLemmas.{in_middle, number_of}
use Rattle.raft_log_recovery.proofs.RunLemmas.{files_tally, hit_is, listed_once, named_permuted, tally, there_here}
use Rattle.raft_log_recovery.proofs.ScanLemmas.{named_so}

-- ---- lists with the same members, none of them twice

module _ {X : Type 0} where
  abbrev AreApart : List X → Type 0
  AreApart [] = Unit {0}
  AreApart (x ∷ xs) = (IsIn x xs → ⊥) × AreApart xs

  record IsCutAt (x : X) (xs : List X) : Type 0 where
    front : List X
    back : List X
    is : xs ≡ front ++ x ∷ back

  cut_at : (x : X) (xs : List X) → IsIn x xs → IsCutAt x xs
  cut_at x [] there = absurd there
  cut_at x (y ∷ ys) (inl is) = record { front = []; back = ys; is = ap (λ (z : X). z ∷ ys) (sym is) }
  cut_at x (y ∷ ys) (inr there) = let s = cut_at x ys there in record { front = y ∷ s.front; back = s.back; is = ap (λ (l : List X). y ∷ l) s.is }

  in_others : (z x : X) (front back : List X) → IsIn z (front ++ x ∷ back) → (z ≡ x) ⊎ IsIn z (front ++ back)
  in_others z x [] back there = there
  in_others z x (y ∷ front) back (inl is) = inr (inl is)
  in_others z x (y ∷ front) back (inr there) = elim (in_others z x front back there) [
    | inl same ↦ inl same
    | inr other ↦ inr (inr other)
  ]

  in_whole : (z x : X) (front back : List X) → IsIn z (front ++ back) → IsIn z (front ++ x ∷ back)
  in_whole z x [] back there = inr there
  in_whole z x (y ∷ front) back (inl is) = inl is
  in_whole z x (y ∷ front) back (inr there) = inr (in_whole z x front back there)

  there_still : (x : X) (front back : List X) → IsIn x (front ++ x ∷ back)
  there_still x [] back = inl refl
  there_still x (y ∷ front) back = inr (there_still x front back)

  apart_others : (x : X) (front back : List X) → AreApart (front ++ x ∷ back) → AreApart (front ++ back) × (IsIn x (front ++ back) → ⊥)
  apart_others x [] back (none, rest) = (rest, none)
  apart_others x (y ∷ front) back (none, rest) =
      let r = apart_others x front back rest in (((λ there. none (in_whole y x front back there)), r.0), by_place r.1)
    where
      by_place : (IsIn x (front ++ back) → ⊥) → IsIn x (y ∷ (front ++ back)) → ⊥
      by_place other (inl is) = none (subst (λ (z : X). IsIn z (front ++ x ∷ back)) is (there_still x front back))
      by_place other (inr there) = other there

  same_members : (xs ys : List X) → AreApart xs → AreApart ys → ((x : X) → IsIn x xs → IsIn x ys) → ((x : X) → IsIn x ys → IsIn x xs) → IsPermutation xs ys
  same_members [] [] one two to from = IsPermutation-refl []
  same_members [] (y ∷ ys) one two to from = absurd (from y (inl refl))
  same_members (x ∷ xs) ys (none, one) two to from =
      let s = cut_at x ys (to x (inl refl)) in
      let others = apart_others x s.front s.back (subst AreApart s.is two) in
      let rest = same_members xs (s.front ++ s.back) one others.0
      (λ z there. on z there (in_others z x s.front s.back (subst (IsIn z) s.is (to z (inr there)))))
      (λ z there. back z s.front s.back others.1 there (from z (subst (IsIn z) (sym s.is) (in_whole z x s.front s.back there)))) in
      subst (IsPermutation (x ∷ xs)) (sym s.is)
      (IsPermutation-trans (x ∷ xs) (x ∷ (s.front ++ s.back)) (s.front ++ x ∷ s.back) (IsPermutation-cons x xs (s.front ++ s.back) rest)
      (IsPermutation-sym (s.front ++ x ∷ s.back) (x ∷ (s.front ++ s.back)) (IsPermutation-middle s.front x s.back)))
    where
      on : (z : X) {P : Type 0} → IsIn z xs → (z ≡ x) ⊎ P → P
      on z there (inl same) = absurd (none (subst (λ (w : X). IsIn w xs) same there))
      on z there (inr other) = other

      back : (z : X) (front rear : List X) → (IsIn x (front ++ rear) → ⊥) → IsIn z (front ++ rear) → IsIn z (x ∷ xs) → IsIn z xs
      back z front rear other there (inl same) = absurd (other (subst (λ (w : X). IsIn w (front ++ rear)) same there))
      back z front rear other there (inr behind) = behind

-- ---- the log files of a queue on two disks

-- they have the same paths and bytes
pub record HaveSame (queue : LogQueue) (d e : Disk) : Type 0 where
  pub there : (path : Text) (n fd : ℕ) → log_file_of path ≡ Some (id_of queue n) → fd_of d.names path ≡ Some fd → fd_of e.names path ≡ Some fd
  pub back : (path : Text) (n fd : ℕ) → log_file_of path ≡ Some (id_of queue n) → fd_of e.names path ≡ Some fd → fd_of d.names path ≡ Some fd
  pub same : (path : Text) (n fd : ℕ) → log_file_of path ≡ Some (id_of queue n) → fd_of d.names path ≡ Some fd → e.file fd ≡ d.file fd

pub turned : (queue : LogQueue) (d e : Disk) → HaveSame queue d e → HaveSame queue e d
turned queue d e same = record {
  there = same.back;
  back = same.there;
  same = λ path n fd says found. sym (same.same path n fd says (same.back path n fd says found));
}

-- so of a queue beside the one that changed
pub have_beside : (queue own : LogQueue) (d e : Disk) → (own ≡ queue → ⊥) → IsNamed d → IsNamed e → KeepsOthers queue d e → HaveSame own d e
have_beside queue own d e apart old new keeps = record {
  there = λ path n fd says found. (path_beside queue own d e apart keeps path n fd new says found).0;
  back = λ path n fd says found. path_back queue own d e apart keeps path n fd old says found;
  same = λ path n fd says found. (path_beside queue own d e apart keeps path n fd new says found).1;
}

tally_in : (f : FileName) (fs : List FileName) → IsIn f fs → 1 ≤ tally f.seq fs
tally_in f [] there = absurd there
tally_in f (g ∷ fs) (inl is) = omega (arith, hit_is f.seq g.seq (ap (λ (x : FileName). x.seq) (sym is)))
tally_in f (g ∷ fs) (inr there) = omega (arith, tally_in f fs there)

-- files with numbers of their own stand apart
once_apart : (fs : List FileName) → ((n : ℕ) → tally n fs ≤ 1) → AreApart fs
once_apart [] once = tt
once_apart (f ∷ fs) once = ((λ there. absurd (omega (arith, once f.seq, hit_is f.seq f.seq refl, tally_in f fs there))), once_apart fs (λ n. omega (arith, once n)))

names_apart : (d : Disk) (queue : LogQueue) (place : ℕ) (directory : Text) (names : List Text) → IsNamed d → IsPermutation (listed d.names directory) names → AreApart (files_named (Log queue) place names)
names_apart d queue place directory names named same =
    once_apart (files_named (Log queue) place names)
    (λ n. omega (arith, files_tally (Log queue) n place names, named_permuted (Log queue) n (listed d.names directory) names same, listed_once d.names d.next directory queue n named))

-- a file of a directory of one disk is a file of that of the other
module _ (queue : LogQueue) (d e : Disk) (there : (path : Text) (n fd : ℕ) → log_file_of path ≡ Some (id_of queue n) → fd_of d.names path ≡ Some fd → fd_of e.names path ≡ Some fd) where
  here_too : (place : ℕ) (directory : Text) (names others : List Text) (f : FileName) → IsPermutation (listed d.names directory) names → IsPermutation (listed e.names directory) others → IsIn f (files_named (Log queue) place names)
      → IsIn f (files_named (Log queue) place others)
  here_too place directory names others f same other is =
      let t = there_here d queue place directory [] names f same is in
      let zero_at : t.at ≡ 0 = omega (arith, t.within) in
      let path_id : f.path_id ≡ place = omega (arith, t.place_is, zero_at) in
      let name : Text = log_file_name (id_of queue f.seq) in
      let path : Text = directory ++ 47 ∷ name in
      let found : fd_of d.names path ≡ Some t.fd = subst (λ i. fd_of d.names (get_or (directory ∷ []) i [] ++ 47 ∷ name) ≡ Some t.fd) zero_at t.named in
      let now : fd_of e.names path ≡ Some t.fd = there path f.seq t.fd (path_says directory name path (id_of queue f.seq) t.number refl refl) found in
      let named : name_in directory path ≡ Some name = in_directory directory path (47 ∷ name) name refl refl ∙ ap (λ b. cond b None (Some name)) (name_slash (Log queue) f.seq name t.number refl) in
      let among : IsIn name others = in_contained name others (Contains-permutation (listed e.names directory) others name other
      (contained name (listed e.names directory) (in_listed e.names directory name path t.fd named (found_in e.names path t.fd now)))) in
      subst (λ p. IsIn (record { seq = f.seq; path_id = p }) (files_named (Log queue) place others)) (sym path_id) (in_files (Log queue) place f.seq name others (named_so (Log queue) f.seq name t.number refl) among)

-- a file that was found has the path of a log file
says_name : (directories : List Text) (queue : LogQueue) (name : FileName) → IsFileSeq name.seq → log_file_of (path_of directories queue name) ≡ Some (id_of queue name.seq)
says_name directories queue name below = path_says (get_or directories name.path_id []) (log_file_name (id_of queue name.seq)) (path_of directories queue name) (id_of queue name.seq) below refl refl

module _ (queue : LogQueue) (d e : Disk) (same : HaveSame queue d e) (old : IsNamed d) (new : IsNamed e) where
  -- what an opening finds
  in_both : (place : ℕ) (directories : List Text) (found : List FileName) → AreInDirectories d (Log queue) place directories found
      → (all : List FileName) × AreInDirectories e (Log queue) place directories all × IsPermutation found all
  in_both place [] found none = ([], refl, subst (λ (l : List FileName). IsPermutation l []) (sym none) (IsPermutation-refl []))
  in_both place (directory ∷ directories) found (names, others, permuted, is, rest) =
      let more = in_both (place + 1) directories others rest in
      let now : List Text = listed e.names directory in
      let whole : IsPermutation now now = IsPermutation-refl now in
      let first : List FileName = files_named (Log queue) place names in
      let one : List FileName = files_named (Log queue) place now in
      let here : IsPermutation first one = same_members first one (names_apart d queue place directory names old permuted) (names_apart e queue place directory now new whole)
      (λ f there. here_too queue d e same.there place directory names now f permuted whole there)
      (λ f there. here_too queue e d same.back place directory now names f whole permuted there) in (
        one ++ more.0,
        (now, more.0, whole, refl, more.1),
        subst (λ (l : List FileName). IsPermutation l (one ++ more.0)) (sym is) (IsPermutation-append first one others more.0 here more.2),
      )

  pub found_same : (directories : List Text) (names : List FileName) → AreFound d (Log queue) directories names → AreFound e (Log queue) directories names
  found_same directories names found =
      let all = in_both 0 directories found.all found.in_directories in
      record {
        all = all.0;
        sorted = found.sorted;
        start = found.start;
        in_directories = all.1;
        same = IsPermutation-trans all.0 found.all found.sorted (IsPermutation-sym found.all all.0 all.2) found.same;
        rising = found.rising;
        last = found.last;
        rest = found.rest;
      }

  -- a file by its name
  pub file_same : (directories : List Text) (name : FileName) (fd : ℕ) → IsFileSeq name.seq → IsFileOf d directories queue name fd → IsFileOf e directories queue name fd
  file_same directories name fd below of = same.there (path_of directories queue name) name.seq fd (says_name directories queue name below) of

  pub bytes_same : (directories : List Text) (name : FileName) (fd : ℕ) → IsFileSeq name.seq → IsFileOf d directories queue name fd → e.file fd ≡ d.file fd
  bytes_same directories name fd below of = same.same (path_of directories queue name) name.seq fd (says_name directories queue name below) of

  -- files that are open
  pub open_same : (directories : List Text) (count : ℕ) (names : List FileName) (fs : List File) → AreNumbered count names → AreOpen d directories queue names fs → AreOpen e directories queue names fs
  open_same directories count [] fs numbers none = none
  open_same directories count (name ∷ names) fs numbers (f, rest, is, here, others) = (
    f,
    rest,
    is,
    record { seq = here.seq; place = here.place; there = file_same directories name f.handle.0 numbers.0 here.there },
    open_same directories count names rest numbers.3 others,
  )

  said_same : (directories : List Text) (name : FileName) (f : File) → IsFileSeq name.seq → IsFileOf d directories queue name f.handle.0 → said_in queue e f ≡ said_in queue d f
  said_same directories name f below of = ap (λ (x : FileState). contents (batches_in (id_of queue f.seq) x.bytes)) (bytes_same directories name f.handle.0 below of)

  pub batches_same : (directories : List Text) (count : ℕ) (names : List FileName) (fs : List File) → AreNumbered count names → AreOpen d directories queue names fs → batches_of queue e fs ≡ batches_of queue d fs
  batches_same directories count [] fs numbers none = ap (batches_of queue e) none ∙ sym (ap (batches_of queue d) none)
  batches_same directories count (name ∷ names) fs numbers (f, rest, is, here, others) =
      let one : said_in queue e f ≡ said_in queue d f = said_same directories name f numbers.0 here.there in
      let behind = batches_same directories count names rest numbers.3 others in
      ap (batches_of queue e) is ∙ (λ i. numbered f.seq (one i) ++ behind i) ∙ sym (ap (batches_of queue d) is)

  -- the batches that a machine got of them
  pub got_same : (directories : List Text) (count : ℕ) (names : List FileName) (fs : List File) (before : Numbered) (all : List Placed) → AreNumbered count names → AreOpen d directories queue names fs → AreAllGot queue d before fs all
      → AreAllGot queue e before fs all
  got_same directories count [] fs before all numbers none got = subst (λ (l : List File). AreAllGot queue e before l all) (sym none) (subst (λ (l : List File). AreAllGot queue d before l all) none got)
  got_same directories count (name ∷ names) fs before all numbers (f, rest, is, here, others) got =
      subst (λ (l : List File). AreAllGot queue e before l all) (sym is)
      (behind (λ more last. got_same directories count names rest (before ++ numbered f.seq (said_in queue e f)) more numbers.3 others last) (subst (λ (l : List File). AreAllGot queue d before l all) is got))
    where
      said : said_in queue d f ≡ said_in queue e f
      said = sym (said_same directories name f numbers.0 here.there)

      behind : ((more : List Placed) → AreAllGot queue d (before ++ numbered f.seq (said_in queue e f)) rest more → AreAllGot queue e (before ++ numbered f.seq (said_in queue e f)) rest more) → AreAllGot queue d before (f ∷ rest) all
          → AreAllGot queue e before (f ∷ rest) all
      behind next (first, more, split, one, last) = (
        first,
        more,
        split,
        subst (λ (ks : List Batch). AreGot queue f before ks first) said one,
        next more (subst (λ (ks : List Batch). AreAllGot queue d (before ++ numbered f.seq ks) rest more) said last),
      )

  -- faults and alignments
  pub has_refused_same : (mode : RecoveryMode) (directories : List Text) (name : FileName) (behind : List FileName) → IsFileSeq name.seq → HasRefused mode directories queue d name behind → HasRefused mode directories queue e name behind
  has_refused_same mode directories name behind below (fd, f, of, fault, cuts) =
      (fd, f, file_same directories name fd below of, ap (λ (x : FileState). fault_in (id_of queue name.seq) x.bytes) (bytes_same directories name fd below of) ∙ fault, cuts)

  pub refused_same : (mode : RecoveryMode) (directories : List Text) (count : ℕ) (names : List FileName) → AreNumbered count names → AnyRefused mode directories queue names d → AnyRefused mode directories queue names e
  refused_same mode directories count names numbers (before, name, behind, is, refused) =
      let below = (number_of count names numbers name (subst (IsIn name) (sym is) (in_middle before behind name))).0 in
      (before, name, behind, is, has_refused_same mode directories name behind below refused)

  pub aligned_same : (directories : List Text) (count : ℕ) (names : List FileName) → AreNumbered count names → AnyAligned directories queue names d → AnyAligned directories queue names e
  aligned_same directories count names numbers (name, fd, among, of, some) =
      let below = (number_of count names numbers name among).0 in
      (name, fd, among, file_same directories name fd below of, λ zero_there. some (ap (λ (x : FileState). (format_in x.bytes).alignment) (sym (bytes_same directories name fd below of)) ∙ zero_there))

-- what an opening finds of the one it finds of the other
pub sound_same : (queue : LogQueue) (d e : Disk) → HaveSame queue d e → IsNamed d → IsNamed e → (mode : RecoveryMode) (directories : List Text) (bs : Numbered) → FindsSound mode directories queue d bs → FindsSound mode directories queue e bs
sound_same queue d e same old new mode directories bs s = record {
  made = made;
  names = s.names;
  files = s.files;
  finds = record {
    makes = record { made = s.finds.makes.made; among = s.finds.makes.among; only = refl };
    found = found_same queue s.made made alike was new directories s.names s.finds.found;
    opened = open_same queue s.made made alike was new directories (length directories) s.names s.files numbers s.finds.opened;
  };
  passed = λ any. s.passed (refused_same queue made s.made (turned queue s.made made alike) new was mode directories (length directories) s.names numbers any);
  reads = batches_same queue s.made made alike was new directories (length directories) s.names s.files numbers s.finds.opened ∙ s.reads;
}
  where
    made : Disk
    made = record { directories = e.directories ++ s.finds.makes.made; names = e.names; file = e.file; next = e.next }

    names_are : s.made.names ≡ d.names
    names_are = ap (λ (x : Disk). x.names) s.finds.makes.only

    was : IsNamed s.made
    was = subst IsNamed (sym s.finds.makes.only) old

    alike : HaveSame queue s.made made
    alike = record {
      there = λ path n fd says found. same.there path n fd says (subst (λ (l : Names). fd_of l path ≡ Some fd) names_are found);
      back = λ path n fd says found. subst (λ (l : Names). fd_of l path ≡ Some fd) (sym names_are) (same.back path n fd says found);
      same = λ path n fd says found.
          same.same path n fd says (subst (λ (l : Names). fd_of l path ≡ Some fd) names_are found) ∙ sym (ap (λ (x : Disk). x.file fd) s.finds.makes.only);
    }

    numbers : AreNumbered (length directories) s.names
    numbers = found_numbered s.made (Log queue) directories (length directories) s.names (omega arith) s.finds.found

-- ---- files of these names are files of the queue

pub only_others : (directories : List Text) (queue : LogQueue) (count : ℕ) (names : List FileName) (d e : Disk) → IsNamed d → AreNumbered count names → OnlyChanges directories queue names d e → KeepsOthers queue d e
only_others directories queue count names d e named numbers only = record {
  stay = λ path fd other there. (
    subst (λ (l : Names). IsIn (path, fd) l) (sym only.names_stay) there,
    only.files fd (λ name among of.
        let own : Text = path_of directories queue name in
        other.0 name.seq (ap log_file_of (one_path d.names d.next path own fd named there (found_in d.names own fd of)) ∙ says_name directories queue name (number_of count names numbers name among).0)),
  );
  none = λ path fd other there. subst (λ (l : Names). IsIn (path, fd) l) only.names_stay there;
  next = omega (arith, only.next);
  directories = only.directories_stay;
}
