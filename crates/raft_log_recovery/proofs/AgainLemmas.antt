-- What an opening finds of files that another one has left, refused or not, is what it would have found before.
use Rattle.std.proofs.Common.{◌≡◌, ◌⊎◌, inl, inr, ⊎_elim, ℕ, ◌+◌, ◌-◌, ◌<◌, ◌≤◌, Bool, true, false, cond, eqb, List, [], ◌∷◌, ◌++◌, length, get_or, map, Option, Some, None, refl, sym, ap, subst, ◌∙◌, arith, length-append}
use Rattle.std.specs.Prelude.{Result, Ok, Err, OnOk, OnErr, ◌==◌}
use Rattle.std.specs.List.Sorted.{IsPermutation}
use Rattle.std.proofs.lemmas.Bool.{eqb-false, eqb-true, false≢true}
use Rattle.std.proofs.Math.Seq.{get_or-append_seam}
use Rattle.std.proofs.lemmas.List.Sorted.{Contains-permutation, IsPermutation-sym}
use Rattle.raft_log_records.specs.declared.file_id.LogQueue.{LogQueue}
use Rattle.raft_log_disk.specs.Disk.{Disk, FileState, IsIn, IsNamed, IsNoFile, fd_of, listed}
use Rattle.raft_log_disk.specs.Image.{HasImages, seen_image}
use Rattle.raft_log_disk.specs.Text.{Text, same_text}
use Rattle.raft_log_disk.proofs.LawLemmas.{image_there, is_there}
use Rattle.raft_log_files.specs.FileName.{IsFileSeq}
use Rattle.raft_log_files.specs.declared.error.CorruptionFault.{CorruptionFault}
use Rattle.raft_log_files.specs.declared.recovery.RecoveryMode.{RecoveryMode}
use Rattle.raft_log_files.specs.declared.recovery.RecoveryMode.TheVariants.{AbsoluteConsistency, TolerateTailCorruption, TolerateAnyCorruption}
use Rattle.raft_log_file.specs.Reading.{contents}
use Rattle.raft_log_pipe.specs.declared.file.File.{File}
use Rattle.raft_log_pipe.specs.Alone.{IsVacant, Names, StandsAt, path_in}
use Rattle.raft_log_pipe.specs.Found.{KeepsButHeader, MakesButHeader}
use Rattle.raft_log_pipe.specs.Pipe.{Numbered, id_of, numbered}
use Rattle.raft_log_pipe.proofs.OpenLemmas.{named_apart}
use Rattle.raft_log_pipe.proofs.PipeLemmas.{file_beside}
use Rattle.raft_log_pipe.proofs.PurgeLemmas.{same_number}
use Rattle.raft_log_recovery.specs.declared.scan.FileKind.{FileKind}
use Rattle.raft_log_recovery.specs.declared.scan.FileKind.TheVariants.{Log}
use Rattle.raft_log_recovery.specs.declared.scan.FileName.{FileName}
use Rattle.raft_log_recovery.specs.Again.{FindsAsBefore, FindsSound}
use Rattle.raft_log_recovery.specs.Opening.{batches_of}
use Rattle.raft_log_recovery.specs.Queue.{AnyRefused, AreNumbered, AreOpen, AreReadAlike, AreRecovered, IsFileOf, KeepsRefused, OnlyChanges, path_of}
use Rattle.raft_log_recovery.specs.Repair.{batches_in, cuts_faults, fault_in}
use Rattle.raft_log_recovery.specs.Scan.{AreFound, AreInDirectories}
use Rattle.raft_log_recovery.proofs.DirectoryLemmas.{makes_none}
use Rattle.raft_log_recovery.proofs.FoundLemmas.{contained, found_numbered, in_contained, last_found}
use Rattle.raft_log_recovery.proofs.ImageLemmas.{short_bare}
use Rattle.raft_log_recovery.proofs.QueueLemmas.{file_is, file_named, left_bytes, number_of, numbered_behind}
use Rattle.raft_log_recovery.proofs.RunLemmas.{found_stands, in_dropped, none_stand, stands_found}

-- ---- names alone say what is found

directories_on : (d e : Disk) (kind : FileKind) (path_id : ℕ) (directories : List Text) (found : List FileName) → e.names ≡ d.names → AreInDirectories d kind path_id directories found → AreInDirectories e kind path_id directories found
directories_on d e kind path_id [] found same are = are
directories_on d e kind path_id (directory ∷ directories) found same (names, others, permuted, is, rest) =
    (names, others, subst (λ (l : Names). IsPermutation (listed l directory) names) (sym same) permuted, is, directories_on d e kind (path_id + 1) directories others same rest)

found_on : (d e : Disk) (kind : FileKind) (directories : List Text) (names : List FileName) → e.names ≡ d.names → AreFound d kind directories names → AreFound e kind directories names
found_on d e kind directories names same are = record {
  all = are.all;
  sorted = are.sorted;
  start = are.start;
  in_directories = directories_on d e kind 0 directories are.all same are.in_directories;
  same = are.same;
  rising = are.rising;
  last = are.last;
  rest = are.rest;
}

file_on : (d e : Disk) (directories : List Text) (queue : LogQueue) (name : FileName) (fd : ℕ) → e.names ≡ d.names → IsFileOf d directories queue name fd → IsFileOf e directories queue name fd
file_on d e directories queue name fd same there = ap (λ (l : Names). fd_of l (path_of directories queue name)) same ∙ there

open_on : (d e : Disk) (directories : List Text) (queue : LogQueue) (names : List FileName) (fs : List File) → e.names ≡ d.names → AreOpen d directories queue names fs → AreOpen e directories queue names fs
open_on d e directories queue [] fs same none = none
open_on d e directories queue (name ∷ names) fs same (f, rest, is, here, others) = (
  f,
  rest,
  is,
  record { seq = here.seq; place = here.place; there = file_on d e directories queue name f.handle.0 same here.there },
  open_on d e directories queue names rest same others,
)

-- ---- files by their numbers

none_some : (fd : ℕ) → (let o : Option ℕ = None in o ≡ Some fd) → ⊥
none_some fd e = cc

same_fd : (o : Option ℕ) (fd : ℕ) → (o ≡ Some fd) ⊎ (o ≡ Some fd → ⊥)
same_fd None fd = inr (none_some fd)
same_fd (Some n) fd = by_test (eqb n fd) refl
  where
    by_test : (b : Bool) → eqb n fd ≡ b → (let o : Option ℕ = Some n in (o ≡ Some fd) ⊎ (o ≡ Some fd → ⊥))
    by_test true is = inl (ap (λ m. Some m) (eqb-true n fd is))
    by_test false is = inr (λ e. eqb-false n fd is (same_number n fd e))

-- a file has one of these names, or none of them
abbrev HasName : Disk → List Text → LogQueue → List FileName → ℕ → Type 0
HasName d directories queue names fd = (name : FileName) × IsIn name names × IsFileOf d directories queue name fd

abbrev HasNoName : Disk → List Text → LogQueue → List FileName → ℕ → Type 0
HasNoName d directories queue names fd = (name : FileName) → IsIn name names → IsFileOf d directories queue name fd → ⊥

named_by : (d : Disk) (directories : List Text) (queue : LogQueue) (names : List FileName) (fd : ℕ) → HasName d directories queue names fd ⊎ HasNoName d directories queue names fd
named_by d directories queue [] fd = inr (λ name there of. there)
named_by d directories queue (n ∷ names) fd = elim (same_fd (fd_of d.names (path_of directories queue n)) fd) [
  | inl is ↦ inl (n, inl refl, is)
  | inr not_n ↦ behind not_n (named_by d directories queue names fd)
]
  where
    behind : (IsFileOf d directories queue n fd → ⊥) → HasName d directories queue names fd ⊎ HasNoName d directories queue names fd → HasName d directories queue (n ∷ names) fd ⊎ HasNoName d directories queue (n ∷ names) fd
    behind not_n (inl name) = inl (name.0, inr name.1, name.2)
    behind not_n (inr none) = inr (λ name there of. ⊎_elim (λ same. not_n (subst (λ (x : FileName). IsFileOf d directories queue x fd) same of)) (λ among. none name among of) there)

-- names of one file have one number
one_seq : (d : Disk) (directories : List Text) (queue : LogQueue) (a b : FileName) (fd : ℕ) → IsNamed d → IsFileSeq a.seq → IsFileSeq b.seq → IsFileOf d directories queue a fd → IsFileOf d directories queue b fd → a.seq ≡ b.seq
one_seq d directories queue a b fd named below under one two =
    named_apart d queue a.seq b.seq fd named (file_named d directories queue a fd below one) (file_named d directories queue b fd under two)

-- ---- the last number

-- a name stands among others
record IsAmong (names : List FileName) (name : FileName) : Type 0 where
  pub before : List FileName
  pub behind : List FileName
  pub is : names ≡ before ++ name ∷ behind

split_at : (names : List FileName) (name : FileName) → IsIn name names → IsAmong names name
split_at [] name there = absurd there
split_at (n ∷ names) name (inl same) = record { before = []; behind = names; is = ap (λ (x : FileName). x ∷ names) (sym same) }
split_at (n ∷ names) name (inr there) = let s = split_at names name there in record { before = n ∷ s.before; behind = s.behind; is = ap (λ (l : List FileName). n ∷ l) s.is }

-- what one run has in these directories has no greater number than the last of another
no_greater : (d e : Disk) (queue : LogQueue) (directories : List Text) (names others : List FileName) (default x : FileName) → e.names ≡ d.names → AreFound d (Log queue) directories names → AreFound e (Log queue) directories others
    → 0 < length names → IsIn x others → x.seq ≤ (get_or names (length names - 1) default).seq
no_greater d e queue directories names others default x same are found some there =
    let inside : IsIn x found.sorted = in_dropped found.start found.sorted x (subst (IsIn x) found.rest there) in
    let among : IsIn x found.all = in_contained x found.all (Contains-permutation found.sorted found.all x (IsPermutation-sym found.all found.sorted found.same) (contained x found.sorted inside)) in
    let stands = found_stands e queue directories found.all x found.in_directories among in
    let at : StandsAt d.names directories queue x.seq x.path_id stands.0 = subst (λ (l : Names). StandsAt l directories queue x.seq x.path_id stands.0) same stands.1 in
    let f = stands_found d queue 0 directories are.all x.seq x.path_id stands.0 at.0 at.1 at.2 are.in_directories in
    let sorted : IsIn f.0 are.sorted = in_contained f.0 are.sorted (Contains-permutation are.all are.sorted f.0 are.same (contained f.0 are.all f.1)) in
    omega (arith, last_found d (Log queue) directories names are default some f.0 sorted, f.2)

-- ---- what a mode refuses of one run it refuses of another

cuts_less : (mode : RecoveryMode) (a b : Bool) → cuts_faults mode a ≡ false → (b ≡ true → a ≡ true) → cuts_faults mode b ≡ false
cuts_less AbsoluteConsistency a b cuts less = refl
cuts_less TolerateTailCorruption a true cuts less = absurd (false≢true (sym cuts ∙ less refl))
cuts_less TolerateTailCorruption a false cuts less = refl
cuts_less TolerateAnyCorruption a b cuts less = cuts

-- the last file of one run is the last of another
last_again : (d e : Disk) (queue : LogQueue) (directories : List Text) (names before behind front rest : List FileName) (name other : FileName) → e.names ≡ d.names → AreFound d (Log queue) directories names
    → AreFound e (Log queue) directories (before ++ name ∷ behind) → names ≡ front ++ other ∷ rest → other.seq ≡ name.seq → (length rest == 0) ≡ true → (length behind == 0) ≡ true
last_again d e queue directories names before [] front rest name other same are found is seq none = refl
last_again d e queue directories names before (next ∷ behind) front [] name other same are found is seq none =
    let all : List FileName = before ++ name ∷ next ∷ behind in
    let follows = numbered_behind (length directories) before (name ∷ next ∷ behind) (found_numbered e (Log queue) directories (length directories) all (omega arith) found) in
    let bound = no_greater d e queue directories names all other next same are found (omega (arith, ap length is, length-append front (other ∷ []))) (behind_it before) in
    let at : length names - 1 ≡ length front = omega (arith, ap length is, length-append front (other ∷ [])) in
    let here : get_or names (length names - 1) other ≡ other
    = ap (λ n. get_or names n other) at ∙ ap (λ (l : List FileName). get_or l (length front) other) is ∙ get_or-append_seam front other [] other in
    absurd (omega (arith, bound, follows.2, seq, ap (λ (x : FileName). x.seq) here))
  where
    behind_it : (l : List FileName) → IsIn next (l ++ name ∷ next ∷ behind)
    behind_it [] = inr (inl refl)
    behind_it (x ∷ l) = inr (behind_it l)
last_again d e queue directories names before (next ∷ behind) front (x ∷ rest) name other same are found is seq none = absurd (omega (arith, eqb-true (length (x ∷ rest)) 0 none))

pub none_keeps : (mode : RecoveryMode) (directories : List Text) (queue : LogQueue) (names : List FileName) (old new : Disk) → (AnyRefused mode directories queue names old → ⊥) → KeepsRefused mode directories queue names old new
none_keeps mode directories queue names old new none before name behind is refused = absurd (none (before, name, behind, is, refused))

-- ---- files that stay and read as they did

module _ (mode : RecoveryMode) (directories : List Text) (queue : LogQueue) (old new : Disk) (names : List FileName) (named : IsNamed old) (are : AreFound old (Log queue) directories names)
    (only : OnlyChanges directories queue names old new) (alike : AreReadAlike directories queue names old new) (kept : KeepsRefused mode directories queue names old new) where
  seq_of : (name : FileName) → IsIn name names → IsFileSeq name.seq
  seq_of name there = (number_of (length directories) names (found_numbered old (Log queue) directories (length directories) names (omega arith) are) name there).0

  reads_as : (name : FileName) (fd : ℕ) → IsFileSeq name.seq → IsFileOf old directories queue name fd → batches_in (id_of queue name.seq) (new.file fd).bytes ≡ batches_in (id_of queue name.seq) (old.file fd).bytes
  reads_as name fd below there = elim (named_by old directories queue names fd) [
    | inl other ↦ subst (λ n. batches_in (id_of queue n) (new.file fd).bytes ≡ batches_in (id_of queue n) (old.file fd).bytes)
        (one_seq old directories queue other.0 name fd named (seq_of other.0 other.1) below other.2 there) (alike other.0 fd other.1 other.2)
    | inr none ↦ ap (λ (s : FileState). batches_in (id_of queue name.seq) s.bytes) (only.files fd none)
  ]

  -- a file of another run that has a fault which the mode refuses
  refused_same : (e : Disk) (before behind : List FileName) (name : FileName) (fd : ℕ) (f : CorruptionFault) → e.names ≡ old.names → AreFound e (Log queue) directories (before ++ name ∷ behind) → IsFileSeq name.seq
      → IsFileOf old directories queue name fd → fault_in (id_of queue name.seq) (old.file fd).bytes ≡ Some f → cuts_faults mode (length behind == 0) ≡ false → new.file fd ≡ old.file fd
  refused_same e before behind name fd f same found below there fault cuts = elim (named_by old directories queue names fd) [
    | inl other ↦ by_name other.0 other.1 other.2
    | inr none ↦ only.files fd none
  ]
    where
      by_name : (other : FileName) → IsIn other names → IsFileOf old directories queue other fd → new.file fd ≡ old.file fd
      by_name other among of =
          let seq : other.seq ≡ name.seq = one_seq old directories queue other name fd named (seq_of other among) below of there in
          let s = split_at names other among in
          kept s.before other s.behind s.is (
            fd,
            f,
            of,
            ap (λ n. fault_in (id_of queue n) (old.file fd).bytes) seq ∙ fault,
            cuts_less mode (length behind == 0) (length s.behind == 0) cuts (last_again old e queue directories names before behind s.before s.behind name other same are found s.is seq),
          )
          other fd (inl refl) of

  pub finds_before : FindsAsBefore mode directories queue old new
  finds_before bs s = record {
    made = before;
    names = s.names;
    files = s.files;
    finds = record {
      makes = record { made = s.finds.makes.made; among = s.finds.makes.among; only = refl };
      found = found;
      opened = opened;
    };
    passed = λ any. s.passed (refused any);
    reads = all_alike s.names s.files opened (found_numbered before (Log queue) directories (length directories) s.names (omega arith) found) ∙ s.reads;
  }
    where
      before : Disk
      before = record { directories = old.directories ++ s.finds.makes.made; names = old.names; file = old.file; next = old.next }

      names_are : before.names ≡ s.made.names
      names_are = sym (ap (λ (d : Disk). d.names) s.finds.makes.only ∙ only.names_stay)

      file_is_new : (n : ℕ) → s.made.file n ≡ new.file n
      file_is_new n = ap (λ (d : Disk). d.file n) s.finds.makes.only

      found : AreFound before (Log queue) directories s.names
      found = found_on s.made before (Log queue) directories s.names names_are s.finds.found

      opened : AreOpen before directories queue s.names s.files
      opened = open_on s.made before directories queue s.names s.files names_are s.finds.opened

      refused : AnyRefused mode directories queue s.names before → AnyRefused mode directories queue s.names s.made
      refused (front, name, behind, is, (fd, f, of, fault, cuts)) =
          let there : AreFound before (Log queue) directories (front ++ name ∷ behind) = subst (AreFound before (Log queue) directories) is found in
          let seq = (number_of (length directories) (front ++ name ∷ behind) (found_numbered before (Log queue) directories (length directories) (front ++ name ∷ behind) (omega arith) there) name (split_in front)).0 in
          let same : s.made.file fd ≡ old.file fd = file_is_new fd ∙ refused_same before front behind name fd f refl there seq of fault cuts in
          (front, name, behind, is, (fd, f, file_on before s.made directories queue name fd (sym names_are) of, ap (λ (x : FileState). fault_in (id_of queue name.seq) x.bytes) same ∙ fault, cuts))
        where
          split_in : (l : List FileName) → IsIn name (l ++ name ∷ behind)
          split_in [] = inl refl
          split_in (x ∷ l) = inr (split_in l)

      all_alike : (ns : List FileName) (fs : List File) → AreOpen before directories queue ns fs → AreNumbered (length directories) ns → batches_of queue before fs ≡ batches_of queue s.made fs
      all_alike [] fs none numbers = ap (batches_of queue before) none ∙ sym (ap (batches_of queue s.made) none)
      all_alike (name ∷ ns) fs (f, rest, is, here, others) numbers =
          let one : batches_in (id_of queue f.seq) (s.made.file f.handle.0).bytes ≡ batches_in (id_of queue f.seq) (old.file f.handle.0).bytes
          = ap (λ (x : FileState). batches_in (id_of queue f.seq) x.bytes) (file_is_new f.handle.0)
          ∙ subst (λ n. batches_in (id_of queue n) (new.file f.handle.0).bytes ≡ batches_in (id_of queue n) (old.file f.handle.0).bytes) (sym here.seq) (reads_as name f.handle.0 numbers.0 here.there) in
          let behind = all_alike ns rest others numbers.3 in
          ap (batches_of queue before) is ∙ (λ i. numbered f.seq (contents (sym one i)) ++ behind i) ∙ sym (ap (batches_of queue s.made) is)

-- ---- a queue that had no files

new_or_old : (es : Names) (other path : Text) (n fd : ℕ) → fd_of (es ++ (other, n) ∷ []) path ≡ Some fd → (fd_of es path ≡ Some fd) ⊎ (fd ≡ n)
new_or_old [] other path n fd is = by_test (same_text other path) is
  where
    by_test : (b : Bool) → cond b (Some n) None ≡ Some fd → (fd_of [] path ≡ Some fd) ⊎ (fd ≡ n)
    by_test true there = inr (sym (same_number n fd there))
    by_test false there = absurd (none_some fd there)
new_or_old (e ∷ es) other path n fd is = by_test (same_text e.0 path) refl (new_or_old es other path n fd) is
  where
    by_test : (b : Bool) → same_text e.0 path ≡ b → (fd_of (es ++ (other, n) ∷ []) path ≡ Some fd → (fd_of es path ≡ Some fd) ⊎ (fd ≡ n)) → cond b (Some e.1) (fd_of (es ++ (other, n) ∷ []) path) ≡ Some fd
        → (fd_of (e ∷ es) path ≡ Some fd) ⊎ (fd ≡ n)
    by_test true here next there = inl (ap (λ t. cond t (Some e.1) (fd_of es path)) here ∙ there)
    by_test false here next there = elim (next there) [
      | inl before ↦ inl (ap (λ t. cond t (Some e.1) (fd_of es path)) here ∙ before)
      | inr new ↦ inr new
    ]

-- reads see no more of a file than a crash may leave
no_longer : (d : Disk) (fd : ℕ) → HasImages d → (IsNoFile d fd → ⊥) → length (d.file fd).bytes ≤ (d.file fd).greatest
no_longer d fd images there = (image_there d (seen_image d) d.names fd (is_there fd _ there) images.seen).no_longer

same_disk : (directories : List Text) (queue : LogQueue) (names : List FileName) (old mid : Disk) → names ≡ [] → OnlyChanges directories queue names old mid → mid ≡ old
same_disk directories queue names old mid none only = λ i. record {
  directories = only.directories_stay i;
  names = only.names_stay i;
  file = λ n. only.files n (λ name there of. subst (IsIn name) none there) i;
  next = only.next i;
}

module _ (directories : List Text) (queue : LogQueue) (old new made : Disk) (path : Text) (vacant : IsVacant old.names directories queue) (names : made.names ≡ old.names ++ (path, old.next) ∷ [])
    (files : (n : ℕ) → made.file n ≡ new.file n) (few : length (new.file old.next).bytes ≤ 69) where
  no_batches : (ns : List FileName) (fs : List File) → AreOpen made directories queue ns fs → AreNumbered (length directories) ns → batches_of queue made fs ≡ []
  no_batches [] fs none numbers = ap (batches_of queue made) none
  no_batches (name ∷ ns) fs (f, rest, is, here, others) numbers =
      let there : fd_of (old.names ++ (path, old.next) ∷ []) (path_of directories queue name) ≡ Some f.handle.0 = ap (λ (l : Names). fd_of l (path_of directories queue name)) (sym names) ∙ here.there in
      let fd : f.handle.0 ≡ old.next = ⊎_elim
      (λ before. absurd (vacant name.seq name.path_id f.handle.0 (numbers.0, numbers.1, before)))
      (λ is_new. is_new)
      (new_or_old old.names path (path_of directories queue name) old.next f.handle.0 there) in
      let bare : batches_in (id_of queue f.seq) (made.file f.handle.0).bytes ≡ [] = ap (λ (x : FileState). batches_in (id_of queue f.seq) x.bytes) (files f.handle.0 ∙ ap new.file fd) ∙ short_bare (id_of queue f.seq) (new.file old.next).bytes few in
      let behind = no_batches ns rest others numbers.3 in
      ap (batches_of queue made) is ∙ (λ i. numbered f.seq (contents (bare i)) ++ behind i)

-- nothing was found, and nothing is
pub created_before : (mode : RecoveryMode) (directories : List Text) (queue : LogQueue) (old mid new : Disk) (names : List FileName) (place : ℕ) → HasImages new → AreFound old (Log queue) directories names → names ≡ []
    → OnlyChanges directories queue names old mid → MakesButHeader mid new directories (id_of queue place) → FindsAsBefore mode directories queue old new
created_before mode directories queue old mid new names place images are none only (inl same) =
    λ bs s. subst (λ (d : Disk). FindsSound mode directories queue d bs) (same ∙ same_disk directories queue names old mid none only) s
created_before mode directories queue old mid new names place images are none only (inr (at, made, is, change, short)) =
    λ bs s. subst (FindsSound mode directories queue old) (sym (nothing bs s)) found_nothing
  where
    nothing_was : AreFound old (Log queue) directories []
    nothing_was = subst (AreFound old (Log queue) directories) none are

    found_nothing : FindsSound mode directories queue old []
    found_nothing = record {
      made = old;
      names = [];
      files = [];
      finds = record { makes = makes_none directories old old refl; found = nothing_was; opened = refl };
      passed = λ any. no_front any.0 any.1 any.2 any.3;
      reads = refl;
    }
      where
        no_front : (front : List FileName) (name : FileName) (behind : List FileName) → (let nil : List FileName = [] in nil ≡ front ++ name ∷ behind) → ⊥
        no_front front name behind is = omega (arith, ap length is, length-append front (name ∷ behind))

    path : Text
    path = path_in directories at (id_of queue place)

    was : mid ≡ old
    was = same_disk directories queue names old mid none only

    new_names : new.names ≡ old.names ++ (path, old.next) ∷ []
    new_names = ap (λ (d : Disk). d.names) change ∙ ap (λ (d : Disk). d.names) is.is ∙ ap (λ (d : Disk). d.names ++ (path, d.next) ∷ []) was

    few : length (new.file old.next).bytes ≤ 69
    few =
        let there : IsNoFile new old.next → ⊥ = λ no. no (subst (λ (l : Names). IsIn old.next (map (λ (e : Text × ℕ). e.1) l)) (sym new_names) (in_end old.names)) in
        omega (arith, no_longer new old.next images there, short, ap (λ (d : Disk). (new.file d.next).greatest) was)
      where
        in_end : (es : Names) → IsIn old.next (map (λ (e : Text × ℕ). e.1) (es ++ (path, old.next) ∷ []))
        in_end [] = inl refl
        in_end (e ∷ es) = inr (in_end es)

    nothing : (bs : Numbered) (s : FindsSound mode directories queue new bs) → bs ≡ []
    nothing bs s =
        sym s.reads
        ∙ no_batches directories queue old new s.made path (none_stand old queue directories nothing_was) (ap (λ (d : Disk). d.names) s.finds.makes.only ∙ new_names) (λ n. ap (λ (d : Disk). d.file n) s.finds.makes.only) few s.names s.files
        s.finds.opened (found_numbered s.made (Log queue) directories (length directories) s.names (omega arith) s.finds.found)

-- ---- a pipe over files

-- the header of a file without bytes was perhaps begun
pub opened_alike : (directories : List Text) (queue : LogQueue) (old mid new : Disk) (names : List FileName) (fs : List File) → HasImages new → AreRecovered directories queue old mid names fs → OnlyChanges directories queue names old new → KeepsButHeader mid new fs
    → AreReadAlike directories queue names old new
opened_alike directories queue old mid new names fs images so only (inl same) name fd among there =
    ap (λ (d : Disk). batches_in (id_of queue name.seq) (d.file fd).bytes) same ∙ sym (left_bytes directories queue old mid names fs name fd so among there)
opened_alike directories queue old mid new names fs images so only (inr (older, active, is, bare, change, short)) name fd among there = by_file (eqb fd active.handle.0) refl
  where
    before : batches_in (id_of queue name.seq) (mid.file fd).bytes ≡ batches_in (id_of queue name.seq) (old.file fd).bytes
    before = sym (left_bytes directories queue old mid names fs name fd so among there)

    by_file : (b : Bool) → eqb fd active.handle.0 ≡ b → batches_in (id_of queue name.seq) (new.file fd).bytes ≡ batches_in (id_of queue name.seq) (old.file fd).bytes
    by_file false apart = ap (λ (x : FileState). batches_in (id_of queue name.seq) x.bytes) (file_beside mid new active.handle.0 fd change (eqb-false fd active.handle.0 apart)) ∙ before
    by_file true same =
        let here : fd ≡ active.handle.0 = eqb-true fd active.handle.0 same in
        let few = no_longer new fd images (file_is new directories queue name fd (file_on old new directories queue name fd only.names_stay there)) in
        let none : (mid.file fd).bytes ≡ [] = ap (λ n. (mid.file n).bytes) here ∙ bare in
        short_bare (id_of queue name.seq) (new.file fd).bytes (omega (arith, few, short, ap (λ n. (new.file n).greatest) here))
        ∙ sym (ap (batches_in (id_of queue name.seq)) none)
        ∙ before

pub either_way : {X E : Type 0} (r : Result X E) (P : Type 0) → OnOk r P → OnErr r P → P
either_way (Ok x) P ok err = ok
either_way (Err e) P ok err = err
