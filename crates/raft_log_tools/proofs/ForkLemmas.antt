-- What is added to a disk, and copies that stand while more is added.
use Rattle.std.proofs.Common.{◌≡◌, ◌⊎◌, inl, inr, ℕ, ◌+◌, ◌<◌, ◌≤◌, Bool, true, false, cond, List, [], ◌∷◌, ◌++◌, length, get_or, take, drop, Option, Some, None, refl, sym, ap, subst, ◌∙◌, append_assoc, arith}
use Rattle.std.specs.Prelude.{IsPermutation, is_some}
use Rattle.std.proofs.lemmas.List.{append-nil, drop-take, drop_all, length-take-le, take-append-drop, take-take, take_more}
use Rattle.std.proofs.lemmas.List.Sorted.{length_permutation}
use Rattle.raft_log_records.specs.declared.file_id.LogQueue.{LogQueue}
use Rattle.raft_log_disk.specs.Text.{Text, same_text}
use Rattle.raft_log_disk.specs.Disk.{Disk, FileState, IsIn, IsNamed, after_create, after_make_dir, fd_of, no_bytes, put, with_file}
use Rattle.raft_log_disk.specs.Image.{IsStill}
use Rattle.raft_log_disk.proofs.DiskLemmas.{other_file, same_file}
use Rattle.raft_log_pipe.proofs.AloneLemmas.{found_in, in_either, in_first, in_second}
use Rattle.raft_log_pipe.proofs.OthersLemmas.{below_next_name}
use Rattle.raft_log_recovery.specs.declared.scan.FileName.{FileName}
use Rattle.raft_log_recovery.specs.Caused.{IsMissing}
use Rattle.raft_log_recovery.specs.Queue.{IsFileOf, path_of}
use Rattle.raft_log_tools.specs.Forking.{AreCopied, IsCopied, OnlyAdds, WritesOnly, copy_path}

-- ---- what is added

pub adds_none : (d e : Disk) → e ≡ d → OnlyAdds d e
adds_none d e is = record {
  made = [];
  directories = ap (λ (x : Disk). x.directories) is ∙ sym (append-nil d.directories);
  added = [];
  names = ap (λ (x : Disk). x.names) is ∙ sym (append-nil d.names);
  next = omega (arith, ap (λ (x : Disk). x.next) is);
  files = λ n below. ap (λ (x : Disk). x.file n) is;
}

pub adds_then : (a b c : Disk) → OnlyAdds a b → OnlyAdds b c → OnlyAdds a c
adds_then a b c one two = record {
  made = one.made ++ two.made;
  directories = two.directories ∙ ap (λ (l : List Text). l ++ two.made) one.directories ∙ append_assoc a.directories one.made two.made;
  added = one.added ++ two.added;
  names = two.names ∙ ap (λ (l : List (Text × ℕ)). l ++ two.added) one.names ∙ append_assoc a.names one.added two.added;
  next = omega (arith, one.next, two.next);
  files = λ n below. two.files n (omega (arith, below, one.next)) ∙ one.files n below;
}

-- a directory
pub adds_directory : (d e : Disk) (path : Text) (new : Type 0) → (e ≡ d) ⊎ (new × (e ≡ after_make_dir d path)) → OnlyAdds d e × (e.names ≡ d.names)
adds_directory d e path new (inl is) = (adds_none d e is, ap (λ (x : Disk). x.names) is)
adds_directory d e path new (inr (fresh, is)) = (
  record {
    made = path ∷ [];
    directories = ap (λ (x : Disk). x.directories) is;
    added = [];
    names = ap (λ (x : Disk). x.names) is ∙ sym (append-nil d.names);
    next = omega (arith, ap (λ (x : Disk). x.next) is);
    files = λ n below. ap (λ (x : Disk). x.file n) is;
  },
  ap (λ (x : Disk). x.names) is,
)

-- a file
pub adds_file : (d e : Disk) (path : Text) → e ≡ after_create d path → OnlyAdds d e
adds_file d e path is = record {
  made = [];
  directories = ap (λ (x : Disk). x.directories) is ∙ sym (append-nil d.directories);
  added = (path, d.next) ∷ [];
  names = ap (λ (x : Disk). x.names) is;
  next = omega (arith, ap (λ (x : Disk). x.next) is);
  files = λ n below. ap (λ (x : Disk). x.file n) is ∙ other_file n d.next _ (d.file n) (λ same. absurd (omega (arith, below, same)));
}

pub adds_either : (d e : Disk) (path : Text) → (e ≡ d) ⊎ (e ≡ after_create d path) → OnlyAdds d e
adds_either d e path (inl is) = adds_none d e is
adds_either d e path (inr is) = adds_file d e path is

-- ---- a file that is written

pub writes_none : (d : Disk) (fd : ℕ) → WritesOnly d d fd
writes_none d fd = record { directories = refl; names = refl; next = refl; others = λ n apart. refl }

pub writes_file : (d e : Disk) (fd : ℕ) (f : FileState) → e ≡ with_file d fd f → WritesOnly d e fd
writes_file d e fd f is = record {
  directories = ap (λ (x : Disk). x.directories) is;
  names = ap (λ (x : Disk). x.names) is;
  next = ap (λ (x : Disk). x.next) is;
  others = λ n apart. ap (λ (x : Disk). x.file n) is ∙ other_file n fd f (d.file n) apart;
}

pub writes_same : (d e : Disk) (fd : ℕ) → e ≡ d → WritesOnly d e fd
writes_same d e fd is = subst (λ (x : Disk). WritesOnly d x fd) (sym is) (writes_none d fd)

pub writes_then : (a b c : Disk) (fd : ℕ) → WritesOnly a b fd → WritesOnly b c fd → WritesOnly a c fd
writes_then a b c fd one two = record {
  directories = two.directories ∙ one.directories;
  names = two.names ∙ one.names;
  next = two.next ∙ one.next;
  others = λ n apart. two.others n apart ∙ one.others n apart;
}

-- of a new file
pub adds_written : (a b c : Disk) (fd : ℕ) → OnlyAdds a b → a.next ≤ fd → WritesOnly b c fd → OnlyAdds a c
adds_written a b c fd adds new writes = record {
  made = adds.made;
  directories = writes.directories ∙ adds.directories;
  added = adds.added;
  names = writes.names ∙ adds.names;
  next = omega (arith, adds.next, writes.next);
  files = λ n below. writes.others n (λ same. absurd (omega (arith, below, new, same))) ∙ adds.files n below;
}

-- one piece more of the bytes
pub piece_more : (bytes seen piece : List ℕ) (at len : ℕ) → at + len ≤ length bytes → seen ≡ take at bytes → piece ≡ take len (drop at bytes) → put seen at piece ≡ take (at + len) bytes
piece_more bytes seen piece at len within so is =
    let short : length seen ≡ at = ap length so ∙ length-take-le at bytes (omega (arith, within)) in
    let front : take at seen ≡ take at (take (at + len) bytes) =
    ap (take at) so ∙ take-take at at bytes (omega arith) ∙ sym (take-take at (at + len) bytes (omega arith)) in
    let none : drop (at + length piece) seen ≡ [] = drop_all (at + length piece) seen (omega (arith, short)) in
    let rest : piece ≡ drop at (take (at + len) bytes) = is ∙ sym (drop-take at len bytes) in
    (λ i. front i ++ rest i ++ none i) ∙ append-nil _ ∙ take-append-drop at (take (at + len) bytes)

-- ---- names

found_still : (es more : List (Text × ℕ)) (path : Text) (fd : ℕ) → fd_of es path ≡ Some fd → fd_of (es ++ more) path ≡ Some fd
found_still [] more path fd is = absurd cc
found_still (e ∷ es) more path fd is = by_test (same_text e.0 path) (found_still es more path fd) is
  where
    by_test : (b : Bool) → (fd_of es path ≡ Some fd → fd_of (es ++ more) path ≡ Some fd) → cond b (Some e.1) (fd_of es path) ≡ Some fd → cond b (Some e.1) (fd_of (es ++ more) path) ≡ Some fd
    by_test true others here = here
    by_test false others here = others here

-- a file that was found before has the same number
pub file_before : (a b : Disk) (directories : List Text) (queue : LogQueue) (name : FileName) (fd : ℕ) → OnlyAdds a b → (fd_of a.names (path_of directories queue name) ≡ None → ⊥) → IsFileOf b directories queue name fd
    → IsFileOf a directories queue name fd
file_before a b directories queue name fd adds there is = by_file (fd_of a.names (path_of directories queue name)) refl
  where
    by_file : (o : Option ℕ) → fd_of a.names (path_of directories queue name) ≡ o → fd_of a.names (path_of directories queue name) ≡ Some fd
    by_file None none = absurd (there none)
    by_file (Some n) found =
        let later : fd_of b.names (path_of directories queue name) ≡ Some n = ap (λ (l : List (Text × ℕ)). fd_of l (path_of directories queue name)) adds.names ∙ found_still a.names adds.added (path_of directories queue name) n found in
        found ∙ sym later ∙ is

-- ---- copies

pub below_next : (d : Disk) (path : Text) (fd : ℕ) → IsNamed d → fd_of d.names path ≡ Some fd → fd < d.next
below_next d path fd named is = below_next_name d.names d.next path fd named (found_in d.names path fd is)

-- a copy stands while more is added
pub copied_on : (a b c : Disk) (directories : List Text) (queue : LogQueue) (name : FileName) (target : Text) → IsNamed b → OnlyAdds b c → IsCopied a b directories queue name target → IsCopied a c directories queue name target
copied_on a b c directories queue name target named adds is =
    let same : c.file is.copy ≡ b.file is.copy = adds.files is.copy (below_next_name b.names b.next (copy_path target queue name) is.copy named is.named) in
    record {
      source = is.source;
      copy = is.copy;
      there = is.there;
      named = subst (IsIn (copy_path target queue name, is.copy)) (sym adds.names) (in_first (copy_path target queue name, is.copy) b.names adds.added is.named);
      apart = is.apart;
      bytes = ap (λ (f : FileState). f.bytes) same ∙ is.bytes;
      still = subst IsStill (sym same) is.still;
    }

-- it is one of the file that was there before
pub copied_since : (a b c : Disk) (directories : List Text) (queue : LogQueue) (name : FileName) (target : Text) → IsNamed a → OnlyAdds a b → (fd_of a.names (path_of directories queue name) ≡ None → ⊥)
    → IsCopied b c directories queue name target → IsCopied a c directories queue name target
copied_since a b c directories queue name target named adds there is =
    let before : IsFileOf a directories queue name is.source = file_before a b directories queue name is.source adds there is.there in
    record {
      source = is.source;
      copy = is.copy;
      there = before;
      named = is.named;
      apart = omega (arith, adds.next, is.apart);
      bytes = is.bytes ∙ ap (λ (f : FileState). f.bytes) (adds.files is.source (below_next a (path_of directories queue name) is.source named before));
      still = is.still;
    }

-- a file is created and written with the bytes of another
pub copied_to : (old mid new : Disk) (directories : List Text) (queue : LogQueue) (name : FileName) (target path : Text) (from to : ℕ) → IsNamed old → IsFileOf old directories queue name from → path ≡ copy_path target queue name → to ≡ old.next
    → mid ≡ after_create old path → WritesOnly mid new to → (new.file to).bytes ≡ (mid.file from).bytes → IsStill (new.file to) → IsCopied old new directories queue name target
copied_to old mid new directories queue name target path from to named there says number is writes bytes still =
    let adds : OnlyAdds old mid = adds_file old mid path is in
    record {
      source = from;
      copy = to;
      there = there;
      named = subst (IsIn (copy_path target queue name, to)) (sym (writes.names ∙ ap (λ (x : Disk). x.names) is))
          (in_second (copy_path target queue name, to) old.names ((path, old.next) ∷ []) (inl (λ i. (sym says i, number i))));
      apart = omega (arith, number);
      bytes = bytes ∙ ap (λ (f : FileState). f.bytes) (adds.files from (below_next old (path_of directories queue name) from named there));
      still = still;
    }

pub none_named : (o : Option ℕ) → is_some o ≡ false → o ≡ None
none_named None is = refl
none_named (Some n) is = absurd cc

-- the files of one name more have copies
pub copied_more : (a b c : Disk) (directories : List Text) (queue : LogQueue) (target : Text) (names : List FileName) (i : ℕ) (name : FileName) → IsNamed a → IsNamed b → OnlyAdds a b → OnlyAdds b c → i < length names → name ≡ get_or names i name
    → (fd_of a.names (path_of directories queue name) ≡ None → ⊥) → AreCopied a b directories queue target (take i names) → IsCopied b c directories queue name target → AreCopied a c directories queue target (take (i + 1) names)
copied_more a b c directories queue target names i name named then adds more within is there before here other among =
    elim (in_either other (take i names) (name ∷ []) (subst (IsIn other) (take_more names i name within ∙ ap (λ (x : FileName). take i names ++ x ∷ []) (sym is)) among)) [
      | inl earlier ↦ copied_on a b c directories queue other target then more (before other earlier)
      | inr last ↦ elim last [
        | inl same ↦ subst (λ (x : FileName). IsCopied a c directories queue x target) (sym same) (copied_since a b c directories queue name target named adds there here)
        | inr never ↦ absurd never
      ]
    ]

-- a file that is missing was missing before
pub missing_before : (a b : Disk) (directories : List Text) (queue : LogQueue) (names : List FileName) → OnlyAdds a b → IsMissing b directories queue names → IsMissing a directories queue names
missing_before a b directories queue names adds (name, among, none) = (name, among, by_file (fd_of a.names (path_of directories queue name)) refl)
  where
    by_file : (o : Option ℕ) → fd_of a.names (path_of directories queue name) ≡ o → fd_of a.names (path_of directories queue name) ≡ None
    by_file None is = is
    by_file (Some n) is =
        let later : fd_of b.names (path_of directories queue name) ≡ Some n = ap (λ (l : List (Text × ℕ)). fd_of l (path_of directories queue name)) adds.names ∙ found_still a.names adds.added (path_of directories queue name) n is in
        absurd cc

-- copies made after more was added, and more is added behind them
pub copied_between : (a b c d : Disk) (directories : List Text) (queue : LogQueue) (names : List FileName) (target : Text) → IsNamed a → IsNamed c → OnlyAdds a b → OnlyAdds c d → (IsMissing a directories queue names → ⊥)
    → AreCopied b c directories queue target names → AreCopied a d directories queue target names
copied_between a b c d directories queue names target named then adds more there all name among =
    copied_on a c d directories queue name target then more (copied_since a b c directories queue name target named adds (λ none. there (name, among, none)) (all name among))

-- nothing stands where a list of it is empty
pub none_listed : (names : List Text) (told : List Text) → IsPermutation names told → length told ≡ 0 → names ≡ []
none_listed [] told same none = refl
none_listed (name ∷ names) told same none = absurd (omega (arith, none, length_permutation (name ∷ names) told same))

-- a new file has no bytes
pub begins_empty : (d e : Disk) (path : Text) (n : ℕ) → e ≡ after_create d path → n ≡ d.next → (e.file n).bytes ≡ []
begins_empty d e path n is number =
    ap (λ (x : Disk). (x.file n).bytes) is ∙ ap (λ (m : ℕ). ((after_create d path).file m).bytes) number ∙ ap (λ (f : FileState). f.bytes) (same_file d.next no_bytes (d.file d.next))
