-- Reserved names: they are no log file's, and each is of one number.
use Rattle.std.proofs.Common.{◌≡◌, inl, inr, ℕ, ◌+◌, ◌-◌, ◌/◌, ◌%◌, Bool, true, false, cond, nat_lt, List, [], ◌∷◌, ◌++◌, length, get_or, take, drop, Some, None, refl, sym, ap, subst, ◌∙◌, arith, length-append, length-drop, take-append-drop}
use Rattle.std.specs.Prelude.{codes, is_some, ◌==◌, ◌&&◌, ◌||◌}
use Rattle.std.specs.List.{list_all}
use Rattle.std.proofs.lemmas.Bool.{and_parts, lt-ltb, ltb-true, ne_eqb}
use Rattle.std.proofs.lemmas.List.{get_or-append-add}
use Rattle.std.proofs.lemmas.List.Folds.{list_any-append}
use Rattle.std.proofs.Math.Seq.{drop-append_seam}
use lib.Pointwise.{bytes_decides}
use Rattle.raft_log_records.specs.declared.file_id.FileId.{FileId}
use Rattle.raft_log_records.specs.declared.file_id.LogQueue.{LogQueue}
use Rattle.raft_log_records.specs.declared.file_id.LogQueue.TheVariants.{Append, Rewrite}
use Rattle.raft_log_disk.specs.Text.{Text, has_slash, name_in, same_text}
use Rattle.raft_log_disk.proofs.TextLemmas.{in_directory}
use Rattle.raft_log_disk.specs.Disk.{Disk, HasDirectory, IsIn}
use Rattle.raft_log_disk.specs.Name.{file_id_of, is_digit, log_file_of, suffix_of}
use Rattle.raft_log_files.specs.FileName.{IsFileSeq, log_file_name, reserved_name, suffixed}
use Rattle.raft_log_files.proofs.DigitLemmas.{name_split}
use Rattle.raft_log_pipe.specs.declared.file.ReservedFile.{ReservedFile}
use Rattle.raft_log_pipe.specs.Reserved.{AreReserved, IsReserved, IsReservedPath, reserved_path}

-- ---- tests

pub not_same : (a b : Text) → (a ≡ b → ⊥) → same_text a b ≡ false
not_same a b apart = by_test (same_text a b) refl
  where
    by_test : (t : Bool) → same_text a b ≡ t → same_text a b ≡ false
    by_test true is = absurd (apart ((bytes_decides a b).0 is))
    by_test false is = is

-- ---- names

-- the ninth byte is a digit
ninth : (n : ℕ) (suffix : Text) → (m : ℕ) × (get_or (suffixed n suffix) 8 0 ≡ 48 + m)
unfolding suffixed
ninth n suffix = (n / 10 / 10 / 10 / 10 / 10 / 10 / 10 % 10, refl)

reserved_long : (n : ℕ) → IsFileSeq n → length (reserved_name n) ≡ 33
reserved_long n below =
    let s = name_split n (codes ".raftlog.reserved") (reserved_name n) below refl in
    let suffix : length (codes ".raftlog.reserved") ≡ 17 = refl in
    omega (arith, s.0.long, ap length s.0.behind, suffix, length-drop 16 (reserved_name n))

-- a reserved file's path says no log file
pub not_log : (directory : Text) (n : ℕ) → IsFileSeq n → log_file_of (directory ++ 47 ∷ reserved_name n) ≡ None
not_log directory n below =
    let path : Text = directory ++ 47 ∷ reserved_name n in
    let whole : length path ≡ length directory + 34 = omega (arith, length-append directory (47 ∷ reserved_name n), reserved_long n below) in
    let digit = ninth n (codes ".raftlog.reserved") in
    let place : length path - 25 ≡ length directory + 9 = omega (arith, whole) in
    let at : get_or path (length path - 25) 0 ≡ 48 + digit.0 = ap (λ (i : ℕ). get_or path i 0) place ∙ get_or-append-add directory (47 ∷ reserved_name n) 9 0 ∙ digit.1 in
    let test : (nat_lt 24 (length path) && (get_or path (length path - 25) 0 == 47)) ≡ false
    = λ i. lt-ltb 24 (length path) (omega (arith, whole)) i && ne_eqb (get_or path (length path - 25) 0) 47 (λ same. absurd (omega (arith, at, same))) i in
    (λ i. cond (test i) (file_id_of (drop (length path - 24) path)) None)

-- paths of two numbers differ
pub one_number : (a b : Text) (n m : ℕ) → IsFileSeq n → IsFileSeq m → a ++ 47 ∷ reserved_name n ≡ b ++ 47 ∷ reserved_name m → n ≡ m
one_number a b n m below under same =
    let long : length a ≡ length b = omega (arith, ap length same, length-append a (47 ∷ reserved_name n), length-append b (47 ∷ reserved_name m), reserved_long n below, reserved_long m under) in
    let names : 47 ∷ reserved_name n ≡ 47 ∷ reserved_name m = sym (drop-append_seam a (47 ∷ reserved_name n)) ∙ (λ i. drop (long i) (same i)) ∙ drop-append_seam b (47 ∷ reserved_name m) in
    let one = name_split n (codes ".raftlog.reserved") (reserved_name n) below refl in
    let two = name_split m (codes ".raftlog.reserved") (reserved_name n) under (ap (drop 1) names) in
    sym one.1 ∙ two.1

-- the append queue alone has them
pub reserved_own : (queue : LogQueue) (path : Text) → IsReservedPath queue path → queue ≡ Append
reserved_own Append path is = refl
reserved_own Rewrite path is = absurd is

pub reserved_none : (queue : LogQueue) (path : Text) → IsReservedPath queue path → log_file_of path ≡ None
reserved_none Append path (directory, n, below, is) = ap log_file_of is ∙ not_log directory n below
reserved_none Rewrite path is = absurd is

reserved_in : (queue : LogQueue) (directory path : Text) (n : ℕ) → queue ≡ Append → IsFileSeq n → path ≡ directory ++ 47 ∷ reserved_name n → IsReservedPath queue path
reserved_in Append directory path n own below is = (directory, n, below, is)
reserved_in Rewrite directory path n own below is = absurd cc

pub reserved_says : (queue : LogQueue) (directories : List Text) (d : Disk) (f : ReservedFile) → IsReserved queue directories d f → IsReservedPath queue (reserved_path directories f.path_id f.seq)
reserved_says queue directories d f is = reserved_in queue (get_or directories f.path_id []) (reserved_path directories f.path_id f.seq) f.seq is.own is.number refl

pub reserved_no_log : (queue : LogQueue) (directories : List Text) (d : Disk) (f : ReservedFile) → IsReserved queue directories d f → log_file_of (reserved_path directories f.path_id f.seq) ≡ None
reserved_no_log queue directories d f is = not_log (get_or directories f.path_id []) f.seq is.number

pub says_none : (path : Text) (id : FileId) → log_file_of path ≡ None → log_file_of path ≡ Some id → ⊥
says_none path id none some = let both : None ≡ Some id = sym none ∙ some in absurd cc

-- ---- names have no slash

pub digits_slash : (text : Text) → list_all is_digit text ≡ true → has_slash text ≡ false
digits_slash [] all = refl
digits_slash (b ∷ text) all =
    let parts = and_parts (is_digit b) (list_all is_digit text) all in
    let apart : (b == 47) ≡ false = ne_eqb b 47 (λ same. absurd (omega (arith, ltb-true 47 b (and_parts (nat_lt 47 b) (nat_lt b 58) parts.0).0, same))) in
    λ i. apart i || digits_slash text parts.1 i

suffix_slash : (queue : LogQueue) → has_slash (suffix_of queue) ≡ false
suffix_slash Append = refl
suffix_slash Rewrite = refl

log_slash : (id : FileId) → IsFileSeq id.seq → has_slash (log_file_name id) ≡ false
log_slash id below =
    let s = name_split id.seq (suffix_of id.queue) (log_file_name id) below refl in
    ap has_slash (sym (take-append-drop 16 (log_file_name id))) ∙ list_any-append (λ (b : ℕ). b == 47) (take 16 (log_file_name id)) (drop 16 (log_file_name id))
    ∙ (λ i. digits_slash (take 16 (log_file_name id)) s.0.front i || (ap has_slash s.0.behind ∙ suffix_slash id.queue) i)

reserved_slash : (n : ℕ) → IsFileSeq n → has_slash (reserved_name n) ≡ false
reserved_slash n below =
    let suffix : List ℕ = codes ".raftlog.reserved" in
    let s = name_split n suffix (reserved_name n) below refl in
    let none : has_slash suffix ≡ false = refl in
    ap has_slash (sym (take-append-drop 16 (reserved_name n))) ∙ list_any-append (λ (b : ℕ). b == 47) (take 16 (reserved_name n)) (drop 16 (reserved_name n))
    ∙ (λ i. digits_slash (take 16 (reserved_name n)) s.0.front i || (ap has_slash s.0.behind ∙ none) i)

-- so a directory that is there holds their paths, and those of reserved files
held_name : (ds : List Text) (directory name : Text) → has_slash name ≡ false → IsIn directory ds → HasDirectory ds (directory ++ 47 ∷ name)
held_name [] directory name plain there = absurd there
held_name (d ∷ ds) directory name plain (inl same) =
    inl (subst (λ (x : Text). is_some (name_in x (directory ++ 47 ∷ name)) ≡ true) same
    (ap is_some (in_directory directory (directory ++ 47 ∷ name) (47 ∷ name) name refl refl ∙ ap (λ (b : Bool). cond b None (Some name)) plain)))
held_name (d ∷ ds) directory name plain (inr there) = inr (held_name ds directory name plain there)

pub held_path : (ds : List Text) (directory : Text) (id : FileId) → IsFileSeq id.seq → IsIn directory ds → HasDirectory ds (directory ++ 47 ∷ log_file_name id)
held_path ds directory id below there = held_name ds directory (log_file_name id) (log_slash id below) there

pub held_reserved : (ds : List Text) (directory : Text) (n : ℕ) → IsFileSeq n → IsIn directory ds → HasDirectory ds (directory ++ 47 ∷ reserved_name n)
held_reserved ds directory n below there = held_name ds directory (reserved_name n) (reserved_slash n below) there

-- ---- files that stay reserved

pub one_kept : (queue : LogQueue) (directories : List Text) (d e : Disk) (f : ReservedFile) (is : IsReserved queue directories d f) → IsIn (reserved_path directories f.path_id f.seq, is.fd) e.names → e.directories ≡ d.directories → IsReserved queue directories e f
one_kept queue directories d e f is there same = record {
  own = is.own;
  number = is.number;
  within = is.within;
  fd = is.fd;
  there = there;
  directory = subst (IsIn (get_or directories f.path_id [])) (sym same) is.directory;
}

pub reserved_kept : (queue : LogQueue) (directories : List Text) (d e : Disk) (fs : List ReservedFile) → ((f : ReservedFile) (is : IsReserved queue directories d f) → IsIn (reserved_path directories f.path_id f.seq, is.fd) e.names)
    → e.directories ≡ d.directories → AreReserved queue directories d fs → AreReserved queue directories e fs
reserved_kept queue directories d e [] there same all = tt
reserved_kept queue directories d e (f ∷ fs) there same all = (one_kept queue directories d e f all.0 (there f all.0) same, all.1, reserved_kept queue directories d e fs there same all.2)

-- names are as they were
pub reserved_on : (queue : LogQueue) (directories : List Text) (d e : Disk) (fs : List ReservedFile) → e.names ≡ d.names → e.directories ≡ d.directories → AreReserved queue directories d fs → AreReserved queue directories e fs
reserved_on queue directories d e fs names same all =
    reserved_kept queue directories d e fs (λ f is. subst (IsIn (reserved_path directories f.path_id f.seq, is.fd)) (sym names) is.there) same all
