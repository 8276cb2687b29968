-- Files of a pipe that go: what is left of the disk, and of the pipe.
use Rattle.std.proofs.Common.{◌≡◌, ◌≢◌, ◌⊎◌, inl, inr, ⊎_elim, ℕ, zero, suc, ◌+◌, ◌-◌, ◌^◌, ◌<◌, ◌≤◌, Bool, true, false, cond, nat_lt, List, [], ◌∷◌, ◌++◌, length, get_or, take, drop, Option, Some, None, refl, sym, ap, subst, ◌∙◌, arith, length-drop, length-take}
use Rattle.std.specs.Prelude.{String, Vec, map, remove, ◌==◌, ◌&&◌}
use Rattle.std.specs.String.{string_bytes}
use Rattle.std.specs.declared.alloc.Global.{Global}
use Rattle.std.specs.List.{AllByRecursion, list_all}
use Rattle.std.proofs.lemmas.Bool.{and_parts, eqb-true, le-ltb, lt-ltb, ltb-true}
use Rattle.std.proofs.lemmas.List.{get_or_default}
use lib.Pointwise.{bytes_decides}
use Rattle.raft_log_records.specs.declared.file_id.FileId.{FileId}
use Rattle.raft_log_records.specs.declared.file_id.LogQueue.{LogQueue}
use Rattle.raft_log_records.specs.declared.file_id.LogQueue.TheVariants.{Append, Rewrite}
use Rattle.raft_log_disk.specs.Text.{Text, same_text}
use Rattle.raft_log_disk.specs.Disk.{Disk, FileState, IsIn, IsNamed, Deletes, are_named, fd_of, no_bytes, renamed, without}
use Rattle.raft_log_disk.specs.Name.{file_id_of, is_digit, log_file_of, queued, suffix_of, value_of}
use Rattle.raft_log_disk.proofs.DigitLemmas.{value_of-lt}
use Rattle.raft_log_disk.proofs.DiskLemmas.{other_file, without_gone}
use Rattle.raft_log_disk.proofs.NamedLemmas.{in_other, named_first}
use Rattle.raft_log_files.specs.FileName.{IsFileSeq, log_file_name}
use Rattle.raft_log_file.specs.Laws.{Batch}
use Rattle.raft_log_pipe.specs.declared.file.File.{File}
use Rattle.raft_log_pipe.specs.declared.pipe.SinglePipe.{SinglePipe}
use Rattle.raft_log_pipe.specs.Purging.{AreLastOf, AreGone, HoldsRest, IsGone, IsKeptFile, KeepsFrom, from_file}
use Rattle.raft_log_pipe.specs.Stored.{IsEnded, IsStored}
use Rattle.raft_log_pipe.specs.Pipe.{Numbered, numbered, id_of, first_of, AreConsecutive, AreOlder, HasPath, Holds, HoldsIn, IsBlank, IsNamedSo, IsPipe}
use Rattle.raft_log_pipe.specs.Reserved.{reserved_path}
use Rattle.raft_log_pipe.proofs.NextLemmas.{path_says, some_is}
use Rattle.raft_log_pipe.proofs.ReservedLemmas.{reserved_kept, reserved_no_log, reserved_none, says_none}
use Rattle.raft_log_pipe.specs.Blocks.{files_of}
use Rattle.raft_log_pipe.proofs.BlockLemmas.{in_last, long_span, older_below}
use Rattle.raft_log_pipe.proofs.AloneLemmas.{found_in, never_some, with_older}

abbrev Paths : Type 0
Paths = Vec (String Global) Global

abbrev Names : Type 0
Names = List (Text × ℕ)

-- ---- a name that goes

kept_step : (b : Bool) (e x : Text × ℕ) (es : Names) (path : Text) → same_text e.0 path ≡ b → IsIn x (e ∷ es) → (IsIn x es → IsIn x (without es path) ⊎ (x.0 ≡ path)) → IsIn x (cond b es (e ∷ without es path)) ⊎ (x.0 ≡ path)
kept_step true e x es path is (inl same) next = inr (ap (λ (y : Text × ℕ). y.0) same ∙ (bytes_decides e.0 path).0 is)
kept_step true e x es path is (inr there) next = inl there
kept_step false e x es path is (inl same) next = inl (inl same)
kept_step false e x es path is (inr there) next = ⊎_elim (λ h. inl (inr h)) (λ h. inr h) (next there)

in_without : (es : Names) (x : Text × ℕ) (path : Text) → IsIn x es → IsIn x (without es path) ⊎ (x.0 ≡ path)
in_without [] x path there = absurd there
in_without (e ∷ es) x path there = kept_step (same_text e.0 path) e x es path refl there (in_without es x path)

left_step : (b : Bool) (e x : Text × ℕ) (es rest : Names) → (IsIn x rest → IsIn x es) → IsIn x (cond b es (e ∷ rest)) → IsIn x (e ∷ es)
left_step true e x es rest next there = inr there
left_step false e x es rest next (inl same) = inl same
left_step false e x es rest next (inr there) = inr (next there)

without_in : (es : Names) (x : Text × ℕ) (path : Text) → IsIn x (without es path) → IsIn x es
without_in [] x path there = there
without_in (e ∷ es) x path there = left_step (same_text e.0 path) e x es (without es path) (without_in es x path) there

pub same_number : (m n : ℕ) → (let o : Option ℕ = Some m in o ≡ Some n) → m ≡ n
same_number m n e = cc

found_step : (b : Bool) (e : Text × ℕ) (es : Names) (path : Text) (fd : ℕ) → (fd_of es path ≡ Some fd → (other : Text) × IsIn (other, fd) es) → cond b (Some e.1) (fd_of es path) ≡ Some fd → (other : Text) × IsIn (other, fd) (e ∷ es)
found_step true e es path fd next is = (e.0, inl (ap (λ (n : ℕ). (e.0, n)) (same_number fd e.1 (sym is))))
found_step false e es path fd next is = let one = next is in (one.0, inr one.1)

fd_there : (es : Names) (path : Text) (fd : ℕ) → fd_of es path ≡ Some fd → (other : Text) × IsIn (other, fd) es
fd_there [] path fd is = absurd cc
fd_there (e ∷ es) path fd is = found_step (same_text e.0 path) e es path fd (fd_there es path fd) is

apart_step : (b : Bool) (e x : Text × ℕ) (es : Names) (path : Text) (next fd : ℕ) → are_named (e ∷ es) next ≡ true → cond b (Some e.1) (fd_of es path) ≡ Some fd → IsIn x (cond b es (e ∷ without es path))
    → (fd_of es path ≡ Some fd → IsIn x (without es path) → x.1 ≢ fd) → x.1 ≢ fd
apart_step true e x es path next fd named is there on =
    let first : e.1 ≡ fd = same_number e.1 fd is in
    subst (λ n. x.1 ≢ n) first (in_other x es e.1 (named_first e es next named).number there)
apart_step false e x es path next fd named is (inl same) on =
    let one = fd_there es path fd is in
    λ n. in_other (one.0, fd) es e.1 (named_first e es next named).number one.1 (sym n ∙ ap (λ (y : Text × ℕ). y.1) same)
apart_step false e x es path next fd named is (inr there) on = on is there

without_apart : (es : Names) (x : Text × ℕ) (path : Text) (next fd : ℕ) → are_named es next ≡ true → fd_of es path ≡ Some fd → IsIn x (without es path) → x.1 ≢ fd
without_apart [] x path next fd named is there = absurd there
without_apart (e ∷ es) x path next fd named is there =
    apart_step (same_text e.0 path) e x es path next fd named is there (without_apart es x path next fd (named_first e es next named).others)

not_step : (b : Bool) (e : Text × ℕ) (es : Names) (path : Text) (fd : ℕ) → same_text e.0 path ≡ b → IsIn (path, fd) (e ∷ es) → (IsIn (path, fd) es → fd_of es path ≡ None → ⊥) → cond b (Some e.1) (fd_of es path) ≡ None → ⊥
not_step true e es path fd is there next none = absurd cc
not_step false e es path fd is (inl same) next none = let equal : same_text e.0 path ≡ true = (bytes_decides e.0 path).1 (sym (ap (λ (y : Text × ℕ). y.0) same)) in absurd cc
not_step false e es path fd is (inr there) next none = next there none

-- what has a name is found
pub is_found : (es : Names) (path : Text) (fd : ℕ) → IsIn (path, fd) es → fd_of es path ≡ None → ⊥
is_found [] path fd there none = there
is_found (e ∷ es) path fd there none = not_step (same_text e.0 path) e es path fd refl there (is_found es path fd) none

-- ---- what is left of the disk

pub same_keeps : (queue : LogQueue) (seq : ℕ) (d e : Disk) → e ≡ d → KeepsFrom queue seq d e
same_keeps queue seq d e same = record {
  names = λ path fd there. inl (subst (λ (y : Disk). IsIn (path, fd) y.names) (sym same) there);
  files = λ path fd there. inl (subst (λ (y : Disk). IsIn (path, fd) y.names) same there, ap (λ (y : Disk). y.file fd) same);
  next = ap (λ (y : Disk). y.next) same;
  directories = ap (λ (y : Disk). y.directories) same;
}

pub deleted_keeps : (queue : LogQueue) (n seq : ℕ) (d e : Disk) (path : Text) → IsNamed d → log_file_of path ≡ Some (id_of queue n) → n < seq → Deletes d e path → KeepsFrom queue seq d e
deleted_keeps queue n seq d e path named says lt (fd, found, is) = record {
  names = λ other number there. ⊎_elim
      (λ left. inl (subst (λ (y : Disk). IsIn (other, number) y.names) (sym is) left))
      (λ same. inr (n, lt, ap log_file_of same ∙ says))
      (in_without d.names (other, number) path there);
  files = λ other number there.
      let left : IsIn (other, number) (without d.names path) = subst (λ (y : Disk). IsIn (other, number) y.names) is there in inl (
        without_in d.names (other, number) path left,
        ap (λ (y : Disk). y.file number) is ∙ other_file number fd no_bytes (d.file number) (without_apart d.names (other, number) path d.next fd named found left),
      );
  next = ap (λ (y : Disk). y.next) is;
  directories = ap (λ (y : Disk). y.directories) is;
}

pub deleted_fresh : (d e : Disk) (path other : Text) (number : ℕ) → Deletes d e path → IsIn (other, number) e.names → IsIn (other, number) d.names
deleted_fresh d e path other number (fd, found, is) there = without_in d.names (other, number) path (subst (λ (y : Disk). IsIn (other, number) y.names) is there)

-- a log file was where it is, and is as it was
pub log_kept : (queue : LogQueue) (seq : ℕ) (d e : Disk) (path : Text) (id : FileId) (fd : ℕ) → KeepsFrom queue seq d e → log_file_of path ≡ Some id → IsIn (path, fd) e.names → IsIn (path, fd) d.names × (e.file fd ≡ d.file fd)
log_kept queue seq d e path id fd keeps says there = ⊎_elim (λ left. left) (λ kept. absurd (says_none path id (reserved_none queue path kept.reserved) says)) (keeps.files path fd there)

-- after one call and another
pub keeps_on : (queue : LogQueue) (a b : ℕ) (d e g : Disk) → a ≤ b → KeepsFrom queue a d e → KeepsFrom queue b e g → KeepsFrom queue b d g
keeps_on queue a b d e g le one two = record {
  names = λ path fd there. ⊎_elim
      (λ h. two.names path fd h)
      (λ (m, lt, says). inr (m, omega (arith, lt, le), says))
      (one.names path fd there);
  files = λ path fd there. ⊎_elim (λ late. by_early path fd late.1 (one.files path fd late.0)) (λ late. inr (by_late path fd late)) (two.files path fd there);
  next = two.next ∙ one.next;
  directories = two.directories ∙ one.directories;
}
  where
    by_early : (path : Text) (fd : ℕ) → g.file fd ≡ e.file fd → (IsIn (path, fd) d.names × (e.file fd ≡ d.file fd)) ⊎ IsKeptFile queue a d e path fd → (IsIn (path, fd) d.names × (g.file fd ≡ d.file fd)) ⊎ IsKeptFile queue b d g path fd
    by_early path fd same (inl left) = inl (left.0, same ∙ left.1)
    by_early path fd same (inr kept) = inr (record {
      reserved = kept.reserved;
      from = kept.from;
      number = kept.number;
      below = omega (arith, kept.below, le);
      was = kept.was;
      said = kept.said;
      file = same ∙ kept.file;
    })

    by_late : (path : Text) (fd : ℕ) → IsKeptFile queue b e g path fd → IsKeptFile queue b d g path fd
    by_late path fd kept =
        let before = log_kept queue a d e kept.from (id_of queue kept.number) fd one kept.said kept.was in
        record {
          reserved = kept.reserved;
          from = kept.from;
          number = kept.number;
          below = kept.below;
          was = before.0;
          said = kept.said;
          file = kept.file ∙ ap renamed before.1;
        }

pub none_kept : (queue : LogQueue) (seq : ℕ) (d e : Disk) (path : Text) (id : FileId) → KeepsFrom queue seq d e → log_file_of path ≡ Some id → fd_of d.names path ≡ None → fd_of e.names path ≡ None
none_kept queue seq d e path id keeps says none = never_some (fd_of e.names path) (λ fd found. is_found d.names path fd (log_kept queue seq d e path id fd keeps says (found_in e.names path fd found)).0 none)

pub deleted_none : (d e : Disk) (path : Text) → IsNamed d → Deletes d e path → fd_of e.names path ≡ None
deleted_none d e path named (fd, found, is) = ap (λ (y : Disk). fd_of y.names path) is ∙ without_gone d.names path d.next named

-- files from the number on are named as they were, and are as they were
kept_name : (queue : LogQueue) (seq n fd : ℕ) (d e : Disk) → KeepsFrom queue seq d e → seq ≤ n → IsNamedSo d (id_of queue n) fd → IsNamedSo e (id_of queue n) fd × (e.file fd ≡ d.file fd)
kept_name queue seq n fd d e keeps le (path, there, says) =
    ⊎_elim
    (λ left. ((path, left, says), (log_kept queue seq d e path (id_of queue n) fd keeps says left).1))
    (λ (m, lt, other). absurd (omega (arith, lt, le, ap (λ (x : FileId). x.seq) (some_is (id_of queue n) (id_of queue m) (sym says ∙ other)))))
    (keeps.names path fd there)

kept_names : (queue : LogQueue) (seq last : ℕ) (d e : Disk) (fs : List File) → KeepsFrom queue seq d e → AreConsecutive fs last → seq + length fs ≤ last → AllByRecursion (λ f. IsNamedSo d (id_of queue f.seq) f.handle.0) fs
    → AllByRecursion (λ f. IsNamedSo e (id_of queue f.seq) f.handle.0) fs
kept_names queue seq last d e [] keeps numbers le all = tt
kept_names queue seq last d e (f ∷ fs) keeps numbers le all =
    ((kept_name queue seq f.seq f.handle.0 d e keeps (omega (arith, numbers.0, le)) all.0).0, kept_names queue seq last d e fs keeps numbers.1 (omega (arith, le)) all.1)

-- so are files that are no log files
kept_other : (queue : LogQueue) (seq : ℕ) (d e : Disk) (path : Text) (fd : ℕ) → KeepsFrom queue seq d e → log_file_of path ≡ None → IsIn (path, fd) d.names → IsIn (path, fd) e.names
kept_other queue seq d e path fd keeps none there = ⊎_elim (λ left. left) (λ (m, lt, says). absurd (says_none path (id_of queue m) none says)) (keeps.names path fd there)

kept_olders : (queue : LogQueue) (seq last : ℕ) (d e : Disk) (fs : List File) (bs : Numbered) → KeepsFrom queue seq d e → AreConsecutive fs last → seq + length fs ≤ last → AreOlder queue d fs bs → AreOlder queue e fs bs
kept_olders queue seq last d e [] bs keeps numbers le os = os
kept_olders queue seq last d e (f ∷ fs) bs keeps numbers le (ks, rest, is, o, os) =
    let one = kept_name queue seq f.seq f.handle.0 d e keeps (omega (arith, numbers.0, le)) o.named in (
      ks,
      rest,
      is,
      record {
        offset = o.offset;
        named = one.0;
        stored = subst (λ (x : FileState). IsStored (id_of queue f.seq) f.format ks [] o.offset x ⊎ IsBlank f.format ks x) (sym one.1) o.stored;
        ended = subst (IsEnded o.offset) (sym one.1) o.ended;
      },
      kept_olders queue seq last d e fs rest keeps numbers.1 (omega (arith, le)) os,
    )

-- ---- batches from a number on

from_step : (b : Bool) (x : ℕ × Batch) (xs ys : Numbered) → cond b (xs ++ ys) (x ∷ (xs ++ ys)) ≡ cond b xs (x ∷ xs) ++ ys
from_step true x xs ys = refl
from_step false x xs ys = refl

from-append : (n : ℕ) (xs ys : Numbered) → from_file n (xs ++ ys) ≡ from_file n xs ++ from_file n ys
from-append n [] ys = refl
from-append n (x ∷ xs) ys = (λ i. cond (nat_lt x.0 n) (from-append n xs ys i) (x ∷ from-append n xs ys i)) ∙ from_step (nat_lt x.0 n) x (from_file n xs) (from_file n ys)

from_all : (n m : ℕ) (ks : List Batch) → n ≤ m → from_file n (numbered m ks) ≡ numbered m ks
from_all n m [] le = refl
from_all n m (k ∷ ks) le = ap (λ b. cond b (from_file n (numbered m ks)) ((m, k) ∷ from_file n (numbered m ks))) (le-ltb m n le) ∙ ap (λ (l : Numbered). (m, k) ∷ l) (from_all n m ks le)

from_none : (n m : ℕ) (ks : List Batch) → m < n → from_file n (numbered m ks) ≡ []
from_none n m [] lt = refl
from_none n m (k ∷ ks) lt = ap (λ b. cond b (from_file n (numbered m ks)) ((m, k) ∷ from_file n (numbered m ks))) (lt-ltb m n lt) ∙ from_none n m ks lt

from_olders : (queue : LogQueue) (d : Disk) (fs : List File) (bs : Numbered) (last n : ℕ) → AreConsecutive fs last → AreOlder queue d fs bs → n + length fs ≤ last → from_file n bs ≡ bs
from_olders queue d [] bs last n numbers none le = ap (from_file n) none ∙ sym none
from_olders queue d (f ∷ fs) bs last n numbers (ks, rest, is, o, os) le =
    ap (from_file n) is ∙ from-append n (numbered f.seq ks) rest
    ∙ (λ i. from_all n f.seq ks (omega (arith, numbers.0, le)) i ++ from_olders queue d fs rest last n numbers.1 os (omega (arith, le)) i) ∙ sym is

from_twice : (a b : Bool) (x : ℕ × Batch) (n : ℕ) (xs ys : Numbered) → (a ≡ true → b ≡ true) → nat_lt x.0 n ≡ b → from_file n xs ≡ ys → from_file n (cond a xs (x ∷ xs)) ≡ cond b ys (x ∷ ys)
from_twice true b x n xs ys more is same = same ∙ ap (λ t. cond t ys (x ∷ ys)) (sym (more refl))
from_twice false b x n xs ys more is same = (λ i. cond (is i) (same i) (x ∷ same i))

from_again : (a b : ℕ) (bs : Numbered) → a ≤ b → from_file b (from_file a bs) ≡ from_file b bs
from_again a b [] le = refl
from_again a b (x ∷ bs) le =
    from_twice (nat_lt x.0 a) (nat_lt x.0 b) x b (from_file a bs) (from_file b bs) (λ is. lt-ltb x.0 b (omega (arith, le, ltb-true x.0 a is))) refl (from_again a b bs le)

-- ---- what is left of the pipe

-- all batches are there
pub holds_all : (p : SinglePipe) (d e : Disk) → IsPipe p d → e ≡ d → HoldsRest p d p e
holds_all p d e pipe same s u h =
    let synced : from_file (first_of p) s ≡ s
    = ap (from_file (first_of p)) h.synced_are ∙ from-append (first_of p) h.before (numbered p.active.seq h.ks)
    ∙ (λ i. from_olders p.queue d p.older.items h.before p.active.seq (first_of p) pipe.numbers h.olders (omega (arith, long_span p.older.items p.active.seq pipe.numbers)) i
    ++ from_all (first_of p) p.active.seq h.ks (omega arith) i) ∙ sym h.synced_are in
    subst (λ (y : Disk). Holds p y (from_file (first_of p) s) u) (sym same) (subst (λ (l : Numbered). Holds p d l u) (sym synced) h)

tail_holds : (queue : LogQueue) (f : File) (fs : List File) (active : File) (offset : ℕ) (d e : Disk) (s u : Numbered) → AreConsecutive (f ∷ fs) active.seq → KeepsFrom queue (f.seq + 1) d e → HoldsIn queue (f ∷ fs) active offset d s u
    → HoldsIn queue fs active offset e (from_file (f.seq + 1) s) u
tail_holds queue f fs active offset d e s u numbers keeps h = by_older h.olders
  where
    by_older : AreOlder queue d (f ∷ fs) h.before → HoldsIn queue fs active offset e (from_file (f.seq + 1) s) u
    by_older (js, rest, is, o, os) =
        let n : ℕ = f.seq + 1 in
        let last = kept_name queue (f.seq + 1) active.seq active.handle.0 d e keeps (omega (arith, numbers.0)) h.named in
        record {
          before = rest;
          ks = h.ks;
          us = h.us;
          synced_are = ap (from_file (f.seq + 1)) (h.synced_are ∙ ap (λ (l : Numbered). l ++ numbered active.seq h.ks) is) ∙ from-append (f.seq + 1) (numbered f.seq js ++ rest) (numbered active.seq h.ks)
              ∙ (λ i. (from-append (f.seq + 1) (numbered f.seq js) rest
              ∙ (λ j. from_none (f.seq + 1) f.seq js (omega arith) j ++ from_olders queue d fs rest active.seq (f.seq + 1) numbers.1 os (omega (arith, numbers.0)) j)) i
              ++ from_all (f.seq + 1) active.seq h.ks (omega (arith, numbers.0)) i);
          unsynced_are = h.unsynced_are;
          olders = kept_olders queue (f.seq + 1) active.seq d e fs rest keeps numbers.1 (omega (arith, numbers.0)) os;
          named = last.0;
          stored = subst (IsStored (id_of queue active.seq) active.format h.ks h.us offset) (sym last.1) h.stored;
        }

-- the first file is gone
pub first_is : (p : SinglePipe) (f : File) (fs : List File) (d : Disk) → IsPipe p d → p.older.items ≡ f ∷ fs → (f.seq ≡ first_of p) × ((f.seq + length fs + 1 ≡ p.active.seq) × AreConsecutive fs p.active.seq)
first_is p f fs d pipe is =
    let numbers = subst (λ (l : List File). AreConsecutive l p.active.seq) is pipe.numbers in
    (omega (arith, numbers.0, ap length is), (numbers.0, numbers.1))

pub rest_holds : (p : SinglePipe) (older : Vec File Global) (f : File) (d e : Disk) → IsPipe p d → p.older.items ≡ f ∷ older.items → KeepsFrom p.queue (first_of p + 1) d e → HoldsRest p d (with_older p older) e
rest_holds p older f d e pipe is keeps s u h =
    let first = first_is p f older.items d pipe is in
    let low : f.seq + 1 ≡ first_of (with_older p older) = omega (arith, first.1.0) in
    subst (λ n. Holds (with_older p older) e (from_file n s) u) low
    (tail_holds p.queue f older.items p.active p.writer.offset d e s u (first.1.0, first.1.1) (subst (λ n. KeepsFrom p.queue (n + 1) d e) (sym first.0) keeps)
    (subst (λ (l : List File). HoldsIn p.queue l p.active p.writer.offset d s u) is h))

has_says : (dirs : List (String Global)) (path : Text) (id : FileId) → IsFileSeq id.seq → HasPath dirs id path → log_file_of path ≡ Some id
has_says [] path id number has = absurd has
has_says (dir ∷ dirs) path id number (inl is) = path_says (string_bytes dir) (log_file_name id) path id number refl is
has_says (dir ∷ dirs) path id number (inr has) = has_says dirs path id number has

pub rest_pipe : (p : SinglePipe) (older : Vec File Global) (f : File) (d e : Disk) → IsPipe p d → p.older.items ≡ f ∷ older.items → KeepsFrom p.queue (first_of p + 1) d e → IsPipe (with_older p older) e
rest_pipe p older f d e pipe is keeps =
    let first = first_is p f older.items d pipe is in
    let last = kept_name p.queue (first_of p + 1) p.active.seq p.active.handle.0 d e keeps (omega (arith, first.0, first.1.0)) pipe.named in
    let fd : p.writer.fd.0 ≡ p.active.handle.0 = ap (λ h. h.0) pipe.handle in
    record {
      writer = record {
        offset = pipe.writer.offset;
        reached = pipe.writer.reached;
        long = omega (arith, pipe.writer.long, ap (λ (x : FileState). length x.bytes) (ap e.file fd ∙ last.1 ∙ sym (ap d.file fd)));
        within = λ below. omega (arith, pipe.writer.within below, ap (λ (x : FileState). length x.bytes) (ap e.file fd ∙ last.1 ∙ sym (ap d.file fd)));
      };
      handle = pipe.handle;
      plain = pipe.plain;
      paths = pipe.paths;
      numbers = first.1.1;
      last = λ path seq lt number has. none_kept p.queue (first_of p + 1) d e path (id_of p.queue seq) keeps (has_says p.paths.items path (id_of p.queue seq) number has) (pipe.last path seq lt number has);
      named = last.0;
      placed = (subst (λ (l : List File). AllByRecursion (λ x. x.path_id < length p.paths.items) (l ++ p.active ∷ [])) is pipe.placed).1;
      there = subst (λ n. p.active.handle.0 < n) (sym keeps.next) pipe.there;
      apart = subst (λ n. AllByRecursion (λ x. (x.handle.0 < n) × (x.handle.0 ≢ p.active.handle.0)) older.items) (sym keeps.next)
          (subst (λ (l : List File). AllByRecursion (λ x. (x.handle.0 < d.next) × (x.handle.0 ≢ p.active.handle.0)) l) is pipe.apart).1;
      olders = kept_names p.queue (first_of p + 1) p.active.seq d e older.items keeps first.1.1 (omega (arith, first.0, first.1.0))
          (subst (λ (l : List File). AllByRecursion (λ x. IsNamedSo d (id_of p.queue x.seq) x.handle.0) l) is pipe.olders).1;
      reserved = reserved_kept p.queue (map string_bytes p.paths.items) d e p.reserved.items
          (λ r so. kept_other p.queue (first_of p + 1) d e (reserved_path (map string_bytes p.paths.items) r.path_id r.seq) so.fd keeps (reserved_no_log p.queue (map string_bytes p.paths.items) d r so) so.there)
          keeps.directories pipe.reserved;
    }

-- one file after the other
pub rest_on : (p q r : SinglePipe) (d e g : Disk) → first_of q ≤ first_of r → HoldsRest p d q e → HoldsRest q e r g → HoldsRest p d r g
rest_on p q r d e g le one two s u h = subst (λ (l : Numbered). Holds r g l u) (from_again (first_of q) (first_of r) s le) (two (from_file (first_of q) s) u (one s u h))

pub removed_first : (fs : List File) (f : File) → 0 < length fs → f ≡ get_or fs 0 f → fs ≡ f ∷ remove fs 0
removed_first [] f some at = absurd (omega (arith, some))
removed_first (g ∷ fs) f some at = ap (λ (x : File). x ∷ fs) (sym at)

-- ---- paths

queue_step : (a b : Bool) (x y id : FileId) (seq : ℕ) → x.seq ≡ seq → y.seq ≡ seq → cond a (Some x) (cond b (Some y) None) ≡ Some id → id.seq ≡ seq
queue_step true b x y id seq one two is = ap (λ (z : FileId). z.seq) (sym (some_is x id is)) ∙ one
queue_step false true x y id seq one two is = ap (λ (z : FileId). z.seq) (sym (some_is y id is)) ∙ two
queue_step false false x y id seq one two is = absurd cc

queued_seq : (suffix : Text) (seq : ℕ) (id : FileId) → queued suffix seq ≡ Some id → id.seq ≡ seq
queued_seq suffix seq id is =
    queue_step (same_text suffix (suffix_of Append)) (same_text suffix (suffix_of Rewrite)) (record { queue = Append; seq = seq }) (record { queue = Rewrite; seq = seq }) id seq refl refl is

name_step : (b : Bool) (name : Text) (id : FileId) → ((length name == 24) && list_all is_digit (take 16 name)) ≡ b → cond b (queued (drop 16 name) (value_of (take 16 name))) None ≡ Some id → id.seq < 10 ^ 16
name_step true name id test is =
    let parts = and_parts (length name == 24) (list_all is_digit (take 16 name)) test in
    let long : length name ≡ 24 = eqb-true (length name) 24 parts.0 in
    let below = value_of-lt 16 (take 16 name) (omega (arith, length-take 16 name, long)) parts.1 in
    subst (λ n. n < 10 ^ 16) (sym (queued_seq (drop 16 name) (value_of (take 16 name)) id is)) below
name_step false name id test is = absurd cc

path_step : (b : Bool) (name : Text) (id : FileId) → cond b (file_id_of name) None ≡ Some id → id.seq < 10 ^ 16
path_step true name id is = name_step ((length name == 24) && list_all is_digit (take 16 name)) name id refl is
path_step false name id is = absurd cc

-- a path that says a log file has a number that a file can have
pub said_number : (path : Text) (id : FileId) → log_file_of path ≡ Some id → IsFileSeq id.seq
said_number path id is = path_step (nat_lt 24 (length path) && (get_or path (length path - 25) 0 == 47)) (drop (length path - 24) path) id is

pub first_number : (p : SinglePipe) (d : Disk) (f : File) → IsPipe p d → 0 < length p.older.items → f ≡ get_or p.older.items 0 f → IsFileSeq f.seq × (f.seq ≡ first_of p)
first_number p d f pipe some at =
    let low = said_number pipe.named.0 (id_of p.queue p.active.seq) pipe.named.2 in
    let first = first_is p f (remove p.older.items 0) d pipe (removed_first p.older.items f some at) in
    (omega (arith, low, first.1.0), first.0)

-- what a call leaves that lets the first file go, wholly or not
pub record IsPurged (p : SinglePipe) (older : Vec File Global) (d e : Disk) : Type 0 where
  pub pipe : IsPipe (with_older p older) e
  pub holds : HoldsRest p d (with_older p older) e
  pub keeps : KeepsFrom p.queue (first_of (with_older p older)) d e
  pub shorter : length older.items + 1 ≡ length p.older.items

pub purged_so : (p : SinglePipe) (older : Vec File Global) (f : File) (d e : Disk) → IsPipe p d → 0 < length p.older.items → f ≡ get_or p.older.items 0 f → older.items ≡ remove p.older.items 0 → KeepsFrom p.queue (first_of p + 1) d e → IsPurged p older d e
purged_so p older f d e pipe some at rest keeps =
    let is : p.older.items ≡ f ∷ older.items = removed_first p.older.items f some at ∙ ap (λ (l : List File). f ∷ l) (sym rest) in
    let first = first_is p f older.items d pipe is in
    record {
      pipe = rest_pipe p older f d e pipe is keeps;
      holds = rest_holds p older f d e pipe is keeps;
      keeps = subst (λ n. KeepsFrom p.queue n d e) (omega (arith, first.0, first.1.0)) keeps;
      shorter = omega (arith, ap length is);
    }

pub purged : (p : SinglePipe) (older : Vec File Global) (f : File) (d e : Disk) (path : Text) → IsNamed d → IsPipe p d → 0 < length p.older.items → f ≡ get_or p.older.items 0 f → older.items ≡ remove p.older.items 0
    → log_file_of path ≡ Some (id_of p.queue f.seq) → (e ≡ d) ⊎ Deletes d e path → IsPurged p older d e
purged p older f d e path named pipe some at rest says done =
    let is : p.older.items ≡ f ∷ older.items = removed_first p.older.items f some at ∙ ap (λ (l : List File). f ∷ l) (sym rest) in
    let first = first_is p f older.items d pipe is in
    purged_so p older f d e pipe some at rest
    (⊎_elim (λ same. same_keeps p.queue (first_of p + 1) d e same) (λ gone. deleted_keeps p.queue f.seq (first_of p + 1) d e path named says (omega (arith, first.0)) gone) done)

pub first_placed : (p : SinglePipe) (d : Disk) (f : File) → IsPipe p d → 0 < length p.older.items → f ≡ get_or p.older.items 0 f → f.path_id < length p.paths.items
first_placed p d f pipe some at =
    (subst (λ (l : List File). AllByRecursion (λ x. x.path_id < length p.paths.items) (l ++ p.active ∷ [])) (removed_first p.older.items f some at) pipe.placed).0

-- the file that went, and those that stay
pub first_gone : (p q : SinglePipe) (f : File) (dir : String Global) (e : Disk) (path : Text) → p.older.items ≡ f ∷ q.older.items → f.path_id < length p.paths.items → dir ≡ get_or p.paths.items f.path_id dir
    → path ≡ string_bytes dir ++ 47 ∷ log_file_name (id_of p.queue f.seq) → fd_of e.names path ≡ None → AreGone p q e
first_gone p q f dir e path is within at path_is none g there = by_place (subst (IsIn g) is there)
  where
    by_place : IsIn g (f ∷ q.older.items) → IsIn g q.older.items ⊎ IsGone p g e
    by_place (inr left) = inl left
    by_place (inl same) =
        inr (subst (λ (x : File). IsGone p x e) (sym same) (λ other there.
        ap (fd_of e.names) (ap (λ (s : String Global). string_bytes s ++ 47 ∷ log_file_name (id_of p.queue f.seq)) (there ∙ get_or_default p.paths.items f.path_id other dir within ∙ sym at) ∙ sym path_is) ∙ none))

-- a file of the pipe has a number that a file can have
pub older_number : (p : SinglePipe) (d : Disk) (f : File) → IsPipe p d → IsIn f p.older.items → IsFileSeq f.seq
older_number p d f pipe there = omega (arith, (older_below p.older.items p.active.seq f pipe.numbers there).0, said_number pipe.named.0 (id_of p.queue p.active.seq) pipe.named.2)

pub gone_on : (p q r : SinglePipe) (seq : ℕ) (d e g : Disk) → IsPipe p d → q.queue ≡ p.queue → q.paths ≡ p.paths → KeepsFrom p.queue seq e g → AreGone p q e → AreGone q r g → AreGone p r g
gone_on p q r seq d e g pipe queue paths keeps one two f there =
    ⊎_elim
    (λ left. ⊎_elim (λ more. inl more) (λ gone. inr (λ dir at. subst (λ (x : LogQueue). fd_of g.names (string_bytes dir ++ 47 ∷ log_file_name (id_of x f.seq)) ≡ None) queue
    (gone dir (subst (λ (x : Paths). dir ≡ get_or x.items f.path_id dir) (sym paths) at)))) (two f left))
    (λ gone. inr (λ dir at.
    let path : Text = string_bytes dir ++ 47 ∷ log_file_name (id_of p.queue f.seq) in
    none_kept p.queue seq e g path (id_of p.queue f.seq) keeps (path_says (string_bytes dir) (log_file_name (id_of p.queue f.seq)) path (id_of p.queue f.seq) (older_number p d f pipe there) refl refl) (gone dir at)))
    (one f there)

pub none_gone : (p : SinglePipe) (e : Disk) → AreGone p p e
none_gone p e f there = inl there

pub in_files : (p : SinglePipe) (d : Disk) (f : File) (seq : ℕ) → IsPipe p d → IsIn f (files_of p) → f.seq ≡ seq → (first_of p ≤ seq) × (seq ≤ p.active.seq)
in_files p d f seq pipe there same = by_place (in_last p.older.items f p.active there)
  where
    by_place : IsIn f p.older.items ⊎ (f ≡ p.active) → (first_of p ≤ seq) × (seq ≤ p.active.seq)
    by_place (inl older) = let one = older_below p.older.items p.active.seq f pipe.numbers older in (omega (arith, one.1, same), omega (arith, one.0, same))
    by_place (inr last) = (omega (arith, same, ap (λ (x : File). x.seq) last), omega (arith, same, ap (λ (x : File). x.seq) last))

-- what went on the way to a number
pub goes_on : (p q r : SinglePipe) (d e g : Disk) → IsPipe q e → IsPipe r g → first_of q ≤ first_of r → q.queue ≡ p.queue → KeepsFrom p.queue (first_of q) d e → KeepsFrom q.queue (first_of r) e g → KeepsFrom p.queue (first_of r) d g
goes_on p q r d e g before after le queue one two = keeps_on p.queue (first_of q) (first_of r) d e g le one (subst (λ (x : LogQueue). KeepsFrom x (first_of r) e g) queue two)

-- a file fewer is a first number more
pub first_more : (q r : SinglePipe) (e g : Disk) → IsPipe q e → r.active ≡ q.active → length r.older.items + 1 ≡ length q.older.items → first_of r ≡ first_of q + 1
first_more q r e g pipe same fewer = omega (arith, fewer, ap (λ (f : File). f.seq) same, long_span q.older.items q.active.seq pipe.numbers)

pub first_or_more : (q r : SinglePipe) (e : Disk) → IsPipe q e → r.active ≡ q.active → (length r.older.items + 1 ≡ length q.older.items) ⊎ (length r.older.items ≡ length q.older.items) → first_of q ≤ first_of r
first_or_more q r e pipe same (inl fewer) = omega (arith, fewer, ap (λ (f : File). f.seq) same, long_span q.older.items q.active.seq pipe.numbers)
first_or_more q r e pipe same (inr as_many) = omega (arith, as_many, ap (λ (f : File). f.seq) same)

-- at most one file more has gone
pub first_or_next : (q r : SinglePipe) (e : Disk) → IsPipe q e → r.active ≡ q.active → (length r.older.items + 1 ≡ length q.older.items) ⊎ (length r.older.items ≡ length q.older.items) → first_of r ≤ first_of q + 1
first_or_next q r e pipe same (inl fewer) = omega (arith, fewer, ap (λ (f : File). f.seq) same, long_span q.older.items q.active.seq pipe.numbers)
first_or_next q r e pipe same (inr as_many) = omega (arith, as_many, ap (λ (f : File). f.seq) same)

-- ---- the files that are left

none_dropped : {A : Type 0} (n : ℕ) (l : List A) → l ≡ [] → drop n l ≡ []
none_dropped zero l e = e
none_dropped (suc n) [] e = refl
none_dropped (suc n) (x ∷ l) e = absurd cc

drop_more : {A : Type 0} (n m : ℕ) (l : List A) → drop m (drop n l) ≡ drop (n + m) l
drop_more zero m l = ap (λ (k : ℕ). drop k l) (omega arith)
drop_more (suc n) m [] = none_dropped m [] refl ∙ sym (none_dropped (suc n + m) [] refl)
drop_more {A} (suc n) m (x ∷ l) =
    let same : suc (n + m) ≡ suc n + m = omega arith in
    drop_more n m l ∙ ap (λ (k : ℕ). drop k (x ∷ l)) same

-- the last ones of the last ones
pub last_on : {X : Type 0} (old mid new : List X) → AreLastOf old mid → AreLastOf mid new → AreLastOf old new
last_on {X = X} old mid new one two = (one.0 + two.0, two.1 ∙ ap (λ (l : List X). drop two.0 l) one.1 ∙ drop_more one.0 two.0 old)

-- a file with one of the last numbers is among them
pub in_last_files : (fs : List File) (last n : ℕ) (f : File) → AreConsecutive fs last → IsIn f fs → last ≤ f.seq + length (drop n fs) → IsIn f (drop n fs)
in_last_files fs last zero f numbers there late = there
in_last_files [] last (suc n) f numbers there late = absurd there
in_last_files (g ∷ fs) last (suc n) f numbers (inl same) late = absurd (omega (arith, numbers.0, late, ap (λ (x : File). x.seq) same, length-drop n fs))
in_last_files (g ∷ fs) last (suc n) f numbers (inr later) late = in_last_files fs last n f numbers.1 later late
