-- The files that are left of a pipe of which the first ones went are the last ones of its queue still.
use Rattle.std.proofs.Common.{◌≡◌, ◌⊎◌, inl, inr, ⊎_elim, ℕ, zero, suc, ◌+◌, ◌-◌, ◌<◌, ◌≤◌, Bool, true, false, cond, List, [], ◌∷◌, ◌++◌, length, get_or, drop, Option, Some, None, refl, sym, ap, subst, ◌∙◌, arith}
use Rattle.std.specs.Prelude.{Vec}
use Rattle.std.specs.List.{AllByRecursion}
use Rattle.std.specs.String.{string_bytes}
use Rattle.std.specs.declared.alloc.Global.{Global}
use Rattle.std.proofs.lemmas.List.{length-map}
use lib.Pointwise.{bytes_decides}
use Rattle.raft_log_records.specs.declared.file_id.FileId.{FileId}
use Rattle.raft_log_disk.specs.Text.{Text, same_text}
use Rattle.raft_log_disk.specs.Disk.{Disk, IsIn, IsNamed, are_named, fd_of}
use Rattle.raft_log_disk.proofs.NamedLemmas.{named_first}
use Rattle.raft_log_files.specs.FileName.{log_file_name}
use Rattle.raft_log_pipe.specs.declared.file.File.{File}
use Rattle.raft_log_pipe.specs.declared.pipe.SinglePipe.{SinglePipe}
use Rattle.raft_log_pipe.specs.Alone.{IsAlone, Names, StandsAt, directories_of_pipe, path_in}
use Rattle.raft_log_pipe.specs.Blocks.{files_of}
use Rattle.raft_log_pipe.specs.Pipe.{AreConsecutive, Holds, IsPipe, first_of, id_of}
use Rattle.raft_log_pipe.specs.Purging.{AreGone, AreLastOf, HoldsRest, IsGone, KeepsFrom, StandsFrom, from_file}
use Rattle.raft_log_pipe.proofs.AloneLemmas.{alone_on, found_in, mapped_at, with_older}
use Rattle.raft_log_pipe.proofs.BlockLemmas.{in_last, is_last, is_older, older_below}
use Rattle.raft_log_pipe.proofs.LostLemmas.{dir_at}
use Rattle.raft_log_pipe.proofs.NextLemmas.{path_says, some_is}
use Rattle.raft_log_pipe.proofs.PipeLemmas.{in_all}
use Rattle.raft_log_pipe.proofs.PurgeLemmas.{holds_all, is_found, log_kept}

-- ---- names

-- a name is found with its number
found_step : (b : Bool) (e : Text × ℕ) (es : Names) (path : Text) (fd : ℕ) → same_text e.0 path ≡ b → fd_of es e.0 ≡ None → IsIn (path, fd) (e ∷ es) → (IsIn (path, fd) es → fd_of es path ≡ Some fd) → cond b (Some e.1) (fd_of es path) ≡ Some fd
found_step true e es path fd is none (inl same) next = ap (λ (x : Text × ℕ). Some x.1) (sym same)
found_step true e es path fd is none (inr there) next = absurd (is_found es path fd there (ap (fd_of es) (sym ((bytes_decides e.0 path).0 is)) ∙ none))
found_step false e es path fd is none (inl same) next =
    let equal : same_text e.0 path ≡ true = (bytes_decides e.0 path).1 (sym (ap (λ (x : Text × ℕ). x.0) same)) in
    absurd cc
found_step false e es path fd is none (inr there) next = next there

found_as : (es : Names) (path : Text) (fd next : ℕ) → are_named es next ≡ true → IsIn (path, fd) es → fd_of es path ≡ Some fd
found_as [] path fd next named there = absurd there
found_as (e ∷ es) path fd next named there =
    let first = named_first e es next named in
    found_step (same_text e.0 path) e es path fd refl first.path there (found_as es path fd next first.others)

-- ---- lists of files

in_dropped : (n : ℕ) (fs : List File) (g : File) → IsIn g (drop n fs) → IsIn g fs
in_dropped zero fs g there = there
in_dropped (suc n) [] g there = there
in_dropped (suc n) (f ∷ fs) g there = inr (in_dropped n fs g there)

follow_dropped : (n : ℕ) (fs : List File) (a : File) (next : ℕ) → AreConsecutive (fs ++ a ∷ []) next → AreConsecutive (drop n fs ++ a ∷ []) next
follow_dropped zero fs a next numbers = numbers
follow_dropped (suc n) [] a next numbers = numbers
follow_dropped (suc n) (f ∷ fs) a next numbers = follow_dropped n fs a next numbers.1

all_of : (P : File → Type 0) (fs : List File) → ((f : File) → IsIn f fs → P f) → AllByRecursion P fs
all_of P [] each = tt
all_of P (f ∷ fs) each = (each f (inl refl), all_of P fs (λ g there. each g (inr there)))

-- ---- files that are left

module _ (p : SinglePipe) (older : Vec File Global) (d e : Disk) (named : IsNamed d) (named_then : IsNamed e) (pipe : IsPipe p d) (rest : AreLastOf p.older.items older.items)
    (gone : (f : File) → IsIn f p.older.items → IsIn f older.items ⊎ IsGone p f e) (keeps : KeepsFrom p.queue (first_of (with_older p older)) d e) (alone : IsAlone p d) where
  abbrev dirs : List Text
  dirs = directories_of_pipe p

  abbrev left : List File
  left = older.items ++ p.active ∷ []

  stood : (seq at fd : ℕ) → StandsAt e.names dirs p.queue seq at fd → StandsAt d.names dirs p.queue seq at fd
  stood seq at fd s =
      let path : Text = path_in dirs at (id_of p.queue seq) in
      let says = path_says (get_or dirs at []) (log_file_name (id_of p.queue seq)) path (id_of p.queue seq) s.0 refl refl in
      (s.0, s.1, found_as d.names path fd d.next named (log_kept p.queue (first_of (with_older p older)) d e path (id_of p.queue seq) fd keeps says (found_in e.names path fd s.2)).0)

  was_one : (g : File) → IsIn g left → IsIn g (files_of p)
  was_one g there = ⊎_elim
      (λ (old : IsIn g older.items). is_older p.older.items g p.active (in_dropped rest.0 p.older.items g (subst (λ (l : List File). IsIn g l) rest.1 old)))
      (λ (is : g ≡ p.active). subst (λ (x : File). IsIn x (files_of p)) (sym is) (is_last p.older.items p.active))
      (in_last older.items g p.active there)

  numbers : AreConsecutive left alone.next
  numbers = subst (λ (l : List File). AreConsecutive (l ++ p.active ∷ []) alone.next) (sym rest.1) (follow_dropped rest.0 p.older.items p.active alone.next alone.numbers)

  -- none of them is before the first number
  not_before : (g : File) → IsIn g left → first_of (with_older p older) ≤ g.seq
  not_before g there = ⊎_elim
      (λ (old : IsIn g older.items). omega (arith, (older_below older.items p.active.seq g (olders_follow older.items alone.next numbers) old).1))
      (λ (is : g ≡ p.active). omega (arith, ap (λ (x : File). x.seq) is))
      (in_last older.items g p.active there)
    where
      olders_follow : (fs : List File) (next : ℕ) → AreConsecutive (fs ++ p.active ∷ []) next → AreConsecutive fs p.active.seq
      olders_follow [] next h = tt
      olders_follow (f ∷ fs) next h = (omega (arith, h.0, last_is fs next h.1, length-append_one fs), olders_follow fs next h.1)
        where
          last_is : (fs : List File) (next : ℕ) → AreConsecutive (fs ++ p.active ∷ []) next → p.active.seq + 1 ≡ next
          last_is [] next h = omega (arith, h.0)
          last_is (f ∷ fs) next h = last_is fs next h.1

          length-append_one : (fs : List File) → length (fs ++ p.active ∷ []) ≡ length fs + 1
          length-append_one [] = refl
          length-append_one (f ∷ fs) = omega (arith, length-append_one fs)

  stands_still : (g : File) → IsIn g left → StandsAt e.names dirs p.queue g.seq g.path_id g.handle.0
  stands_still g there =
      let s = in_all (λ (x : File). StandsAt d.names dirs p.queue x.seq x.path_id x.handle.0) (files_of p) g alone.each (was_one g there) in
      let path : Text = path_in dirs g.path_id (id_of p.queue g.seq) in
      let says = path_says (get_or dirs g.path_id []) (log_file_name (id_of p.queue g.seq)) path (id_of p.queue g.seq) s.0 refl refl in (
        s.0,
        s.1,
        ⊎_elim (λ (now : IsIn (path, g.handle.0) e.names). found_as e.names path g.handle.0 e.next named_then now)
            (λ (m, lt, other). absurd (omega (arith, lt, not_before g there, ap (λ (x : FileId). x.seq) (some_is (id_of p.queue g.seq) (id_of p.queue m) (sym says ∙ other)))))
            (keeps.names path g.handle.0 (found_in d.names path g.handle.0 s.2)),
      )

  -- a file that stands there has not gone
  not_gone : (h : File) (at fd : ℕ) → IsIn h p.older.items → StandsAt e.names dirs p.queue h.seq at fd → IsGone p h e → ⊥
  not_gone h at fd there s is_gone =
      let was = in_all (λ (x : File). StandsAt d.names dirs p.queue x.seq x.path_id x.handle.0) (files_of p) h alone.each (is_older p.older.items h p.active there) in
      let place : at ≡ h.path_id = alone.once.once h.seq at h.path_id fd h.handle.0 (stood h.seq at fd s) was in
      let within : h.path_id < length p.paths.items = omega (arith, was.1, length-map p.paths.items string_bytes) in
      let dir = dir_at p.paths.items h.path_id within in
      let same : path_in dirs at (id_of p.queue h.seq) ≡ string_bytes dir.0 ++ 47 ∷ log_file_name (id_of p.queue h.seq) =
      ap (λ (n : ℕ). get_or dirs n [] ++ 47 ∷ log_file_name (id_of p.queue h.seq)) place ∙ ap (λ (t : Text). t ++ 47 ∷ log_file_name (id_of p.queue h.seq)) (mapped_at p.paths.items h.path_id dir.0 within dir.1) in
      some_none (fd_of e.names (path_in dirs at (id_of p.queue h.seq))) fd s.2 (ap (fd_of e.names) same ∙ is_gone dir.0 dir.1)
    where
      some_none : (o : Option ℕ) (n : ℕ) → o ≡ Some n → o ≡ None → ⊥
      some_none o n some none = cc

  still_one : (seq at fd : ℕ) → StandsAt e.names dirs p.queue seq at fd → (h : File) → IsIn h (files_of p) → h.seq ≡ seq → IsIn h left
  still_one seq at fd s h there is = ⊎_elim
      (λ (old : IsIn h p.older.items). ⊎_elim (λ (now : IsIn h older.items). is_older older.items h p.active now)
      (λ (went : IsGone p h e). absurd (not_gone h at fd old (subst (λ (n : ℕ). StandsAt e.names dirs p.queue n at fd) (sym is) s) went)) (gone h old))
      (λ (last : h ≡ p.active). subst (λ (x : File). IsIn x left) (sym last) (is_last older.items p.active))
      (in_last p.older.items h p.active there)

  pub left_alone : IsAlone (with_older p older) e
  left_alone = record {
    next = alone.next;
    numbers = numbers;
    each = all_of (λ (g : File). StandsAt e.names dirs p.queue g.seq g.path_id g.handle.0) left stands_still;
    once = record {
      apart = alone.once.apart;
      once = λ seq i j fd gd a b. alone.once.once seq i j fd gd (stood seq i fd a) (stood seq j gd b);
    };
    only = λ seq place fd g s among le.
        let h = alone.only seq place fd g (stood seq place fd s) (was_one g among) le in
        (h.0, still_one seq place fd s h.0 h.1 h.2, h.2);
  }

-- of a pipe that lost files
pub rest_alone : (p q : SinglePipe) (d e : Disk) → IsNamed d → IsNamed e → IsPipe p d → q.active ≡ p.active → q.queue ≡ p.queue → q.paths ≡ p.paths → AreLastOf p.older.items q.older.items → AreGone p q e
    → KeepsFrom p.queue (first_of q) d e → IsAlone p d → IsAlone q e
rest_alone p q d e named named_then pipe active queue paths rest gone keeps alone =
    let first : first_of q ≡ first_of (with_older p q.older) = ap (λ (f : File). f.seq - length q.older.items) active in
    alone_on (with_older p q.older) q e e (active, refl, queue) paths refl
    (left_alone p q.older d e named named_then pipe rest gone (subst (λ (n : ℕ). KeepsFrom p.queue n d e) first keeps) alone)

-- ---- a refusal in the middle

-- one more file was to go behind others that went: it is where it was, or has gone too
pub stands_from : (p q r : SinglePipe) (d y e : Disk) → IsNamed d → IsNamed y → IsNamed e → IsPipe p d → IsPipe q y → q.active ≡ p.active → q.queue ≡ p.queue → q.paths ≡ p.paths → AreLastOf p.older.items q.older.items → AreGone p q y
    → KeepsFrom p.queue (first_of q) d y → first_of p ≤ first_of q → HoldsRest p d q y → r.active ≡ q.active → r.queue ≡ q.queue → r.paths ≡ q.paths → AreLastOf q.older.items r.older.items → KeepsFrom q.queue (first_of r) y e
    → first_of q ≤ first_of r → HoldsRest p d r e → (e ≡ y) ⊎ AreGone q r e → StandsFrom p d r e
stands_from p q r d y e named named_y named_e pipe pipe_y active queue paths rest gone keeps low holds active_r queue_r paths_r rest_r keeps_r more holds_r (inl same) = record {
  pipe = q;
  queue = queue;
  paths = paths;
  first = (low, more);
  alone = λ alone. subst (λ (x : Disk). IsAlone q x) (sym same) (rest_alone p q d y named named_y pipe active queue paths rest gone keeps alone);
  holds = λ s u h. subst (λ (x : Disk). Holds q x (from_file (first_of q) s) u) (sym same) (holds s u h);
}
stands_from p q r d y e named named_y named_e pipe pipe_y active queue paths rest gone keeps low holds active_r queue_r paths_r rest_r keeps_r more holds_r (inr went) = record {
  pipe = r;
  queue = queue_r ∙ queue;
  paths = paths_r ∙ paths;
  first = (omega (arith, low, more), omega arith);
  alone = λ alone.
      rest_alone q r y e named_y named_e pipe_y active_r queue_r paths_r rest_r went keeps_r (rest_alone p q d y named named_y pipe active queue paths rest gone keeps alone);
  holds = holds_r;
}

-- none was to go
pub stands_whole : (p : SinglePipe) (d : Disk) → IsPipe p d → StandsFrom p d p d
stands_whole p d pipe = record { pipe = p; queue = refl; paths = refl; first = (omega arith, omega arith); alone = λ alone. alone; holds = holds_all p d d pipe refl }
