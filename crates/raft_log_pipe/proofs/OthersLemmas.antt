-- What calls on one queue leave of the others.
use Rattle.std.proofs.Common.{◌≡◌, ◌≢◌, inl, inr, ⊎_elim, ℕ, ◌<◌, Bool, true, false, cond, List, [], ◌∷◌, ◌++◌, length, get_or, Some, None, refl, sym, ap, subst, ◌∙◌, arith}
use Rattle.std.specs.Prelude.{Err}
use Rattle.std.specs.List.{AllByRecursion}
use Rattle.std.proofs.lemmas.Bool.{ltb-true}
use lib.Pointwise.{bytes_decides}
use Rattle.raft_log_records.specs.declared.file_id.FileId.{FileId}
use Rattle.raft_log_records.specs.declared.file_id.LogQueue.{LogQueue}
use Rattle.raft_log_disk.specs.declared.fault.IoFault.{IoFault}
use Rattle.raft_log_disk.specs.Text.{Text, same_text}
use Rattle.raft_log_disk.specs.Name.{log_file_of}
use Rattle.raft_log_disk.specs.Disk.{Disk, FileState, IsIn, IsNamed, are_named, fd_of, no_bytes}
use Rattle.raft_log_disk.proofs.DiskLemmas.{other_file}
use Rattle.raft_log_disk.proofs.NamedLemmas.{in_other, named_first}
use Rattle.raft_log_files.specs.FileName.{log_file_name}
use Rattle.raft_log_pipe.specs.declared.file.File.{File}
use Rattle.raft_log_pipe.specs.declared.file.ReservedFile.{ReservedFile}
use Rattle.raft_log_pipe.specs.declared.pipe.SinglePipe.{SinglePipe}
use Rattle.raft_log_pipe.specs.Alone.{AreLast, IsAlone, IsOnce, Names, StandsAt, directories_of_pipe, path_in}
use Rattle.raft_log_pipe.specs.Begun.{Changes}
use Rattle.raft_log_pipe.specs.Blocks.{files_of}
use Rattle.raft_log_pipe.specs.Others.{IsOther, KeepsOthers}
use Rattle.raft_log_pipe.specs.Pipe.{Numbered, id_of, Holds, IsNamedSo, IsPipe}
use Rattle.raft_log_pipe.specs.Placing.{IsCreated}
use Rattle.raft_log_pipe.specs.Purging.{KeepsFrom}
use Rattle.raft_log_pipe.proofs.AloneLemmas.{found_in, in_either, in_first, never_some}
use Rattle.raft_log_pipe.specs.Reserved.{IsReserved, reserved_path}
use Rattle.raft_log_pipe.proofs.KeptLemmas.{holds_kept, names_still, writer_same}
use Rattle.raft_log_pipe.proofs.ReservedLemmas.{reserved_kept, reserved_no_log, reserved_none, reserved_own, says_none}
use Rattle.raft_log_pipe.proofs.NextLemmas.{IsMade, has_path_says, made_alone, path_says, some_is}
use Rattle.raft_log_pipe.proofs.PipeLemmas.{file_beside}
use Rattle.raft_log_pipe.proofs.PurgeLemmas.{is_found}

-- ---- names that are each of one file

-- two paths of one number are one
pub one_path : (es : Names) (next : ℕ) (p q : Text) (n : ℕ) → are_named es next ≡ true → IsIn (p, n) es → IsIn (q, n) es → p ≡ q
one_path [] next p q n named here there = absurd here
one_path (e ∷ es) next p q n named (inl a) (inl b) = ap (λ (x : Text × ℕ). x.0) (a ∙ sym b)
one_path (e ∷ es) next p q n named (inl a) (inr b) = absurd (in_other (q, n) es e.1 (named_first e es next named).number b (ap (λ (x : Text × ℕ). x.1) a))
one_path (e ∷ es) next p q n named (inr a) (inl b) = absurd (in_other (p, n) es e.1 (named_first e es next named).number a (ap (λ (x : Text × ℕ). x.1) b))
one_path (e ∷ es) next p q n named (inr a) (inr b) = one_path es next p q n (named_first e es next named).others a b

-- each number is below the next one
pub below_next_name : (es : Names) (next : ℕ) (p : Text) (n : ℕ) → are_named es next ≡ true → IsIn (p, n) es → n < next
below_next_name [] next p n named there = absurd there
below_next_name (e ∷ es) next p n named (inl is) = omega (arith, ltb-true e.1 next (named_first e es next named).below, ap (λ (x : Text × ℕ). x.1) is)
below_next_name (e ∷ es) next p n named (inr there) = below_next_name es next p n (named_first e es next named).others there

there_step : (b : Bool) (e : Text × ℕ) (es : Names) (next : ℕ) (path : Text) (fd : ℕ) → same_text e.0 path ≡ b → fd_of es e.0 ≡ None → IsIn (path, fd) (e ∷ es) → (IsIn (path, fd) es → fd_of es path ≡ Some fd)
    → cond b (Some e.1) (fd_of es path) ≡ Some fd
there_step true e es next path fd is none (inl same) on = ap (λ (x : Text × ℕ). Some x.1) (sym same)
there_step true e es next path fd is none (inr there) on = absurd (is_found es path fd there (ap (fd_of es) (sym ((bytes_decides e.0 path).0 is)) ∙ none))
there_step false e es next path fd is none (inl same) on = let equal : same_text e.0 path ≡ true = (bytes_decides e.0 path).1 (sym (ap (λ (y : Text × ℕ). y.0) same)) in absurd cc
there_step false e es next path fd is none (inr there) on = on there

-- what has a name is found by it
pub found_there : (es : Names) (next : ℕ) (path : Text) (fd : ℕ) → are_named es next ≡ true → IsIn (path, fd) es → fd_of es path ≡ Some fd
found_there [] next path fd named there = absurd there
found_there (e ∷ es) next path fd named there =
    there_step (same_text e.0 path) e es next path fd refl (named_first e es next named).path there (found_there es next path fd (named_first e es next named).others)

-- ---- calls

pub same_others : (queue : LogQueue) (d e : Disk) → e ≡ d → KeepsOthers queue d e
same_others queue d e same = record {
  stay = λ path fd other there. (subst (λ (y : Disk). IsIn (path, fd) y.names) (sym same) there, ap (λ (y : Disk). y.file fd) same);
  none = λ path fd other there. subst (λ (y : Disk). IsIn (path, fd) y.names) same there;
  next = omega (arith, ap (λ (y : Disk). y.next) same);
  directories = ap (λ (y : Disk). y.directories) same;
}

-- one call after another
pub others_on : (one two : LogQueue) (d e g : Disk) → two ≡ one → KeepsOthers one d e → KeepsOthers two e g → KeepsOthers one d g
others_on one two d e g same first second =
    let then : KeepsOthers one e g = subst (λ (q : LogQueue). KeepsOthers q e g) same second in
    record {
      stay = λ path fd other there. let early = first.stay path fd other there in let late = then.stay path fd other early.0 in (late.0, late.1 ∙ early.1);
      none = λ path fd other there. first.none path fd other (then.none path fd other there);
      next = omega (arith, first.next, then.next);
      directories = then.directories ∙ first.directories;
    }

-- one log file of the queue changed
pub change_others : (queue : LogQueue) (d e : Disk) (seq fd : ℕ) → IsNamed d → IsNamedSo d (id_of queue seq) fd → Changes d e fd → KeepsOthers queue d e
change_others queue d e seq fd named (own, here, says) change = record {
  stay = λ path n other there. (
    subst (λ (y : Disk). IsIn (path, n) y.names) (sym change) there,
    file_beside d e fd n change (λ same. other.0 seq (ap log_file_of (one_path d.names d.next path own fd named (subst (λ m. IsIn (path, m) d.names) same there) here) ∙ says)),
  );
  none = λ path n other there. subst (λ (y : Disk). IsIn (path, n) y.names) change there;
  next = omega (arith, ap (λ (y : Disk). y.next) change);
  directories = ap (λ (y : Disk). y.directories) change;
}

-- the last file of a pipe changed
pub last_others : (p : SinglePipe) (d e : Disk) → IsNamed d → IsPipe p d → Changes d e p.writer.fd.0 → KeepsOthers p.queue d e
last_others p d e named pipe change =
    change_others p.queue d e p.active.seq p.active.handle.0 named pipe.named (subst (Changes d e) (ap (λ h. h.0) pipe.handle) change)

-- one was made
pub made_others : (queue : LogQueue) (d g : Disk) (id : FileId) → IsNamed d → IsMade d g id → id.queue ≡ queue → KeepsOthers queue d g
made_others queue d g id named made is =
    let own : Text = made.creates.0 in
    let names : g.names ≡ d.names ++ (own, d.next) ∷ [] = ap (λ (y : Disk). y.names) made.change ∙ ap (λ (y : Disk). y.names) made.creates.3 in
    record {
      stay = λ path n other there.
          let low = below_next_name d.names d.next path n named there in
          let apart : n ≢ d.next = λ same. absurd (omega (arith, low, same)) in (
            subst (λ (l : Names). IsIn (path, n) l) (sym names) (in_first {X = Text × ℕ} (path, n) d.names ((own, d.next) ∷ []) there),
            file_beside made.between g d.next n made.change apart ∙ ap (λ (y : Disk). y.file n) made.creates.3 ∙ other_file n d.next no_bytes (d.file n) apart,
          );
      none = λ path n other there. ⊎_elim
          (λ old. old)
          (λ new. absurd (is_own path n other new))
          (in_either {X = Text × ℕ} (path, n) d.names ((own, d.next) ∷ []) (subst (λ (l : Names). IsIn (path, n) l) names there));
      next = omega (arith, ap (λ (y : Disk). y.next) made.change, ap (λ (y : Disk). y.next) made.creates.3);
      directories = ap (λ (y : Disk). y.directories) made.change ∙ ap (λ (y : Disk). y.directories) made.creates.3;
    }
  where
    is_own : (path : Text) (n : ℕ) → IsOther queue path → IsIn {X = Text × ℕ} (path, n) ((made.creates.0, d.next) ∷ []) → ⊥
    is_own path n other (inl same) = other.0 id.seq (ap (λ (x : Text × ℕ). log_file_of x.0) same ∙ made.creates.1 ∙ (λ i. Some (record { queue = is i; seq = id.seq })))
    is_own path n other (inr none) = none

-- or perhaps was
pub refused_others : (queue : LogQueue) (d e : Disk) (id : FileId) (x : IoFault) → IsNamed d → IsCreated d e id (Err x) → id.queue ≡ queue → KeepsOthers queue d e
refused_others queue d e id x named (inl same) is = same_others queue d e same
refused_others queue d e id x named (inr creates) is = made_others queue d e id named (made_alone d e id creates) is

-- files went
pub gone_others : (queue : LogQueue) (seq : ℕ) (d e : Disk) → KeepsFrom queue seq d e → KeepsOthers queue d e
gone_others queue seq d e keeps = record {
  stay = λ path fd other there. ⊎_elim
      (λ left. (left, (other_kept path fd other left).1))
      (λ (n, lt, says). absurd (other.0 n says))
      (keeps.names path fd there);
  none = λ path fd other there. (other_kept path fd other there).0;
  next = omega (arith, keeps.next);
  directories = keeps.directories;
}
  where
    other_kept : (path : Text) (fd : ℕ) → IsOther queue path → IsIn (path, fd) e.names → IsIn (path, fd) d.names × (e.file fd ≡ d.file fd)
    other_kept path fd other there = ⊎_elim (λ left. left) (λ kept. absurd (other.1 kept.reserved)) (keeps.files path fd there)

-- ---- the pipe of another queue

-- a log file of another queue
pub of_another : (queue other : LogQueue) (path : Text) (n : ℕ) → (other ≡ queue → ⊥) → log_file_of path ≡ Some (id_of other n) → IsOther queue path
of_another queue other path n apart says = (
  (λ seq own. apart (ap (λ (x : FileId). x.queue) (some_is (id_of other n) (id_of queue seq) (sym says ∙ own)))),
  λ kept. says_none path (id_of other n) (reserved_none queue path kept) says,
)

-- a reserved file of another queue
reserved_other : (queue own : LogQueue) (directories : List Text) (d : Disk) (f : ReservedFile) → (own ≡ queue → ⊥) → IsReserved own directories d f → IsOther queue (reserved_path directories f.path_id f.seq)
reserved_other queue own directories d f apart is = (
  (λ seq says. says_none (reserved_path directories f.path_id f.seq) (id_of queue seq) (reserved_no_log own directories d f is) says),
  λ kept. apart (is.own ∙ sym (reserved_own queue (reserved_path directories f.path_id f.seq) kept)),
)

module _ (queue own : LogQueue) (d e : Disk) (apart : own ≡ queue → ⊥) (keeps : KeepsOthers queue d e) where
  pub named_beside : (n fd : ℕ) → IsNamedSo d (id_of own n) fd → IsNamedSo e (id_of own n) fd × (e.file fd ≡ d.file fd)
  named_beside n fd (path, there, says) = let now = keeps.stay path fd (of_another queue own path n apart says) there in ((path, now.0, says), now.1)

  -- a path that named no file of it names none
  pub none_beside : (path : Text) (n : ℕ) → log_file_of path ≡ Some (id_of own n) → fd_of d.names path ≡ None → fd_of e.names path ≡ None
  none_beside path n says none =
      never_some (fd_of e.names path) (λ fd found. is_found d.names path fd (keeps.none path fd (of_another queue own path n apart says) (found_in e.names path fd found)) none)

  pub path_back : (path : Text) (n fd : ℕ) → IsNamed d → log_file_of path ≡ Some (id_of own n) → fd_of e.names path ≡ Some fd → fd_of d.names path ≡ Some fd
  path_back path n fd named says found = found_there d.names d.next path fd named (keeps.none path fd (of_another queue own path n apart says) (found_in e.names path fd found))

  pub path_beside : (path : Text) (n fd : ℕ) → IsNamed e → log_file_of path ≡ Some (id_of own n) → fd_of d.names path ≡ Some fd → (fd_of e.names path ≡ Some fd) × (e.file fd ≡ d.file fd)
  path_beside path n fd named says found =
      let now = keeps.stay path fd (of_another queue own path n apart says) (found_in d.names path fd found) in
      (found_there e.names e.next path fd named now.0, now.1)

  pub stands_back_beside : (directories : List Text) (seq place fd : ℕ) → IsNamed d → StandsAt e.names directories own seq place fd → StandsAt d.names directories own seq place fd
  stands_back_beside directories seq place fd named (number, within, found) =
      let path : Text = path_in directories place (id_of own seq) in
      (number, within, path_back path seq fd named (path_says (get_or directories place []) (log_file_name (id_of own seq)) path (id_of own seq) number refl refl) found)

  stands_beside : (directories : List Text) (seq place fd : ℕ) → IsNamed e → StandsAt d.names directories own seq place fd → StandsAt e.names directories own seq place fd
  stands_beside directories seq place fd named (number, within, found) =
      let path : Text = path_in directories place (id_of own seq) in
      (number, within, (path_beside path seq fd named (path_says (get_or directories place []) (log_file_name (id_of own seq)) path (id_of own seq) number refl refl) found).0)

  each_beside : (directories : List Text) (fs : List File) → IsNamed e → AllByRecursion (λ f. StandsAt d.names directories own f.seq f.path_id f.handle.0) fs → AllByRecursion (λ f. StandsAt e.names directories own f.seq f.path_id f.handle.0) fs
  each_beside directories [] named all = tt
  each_beside directories (f ∷ fs) named all = (stands_beside directories f.seq f.path_id f.handle.0 named all.0, each_beside directories fs named all.1)

  -- which files stand in directories
  pub once_beside : (directories : List Text) → IsNamed d → IsOnce d.names directories own → IsOnce e.names directories own
  once_beside directories old once = record {
    apart = once.apart;
    once = λ seq i j fd gd a b. once.once seq i j fd gd (stands_back_beside directories seq i fd old a) (stands_back_beside directories seq j gd old b);
  }

  pub last_beside : (directories : List Text) (fs : List File) → IsNamed d → IsNamed e → AreLast d.names directories own fs → AreLast e.names directories own fs
  last_beside directories fs old new last = record {
    next = last.next;
    numbers = last.numbers;
    each = each_beside directories fs new last.each;
    once = once_beside directories old last.once;
    only = λ seq place fd f s among le. last.only seq place fd f (stands_back_beside directories seq place fd old s) among le;
  }

  apart_beside : (fd : ℕ) (fs : List File) → AllByRecursion (λ f. (f.handle.0 < d.next) × (f.handle.0 ≢ fd)) fs → AllByRecursion (λ f. (f.handle.0 < e.next) × (f.handle.0 ≢ fd)) fs
  apart_beside fd [] all = tt
  apart_beside fd (f ∷ fs) all = ((omega (arith, all.0.0, keeps.next), all.0.1), apart_beside fd fs all.1)

module _ (queue : LogQueue) (p : SinglePipe) (d e : Disk) (apart : p.queue ≡ queue → ⊥) (keeps : KeepsOthers queue d e) where
  pub pipe_beside : IsPipe p d → IsPipe p e
  pipe_beside pipe =
      let last = named_beside queue p.queue d e apart keeps p.active.seq p.active.handle.0 pipe.named in
      let fd : p.writer.fd.0 ≡ p.active.handle.0 = ap (λ h. h.0) pipe.handle in
      record {
        writer = writer_same p.writer d e (ap (λ (x : FileState). length x.bytes) (ap e.file fd ∙ last.1 ∙ sym (ap d.file fd))) pipe.writer;
        handle = pipe.handle;
        plain = pipe.plain;
        paths = pipe.paths;
        numbers = pipe.numbers;
        last = λ path seq lt number has. none_beside queue p.queue d e apart keeps path seq (has_path_says p.paths.items (id_of p.queue seq) path number has) (pipe.last path seq lt number has);
        named = last.0;
        placed = pipe.placed;
        there = omega (arith, pipe.there, keeps.next);
        apart = apart_beside queue p.queue d e apart keeps p.active.handle.0 p.older.items pipe.apart;
        olders = names_still p.queue d e (named_beside queue p.queue d e apart keeps) p.older.items pipe.olders;
        reserved = reserved_kept p.queue (directories_of_pipe p) d e p.reserved.items
            (λ f is. (keeps.stay (reserved_path (directories_of_pipe p) f.path_id f.seq) is.fd (reserved_other queue p.queue (directories_of_pipe p) d f apart is) is.there).0) keeps.directories pipe.reserved;
      }

  pub pipe_holds_beside : (s u : Numbered) → Holds p d s u → Holds p e s u
  pipe_holds_beside s u h = holds_kept p.queue d e (named_beside queue p.queue d e apart keeps) p.older.items p.active p.writer.offset s u h

  pub alone_beside : IsNamed d → IsNamed e → IsAlone p d → IsAlone p e
  alone_beside old new alone = last_beside queue p.queue d e apart keeps (directories_of_pipe p) (files_of p) old new alone
