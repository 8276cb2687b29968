-- Reserved files that are made ahead.
use Rattle.std.proofs.Common.{◌≡◌, ◌≢◌, ◌⊎◌, inl, inr, ⊎_elim, ℕ, ◌+◌, ◌-◌, ◌^◌, ◌<◌, ◌≤◌, min, List, [], ◌∷◌, ◌++◌, length, take, drop, replicate, get_or, true, Option, Some, None, refl, sym, ap, subst, ◌∙◌, arith}
use Rattle.std.specs.Prelude.{Bool, Result, Ok, Err, OnOk, Vec, is_some, not}
use Rattle.std.specs.List.{AllByRecursion}
use Rattle.std.specs.String.{string_bytes}
use Rattle.std.specs.declared.alloc.Global.{Global}
use Rattle.std.proofs.lemmas.List.{append-nil, drop_all, length-map, length-replicate, replicate-append-replicate, take-replicate}
use Rattle.raft_log_records.specs.declared.file_id.LogQueue.{LogQueue}
use Rattle.raft_log_records.specs.declared.file_id.LogQueue.TheVariants.{Append}
use Rattle.raft_log_disk.specs.declared.fault.IoFault.{IoFault}
use Rattle.raft_log_disk.specs.declared.fault.IoFault.TheVariants as fault
use Rattle.raft_log_disk.specs.Cause.{IsCausedCall, IsTaken, Meter, Rises}
use Rattle.raft_log_disk.specs.Text.{Text}
use Rattle.raft_log_disk.specs.Disk.{Disk, HasDirectory, IsIn, IsNamed, IsNoFile, IsNoNewFile, RefusedWrite, after_create, after_write, fd_of, no_bytes, put}
use Rattle.raft_log_disk.proofs.DiskLemmas.{other_file}
use Rattle.raft_log_files.specs.FileName.{IsFileSeq, reserved_name}
use Rattle.raft_log_pipe.specs.declared.file.ReservedFile.{ReservedFile}
use Rattle.raft_log_pipe.specs.declared.pipe.SinglePipe.{SinglePipe}
use Rattle.raft_log_pipe.specs.Alone.{Names, directories_of_pipe}
use Rattle.raft_log_pipe.specs.Begun.{Changes}
use Rattle.raft_log_pipe.specs.Kept.{with_reserved}
use Rattle.raft_log_pipe.specs.Pipe.{IsPipe}
use Rattle.raft_log_pipe.specs.Prepared.{IsFree, LacksNumbers, number_behind}
use Rattle.raft_log_pipe.specs.Reserved.{AreReserved, IsReserved, IsReservedPath, reserved_path}
use Rattle.raft_log_pipe.specs.Unreserved.{KeepsUnreserved}
use Rattle.raft_log_pipe.proofs.AloneLemmas.{in_either, in_first, in_second}
use Rattle.raft_log_pipe.proofs.OthersLemmas.{below_next_name}
use Rattle.raft_log_pipe.proofs.PipeLemmas.{changes, file_beside, stays}
use Rattle.raft_log_pipe.proofs.ReservedLemmas.{held_reserved, reserved_kept}
use Rattle.raft_log_pipe.proofs.TakenLemmas.{named_there}
use Rattle.raft_log_pipe.proofs.TrimLemmas.{logs_pipe}
use Rattle.raft_log_pipe.proofs.UnreservedLemmas.{same_unreserved, unreserved_logs}

-- ---- zeros

-- zeros behind zeros
pub zeros_more : (bytes piece : List ℕ) (at len n : ℕ) → bytes ≡ replicate at 0 → piece ≡ take len (replicate n 0) → len ≤ n → put bytes at piece ≡ replicate (at + len) 0
zeros_more bytes piece at len n so is within =
    let zeros : piece ≡ replicate len 0 = is ∙ take-replicate len n 0 within in
    let front : take at bytes ≡ replicate at 0 = ap (take at) so ∙ take-replicate at at 0 (omega arith) in
    let none : drop (at + length piece) bytes ≡ [] = drop_all (at + length piece) bytes (omega (arith, ap length so, length-replicate {A = ℕ} at 0)) in
    (λ i. front i ++ zeros i ++ none i) ∙ append-nil (replicate at 0 ++ replicate len 0) ∙ replicate-append-replicate at len 0

pub zeros_long : (bytes : List ℕ) (at : ℕ) → bytes ≡ replicate at 0 → length bytes ≡ at
zeros_long bytes at so = ap length so ∙ length-replicate {A = ℕ} at 0

-- a write, refused or not, is of one file
pub write_changes : (d e : Disk) (fd at : ℕ) (bytes : List ℕ) → (e ≡ d) ⊎ RefusedWrite d e fd at bytes → Changes d e fd
write_changes d e fd at bytes (inl same) = stays d e fd same
write_changes d e fd at bytes (inr torn) = changes d e fd (after_write (d.file fd) at bytes torn.seen) torn.files

-- why it was refused
pub write_cause : (S T a b : Type 0) (w : Bool) (old new : Meter) (x : IoFault) → (a → ⊥) → IsCausedCall {T = S} w a b old new (Err x) → IsTaken {T = T} ⊥ (Rises 1 old new) (Err x)
write_cause S T a b w old new fault.Memory there cause = tt
write_cause S T a b w old new fault.Refused there cause = let is : new.refusals ≡ min (old.refusals + 1) (2 ^ 64 - 1) = cause.refused in omega (arith, is)
write_cause S T a b w old new fault.NoSpace there cause = let is : new.refusals ≡ min (old.refusals + 1) (2 ^ 64 - 1) = cause.refused in omega (arith, is)
write_cause S T a b w old new fault.NotFound there cause = there (cause.not_found refl)

-- ---- the number behind the last one

behind_above : (queue : LogQueue) (directories : List Text) (d : Disk) (fs : List ReservedFile) (k n : ℕ) → AreReserved queue directories d fs → AllByRecursion (λ g. k < g.seq) fs → k < n → k < number_behind fs n
behind_above queue directories d [] k n are all lt = lt
behind_above queue directories d (f ∷ fs) k n are all lt = behind_above queue directories d fs k (min (f.seq + 1) (2 ^ 64 - 1)) are.2 all.1 (omega (arith, all.0, are.0.number))

-- is above all of them
pub all_behind : (queue : LogQueue) (directories : List Text) (d : Disk) (fs : List ReservedFile) (n : ℕ) → AreReserved queue directories d fs → AllByRecursion (λ g. g.seq < number_behind fs n) fs
all_behind queue directories d [] n are = tt
all_behind queue directories d (f ∷ fs) n are =
    let next : ℕ = min (f.seq + 1) (2 ^ 64 - 1) in
    (behind_above queue directories d fs f.seq next are.2 are.1 (omega (arith, are.0.number)), all_behind queue directories d fs next are.2)

above_push : (n : ℕ) (fs : List ReservedFile) (f : ReservedFile) → AllByRecursion (λ g. n < g.seq) fs → n < f.seq → AllByRecursion (λ g. n < g.seq) (fs ++ f ∷ [])
above_push n [] f all lt = (lt, tt)
above_push n (g ∷ fs) f all lt = (all.0, above_push n fs f all.1 lt)

pub push_reserved : (queue : LogQueue) (directories : List Text) (d : Disk) (fs : List ReservedFile) (f : ReservedFile) → AreReserved queue directories d fs → AllByRecursion (λ g. g.seq < f.seq) fs → IsReserved queue directories d f
    → AreReserved queue directories d (fs ++ f ∷ [])
push_reserved queue directories d [] f all below is = (is, tt, tt)
push_reserved queue directories d (g ∷ fs) f all below is = (all.0, above_push g.seq fs f all.1 below.0, push_reserved queue directories d fs f all.2 below.1 is)

-- ---- a file that was made

module _ (d e g : Disk) (path : Text) (named : IsNamed d) (kept : IsReservedPath Append path) (made : e ≡ after_create d path) (change : Changes e g d.next) where
  new_names : g.names ≡ d.names ++ (path, d.next) ∷ []
  new_names = ap (λ (y : Disk). y.names) change ∙ ap (λ (y : Disk). y.names) made

  new_directories : g.directories ≡ d.directories
  new_directories = ap (λ (y : Disk). y.directories) change ∙ ap (λ (y : Disk). y.directories) made

  new_next : g.next ≡ d.next + 1
  new_next = ap (λ (y : Disk). y.next) change ∙ ap (λ (y : Disk). y.next) made

  still : (other : Text) (fd : ℕ) → IsIn (other, fd) d.names → IsIn (other, fd) g.names
  still other fd there = subst (λ (l : Names). IsIn (other, fd) l) (sym new_names) (in_first {X = Text × ℕ} (other, fd) d.names ((path, d.next) ∷ []) there)

  not_new : (other : Text) (fd : ℕ) → (IsReservedPath Append other → ⊥) → IsIn {X = Text × ℕ} (other, fd) ((path, d.next) ∷ []) → ⊥
  not_new other fd is_other (inl same) = is_other (subst (IsReservedPath Append) (sym (ap (λ (x : Text × ℕ). x.0) same)) kept)
  not_new other fd is_other (inr none) = none

  made_unreserved : KeepsUnreserved d g
  made_unreserved = record {
    stay = λ other fd is_other there.
        let low = below_next_name d.names d.next other fd named there in
        let apart : fd ≢ d.next = λ same. absurd (omega (arith, low, same)) in
        (still other fd there, file_beside e g d.next fd change apart ∙ ap (λ (y : Disk). y.file fd) made ∙ other_file fd d.next no_bytes (d.file fd) apart);
    none = λ other fd is_other there. ⊎_elim
        (λ old. old)
        (λ new. absurd (not_new other fd is_other new))
        (in_either {X = Text × ℕ} (other, fd) d.names ((path, d.next) ∷ []) (subst (λ (l : Names). IsIn (other, fd) l) new_names there));
    next = omega (arith, new_next);
    directories = new_directories;
  }

  old_reserved : (directories : List Text) (fs : List ReservedFile) → AreReserved Append directories d fs → AreReserved Append directories g fs
  old_reserved directories fs all = reserved_kept Append directories d g fs (λ f is. still (reserved_path directories f.path_id f.seq) is.fd is.there) new_directories all

  new_reserved : (directories : List Text) (f : ReservedFile) → IsFree directories d f → f.path_id < length directories → path ≡ reserved_path directories f.path_id f.seq → IsReserved Append directories g f
  new_reserved directories f free within is = record {
    own = refl;
    number = free.number;
    within = within;
    fd = d.next;
    there = subst (λ (x : Text). IsIn (x, d.next) g.names) is (subst (λ (l : Names). IsIn (path, d.next) l) (sym new_names) (in_second {X = Text × ℕ} (path, d.next) d.names ((path, d.next) ∷ []) (inl refl)));
    directory = subst (IsIn (get_or directories f.path_id [])) (sym new_directories) free.directory;
  }

-- it is there
pub created_there : (d e : Disk) (path : Text) (n : ℕ) → n ≡ d.next → e ≡ after_create d path → IsNoFile e n → ⊥
created_there d e path n is made none =
    none (named_there e.names path n (subst (λ (y : Disk). IsIn (path, n) y.names) (sym made) (subst (λ (m : ℕ). IsIn (path, m) (d.names ++ (path, d.next) ∷ [])) (sym is) (in_second {X = Text × ℕ} (path, d.next) d.names ((path, d.next) ∷ []) (inl refl)))))

-- ---- a pipe that makes one, wholly or not

pub record IsPrepared (p : SinglePipe) (d g : Disk) (rs : Vec ReservedFile Global) : Type 0 where
  pub pipe : IsPipe (with_reserved p rs p.capacity) g
  pub unreserved : KeepsUnreserved d g
  pub next : g.next ≤ d.next + 1

free_kept : (directories : List Text) (d : Disk) (f : ReservedFile) (path : Text) → IsFree directories d f → path ≡ reserved_path directories f.path_id f.seq → IsReservedPath Append path
free_kept directories d f path free is = (get_or directories f.path_id [], f.seq, free.number, is)

module _ (p : SinglePipe) (d : Disk) (f : ReservedFile) (path : Text) (named : IsNamed d) (pipe : IsPipe p d) (own : p.queue ≡ Append) (free : IsFree (directories_of_pipe p) d f) (is : path ≡ reserved_path (directories_of_pipe p) f.path_id f.seq) where
  reserved_now : (e : Disk) → AreReserved Append (directories_of_pipe p) e p.reserved.items → AreReserved p.queue (directories_of_pipe p) e p.reserved.items
  reserved_now e all = subst (λ (q : LogQueue). AreReserved q (directories_of_pipe p) e p.reserved.items) (sym own) all

  reserved_then : AreReserved Append (directories_of_pipe p) d p.reserved.items
  reserved_then = subst (λ (q : LogQueue). AreReserved q (directories_of_pipe p) d p.reserved.items) own pipe.reserved

  by_made : (e g : Disk) (rs : Vec ReservedFile Global) → IsNamed g → e ≡ after_create d path → Changes e g d.next → AreReserved Append (directories_of_pipe p) g rs.items → IsPrepared p d g rs
  by_made e g rs named_g made change all =
      let keeps = made_unreserved d e g path named (free_kept (directories_of_pipe p) d f path free is) made change in
      record {
        pipe = logs_pipe p d g rs p.capacity named (unreserved_logs d g named named_g keeps) pipe (subst (λ (q : LogQueue). AreReserved q (directories_of_pipe p) g rs.items) (sym own) all);
        unreserved = keeps;
        next = omega (arith, ap (λ (y : Disk). y.next) change, ap (λ (y : Disk). y.next) made);
      }

  -- it was perhaps created, and is not reserved yet
  pub perhaps_prepared : (e : Disk) (rs : Vec ReservedFile Global) → IsNamed e → rs.items ≡ p.reserved.items → (e ≡ d) ⊎ (e ≡ after_create d path) → IsPrepared p d e rs
  perhaps_prepared e rs named_e same (inl none) =
      let keeps = same_unreserved d e none in
      record {
        pipe = logs_pipe p d e rs p.capacity named (unreserved_logs d e named named_e keeps) pipe
            (subst (λ (y : Disk). AreReserved p.queue (directories_of_pipe p) y rs.items) (sym none) (subst (AreReserved p.queue (directories_of_pipe p) d) (sym same) pipe.reserved));
        unreserved = keeps;
        next = omega (arith, ap (λ (y : Disk). y.next) none);
      }
  perhaps_prepared e rs named_e same (inr made) =
      by_made e e rs named_e made (stays e e d.next refl)
      (subst (AreReserved Append (directories_of_pipe p) e) (sym same) (old_reserved d e e path named (free_kept (directories_of_pipe p) d f path free is) made (stays e e d.next refl) (directories_of_pipe p) p.reserved.items reserved_then))

  -- it is the last one, and something of it was written
  pub prepared : (e g : Disk) (rs : Vec ReservedFile Global) → IsNamed g → e ≡ after_create d path → Changes e g d.next → f.path_id < length p.paths.items → f.seq ≡ number_behind p.reserved.items 1 → rs.items ≡ p.reserved.items ++ f ∷ []
      → IsPrepared p d g rs
  prepared e g rs named_g made change within seq split =
      let kept = free_kept (directories_of_pipe p) d f path free is in
      let old = old_reserved d e g path named kept made change (directories_of_pipe p) p.reserved.items reserved_then in
      let below = subst (λ (n : ℕ). AllByRecursion (λ (x : ReservedFile). x.seq < n) p.reserved.items) (sym seq) (all_behind Append (directories_of_pipe p) d p.reserved.items 1 reserved_then) in
      by_made e g rs named_g made change
      (subst (AreReserved Append (directories_of_pipe p) g) (sym split)
      (push_reserved Append (directories_of_pipe p) g p.reserved.items f old below
      (new_reserved d e g path named kept made change (directories_of_pipe p) f free (omega (arith, within, length-map p.paths.items string_bytes)) is)))

  -- its directory is there
  pub held : (HasDirectory d.directories path → ⊥) → ⊥
  held none = none (subst (HasDirectory d.directories) (sym is) (held_reserved d.directories (get_or (directories_of_pipe p) f.path_id []) f.seq free.number free.directory))

  -- and the file system lacks a number where it can't be made
  pub lacks_one : IsNoNewFile d path → LacksNumbers d 1
  lacks_one (inl many) = many
  lacks_one (inr directory) = absurd (free.none (subst (λ (x : Text). IsIn x d.directories) is directory))

-- ---- whether one can be made

pub none_of : (o : Option ℕ) → not (is_some o) ≡ true → o ≡ None
none_of None is = refl
none_of (Some n) is = absurd cc

module _ (directories : List Text) (d : Disk) (f : ReservedFile) (path directory : Text) (is : path ≡ directory ++ 47 ∷ reserved_name f.seq) (at : directory ≡ get_or directories f.path_id []) where
  own_path : path ≡ reserved_path directories f.path_id f.seq
  own_path = is ∙ ap (λ (l : Text). l ++ 47 ∷ reserved_name f.seq) at

  pub found_free : IsFileSeq f.seq → IsIn directory d.directories → (IsIn path d.directories → ⊥) → not (is_some (fd_of d.names path)) ≡ true → IsFree directories d f
  found_free number there other free = record {
    number = number;
    directory = subst (λ (t : Text). IsIn t d.directories) at there;
    file = ap (fd_of d.names) (sym own_path) ∙ none_of (fd_of d.names path) free;
    none = λ x. other (subst (λ (t : Text). IsIn t d.directories) (sym own_path) x);
  }

  pub free_directory : IsFree directories d f → IsIn directory d.directories
  free_directory free = subst (λ (t : Text). IsIn t d.directories) (sym at) free.directory

  pub free_other : IsFree directories d f → IsIn path d.directories → ⊥
  free_other free x = free.none (subst (λ (t : Text). IsIn t d.directories) own_path x)

  pub free_file : IsFree directories d f → not (is_some (fd_of d.names path)) ≡ true
  free_file free = ap (λ (o : Option ℕ). not (is_some o)) (ap (fd_of d.names) own_path ∙ free.file)

-- ---- several are made

-- numbers that lack behind some lack from the start
pub lacks_more : (d e : Disk) (k n : ℕ) → e.next ≤ d.next + k → k < n → LacksNumbers e 1 → LacksNumbers d n
lacks_more d e k n next lt lacks = omega (arith, next, lt, lacks)

pub none_left : {X : Type 0} (xs : List X) → length xs ≡ 0 → xs ≡ []
none_left [] is = refl
none_left (x ∷ xs) is = absurd (omega (arith, is))

pub ok_map : {T E : Type 0} (r : Result T E) (A B : Type 0) → (A → B) → OnOk r A → OnOk r B
ok_map (Ok x) A B f a = f a
ok_map (Err e) A B f a = tt
