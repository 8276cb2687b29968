-- Why calls on a pipe are refused where nothing is set to refuse.
use Rattle.std.proofs.Common.{◌≡◌, ◌⊎◌, inl, inr, ℕ, ◌+◌, ◌-◌, ◌^◌, ◌<◌, ◌≤◌, Bool, cond, List, [], ◌∷◌, ◌++◌, length, get_or, map, Some, refl, sym, ap, subst, ◌∙◌, arith}
use Rattle.std.specs.Prelude.{Result, Ok, Err, String}
use Rattle.std.specs.Result.{IsErrAnd}
use Rattle.std.proofs.lemmas.Bool.{le-leb}
use Rattle.std.proofs.lemmas.Result.{err_from_is_err_and}
use Rattle.std.specs.String.{string_bytes}
use Rattle.std.specs.declared.alloc.Global.{Global}
use Rattle.raft_log_records.specs.declared.file_id.FileId.{FileId}
use Rattle.raft_log_records.specs.Spelling.{AreItems}
use Rattle.raft_log_disk.specs.declared.fault.IoFault.{IoFault}
use Rattle.raft_log_disk.specs.declared.fault.IoFault.TheVariants as fault
use Rattle.raft_log_disk.specs.Cause.{IsTaken}
use Rattle.raft_log_disk.specs.Text.{Text}
use Rattle.raft_log_disk.specs.Disk.{Disk, HasDirectory, IsIn, IsNoFile}
use Rattle.raft_log_files.specs.FileName.{IsFileSeq, log_file_name}
use Rattle.raft_log_files.specs.Error.{io_error, second_append_error}
use Rattle.raft_log_files.specs.declared.error.Error.{Error}
use Rattle.raft_log_files.specs.declared.error.Error.TheVariants.{Io, Corruption, InvalidArgument, TryAgain, Memory, Other, EntryCompacted, EntryNotFound}
use Rattle.raft_log_files.specs.declared.error.OtherFault.TheVariants as other
use Rattle.raft_log_file.specs.Laws.{Batch}
use Rattle.raft_log_pipe.specs.declared.pipe.SinglePipe.{SinglePipe}
use Rattle.raft_log_pipe.specs.Pipe.{IsPipe, id_of}
use Rattle.raft_log_pipe.specs.declared.file.File.{File}
use Rattle.raft_log_pipe.specs.Begun.{Changes}
use Rattle.raft_log_pipe.specs.Placing.{IsCreated, first_with_room, or_main, path_chosen}
use Rattle.raft_log_pipe.specs.Taken.{IsBarred, IsTakenBy, IsTooLarge, IsUnmade, IsUnnumbered, main_path, next_path, path_behind}

-- ---- reasons that lead to others

pub taken_for : (S T : Type 0) (n a b m e h : Type 0) (r : Error) → (n → m) → (a → e) → (b → h) → IsTakenBy {T = S} n a b (Err r) → IsTakenBy {T = T} m e h (Err r)
taken_for S T n a b m e h Memory f g k x = tt
taken_for S T n a b m e h (Io i) f g k x = k x
taken_for S T n a b m e h TryAgain f g k x = k x
taken_for S T n a b m e h (Other other.NoFileNumber) f g k x = f x
taken_for S T n a b m e h (Other other.FileGone) f g k x = g x
taken_for S T n a b m e h (Other other.PurgeBelowTarget) f g k x = absurd x
taken_for S T n a b m e h (Other other.RecycleUnderVersion1) f g k x = absurd x
taken_for S T n a b m e h (Other other.PrefillWithoutRecycle) f g k x = absurd x
taken_for S T n a b m e h (Other other.NoTargetSize) f g k x = absurd x
taken_for S T n a b m e h (Other other.NotADirectory) f g k x = absurd x
taken_for S T n a b m e h (Other other.NumberOutOfSpan) f g k x = absurd x
taken_for S T n a b m e h (Corruption i) f g k x = absurd x
taken_for S T n a b m e h (InvalidArgument i) f g k x = absurd x
taken_for S T n a b m e h EntryCompacted f g k x = absurd x
taken_for S T n a b m e h EntryNotFound f g k x = absurd x

pub taken_more : {T : Type 0} (n a b m e h : Type 0) (r : Result T Error) → (n → m) → (a → e) → (b → h) → IsTakenBy n a b r → IsTakenBy m e h r
taken_more n a b m e h (Ok y) f g k x = tt
taken_more {T = T} n a b m e h (Err r) f g k x = taken_for T T n a b m e h r f g k x

-- a fault of a call on files
pub taken_io : (S T : Type 0) (n a b : Type 0) (x : IoFault) → IsTaken {T = S} a b (Err x) → IsTakenBy {T = T} n a b (Err (io_error x))
taken_io S T n a b fault.Memory why = tt
taken_io S T n a b fault.Refused why = why
taken_io S T n a b fault.NoSpace why = why
taken_io S T n a b fault.NotFound why = why

-- and of a second append
pub taken_second : (S T : Type 0) (n a b : Type 0) (x : IoFault) → IsTaken {T = S} a b (Err x) → IsTakenBy {T = T} n a b (Err (second_append_error x))
taken_second S T n a b fault.Memory why = tt
taken_second S T n a b fault.Refused why = why
taken_second S T n a b fault.NoSpace why = why
taken_second S T n a b fault.NotFound why = why

pub told_error : (T n a b : Type 0) (e x : Error) → e ≡ x → IsTakenBy {T = T} n a b (Err x) → IsTakenBy {T = T} n a b (Err e)
told_error T n a b e x is why = subst (λ (y : Error). IsTakenBy {T = T} n a b (Err y)) (sym is) why

-- the same reasons of a call behind others
pub still_taken : (S T : Type 0) (a b e h : Type 0) (x : IoFault) → (a → e) → (b → h) → IsTaken {T = S} a b (Err x) → IsTaken {T = T} e h (Err x)
still_taken S T a b e h fault.Memory f g why = tt
still_taken S T a b e h fault.Refused f g why = g why
still_taken S T a b e h fault.NoSpace f g why = g why
still_taken S T a b e h fault.NotFound f g why = f why

-- ---- a file that is there

pub named_there : (names : List (Text × ℕ)) (path : Text) (fd : ℕ) → IsIn (path, fd) names → IsIn fd (map (λ e. e.1) names)
named_there [] path fd there = absurd there
named_there (e ∷ es) path fd (inl is) = inl (λ i. (is i).1)
named_there (e ∷ es) path fd (inr there) = inr (named_there es path fd there)

-- the last file of a pipe
pub last_there : (p : SinglePipe) (d : Disk) → IsPipe p d → IsNoFile d p.writer.fd.0 → ⊥
last_there p d pipe none = none (subst (λ (n : ℕ). IsIn n (map (λ e. e.1) d.names)) (λ i. (sym pipe.handle i).0) (named_there d.names pipe.named.0 p.active.handle.0 pipe.named.1))

-- a file that isn't there behind a change of one file wasn't there before
pub no_file_before : (d e : Disk) (n fd : ℕ) → n ≡ fd → Changes d e fd → IsNoFile e n → IsNoFile d fd
no_file_before d e n fd same change none there =
    none (subst (λ (m : ℕ). IsIn m (map (λ x. x.1) e.names)) (sym same) (subst (λ (y : Disk). IsIn fd (map (λ x. x.1) y.names)) (sym change) there))

-- a file that was made is there
pub made_there : (d e : Disk) (id : FileId) (f : File) → IsCreated d e id (Ok f) → IsNoFile e f.handle.0 → ⊥
made_there d e id f (handle, (path, says, free, is)) none =
    none (subst (λ (y : Disk). IsIn f.handle.0 (map (λ x. x.1) y.names)) (sym is) (named_there (d.names ++ (path, d.next) ∷ []) path f.handle.0 (subst (λ (n : ℕ). IsIn (path, n) (d.names ++ (path, d.next) ∷ [])) (sym handle) (last_in d.names (path, d.next)))))
  where
    last_in : {X : Type 0} (xs : List X) (x : X) → IsIn x (xs ++ x ∷ [])
    last_in [] x = inl refl
    last_in (y ∷ ys) x = inr (last_in ys x)

-- ---- a pipe that goes on, with the same last file

pub same_next : (p q : SinglePipe) → q.active ≡ p.active → q.queue ≡ p.queue → q.paths ≡ p.paths → q.reserved ≡ p.reserved → next_path q ≡ next_path p
same_next p q active queue paths reserved = λ i. path_behind (reserved i).items (paths i).items (id_of (queue i) ((active i).seq + 1))

pub same_main : (p q : SinglePipe) → q.active ≡ p.active → q.queue ≡ p.queue → q.paths ≡ p.paths → main_path q.paths.items (id_of q.queue (q.active.seq + 1)) ≡ main_path p.paths.items (id_of p.queue (p.active.seq + 1))
same_main p q active queue paths = λ i. main_path (paths i).items (id_of (queue i) ((active i).seq + 1))

pub unmade_before : (p q : SinglePipe) (d e : Disk) → main_path q.paths.items (id_of q.queue (q.active.seq + 1)) ≡ main_path p.paths.items (id_of p.queue (p.active.seq + 1)) → e.directories ≡ d.directories → IsUnmade q e → IsUnmade p d
unmade_before p q d e path directories unmade there = unmade (subst (λ (l : List Text). HasDirectory l (main_path q.paths.items (id_of q.queue (q.active.seq + 1)))) (sym directories) (subst (λ (t : Text). HasDirectory d.directories t) (sym path) there))

pub barred_before : (p q : SinglePipe) (d e : Disk) → next_path q ≡ next_path p → e.directories ≡ d.directories → e.next ≡ d.next → IsBarred q e → IsBarred p d
barred_before p q d e path directories next (inl many) = inl (omega (arith, many, next))
barred_before p q d e path directories next (inr there) = inr (subst (λ (t : Text). IsIn t d.directories) path (subst (λ (l : List Text). IsIn (next_path q) l) directories there))

pub unnumbered_before : (p q : SinglePipe) → q.active ≡ p.active → IsUnnumbered q → IsUnnumbered p
unnumbered_before p q active none number = none (subst (λ (f : File). IsFileSeq (f.seq + 1)) (sym active) number)

-- ---- a batch that is too large for its file

-- none is for a file that begins
pub fits_new : (p : SinglePipe) (items : Batch) → p.writer.offset ≤ 69 → AreItems items → IsTooLarge p items → ⊥
fits_new p items begun are large = omega (arith, begun, are.short, large)

-- so the last file is as it was before there was room made
pub large_before : (p q : SinglePipe) (A : Type 0) (items : Batch) → ((q ≡ p) × A) ⊎ (q.writer.offset ≤ 69) → AreItems items → IsTooLarge q items → IsTooLarge p items × (q ≡ p) × A
large_before p q A items (inl (is, same)) are large = (subst (λ (x : SinglePipe). IsTooLarge x items) is large, is, same)
large_before p q A items (inr begun) are large = absurd (fits_new q items begun are large)

-- want of space has that cause
pub no_space_large : (S a b : Type 0) (x : IoFault) → x ≡ fault.NoSpace → IsTaken {T = S} a b (Err x) → b
no_space_large S a b x is why = subst (λ (y : IoFault). IsTaken {T = S} a b (Err y)) is why

-- ---- what the exit of a `?` answers

pub exit_error : {T : Type 0} (n a b : Type 0) (r : Result T Error) (x : Error) → IsErrAnd r (λ e. e ≡ x) → IsTakenBy {T = T} n a b (Err x) → IsTakenBy n a b r
exit_error {T = T} n a b r x is why = let p = err_from_is_err_and r is in subst (λ (q : Result T Error). IsTakenBy n a b q) (sym (p.1 ∙ ap Err p.2)) why

pub exit_io : (S T : Type 0) (n a b : Type 0) (r : Result T Error) (x : IoFault) → IsErrAnd r (λ e. e ≡ io_error x) → IsTaken {T = S} a b (Err x) → IsTakenBy n a b r
exit_io S T n a b r x is why = exit_error n a b r (io_error x) is (taken_io S T n a b x why)

pub exit_fault : (S T a b e h : Type 0) (r : Result T IoFault) (x : IoFault) → IsErrAnd r (λ i. i ≡ x) → (a → e) → (b → h) → IsTaken {T = S} a b (Err x) → IsTaken e h r
exit_fault S T a b e h r x is f k why = let p = err_from_is_err_and r is in subst (λ (q : Result T IoFault). IsTaken e h q) (sym (p.1 ∙ ap Err p.2)) (still_taken S T a b e h x f k why)

-- ---- the main directory is taken where no directory is bounded

chosen_main : (room : Text → ℕ) (size : ℕ) (dirs : List (String Global)) → size < 2 ^ 64 → ((directory : Text) → room directory ≡ 2 ^ 64 - 1) → path_chosen room size dirs ≡ 0
chosen_main room size [] small all = refl
chosen_main room size (dir ∷ dirs) small all =
    ap (λ (b : Bool). or_main (cond b (Some 0) (first_with_room room size (0 + 1) dirs))) (le-leb size (room (string_bytes dir)) (omega (arith, small, all (string_bytes dir))))

pub main_at : (room : Text → ℕ) (size : ℕ) (dirs : List (String Global)) (i : ℕ) (dir : String Global) (id : FileId) (path : Text) → size < 2 ^ 64 → ((directory : Text) → room directory ≡ 2 ^ 64 - 1) → i ≡ path_chosen room size dirs
    → i < length dirs → dir ≡ get_or dirs i dir → path ≡ string_bytes dir ++ 47 ∷ log_file_name id → path ≡ main_path dirs id
main_at room size [] i dir id path small all chosen within at is = absurd (omega (arith, within))
main_at room size (first ∷ dirs) i dir id path small all chosen within at is =
    is ∙ ap (λ (s : String Global). string_bytes s ++ 47 ∷ log_file_name id) (at ∙ ap (λ (n : ℕ). get_or (first ∷ dirs) n dir) (chosen ∙ chosen_main room size (first ∷ dirs) small all))
