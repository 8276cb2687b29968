-- Why calls on a pipe are refused: errors and their causes.
use Rattle.std.proofs.Common.{◌≡◌, ◌⊎◌, inl, inr, ℕ, ◌+◌, ◌-◌, ◌^◌, ◌<◌, min, List, ◌∷◌, ◌++◌, length, get_or, map, refl, sym, ap, subst, ◌∙◌, arith}
use Rattle.std.specs.Prelude.{Result, Ok, Err, IfErr, IsErrOf, String}
use Rattle.std.specs.Result.{IsErrAnd}
use Rattle.std.proofs.lemmas.Result.{err_from_is_err_and}
use Rattle.std.proofs.lemmas.List.{length-map}
use Rattle.std.specs.String.{string_bytes}
use Rattle.std.specs.declared.alloc.Global.{Global}
use Rattle.raft_log_records.specs.declared.file_id.FileId.{FileId}
use Rattle.raft_log_disk.specs.declared.fault.IoFault.{IoFault}
use Rattle.raft_log_disk.specs.declared.fault.IoFault.TheVariants as fault
use Rattle.raft_log_disk.specs.Cause.{HasCause, IsTaken, Lacks, Meter, Rises}
use Rattle.raft_log_disk.specs.Text.{Text}
use Rattle.raft_log_disk.specs.Disk.{Disk, HasDirectory}
use Rattle.raft_log_disk.proofs.RefusalLemmas.{lacks_then}
use Rattle.raft_log_files.specs.FileName.{log_file_name}
use Rattle.raft_log_files.specs.Error.{io_error, second_append_error}
use Rattle.raft_log_files.specs.declared.error.Error.{Error}
use Rattle.raft_log_files.specs.declared.error.Error.TheVariants.{Io, Corruption, InvalidArgument, TryAgain, Memory, Other, EntryCompacted, EntryNotFound}
use Rattle.raft_log_files.specs.declared.error.OtherFault.TheVariants as other
use Rattle.raft_log_file.specs.Writer.{IsCounted}
use Rattle.raft_log_pipe.specs.declared.file.File.{File}
use Rattle.raft_log_pipe.specs.declared.pipe.SinglePipe.{SinglePipe}
use Rattle.raft_log_pipe.specs.Alone.{IsAlone, directories_of_pipe, path_in}
use Rattle.raft_log_pipe.specs.Pipe.{id_of}
use Rattle.raft_log_pipe.specs.Caused.{BeginsFiles, IsAppendFault, IsCaused, IsPurgeFault, IsSecondAppendFault, LacksDirectory, LacksNumber, LacksPlace}
use Rattle.raft_log_pipe.specs.Taken.{HasLost, IsFull}
use Rattle.raft_log_pipe.proofs.AloneLemmas.{mapped_at}
use Rattle.raft_log_pipe.proofs.LostLemmas.{alone_has}

-- ---- causes that lead to others

pub caused_for : (r c n a s d m b : Type 0) (e : Error) → (r → s) → (c → d) → (n → m) → (a → b) → IsCaused r c n a e → IsCaused s d m b e
caused_for r c n a s d m b Memory f g h k x = tt
caused_for r c n a s d m b (Io i) f g h k x = f x
caused_for r c n a s d m b TryAgain f g h k x = g x
caused_for r c n a s d m b (Other other.NoFileNumber) f g h k x = h x
caused_for r c n a s d m b (Other other.FileGone) f g h k x = k x
caused_for r c n a s d m b (Other other.PurgeBelowTarget) f g h k x = absurd x
caused_for r c n a s d m b (Other other.RecycleUnderVersion1) f g h k x = absurd x
caused_for r c n a s d m b (Other other.PrefillWithoutRecycle) f g h k x = absurd x
caused_for r c n a s d m b (Other other.NoTargetSize) f g h k x = absurd x
caused_for r c n a s d m b (Other other.NotADirectory) f g h k x = absurd x
caused_for r c n a s d m b (Other other.NumberOutOfSpan) f g h k x = absurd x
caused_for r c n a s d m b (Corruption i) f g h k x = absurd x
caused_for r c n a s d m b (InvalidArgument i) f g h k x = absurd x
caused_for r c n a s d m b EntryCompacted f g h k x = absurd x
caused_for r c n a s d m b EntryNotFound f g h k x = absurd x

-- a fault of a call on files
pub caused_io : (S r c n a : Type 0) (x : IoFault) → IsTaken {T = S} a r (Err x) → IsCaused r c n a (io_error x)
caused_io S r c n a fault.Memory why = tt
caused_io S r c n a fault.Refused why = why
caused_io S r c n a fault.NoSpace why = why
caused_io S r c n a fault.NotFound why = why

-- and of a second append
pub caused_second : (S r c n a : Type 0) (x : IoFault) → (IsErrOf {T = S} (Err x) fault.NoSpace → c) → IsTaken {T = S} a r (Err x) → IsCaused r c n a (second_append_error x)
caused_second S r c n a fault.Memory f why = tt
caused_second S r c n a fault.Refused f why = why
caused_second S r c n a fault.NoSpace f why = f refl
caused_second S r c n a fault.NotFound f why = why

-- a result that is an error of this cause
pub told_cause : {T E : Type 0} (r : Result T E) (x : E) (P : E → Type 0) → IsErrAnd r (λ e. e ≡ x) → P x → IfErr r P
told_cause {T = T} {E = E} r x P is why = let p = err_from_is_err_and r is in subst (λ (q : Result T E). IfErr q P) (sym (p.1 ∙ ap Err p.2)) why

-- ---- calls on files

-- of a writer of a file
pub counted_cause : (S T a : Type 0) (old new : Meter) (x : IoFault) → IsCounted {T = S} old new (Err x) → (IsErrOf {T = S} (Err x) fault.NotFound → a) → IsTaken {T = T} a (Rises 1 old new) (Err x)
counted_cause S T a old new fault.Memory counted gone = tt
counted_cause S T a old new fault.Refused counted gone = counted.refused refl
counted_cause S T a old new fault.NoSpace counted gone = counted.no_space refl
counted_cause S T a old new fault.NotFound counted gone = gone refl

-- of the file system
pub call_cause : (S T a c : Type 0) (old new : Meter) (x : IoFault) → HasCause {T = S} a c old new (Err x) → IsTaken {T = T} a (Rises 1 old new) (Err x)
call_cause S T a c old new fault.Memory cause = tt
call_cause S T a c old new fault.Refused cause = let is : new.refusals ≡ min (old.refusals + 1) (2 ^ 64 - 1) = cause.refused in omega (arith, is)
call_cause S T a c old new fault.NoSpace cause = let is : new.refusals ≡ min (old.refusals + 1) (2 ^ 64 - 1) = cause.refused in omega (arith, is)
call_cause S T a c old new fault.NotFound cause = cause.not_found refl

-- ---- counts

pub rises_then : (m n : ℕ) (a b c : Meter) → Rises m a b → Rises n b c → Rises (m + n) a c
rises_then m n a b c first second = omega (arith, first, second)

-- ---- directories

-- a path that no directory holds is one in a directory that isn't there
pub lacks_at : (d : Disk) (dirs : List (String Global)) (id : FileId) (place : ℕ) (dir : String Global) (path : Text) → place < length dirs → dir ≡ get_or dirs place dir → path ≡ string_bytes dir ++ 47 ∷ log_file_name id
    → (HasDirectory d.directories path → ⊥) → LacksDirectory d (map string_bytes dirs) id
lacks_at d dirs id place dir path within at says none = (
  place,
  omega (arith, within, length-map dirs string_bytes),
  subst (λ (x : Text). HasDirectory d.directories x → ⊥) (says ∙ ap (λ (l : Text). l ++ 47 ∷ log_file_name id) (sym (mapped_at dirs place dir within at))) none,
)

pub lacks_before : (d e : Disk) (ds es : List Text) (id jd : FileId) → e.directories ≡ d.directories → es ≡ ds → jd ≡ id → LacksDirectory e es jd → LacksDirectory d ds id
lacks_before d e ds es id jd directories same is (place, within, none) = (
  place,
  subst (λ (l : List Text). place < length l) same within,
  λ there. none (subst (λ (l : List Text). HasDirectory l (path_in es place jd)) (sym directories) (subst (λ (t : Text). HasDirectory d.directories t) (λ i. path_in (sym same i) place (sym is i)) there)),
)

-- of a pipe that went on by some files
pub place_before : (p q : SinglePipe) (d e : Disk) (k n : ℕ) → e.directories ≡ d.directories → q.paths ≡ p.paths → q.queue ≡ p.queue → q.active.seq ≡ p.active.seq + k → LacksPlace q e n → LacksPlace p d (k + n)
place_before p q d e k n directories paths queue seq lacks =
    lacks_before d e (directories_of_pipe p) (directories_of_pipe q) (id_of p.queue (p.active.seq + (k + n))) (id_of q.queue (q.active.seq + n)) directories (λ i. map string_bytes (paths i).items)
    (λ i. record { queue = queue i; seq = numbers i }) lacks
  where
    numbers : q.active.seq + n ≡ p.active.seq + (k + n)
    numbers = omega (arith, seq)

pub number_before : (p q : SinglePipe) (k n : ℕ) → q.active.seq ≡ p.active.seq + k → LacksNumber q n → LacksNumber p (k + n)
number_before p q k n seq lacks there = lacks (omega (arith, seq, there))

-- ---- what calls answer

-- a call on files that is handed on by a `?`
pub exit_cause : {T : Type 0} (S r c n a : Type 0) (result : Result T Error) (x : IoFault) → IsErrAnd result (λ e. e ≡ io_error x) → IsTaken {T = S} a r (Err x) → IfErr result (λ e. IsCaused r c n a e)
exit_cause S r c n a result x is why = told_cause result (io_error x) (λ e. IsCaused r c n a e) is (caused_io S r c n a x why)

-- and one that is told as an error
pub told_io : (S r c n a : Type 0) (e : Error) (x : IoFault) → e ≡ io_error x → IsTaken {T = S} a r (Err x) → IsCaused r c n a e
told_io S r c n a e x is why = subst (λ (y : Error). IsCaused r c n a y) (sym is) (caused_io S r c n a x why)

pub told_second : (S r c n a : Type 0) (e : Error) (x : IoFault) → e ≡ second_append_error x → (IsErrOf {T = S} (Err x) fault.NoSpace → c) → IsTaken {T = S} a r (Err x) → IsCaused r c n a e
told_second S r c n a e x is f why = subst (λ (y : Error). IsCaused r c n a y) (sym is) (caused_second S r c n a x f why)

-- errors that are handed on
pub cause_more : {T : Type 0} (r c n a s d m b : Type 0) (result : Result T Error) → (r → s) → (c → d) → (n → m) → (a → b) → IfErr result (λ e. IsCaused r c n a e) → IfErr result (λ e. IsCaused s d m b e)
cause_more r c n a s d m b (Ok y) f g h k x = tt
cause_more r c n a s d m b (Err e) f g h k x = caused_for r c n a s d m b e f g h k x

-- the file that an append begins first
pub begins_first : (full : Type 0) (old new : Meter) → full → Lacks 0 old new → BeginsFiles full old new 1
begins_first full old new is lacks = record { some = omega arith; counts = inr (is, lacks) }

begins_late : (full : Type 0) (a b c : Meter) (k n : ℕ) → Lacks 1 a b → Lacks (n - 1) b c → 0 < n → (k ≡ 0) ⊎ (full × (k ≡ 1)) → BeginsFiles full a c (k + n)
begins_late full a b c k n one more some (inl none) = record { some = omega (arith, some); counts = inl (omega (arith, one, more, some, none)) }
begins_late full a b c k n one more some (inr (is, first)) = record { some = omega (arith, some); counts = inr (is, omega (arith, one, more, some, first)) }

fewer : (old new : Meter) (n : ℕ) → Lacks n old new ⊎ (Unit {0} × Lacks (n - 1) old new) → Lacks (n - 1) old new
fewer old new n (inl many) = omega (arith, many)
fewer old new n (inr (u, one)) = one

-- those that are begun behind want of space
pub begins_behind : (full : Type 0) (a b c : Meter) (k n : ℕ) → Lacks 1 a b → (k ≡ 0) ⊎ (full × (k ≡ 1)) → BeginsFiles (Unit {0}) b c n → BeginsFiles full a c (k + n)
begins_behind full a b c k n one first begins = begins_late full a b c k n one (fewer b c n begins.counts) begins.some first

append_behind_by : {T : Type 0} (p q : SinglePipe) (d e : Disk) (a b c : Meter) (k : ℕ) (result : Result T Error) → (k ≡ 0) ⊎ (IsFull p × (k ≡ 1)) → q.active.seq ≡ p.active.seq + k → e.directories ≡ d.directories
    → q.paths ≡ p.paths → q.queue ≡ p.queue → Rises 0 a b → Lacks 1 a b → IfErr result (λ x. IsSecondAppendFault q e b c x) → IfErr result (λ x. IsAppendFault p d a c x)
append_behind_by p q d e a b c k result first seq directories paths queue before one why =
    cause_more (Rises 1 b c) (Lacks 1 b c) ((n : ℕ) × BeginsFiles (Unit {0}) b c n × LacksNumber q n) ((n : ℕ) × BeginsFiles (Unit {0}) b c n × LacksPlace q e n)
    (Rises 1 a c) (Lacks 2 a c) ((n : ℕ) × BeginsFiles (IsFull p) a c n × LacksNumber p n) ((n : ℕ) × BeginsFiles (IsFull p) a c n × LacksPlace p d n) result
    (rises_then 0 1 a b c before) (lacks_then 1 1 a b c one)
    (λ (n, begins, lacks). (k + n, begins_behind (IsFull p) a b c k n one first begins, number_before p q k n seq lacks))
    (λ (n, begins, lacks). (k + n, begins_behind (IsFull p) a b c k n one first begins, place_before p q d e k n directories paths queue seq lacks)) why

-- a second append, behind one that found no space
pub append_behind : {T : Type 0} (p q : SinglePipe) (d e : Disk) (a b c : Meter) (result : Result T Error) → (q.active.seq ≡ p.active.seq) ⊎ (IsFull p × (q.active.seq ≡ p.active.seq + 1)) → e.directories ≡ d.directories
    → q.paths ≡ p.paths → q.queue ≡ p.queue → Rises 0 a b → Lacks 1 a b → IfErr result (λ x. IsSecondAppendFault q e b c x) → IfErr result (λ x. IsAppendFault p d a c x)
append_behind p q d e a b c result (inl same) directories paths queue before one why = append_behind_by p q d e a b c 0 result (inl refl) (omega (arith, same)) directories paths queue before one why
append_behind p q d e a b c result (inr (full, next)) directories paths queue before one why = append_behind_by p q d e a b c 1 result (inr (full, refl)) next directories paths queue before one why

-- the last file stays the same one
pub seq_on : (p m q : SinglePipe) → (m.active ≡ p.active) ⊎ (IsFull p × (m.active.seq ≡ p.active.seq + 1)) → q.active ≡ m.active → (q.active.seq ≡ p.active.seq) ⊎ (IsFull p × (q.active.seq ≡ p.active.seq + 1))
seq_on p m q (inl same) still = inl (ap (λ (f : File). f.seq) (still ∙ same))
seq_on p m q (inr (full, next)) still = inr (full, ap (λ (f : File). f.seq) still ∙ next)

-- ---- a purge

-- no file is missing where the pipe's files are the last ones of its queue
pub purge_found : {T : Type 0} (p : SinglePipe) (d : Disk) (seq : ℕ) (old new : Meter) (result : Result T Error) → IfErr result (λ e. IsPurgeFault p d seq old new e) → IsAlone p d → IsErrOf result (Other other.FileGone) → ⊥
purge_found p d seq old new (Ok x) why alone gone = absurd cc
purge_found p d seq old new (Err e) (inl (is, out)) alone gone = let same : e ≡ Other other.FileGone = cc in let apart : Other other.NumberOutOfSpan ≡ Other other.FileGone = sym is ∙ same in absurd cc
purge_found p d seq old new (Err e) (inr why) alone gone =
    let same : e ≡ Other other.FileGone = cc in alone_has p d seq alone (subst (λ (x : Error). IsCaused (Rises 1 old new) ⊥ ⊥ (HasLost p d seq) x) same why)
