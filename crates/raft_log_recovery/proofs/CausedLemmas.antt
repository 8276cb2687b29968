-- Why recoveries are refused: errors and their causes.
use Rattle.std.proofs.Common.{◌≡◌, ◌⊎◌, inl, inr, ℕ, zero, suc, ◌<◌, ◌≤◌, [], ◌∷◌, length, get_or, map, arith, List, Option, Some, None, refl, sym, ap, subst}
use Rattle.std.specs.Prelude.{Result, Ok, Err, IfErr, String}
use Rattle.std.specs.String.{string_bytes}
use Rattle.std.specs.declared.alloc.Global.{Global}
use Rattle.raft_log_records.specs.declared.file_id.FileId.{FileId}
use Rattle.raft_log_records.specs.declared.file_id.LogQueue.{LogQueue}
use Rattle.raft_log_disk.specs.Text.{Text}
use Rattle.raft_log_disk.specs.Disk.{Disk, HasOneOf, IsIn, IsNamed, IsNoFile, IsNoNewFile}
use Rattle.raft_log_disk.specs.declared.fault.IoFault.{IoFault}
use Rattle.raft_log_disk.specs.declared.fault.IoFault.TheVariants as fault
use Rattle.raft_log_disk.specs.Cause.{IsTaken, Meter, NothingRefuses, RefusesNoMore, Rises}
use Rattle.raft_log_disk.proofs.RefusalLemmas.{still_free}
use Rattle.raft_log_files.specs.declared.error.OtherFault.TheVariants as other
use Rattle.raft_log_disk.specs.declared.format.HeaderFault.TheVariants.{CutShort}
use Rattle.raft_log_disk.specs.declared.format.LogFileFormat.{LogFileFormat}
use Rattle.raft_log_disk.proofs.NamedLemmas.{one_path}
use Rattle.raft_log_files.specs.declared.error.CorruptionFault.TheVariants.{Header, Record}
use Rattle.raft_log_files.specs.declared.error.Error.{Error}
use Rattle.raft_log_files.specs.declared.error.Error.TheVariants.{Io, Corruption, InvalidArgument, TryAgain, Memory, Other, EntryCompacted, EntryNotFound}
use Rattle.raft_log_file.specs.declared.batches.LogItemBatchFileReader.{LogItemBatchFileReader}
use Rattle.raft_log_file.specs.declared.batches.OpenFile.{OpenFile}
use Rattle.raft_log_file.specs.Errors.{IsNextFault, IsOpenFault, Parses}
use Rattle.raft_log_file.specs.Reader.{FailsNext}
use Rattle.raft_log_pipe.specs.Alone.{path_in}
use Rattle.raft_log_pipe.specs.Caused.{IsCaused}
use Rattle.raft_log_pipe.proofs.AloneLemmas.{found_in}
use Rattle.raft_log_pipe.specs.Taken.{IsTakenBy, main_path}
use Rattle.raft_log_pipe.specs.Pipe.{id_of}
use Rattle.raft_log_pipe.proofs.CausedLemmas.{caused_for, lacks_before, rises_then}
use Rattle.std.proofs.lemmas.List.Sorted.{Contains-permutation, IsPermutation-sym}
use Rattle.raft_log_recovery.specs.declared.scan.FileKind.TheVariants.{Log}
use Rattle.raft_log_recovery.specs.declared.scan.FileName.{FileName}
use Rattle.raft_log_recovery.specs.Caused.{AnyUnreadable, IsFirstBarred, IsFirstLacking, IsMissing, IsQueueFault, IsRecoveryFault, IsRecoveryTaken, IsRefusal, IsReplayFault}
use Rattle.raft_log_recovery.specs.declared.builder.DualPipesBuilder.{DualPipesBuilder}
use Rattle.raft_log_recovery.specs.Both.{AreTaken, IsEitherFault}
use Rattle.raft_log_recovery.specs.Queue.{IsFileOf, directories_in, names_in, path_of}
use Rattle.raft_log_recovery.specs.Scan.{AreFound}
use Rattle.raft_log_recovery.proofs.FoundLemmas.{contained, in_contained}
use Rattle.raft_log_recovery.proofs.RunLemmas.{found_stands, in_dropped}

-- ---- a file that is read

pub memory_fault : (d : Disk) (m : Meter) (fd : ℕ) (e : Error) → e ≡ Memory → IsReplayFault d m fd e
memory_fault d m fd e is = inr (inl is)

-- the header
pub parse_fault : (d : Disk) (m : Meter) (fd : ℕ) (e : Error) → Parses d m fd (Err e) → IsReplayFault d m fd e
parse_fault d m fd (Corruption f) why = inl (f, refl)
parse_fault d m fd (Io f) why = inr why
parse_fault d m fd (InvalidArgument f) why = inr why
parse_fault d m fd TryAgain why = inr why
parse_fault d m fd Memory why = inr why
parse_fault d m fd (Other f) why = inr why
parse_fault d m fd EntryCompacted why = inr why
parse_fault d m fd EntryNotFound why = inr why

-- the records
pub open_fault : (d : Disk) (m : Meter) (fd : ℕ) (format : LogFileFormat) (e : Error) → IsOpenFault d m fd format e → IsReplayFault d m fd e
open_fault d m fd format e (inl short) = inl (Header CutShort, short.0)
open_fault d m fd format e (inr read) = inr read

pub next_fault : (r : LogItemBatchFileReader) (file : OpenFile) (d : Disk) (m : Meter) (e : Error) → r.file ≡ Some file → FailsNext r d m e → IsReplayFault d m file.fd.0 e
next_fault r file d m e is fails =
    let P : Option OpenFile → Type 0 = λ o. elim o [ None ↦ ⊥ | Some f ↦ IsNextFault d m f.fd.0 e ] in
    by_file (subst P is fails)
  where
    by_file : IsNextFault d m file.fd.0 e → IsReplayFault d m file.fd.0 e
    by_file (inl (f, same)) = inl (Record f, same)
    by_file (inr read) = inr read

-- of a file that is there
pub replay_cause : (d : Disk) (m : Meter) (fd : ℕ) (e : Error) → (IsNoFile d fd → ⊥) → IsReplayFault d m fd e → IsRecoveryFault (HasOneOf d fd m.unreadable) ⊥ e
replay_cause d m fd e there (inl corrupt) = inl corrupt
replay_cause d m fd e there (inr (inl is)) = inr (subst (λ (x : Error). IsCaused (HasOneOf d fd m.unreadable) ⊥ ⊥ ⊥ x) (sym is) tt)
replay_cause d m fd e there (inr (inr (inl (is, one)))) = inr (subst (λ (x : Error). IsCaused (HasOneOf d fd m.unreadable) ⊥ ⊥ ⊥ x) (sym is) one)
replay_cause d m fd e there (inr (inr (inr (is, none)))) = absurd (there none)

-- ---- calls that were refused

pub refused_io : (S absent bounded barred : Type 0) (a b : Meter) (x : IoFault) → IsTaken {T = S} absent (Rises 1 a b) (Err x) → (NothingRefuses bounded a → IsTaken {T = S} absent barred (Err x)) → IsTaken {T = S} absent (IsRefusal bounded barred a b) (Err x)
refused_io S absent bounded barred a b fault.Memory cause taken = tt
refused_io S absent bounded barred a b fault.Refused cause taken = (cause, taken)
refused_io S absent bounded barred a b fault.NoSpace cause taken = (cause, taken)
refused_io S absent bounded barred a b fault.NotFound cause taken = cause

refused_by : (T absent lacking bounded barred : Type 0) (a b : Meter) (e : Error) → IsCaused (Rises 1 a b) ⊥ ⊥ absent e → (NothingRefuses bounded a → IsTakenBy {T = T} ⊥ lacking barred (Err e)) → IsCaused (IsRefusal bounded barred a b) ⊥ ⊥ absent e
refused_by T absent lacking bounded barred a b Memory cause taken = tt
refused_by T absent lacking bounded barred a b (Io i) cause taken = (cause, taken)
refused_by T absent lacking bounded barred a b TryAgain cause taken = absurd cause
refused_by T absent lacking bounded barred a b (Other other.NoFileNumber) cause taken = absurd cause
refused_by T absent lacking bounded barred a b (Other other.FileGone) cause taken = cause
refused_by T absent lacking bounded barred a b (Other other.PurgeBelowTarget) cause taken = absurd cause
refused_by T absent lacking bounded barred a b (Other other.RecycleUnderVersion1) cause taken = absurd cause
refused_by T absent lacking bounded barred a b (Other other.PrefillWithoutRecycle) cause taken = absurd cause
refused_by T absent lacking bounded barred a b (Other other.NoTargetSize) cause taken = absurd cause
refused_by T absent lacking bounded barred a b (Other other.NotADirectory) cause taken = absurd cause
refused_by T absent lacking bounded barred a b (Other other.NumberOutOfSpan) cause taken = absurd cause
refused_by T absent lacking bounded barred a b (Corruption i) cause taken = absurd cause
refused_by T absent lacking bounded barred a b (InvalidArgument i) cause taken = absurd cause
refused_by T absent lacking bounded barred a b EntryCompacted cause taken = absurd cause
refused_by T absent lacking bounded barred a b EntryNotFound cause taken = absurd cause

-- calls of a pipe
pub refused_pipe : {T : Type 0} (absent lacking bounded barred : Type 0) (a b : Meter) (result : Result T Error) → IfErr result (λ e. IsCaused (Rises 1 a b) ⊥ ⊥ absent e) → (NothingRefuses bounded a → IsTakenBy ⊥ lacking barred result)
    → IfErr result (λ e. IsCaused (IsRefusal bounded barred a b) ⊥ ⊥ absent e)
refused_pipe absent lacking bounded barred a b (Ok x) cause taken = tt
refused_pipe {T = T} absent lacking bounded barred a b (Err e) cause taken = refused_by T absent lacking bounded barred a b e cause taken

-- behind others
pub refusal_then : (free free_then barred lately : Type 0) (a b c : Meter) → RefusesNoMore free free_then a b → (lately → barred) → IsRefusal free_then lately b c → IsRefusal free barred a c
refusal_then free free_then barred lately a b c before f (rises, why) = (rises_then 0 1 a b c before.counts rises, λ none. f (why (still_free none before)))

-- and before others
pub refusal_for : (bounded barred other : Type 0) (a b : Meter) → (barred → other) → IsRefusal bounded barred a b → IsRefusal bounded other a b
refusal_for bounded barred other a b f (rises, why) = (rises, λ none. f (why none))

-- ---- where nothing is set to refuse

taken_by : (T refused absent barred : Type 0) (e : Error) → (refused → barred) → IsCaused refused ⊥ ⊥ absent e → IsTakenBy {T = T} ⊥ absent barred (Err e)
taken_by T refused absent barred Memory f cause = tt
taken_by T refused absent barred (Io i) f cause = f cause
taken_by T refused absent barred TryAgain f cause = absurd cause
taken_by T refused absent barred (Other other.NoFileNumber) f cause = absurd cause
taken_by T refused absent barred (Other other.FileGone) f cause = cause
taken_by T refused absent barred (Other other.PurgeBelowTarget) f cause = absurd cause
taken_by T refused absent barred (Other other.RecycleUnderVersion1) f cause = absurd cause
taken_by T refused absent barred (Other other.PrefillWithoutRecycle) f cause = absurd cause
taken_by T refused absent barred (Other other.NoTargetSize) f cause = absurd cause
taken_by T refused absent barred (Other other.NotADirectory) f cause = absurd cause
taken_by T refused absent barred (Other other.NumberOutOfSpan) f cause = absurd cause
taken_by T refused absent barred (Corruption i) f cause = absurd cause
taken_by T refused absent barred (InvalidArgument i) f cause = absurd cause
taken_by T refused absent barred EntryCompacted f cause = absurd cause
taken_by T refused absent barred EntryNotFound f cause = absurd cause

pub taken_of : {T : Type 0} (bounded absent barred unread : Type 0) (a b : Meter) (result : Result T Error) → NothingRefuses bounded a → (unread → ⊥) → IfErr result (λ e. IsRecoveryFault (IsRefusal bounded barred a b ⊎ unread) absent e)
    → IsRecoveryTaken absent barred result
taken_of bounded absent barred unread a b (Ok x) free none why = inr tt
taken_of bounded absent barred unread a b (Err e) free none (inl (f, is)) = inl (f, ap Err is)
taken_of {T = T} bounded absent barred unread a b (Err e) free none (inr why) =
    inr (taken_by T (IsRefusal bounded barred a b ⊎ unread) absent barred e (λ one. elim one [ inl refused ↦ refused.1 free | inr other ↦ absurd (none other) ]) why)

-- no reads are refused then
pub all_readable : (bounded : Type 0) (d : Disk) (fd : ℕ) (m : Meter) → NothingRefuses bounded m → HasOneOf d fd m.unreadable → ⊥
all_readable bounded d fd m free (path, named, refused) = subst (λ (l : List Text). IsIn path l) free.reads refused

pub none_unreadable : (bounded : Type 0) (directories : List Text) (queue : LogQueue) (names : List FileName) (m : Meter) → NothingRefuses bounded m → AnyUnreadable directories queue names m → ⊥
none_unreadable bounded directories queue names m free (name, among, refused) = subst (λ (l : List Text). IsIn (path_of directories queue name) l) free.reads refused

-- ---- causes that lead to others

pub recovery_for : (r a s b : Type 0) (e : Error) → (r → s) → (a → b) → IsRecoveryFault r a e → IsRecoveryFault s b e
recovery_for r a s b e f k (inl corrupt) = inl corrupt
recovery_for r a s b e f k (inr why) = inr (caused_for r ⊥ ⊥ a s ⊥ ⊥ b e f (λ x. x) (λ x. x) k why)

pub recovery_more : {T : Type 0} (r a s b : Type 0) (result : Result T Error) → (r → s) → (a → b) → IfErr result (λ e. IsRecoveryFault r a e) → IfErr result (λ e. IsRecoveryFault s b e)
recovery_more r a s b (Ok x) f k why = tt
recovery_more r a s b (Err e) f k why = recovery_for r a s b e f k why

pub recovery_caused : {T : Type 0} (r a s b : Type 0) (result : Result T Error) → (r → s) → (a → b) → IfErr result (λ e. IsCaused r ⊥ ⊥ a e) → IfErr result (λ e. IsRecoveryFault s b e)
recovery_caused r a s b (Ok x) f k why = tt
recovery_caused r a s b (Err e) f k why = inr (caused_for r ⊥ ⊥ a s ⊥ ⊥ b e f (λ x. x) (λ x. x) k why)

-- ---- files that were found

pub at_in : {X : Type 0} (xs : List X) (i : ℕ) (d : X) → i < length xs → IsIn (get_or xs i d) xs
at_in [] i d within = absurd (omega (arith, within))
at_in (x ∷ xs) zero d within = inl refl
at_in (x ∷ xs) (suc i) d within = inr (at_in xs i d (omega (arith, within)))

-- reads of the file that has the path are refused
pub unreadable_at : (d : Disk) (directories : List Text) (queue : LogQueue) (names : List FileName) (name : FileName) (fd : ℕ) (m n : Meter) → IsNamed d → IsIn name names → n.unreadable ≡ m.unreadable → IsFileOf d directories queue name fd
    → HasOneOf d fd n.unreadable → AnyUnreadable directories queue names m
unreadable_at d directories queue names name fd m n named among reads file (other, there, refused) =
    let path : Text = path_of directories queue name in
    let same : other ≡ path = one_path d.names d.next fd other path named there (found_in d.names path fd file) in
    (name, among, subst (λ (l : List Text). IsIn path l) reads (subst (λ (t : Text). IsIn t n.unreadable) same refused))

-- the first file of a queue that can't be made then
pub first_barred : (dirs : List (String Global)) (directories : List Text) (id : FileId) (y new : Disk) → 0 < length dirs → map string_bytes dirs ≡ directories → new.directories ≡ y.directories → y.next ≤ new.next → IsNoNewFile y (main_path dirs id)
    → IsNoNewFile new (path_in directories 0 id)
first_barred [] directories id y new some said same next barred = absurd (omega (arith, some))
first_barred (dir ∷ dirs) directories id y new some said same next (inl many) = inl (omega (arith, many, next))
first_barred (dir ∷ dirs) directories id y new some said same next (inr there) =
    inr (subst (λ (l : List Text). IsIn (path_in l 0 id) new.directories) said (subst (λ (l : List Text). IsIn (main_path (dir ∷ dirs) id) l) (sym same) there))

-- none of them is missing
pub found_missing : (d : Disk) (queue : LogQueue) (directories : List Text) (names : List FileName) → AreFound d (Log queue) directories names → IsMissing d directories queue names → ⊥
found_missing d queue directories names found (name, there, none) =
    let inside : IsIn name found.sorted = in_dropped found.start found.sorted name (subst (IsIn name) found.rest there) in
    let among : IsIn name found.all = in_contained name found.all (Contains-permutation found.sorted found.all name (IsPermutation-sym found.all found.sorted found.same) (contained name found.sorted inside)) in
    let stands = found_stands d queue directories found.all name found.in_directories among in
    let some = stands.1.2 in
    absurd cc

-- ---- one queue after the other

pub fault_then : (directories : List Text) (queue : LogQueue) (names : List FileName) (d y new : Disk) (free free_then : Type 0) (a b c : Meter) (e : Error) → y.directories ≡ d.directories → RefusesNoMore free free_then a b
    → IsQueueFault directories queue names y new free_then b c e → IsQueueFault directories queue names d new free a c e
fault_then directories queue names d y new free free_then a b c e same before why =
    let barred : Type 0 = IsFirstBarred directories queue names new in
    recovery_for (IsRefusal free_then barred b c ⊎ AnyUnreadable directories queue names b) (IsFirstLacking directories queue names y) (IsRefusal free barred a c ⊎ AnyUnreadable directories queue names a) (IsFirstLacking directories queue names d) e
    (λ one. elim one [
      | inl refused ↦ inl (refusal_then free free_then barred barred a b c before (λ x. x) refused)
      | inr (name, among, unread) ↦ inr (name, among, subst (λ (l : List Text). IsIn (path_of directories queue name) l) before.reads unread)
    ])
    (λ lacks. (lacks.0, lacks_before d y directories directories (id_of queue 1) (id_of queue 1) same refl refl lacks.1)) why

pub either_taken : {T : Type 0} (b : DualPipesBuilder) (d left : Disk) (bounded : Type 0) (old new : Meter) (result : Result T Error) → IfErr result (λ e. IsEitherFault b d left bounded old new e) → NothingRefuses bounded old → AreTaken b d left result
either_taken b d left bounded old new (Ok x) why none = inr tt
either_taken b d left bounded old new (Err e) (queue, inl (f, is)) none = inl (f, ap Err is)
either_taken {T = T} b d left bounded old new (Err e) (queue, inr why) none =
    let lacking : LogQueue → Type 0 = λ q. IsFirstLacking (directories_in b) q (names_in b q) d in
    let barred : LogQueue → Type 0 = λ q. IsFirstBarred (directories_in b) q (names_in b q) left in
    let unread : Type 0 = AnyUnreadable (directories_in b) queue (names_in b queue) old in
    let any : IsCaused (IsRefusal bounded (barred queue) old new ⊎ unread) ⊥ ⊥ ((q : LogQueue) × lacking q) e
    = caused_for (IsRefusal bounded (barred queue) old new ⊎ unread) ⊥ ⊥ (lacking queue) (IsRefusal bounded (barred queue) old new ⊎ unread) ⊥ ⊥ ((q : LogQueue) × lacking q) e (λ x. x) (λ x. x) (λ x. x) (λ x. (queue, x)) why in
    inr (taken_by T (IsRefusal bounded (barred queue) old new ⊎ unread) ((q : LogQueue) × lacking q) ((q : LogQueue) × barred q) e
    (λ one. elim one [ inl refused ↦ (queue, refused.1 none) | inr other ↦ absurd (none_unreadable bounded (directories_in b) queue (names_in b queue) old none other) ]) any)
