-- Why a cleaning is refused, from call to call.
use Rattle.std.proofs.Common.{◌≡◌, ◌⊎◌, inl, inr, sym, subst, arith}
use Rattle.std.specs.Prelude.{IfErr, Option, Some, Result, Ok, Err}
use Rattle.std.specs.Result.{IsErrAnd}
use Rattle.raft_log_disk.specs.Disk.{Disk, IsIn}
use Rattle.raft_log_disk.specs.Cause.{Lacks, Meter, RefusesNoMore, Rises}
use Rattle.raft_log_records.specs.declared.error.RecordError.{RecordError}
use Rattle.raft_log_records.specs.declared.error.RecordError.TheVariants as record_error
use Rattle.raft_log_records.specs.declared.file_id.FileBlockHandle.{FileBlockHandle}
use Rattle.raft_log_files.specs.declared.error.Error.{Error}
use Rattle.raft_log_files.specs.declared.error.Error.TheVariants.{Io, Corruption, InvalidArgument, TryAgain, Memory, Other, EntryCompacted, EntryNotFound}
use Rattle.raft_log_files.specs.declared.error.OtherFault.TheVariants as other
use Rattle.raft_log_memtables.specs.declared.fetch.FetchError.{FetchError}
use Rattle.raft_log_memtables.specs.declared.fetch.FetchError.TheVariants as fetch
use Rattle.raft_log_marks.specs.Caused.{IsBatchFault, IsMarkFault}
use Rattle.raft_log_marks.specs.declared.marks.MarkError.{MarkError}
use Rattle.raft_log_marks.specs.declared.marks.MarkError.TheVariants as mark_error
use Rattle.raft_log_pipe.specs.Caused.{IsCaused}
use Rattle.raft_log_purge.specs.Going.{IsGoingFault}
use Rattle.raft_log_pipes.specs.declared.pipes.DualPipes.{DualPipes}
use Rattle.raft_log_blocks.specs.Unread.{IsBlockUnread}
use Rattle.raft_log_cleaner.specs.Caused.{IsCleaningFault}
use Rattle.raft_log_cleaner.specs.Fault.{fetch_fault, mark_fault, record_fault}

-- a cause stands behind calls that met none
pub cause_behind : {a b : Type 0} {x y : Meter} → RefusesNoMore a b x y → (z : Meter) (e : Error) → IsCleaningFault y z e → IsCleaningFault x z e
cause_behind first z Memory why = tt
cause_behind first z (Io f) (inl rises) = inl (omega (arith, first.counts, rises))
cause_behind first z (Io f) (inr (path, is)) = inr (path, subst (λ paths. IsIn path paths) first.reads is)
cause_behind first z TryAgain why = omega (arith, first.spaces, why)
cause_behind first z (Other f) why = why
cause_behind first z (Corruption f) why = why
cause_behind first z (InvalidArgument f) why = why
cause_behind first z EntryCompacted why = tt
cause_behind first z EntryNotFound why = tt

pub cause_then : {X a b : Type 0} {x y : Meter} → RefusesNoMore a b x y → (z : Meter) (result : Result X Error) → IfErr result (λ e. IsCleaningFault y z e) → IfErr result (λ e. IsCleaningFault x z e)
cause_then first z (Ok n) why = tt
cause_then first z (Err e) why = cause_behind first z e why

-- the error of a call is handed on
pub refused : {X : Type 0} (x z : Meter) (result : Result X Error) (error : Error) → IsErrAnd result (λ e. e ≡ error) → IsCleaningFault x z error → IfErr result (λ e. IsCleaningFault x z e)
refused x z (Ok n) error is why = tt
refused x z (Err e) error is why = subst (λ e. IsCleaningFault x z e) (sym is) why

pub refused_then : {X a b : Type 0} {x y : Meter} → RefusesNoMore a b x y → (z : Meter) (result : Result X Error) (error : Error) → IsErrAnd result (λ e. e ≡ error) → IsCleaningFault y z error
    → IfErr result (λ e. IsCleaningFault x z e)
refused_then {x = x} first z result error is why = refused x z result error is (cause_behind first z error why)

-- ---- causes of the parts

-- of a call on a pipe
pub pipe_cause : (old new : Meter) (cramped unnumbered absent : Type 0) → (cramped → Lacks 2 old new) → (e : Error) → IsCaused (Rises 1 old new) cramped unnumbered absent e → IsCleaningFault old new e
pipe_cause old new cramped unnumbered absent lacks Memory why = tt
pipe_cause old new cramped unnumbered absent lacks (Io f) why = inl why
pipe_cause old new cramped unnumbered absent lacks TryAgain why = lacks why
pipe_cause old new cramped unnumbered absent lacks (Other other.NoFileNumber) why = tt
pipe_cause old new cramped unnumbered absent lacks (Other other.FileGone) why = tt
pipe_cause old new cramped unnumbered absent lacks (Other other.PurgeBelowTarget) why = why
pipe_cause old new cramped unnumbered absent lacks (Other other.RecycleUnderVersion1) why = why
pipe_cause old new cramped unnumbered absent lacks (Other other.PrefillWithoutRecycle) why = why
pipe_cause old new cramped unnumbered absent lacks (Other other.NoTargetSize) why = why
pipe_cause old new cramped unnumbered absent lacks (Other other.NotADirectory) why = why
pipe_cause old new cramped unnumbered absent lacks (Other other.NumberOutOfSpan) why = why
pipe_cause old new cramped unnumbered absent lacks (Corruption f) why = why
pipe_cause old new cramped unnumbered absent lacks (InvalidArgument f) why = why
pipe_cause old new cramped unnumbered absent lacks EntryCompacted why = tt
pipe_cause old new cramped unnumbered absent lacks EntryNotFound why = tt

-- of one that needs no space
pub call_cause : (old new : Meter) (unnumbered absent : Type 0) (e : Error) → IsCaused (Rises 1 old new) ⊥ unnumbered absent e → IsCleaningFault old new e
call_cause old new unnumbered absent e why = pipe_cause old new ⊥ unnumbered absent (λ never. absurd never) e why

-- of files that go
pub going_cause : {X : Type 0} (old new : Meter) (result : Result X Error) → IfErr result (λ e. IsGoingFault old new e) → IfErr result (λ e. IsCleaningFault old new e)
going_cause old new (Ok n) why = tt
going_cause old new (Err e) why = call_cause old new ⊥ (Unit {0}) e why

-- of a read of an entry's block
pub read_cause : (d : Disk) (p : DualPipes) (meter : Meter) (block : Option FileBlockHandle) (e : Error) → (e ≡ Memory) ⊎ ((h : FileBlockHandle) × (block ≡ Some h) × IsBlockUnread d p meter h e) → IsCleaningFault meter meter e
read_cause d p meter block e (inl is) = subst (λ e. IsCleaningFault meter meter e) (sym is) tt
read_cause d p meter block e (inr (h, there, unread)) =
    let (path, named, refused) = unread.1.3 in
    subst (λ e. IsCleaningFault meter meter e) (sym unread.0) (inr (path, refused))

-- of a batch
pub batch_cause : (old new : Meter) (e : RecordError) → IsBatchFault e → IsCleaningFault old new (record_fault e)
batch_cause old new record_error.Memory why = tt
batch_cause old new record_error.TooLong why = tt
batch_cause old new (record_error.Corruption fault) why = why

-- of one that is written out
pub written_cause : (old new : Meter) (e : RecordError) → e ≡ record_error.Memory → IsCleaningFault old new (record_fault e)
written_cause old new e is = batch_cause old new e (subst IsBatchFault (sym is) tt)

-- of marks
pub mark_cause : (old new : Meter) (e : MarkError) → IsMarkFault e → IsCleaningFault old new (mark_fault e)
mark_cause old new (mark_error.Record e) why = batch_cause old new e why
mark_cause old new mark_error.EmptyKey why = tt
mark_cause old new mark_error.PastGreatestIndex why = tt

-- of entries that aren't there
pub fetch_cause : (old new : Meter) (e : FetchError) → IsCleaningFault old new (fetch_fault e)
fetch_cause old new fetch.Memory = tt
fetch_cause old new fetch.EntryCompacted = tt
fetch_cause old new fetch.EntryNotFound = tt

-- an error that a part's error is told as
pub told_as : (old new : Meter) (told e : Error) → told ≡ e → IsCleaningFault old new e → IsCleaningFault old new told
told_as old new told e is why = subst (λ e. IsCleaningFault old new e) (sym is) why
