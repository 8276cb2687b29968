-- Why a batch takes no item, and files don't go.
use Rattle.std.proofs.Common.{◌≡◌, ◌≤◌, ◌<◌, inl, inr, ℕ, List, [], ◌∷◌, arith}
use Rattle.std.specs.Prelude.{IfErr, Result, Ok, Err}
use Rattle.raft_log_disk.specs.Disk.{Disk}
use Rattle.raft_log_disk.specs.Cause.{Meter}
use Rattle.raft_log_records.specs.Batch.{Batch, Logs, LogsEntries, run_of}
use Rattle.raft_log_records.specs.Item.{Item}
use Rattle.raft_log_records.specs.declared.error.RecordError.{RecordError}
use Rattle.raft_log_records.specs.declared.error.RecordError.TheVariants as record_error
use Rattle.raft_log_files.specs.declared.error.Error.{Error}
use Rattle.raft_log_files.specs.declared.error.Error.TheVariants.{Io, Corruption, InvalidArgument, TryAgain, Memory, Other, EntryCompacted, EntryNotFound}
use Rattle.raft_log_files.specs.declared.error.OtherFault.TheVariants as other
use Rattle.raft_log_marks.specs.Caused.{IsBatchFault}
use Rattle.raft_log_pipe.specs.declared.pipe.SinglePipe.{SinglePipe}
use Rattle.raft_log_pipe.specs.Blocks.{IsOutOfSpan}
use Rattle.raft_log_pipe.specs.Caused.{IsCaused, IsPurgeFault}
use Rattle.raft_log_pipe.specs.Pipe.{first_of}
use Rattle.raft_log_purge.specs.Going.{IsGoingFault}

pub item_cause : (old : Batch) (item : Item (List ℕ)) (new : Batch) (result : Result Unit RecordError) → Logs old item new result → IfErr result IsBatchFault
item_cause old item new (Ok x) logs = tt
item_cause old item new (Err record_error.Memory) logs = tt
item_cause old item new (Err record_error.TooLong) logs = tt
item_cause old item new (Err (record_error.Corruption fault)) logs = logs

none_cause : (result : Result Unit RecordError) → result ≡ Ok tt → IfErr result IsBatchFault
none_cause (Ok x) is = tt
none_cause (Err e) is = absurd cc

pub run_cause : (old : Batch) (group first : ℕ) (parts : List (List ℕ)) (new : Batch) (result : Result Unit RecordError) → LogsEntries old group first parts new result → IfErr result IsBatchFault
run_cause old group first [] new result logs = none_cause result logs.1
run_cause old group first (part ∷ parts) new result logs = item_cause old (run_of group first (part ∷ parts)) new result logs

-- a file that was there may be gone
caused : (refused absent : Type 0) (e : Error) → IsCaused refused ⊥ ⊥ absent e → IsCaused refused ⊥ ⊥ (Unit {0}) e
caused refused absent Memory why = why
caused refused absent (Io f) why = why
caused refused absent TryAgain why = why
caused refused absent (Other other.NoFileNumber) why = why
caused refused absent (Other other.FileGone) why = tt
caused refused absent (Other other.PurgeBelowTarget) why = why
caused refused absent (Other other.RecycleUnderVersion1) why = why
caused refused absent (Other other.PrefillWithoutRecycle) why = why
caused refused absent (Other other.NoTargetSize) why = why
caused refused absent (Other other.NotADirectory) why = why
caused refused absent (Other other.NumberOutOfSpan) why = why
caused refused absent (Corruption f) why = why
caused refused absent (InvalidArgument f) why = why
caused refused absent EntryCompacted why = why
caused refused absent EntryNotFound why = why

pub in_span : (p : SinglePipe) (first active needed seq : ℕ) → first ≡ first_of p → active ≡ p.active.seq → needed ≤ active → first ≤ seq → (first < seq → seq ≡ needed) → IsOutOfSpan p seq → ⊥
in_span p first active needed seq from at within low is (inl before) = absurd (omega (arith, from, low, before))
in_span p first active needed seq from at within low is (inr behind) =
    let later : first < seq = omega (arith, from, behind) in
    let same : seq ≡ needed = is later in
    absurd (omega (arith, at, within, same, behind))

-- the first file that is needed is one of the queue's
pub going_cause : {T : Type 0} (p : SinglePipe) (d : Disk) (seq : ℕ) (old new : Meter) (result : Result T Error) → (IsOutOfSpan p seq → ⊥) → IfErr result (λ e. IsPurgeFault p d seq old new e) → IfErr result (λ e. IsGoingFault old new e)
going_cause p d seq old new (Ok n) within why = tt
going_cause p d seq old new (Err e) within (inl out) = absurd (within out.1)
going_cause p d seq old new (Err e) within (inr why) = caused _ _ e why
