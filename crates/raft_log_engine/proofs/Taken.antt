-- Why a write or a sync is refused where nothing is set to refuse.
use Rattle.std.proofs.Common.{◌≡◌, ◌⊎◌, ℕ, ◌≤◌, lit≤, true, [], ◌∷◌, ◌++◌, None, refl, sym, ap, subst, ◌∙◌, arith, length}
use Rattle.std.specs.Prelude.{Result, Ok, Err}
use Rattle.std.specs.Result.{IsErrAnd}
use Rattle.std.proofs.lemmas.Bool.{false≢true}
use Rattle.std.proofs.lemmas.Result.{err_from_is_err_and}
use Rattle.raft_log_records.specs.declared.file_id.FileBlockHandle.{FileBlockHandle}
use Rattle.raft_log_records.specs.declared.error.RecordError.{RecordError}
use Rattle.raft_log_records.specs.declared.error.RecordError.TheVariants as record_error
use Rattle.raft_log_records.specs.Batch.{populated}
use Rattle.raft_log_records.specs.Batch as batch
use Rattle.raft_log_records.specs.Spelling.{record_len}
use Rattle.raft_log_disk.specs.Disk.{Disk}
use Rattle.raft_log_files.specs.declared.error.Error.{Error}
use Rattle.raft_log_files.specs.declared.error.Error.TheVariants.{Io, Corruption, InvalidArgument, TryAgain, Memory, Other, EntryCompacted, EntryNotFound}
use Rattle.raft_log_file.specs.Laws.{Batch}
use Rattle.raft_log_file.proofs.LawLemmas.{length-spelled}
use Rattle.raft_log_pipe.specs.declared.pipe.SinglePipe.{SinglePipe}
use Rattle.raft_log_pipe.specs.Taken.{IsAppendTaken, IsBarred, IsFull, IsOkOrMemory, IsTakenBy, IsTooLarge, IsUnmade, IsUnnumbered, NeedsFile}
use Rattle.raft_log_pipe.proofs.TakenLemmas.{exit_error, taken_for}
use Rattle.raft_log_memtables.specs.declared.memtables.MemTables.{MemTables}
use Rattle.raft_log_engine.specs.Parts.{Parts}
use Rattle.raft_log_engine.specs.Reads.{compaction}
use Rattle.raft_log_engine.specs.Taken.{IsCompactionTaken, IsMarked, IsNotTaken, IsRefusedBatch, IsSyncTaken, IsTakenUnless, IsWriteTaken}
use Rattle.raft_log_engine.specs.declared.fault.EngineFault.{EngineFault}
use Rattle.raft_log_engine.specs.declared.fault.EngineFault.TheVariants.{Log, NotTaken, Marked, NotAMessage, Stopped}

-- ---- the length of a record

pub populated_long : (items : Batch) → (items ≡ [] → ⊥) → length (batch.encoded_of (populated items)) ≡ record_len items
populated_long [] some = absurd (some refl)
populated_long (item ∷ items) some = length-spelled None (item ∷ items)

-- ---- an append, with a sync behind it

pub sync_for : (T : Type 0) (p : SinglePipe) (d : Disk) (items : Batch) (r : Result T Error) (x : Error) → IsErrAnd r (λ e. e ≡ x) → IsTakenBy {T = Unit {0}} ⊥ ⊥ ⊥ (Err x) → IsAppendTaken p d items r
sync_for T p d items r x is why =
    let needs = NeedsFile p items in
    exit_error (needs × IsUnnumbered p) (needs × IsUnmade p d) ((IsFull p × IsBarred p d) ⊎ IsTooLarge p items) r x is
    (taken_for (Unit {0}) T ⊥ ⊥ ⊥ (needs × IsUnnumbered p) (needs × IsUnmade p d) ((IsFull p × IsBarred p d) ⊎ IsTooLarge p items) x (λ no. absurd no) (λ no. absurd no) (λ no. absurd no) why)

-- ---- what the engine's calls answer

pub exit_fault : {T : Type 0} (s m u n a b : Type 0) (r : Result T EngineFault) (x : EngineFault) → IsErrAnd r (λ e. e ≡ x) → IsTakenUnless {T = T} s m u n a b (Err x) → IsTakenUnless s m u n a b r
exit_fault {T = T} s m u n a b r x is why = let p = err_from_is_err_and r is in subst (λ (q : Result T EngineFault). IsTakenUnless s m u n a b q) (sym (p.1 ∙ ap Err p.2)) why

refused_first : (T s n a b : Type 0) (tables : MemTables) (items : Batch) (x : EngineFault) → IsRefusedBatch tables items x → IsTakenUnless {T = T} s (IsMarked items) (IsNotTaken tables items) n a b (Err x)
refused_first T s n a b tables items Marked why = why
refused_first T s n a b tables items NotTaken why = why
refused_first T s n a b tables items NotAMessage why = absurd why
refused_first T s n a b tables items Stopped why = absurd why
refused_first T s n a b tables items (Log Memory) why = tt
refused_first T s n a b tables items (Log (Io f)) why = absurd why
refused_first T s n a b tables items (Log (Corruption f)) why = absurd why
refused_first T s n a b tables items (Log (InvalidArgument f)) why = absurd why
refused_first T s n a b tables items (Log TryAgain) why = absurd why
refused_first T s n a b tables items (Log (Other f)) why = absurd why
refused_first T s n a b tables items (Log EntryCompacted) why = absurd why
refused_first T s n a b tables items (Log EntryNotFound) why = absurd why

-- the reasons of an append, in a write
logged : (S T s m u n a b : Type 0) (x : Error) → IsTakenBy {T = S} n a b (Err x) → IsTakenUnless {T = T} s m u n a b (Err (Log x))
logged S T s m u n a b x why = taken_for S (Unit {0}) n a b n a b x (λ y. y) (λ y. y) (λ y. y) why

module _ {F : Type 0} (T : Type 0) (disk : F → Disk) (e : Parts F) (items : Batch) where
  pub stopped_write : e.is_stopped ≡ true → IsWriteTaken {T = T} disk e items (Err Stopped)
  stopped_write is = by_items items
    where
      by_items : (more : Batch) → IsWriteTaken {T = T} disk e more (Err Stopped)
      by_items [] = is
      by_items (item ∷ more) = is

  -- a batch that is refused before it is written
  pub refused_write : (items ≡ [] → ⊥) → (r : Result T EngineFault) (x : EngineFault) → IsErrAnd r (λ y. y ≡ x) → IsRefusedBatch e.tables items x → IsWriteTaken disk e items r
  refused_write some r x is why = by_items items some why
    where
      by_items : (more : Batch) → (more ≡ [] → ⊥) → IsRefusedBatch e.tables more x → IsWriteTaken disk e more r
      by_items [] none so = absurd (none refl)
      by_items (item ∷ more) none so =
          exit_fault (e.is_stopped ≡ true) (IsMarked (item ∷ more)) (IsNotTaken e.tables (item ∷ more))
          (NeedsFile e.pipes.append (item ∷ more) × IsUnnumbered e.pipes.append) (NeedsFile e.pipes.append (item ∷ more) × IsUnmade e.pipes.append (disk e.files))
          ((IsFull e.pipes.append × IsBarred e.pipes.append (disk e.files)) ⊎ IsTooLarge e.pipes.append (item ∷ more)) r x is
          (refused_first T (e.is_stopped ≡ true)
          (NeedsFile e.pipes.append (item ∷ more) × IsUnnumbered e.pipes.append) (NeedsFile e.pipes.append (item ∷ more) × IsUnmade e.pipes.append (disk e.files))
          ((IsFull e.pipes.append × IsBarred e.pipes.append (disk e.files)) ⊎ IsTooLarge e.pipes.append (item ∷ more)) e.tables (item ∷ more) x so)

  -- an append that was refused
  pub failed_write : (items ≡ [] → ⊥) → (x : Error) → IsAppendTaken {T = FileBlockHandle} e.pipes.append (disk e.files) items (Err x) → IsWriteTaken {T = T} disk e items (Err (Log x))
  failed_write some x why = by_items items some why
    where
      by_items : (more : Batch) → (more ≡ [] → ⊥) → IsAppendTaken {T = FileBlockHandle} e.pipes.append (disk e.files) more (Err x) → IsWriteTaken {T = T} disk e more (Err (Log x))
      by_items [] none so = absurd (none refl)
      by_items (item ∷ more) none so =
          logged FileBlockHandle T (e.is_stopped ≡ true) (IsMarked (item ∷ more)) (IsNotTaken e.tables (item ∷ more))
          (NeedsFile e.pipes.append (item ∷ more) × IsUnnumbered e.pipes.append) (NeedsFile e.pipes.append (item ∷ more) × IsUnmade e.pipes.append (disk e.files))
          ((IsFull e.pipes.append × IsBarred e.pipes.append (disk e.files)) ⊎ IsTooLarge e.pipes.append (item ∷ more)) x so

  -- want of memory behind it
  pub unapplied_write : (y : EngineFault) → y ≡ Log Memory → IsWriteTaken {T = T} disk e items (Err y)
  unapplied_write y is = by_items items
    where
      by_items : (more : Batch) → IsWriteTaken {T = T} disk e more (Err y)
      by_items [] = subst (λ (z : EngineFault). IsWriteTaken {T = T} disk e [] (Err z)) (sym is) tt
      by_items (item ∷ more) = subst (λ (z : EngineFault). IsWriteTaken {T = T} disk e (item ∷ more) (Err z)) (sym is) tt

  pub done_write : (x : T) → IsWriteTaken disk e items (Ok x)
  done_write x = by_items items
    where
      by_items : (more : Batch) → IsWriteTaken disk e more (Ok x)
      by_items [] = tt
      by_items (item ∷ more) = tt

  -- a sync of an empty batch
  pub synced_write : items ≡ [] → (S : Type 0) (r : Result T EngineFault) (x : EngineFault) → IsErrAnd r (λ y. y ≡ x) → IsSyncTaken {T = S} e (Err x) → IsWriteTaken disk e items r
  synced_write none S r x is why =
      subst (λ (more : Batch). IsWriteTaken disk e more r) (sym none)
      (exit_fault (e.is_stopped ≡ true) ⊥ ⊥ ⊥ ⊥ ⊥ r x is (same x why))
    where
      same : (y : EngineFault) → IsSyncTaken {T = S} e (Err y) → IsSyncTaken {T = T} e (Err y)
      same Stopped so = so
      same Marked so = so
      same NotTaken so = so
      same NotAMessage so = so
      same (Log z) so = so

-- a sync that was refused
pub failed_sync : {F : Type 0} (e : Parts F) (x : Error) → IsOkOrMemory {T = Unit {0}} (Err x) → IsSyncTaken {T = Unit {0}} e (Err (Log x))
failed_sync e x why = why

-- ---- a compaction

compaction_short : (group index : ℕ) → record_len (compaction group index ∷ []) ≤ 33554432
unfolding record_len
compaction_short group index = lit≤ tt

-- nothing but want of memory keeps its item out of a batch
pub compaction_memory : (old new : batch.Batch) (group index : ℕ) (e : RecordError) → old.items ≡ [] → batch.Logs old (compaction group index) new (Err e) → e ≡ record_error.Memory
compaction_memory old new group index record_error.Memory none logs = refl
compaction_memory old new group index record_error.TooLong none (same, long) =
    absurd (omega (arith, long, compaction_short group index, ap (λ (l : Batch). record_len (l ++ compaction group index ∷ [])) none))
compaction_memory old new group index (record_error.Corruption fault) none logs = absurd logs

-- its batch is not marked, and taken
pub compaction_taken : {F T : Type 0} (S : Type 0) (disk : F → Disk) (e : Parts F) (group index : ℕ) (items : Batch) (r : Result T EngineFault) (x : EngineFault) → items ≡ compaction group index ∷ []
    → IsErrAnd r (λ y. y ≡ x) → IsWriteTaken {T = S} disk e items (Err x) → IsCompactionTaken disk e group index r
compaction_taken {T = T} S disk e group index items r x is told why =
    let all : Batch = compaction group index ∷ [] in
    exit_fault (e.is_stopped ≡ true) ⊥ ⊥ (NeedsFile e.pipes.append all × IsUnnumbered e.pipes.append) (NeedsFile e.pipes.append all × IsUnmade e.pipes.append (disk e.files))
    ((IsFull e.pipes.append × IsBarred e.pipes.append (disk e.files)) ⊎ IsTooLarge e.pipes.append all) r x told
    (by_fault x (subst (λ (l : Batch). IsWriteTaken {T = S} disk e l (Err x)) is why))
  where
    by_fault : (y : EngineFault) → IsWriteTaken {T = S} disk e (compaction group index ∷ []) (Err y) → IsCompactionTaken {T = T} disk e group index (Err y)
    by_fault Stopped so = so
    by_fault Marked so = absurd (false≢true so)
    by_fault NotTaken so = absurd (so (tt, tt))
    by_fault NotAMessage so = so
    by_fault (Log z) so = so

-- want of memory for it
pub compaction_unmade : {F T : Type 0} (disk : F → Disk) (e : Parts F) (group index : ℕ) (r : Result T EngineFault) (x : EngineFault) → IsErrAnd r (λ y. y ≡ x) → x ≡ Log Memory → IsCompactionTaken disk e group index r
compaction_unmade {T = T} disk e group index r x told is =
    let p = err_from_is_err_and r told in subst (λ (q : Result T EngineFault). IsCompactionTaken disk e group index q) (sym (p.1 ∙ ap Err (p.2 ∙ is))) tt
