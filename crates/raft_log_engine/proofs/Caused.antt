-- Why calls of an engine are refused: errors and their causes.
use Rattle.std.proofs.Common.{◌≡◌, ◌⊎◌, inl, inr, ℕ, ◌<◌, ◌≤◌, Bool, true, false, [], ◌∷◌, List, Option, Some, refl, sym, ap, subst, arith}
use Rattle.std.specs.Prelude.{Contains, Result, Ok, Err, IfErr}
use Rattle.std.proofs.lemmas.Bool.{false≢true}
use Rattle.raft_log_records.specs.declared.file_id.FileBlockHandle.{FileBlockHandle}
use Rattle.raft_log_records.specs.declared.item.EntryIndex.{EntryIndex}
use Rattle.raft_log_disk.specs.Disk.{Disk}
use Rattle.raft_log_disk.specs.Cause.{Meter}
use Rattle.raft_log_files.specs.declared.error.Error.{Error}
use Rattle.raft_log_files.specs.declared.error.Error.TheVariants.{Io, Corruption, InvalidArgument, TryAgain, Memory, Other, EntryCompacted, EntryNotFound}
use Rattle.raft_log_file.specs.Laws.{Batch}
use Rattle.raft_log_pipe.specs.Caused.{IsAppendFault}
use Rattle.raft_log_pipes.specs.declared.pipes.DualPipes.{DualPipes}
use Rattle.raft_log_memtables.specs.declared.fetch.FetchError.{FetchError}
use Rattle.raft_log_memtables.specs.declared.fetch.FetchError.TheVariants as fetch
use Rattle.raft_log_memtables.specs.declared.memtables.MemTables.{MemTables}
use Rattle.raft_log_memtables.specs.Content.{GroupContent}
use Rattle.raft_log_memtables.specs.Fetch.{Fetches}
use Rattle.raft_log_engine.specs.Caused.{IsCausedBy, IsCleaningCause, IsCompactionFault, IsCopyFault, IsFetchFault, IsSyncFault, IsUnread, IsWriteFault, fetch_fault}
use Rattle.raft_log_blocks.specs.Unread.{IsUnread as IsUnreadFor}
use Rattle.raft_log_engine.specs.Parts.{Parts}
use Rattle.raft_log_engine.specs.Reads.{compaction}
use Rattle.raft_log_engine.specs.Taken.{IsMarked, IsNotTaken, IsRefusedBatch}
use Rattle.raft_log_engine.specs.declared.fault.EngineFault.{EngineFault}
use Rattle.raft_log_engine.specs.declared.fault.EngineFault.TheVariants.{Log, NotTaken, Marked, NotAMessage, Stopped}

-- ---- a block that isn't read

pub log_unread : (d : Disk) (p : DualPipes) (m : Meter) (h : FileBlockHandle) (x : Error) → IsUnreadFor d p m h x → IsUnread d p m h (Log x)
log_unread d p m h x (inl memory) = inl (ap Log memory)
log_unread d p m h x (inr (is, there)) = inr (ap Log is, there)

-- ---- writes

refused_first : (s : Type 0) (cause : Error → Type 0) (tables : MemTables) (items : Batch) (x : EngineFault) → cause Memory → IsRefusedBatch tables items x → IsCausedBy s (IsMarked items) (IsNotTaken tables items) cause x
refused_first s cause tables items Marked memory why = why
refused_first s cause tables items NotTaken memory why = why
refused_first s cause tables items NotAMessage memory why = absurd why
refused_first s cause tables items Stopped memory why = absurd why
refused_first s cause tables items (Log Memory) memory why = memory
refused_first s cause tables items (Log (Io f)) memory why = absurd why
refused_first s cause tables items (Log (Corruption f)) memory why = absurd why
refused_first s cause tables items (Log (InvalidArgument f)) memory why = absurd why
refused_first s cause tables items (Log TryAgain) memory why = absurd why
refused_first s cause tables items (Log (Other f)) memory why = absurd why
refused_first s cause tables items (Log EntryCompacted) memory why = absurd why
refused_first s cause tables items (Log EntryNotFound) memory why = absurd why

module _ {F : Type 0} (disk : F → Disk) (e : Parts F) (items : Batch) (old new : Meter) where
  pub stopped_cause : e.is_stopped ≡ true → IsWriteFault disk e items old new Stopped
  stopped_cause is = by_items items
    where
      by_items : (more : Batch) → IsWriteFault disk e more old new Stopped
      by_items [] = is
      by_items (item ∷ more) = is

  -- a batch that is refused before it is written
  pub refused_cause : (items ≡ [] → ⊥) → (x : EngineFault) → IsRefusedBatch e.tables items x → IsWriteFault disk e items old new x
  refused_cause some x why = by_items items some why
    where
      by_items : (more : Batch) → (more ≡ [] → ⊥) → IsRefusedBatch e.tables more x → IsWriteFault disk e more old new x
      by_items [] none so = absurd (none refl)
      by_items (item ∷ more) none so = refused_first (e.is_stopped ≡ true) (IsAppendFault e.pipes.append (disk e.files) old new) e.tables (item ∷ more) x tt so

  -- an append that was refused
  pub failed_cause : (items ≡ [] → ⊥) → (x : Error) → IsAppendFault e.pipes.append (disk e.files) old new x → IsWriteFault disk e items old new (Log x)
  failed_cause some x why = by_items items some
    where
      by_items : (more : Batch) → (more ≡ [] → ⊥) → IsWriteFault disk e more old new (Log x)
      by_items [] none = absurd (none refl)
      by_items (item ∷ more) none = why

  -- want of memory behind it
  pub unapplied_cause : (y : EngineFault) → y ≡ Log Memory → IsWriteFault disk e items old new y
  unapplied_cause y is = subst (λ (z : EngineFault). IsWriteFault disk e items old new z) (sym is) (by_items items)
    where
      by_items : (more : Batch) → IsWriteFault disk e more old new (Log Memory)
      by_items [] = tt
      by_items (item ∷ more) = tt

  -- a sync of an empty batch
  pub synced_cause : items ≡ [] → (x : EngineFault) → IsSyncFault e old new x → IsWriteFault disk e items old new x
  synced_cause none x why = subst (λ (more : Batch). IsWriteFault disk e more old new x) (sym none) why

  -- the batch of a compaction is not marked, and taken
  pub compaction_cause : (group index : ℕ) → items ≡ compaction group index ∷ [] → (x : EngineFault) → IsWriteFault disk e items old new x → IsCompactionFault disk e old new x
  compaction_cause group index is x why = by_fault x (subst (λ (l : Batch). IsWriteFault disk e l old new x) is why)
    where
      by_fault : (y : EngineFault) → IsWriteFault disk e (compaction group index ∷ []) old new y → IsCompactionFault disk e old new y
      by_fault Stopped so = so
      by_fault Marked so = absurd (false≢true so)
      by_fault NotTaken so = absurd (so (tt, tt))
      by_fault NotAMessage so = so
      by_fault (Log z) so = so

-- want of memory for it
pub compaction_memory_cause : {F : Type 0} (disk : F → Disk) (e : Parts F) (old new : Meter) (x : EngineFault) → x ≡ Log Memory → IsCompactionFault disk e old new x
compaction_memory_cause disk e old new x is = subst (λ (z : EngineFault). IsCompactionFault disk e old new z) (sym is) tt

-- ---- cleanings

-- a fault that isn't `Marked` has its cause, whatever bars a cleaning
pub unmarked_cause : (stopped barred : Type 0) (old new : Meter) (fault : EngineFault) → (fault ≡ Marked → ⊥) → IsCleaningCause stopped barred old new fault → IsCleaningCause stopped ⊥ old new fault
unmarked_cause stopped barred old new Stopped other why = why
unmarked_cause stopped barred old new Marked other why = other refl
unmarked_cause stopped barred old new NotTaken other why = why
unmarked_cause stopped barred old new NotAMessage other why = why
unmarked_cause stopped barred old new (Log e) other why = why

-- ---- reads of entries

-- one of the entries isn't read
pub copied_fault : (d : Disk) (p : DualPipes) (m : Meter) (places : List EntryIndex) (place : EntryIndex) (fault : EngineFault) → Contains places place → IsCopyFault d p m place fault
    → (fault ≡ Log Memory) ⊎ ((x : EntryIndex) × Contains places x × IsCopyFault d p m x fault)
copied_fault d p m places place fault there why = inr (place, there, why)

module _ {F : Type 0} (disk : F → Disk) (meter : F → Meter) (e : Parts F) (group : GroupContent EntryIndex) (begin end : ℕ) where
  pub copies_fault : {T : Type 0} (result : Result T EngineFault) (places : List EntryIndex) → ((x : EntryIndex) → Contains places x → (index : ℕ) × (begin ≤ index) × (index < end) × (group.entry index ≡ Some x))
      → IfErr result (λ fault. (fault ≡ Log Memory) ⊎ ((x : EntryIndex) × Contains places x × IsCopyFault (disk e.files) e.pipes (meter e.files) x fault)) → IfErr result (λ fault. IsFetchFault disk meter e group begin end fault)
  copies_fault (Ok x) places there why = tt
  copies_fault (Err y) places there (inl memory) = inr (inr (inr (inl memory)))
  copies_fault (Err y) places there (inr (x, among, why)) = let at = there x among in inr (inr (inr (inr (at.0, at.1, at.2, (x, at.3, why)))))

  -- the range isn't that of entries
  pub range_fault : (size : Option ℕ) (x : FetchError) (fault : EngineFault) → fault ≡ fetch_fault x → (group.there ≡ true → begin < end → Fetches group.entry begin end size (Err x)) → (end ≤ begin → ⊥) → (group.there ≡ false → ⊥)
      → IsFetchFault disk meter e group begin end fault
  range_fault size x fault is some none known = by_error x is (some (is_there group.there refl) (omega (arith, λ (h : end ≤ begin). none h)))
    where
      is_there : (b : Bool) → group.there ≡ b → group.there ≡ true
      is_there true same = same
      is_there false same = absurd (known same)

      by_error : (y : FetchError) → fault ≡ fetch_fault y → Fetches group.entry begin end size (Err y) → IsFetchFault disk meter e group begin end fault
      by_error fetch.Memory told why = inr (inr (inr (inl told)))
      by_error fetch.EntryCompacted told why = inl (told, why)
      by_error fetch.EntryNotFound told why = inr (inl (told, why.1))
