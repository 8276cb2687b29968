-- Why a call of an engine is refused: each error comes only for its cause.
use Rattle.std.specs.Prelude.{◌≡◌, ◌⊎◌, ℕ, ◌<◌, ◌≤◌, true, [], ◌∷◌, Some}
use Rattle.raft_log_records.specs.declared.file_id.FileBlockHandle.{FileBlockHandle}
use Rattle.raft_log_records.specs.declared.item.EntryIndex.{EntryIndex}
use Rattle.raft_log_disk.specs.Disk.{Disk, HasOneOf, IsIn}
use Rattle.raft_log_disk.specs.Cause.{Meter}
use Rattle.raft_log_files.specs.declared.error.Error.{Error}
use Rattle.raft_log_files.specs.declared.error.DiskRefusal.TheVariants.{Refused}
use Rattle.raft_log_files.specs.declared.error.Error.TheVariants.{Io, Memory, EntryCompacted, EntryNotFound}
use Rattle.raft_log_file.specs.Laws.{Batch}
use Rattle.raft_log_pipe.specs.declared.file.File.{File}
use Rattle.raft_log_pipe.specs.Blocks.{files_of}
use Rattle.raft_log_pipe.specs.Caused.{IsAppendFault, IsRefusalOrMemory}
use Rattle.raft_log_pipes.specs.declared.pipes.DualPipes.{DualPipes}
use Rattle.raft_log_pipes.specs.Pipes.{pipe_of}
use Rattle.raft_log_cleaner.specs.Caused.{IsCleaningFault}
use Rattle.raft_log_memtables.specs.declared.fetch.FetchError.{FetchError}
use Rattle.raft_log_memtables.specs.declared.fetch.FetchError.TheVariants as fetch
use Rattle.raft_log_memtables.specs.Content.{GroupContent}
use Rattle.raft_log_memtables.specs.Fetch.{IsCompacted, IsLacking}
use Rattle.raft_log_engine.specs.Parts.{Parts}
use Rattle.raft_log_engine.specs.Reads.{IsStopped}
use Rattle.raft_log_engine.specs.Taken.{IsMarked, IsNotTaken}
use Rattle.raft_log_engine.specs.declared.fault.EngineFault.{EngineFault}
use Rattle.raft_log_engine.specs.declared.fault.EngineFault.TheVariants.{Log, NotTaken, Marked, NotAMessage, Stopped}

-- the engine is stopped, the batch is refused for one of these reasons, or the log's error has this cause
abbrev pub IsCausedBy : (stopped marked untaken : Type 0) → (Error → Type 0) → EngineFault → Type 0
IsCausedBy stopped marked untaken cause Stopped = stopped
IsCausedBy stopped marked untaken cause Marked = marked
IsCausedBy stopped marked untaken cause NotTaken = untaken
IsCausedBy stopped marked untaken cause NotAMessage = ⊥
IsCausedBy stopped marked untaken cause (Log e) = cause e

-- of a sync
abbrev pub IsSyncFault : {F : Type 0} → Parts F → Meter → Meter → EngineFault → Type 0
IsSyncFault e old new fault = IsCausedBy (e.is_stopped ≡ true) ⊥ ⊥ (IsRefusalOrMemory old new) fault

-- of a write of some items, whose batch is refused for one of these reasons
abbrev pub AreItemsRefused : {F : Type 0} → (F → Disk) → Parts F → (marked untaken : Type 0) → Meter → Meter → EngineFault → Type 0
AreItemsRefused disk e marked untaken old new fault = IsCausedBy (e.is_stopped ≡ true) marked untaken (IsAppendFault e.pipes.append (disk e.files) old new) fault

-- a write of none is a sync
abbrev pub IsWriteFault : {F : Type 0} → (F → Disk) → Parts F → Batch → Meter → Meter → EngineFault → Type 0
IsWriteFault disk e [] old new fault = IsSyncFault e old new fault
IsWriteFault disk e (item ∷ items) old new fault = AreItemsRefused disk e (IsMarked (item ∷ items)) (IsNotTaken e.tables (item ∷ items)) old new fault

-- the batch of a compaction isn't refused
abbrev pub IsCompactionFault : {F : Type 0} → (F → Disk) → Parts F → Meter → Meter → EngineFault → Type 0
IsCompactionFault disk e old new fault = AreItemsRefused disk e ⊥ ⊥ old new fault

-- of a cleaning, where it isn't barred: the sync before it counts, too
abbrev pub IsCleaningCause : (stopped barred : Type 0) → Meter → Meter → EngineFault → Type 0
IsCleaningCause stopped barred old new fault = IsCausedBy stopped barred ⊥ (IsCleaningFault old new) fault

-- ---- reads of entries

-- the file system refuses reads of the file that a block stands in
abbrev pub IsBlockUnread : Disk → DualPipes → Meter → FileBlockHandle → EngineFault → Type 0
IsBlockUnread d p meter h fault =
    (fault ≡ Log (Io Refused)) × ((f : File) × IsIn f (files_of (pipe_of p h.id.queue)) × (f.seq ≡ h.id.seq) × HasOneOf d f.handle.0 meter.unreadable)

-- memory is missing, or the block is so
abbrev pub IsUnread : Disk → DualPipes → Meter → FileBlockHandle → EngineFault → Type 0
IsUnread d p meter h fault = (fault ≡ Log Memory) ⊎ IsBlockUnread d p meter h fault

-- memory is missing, or the block of the entry is so
abbrev pub IsCopyFault : Disk → DualPipes → Meter → EntryIndex → EngineFault → Type 0
IsCopyFault d p meter e fault = (fault ≡ Log Memory) ⊎ ((h : FileBlockHandle) × (e.entries ≡ Some h) × IsBlockUnread d p meter h fault)

-- a group has an entry with this index, and it isn't read
abbrev pub IsEntryFault : {F : Type 0} → (F → Disk) → (F → Meter) → Parts F → GroupContent EntryIndex → ℕ → EngineFault → Type 0
IsEntryFault disk meter e group index fault = (place : EntryIndex) × (group.entry index ≡ Some place) × IsCopyFault (disk e.files) e.pipes (meter e.files) place fault

-- why the entry of a group with this index isn't read: no other entry is the cause, and no block is `Corruption`
abbrev pub IsGetFault : {F : Type 0} → (F → Disk) → (F → Meter) → Parts F → GroupContent EntryIndex → ℕ → EngineFault → Type 0
IsGetFault disk meter e group index fault = IsStopped e.is_stopped fault ⊎ IsEntryFault disk meter e group index fault

-- one of the entries of a range isn't read
abbrev pub IsRangeFault : {F : Type 0} → (F → Disk) → (F → Meter) → Parts F → GroupContent EntryIndex → ℕ → ℕ → EngineFault → Type 0
IsRangeFault disk meter e group begin end fault = (index : ℕ) × (begin ≤ index) × (index < end) × IsEntryFault disk meter e group index fault

-- why entries from an index on aren't fetched: they begin before the first one, one of them is lacking, or one of them isn't read
abbrev pub IsFetchFault : {F : Type 0} → (F → Disk) → (F → Meter) → Parts F → GroupContent EntryIndex → ℕ → ℕ → EngineFault → Type 0
IsFetchFault disk meter e group begin end fault =
    ((fault ≡ Log EntryCompacted) × IsCompacted group.entry begin) ⊎ (((fault ≡ Log EntryNotFound) × IsLacking group.entry begin end)
    ⊎ (IsStopped e.is_stopped fault ⊎ ((fault ≡ Log Memory) ⊎ IsRangeFault disk meter e group begin end fault)))

-- what a refusal of the tables is told as
abbrev pub fetch_fault : FetchError → EngineFault
fetch_fault fetch.Memory = Log Memory
fetch_fault fetch.EntryCompacted = Log EntryCompacted
fetch_fault fetch.EntryNotFound = Log EntryNotFound
