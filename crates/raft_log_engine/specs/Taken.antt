-- Why a write or a sync is refused where nothing is set to refuse.
use Rattle.std.specs.Prelude.{◌≡◌, ◌⊎◌, ℕ, true, [], ◌∷◌, Result, Ok, Err}
use Rattle.std.specs.List.{list_any}
use Rattle.raft_log_records.specs.Places.{placed}
use Rattle.raft_log_records.specs.Spelling.{holds_mark}
use Rattle.raft_log_disk.specs.Disk.{Disk}
use Rattle.raft_log_files.specs.declared.error.Error.TheVariants.{Io, Corruption, InvalidArgument, TryAgain, Memory, Other, EntryCompacted, EntryNotFound}
use Rattle.raft_log_file.specs.Laws.{Batch}
use Rattle.raft_log_pipe.specs.Taken.{IsBarred, IsFull, IsTakenBy, IsTooLarge, IsUnmade, IsUnnumbered, NeedsFile}
use Rattle.raft_log_memtables.specs.declared.memtables.MemTables.{MemTables}
use Rattle.raft_log_memtables.specs.MemTables.{content_in}
use Rattle.raft_log_memtables.specs.Taken.{TakesEach}
use Rattle.raft_log_engine.specs.Parts.{Parts}
use Rattle.raft_log_engine.specs.Reads.{compaction}
use Rattle.raft_log_engine.specs.declared.fault.EngineFault.{EngineFault}
use Rattle.raft_log_engine.specs.declared.fault.EngineFault.TheVariants.{Log, NotTaken, Marked, NotAMessage, Stopped}

-- the batch belongs to an atomic group
abbrev pub IsMarked : Batch → Type 0
IsMarked items = list_any holds_mark items ≡ true

-- its entries don't fit the lists of their groups
abbrev pub IsNotTaken : MemTables → Batch → Type 0
IsNotTaken tables items = TakesEach (placed 0 items) (content_in tables) → ⊥

-- why a batch is refused before it is written
abbrev pub IsRefusedBatch : MemTables → Batch → EngineFault → Type 0
IsRefusedBatch tables items Marked = IsMarked items
IsRefusedBatch tables items NotTaken = IsNotTaken tables items
IsRefusedBatch tables items NotAMessage = ⊥
IsRefusedBatch tables items Stopped = ⊥
IsRefusedBatch tables items (Log Memory) = Unit {0}
IsRefusedBatch tables items (Log (Io f)) = ⊥
IsRefusedBatch tables items (Log (Corruption f)) = ⊥
IsRefusedBatch tables items (Log (InvalidArgument f)) = ⊥
IsRefusedBatch tables items (Log TryAgain) = ⊥
IsRefusedBatch tables items (Log (Other f)) = ⊥
IsRefusedBatch tables items (Log EntryCompacted) = ⊥
IsRefusedBatch tables items (Log EntryNotFound) = ⊥

-- a call is taken unless the engine is stopped, the batch is refused, or the pipe's calls aren't taken
abbrev pub IsTakenUnless : {T : Type 0} → Type 0 → Type 0 → Type 0 → Type 0 → Type 0 → Type 0 → Result T EngineFault → Type 0
IsTakenUnless stopped marked untaken unnumbered absent barred (Ok x) = Unit {0}
IsTakenUnless stopped marked untaken unnumbered absent barred (Err Stopped) = stopped
IsTakenUnless stopped marked untaken unnumbered absent barred (Err Marked) = marked
IsTakenUnless stopped marked untaken unnumbered absent barred (Err NotTaken) = untaken
IsTakenUnless stopped marked untaken unnumbered absent barred (Err NotAMessage) = ⊥
IsTakenUnless stopped marked untaken unnumbered absent barred (Err (Log e)) = IsTakenBy {T = Unit {0}} unnumbered absent barred (Err e)

-- it is `Ok`, or memory is missing, or the engine is stopped
abbrev pub IsSyncTaken : {F T : Type 0} → Parts F → Result T EngineFault → Type 0
IsSyncTaken e result = IsTakenUnless (e.is_stopped ≡ true) ⊥ ⊥ ⊥ ⊥ ⊥ result

-- a write of some items is taken unless the engine is stopped, the batch is refused for one of these reasons, or its append
abbrev pub AreItemsTaken : {F T : Type 0} → (F → Disk) → Parts F → Batch → Type 0 → Type 0 → Result T EngineFault → Type 0
AreItemsTaken disk e items marked untaken result =
    IsTakenUnless (e.is_stopped ≡ true) marked untaken
    (NeedsFile e.pipes.append items × IsUnnumbered e.pipes.append)
    (NeedsFile e.pipes.append items × IsUnmade e.pipes.append (disk e.files))
    ((IsFull e.pipes.append × IsBarred e.pipes.append (disk e.files)) ⊎ IsTooLarge e.pipes.append items) result

-- a write of none is a sync
abbrev pub IsWriteTaken : {F T : Type 0} → (F → Disk) → Parts F → Batch → Result T EngineFault → Type 0
IsWriteTaken disk e [] result = IsSyncTaken e result
IsWriteTaken disk e (item ∷ items) result = AreItemsTaken disk e (item ∷ items) (IsMarked (item ∷ items)) (IsNotTaken e.tables (item ∷ items)) result

-- the batch of a compaction isn't refused
abbrev pub IsCompactionTaken : {F T : Type 0} → (F → Disk) → Parts F → ℕ → ℕ → Result T EngineFault → Type 0
IsCompactionTaken disk e group index result = AreItemsTaken disk e (compaction group index ∷ []) ⊥ ⊥ result
