-- Why a call on a pipe is refused where nothing is set to refuse.
use Rattle.std.specs.Prelude.{◌⊎◌, ℕ, ◌+◌, ◌^◌, ◌<◌, ◌≤◌, List, [], ◌∷◌, ◌++◌, map, Result, Ok, Err, String}
use Rattle.std.specs.String.{string_bytes}
use Rattle.std.specs.declared.alloc.Global.{Global}
use Rattle.raft_log_records.specs.declared.file_id.FileId.{FileId}
use Rattle.raft_log_records.specs.declared.file_id.LogQueue.{LogQueue}
use Rattle.raft_log_records.specs.Spelling.{record_len}
use Rattle.raft_log_disk.specs.Text.{Text}
use Rattle.raft_log_disk.specs.Disk.{Disk, HasDirectory, IsIn, IsNoNewFile}
use Rattle.raft_log_files.specs.FileName.{IsFileSeq, log_file_name}
use Rattle.raft_log_files.specs.declared.error.Error.{Error}
use Rattle.raft_log_files.specs.declared.error.Error.TheVariants.{Io, Corruption, InvalidArgument, TryAgain, Memory, Other, EntryCompacted, EntryNotFound}
use Rattle.raft_log_files.specs.declared.error.OtherFault.TheVariants as other
use Rattle.raft_log_file.specs.Laws.{Batch}
use Rattle.raft_log_pipe.specs.declared.file.File.{File}
use Rattle.raft_log_pipe.specs.declared.file.ReservedFile.{ReservedFile}
use Rattle.raft_log_pipe.specs.declared.pipe.SinglePipe.{SinglePipe}
use Rattle.raft_log_pipe.specs.Alone.{path_in}
use Rattle.raft_log_pipe.specs.Blocks.{IsOutOfSpan}
use Rattle.raft_log_pipe.specs.Pipe.{id_of}
use Rattle.raft_log_pipe.specs.Purging.{IsGone}

-- a call is taken unless memory is missing, no number is left for a file, what it names isn't there, or what it asks for can't be
abbrev pub IsTakenBy : {T : Type 0} → Type 0 → Type 0 → Type 0 → Result T Error → Type 0
IsTakenBy unnumbered absent barred (Ok x) = Unit {0}
IsTakenBy unnumbered absent barred (Err Memory) = Unit {0}
IsTakenBy unnumbered absent barred (Err (Io f)) = barred
IsTakenBy unnumbered absent barred (Err TryAgain) = barred
IsTakenBy unnumbered absent barred (Err (Other other.NoFileNumber)) = unnumbered
IsTakenBy unnumbered absent barred (Err (Other other.FileGone)) = absent
IsTakenBy unnumbered absent barred (Err (Other other.PurgeBelowTarget)) = ⊥
IsTakenBy unnumbered absent barred (Err (Other other.RecycleUnderVersion1)) = ⊥
IsTakenBy unnumbered absent barred (Err (Other other.PrefillWithoutRecycle)) = ⊥
IsTakenBy unnumbered absent barred (Err (Other other.NoTargetSize)) = ⊥
IsTakenBy unnumbered absent barred (Err (Other other.NotADirectory)) = ⊥
IsTakenBy unnumbered absent barred (Err (Other other.NumberOutOfSpan)) = ⊥
IsTakenBy unnumbered absent barred (Err (Corruption f)) = ⊥
IsTakenBy unnumbered absent barred (Err (InvalidArgument f)) = ⊥
IsTakenBy unnumbered absent barred (Err EntryCompacted) = ⊥
IsTakenBy unnumbered absent barred (Err EntryNotFound) = ⊥

-- it is `Ok`, or memory is missing
abbrev pub IsOkOrMemory : {T : Type 0} → Result T Error → Type 0
IsOkOrMemory result = IsTakenBy ⊥ ⊥ ⊥ result

-- ---- a new file

-- the path of a log file in the main directory
abbrev pub main_path : List (String Global) → FileId → Text
main_path [] id = []
main_path (dir ∷ dirs) id = string_bytes dir ++ 47 ∷ log_file_name id

-- where a file goes behind these reserved ones: where the first of them lies, or to the main directory
abbrev pub path_behind : List ReservedFile → List (String Global) → FileId → Text
path_behind [] dirs id = main_path dirs id
path_behind (r ∷ rs) dirs id = path_in (map string_bytes dirs) r.path_id id

-- where a pipe's next file goes
abbrev pub next_path : SinglePipe → Text
next_path p = path_behind p.reserved.items p.paths.items (id_of p.queue (p.active.seq + 1))

-- no number is left for it
abbrev pub IsUnnumbered : SinglePipe → Type 0
IsUnnumbered p = IsFileSeq (p.active.seq + 1) → ⊥

-- the main directory isn't there
abbrev pub IsUnmade : SinglePipe → Disk → Type 0
IsUnmade p d = HasDirectory d.directories (main_path p.paths.items (id_of p.queue (p.active.seq + 1))) → ⊥

-- the file system has no number for it, or a directory has its path
abbrev pub IsBarred : SinglePipe → Disk → Type 0
IsBarred p d = IsNoNewFile d (next_path p)

-- a rotation is taken unless memory is missing or there can be no new file
abbrev pub IsRotationTaken : {T : Type 0} → SinglePipe → Disk → Result T Error → Type 0
IsRotationTaken p d result = IsTakenBy (IsUnnumbered p) (IsUnmade p d) (IsBarred p d) result

-- ---- an append

-- no file has as many bytes as the last one would have with the batch
abbrev pub IsTooLarge : SinglePipe → Batch → Type 0
IsTooLarge p items = 2 ^ 64 ≤ p.writer.offset + record_len items

-- the last file is full
abbrev pub IsFull : SinglePipe → Type 0
IsFull p = p.target_file_size ≤ p.writer.offset

-- the batch needs a new file
abbrev pub NeedsFile : SinglePipe → Batch → Type 0
NeedsFile p items = IsFull p ⊎ IsTooLarge p items

-- an append is taken unless memory is missing, there can be no new file where one has to be begun, or no file has so many bytes
abbrev pub IsAppendTaken : {T : Type 0} → SinglePipe → Disk → Batch → Result T Error → Type 0
IsAppendTaken p d items result =
    IsTakenBy (NeedsFile p items × IsUnnumbered p) (NeedsFile p items × IsUnmade p d) ((IsFull p × IsBarred p d) ⊎ IsTooLarge p items) result

-- ---- a purge

-- a file before a number isn't where its name says
abbrev pub HasLost : SinglePipe → Disk → ℕ → Type 0
HasLost p d seq = (f : File) × IsIn f p.older.items × (f.seq < seq) × IsGone p f d

-- a purge is taken unless memory is missing, no file has the number, or one that is to go isn't there
abbrev pub IsPurgeTaken : {T : Type 0} → SinglePipe → Disk → ℕ → Result T Error → Type 0
IsPurgeTaken p d seq result = IsOutOfSpan p seq ⊎ IsTakenBy ⊥ (HasLost p d seq) ⊥ result

-- ---- the first file of a queue

-- its making is taken unless memory is missing or it can't be made in the main directory
abbrev pub IsCreationTaken : {T : Type 0} → List (String Global) → LogQueue → Disk → Result T Error → Type 0
IsCreationTaken dirs queue d result =
    let path = main_path dirs (id_of queue 1) in
    IsTakenBy ⊥ (HasDirectory d.directories path → ⊥) (IsNoNewFile d path) result
