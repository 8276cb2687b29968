-- What a call on one of two pipes makes of that pipe: what the same call on a single pipe does.
use Rattle.std.specs.Prelude.{◌≡◌, ℕ, ◌+◌, ◌^◌, ◌<◌, ◌≤◌, ◌∷◌, [], ◌++◌, length, max, Result, IfOk, IfErr, OnOk, OnErr, IsErr, IsErrOf, Vec}
use Rattle.std.specs.declared.alloc.Global.{Global}
use Rattle.raft_log_records.specs.declared.file_id.FileBlockHandle.{FileBlockHandle}
use Rattle.raft_log_records.specs.Spelling.{record_len}
use Rattle.raft_log_disk.specs.Cause.{Meter}
use Rattle.raft_log_disk.specs.Disk.{Disk}
use Rattle.raft_log_files.specs.declared.error.Error.{Error}
use Rattle.raft_log_files.specs.declared.error.Error.TheVariants.{Other}
use Rattle.raft_log_files.specs.declared.error.OtherFault.TheVariants.{NumberOutOfSpan}
use Rattle.raft_log_file.specs.Laws.{Batch}
use Rattle.raft_log_pipe.specs.declared.pipe.SinglePipe.{SinglePipe}
use Rattle.raft_log_pipe.specs.Alone.{IsAlone, IsNearlyAlone}
use Rattle.raft_log_pipe.specs.Appending.{Appends, LeavesAppended, Stands}
use Rattle.raft_log_pipe.specs.Blocks.{AreOfBlock, AreOfFile, IsBlockFault, IsOutOfSpan, KeepsFiles}
use Rattle.raft_log_pipe.specs.Next.{TakesFirst}
use Rattle.raft_log_pipe.specs.Pipe.{Holds, IsPipe, Leaves, Numbered, first_of}
use Rattle.raft_log_pipe.specs.Torn.{TearsAtEnd}
use Rattle.raft_log_pipe.specs.Prepared.{IsFrontOf}
use Rattle.raft_log_pipe.specs.Purging.{AreGone, AreKeptIfCan, AreLastOf, HoldsRest, KeepsFrom, StandsFrom, room_from}

-- the bytes of a block of this pipe, or why there are none
pub record IsReadOf (p : SinglePipe) (d : Disk) (meter : Meter) (handle : FileBlockHandle) (result : Result (Vec ℕ Global) Error) : Type 0 where
  pub file : IfOk result (λ v. AreOfFile p d handle v.items)
  pub block : IfOk result (λ v. AreOfBlock p d handle v.items)
  pub out : IsOutOfSpan p handle.id.seq → IsErr result
  pub err : IfErr result (λ e. IsBlockFault p d meter handle e)

-- the batch was appended, or a crash leaves the batches on the disk and a front of the others with it
pub record IsAppendOf (old : SinglePipe) (d : Disk) (new : SinglePipe) (e : Disk) (items : Batch) (result : Result FileBlockHandle Error) : Type 0 where
  pub pipe : OnOk result (IsPipe new e)
  pub paths : new.paths ≡ old.paths
  pub alone : OnOk result (IsAlone old d → IsAlone new e)
  pub nearly : OnErr result (IsAlone old d → IsNearlyAlone new e)
  pub files : OnOk result (KeepsFiles old new)
  pub first : OnOk result (first_of new ≡ first_of old)
  pub ok : IfOk result (λ h. Appends old d new e h.id.seq items)
  pub stands : IfOk result (Stands old d new items)
  pub fits : IfOk result (λ h. h.offset + record_len items < 2 ^ 64)
  pub err : OnErr result ((synced unsynced : Numbered) → Holds old d synced unsynced → LeavesAppended new e synced unsynced items)
  pub torn : OnErr result (TearsAtEnd old d new e)

-- all that was appended is on the disk, or nothing changed
pub record IsSyncOf (old : SinglePipe) (d : Disk) (new : SinglePipe) (e : Disk) (result : Result (Unit {0}) Error) : Type 0 where
  pub pipe : IsPipe new e
  pub same : (new.active ≡ old.active) × (new.older ≡ old.older)
  pub paths : new.paths ≡ old.paths
  pub names : e.names ≡ d.names
  pub ok : OnOk result ((synced unsynced : Numbered) → Holds old d synced unsynced → Holds new e (synced ++ unsynced) [])
  pub err : OnErr result ((synced unsynced : Numbered) → Holds old d synced unsynced → Holds new e synced unsynced)

-- the last file was cut and synced, or each batch stays as it was
pub record IsCloseOf (old : SinglePipe) (d : Disk) (new : SinglePipe) (e : Disk) (result : Result (Unit {0}) Error) : Type 0 where
  pub pipe : IsPipe new e
  pub same : (new.active ≡ old.active) × (new.older ≡ old.older)
  pub paths : new.paths ≡ old.paths
  pub names : e.names ≡ d.names
  pub ok : OnOk result ((synced unsynced : Numbered) → Holds old d synced unsynced → Holds new e (synced ++ unsynced) [])
  pub err : OnErr result ((synced unsynced : Numbered) → Holds old d synced unsynced → Holds new e synced unsynced)

-- a file goes on, the first reserved one where there is one, or a crash leaves what it would have left before
pub record IsRotationOf (old : SinglePipe) (d : Disk) (new : SinglePipe) (e : Disk) (result : Result (Unit {0}) Error) : Type 0 where
  pub pipe : OnOk result (IsPipe new e)
  pub next : OnOk result ((new.active.seq ≡ old.active.seq + 1) × (new.older.items ≡ old.older.items ++ old.active ∷ []))
  pub takes : OnOk result (TakesFirst old.reserved.items old d new.reserved.items new.active e)
  pub paths : new.paths ≡ old.paths
  pub alone : OnOk result (IsAlone old d → IsAlone new e)
  pub nearly : OnErr result (IsAlone old d → IsNearlyAlone new e)
  pub ok : OnOk result ((synced unsynced : Numbered) → Holds old d synced unsynced → Holds new e (synced ++ unsynced) [])
  pub err : OnErr result ((synced unsynced : Numbered) → Holds old d synced unsynced → Leaves new e synced unsynced)
  pub torn : OnErr result (TearsAtEnd old d new e)

-- files before a number went, the first ones first, and the batches of the others stay
pub record IsPurgeOf (old : SinglePipe) (d : Disk) (new : SinglePipe) (e : Disk) (seq : ℕ) (result : Result ℕ Error) : Type 0 where
  pub pipe : IsPipe new e
  pub same : new.active ≡ old.active
  pub ok : IfOk result (λ n. (first_of new ≡ seq) × (first_of old + n ≡ seq))
  pub out : IsOutOfSpan old seq → IsErrOf result (Other NumberOutOfSpan) × (new ≡ old) × (e ≡ d)
  pub within : IsErrOf result (Other NumberOutOfSpan) → IsOutOfSpan old seq
  pub bound : (first_of old ≤ first_of new) × (first_of old ≤ seq → first_of new ≤ seq)
  pub rest : AreLastOf old.older.items new.older.items
  pub gone : OnOk result (AreGone old new e)
  pub holds : HoldsRest old d new e
  pub keeps : KeepsFrom old.queue (first_of new) d e
  pub paths : new.paths ≡ old.paths
  pub front : IsFrontOf old.reserved.items new.reserved.items
  pub room : length new.reserved.items ≤ max (length old.reserved.items) (room_from old seq)
  pub kept : OnOk result (AreKeptIfCan old d new e (room_from old seq))
  pub alone : OnOk result (IsAlone old d → IsAlone new e)
  pub stands : OnErr result (StandsFrom old d new e)
