-- What an append makes of a pipe.
use Rattle.std.specs.Prelude.{◌≡◌, ◌⊎◌, ℕ, [], ◌∷◌, ◌++◌, length}
use Rattle.raft_log_records.specs.declared.file_id.FileBlockHandle.{FileBlockHandle}
use Rattle.raft_log_records.specs.Signature.{signature_of}
use Rattle.raft_log_records.specs.Spelling.{spell_record}
use Rattle.raft_log_disk.specs.Disk.{Disk}
use Rattle.raft_log_file.specs.Laws.{Batch}
use Rattle.raft_log_pipe.specs.declared.pipe.SinglePipe.{SinglePipe}
use Rattle.raft_log_pipe.specs.Blocks.{IsRecordOf}
use Rattle.raft_log_pipe.specs.Pipe.{Holds, Leaves, Numbered, id_of}

-- the handle of a batch that goes behind the last one
pub record IsHandle (p : SinglePipe) (items : Batch) (h : FileBlockHandle) : Type 0 where
  pub id : h.id ≡ id_of p.queue p.active.seq
  pub offset : h.offset ≡ p.writer.offset
  pub len : h.len ≡ length (spell_record (signature_of p.active.format.version p.active.seq) items)

-- the batches of a file number more, the last of all. Those that were there before are on the disk if a new file was begun
abbrev pub Appends : SinglePipe → Disk → SinglePipe → Disk → ℕ → Batch → Type 0
Appends old d new d1 seq items = (synced unsynced : Numbered) → Holds old d synced unsynced
    → Holds new d1 synced (unsynced ++ (seq, items) ∷ []) ⊎ Holds new d1 (synced ++ unsynced) ((seq, items) ∷ [])

-- after an append that was refused a crash leaves the batches of before, or these and the new one, in a file of some number
abbrev pub LeavesAppended : SinglePipe → Disk → Numbered → Numbered → Batch → Type 0
LeavesAppended p d synced unsynced items = (seq : ℕ) × Leaves p d synced (unsynced ++ (seq, items) ∷ [])

-- the handle is that of the batch, behind all that were there before
abbrev pub Stands : SinglePipe → Disk → SinglePipe → Batch → FileBlockHandle → Type 0
Stands old d new items h = (synced unsynced : Numbered) → Holds old d synced unsynced → IsRecordOf new.queue new.active (synced ++ unsynced) items h
