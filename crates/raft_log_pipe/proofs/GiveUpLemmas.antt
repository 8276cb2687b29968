-- What a second append without space leaves.
use Rattle.std.proofs.Common.{[], ◌∷◌, ◌++◌}
use Rattle.raft_log_disk.specs.Disk.{Disk}
use Rattle.raft_log_file.specs.Laws.{Batch}
use Rattle.raft_log_pipe.specs.declared.pipe.SinglePipe.{SinglePipe}
use Rattle.raft_log_pipe.specs.Appending.{LeavesAppended}
use Rattle.raft_log_pipe.specs.Pipe.{Numbered, Holds, Leaves}
use Rattle.raft_log_pipe.proofs.PipeLemmas.{holds_leaves}
use Rattle.raft_log_pipe.proofs.ExitLemmas.{leaves_all, unput_from}

-- the pipe went on with a new file
pub ended_leaves : (old new : SinglePipe) (d e : Disk) → ((s u : Numbered) → Holds old d s u → Holds new e (s ++ u) []) → (s u : Numbered) → Holds old d s u → Leaves new e s u
ended_leaves old new d e all s u h = leaves_all new.queue (new.older.items ++ new.active ∷ []) e s u (holds_leaves new.queue new.older.items new.active new.writer.offset e (s ++ u) [] (all s u h))

-- nothing of the batch was written
pub given_up : (old p q new : SinglePipe) (d b e g : Disk) (items : Batch) → ((s u : Numbered) → Holds old d s u → Holds p b (s ++ u) []) → ((s u : Numbered) → Holds p b s u → Holds q e s u)
    → ((s u : Numbered) → Holds q e s u → Leaves new g s u) → (s u : Numbered) → Holds old d s u → LeavesAppended new g s u items
given_up old p q new d b e g items all unwritten leaves =
    unput_from old new d g items (λ s u h. leaves_all new.queue (new.older.items ++ new.active ∷ []) g s u (leaves (s ++ u) [] (unwritten (s ++ u) [] (all s u h))))
