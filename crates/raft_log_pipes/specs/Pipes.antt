-- The pipes of both queues over one disk.
use Rattle.std.specs.Prelude.{◌≡◌}
use Rattle.raft_log_records.specs.declared.file_id.LogQueue.{LogQueue}
use Rattle.raft_log_records.specs.declared.file_id.LogQueue.TheVariants.{Append, Rewrite}
use Rattle.raft_log_disk.specs.Disk.{Disk}
use Rattle.raft_log_pipe.specs.declared.pipe.SinglePipe.{SinglePipe}
use Rattle.raft_log_pipe.specs.Alone.{IsAlone}
use Rattle.raft_log_pipe.specs.Pipe.{Holds, IsPipe, Numbered}
use Rattle.raft_log_pipes.specs.declared.pipes.DualPipes.{DualPipes}

-- the pipe of a queue
abbrev pub pipe_of : DualPipes → LogQueue → SinglePipe
pipe_of p Append = p.append
pipe_of p Rewrite = p.rewrite

abbrev pub other_queue : LogQueue → LogQueue
other_queue Append = Rewrite
other_queue Rewrite = Append

-- Both can be used
pub record ArePipes (p : DualPipes) (d : Disk) : Type 0 where
  pub append : IsPipe p.append d
  pub rewrite : IsPipe p.rewrite d

-- A pipe whose files stayed: it can be used if it could, holds what it held, and its files are the last ones of its queue if
-- they were
pub record IsAsBefore (old : SinglePipe) (d : Disk) (new : SinglePipe) (e : Disk) : Type 0 where
  pub same : new ≡ old
  pub usable : IsPipe old d → IsPipe new e
  pub holds : (synced unsynced : Numbered) → Holds old d synced unsynced → Holds new e synced unsynced
  pub alone : IsAlone old d → IsAlone new e
