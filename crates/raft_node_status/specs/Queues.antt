-- How many files a log has, and how many bytes they take.
use Rattle.std.specs.Prelude.{◌≡◌, ℕ, ◌+◌, ◌-◌, ◌^◌, List, ◌++◌, length, min, codes}
use Rattle.std.specs.Fmt.{decimal}
use Rattle.raft_log_engine.specs.Reads.{used_by}
use Rattle.raft_log_pipe.specs.Pipe.{AreConsecutive, first_of}
use Rattle.raft_log_pipes.specs.declared.pipes.DualPipes.{DualPipes}
use Rattle.raft_log_pipes.specs.Pipes.{pipe_of}
use Rattle.raft_log_records.specs.declared.file_id.LogQueue.{LogQueue}
use Rattle.raft_node_status.specs.declared.queues.LogStatus.{LogStatus}
use Rattle.raft_node_status.specs.declared.queues.QueueStatus.{QueueStatus}

-- the files of a queue: those before the one that is written, and that one
abbrev pub files_in : DualPipes → LogQueue → ℕ
files_in p queue = min (length (pipe_of p queue).older.items + 1) (2 ^ 64 - 1)

-- the numbers from a queue's first file to its last
abbrev pub numbers_in : DualPipes → LogQueue → ℕ
numbers_in p queue = min ((pipe_of p queue).active.seq - first_of (pipe_of p queue) + 1) (2 ^ 64 - 1)

-- The status of a queue. The numbers of an engine's files follow one another, so each counts one file
pub record IsQueueStatus (p : DualPipes) (queue : LogQueue) (told : QueueStatus) : Type 0 where
  pub numbers : told.files ≡ numbers_in p queue
  pub files : AreConsecutive (pipe_of p queue).older.items (pipe_of p queue).active.seq → told.files ≡ files_in p queue
  pub bytes : told.bytes ≡ used_by p queue

-- a queue with its name before it
abbrev pub queue_text : List ℕ → QueueStatus → List ℕ
queue_text name queue = codes " " ++ (name ++ (codes " " ++ (decimal queue.files ++ (codes " " ++ decimal queue.bytes))))

-- both queues
abbrev pub queues_text : LogStatus → List ℕ
queues_text log = queue_text (codes "append") log.append ++ queue_text (codes "rewrite") log.rewrite
