-- The rewrite queue while it is written anew, from step to step.
use Rattle.std.specs.Prelude.{ℕ, List, ◌++◌, Result, OnOk, OnErr}
use Rattle.raft_log_disk.specs.Disk.{Disk}
use Rattle.raft_log_file.specs.Laws.{Batch}
use Rattle.raft_log_pipes.specs.declared.pipes.DualPipes.{DualPipes}
use Rattle.raft_log_pipes.specs.Pipes.{IsAsBefore}
use Rattle.raft_log_memtables.specs.Content.{Content}
use Rattle.raft_log_memtables.specs.Laws.{all_of}
use Rattle.raft_log_covers.specs.Written.{Written, all_records}
use Rattle.raft_log_traces.specs.GroupTraces.{traces_in}
use Rattle.raft_log_traced.specs.declared.traced.TracedTables.{TracedTables}
use Rattle.raft_log_cleaner.specs.Cleaning.{LeavesContent}
use Rattle.raft_log_cleaner.specs.Pipes.{KeepsPipes, LeavesPipes}
use Rattle.raft_log_rewriter.specs.declared.writer.Writer.{Writer}
use Rattle.raft_log_rewriter.specs.Standing.{Stands}
use Rattle.raft_log_rewriter.specs.Parts.{AreAmong, AreStored, HasId, HasParts, IsPart, Open, Stage, unended_of}

-- How far it has come: what is being written, and the groups that were.
pub record Progress : Type 0 where
  pub stage : Stage
  pub done : List ℕ

abbrev pub at : Stage → List ℕ → Progress
at stage done = record { stage = stage; done = done }

-- What stands in the queue, and what is in the batch that is written next, are whole groups and a part of one.
pub record IsRewriting (d : Disk) (p : DualPipes) (log : TracedTables) (w : Writer) (next : ℕ) (progress : Progress) (content : Content (List ℕ)) : Type 0 where
  pub ws : List (Written (List ℕ))
  pub open_group : Open
  pub part : Batch
  pub stands : Stands d p log next (ws ++ unended_of open_group) content
  pub id : HasId open_group w.group
  pub parts : HasParts content (traces_in log.traces) ws open_group w.batch.items part
  pub stored : AreStored content (traces_in log.traces) w.batch.items
  pub is_part : IsPart content progress.stage part
  pub among : AreAmong content (traces_in log.traces) (all_of (all_records (ws ++ unended_of open_group)) ++ w.batch.items) progress.done

-- so it is for some content
pub record IsRewritingSome (d : Disk) (p : DualPipes) (log : TracedTables) (w : Writer) (stage : Stage) : Type 0 where
  pub next : ℕ
  pub done : List ℕ
  pub content : Content (List ℕ)
  pub state : IsRewriting d p log w next (at stage done) content

-- A step: after Ok it has come further, with the same content. After Err whatever a crash leaves reads as it. The append queue stays as
-- it is, and both pipes are kept beside their batches
pub record GoesOn {X E : Type 0} (d : Disk) (p : DualPipes) (log : TracedTables) (w : Writer) (from : List ℕ → Progress)
    (e : Disk) (q : DualPipes) (new : TracedTables) (v : Writer) (to : List ℕ → Progress) (result : Result X E) : Type 0 where
  pub ok : (next : ℕ) (done : List ℕ) (content : Content (List ℕ)) → IsRewriting d p log w next (from done) content → OnOk result (IsRewriting e q new v next (to done) content)
  pub err : (next : ℕ) (done : List ℕ) (content : Content (List ℕ)) → IsRewriting d p log w next (from done) content → OnErr result (LeavesContent e q content)
  pub append : IsAsBefore p.append d q.append e
  pub kept : OnOk result (KeepsPipes d p e q)
  pub left : (next : ℕ) (done : List ℕ) (content : Content (List ℕ)) → IsRewriting d p log w next (from done) content → OnErr result (LeavesPipes d p e q)
