-- What is left where all files go that nothing needs.
use Rattle.std.specs.Prelude.{◌≡◌, ℕ, List, Option}
use Rattle.raft_log_disk.specs.Disk.{Disk}
use Rattle.raft_log_pipes.specs.declared.pipes.DualPipes.{DualPipes}
use Rattle.raft_log_memtables.specs.Content.{Content}
use Rattle.raft_log_purge.specs.Going.{GoesToNeeded}
use Rattle.raft_log_traces.specs.GroupTraces.{traces_in}
use Rattle.raft_log_traced.specs.declared.traced.TracedTables.{TracedTables}
use Rattle.raft_log_cleaner.specs.Cleaning.{CanClean}
use Rattle.raft_log_cleaner.specs.Live.{AreLive}
use Rattle.raft_log_cleaning.specs.Extents.{HasOnlyNew}

-- First the rewrite queue was written anew, and its counters began again. Then the append files went up to before the first one that is
-- needed
pub record IsPurged (d : Disk) (p : DualPipes) (log : TracedTables) (barrier : Option ℕ) (e : Disk) (q : DualPipes) (new : TracedTables) : Type 0 where
  pub disk : Disk
  pub pipes : DualPipes
  pub between : TracedTables
  pub before : (content : Content (List ℕ)) → CanClean d p log content → CanClean disk pipes between content
  pub behind : (content : Content (List ℕ)) → CanClean disk pipes between content → CanClean e q new content
  pub anew : HasOnlyNew p pipes
  pub append : pipes.append ≡ p.append
  pub begins_again : AreLive log between.written
  pub gone : GoesToNeeded (traces_in new.traces) barrier p.append q.append
