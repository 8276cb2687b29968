-- What an engine keeps of each group for cleaning, by the batches of both queues.
use Rattle.std.specs.Prelude.{◌≡◌, ℕ, false, List, ◌++◌, map}
use Rattle.raft_log_pipe.specs.Pipe.{Numbered, first_of}
use Rattle.raft_log_pipes.specs.declared.pipes.DualPipes.{DualPipes}
use Rattle.raft_log_memtables.specs.MemTables.{content_in}
use Rattle.raft_log_covers.specs.Queues.{Filed}
use Rattle.raft_log_traces.specs.GroupTraces.{traces_in}
use Rattle.raft_log_traced.specs.declared.traced.TracedTables.{TracedTables}
use Rattle.raft_log_traced.specs.Traced.{lies_in}
use Rattle.raft_log_marks.specs.Opened.{TellPlaces}
use Rattle.raft_log_marks.specs.Standing.{CanBeCleaned}
use Rattle.raft_log_purge.specs.Anew.{StandTogether}
use Rattle.raft_log_blocks.specs.Held.{content_of_batches}
use Rattle.raft_log_engine.specs.Since.{unnumbered}

-- batches with the numbers of their files, as the laws of cleaning have them
abbrev pub filed : Numbered → List (Filed (List ℕ))
filed bs = map (λ b. record { file = b.0; items = b.1 }) bs

-- By the traces the append files may be cleaned from the first one on, and each entry lies where its trace says. The records of each
-- atomic group in the rewrite queue stand together, unless an opening found them apart
pub record MayBeCleaned (p : DualPipes) (traced : TracedTables) (rewrites appends : Numbered) : Type 0 where
  pub cleanable : CanBeCleaned (first_of p.append) (traces_in traced.traces) (unnumbered rewrites) (content_of_batches (rewrites ++ appends)) (filed appends)
  pub placed : TellPlaces lies_in (traces_in traced.traces) (content_in traced.tables)
  pub together : traced.is_parted ≡ false → StandTogether (unnumbered rewrites)

-- So it is, unless an opening found a batch of the append queue that belongs to an atomic group: no engine writes one there, and files
-- that have one are not cleaned
abbrev pub IsTraced : DualPipes → TracedTables → Numbered → Numbered → Type 0
IsTraced p traced rewrites appends = traced.has_marked ≡ false → MayBeCleaned p traced rewrites appends
