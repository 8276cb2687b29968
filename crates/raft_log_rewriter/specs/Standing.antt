-- The log while the rewrite queue is written anew, from one record to the next.
use Rattle.std.specs.Prelude.{◌≡◌, ◌≤◌, ◌<◌, ◌+◌, ℕ, true, List, [], ◌++◌, IsSome, None, Some, Result, OnOk, OnErr}
use Rattle.std.specs.List.{AllByRecursion}
use Rattle.raft_log_records.specs.declared.file_id.FileBlockHandle.{FileBlockHandle}
use Rattle.raft_log_records.specs.declared.item.EntryIndex.{EntryIndex}
use Rattle.raft_log_disk.specs.Disk.{Disk}
use Rattle.raft_log_file.specs.Laws.{Batch}
use Rattle.raft_log_pipe.specs.Pipe.{Holds, Numbered, first_of}
use Rattle.raft_log_pipes.specs.declared.pipes.DualPipes.{DualPipes}
use Rattle.raft_log_pipes.specs.Pipes.{ArePipes, IsAsBefore}
use Rattle.raft_log_memtables.specs.Content.{Content}
use Rattle.raft_log_memtables.specs.Laws.{all_of}
use Rattle.raft_log_memtables.specs.MemTables.{content_in}
use Rattle.raft_log_covers.specs.Queues.{FilesRise}
use Rattle.raft_log_covers.specs.Written.{Written, all_records}
use Rattle.raft_log_traces.specs.GroupTraces.{traces_in}
use Rattle.raft_log_marks.specs.Standing.{CanBeCleaned}
use Rattle.raft_log_marks.specs.Opened.{TellPlaces}
use Rattle.raft_log_purge.specs.Anew.{AreAnew, StandTogether}
use Rattle.raft_log_purge.specs.AnewLaws.{HasEach}
use Rattle.raft_log_blocks.specs.Held.{IsTabled}
use Rattle.raft_log_traced.specs.declared.traced.TracedTables.{TracedTables}
use Rattle.raft_log_traced.specs.Traced.{lies_in}
use Rattle.raft_log_cleaner.specs.Cleaning.{CanClean, LeavesContent, LeavesStanding, filed, records_of}
use Rattle.raft_log_cleaner.specs.Pipes.{KeepsAppends, KeepsPipes, LeavesPipes}
use Rattle.raft_log_cleaner.specs.Written.{written_at}
use Rattle.raft_log_rewriter.specs.Parts.{MayFollow}

-- ---- from call to call

-- A log of which the rewrite queue can be written anew: it can be cleaned, and the records of each atomic group in that queue stand
-- together
pub record CanRewrite (d : Disk) (p : DualPipes) (log : TracedTables) (content : Content (List ℕ)) : Type 0 where
  pub can : CanClean d p log content
  pub together : StandTogether (records_of can.rewrites)

abbrev pub CanRewriteSome : Disk → DualPipes → TracedTables → Type 0
CanRewriteSome d p log = (content : Content (List ℕ)) × CanRewrite d p log content

-- A call that writes the rewrite queue anew: after Ok it can be so again, of the same content. After Err whatever a crash leaves reads
-- as it
pub record Rewrites {X E : Type 0} (d : Disk) (p : DualPipes) (log : TracedTables) (e : Disk) (q : DualPipes) (new : TracedTables) (result : Result X E) : Type 0 where
  pub ok : (content : Content (List ℕ)) → CanRewrite d p log content → OnOk result (CanRewrite e q new content)
  pub err : (content : Content (List ℕ)) → CanRewrite d p log content → OnErr result (LeavesContent e q content)

-- ---- what is left of both pipes

-- Behind a refusal other pipes have all files that stand, and whatever a crash leaves of them reads as the content, whichever it is
abbrev pub IsLeftStanding : Disk → DualPipes → TracedTables → Disk → DualPipes → Type 0
IsLeftStanding d p log e q = (content : Content (List ℕ)) → CanRewrite d p log content → LeavesStanding d p e q content

-- ---- from record to record

-- the entry lies in a file from this number on
abbrev pub LiesFrom : ℕ → EntryIndex → Type 0
LiesFrom next e = (h : FileBlockHandle) × (e.entries ≡ Some h) × (next ≤ h.id.seq)

-- Entries that these items have lie in files from a number on.
abbrev pub LieAnew : ℕ → Batch → Content EntryIndex → Type 0
LieAnew next items tables = (group i : ℕ) (e : EntryIndex) → IsSome (written_at items group i) → (tables group).entry i ≡ Some e → LiesFrom next e

-- In the files of the rewrite queue before a number are the old records, on the disk, and in those from it on what was written anew.
-- By the traces the log may be cleaned with the old ones. The tables have the content, and entries that were written anew lie in the new
-- files
pub record Stands (d : Disk) (p : DualPipes) (log : TracedTables) (next : ℕ) (ws : List (Written (List ℕ))) (content : Content (List ℕ)) : Type 0 where
  pub old : Numbered
  pub new : Numbered
  pub fresh : Numbered
  pub appends : Numbered
  pub pipes : ArePipes p d
  pub rewrite : Holds p.rewrite d (old ++ new) fresh
  pub append : Holds p.append d appends []
  pub tabled : IsTabled p ((old ++ new) ++ fresh) appends log.tables
  pub placed : TellPlaces lies_in (traces_in log.traces) (content_in log.tables)
  pub cleanable : CanBeCleaned (first_of p.append) (traces_in log.traces) (records_of old) content (filed appends)
  pub together : StandTogether (records_of old)
  pub anew : AreAnew content (traces_in log.traces) ws
  pub records : records_of (new ++ fresh) ≡ all_records ws
  pub low : AllByRecursion (λ b. b.0 < next) old
  pub rise : FilesRise 0 (filed old)
  pub high : AllByRecursion (λ b. next ≤ b.0) (new ++ fresh)
  pub span : (first_of p.rewrite ≤ next) × (next ≤ p.rewrite.active.seq)
  pub moved : LieAnew next (all_of (all_records ws)) (content_in log.tables)

-- A write of a record to the rewrite queue: after Ok it stands behind the others. After Err whatever a crash leaves reads as the
-- content
pub record WritesRecord {X E : Type 0} (d : Disk) (p : DualPipes) (log : TracedTables) (items : Batch) (e : Disk) (q : DualPipes) (new : TracedTables) (result : Result X E) : Type 0 where
  pub ok : (next : ℕ) (ws more : List (Written (List ℕ))) (content : Content (List ℕ)) → Stands d p log next ws content → MayFollow content (traces_in log.traces) ws items more
      → OnOk result (Stands e q new next more content)
  pub err : (next : ℕ) (ws more : List (Written (List ℕ))) (content : Content (List ℕ)) → Stands d p log next ws content → MayFollow content (traces_in log.traces) ws items more
      → OnErr result (LeavesContent e q content)
  pub append : IsAsBefore p.append d q.append e
  pub kept : OnOk result (KeepsPipes d p e q)
  pub left : (next : ℕ) (ws more : List (Written (List ℕ))) (content : Content (List ℕ)) → Stands d p log next ws content → MayFollow content (traces_in log.traces) ws items more
      → OnErr result (LeavesPipes d p e q)

-- A sync of the rewrite queue: what was written anew is on the disk then
pub record SyncsRecords {X E : Type 0} (d : Disk) (p : DualPipes) (log : TracedTables) (e : Disk) (q : DualPipes) (result : Result X E) : Type 0 where
  pub ok : (next : ℕ) (ws : List (Written (List ℕ))) (content : Content (List ℕ)) → Stands d p log next ws content
      → OnOk result ((s : Stands e q log next ws content) × (s.fresh ≡ []))
  pub err : (next : ℕ) (ws : List (Written (List ℕ))) (content : Content (List ℕ)) → Stands d p log next ws content → OnErr result (LeavesContent e q content)
  pub append : IsAsBefore p.append d q.append e
  pub kept : OnOk result (KeepsPipes d p e q)
  pub left : (next : ℕ) (ws : List (Written (List ℕ))) (content : Content (List ℕ)) → Stands d p log next ws content → OnErr result (LeavesPipes d p e q)

-- ---- from the first record to the last

-- all groups that are there were written anew, on the disk
pub record HasRewritten (d : Disk) (p : DualPipes) (log : TracedTables) (next : ℕ) (content : Content (List ℕ)) : Type 0 where
  pub ws : List (Written (List ℕ))
  pub stands : Stands d p log next ws content
  pub none : stands.fresh ≡ []
  pub each : HasEach content ws
  pub entries : (group i : ℕ) → (content group).there ≡ true → IsSome ((content group).entry i) → (traces_in log.traces group).entry_file i ≡ None
      → IsSome (written_at (all_of (all_records ws)) group i)

-- All groups are written anew, into the files from a number on.
pub record WritesGroups {X E : Type 0} (d : Disk) (p : DualPipes) (log : TracedTables) (next : ℕ) (e : Disk) (q : DualPipes) (new : TracedTables) (result : Result X E) : Type 0 where
  pub ok : (content : Content (List ℕ)) → Stands d p log next [] content → OnOk result (HasRewritten e q new next content)
  pub err : (content : Content (List ℕ)) → Stands d p log next [] content → OnErr result (LeavesContent e q content)
  pub append : IsAsBefore p.append d q.append e
  pub kept : OnOk result (KeepsPipes d p e q)
  pub left : (content : Content (List ℕ)) → Stands d p log next [] content → OnErr result (LeavesPipes d p e q)

-- Before them a file is begun.
pub record BeginsFile {X E : Type 0} (d : Disk) (p : DualPipes) (log : TracedTables) (e : Disk) (q : DualPipes) (result : Result X E) : Type 0 where
  pub ok : (content : Content (List ℕ)) → CanRewrite d p log content → OnOk result (Stands e q log (p.rewrite.active.seq + 1) [] content)
  pub err : (content : Content (List ℕ)) → CanRewrite d p log content → OnErr result (LeavesContent e q content)
  pub append : IsAsBefore p.append d q.append e
  pub kept : OnOk result (KeepsPipes d p e q)
  pub left : (content : Content (List ℕ)) → CanRewrite d p log content → OnErr result (LeavesPipes d p e q)

-- Behind them old files go.
pub record LetsGo {X E : Type 0} (d : Disk) (p : DualPipes) (log : TracedTables) (next : ℕ) (e : Disk) (q : DualPipes) (result : Result X E) : Type 0 where
  pub ok : (content : Content (List ℕ)) → HasRewritten d p log next content → OnOk result (CanRewrite e q log content)
  pub err : (content : Content (List ℕ)) → HasRewritten d p log next content → OnErr result (LeavesContent e q content)
  pub append : IsAsBefore p.append d q.append e
  pub kept : OnOk result (KeepsAppends d p e q)
  pub left : (content : Content (List ℕ)) → HasRewritten d p log next content → OnErr result (LeavesStanding d p e q content)
