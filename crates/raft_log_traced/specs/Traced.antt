-- Memtables with traces, of the batches that an opening finds.
use Rattle.std.specs.Prelude.{◌≡◌, ℕ, Bool, false, List, [], ◌∷◌, ◌++◌, map, Option, Some, None}
use Rattle.std.specs.List.{AllByRecursion, list_any}
use Rattle.raft_log_records.specs.declared.item.EntryIndex.{EntryIndex}
use Rattle.raft_log_records.specs.declared.file_id.FileBlockHandle.{FileBlockHandle}
use Rattle.raft_log_records.specs.declared.file_id.LogQueue.{LogQueue}
use Rattle.raft_log_records.specs.declared.file_id.LogQueue.TheVariants.{Append, Rewrite}
use Rattle.raft_log_records.specs.Item.{Item}
use Rattle.raft_log_records.specs.Spelling.{holds_mark}
use Rattle.raft_log_covers.specs.Kept.{Traces, new_trace, traces_after}
use Rattle.raft_log_covers.specs.Queues.{Filed}
use Rattle.raft_log_memtables.specs.MemTable.{items_in}
use Rattle.raft_log_purge.specs.Together.{Tells}
use Rattle.raft_log_recovery.specs.Replay.{Placed}
use Rattle.raft_log_replay.specs.Batches.{HasReplayed}
use Rattle.raft_log_traces.specs.Alike.{AreAlike}
use Rattle.raft_log_traces.specs.GroupTraces.{traces_in}
use Rattle.raft_log_traced.specs.declared.traced.TracedReplay.{TracedReplay}
use Rattle.raft_log_traced.specs.Written.{counts_in}

-- batches of the append queue count for traces, in their files
abbrev pub traces_with : LogQueue → ℕ → List (Item EntryIndex) → Traces → Traces
traces_with Append file items traces = traces_after file items traces
traces_with Rewrite file items traces = traces

abbrev pub traces_over : List Placed → Traces → Traces
traces_over [] traces = traces
traces_over (p ∷ ps) traces = traces_over ps (traces_with p.handle.id.queue p.handle.id.seq p.items traces)

-- a batch of the append queue belongs to an atomic group
abbrev pub is_marked_in : LogQueue → List (Item EntryIndex) → Bool
is_marked_in Append items = list_any holds_mark items
is_marked_in Rewrite items = false

-- one of these does
abbrev pub any_marked : List Placed → Bool
any_marked placed = list_any (λ p. is_marked_in p.handle.id.queue p.items) placed

-- of these batches those of the rewrite queue
abbrev pub if_rewrite : LogQueue → List (Item EntryIndex) → List (List (Item EntryIndex))
if_rewrite Append items = []
if_rewrite Rewrite items = items ∷ []

abbrev pub rewrites_in : List Placed → List (List (Item EntryIndex))
rewrites_in [] = []
rewrites_in (p ∷ ps) = if_rewrite p.handle.id.queue p.items ++ rewrites_in ps

-- the tables have replayed just these batches, and the traces have those of the append queue. It is noted whether one of those is
-- marked, whether the records of each atomic group in the rewrite queue stand together, and how much that queue has
pub record IsReplayedTraced (machine : TracedReplay) (placed : List Placed) : Type 0 where
  pub tables : HasReplayed machine.replayed placed
  pub traces : AreAlike (traces_over placed (λ group. new_trace)) (traces_in machine.traces)
  pub marked : machine.has_marked ≡ any_marked placed
  pub together : Tells machine.together (rewrites_in placed)
  pub written : machine.written ≡ counts_in (rewrites_in placed)

-- the append file that the place of an entry says. None: it lies in the rewrite queue, or nowhere
abbrev pub file_on : LogQueue → ℕ → Option ℕ
file_on Append seq = Some seq
file_on Rewrite seq = None

abbrev pub file_by : Option FileBlockHandle → Option ℕ
file_by None = None
file_by (Some handle) = file_on handle.id.queue handle.id.seq

abbrev pub lies_in : EntryIndex → Option ℕ
lies_in e = file_by e.entries

-- batches with the numbers of their files, and the places of their entries
abbrev pub filed_in : List Placed → List (Filed EntryIndex)
filed_in placed = map (λ p. record { file = p.handle.id.seq; items = items_in p.handle p.items }) placed

-- they were read from the files of this queue
abbrev pub AreOf : LogQueue → List Placed → Type 0
AreOf queue placed = AllByRecursion (λ p. p.handle.id.queue ≡ queue) placed
