-- The invariant of two queues that are cleaned, and what keeps it: writes, and each step of a cleaning.
use Rattle.std.specs.Prelude.{◌≡◌, ◌≤◌, ◌<◌, ◌+◌, ℕ, Bool, true, false, IsSome, Some, List, [], ◌∷◌, ◌++◌, length}
use Rattle.raft_log_records.specs.Item.{Item}
use Rattle.raft_log_records.specs.Item.Change.{entries, put}
use Rattle.raft_log_records.specs.Spelling.{first_index}
use Rattle.raft_log_memtables.specs.Content.{GroupContent, Content, nothing, entry_at, after_batch}
use Rattle.raft_log_memtables.specs.Replay.{content_of}
use Rattle.raft_log_covers.specs.Cells.{after_batches, AreUnmarked}
use Rattle.raft_log_covers.specs.Queues.{Filed, batches_of, batches_from, FilesRise}
use Rattle.raft_log_covers.specs.Account.{Account, no_account, account_after}
use Rattle.raft_log_covers.specs.Marks.{of_group}
use Rattle.raft_log_covers.specs.Trace.{Trace, AreRun, trace_rewritten, trace_put}
use Rattle.raft_log_covers.specs.Kept.{Traces, IsKept, AllGoOn, traces_after, with_trace, new_trace}
use Rattle.raft_log_traces.specs.Alike.{AreAlike}
use Rattle.raft_log_traces.specs.Files.{KeepsFrom}
use Rattle.raft_log_marks.specs.GroupMarks.{marks_of, trace_after_marks}
use Rattle.raft_log_marks.specs.MarkLaws.{IsThere, NamesBehind}

-- The invariant of the laws, and that behind an entry of an append file each index was set in an append file.
pub record IsCleanable {E : Type 0} (traces : Traces) (account : Account) (records : List (List (Item E))) (content : Content E) (bs : List (Filed E)) : Type 0 where
  pub kept : IsKept traces account records content bs
  pub behind : (group : ℕ) → NamesBehind (content group) (account group)

-- ---- it holds of new queues, and writes keep it

abbrev pub NewQueuesAreCleanable : Type 0 → Type 0
NewQueuesAreCleanable E = IsCleanable {E = E} (λ group. new_trace) no_account [] nothing []

abbrev pub WritesKeepCleanable : Type 0 → Type 0
WritesKeepCleanable E = (traces others : Traces) (account : Account) (records : List (List (Item E))) (content : Content E) (bs : List (Filed E)) (file : ℕ) (items : List (Item E))
    → IsCleanable traces account records content bs → AllGoOn file items traces → AreAlike (traces_after file items traces) others
    → IsCleanable others (account_after file items account) records (after_batch items content) (bs ++ record { file = file; items = items } ∷ [])

-- ---- each step of a cleaning keeps it, of what was written to the rewrite queue and noted in the traces

abbrev pub MarksKeepCleanable : Type 0 → Type 0
MarksKeepCleanable E = (traces others : Traces) (account : Account) (records : List (List (Item E))) (content : Content E) (bs : List (Filed E)) (group : ℕ) (there : Bool)
    → IsCleanable traces account records content bs → IsThere there (content group) → AreAlike (with_trace group (trace_after_marks there (traces group)) traces) others
    → (after : Account) × IsCleanable others after (records ++ of_group group (marks_of there (traces group)) ∷ []) content bs

-- Entries that may be rewritten: those of the content from an index, before which none stands in an append file, up to before
-- another one. That is the end of the list, or has an entry of an append file.
pub record AreFront {E : Type 0} (t : Trace) (g : GroupContent E) (es : List (ℕ × E)) (stop : ℕ) : Type 0 where
  pub there : g.there ≡ true
  pub not_cleaned : t.cleaned ≡ false
  pub run : AreRun es
  pub until : first_index es + length es ≡ stop
  pub within : stop ≤ t.next
  pub same : (i : ℕ) → first_index es ≤ i → i < stop → entry_at es i ≡ g.entry i
  pub first : (i : ℕ) → IsSome (g.entry i) → IsSome (t.entry_file i) → first_index es ≤ i
  pub rest : stop < t.next → IsSome (g.entry stop) × IsSome (t.entry_file stop)

abbrev pub EntriesKeepCleanable : Type 0 → Type 0
EntriesKeepCleanable E = (traces others : Traces) (account : Account) (records : List (List (Item E))) (content : Content E) (bs : List (Filed E)) (group : ℕ) (es : List (ℕ × E)) (stop : ℕ)
    → IsCleanable traces account records content bs → AreFront (traces group) (content group) es stop
    → AreAlike (with_trace group (trace_rewritten (first_index es) stop (traces group)) traces) others
    → (after : Account) × IsCleanable others after (records ++ of_group group (entries es ∷ []) ∷ []) content bs

abbrev pub KeysKeepCleanable : Type 0 → Type 0
KeysKeepCleanable E = (traces others : Traces) (account : Account) (records : List (List (Item E))) (content : Content E) (bs : List (Filed E)) (group : ℕ) (name value : List ℕ)
    → IsCleanable traces account records content bs → (traces group).cleaned ≡ false → (content group).there ≡ true → (content group).value name ≡ Some value
    → AreAlike (with_trace group (trace_put name (traces group)) traces) others
    → (after : Account) × IsCleanable others after (records ++ of_group group (put name value ∷ []) ∷ []) content bs

-- ---- then files may go

-- Where no group keeps a file before one, the append files from that one on, or from any earlier one on, read as the content
-- over the rewrite queue.
abbrev pub FilesBeforeTheLeastMayGo : Type 0 → Type 0
FilesBeforeTheLeastMayGo E = (traces : Traces) (account : Account) (records : List (List (Item E))) (start : Content E) (bs : List (Filed E)) (least first : ℕ)
    → IsCleanable traces account records (after_batches (batches_of bs) start) bs → FilesRise least bs → AreUnmarked (batches_of bs) → ((group : ℕ) → KeepsFrom first (traces group))
    → (f : ℕ) → f ≤ first → content_of (records ++ batches_from f bs) ≡ after_batches (batches_of bs) start
