-- The invariant of two queues and of memtables, and what keeps it.
use Rattle.std.specs.Prelude.{◌≡◌, ◌⊎◌, ◌≤◌, ◌<◌, ◌+◌, ℕ, true, false, if◌then◌else◌, nat_eq}
use Rattle.std.specs.Prelude.{nat_le, List, [], ◌∷◌, ◌++◌, length, IsSome, Option, Some, None, drop}
use Rattle.raft_log_records.specs.Item.{Item}
use Rattle.raft_log_records.specs.Item.Change.{entries, clean, put}
use Rattle.raft_log_records.specs.Spelling.{first_index}
use Rattle.raft_log_memtables.specs.Content.{GroupContent, Content, no_group, nothing, after_batch}
use Rattle.raft_log_memtables.specs.Replay.{content_of}
use Rattle.raft_log_covers.specs.Cells.{Cell, held, after_batches, AreUnmarked}
use Rattle.raft_log_covers.specs.Cells.Cell.{index}
use Rattle.raft_log_covers.specs.Queues.{Filed, batches_of, batches_from, FilesRise, Covers}
use Rattle.raft_log_covers.specs.Written.{Written, AreWritten, all_records}
use Rattle.raft_log_covers.specs.Account.{Account, IsFrom, IsAccounted, no_account, account_after, account_after_all}
use Rattle.raft_log_covers.specs.Marks.{Names, is_in, of_group, with_group, marks, MayRewrite, names_after_marks, names_after_entries, names_after_put}
use Rattle.raft_log_covers.specs.Trace.{Trace, file_of, IsBounded, Bounds, Knows, TellsFiles, GoOn, AreRun, trace_after, trace_marked, trace_rewritten, trace_put, settled_by}

abbrev pub Traces : Type 0
Traces = ℕ → Trace

-- The records of the rewrite queue, the content, and the batches of the append queue with their files. The account is for proofs
-- alone; the traces are what memtables keep.
pub record IsKept {E : Type 0} (traces : Traces) (account : Account) (records : List (List (Item E))) (content : Content E) (bs : List (Filed E)) : Type 0 where
  pub accounted : IsAccounted account (content_of records) content bs
  pub bounds : (group : ℕ) → Bounds (traces group) (content group) (account group)
  pub knows : (group : ℕ) → Knows (traces group) (content_of records group) (content group) (account group)
  pub files : (group : ℕ) → TellsFiles (traces group) (content group) (account group)

-- ---- a write to the append queue

abbrev pub traces_after_item : {E : Type 0} → ℕ → Item E → Traces → Traces
traces_after_item file item traces group = if nat_eq item.group group then trace_after file item.change (traces group) else traces group

abbrev pub traces_after : {E : Type 0} → ℕ → List (Item E) → Traces → Traces
traces_after file [] traces = traces
traces_after file (item ∷ items) traces = traces_after file items (traces_after_item file item traces)

-- each item goes on where the ones before it have led
abbrev pub AllGoOn : {E : Type 0} → ℕ → List (Item E) → Traces → Type 0
AllGoOn file [] traces = Unit {0}
AllGoOn file (item ∷ items) traces = GoOn item.change (traces item.group) × AllGoOn file items (traces_after_item file item traces)

abbrev pub WritesKeep : Type 0 → Type 0
WritesKeep E = (traces : Traces) (account : Account) (records : List (List (Item E))) (content : Content E) (bs : List (Filed E)) (file : ℕ) (items : List (Item E))
    → IsKept traces account records content bs → AllGoOn file items traces
    → IsKept (traces_after file items traces) (account_after file items account) records (after_batch items content) (bs ++ record { file = file; items = items } ∷ [])

-- ---- what cleaning writes of a group

abbrev pub with_trace : ℕ → Trace → Traces → Traces
with_trace group t traces other = if nat_eq group other then t else traces other

abbrev pub MarksKeep : Type 0 → Type 0
MarksKeep E = (traces : Traces) (account : Account) (records : List (List (Item E))) (content : Content E) (bs : List (Filed E)) (group : ℕ)
    → IsKept traces account records content bs → (content group).there ≡ true
    → IsKept (with_trace group (trace_marked (traces group)) traces)
    (with_group group (names_after_marks (content group) (account group) (traces group).low (nat_le (traces group).next (traces group).low)) account)
    (records ++ of_group group (marks (traces group).cleaned (traces group).low (traces group).deleted) ∷ []) content bs

abbrev pub EntriesKeep : Type 0 → Type 0
EntriesKeep E = (traces : Traces) (account : Account) (records : List (List (Item E))) (content : Content E) (bs : List (Filed E)) (group : ℕ) (es : List (ℕ × E)) (stop : ℕ)
    → IsKept traces account records content bs → (traces group).cleaned ≡ false → AreRun es → first_index es ≤ (traces group).next → first_index es + length es ≤ (traces group).top
    → MayRewrite (content group) (account group) es (settled_by stop (traces group))
    → IsKept (with_trace group (trace_rewritten (first_index es) stop (traces group)) traces)
    (with_group group (names_after_entries (account group) es (settled_by stop (traces group))) account)
    (records ++ of_group group (entries es ∷ []) ∷ []) content bs

abbrev pub KeysKeep : Type 0 → Type 0
KeysKeep E = (traces : Traces) (account : Account) (records : List (List (Item E))) (content : Content E) (bs : List (Filed E)) (group : ℕ) (name value : List ℕ)
    → IsKept traces account records content bs → (traces group).cleaned ≡ false → (content group).there ≡ true → (content group).value name ≡ Some value
    → IsKept (with_trace group (trace_put name (traces group)) traces) (with_group group (names_after_put (account group) name) account)
    (records ++ of_group group (put name value ∷ []) ∷ []) content bs

-- ---- files go

-- Where memtables keep no file before one, the rewrite queue covers the content for the append files from that one on.
abbrev pub KeptFilesCover : Type 0 → Type 0
KeptFilesCover E = (traces : Traces) (account : Account) (records : List (List (Item E))) (content : Content E) (bs : List (Filed E)) (first : ℕ)
    → IsKept traces account records content bs → ((group : ℕ) (c : Cell) → IsFrom first (file_of (traces group) (content group) c))
    → Covers (content_of records) content (batches_from first bs)

-- ---- an opening, groups that are gone, and files that stay

-- what memtables keep of a group that only the rewrite queue has
pub record IsOpened {E : Type 0} (t : Trace) (g : GroupContent E) : Type 0 where
  pub below : (i : ℕ) → i < t.low → g.entry i ≡ None
  pub above : (i : ℕ) → t.low ≤ i → t.next ≤ i → g.entry i ≡ None
  pub past : (i : ℕ) → t.top ≤ i → g.entry i ≡ None
  pub ends : t.next ≤ t.top
  pub empty_top : t.next ≤ t.low → t.top ≤ t.low
  pub not_cleaned : t.cleaned ≡ false
  pub none_deleted : t.deleted ≡ []
  pub entries_rewritten : (i : ℕ) → IsSome (g.entry i) → t.entry_file i ≡ None
  pub keys_rewritten : (k : List ℕ) → IsSome (g.value k) → t.key_file k ≡ None

-- As the rewrite queue was read the invariant holds; then `WritesKeep` is for each batch of the append queue.
abbrev pub OpeningsKeep : Type 0 → Type 0
OpeningsKeep E = (traces : Traces) (records : List (List (Item E))) → ((group : ℕ) → IsOpened (traces group) (content_of records group))
    → IsKept traces no_account records (content_of records) []

abbrev pub new_trace : Trace
new_trace = record {
  low = 0;
  next = 0;
  top = 0;
  since = None;
  tail = None;
  entry_file = λ i. None;
  key_file = λ k. None;
  cleaned = false;
  deleted = [];
}

-- without any file it holds
abbrev pub NewQueuesAreKept : Type 0 → Type 0
NewQueuesAreKept E = IsKept {E = E} (λ group. new_trace) no_account [] nothing []

-- the mark of a group that isn't there
abbrev pub CleansKeep : Type 0 → Type 0
CleansKeep E = (traces : Traces) (account : Account) (records : List (List (Item E))) (content : Content E) (bs : List (Filed E)) (group : ℕ)
    → IsKept traces account records content bs → ((c : Cell) → held (content group) c ≡ held no_group c)
    → IsKept (with_trace group new_trace traces) (with_group group (λ c. None) account) (records ++ of_group group (clean ∷ []) ∷ []) content bs

-- What cleaning writes names no earlier file. So at each record that it writes, the append files that are kept stay covered.
pub record NamesNoEarlier {E : Type 0} (t : Trace) (g : GroupContent E) (first : ℕ) : Type 0 where
  pub marked : (c : Cell) → IsFrom first (file_of (trace_marked t) g c)
  pub entries_too : (from stop : ℕ) (c : Cell) → IsFrom first (file_of (trace_rewritten from stop t) g c)
  pub keys_too : (name : List ℕ) (c : Cell) → IsFrom first (file_of (trace_put name t) g c)

abbrev pub FilesStay : Type 0 → Type 0
FilesStay E = (t : Trace) (g : GroupContent E) (first : ℕ) → ((c : Cell) → IsFrom first (file_of t g c)) → NamesNoEarlier t g first

-- All together: while memtables keep no file before one, each opening from that append file on, or from an earlier one on, reads
-- the content.
abbrev pub KeptQueuesReadAsTheContent : Type 0 → Type 0
KeptQueuesReadAsTheContent E = (traces : Traces) (account : Account) (records : List (List (Item E))) (start : Content E) (bs : List (Filed E)) (least first : ℕ)
    → IsKept traces account records (after_batches (batches_of bs) start) bs → FilesRise least bs → AreUnmarked (batches_of bs)
    → ((group : ℕ) (c : Cell) → IsFrom first (file_of (traces group) (after_batches (batches_of bs) start group) c))
    → (f : ℕ) → f ≤ first → content_of (records ++ batches_from f bs) ≡ after_batches (batches_of bs) start

-- ---- an opening over left-over files

abbrev pub traces_after_all : {E : Type 0} → List (Filed E) → Traces → Traces
traces_after_all [] traces = traces
traces_after_all (b ∷ bs) traces = traces_after_all bs (traces_after b.file b.items traces)

-- there is this file, or nothing is named
abbrev pub IsFirstOf : ℕ → Names → Option ℕ → Type 0
IsFirstOf first names kept = (kept ≡ Some first) ⊎ ((c : Cell) → names c ≡ None)

-- What the trace of a group has to say after the replay, where t is what the batches made of a new one. Its ends are those of the
-- entries that are there, and no entry of the rewrite queue lies past its top unless the group was cleaned. They and the keys that
-- are there stand in the files that the account names; at a hole, and past the entries, the file isn't after that one. For all else
-- there is the first append file, if the account names any.
pub record IsReplayed {E : Type 0} (first : ℕ) (t opened : Trace) (older g : GroupContent E) (names : Names) : Type 0 where
  pub below : (i : ℕ) → i < opened.low → g.entry i ≡ None
  pub above : (i : ℕ) → opened.low ≤ i → opened.next ≤ i → g.entry i ≡ None
  pub ends : opened.next ≤ opened.top
  pub empty_top : opened.next ≤ opened.low → opened.top ≤ opened.low
  pub past : opened.cleaned ≡ false → (i : ℕ) → opened.top ≤ i → older.entry i ≡ None
  pub since : IsFirstOf first names opened.since
  pub tail : (i : ℕ) → opened.low ≤ i → opened.next ≤ i → IsBounded (names (index i)) opened.tail
  pub files : TellsFiles opened g names
  pub holes : (i : ℕ) → opened.low ≤ i → i < opened.next → g.entry i ≡ None → IsBounded (names (index i)) (opened.entry_file i)
  pub cleaned : opened.cleaned ≡ t.cleaned
  pub deleted : (k : List ℕ) → is_in k opened.deleted ≡ is_in k t.deleted

-- the traces that batches of the append queue make of new ones
abbrev pub replayed_traces : {E : Type 0} → List (Filed E) → Traces
replayed_traces bs = traces_after_all bs (λ group. new_trace)

-- an opening's traces say so of each group, after these records of the rewrite queue and these batches of the append queue
abbrev pub AreReplayed : {E : Type 0} → ℕ → List (List (Item E)) → List (Filed E) → Traces → Type 0
AreReplayed first records bs opened =
    let older = content_of records in
    (group : ℕ) → IsReplayed first (replayed_traces bs group) (opened group) (older group) (after_batches (batches_of bs) older group) (account_after_all bs no_account group)

abbrev pub ReplaysKeep : Type 0 → Type 0
ReplaysKeep E = (opened : Traces) (records : List (List (Item E))) (bs : List (Filed E)) (first : ℕ) → FilesRise first bs → AreReplayed first records bs opened
    → IsKept opened (account_after_all bs no_account) records (after_batches (batches_of bs) (content_of records)) bs

-- ---- the rewrite queue is written anew

-- What the new records have, alone: at each cell that the account doesn't name what the content has, no entry past those that
-- ever were, and no key that is gone.
pub record GivesAll {E : Type 0} (traces : Traces) (account : Account) (content new : Content E) : Type 0 where
  pub unnamed : (group : ℕ) (c : Cell) → account group c ≡ None → held (new group) c ≡ held (content group) c
  pub entries_low : (group : ℕ) (i : ℕ) → (traces group).top ≤ i → (new group).entry i ≡ None
  pub keys_there : (group : ℕ) (k : List ℕ) → (content group).value k ≡ None → (new group).value k ≡ None

-- What the new records have of a group, where the trace says what stands in the rewrite queue: that it is there, the entries and
-- keys that stand there, and nothing that isn't there.
pub record HasWhole {E : Type 0} (t : Trace) (g new : GroupContent E) : Type 0 where
  pub there : new.there ≡ g.there
  pub entries_too : (i : ℕ) → IsSome (g.entry i) → t.entry_file i ≡ None → new.entry i ≡ g.entry i
  pub no_other_entry : (i : ℕ) → g.entry i ≡ None → new.entry i ≡ None
  pub keys_too : (k : List ℕ) → IsSome (g.value k) → t.key_file k ≡ None → new.value k ≡ g.value k
  pub no_other_key : (k : List ℕ) → g.value k ≡ None → new.value k ≡ None

-- By what memtables keep, such records give all.
abbrev pub WholeGroupsGiveAll : Type 0 → Type 0
WholeGroupsGiveAll E = (traces : Traces) (account : Account) (records : List (List (Item E))) (content new : Content E) (bs : List (Filed E))
    → IsKept traces account records content bs → ((group : ℕ) → HasWhole (traces group) (content group) (new group)) → GivesAll traces account content new

-- However many of the old records went from the front, the invariant holds of the others and the new ones.
abbrev pub OldRecordsMayGo : Type 0 → Type 0
OldRecordsMayGo E = (traces : Traces) (account : Account) (old new : List (Written E)) (content : Content E) (bs : List (Filed E)) → AreWritten old → AreWritten new
    → IsKept traces account (all_records old ++ all_records new) content bs → GivesAll traces account content (content_of (all_records new))
    → (n : ℕ) → IsKept traces account (drop n (all_records old) ++ all_records new) content bs
