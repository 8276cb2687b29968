-- Queues that are opened can be cleaned.
use Rattle.std.specs.Prelude.{◌≡◌, ◌⊎◌, ◌≤◌, ◌<◌, ◌+◌, ◌-◌, ℕ, Bool, true, false, if◌then◌else◌, nat_lt, Option, Some, None, IsSome, List, ◌++◌}
use Rattle.raft_log_records.specs.Item.{Item}
use Rattle.raft_log_memtables.specs.Content.{GroupContent, Content, reach_after_batch}
use Rattle.raft_log_memtables.specs.Replay.{after_records, content_of}
use Rattle.raft_log_covers.specs.Cells.{AreUnmarked, Cell, after_batches}
use Rattle.raft_log_covers.specs.Marks.{is_in}
use Rattle.raft_log_covers.specs.Placed.{AreFiled}
use Rattle.raft_log_covers.specs.Queues.{Filed, batches_of, FilesRise}
use Rattle.raft_log_covers.specs.Account.{Account, no_account, account_after_all}
use Rattle.raft_log_covers.specs.Trace.{Trace}
use Rattle.raft_log_covers.specs.Kept.{Traces, AreReplayed, replayed_traces}
use Rattle.raft_log_marks.specs.Cleaning.{IsCleanable}
use Rattle.raft_log_marks.specs.Standing.{CanBeCleaned}

-- After a replay of the append queue over the rewrite queue, whatever files were left over, with traces that say what the laws ask.
abbrev pub ReplaysAreCleanable : Type 0 → Type 0
ReplaysAreCleanable E = (opened : Traces) (records : List (List (Item E))) (bs : List (Filed E)) (first : ℕ) → FilesRise first bs → AreReplayed first records bs opened
    → IsCleanable opened (account_after_all bs no_account) records (after_batches (batches_of bs) (content_of records)) bs

-- the trace of a group of which all stands in the rewrite queue: it keeps no file
abbrev pub trace_settled : Trace → Trace
trace_settled t = record {
  low = t.low;
  next = t.next;
  top = t.top;
  since = None;
  tail = None;
  entry_file = λ i. None;
  key_file = λ k. None;
  cleaned = t.cleaned;
  deleted = t.deleted;
}

-- Groups of which an account names nothing, as those that no batch of the append queue touched, keep no file.
abbrev pub SettledGroupsKeepNoFile : Type 0 → Type 0
SettledGroupsKeepNoFile E = (traces : Traces) (account : Account) (records : List (List (Item E))) (content : Content E) (bs : List (Filed E)) (settled : ℕ → Bool)
    → IsCleanable traces account records content bs → ((group : ℕ) → settled group ≡ true → (c : Cell) → account group c ≡ None)
    → IsCleanable (λ group. if settled group then trace_settled (traces group) else traces group) account records content bs

-- ---- traces as an opening makes them, of replayed ones and of the places of entries

-- one past the greatest index that there ever was, if there was one
abbrev pub past_of : Option ℕ → ℕ
past_of None = 0
past_of (Some most) = most + 1

-- Entries are from low up to before next, and top is one past all that ever were. Without entries the others are so too.
pub record AreEnds {E : Type 0} (g : GroupContent E) (reach : Option ℕ) (low next top : ℕ) : Type 0 where
  pub below : (i : ℕ) → i < low → g.entry i ≡ None
  pub above : (i : ℕ) → next ≤ i → g.entry i ≡ None
  pub first : low < next → IsSome (g.entry low)
  pub last : low < next → IsSome (g.entry (next - 1))
  pub top_is : top ≡ past_of reach
  pub empty : next ≤ low → (low ≡ top) × (next ≡ top)

-- the append file in which an entry lies, if it is there
abbrev pub file_at : {E : Type 0} → (E → Option ℕ) → Option E → Option ℕ
file_at at None = None
file_at at (Some e) = at e

-- An entry has the append file in which it lies. Another index has the file of an entry below it, if one below it lies in any.
pub record AreFilesOf {E : Type 0} (at : E → Option ℕ) (g : GroupContent E) (file : ℕ → Option ℕ) : Type 0 where
  pub own : (i f : ℕ) → file_at at (g.entry i) ≡ Some f → file i ≡ Some f
  pub some : (i j : ℕ) → j ≤ i → IsSome (file_at at (g.entry j)) → IsSome (file i)
  pub told : (i f : ℕ) → file i ≡ Some f → (j : ℕ) × (j ≤ i) × (file_at at (g.entry j) ≡ Some f)

-- what lies past the entries stands where the last one does; without entries, where all that was removed does
abbrev pub tail_of : {E : Type 0} → (E → Option ℕ) → GroupContent E → Trace → Option ℕ
tail_of at g u = if nat_lt u.low u.next then file_at at (g.entry (u.next - 1)) else u.since

-- its ends and files are those of the entries that are there, or the group isn't there and its ends stay
abbrev pub HasEnds : {E : Type 0} → (E → Option ℕ) → GroupContent E → Option ℕ → Trace → Trace → Type 0
HasEnds at g reach t u =
    ((g.there ≡ true) × AreEnds g reach u.low u.next u.top × AreFilesOf at g u.entry_file × (u.tail ≡ tail_of at g u))
    ⊎ ((g.there ≡ false) × (u.low ≡ t.low) × (u.next ≡ t.next) × (u.top ≡ t.top) × (u.tail ≡ u.since))

-- so of each group that is there and has entries: what lies past them keeps no earlier file
abbrev pub KeepLastTails : {E : Type 0} → (E → Option ℕ) → Traces → Content E → Type 0
KeepLastTails at traces content = (group : ℕ) → (content group).there ≡ true → (traces group).low < (traces group).next
    → (traces group).tail ≡ file_at at ((content group).entry ((traces group).next - 1))

-- what was removed may have been so from the first append file on, or never was
abbrev pub IsSince : ℕ → Trace → Trace → Type 0
IsSince first t u = (u.since ≡ Some first) ⊎ ((t.since ≡ None) × (u.since ≡ None))

-- The trace that an opening makes of a group, where t was replayed over the append queue and reach is how far entries ever went.
pub record IsMadeOf {E : Type 0} (at : E → Option ℕ) (first : ℕ) (g : GroupContent E) (reach : Option ℕ) (t u : Trace) : Type 0 where
  pub ends : HasEnds at g reach t u
  pub since : IsSince first t u
  pub key_file : (k : List ℕ) → u.key_file k ≡ t.key_file k
  pub cleaned : u.cleaned ≡ t.cleaned
  pub deleted : (k : List ℕ) → is_in k u.deleted ≡ is_in k t.deleted

-- how far the entries of each group ever went in these records
abbrev pub reach_of_records : {E : Type 0} → List (List (Item E)) → ℕ → Option ℕ
reach_of_records records = (after_records reach_after_batch records (record { state = λ group. None; begun = None })).state

-- By such traces the queues that were read can be cleaned, whatever files were left over: lists may have holes, and batches may
-- begin below or behind all that was there.
abbrev pub OpenedQueuesCanBeCleaned : Type 0 → Type 0
OpenedQueuesCanBeCleaned E = (at : E → Option ℕ) (first : ℕ) (opened : Traces) (records : List (List (Item E))) (bs : List (Filed E)) → FilesRise first bs → AreUnmarked (batches_of bs)
    → ((group i : ℕ) (e : E) → (content_of records group).entry i ≡ Some e → at e ≡ None) → AreFiled at bs
    → ((group : ℕ) → IsMadeOf at first (after_batches (batches_of bs) (content_of records) group) (reach_of_records (records ++ batches_of bs) group) (replayed_traces bs group) (opened group))
    → CanBeCleaned first opened records (after_batches (batches_of bs) (content_of records)) bs

-- And each entry that is there lies where its trace says: in that append file, or in the rewrite queue.
abbrev pub TellPlaces : {E : Type 0} → (E → Option ℕ) → Traces → Content E → Type 0
TellPlaces at traces content = (group i : ℕ) → IsSome ((content group).entry i) → file_at at ((content group).entry i) ≡ (traces group).entry_file i

abbrev pub OpenedQueuesTellPlaces : Type 0 → Type 0
OpenedQueuesTellPlaces E = (at : E → Option ℕ) (first : ℕ) (opened : Traces) (records : List (List (Item E))) (bs : List (Filed E)) → FilesRise first bs → AreUnmarked (batches_of bs)
    → ((group i : ℕ) (e : E) → (content_of records group).entry i ≡ Some e → at e ≡ None) → AreFiled at bs
    → ((group : ℕ) → IsMadeOf at first (after_batches (batches_of bs) (content_of records) group) (reach_of_records (records ++ batches_of bs) group) (replayed_traces bs group) (opened group))
    → TellPlaces at opened (after_batches (batches_of bs) (content_of records))
