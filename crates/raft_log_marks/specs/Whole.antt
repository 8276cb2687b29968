-- What memtables take goes on where traces have led, also of a list with holes; and lists without a hole.
use Rattle.std.specs.Prelude.{◌≤◌, ◌<◌, ◌+◌, ◌-◌, ℕ, Bool, IsSome, List, length}
use Rattle.raft_log_records.specs.Item.{Change}
use Rattle.raft_log_records.specs.Item.Change.{entries, clean, compact, put, delete, mark}
use Rattle.raft_log_records.specs.Spelling.{first_index}
use Rattle.raft_log_memtables.specs.Content.{GroupContent, entry_at, after_change}
use Rattle.raft_log_memtables.specs.Taken.{Takes}
use Rattle.raft_log_covers.specs.Marks.{Names}
use Rattle.raft_log_covers.specs.Trace.{Trace, AreRun, GoOn, Knows, trace_after, trace_rewritten, trace_put}
use Rattle.raft_log_marks.specs.GroupMarks.{trace_after_marks}

-- the last entry is there that the trace says is
abbrev pub HasLast : {E : Type 0} → Trace → GroupContent E → Type 0
HasLast t g = t.low < t.next → IsSome (g.entry (t.next - 1))

-- each entry is there that the trace says is
abbrev pub IsWhole : {E : Type 0} → Trace → GroupContent E → Type 0
IsWhole t g = (i : ℕ) → t.low ≤ i → i < t.next → IsSome (g.entry i)

-- Entries follow one another: there is one at each index from the first one on, as many as there are, and none behind.
pub record FollowOneAnother {E : Type 0} (es : List (ℕ × E)) : Type 0 where
  pub run : AreRun es
  pub each : (i : ℕ) → first_index es ≤ i → i < first_index es + length es → IsSome (entry_at es i)

abbrev pub Follows : {E : Type 0} → Change E → Type 0
Follows (entries es) = FollowOneAnother es
Follows clean = Unit {0}
Follows (compact limit) = Unit {0}
Follows (put name value) = Unit {0}
Follows (delete name) = Unit {0}
Follows (mark id status) = Unit {0}

-- What memtables take goes on where the trace has led, if the list has the last entry.
abbrev pub TakenChangesGoOn : Type 0 → Type 0
TakenChangesGoOn E =
    (change : Change E) (t : Trace) (older g : GroupContent E) (names : Names)
    → Knows t older g names → HasLast t g → Follows change → Takes change g → GoOn change t

-- Such a change leaves the last entry there.
abbrev pub ChangesLeaveLast : Type 0 → Type 0
ChangesLeaveLast E = (file : ℕ) (change : Change E) (t : Trace) (g : GroupContent E) → Follows change → HasLast t g → HasLast (trace_after file change t) (after_change change g)

-- So does what cleaning writes of the group: its marks, entries and a key.
pub record RewrittenHasLast {E : Type 0} (t : Trace) (g : GroupContent E) : Type 0 where
  pub marked : (there : Bool) → HasLast (trace_after_marks there t) g
  pub entries_too : (first stop : ℕ) → HasLast (trace_rewritten first stop t) g
  pub keys_too : (name : List ℕ) → HasLast (trace_put name t) g

abbrev pub RewritesLeaveLast : Type 0 → Type 0
RewritesLeaveLast E = (t : Trace) (g : GroupContent E) → HasLast t g → RewrittenHasLast t g

-- A change leaves a list without a hole without one.
abbrev pub ChangesLeaveWhole : Type 0 → Type 0
ChangesLeaveWhole E =
    (file : ℕ) (change : Change E) (t : Trace) (g : GroupContent E)
    → GoOn change t → Follows change → IsWhole t g → IsWhole (trace_after file change t) (after_change change g)
