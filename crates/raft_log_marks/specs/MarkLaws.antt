-- What the marks of a group are for.
use Rattle.std.specs.Prelude.{◌≡◌, ◌≤◌, ℕ, Bool, true, false, IsSome, None, List, [], ◌∷◌, ◌++◌}
use Rattle.raft_log_records.specs.Item.{Change, Item}
use Rattle.raft_log_records.specs.Spelling.{first_index}
use Rattle.raft_log_memtables.specs.Content.{GroupContent, Content, no_group, after_change}
use Rattle.raft_log_covers.specs.Cells.{Cell, held}
use Rattle.raft_log_covers.specs.Cells.Cell.{index}
use Rattle.raft_log_covers.specs.Queues.{Filed}
use Rattle.raft_log_covers.specs.Account.{Account}
use Rattle.raft_log_covers.specs.Marks.{Names, of_group, names_after_marks, names_after_entries, names_after_put}
use Rattle.raft_log_covers.specs.Trace.{Trace, names_after, settled_by}
use Rattle.raft_log_covers.specs.Kept.{Traces, IsKept, with_trace}
use Rattle.raft_log_traces.specs.Alike.{AreAlike}
use Rattle.raft_log_marks.specs.GroupMarks.{marks_of, trace_after_marks}

-- Whether the group is there says which marks it has. One that isn't there has nothing.
abbrev pub IsThere : {E : Type 0} → Bool → GroupContent E → Type 0
IsThere true g = g.there ≡ true
IsThere false g = (c : Cell) → held g c ≡ held no_group c

-- The marks of a group stand in the rewrite queue, and its trace says so: the invariant of the two queues holds as before.
abbrev pub MarksOfAGroupKeep : Type 0 → Type 0
MarksOfAGroupKeep E = (traces others : Traces) (account : Account) (records : List (List (Item E))) (content : Content E) (bs : List (Filed E)) (group : ℕ) (there : Bool)
    → IsKept traces account records content bs → IsThere there (content group) → AreAlike (with_trace group (trace_after_marks there (traces group)) traces) others
    → (after : Account) × IsKept others after (records ++ of_group group (marks_of there (traces group)) ∷ []) content bs

-- ---- what stands behind an entry of an append file

-- Where an account names a file for an entry that is there, it names one for each index behind it. So the rest of a list stands in
-- append files, once its lower entries were rewritten.
abbrev pub NamesBehind : {E : Type 0} → GroupContent E → Names → Type 0
NamesBehind g names = (i j : ℕ) → i ≤ j → IsSome (g.entry i) → IsSome (names (index i)) → IsSome (names (index j))

-- Each change keeps that, also where it leaves a hole.
abbrev pub ChangesNameBehind : Type 0 → Type 0
ChangesNameBehind E = (file : ℕ) (change : Change E) (g : GroupContent E) (names : Names) → NamesBehind g names → NamesBehind (after_change change g) (names_after file change names)

-- So do marks, keys, and entries that are rewritten from the lowest one on that an account names.
pub record NameBehindRewritten {E : Type 0} (t : Trace) (g : GroupContent E) (names : Names) : Type 0 where
  pub marked : (limit : ℕ) (is_empty : Bool) → (is_empty ≡ true → (i : ℕ) → g.entry i ≡ None) → ((i : ℕ) → IsSome (g.entry i) → limit ≤ i)
      → NamesBehind g (names_after_marks g names limit is_empty)
  pub entries_too : (es : List (ℕ × E)) (stop : ℕ) → ((i : ℕ) → IsSome (g.entry i) → IsSome (names (index i)) → first_index es ≤ i)
      → NamesBehind g (names_after_entries names es (settled_by stop t))
  pub keys_too : (name : List ℕ) → NamesBehind g (names_after_put names name)

abbrev pub RewritesNameBehind : Type 0 → Type 0
RewritesNameBehind E = (t : Trace) (g : GroupContent E) (names : Names) → NamesBehind g names → NameBehindRewritten t g names
