-- The steps of a cleaning: what is written of groups to the rewrite queue, one after the other, and what traces say then.
use Rattle.std.specs.Prelude.{◌≡◌, ◌⊎◌, ◌+◌, ◌<◌, ℕ, Bool, true, false, Some, None, List, [], ◌∷◌, ◌++◌, length}
use Rattle.raft_log_records.specs.Batch.{numbered}
use Rattle.raft_log_records.specs.Item.{Item}
use Rattle.raft_log_records.specs.Item.Change.{entries, put}
use Rattle.raft_log_records.specs.Spelling.{first_index}
use Rattle.raft_log_memtables.specs.Content.{Content, entry_at}
use Rattle.raft_log_memtables.specs.Laws.{all_of}
use Rattle.raft_log_covers.specs.Marks.{of_group}
use Rattle.raft_log_covers.specs.Trace.{trace_rewritten, trace_put}
use Rattle.raft_log_covers.specs.Kept.{Traces, with_trace}
use Rattle.raft_log_traces.specs.Alike.{AreAlike}
use Rattle.raft_log_marks.specs.GroupMarks.{marks_of, trace_after_marks}
use Rattle.raft_log_marks.specs.MarkLaws.{IsThere}
use Rattle.raft_log_marks.specs.Cleaning.{AreFront}

-- the marks of a group
pub record IsMarking {E : Type 0} (content : Content E) (traces : Traces) (part : List (Item E)) (others : Traces) : Type 0 where
  pub group : ℕ
  pub there : Bool
  pub is_there : IsThere there (content group)
  pub written : part ≡ of_group group (marks_of there (traces group))
  pub noted : AreAlike (with_trace group (trace_after_marks there (traces group)) traces) others

-- entries of a group, from the first one that stands in an append file, or from an earlier one on
pub record IsFrontRewritten {E : Type 0} (content : Content E) (traces : Traces) (part : List (Item E)) (others : Traces) : Type 0 where
  pub group : ℕ
  pub es : List (ℕ × E)
  pub stop : ℕ
  pub front : AreFront (traces group) (content group) es stop
  pub none_before : (i : ℕ) → i < first_index es → entry_at es i ≡ None
  pub written : part ≡ of_group group (entries es ∷ [])
  pub noted : AreAlike (with_trace group (trace_rewritten (first_index es) stop (traces group)) traces) others

-- a key of a group
pub record IsKeyRewritten {E : Type 0} (content : Content E) (traces : Traces) (part : List (Item E)) (others : Traces) : Type 0 where
  pub group : ℕ
  pub name : List ℕ
  pub value : List ℕ
  pub not_cleaned : (traces group).cleaned ≡ false
  pub there : (content group).there ≡ true
  pub has : (content group).value name ≡ Some value
  pub written : part ≡ of_group group (put name value ∷ [])
  pub noted : AreAlike (with_trace group (trace_put name (traces group)) traces) others

abbrev pub IsStep : {E : Type 0} → Content E → Traces → List (Item E) → Traces → Type 0
IsStep content traces part others = IsMarking content traces part others ⊎ (IsFrontRewritten content traces part others ⊎ IsKeyRewritten content traces part others)

-- one step after the other, each with what is written in it
abbrev pub AreSteps : {E : Type 0} → Content E → Traces → List (List (Item E)) → Traces → Type 0
AreSteps content traces [] others = traces ≡ others
AreSteps content traces (part ∷ parts) others = (middle : Traces) × IsStep content traces part middle × AreSteps content middle parts others

-- Behind its items a batch has what is written in some steps.
abbrev pub HasSteps : {E : Type 0} → Content E → Traces → List (Item E) → Traces → List (Item E) → Type 0
HasSteps {E} content traces items others more = (parts : List (List (Item E))) × (more ≡ items ++ all_of parts) × AreSteps content traces parts others

-- these groups are there, and no others
abbrev pub AreThere : {E : Type 0} → (ℕ → Bool) → Content E → Type 0
AreThere there content = (group : ℕ) → IsThere (there group) (content group)

-- These entries of a group, from an index on, may be rewritten. None below it stands in an append file.
pub record IsFrontOf {E : Type 0} (content : Content E) (traces : Traces) (group first : ℕ) (parts : List E) : Type 0 where
  pub front : AreFront (traces group) (content group) (numbered first parts) (first + length parts)
  pub below : (i : ℕ) → i < first → (traces group).entry_file i ≡ None
