-- What the steps of a cleaning keep.
use Rattle.std.specs.Prelude.{ℕ, List, [], ◌∷◌, ◌++◌}
use Rattle.raft_log_records.specs.Item.{Item}
use Rattle.raft_log_memtables.specs.Content.{Content}
use Rattle.raft_log_covers.specs.Queues.{Filed}
use Rattle.raft_log_covers.specs.Account.{Account}
use Rattle.raft_log_covers.specs.Kept.{Traces}
use Rattle.raft_log_traces.specs.Files.{KeepsFrom}
use Rattle.raft_log_marks.specs.Cleaning.{IsCleanable}
use Rattle.raft_log_marks.specs.Standing.{CanBeCleaned}
use Rattle.raft_log_purge.specs.Steps.{AreSteps, HasSteps}

-- Steps that are written one by one keep the invariant of the two queues.
abbrev pub StepsKeepCleanable : Type 0 → Type 0
StepsKeepCleanable E = (traces others : Traces) (account : Account) (records parts : List (List (Item E))) (content : Content E) (bs : List (Filed E))
    → IsCleanable traces account records content bs → AreSteps content traces parts others
    → (after : Account) × IsCleanable others after (records ++ parts) content bs

-- So do steps that are written as one record, whatever groups they are of.
abbrev pub BatchesOfStepsKeepCleanable : Type 0 → Type 0
BatchesOfStepsKeepCleanable E = (traces others : Traces) (account : Account) (records : List (List (Item E))) (items : List (Item E)) (content : Content E) (bs : List (Filed E))
    → IsCleanable traces account records content bs → HasSteps content traces [] others items
    → (after : Account) × IsCleanable others after (records ++ items ∷ []) content bs

-- No step names an earlier file: so what is kept stays covered behind each record.
abbrev pub StepsKeepFiles : Type 0 → Type 0
StepsKeepFiles E = (traces others : Traces) (parts : List (List (Item E))) (content : Content E) (first : ℕ)
    → AreSteps content traces parts others → ((group : ℕ) → KeepsFrom first (traces group)) → (group : ℕ) → KeepsFrom first (others group)

-- Behind a record of such steps the append files may be cleaned as before.
abbrev pub StepsLeaveCleanable : Type 0 → Type 0
StepsLeaveCleanable E = (first : ℕ) (traces others : Traces) (records : List (List (Item E))) (items : List (Item E)) (content : Content E) (bs : List (Filed E))
    → CanBeCleaned first traces records content bs → HasSteps content traces [] others items → CanBeCleaned first others (records ++ items ∷ []) content bs
