-- What a cleaning of the append queue does with a group.
use Rattle.std.specs.Prelude.{◌<◌, ◌≤◌, ◌+◌, ◌⊎◌}
use Rattle.raft_log_traces.specs.Before.{IsBefore}
use Rattle.raft_log_purge.specs.declared.choice.GroupFacts.{GroupFacts}
use Rattle.raft_log_purge.specs.declared.watermarks.Watermarks.{Watermarks}

-- it has something in the oldest files, or entries in the rewrite queue
abbrev pub IsOld : GroupFacts → Watermarks → Type 0
IsOld facts marks = (0 < facts.rewritten) ⊎ IsBefore marks.compact facts.least_file

-- it is old and has many entries up to the rewrite mark, those in the rewrite queue counted
pub record IsTold (facts : GroupFacts) (marks : Watermarks) : Type 0 where
  pub old : IsOld facts marks
  pub many : 32 ≤ facts.up_to_mark

-- it is told to compact, and was told so fewer than nine times in a row
pub record IsLeft (facts : GroupFacts) (marks : Watermarks) : Type 0 where
  pub told : IsTold facts marks
  pub early : facts.reports < 9

-- its entries may be rewritten: it was told nine times in a row, or isn't told and has few of them in the append queue
abbrev pub IsDue : GroupFacts → Watermarks → Type 0
IsDue facts marks = (IsTold facts marks × (9 ≤ facts.reports)) ⊎ ((IsTold facts marks → ⊥) × (facts.up_to_mark < 32 + facts.rewritten))

-- it has something to rewrite, and its entries may be
pub record IsRewritten (facts : GroupFacts) (marks : Watermarks) : Type 0 where
  pub some : IsBefore (marks.rewrite + 1) facts.least_file
  pub due : IsDue facts marks
