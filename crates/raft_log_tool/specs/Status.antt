-- The exit statuses of the program. Of arguments that are others it is 4.
use Rattle.std.specs.Prelude.{ℕ}
use Rattle.raft_log_tool.specs.declared.failure.End.{End}
use Rattle.raft_log_tool.specs.declared.failure.End.TheVariants.{Done, Found}
use Rattle.raft_log_tool.specs.declared.failure.Failure.{Failure}
use Rattle.raft_log_tool.specs.declared.failure.Failure.TheVariants.{InUse, Log, Memory, Output, Refused, TargetNotEmpty, TargetWithin, Unreadable, Unwritten}

abbrev pub status_of_end : End → ℕ
status_of_end Done = 0
status_of_end Found = 1

abbrev pub status_of : Failure → ℕ
status_of Memory = 2
status_of (Unreadable why) = 3
status_of (Log why) = 3
status_of TargetNotEmpty = 5
status_of TargetWithin = 5
status_of (Unwritten why) = 5
status_of InUse = 6
status_of (Output why) = 7
status_of (Refused fault) = 8
