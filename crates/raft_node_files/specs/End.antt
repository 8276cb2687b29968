-- The exit statuses of the program.
use Rattle.std.specs.Prelude.{ℕ}
use Rattle.raft_node_files.specs.declared.end.End.{End}
use Rattle.raft_node_files.specs.declared.end.End.TheVariants.{Arguments, Done, Input, Memory, NoEvent, Opening, Output, Settings}

abbrev pub status_of : End → ℕ
status_of Done = 0
status_of NoEvent = 1
status_of Memory = 2
status_of Input = 3
status_of Arguments = 4
status_of Settings = 5
status_of Opening = 6
status_of Output = 7
