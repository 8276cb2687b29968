-- How a script ends.
use Rattle.std.specs.Prelude.{ℕ, Result, Ok, Err}
use Rattle.raft_script_session.specs.declared.end.ScriptEnd.{ScriptEnd}
use Rattle.raft_script_session.specs.declared.end.ScriptEnd.TheVariants as ends
use Rattle.raft_script_session.specs.declared.end.Stop.{Stop}
use Rattle.raft_script_session.specs.declared.end.Stop.TheVariants as stops

abbrev pub status_of : ScriptEnd → ℕ
status_of ends.Done = 0
status_of (ends.NoEvent number) = 1
status_of ends.Memory = 2
status_of ends.Fault = 3

abbrev pub end_of : Result (Unit {0}) Stop → ScriptEnd
end_of (Ok done) = ends.Done
end_of (Err (stops.NoEvent number)) = ends.NoEvent number
end_of (Err stops.Memory) = ends.Memory
end_of (Err stops.Fault) = ends.Fault
