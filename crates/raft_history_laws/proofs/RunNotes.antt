-- Notes of worked runs, under which the first leader's command is settled.
use Rattle.std.specs.Prelude.{true}
use Rattle.raft_values.specs.Vote.{vote_of}
use Rattle.raft_laws.specs.GroupWorld.{Led}
use Rattle.raft_history_laws.specs.WholeSnapshotsRun.{first_entries}

-- what node 1 led with, at the end of the event of its command and of each later one
abbrev pub first_note : Led
first_note = record { node = 1; vote = vote_of 1 1 true; list = first_entries }
