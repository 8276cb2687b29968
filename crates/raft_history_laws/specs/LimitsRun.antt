-- What nodes of worked runs have in their logs, and how much of it is committed.
use Rattle.std.specs.Prelude.{ℕ, List, map, length}
use Rattle.raft_group_step.specs.StoredGroup.{end_place, first_place}
use Rattle.raft_group_step.specs.Message.{Message}
use Rattle.raft_group_step.specs.GroupState.{GroupState}
use Rattle.raft_group_step.specs.SnapshotRequest.{place_above}
use Rattle.raft_laws.specs.GroupWorld.{GroupWorld}
use Rattle.raft_laws.specs.LawRuns.{state_after}
use Rattle.raft_laws.specs.Origins.{Events}
use Rattle.raft_history_laws.specs.NotedIds.{entries_in}

abbrev pub bounds_of : GroupState → ℕ × ℕ × ℕ
bounds_of s = (first_place s.stored, place_above s.committed, end_place s.stored)

-- the first place of a node's log, the place above all that is committed, and the place behind the log, on three nodes
abbrev pub bounds_after : Events → ℕ → ℕ × ℕ × ℕ
bounds_after es n = bounds_of (state_after es n)

-- how many entries each message has
abbrev pub sizes_in : GroupWorld → List ℕ
sizes_in w = map (λ (m : Message). length (entries_in m.body)) w.messages
