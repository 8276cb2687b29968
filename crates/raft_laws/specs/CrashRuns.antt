-- Crashes, restarts, and messages that come late or twice, on three nodes.
use Rattle.std.specs.Prelude.{ℕ, List, [], ◌∷◌, ◌++◌, Option, Some, None}
use Rattle.raft_group_step.specs.declared.group_call.GroupCall.TheVariants.{Elect}
use Rattle.raft_laws.specs.declared.world_event.WorldEvent.{WorldEvent}
use Rattle.raft_laws.specs.declared.world_event.WorldEvent.TheVariants.{Ask, Deliver, Crash, Restart}
use Rattle.raft_laws.specs.GroupWorld.{GroupWorld, new_world}
use Rattle.raft_laws.specs.GroupRun.{group_run}
use Rattle.raft_laws.specs.Example.{Brief, Halted, three, to_their_end, ok, ok_told}
use Rattle.raft_laws.specs.ThreeNodes.{set_up, until_accepted, until_told}

-- the leader crashes before it is told that its command was accepted
abbrev pub leader_restarts : List WorldEvent
leader_restarts = until_accepted ++ Crash 1 ∷ Restart 1 ∷ []

abbrev pub outcomes_of_restart : List Brief
outcomes_of_restart = ok [] ∷ ok (2 ∷ 3 ∷ []) ∷ []

-- two replies of before the crash come, and answer nothing
abbrev pub late_replies : List WorldEvent
late_replies = leader_restarts ++ Deliver 5 0 ∷ Deliver 9 0 ∷ []

-- a request comes twice
abbrev pub twice : List WorldEvent
twice = until_accepted ++ Deliver 8 0 ∷ Deliver 9 0 ∷ Deliver 11 0 ∷ []

abbrev pub outcomes_of_twice : List Brief
outcomes_of_twice = ok (1 ∷ []) ∷ ok_told (2 ∷ 3 ∷ []) 1 2 ∷ ok (1 ∷ []) ∷ []

-- a node whose log is behind asks for votes
abbrev pub behind : List WorldEvent
behind =
    until_told ++ Deliver 4 0 ∷ Crash 1 ∷ Ask 3 Elect 1000 ∷ Deliver 14 1000 ∷ Deliver 15 1000 ∷ []

abbrev pub outcomes_of_behind : List Brief
outcomes_of_behind = ok (1 ∷ []) ∷ ok [] ∷ ok (1 ∷ 2 ∷ []) ∷ ok (3 ∷ []) ∷ ok [] ∷ []

-- a voter stops while it grants its vote, after so many storing commands, and is opened again
abbrev pub voter_stops : ℕ → List (WorldEvent × Option ℕ)
voter_stops k = to_their_end set_up ++ (Deliver 0 0, Some k) ∷ (Restart 2, None) ∷ []

abbrev pub after_voter_stops : ℕ → GroupWorld
after_voter_stops k = group_run (voter_stops k) (new_world three)

abbrev pub asked_again : ℕ → List (WorldEvent × Option ℕ)
asked_again k = voter_stops k ++ (Deliver 0 0, None) ∷ []

abbrev pub outcomes_of_stop : List Brief
outcomes_of_stop = Halted [] ∷ ok [] ∷ ok (1 ∷ []) ∷ []
