-- Heartbeats, and requests that count as failed.
use Rattle.std.specs.Prelude.{List, [], ◌∷◌, ◌++◌}
use Rattle.raft_group_step.specs.declared.group_call.GroupCall.TheVariants.{Heartbeat, Lost}
use Rattle.raft_laws.specs.declared.world_event.WorldEvent.{WorldEvent}
use Rattle.raft_laws.specs.declared.world_event.WorldEvent.TheVariants.{Ask, Deliver}
use Rattle.raft_laws.specs.Example.{Brief, ok}
use Rattle.raft_laws.specs.ThreeNodes.{until_told}

-- a peer without an outstanding request has none that could fail
abbrev pub beats : List WorldEvent
beats = until_told ++ Ask 1 (Lost 2) 0 ∷ Ask 1 Heartbeat 0 ∷ []

abbrev pub outcomes_of_beats : List Brief
outcomes_of_beats = ok [] ∷ ok (2 ∷ 3 ∷ []) ∷ []

-- the request is sent again, and the first one comes late
abbrev pub sent_again : List WorldEvent
sent_again =
    until_told
    ++ Ask 1 (Lost 3) 0 ∷ Deliver 12 0 ∷ Deliver 4 0 ∷ Deliver 14 0 ∷ Deliver 13 0 ∷ []

abbrev pub outcomes_of_sent_again : List Brief
outcomes_of_sent_again = ok (3 ∷ []) ∷ ok (1 ∷ []) ∷ ok (1 ∷ []) ∷ ok [] ∷ ok [] ∷ []
