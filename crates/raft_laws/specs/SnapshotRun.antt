-- A node that lags behind a purged log is sent the snapshot.
use Rattle.std.specs.Prelude.{List, [], ◌∷◌, ◌++◌}
use Rattle.raft_group_step.specs.declared.group_call.GroupCall.TheVariants.{Elect, Propose, TriggerSnapshot, TriggerPurge}
use Rattle.raft_laws.specs.declared.world_event.WorldEvent.{WorldEvent}
use Rattle.raft_laws.specs.declared.world_event.WorldEvent.TheVariants.{Ask, Deliver}
use Rattle.raft_laws.specs.Example.{Brief, add, ok, ok_told, Kind, AVoteRequest, AVoteReply, ARequest, AReply, ANotice, ASnapshot, ASnapshotReply}
use Rattle.raft_laws.specs.ThreeNodes.{until_told}

abbrev pub until_installed : List WorldEvent
until_installed =
    until_told
    ++ Deliver 10 0 ∷ Ask 2 TriggerSnapshot 0 ∷ Ask 2 (TriggerPurge 2) 0 ∷ Ask 2 Elect 1000
    ∷ Deliver 14 1000 ∷ Deliver 15 1000 ∷ Deliver 17 1000 ∷ Deliver 18 1000 ∷ Deliver 19 1000
    ∷ []

abbrev pub until_caught_up : List WorldEvent
until_caught_up =
    until_installed
    ++ Deliver 20 1000 ∷ Deliver 21 1000 ∷ Deliver 22 1000 ∷ Ask 2 (Propose (add 1) 2) 1000
    ∷ Deliver 25 1000 ∷ Deliver 26 1000 ∷ []

abbrev pub outcomes_of_snapshot : List Brief
outcomes_of_snapshot =
    ok (1 ∷ []) ∷ ok [] ∷ ok [] ∷ ok (1 ∷ 3 ∷ []) ∷ ok (2 ∷ []) ∷ ok (1 ∷ 3 ∷ []) ∷ ok (2 ∷ [])
    ∷ ok (3 ∷ []) ∷ ok (2 ∷ []) ∷ ok (3 ∷ []) ∷ ok (2 ∷ []) ∷ ok (1 ∷ 3 ∷ []) ∷ ok (3 ∷ [])
    ∷ ok (2 ∷ []) ∷ ok_told (1 ∷ 3 ∷ []) 2 4 ∷ []

-- from message 12 on
abbrev pub kinds_of_snapshot : List Kind
kinds_of_snapshot =
    AReply ∷ AVoteRequest ∷ AVoteRequest ∷ AVoteReply ∷ ARequest ∷ ARequest ∷ AReply ∷ ASnapshot
    ∷ ASnapshotReply ∷ ARequest ∷ AReply ∷ ANotice ∷ ANotice ∷ ARequest ∷ AReply ∷ ANotice
    ∷ ANotice ∷ []
