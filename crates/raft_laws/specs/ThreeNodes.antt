-- Three nodes: an election, a command, and what each event sends.
use Rattle.std.specs.Prelude.{List, [], ◌∷◌, ◌++◌}
use Rattle.raft_group_step.specs.declared.group_call.GroupCall.TheVariants.{Initialize, Propose}
use Rattle.raft_laws.specs.declared.world_event.WorldEvent.{WorldEvent}
use Rattle.raft_laws.specs.declared.world_event.WorldEvent.TheVariants.{Add, Ask, Deliver}
use Rattle.raft_laws.specs.Example.{Brief, three, membership_of, add, ok, ok_told, Kind, AVoteRequest, AVoteReply, ARequest, AReply, ANotice}

abbrev pub set_up : List WorldEvent
set_up = Add 1 ∷ Add 2 ∷ Add 3 ∷ Ask 1 (Initialize (membership_of three [])) 0 ∷ []

abbrev pub until_committed : List WorldEvent
until_committed = set_up ++ Deliver 0 0 ∷ Deliver 2 0 ∷ Deliver 3 0 ∷ Deliver 5 0 ∷ []

abbrev pub until_proposed : List WorldEvent
until_proposed = until_committed ++ Ask 1 (Propose (add 5) 1) 0 ∷ []

abbrev pub until_accepted : List WorldEvent
until_accepted = until_proposed ++ Deliver 8 0 ∷ []

abbrev pub until_told : List WorldEvent
until_told = until_accepted ++ Deliver 9 0 ∷ []

-- to whom each event sends, and what it tells
abbrev pub outcomes_until_told : List Brief
outcomes_until_told =
    ok [] ∷ ok [] ∷ ok [] ∷ ok (2 ∷ 3 ∷ []) ∷ ok (1 ∷ []) ∷ ok (2 ∷ 3 ∷ []) ∷ ok (1 ∷ [])
    ∷ ok (2 ∷ 3 ∷ []) ∷ ok (2 ∷ []) ∷ ok (1 ∷ []) ∷ ok_told (2 ∷ 3 ∷ []) 1 2 ∷ []

-- the kinds of the messages up to there, by number
abbrev pub kinds_until_told : List Kind
kinds_until_told =
    AVoteRequest ∷ AVoteRequest ∷ AVoteReply ∷ ARequest ∷ ARequest ∷ AReply ∷ ANotice ∷ ANotice
    ∷ ARequest ∷ AReply ∷ ANotice ∷ ANotice ∷ []
