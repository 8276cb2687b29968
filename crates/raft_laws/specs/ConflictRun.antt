-- A leader's command reaches nobody, and another node leads on without it.
use Rattle.std.specs.Prelude.{List, [], ◌∷◌, ◌++◌}
use Rattle.raft_group_step.specs.declared.group_call.GroupCall.TheVariants.{Elect}
use Rattle.raft_laws.specs.declared.world_event.WorldEvent.{WorldEvent}
use Rattle.raft_laws.specs.declared.world_event.WorldEvent.TheVariants.{Ask, Deliver}
use Rattle.raft_laws.specs.Example.{Brief, ok, ok_unknown}
use Rattle.raft_laws.specs.ThreeNodes.{until_proposed}

abbrev pub another_leads : List WorldEvent
another_leads = until_proposed ++ Ask 2 Elect 1000 ∷ Deliver 10 1000 ∷ Deliver 11 1000 ∷ []

abbrev pub until_committed_anew : List WorldEvent
until_committed_anew = another_leads ++ Deliver 12 1000 ∷ Deliver 14 1000 ∷ []

abbrev pub until_overwritten : List WorldEvent
until_overwritten = until_committed_anew ++ Deliver 15 1000 ∷ []

abbrev pub outcomes_of_conflict : List Brief
outcomes_of_conflict =
    ok (1 ∷ 3 ∷ []) ∷ ok (2 ∷ []) ∷ ok (1 ∷ 3 ∷ []) ∷ ok_unknown (2 ∷ []) 1 ∷ ok (1 ∷ 3 ∷ [])
    ∷ ok (2 ∷ []) ∷ []
