-- What leaders had, event by event, on worked runs.
use Rattle.std.specs.Prelude.{ℕ, List, [], ◌∷◌, ◌++◌, map, filter, Some, None}
use Rattle.raft_values.specs.declared.log_id.LogId.{LogId}
use Rattle.raft_values.specs.declared.vote.Vote.{Vote}
use Rattle.raft_group_step.specs.Values.{vote_eq}
use Rattle.raft_group_step.specs.declared.group_call.GroupCall.TheVariants.{Propose}
use Rattle.raft_laws.specs.declared.world_event.WorldEvent.TheVariants.{Ask, Restart}
use Rattle.raft_laws.specs.GroupWorld.{GroupWorld, Led}
use Rattle.raft_laws.specs.Origins.{Events}
use Rattle.raft_laws.specs.Example.{add, ids_of_log, to_their_end}
use Rattle.raft_laws.specs.ThreeNodes.{until_proposed}

-- the log ids of the lists noted under a vote, in the order of the events
abbrev pub lists_under : Vote ℕ → GroupWorld → List (List (LogId ℕ))
lists_under vote w =
    map (λ (l : Led). ids_of_log l.list) (filter (λ (l : Led). vote_eq l.vote vote) w.led)

-- a proposal stops once its entry is stored, and the node leads on behind it
abbrev pub leads_on_behind_a_stop : Events
leads_on_behind_a_stop =
    to_their_end until_proposed ++ (Ask 1 (Propose (add 7) 2) 0, Some 1) ∷ (Restart 1, None) ∷ []
