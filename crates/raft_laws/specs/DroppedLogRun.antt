-- A node that stops between storing a snapshot and purging, with a log that has an older membership.
use Rattle.std.specs.Prelude.{ℕ, List, [], ◌∷◌, ◌++◌, Option, Some, None, option_and_then, option_map}
use Rattle.raft_values.specs.declared.log_id.LogId.{LogId}
use Rattle.raft_membership.specs.declared.change_members.ChangeMembers.TheVariants.{SetNodes}
use Rattle.raft_group_step.specs.declared.group_call.GroupCall.TheVariants.{ChangeMembership, Lost, TriggerSnapshot, TriggerPurge}
use Rattle.raft_group_step.specs.Values.{LoggedMembership}
use Rattle.raft_group_step.specs.StoredGroup.{StoredGroup, StoringCommand, after_storing_all, membership_in_force}
use Rattle.raft_laws.specs.declared.world_event.WorldEvent.TheVariants.{Ask, Deliver, Restart}
use Rattle.raft_laws.specs.GroupWorld.{GroupWorld}
use Rattle.raft_laws.specs.Origins.{Events}
use Rattle.raft_laws.specs.Example.{stored_at, to_their_end}
use Rattle.raft_laws.specs.ThreeNodes.{until_committed}

-- node 3 has the set-up's entry and a blank, as the others change its address. It is sent the snapshot with that change,
-- and stops once it has stored it
abbrev pub stops_before_its_purge : Events
stops_before_its_purge =
    to_their_end
    (until_committed
    ++ Deliver 4 0 ∷ Ask 1 (ChangeMembership (SetNodes ((3, 110 ∷ []) ∷ [])) 1) 0 ∷ Deliver 9 0
    ∷ Deliver 10 0 ∷ Ask 1 TriggerSnapshot 0 ∷ Ask 1 (TriggerPurge 9) 0 ∷ Ask 1 (Lost 3) 0 ∷ [])
    ++ (Deliver 13 0, Some 1) ∷ []

-- it is opened, which drops the log
abbrev pub opened_again : Events
opened_again = stops_before_its_purge ++ (Restart 3, None) ∷ []

-- the log id of the membership in force at a node, once these commands are stored
abbrev pub membership_id_at : GroupWorld → ℕ → List StoringCommand → Option (LogId ℕ)
membership_id_at w n commands =
    option_map (λ (m : LoggedMembership). m.log_id)
    (option_and_then (λ (s : StoredGroup). membership_in_force (after_storing_all commands s)) (stored_at w n))
