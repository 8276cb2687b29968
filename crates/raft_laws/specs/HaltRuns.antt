-- Nodes that another group's event stops, and events that are to stop but are refused.
use Rattle.std.specs.Prelude.{List, [], ◌∷◌, ◌++◌, Some, None}
use Rattle.raft_group_step.specs.declared.group_call.GroupCall.TheVariants.{Initialize, Propose}
use Rattle.raft_group_step.specs.StepResult.{NotLeader, NotVoter}
use Rattle.raft_laws.specs.declared.world_event.WorldEvent.{WorldEvent}
use Rattle.raft_laws.specs.declared.world_event.WorldEvent.TheVariants.{Add, Ask, Crash, Halt, Restart}
use Rattle.raft_laws.specs.Origins.{Events}
use Rattle.raft_laws.specs.Example.{Brief, Declined, Halted, PassedOver, add, membership_of, ok, to_their_end}
use Rattle.raft_laws.specs.ThreeNodes.{until_proposed, until_told}
use Rattle.raft_laws.specs.OneVoter.{one}

-- the leader is halted while a command waits
abbrev pub until_halted : List WorldEvent
until_halted = until_proposed ++ Halt 1 ∷ []

-- what is down or isn't there is passed over; a crash names nothing
abbrev pub halted_again : List WorldEvent
halted_again = until_halted ++ Halt 1 ∷ Halt 4 ∷ Restart 1 ∷ Crash 1 ∷ []

abbrev pub outcomes_of_halts : List Brief
outcomes_of_halts =
    Halted (1 ∷ []) ∷ PassedOver ∷ PassedOver ∷ ok (2 ∷ 3 ∷ []) ∷ ok [] ∷ []

-- a follower is to stop in a proposal that it refuses
abbrev pub refused_proposal : Events
refused_proposal = to_their_end until_told ++ (Ask 2 (Propose (add 9) 2) 0, Some 0) ∷ []

abbrev pub outcome_of_refused_proposal : List Brief
outcome_of_refused_proposal = Declined (NotLeader (Some 1)) ∷ []

-- a node is to stop in a set-up that it refuses, and then sets the group up with another membership
abbrev pub refused_set_up : Events
refused_set_up =
    (Add 1, None) ∷ (Ask 1 (Initialize (membership_of (2 ∷ []) [])) 0, Some 0)
    ∷ (Ask 1 (Initialize (membership_of one [])) 0, None) ∷ []

abbrev pub outcomes_of_refused_set_up : List Brief
outcomes_of_refused_set_up = ok [] ∷ Declined NotVoter ∷ ok [] ∷ []
