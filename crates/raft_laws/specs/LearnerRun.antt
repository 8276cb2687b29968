-- A learner beside three voters, and changes of the membership.
use Rattle.std.specs.Prelude.{ℕ, List, [], ◌∷◌, ◌++◌, Some}
use Rattle.raft_membership.specs.declared.change_members.ChangeMembers.TheVariants.{AddVoterIds, SetNodes}
use Rattle.raft_group_step.specs.declared.group_call.GroupCall.TheVariants.{Initialize, Propose, ChangeMembership}
use Rattle.raft_group_step.specs.StepResult.{VoterChange, InProgress, NotLeader}
use Rattle.raft_laws.specs.declared.world_event.WorldEvent.{WorldEvent}
use Rattle.raft_laws.specs.declared.world_event.WorldEvent.TheVariants.{Add, Ask, Deliver}
use Rattle.raft_laws.specs.Example.{Brief, Declined, three, membership_of, add, ok}

abbrev pub four : List ℕ
four = 1 ∷ 2 ∷ 3 ∷ 4 ∷ []

abbrev pub with_learner : List WorldEvent
with_learner =
    Add 1 ∷ Add 2 ∷ Add 3 ∷ Add 4 ∷ Ask 1 (Initialize (membership_of three (4 ∷ []))) 0
    ∷ Deliver 0 0 ∷ Deliver 2 0 ∷ Deliver 3 0 ∷ Deliver 6 0 ∷ []

abbrev pub changes : List WorldEvent
changes =
    with_learner
    ++ Ask 1 (ChangeMembership (AddVoterIds (4 ∷ [])) 1) 0
    ∷ Ask 1 (ChangeMembership (SetNodes ((4, 110 ∷ []) ∷ [])) 2) 0
    ∷ Ask 1 (ChangeMembership (SetNodes ((4, 111 ∷ []) ∷ [])) 3) 0
    ∷ Ask 2 (Propose (add 9) 4) 0 ∷ []

abbrev pub outcomes_of_changes : List Brief
outcomes_of_changes =
    ok (2 ∷ 3 ∷ []) ∷ ok (1 ∷ []) ∷ ok (2 ∷ 3 ∷ 4 ∷ []) ∷ ok (1 ∷ []) ∷ ok (2 ∷ 3 ∷ 4 ∷ [])
    ∷ Declined VoterChange ∷ ok (2 ∷ []) ∷ Declined InProgress ∷ Declined (NotLeader (Some 1)) ∷ []
