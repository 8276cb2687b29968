-- A group of one voter.
use Rattle.std.specs.Prelude.{ℕ, List, [], ◌∷◌, Option, Some, None}
use Rattle.raft_group_step.specs.declared.group_call.GroupCall.TheVariants.{Initialize, Propose}
use Rattle.raft_group_step.specs.StepResult.{NotLeader, UnknownGroup, GroupExists, NotAllowed}
use Rattle.raft_laws.specs.declared.world_event.WorldEvent.{WorldEvent}
use Rattle.raft_laws.specs.declared.world_event.WorldEvent.TheVariants.{Add, Ask, Restart}
use Rattle.raft_laws.specs.Example.{Brief, Declined, Halted, PassedOver, membership_of, add, ok, ok_told}

abbrev pub one : List ℕ
one = 1 ∷ []

abbrev pub alone : List WorldEvent
alone =
    Ask 1 (Propose (add 5) 1) 0 ∷ Add 1 ∷ Add 1 ∷ Ask 1 (Propose (add 5) 2) 0
    ∷ Ask 1 (Initialize (membership_of one [])) 0 ∷ Ask 1 (Initialize (membership_of one [])) 0
    ∷ Ask 1 (Propose (add 5) 3) 0 ∷ Ask 1 (Propose (add 7) 4) 0 ∷ []

abbrev pub outcomes_of_alone : List Brief
outcomes_of_alone =
    Declined UnknownGroup ∷ ok [] ∷ Declined GroupExists ∷ Declined (NotLeader None) ∷ ok []
    ∷ Declined NotAllowed ∷ ok_told [] 3 2 ∷ ok_told [] 4 3 ∷ []

-- a proposal stops after so many storing commands, and the node is opened again
abbrev pub stopped_proposal : ℕ → List (WorldEvent × Option ℕ)
stopped_proposal k =
    (Add 1, None) ∷ (Ask 1 (Initialize (membership_of one [])) 0, None)
    ∷ (Ask 1 (Propose (add 5) 1) 0, Some k) ∷ (Ask 1 (Propose (add 7) 2) 0, None)
    ∷ (Restart 1, None) ∷ (Ask 1 (Propose (add 7) 3) 0, None) ∷ []

-- the told place is 2 where the stopped command wasn't stored, and 3 where it was
abbrev pub outcomes_of_stopped_proposal : ℕ → List Brief
outcomes_of_stopped_proposal place =
    ok [] ∷ ok [] ∷ Halted (1 ∷ []) ∷ PassedOver ∷ ok [] ∷ ok_told [] 3 place ∷ []
