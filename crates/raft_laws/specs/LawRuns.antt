-- Runs that show what the laws' words take in, and what they leave out.
use Rattle.std.specs.Prelude.{ℕ, false, List, [], ◌∷◌, ◌++◌, Option, Some, None}
use Rattle.raft_values.specs.declared.log_id.LogId.{LogId}
use Rattle.raft_values.specs.LogId.{log_id_of}
use Rattle.raft_values.specs.Vote.{vote_of}
use Rattle.raft_group_step.specs.StoredGroup.{StoredGroup}
use Rattle.raft_group_step.specs.Message.{VoteRequest}
use Rattle.raft_state.specs.declared.entry.EntryPayload.TheVariants.{Blank}
use Rattle.raft_group_step.specs.Values.{Entry, entry_of}
use Rattle.raft_group_step.specs.GroupState.{GroupState, no_group, state_of}
use Rattle.raft_group_step.specs.declared.group_call.GroupCall.TheVariants.{Initialize, Elect, Propose, TriggerSnapshot}
use Rattle.raft_laws.specs.declared.world_event.WorldEvent.TheVariants.{Add, Ask, Deliver, Restart}
use Rattle.raft_laws.specs.GroupWorld.{GroupWorld, NodeState, Absent, Up, Down, new_world}
use Rattle.raft_laws.specs.GroupRun.{group_run}
use Rattle.raft_laws.specs.Origins.{Events}
use Rattle.raft_laws.specs.Settled.{group_list}
use Rattle.raft_laws.specs.CommitsOwn.{known_committed}
use Rattle.raft_laws.specs.Example.{Brief, add, ids_of_log, membership_of, ok, ok_told, three, to_their_end}
use Rattle.raft_laws.specs.ThreeNodes.{until_proposed, until_told}
use Rattle.raft_laws.specs.ConflictRun.{another_leads}
use Rattle.raft_laws.specs.OneVoter.{one}

-- the world after a run of three nodes
abbrev pub after : Events → GroupWorld
after es = group_run es (new_world three)

-- the log ids of the group's list
abbrev pub list_after : Events → List (LogId ℕ)
list_after es = ids_of_log (group_list (after es))

-- up to where a node knows the list to be committed, as the next event begins
abbrev pub known_after : Events → ℕ → Option ℕ
known_after es n = known_committed ((after es).nodes n)

-- the set-up's entry, the first leader's blank, and its command
abbrev pub first_two : List (LogId ℕ)
first_two = log_id_of 0 0 0 ∷ log_id_of 1 1 1 ∷ []

abbrev pub first_three : List (LogId ℕ)
first_three = log_id_of 0 0 0 ∷ log_id_of 1 1 1 ∷ log_id_of 1 1 2 ∷ []

-- node 2 has stored node 1's command, and stops before it replies
abbrev pub stored_unsaid : Events
stored_unsaid = to_their_end until_proposed ++ (Deliver 8 0, Some 1) ∷ []

-- it is granted a vote, and stops before it has written an entry of its own; node 3 accepts what it has
abbrev pub accepted_for_another : Events
accepted_for_another =
    stored_unsaid
    ++ (Restart 2, None) ∷ (Ask 2 Elect 1000, None) ∷ (Deliver 10 1000, None)
    ∷ (Deliver 11 1000, Some 1) ∷ (Restart 2, None) ∷ (Deliver 13 1000, None)
    ∷ (Deliver 14 1000, None) ∷ []

-- then it writes one
abbrev pub accepted_with_own : Events
accepted_with_own =
    accepted_for_another
    ++ (Ask 2 (Propose (add 7) 2) 1000, None) ∷ (Deliver 15 1000, None) ∷ (Deliver 16 1000, None)
    ∷ []

abbrev pub outcomes_with_own : List Brief
outcomes_with_own = ok [] ∷ ok (3 ∷ []) ∷ ok (2 ∷ []) ∷ ok_told (1 ∷ 3 ∷ []) 2 3 ∷ []

-- node 1 leads still, as another leader's entry is accepted
abbrev pub settled_aside : Events
settled_aside = to_their_end another_leads ++ (Deliver 13 1000, None) ∷ []

-- node 2 has a snapshot of what node 1 committed, and stops once it has stored its vote as granted, before an entry of its own
abbrev pub stops_with_a_snapshot : Events
stops_with_a_snapshot =
    to_their_end until_told
    ++ (Deliver 10 0, None) ∷ (Ask 2 TriggerSnapshot 0, None) ∷ (Ask 2 Elect 1000, None)
    ∷ (Deliver 14 1000, None) ∷ (Deliver 15 1000, Some 1) ∷ []

-- it is opened, and leads on
abbrev pub leads_on_a_snapshot : Events
leads_on_a_snapshot = stops_with_a_snapshot ++ (Restart 2, None) ∷ []

-- a second set-up, with other voters
abbrev pub another_set_up : Events
another_set_up = to_their_end until_told ++ (Ask 2 (Initialize (membership_of one [])) 0, None) ∷ []

-- the first set-up stopped before it stored anything
abbrev pub stopped_set_up : Events
stopped_set_up =
    (Add 1, None) ∷ (Ask 1 (Initialize (membership_of three [])) 0, Some 0) ∷ (Add 2, None)
    ∷ (Ask 2 (Initialize (membership_of one [])) 0, None) ∷ []

-- a node that stored the vote of a term for itself
abbrev pub voted : ℕ → StoredGroup
voted term = record no_group { vote = vote_of term 1 false }

-- node 1 has stored its vote of one term, and has asked node 2 for its vote of another
abbrev pub told_once : ℕ → ℕ → GroupWorld
told_once stored told =
    record {
      nodes = λ n. Down (voted stored);
      messages = record { sender = 1; addressee = 2; body = VoteRequest (vote_of told 1 false) None } ∷ [];
      setup = None;
      led = [];
    }

-- the state of a node that is up
abbrev pub state_in : NodeState → GroupState
state_in Absent = state_of no_group
state_in (Up s) = s
state_in (Down stored) = state_of no_group

abbrev pub state_after : Events → ℕ → GroupState
state_after es n = state_in ((after es).nodes n)

-- node 2 knows what another leader committed
abbrev pub told_of_anothers : Events
told_of_anothers = to_their_end until_told ++ (Deliver 10 0, None) ∷ []

-- a blank of the first leader, at a place
abbrev pub blank_at : ℕ → Entry
blank_at place = entry_of (log_id_of 1 1 place) Blank
