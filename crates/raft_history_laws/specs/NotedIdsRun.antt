-- Which log ids are noted in worked runs, and what is anywhere in them.
use Rattle.std.specs.Prelude.{ℕ, List, [], ◌∷◌, ◌++◌, slice_get, Option, option_map}
use Rattle.raft_values.specs.declared.log_id.LogId.{LogId}
use Rattle.raft_group_step.specs.Message.{Message}
use Rattle.raft_group_step.specs.declared.group_call.GroupCall.TheVariants.{Propose}
use Rattle.raft_laws.specs.declared.world_event.WorldEvent.TheVariants.{Ask}
use Rattle.raft_laws.specs.GroupWorld.{GroupWorld, new_world}
use Rattle.raft_laws.specs.Origins.{Events}
use Rattle.raft_laws.specs.Example.{add, ids_of_log, three, to_their_end}
use Rattle.raft_laws.specs.LearnerRun.{changes, four}
use Rattle.raft_laws.specs.ThreeNodes.{until_told}
use Rattle.raft_laws.specs.OneVoter.{one, stopped_proposal}
use Rattle.raft_history_laws.specs.NotedIds.{IsNotedAt, IsOrigin, entries_in}

-- the event with this number notes the log id, in the run of one voter whose proposal stops after k storing commands
abbrev pub NotedInRun : (k number : ℕ) → LogId ℕ → Type 0
NotedInRun k number id = IsNotedAt (stopped_proposal k) (new_world one) number id

abbrev pub OriginInRun : (k number : ℕ) → LogId ℕ → Type 0
OriginInRun k number id = IsOrigin (stopped_proposal k) (new_world one) number id

-- a follower is asked for a command
abbrev pub asked_follower : Events
asked_follower = to_their_end (until_told ++ Ask 2 (Propose (add 9) 9) 0 ∷ [])

abbrev pub NotedByFollower : LogId ℕ → Type 0
NotedByFollower id = IsNotedAt asked_follower (new_world three) 11 id

-- a learner's address changes
abbrev pub NotedByChange : LogId ℕ → Type 0
NotedByChange id = IsNotedAt (to_their_end changes) (new_world four) 10 id

-- the log ids of the entries that a message has
abbrev pub ids_in_message : GroupWorld → ℕ → Option (List (LogId ℕ))
ids_in_message w number = option_map (λ (m : Message). ids_of_log (entries_in m.body)) (slice_get w.messages number)
