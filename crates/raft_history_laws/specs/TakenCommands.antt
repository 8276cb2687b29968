-- A leader takes each command within the limits, in every world of a group.
use Rattle.std.specs.Prelude.{◌≡◌, ℕ, ◌≤◌, ◌⊎◌, true, List, [], ◌∷◌, Some, None, length, IsTrue}
use Rattle.raft_state.specs.declared.entry.EntryPayload.TheVariants.{Normal}
use Rattle.raft_group_step.specs.Limits.{command_limit}
use Rattle.raft_group_step.specs.StoredGroup.{end_place, entry_at}
use Rattle.raft_group_step.specs.GroupState.{GroupState, Lead, Leader, is_leader}
use Rattle.raft_group_step.specs.declared.group_call.GroupCall.TheVariants.{Propose}
use Rattle.raft_group_step.specs.GroupEvent.{Call}
use Rattle.raft_group_step.specs.Refusal.{refusal_of}
use Rattle.raft_group_step.specs.GroupStep.{group_step}
use Rattle.raft_laws.specs.declared.world_event.WorldEvent.TheVariants.{Ask}
use Rattle.raft_laws.specs.GroupWorld.{GroupWorld, Recorded, Up, is_stop}
use Rattle.raft_laws.specs.GroupRun.{Replays}
use Rattle.raft_laws.specs.OneList.{IsGroupHistory}
use Rattle.raft_laws.specs.Origins.{next_entry}
use Rattle.raft_step_laws.specs.Taking.{HasRoom, StoresNext}

-- the node leads on under its vote, and its log has the command at what was the next place
pub record HasTaken (s t : GroupState) (command : List ℕ) : Type 0 where
  pub leads : IsTrue (is_leader t.role)
  pub vote : t.stored.vote ≡ s.stored.vote
  pub stands : entry_at t.stored (end_place s.stored) ≡ Some (next_entry s.stored (Normal command))

-- a leader doesn't refuse the command: it stores the entry first, then removes at most the log's front, and has taken it then
pub record Takes (own : ℕ) (s : GroupState) (command : List ℕ) (token now : ℕ) : Type 0 where
  pub taken : refusal_of own s (Call (Propose command token) now) ≡ None
  pub stores : StoresNext s.stored (next_entry s.stored (Normal command)) (group_step own s (Call (Propose command token) now))
  pub then_has : HasTaken s (group_step own s (Call (Propose command token) now)).state command

-- so does each node that leads, with a command within its limit, as long as no number is at its end
abbrev pub LeadersTakeCommands : Type 0
LeadersTakeCommands =
    (ids : List ℕ) (rs : List Recorded) (end : GroupWorld) → IsGroupHistory ids rs end
    → (n : ℕ) (s : GroupState) (lead : Lead) → end.nodes n ≡ Up s → s.role ≡ Leader lead
    → (command : List ℕ) (token now : ℕ) → length command ≤ command_limit → HasRoom s lead now
    → Takes n s command token now

-- so the event that asks for it stops, or leaves a node that has taken it
abbrev pub ProposalsAreTaken : Type 0
ProposalsAreTaken =
    (ids : List ℕ) (rs : List Recorded) (last : Recorded) (middle end : GroupWorld)
    → IsGroupHistory ids rs middle → Replays middle (last ∷ []) end
    → (n : ℕ) (s : GroupState) (lead : Lead) → middle.nodes n ≡ Up s → s.role ≡ Leader lead
    → (command : List ℕ) (token now : ℕ) → last.event ≡ Ask n (Propose command token) now
    → length command ≤ command_limit → HasRoom s lead now
    → (is_stop last.outcome ≡ true) ⊎ ((t : GroupState) × (end.nodes n ≡ Up t) × HasTaken s t command)
