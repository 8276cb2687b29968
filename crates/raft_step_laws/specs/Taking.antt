-- A leader takes each command within the limits.
use Rattle.std.specs.Prelude.{◌≡◌, ℕ, ◌<◌, ◌≤◌, Bool, true, false, List, [], ◌∷◌, Some, None, length, All}
use Rattle.raft_state.specs.declared.entry.EntryPayload.TheVariants.{Normal}
use Rattle.raft_group_step.specs.Limits.{command_limit, number_limit}
use Rattle.raft_group_step.specs.Values.{Entry}
use Rattle.raft_group_step.specs.StoredGroup.{StoredGroup, StoringCommand, MakeGroup, SetVote, PutEntries, CutFrom, RemoveUpTo, SetSnapshot, StartAfter, after_storing, end_place, entry_at}
use Rattle.raft_group_step.specs.Peer.{PeerState}
use Rattle.raft_group_step.specs.GroupState.{GroupState, Lead, Leader}
use Rattle.raft_group_step.specs.declared.group_call.GroupCall.TheVariants.{Propose}
use Rattle.raft_group_step.specs.GroupEvent.{Call}
use Rattle.raft_group_step.specs.StepResult.{StepResult}
use Rattle.raft_group_step.specs.Refusal.{refusal_of}
use Rattle.raft_group_step.specs.GroupStep.{group_step}
use Rattle.raft_laws.specs.Origins.{next_entry}

-- no number is at its end: the moment, the next place, and the number of the next request to each peer that the lead knows
pub record HasRoom (s : GroupState) (lead : Lead) (now : ℕ) : Type 0 where
  pub moment : now < number_limit
  pub place : end_place s.stored < number_limit
  pub requests : All (λ (p : PeerState). p.next_id < number_limit) lead.peers

-- a leader refuses no command within the limits
abbrev pub LeadersTake : Type 0
LeadersTake =
    (own : ℕ) (s : GroupState) (lead : Lead) (command : List ℕ) (token now : ℕ)
    → s.stored.present ≡ true → s.role ≡ Leader lead → length command ≤ command_limit → HasRoom s lead now
    → refusal_of own s (Call (Propose command token) now) ≡ None

-- the log's front goes
abbrev pub is_removal : StoringCommand → Bool
is_removal MakeGroup = false
is_removal (SetVote vote) = false
is_removal (PutEntries place entries) = false
is_removal (CutFrom place) = false
is_removal (RemoveUpTo id) = true
is_removal (SetSnapshot snapshot) = false
is_removal (StartAfter id) = false

-- the step stores this entry first, at the next place, and then at most removes the log's front
pub record StoresNext (s : StoredGroup) (e : Entry) (r : StepResult) : Type 0 where
  pub rest : List StoringCommand
  pub first : r.commands ≡ PutEntries (end_place s) (e ∷ []) ∷ rest
  pub stands : entry_at (after_storing (PutEntries (end_place s) (e ∷ [])) s) (end_place s) ≡ Some e
  pub removals : All (λ c. is_removal c ≡ true) rest

-- a command that isn't refused is stored at the next place, under the leader's vote
abbrev pub ProposalsAreStored : Type 0
ProposalsAreStored =
    (own : ℕ) (s : GroupState) (command : List ℕ) (token now : ℕ)
    → refusal_of own s (Call (Propose command token) now) ≡ None
    → StoresNext s.stored (next_entry s.stored (Normal command)) (group_step own s (Call (Propose command token) now))
