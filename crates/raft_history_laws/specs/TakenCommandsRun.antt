-- A leader of worked rows before and behind a proposal.
use Rattle.std.specs.Prelude.{ℕ, List, [], ◌∷◌}
use Rattle.raft_group_step.specs.GroupState.{GroupState}
use Rattle.raft_group_step.specs.GroupStep.{group_step}
use Rattle.raft_step_laws.specs.TakingRows.{leader, proposed_at}
use Rattle.raft_history_laws.specs.TakenCommands.{HasTaken}

-- the command that is proposed
abbrev pub command : List ℕ
command = 5 ∷ []

-- node 2 leads, and takes it
abbrev pub behind : GroupState
behind = (group_step 2 (leader 1) (proposed_at 0)).state

-- the command is taken from there to this state
abbrev pub TakenIn : GroupState → List ℕ → Type 0
TakenIn t it = HasTaken (leader 1) t it
