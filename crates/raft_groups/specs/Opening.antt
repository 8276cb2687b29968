-- What is stored of a group whose opening met a fault.
use Rattle.std.specs.Prelude.{◌⊎◌, ◌+◌, ℕ, List, [], ◌∷◌}
use Rattle.raft_group_step.specs.StoredGroup.{StoredGroup}
use Rattle.raft_group_step.specs.GroupState.{state_of}
use Rattle.raft_group_step.specs.GroupEvent.{Open}
use Rattle.raft_group_step.specs.GroupStep.{group_step}
use Rattle.raft_group_storage.specs.Keeping.{Fails, FailsAnyhow}
use Rattle.raft_executor.specs.Stored.{FailsAt}
use Rattle.raft_laws.specs.Stop.{stopped_after}

-- what was stored; or the opening's storing commands are done from the first on, and the one that failed is or isn't
abbrev pub IsLeftByOpening : (List StoredGroup → Type 0) → Fails → ℕ → StoredGroup → Type 0
IsLeftByOpening shown fails own st =
    (shown (st ∷ []) × FailsAnyhow fails)
    ⊎ ((number : ℕ) × shown (stopped_after number st (group_step own (state_of st) Open) ∷ stopped_after (number + 1) st (group_step own (state_of st) Open) ∷ [])
    × FailsAt fails number (group_step own (state_of st) Open).commands st)
