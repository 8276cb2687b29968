-- What a step tells of its refusal.
use Rattle.std.specs.Prelude.{◌≡◌, ℕ}
use Rattle.raft_group_step.specs.GroupState.{GroupState}
use Rattle.raft_group_step.specs.GroupEvent.{GroupEvent}
use Rattle.raft_group_step.specs.Refusal.{refusal_of}
use Rattle.raft_group_step.specs.GroupStep.{group_step}

-- a step tells the reason for which its event is refused, and none where it isn't
abbrev pub RefusalsAreTold : Type 0
RefusalsAreTold = (own : ℕ) (s : GroupState) (e : GroupEvent) → (group_step own s e).refused ≡ refusal_of own s e
