-- Ready states lead to ready ones.
use Rattle.std.specs.Prelude.{ℕ}
use Rattle.raft_group_step.specs.GroupEvent.{GroupEvent}
use Rattle.raft_group_step.specs.GroupState.{GroupState}
use Rattle.raft_group_step.specs.GroupStep.{group_step}
use Rattle.raft_engine.specs.Events.{IsReady}
use Rattle.raft_engine.specs.Standing.{IsInOrder}

-- each event leads from a ready state in order to a ready one, whoever brings it
abbrev pub ReadyStatesStayReady : Type 0
ReadyStatesStayReady =
    (own : ℕ) (s : GroupState) (e : GroupEvent) → IsInOrder s → IsReady own s → IsReady own (group_step own s e).state
