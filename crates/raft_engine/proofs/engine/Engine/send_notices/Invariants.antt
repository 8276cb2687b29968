-- The nodes so far are told.
use Rattle.std.proofs.Common.{◌≡◌, ℕ, take}
use Rattle.raft_group_step.specs.GroupState.{Lead, Leader}
use Rattle.raft_group_step.specs.StepResult.{StepResult}
use Rattle.raft_group_step.specs.Heartbeat.{send_notices}
use Rattle.raft_engine.specs.Standing.{Given, IsStepOf}
use Rattle.raft_engine.proofs.engine.Engine.send_notices.Given as goal

abbrev pub invariant-loop-n : goal.invariant-loop-n
invariant-loop-n g l =
    (l.self.leader ≡ l.initial.self.leader)
    × ((x : Given) (own : ℕ) (r : StepResult) (lead : Lead) → IsStepOf {C = g.row.C.Denot} {R = g.row.C-R.Denot} x own l.initial.self r → r.state.role ≡ Leader lead
    → IsStepOf {C = g.row.C.Denot} {R = g.row.C-R.Denot} x own l.self (send_notices own lead (take l.n-index l.ids) r))
