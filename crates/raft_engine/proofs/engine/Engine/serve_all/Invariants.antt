-- The members so far are served.
use Rattle.std.proofs.Common.{◌≡◌, ◌^◌, ℕ, take, true}
use Rattle.std.specs.List.{list_all}
use Rattle.raft_group_step.specs.Values.{has_id}
use Rattle.raft_group_step.specs.StoredGroup.{membership_in_force}
use Rattle.raft_group_step.specs.StepResult.{StepResult}
use Rattle.raft_group_step.specs.Lead.{ids_of}
use Rattle.raft_group_step.specs.Frames.{serve_all}
use Rattle.raft_engine.specs.Clock.{KeepsHeard}
use Rattle.raft_engine.specs.Standing.{Given, IsWholeStepOf}
use Rattle.raft_engine.specs.Sending.{HasRoomFor}
use Rattle.raft_engine.proofs.engine.Engine.serve_all.Given as goal

abbrev pub invariant-loop-n : goal.invariant-loop-n
invariant-loop-n g l =
    KeepsHeard l.initial.self.leader l.self.leader
    × ((x : Given) (own : ℕ) (r : StepResult) → IsWholeStepOf {C = g.row.C.Denot} {R = g.row.C-R.Denot} x own l.initial.self r
    → list_all (has_id (ids_of (membership_in_force r.state.stored))) l.ids ≡ true → HasRoomFor (2 ^ 63) r.state
    → IsWholeStepOf {C = g.row.C.Denot} {R = g.row.C-R.Denot} x own l.self (serve_all own l.has_news (take l.n-index l.ids) r))
