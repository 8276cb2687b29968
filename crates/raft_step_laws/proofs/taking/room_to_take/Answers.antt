use Rattle.std.specs.Prelude.{ℕ, ◌<◌, ◌^◌}
use Rattle.std.proofs.Common.{arith}
use Rattle.raft_group_step.specs.Peer.{new_peer}
use Rattle.raft_step_laws.proofs.taking.room_to_take.Goals as goal

not_below_itself : (n : ℕ) → n < n → ⊥
not_below_itself n l = omega arith

pub returns-clause-number : goal.returns-clause-number
returns-clause-number c = λ h. not_below_itself (2 ^ 62) (h.requests 0 (new_peer 2 1) (omega arith))
