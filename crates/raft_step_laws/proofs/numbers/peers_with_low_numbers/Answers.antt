use Rattle.std.specs.Prelude.{refl}
use Rattle.std.proofs.Common.{arith}
use Rattle.raft_group_step.specs.Peer.{new_peer}
use Rattle.raft_step_laws.specs.NumberRows.{past}
use Rattle.raft_step_laws.proofs.LowWords.{not_below_itself}
use Rattle.raft_step_laws.proofs.numbers.peers_with_low_numbers.Goals as goal

pub returns-clause-leader_past : goal.returns-clause-leader_past
returns-clause-leader_past c = λ h. not_below_itself past ((h 0 (new_peer 2 1) (omega arith)).idle refl)
