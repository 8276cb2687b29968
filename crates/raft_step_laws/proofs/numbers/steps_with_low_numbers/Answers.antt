use Rattle.std.specs.Prelude.{false, None, refl}
use Rattle.std.proofs.Common.{arith}
use Rattle.raft_values.specs.Vote.{vote_of}
use Rattle.raft_group_step.specs.Message.{Message, VoteRequest}
use Rattle.raft_group_step.specs.Peer.{new_peer}
use Rattle.raft_step_laws.specs.NumberRows.{past, request_with}
use Rattle.raft_step_laws.specs.Numbers.{IsLowBody}
use Rattle.raft_step_laws.proofs.LowWords.{not_below_itself}
use Rattle.raft_step_laws.proofs.numbers.steps_with_low_numbers.Goals as goal

any_message : Message
any_message = record { sender = 2; addressee = 1; body = VoteRequest (vote_of 0 1 false) None }

pub returns-clause-message : goal.returns-clause-message
returns-clause-message c =
    λ h.
    let low : IsLowBody (request_with past 0 0 0 0) = h.messages 0 any_message (omega arith) in
    not_below_itself past (low.numbers 0 0 (omega arith))

pub returns-clause-stop : goal.returns-clause-stop
returns-clause-stop c = λ h. not_below_itself past (h.stops 1).vote

pub returns-clause-peer : goal.returns-clause-peer
returns-clause-peer c = λ h. not_below_itself past ((h.peers 0 (new_peer 2 1) (omega arith)).idle refl)
