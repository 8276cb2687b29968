use Rattle.std.proofs.Common.{arith, vec_capacity}
use Rattle.raft_wire.proofs.Feeders.{holds_nothing}
use Rattle.raft_wire.proofs.feeder.Feeder.new.Goals as goal

pub invariant_of-result : goal.invariant_of-result
invariant_of-result c = holds_nothing c.new.result.items (vec_capacity c.new.result) c.new.ensures.items (omega (arith, c.new.ensures.capacity))
