use Rattle.std.proofs.Common.{vec_capacity}
use Rattle.raft_wire.proofs.Feeders.{holds_nothing}
use Rattle.raft_wire.proofs.feeder.Feeder.reset.Goals as goal

pub invariant_of-self : goal.invariant_of-self
invariant_of-self c = holds_nothing c.let_go.new.held.items (vec_capacity c.let_go.new.held) c.let_go.ensures.items c.let_go.ensures.room
