use Rattle.std.proofs.Common.{arith}
use Rattle.raft_wire.specs.Memberships.{FitsIds}
use Rattle.raft_wire.proofs.InOrder.{groups_fit, passed_all}
use Rattle.raft_wire.proofs.memberships.put_groups.Goals as goal

pub returns-clause-fits : goal.returns-clause-fits
returns-clause-fits c =
    groups_fit c.args.groups.now (passed_all FitsIds c.args.groups.now c.loop-group.group-index (omega arith) c.loop-group.invariant.fit)
