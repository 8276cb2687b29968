use Rattle.std.proofs.Common.{None}
use Rattle.std.proofs.lemmas.Result.{err_from_is_err_and}
use Rattle.raft_wire.specs.Reader.{many_at}
use Rattle.raft_wire.specs.Memberships.{node_above, that_node}
use Rattle.raft_wire.proofs.Lists.{goes_on, ends, is_done}
use Rattle.raft_wire.proofs.memberships.nodes_behind.Goals as goal

pub returns-in_err-id : goal.returns-in_err-id
returns-in_err-id c =
    let p = err_from_is_err_and c.from_residual.result c.from_residual.ensures.1 in
    rw (p.1, p.2) (ends node_above that_node c.in_err-id.field-0.0 c.loop.nodes.items c.args.count c.loop.counter c.loop.last c.loop.rest.now (many_at node_above that_node c.args.count None c.args.bytes.now) c.loop-test.true c.in_err-id.ensures c.loop.invariant)

pub loop-preserved : goal.loop-preserved
loop-preserved c =
    rw c.in_ok-push.ensures.items (goes_on node_above that_node c.loop.nodes.items c.args.count c.loop.counter c.loop.last c.loop.rest.now (c.in_ok-id.id, c.in_ok-id.node) c.in_ok-id.after.now (many_at node_above that_node c.args.count None c.args.bytes.now) c.loop-test.true c.in_ok-id.ensures c.loop.invariant)

pub returns : goal.returns
returns c = is_done node_above that_node c.loop.nodes.items c.args.count c.loop.counter c.loop.last c.loop.rest.now (many_at node_above that_node c.args.count None c.args.bytes.now) c.loop-test.false c.loop.invariant
