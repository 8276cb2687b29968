use Rattle.std.proofs.Common.{◌++◌, length, arith}
use Rattle.std.specs.Int.{w32, to_be_bytes}
use Rattle.std.proofs.lemmas.List.Elements.{AllWithin-more, at_read}
use Rattle.raft_wire.specs.Memberships.{spelled_node}
use Rattle.raft_wire.proofs.InOrder.{IsNodeShort, nodes_fit, passed_all}
use Rattle.raft_wire.proofs.Joins.{one_more}
use Rattle.raft_wire.proofs.memberships.put_nodes.Goals as goal

pub loop-id-preserved : goal.loop-id-preserved
loop-id-preserved c =
    let nodes = c.args.nodes.now in
    let fits = c.in_ok-put_node.ensures.fits in
    record {
      written = one_more spelled_node nodes c.loop-id.id-index c.loop-id-item.result (c.args.out.now.items ++ to_be_bytes w32 (length nodes)) c.loop-id.out.items c.put_node.new.out.items c.loop-id-test.true c.loop-id-item.is c.loop-id.invariant.written c.in_ok-put_node.ensures.items;
      fit = AllWithin-more IsNodeShort nodes 0 c.loop-id.id-index c.loop-id.invariant.fit (at_read nodes IsNodeShort c.loop-id.id-index c.loop-id-item.result c.loop-id-test.true c.loop-id-item.is (record { number = fits.0; address = fits.1 }));
    }

pub returns-clause-fits : goal.returns-clause-fits
returns-clause-fits c = nodes_fit c.args.nodes.now c.requires.rising (passed_all IsNodeShort c.args.nodes.now c.loop-id.id-index (omega arith) c.loop-id.invariant.fit)
