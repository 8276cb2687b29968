use Rattle.raft_wire.proofs.Rising.{nodes_rise}
use Rattle.raft_wire.proofs.memberships.membership_of.Goals as goal

pub from_rising-nodes-requires : goal.from_rising-nodes-requires
from_rising-nodes-requires c = nodes_rise c.in_ok-count-2.count c.in_ok-count-2.rest.now (c.in_ok-nodes.nodes.items, c.in_ok-nodes.rest.now) c.in_ok-nodes.ensures
