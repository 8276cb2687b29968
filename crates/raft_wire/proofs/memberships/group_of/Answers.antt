use Rattle.raft_wire.proofs.Rising.{ids_rise}
use Rattle.raft_wire.proofs.memberships.group_of.Goals as goal

pub from_rising-requires : goal.from_rising-requires
from_rising-requires c = ids_rise c.in_ok-count.count c.in_ok-count.rest.now (c.in_ok-ids.ids.items, c.in_ok-ids.rest.now) c.in_ok-ids.ensures
