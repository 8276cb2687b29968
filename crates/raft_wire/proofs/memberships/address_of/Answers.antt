use Rattle.raft_wire.proofs.Texts.{address_found, address_refused}
use Rattle.raft_wire.proofs.memberships.address_of.Goals as goal

pub returns-in_ok-new-in-Ok : goal.returns-in_ok-new-in-Ok
returns-in_ok-new-in-Ok c =
    rw (c.in_ok-new-in-Ok.ensures, c.in-Ok.ensures.cases.0)
    (address_found c.args.bytes.now (c.in_ok-len.len, c.in_ok-len.rest.now) (c.in_ok-address.address.now, c.in_ok-address.rest.now) c.in_ok-len.ensures c.in_ok-address.ensures c.in-Ok.ensures.cases.1)

pub returns-in-Err : goal.returns-in-Err
returns-in-Err c =
    address_refused c.args.bytes.now (c.in_ok-len.len, c.in_ok-len.rest.now) (c.in_ok-address.address.now, c.in_ok-address.rest.now) c.in_ok-len.ensures c.in_ok-address.ensures c.in-Err.ensures.cases.0
