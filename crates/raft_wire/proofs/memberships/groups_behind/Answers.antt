use Rattle.std.proofs.Common.{None}
use Rattle.std.proofs.lemmas.Result.{err_from_is_err_and}
use Rattle.raft_wire.specs.Reader.{many_at}
use Rattle.raft_wire.specs.Memberships.{ids_at, nothing_left}
use Rattle.raft_wire.proofs.Lists.{goes_on, ends, is_done}
use Rattle.raft_wire.proofs.memberships.groups_behind.Goals as goal

pub returns-in_err-group : goal.returns-in_err-group
returns-in_err-group c =
    let p = err_from_is_err_and c.from_residual.result c.from_residual.ensures.1 in
    rw (p.1, p.2) (ends (λ _. ids_at) nothing_left c.in_err-group.field-0.0 c.loop.groups.items c.args.count c.loop.counter None c.loop.rest.now (many_at (λ _. ids_at) nothing_left c.args.count None c.args.bytes.now) c.loop-test.true c.in_err-group.ensures c.loop.invariant)

pub loop-preserved : goal.loop-preserved
loop-preserved c =
    rw c.in_ok-push.ensures.items (goes_on (λ _. ids_at) nothing_left c.loop.groups.items c.args.count c.loop.counter None c.loop.rest.now c.in_ok-group.group c.in_ok-group.after.now (many_at (λ _. ids_at) nothing_left c.args.count None c.args.bytes.now) c.loop-test.true c.in_ok-group.ensures c.loop.invariant)

pub returns : goal.returns
returns c = is_done (λ _. ids_at) nothing_left c.loop.groups.items c.args.count c.loop.counter None c.loop.rest.now (many_at (λ _. ids_at) nothing_left c.args.count None c.args.bytes.now) c.loop-test.false c.loop.invariant
