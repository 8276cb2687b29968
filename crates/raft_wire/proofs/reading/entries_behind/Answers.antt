use Rattle.std.proofs.Common.{None}
use Rattle.std.proofs.lemmas.Result.{err_from_is_err_and}
use Rattle.raft_wire.specs.Reader.{many_at}
use Rattle.raft_wire.specs.Entries.{entry_behind, that_place}
use Rattle.raft_wire.proofs.Lists.{goes_on, ends, is_done}
use Rattle.raft_wire.proofs.reading.entries_behind.Goals as goal

pub returns-in_err-entry : goal.returns-in_err-entry
returns-in_err-entry c =
    let p = err_from_is_err_and c.from_residual.result c.from_residual.ensures.1 in
    rw (p.1, p.2) (ends entry_behind that_place c.in_err-entry.field-0.0 c.loop.entries c.args.count c.loop.counter c.loop.last c.loop.rest.now (many_at entry_behind that_place c.args.count None c.args.bytes.now) c.loop-test.true c.in_err-entry.ensures c.loop.invariant)

pub loop-preserved : goal.loop-preserved
loop-preserved c =
    rw c.in_ok-push.ensures.ok (goes_on entry_behind that_place c.loop.entries c.args.count c.loop.counter c.loop.last c.loop.rest.now c.in_ok-entry.entry c.in_ok-entry.after.now (many_at entry_behind that_place c.args.count None c.args.bytes.now) c.loop-test.true c.in_ok-entry.ensures c.loop.invariant)

pub returns : goal.returns
returns c = is_done entry_behind that_place c.loop.entries c.args.count c.loop.counter c.loop.last c.loop.rest.now (many_at entry_behind that_place c.args.count None c.args.bytes.now) c.loop-test.false c.loop.invariant
