use Rattle.std.proofs.Common.{arith}
use Rattle.std.proofs.lemmas.Result.{err_from_is_err_and}
use Rattle.raft_log_records.specs.Reading.{entries_at}
use Rattle.raft_log_records.proofs.Loops.{entries_go_on, entries_fail, entries_done}
use Rattle.raft_log_records.proofs.reading.entries_of.Goals as goal

pub returns-in_err-entry-clause-read : goal.returns-in_err-entry-clause-read
returns-in_err-entry-clause-read c =
    let p = err_from_is_err_and c.from_residual-in_err-entry.result c.from_residual-in_err-entry.ensures.1 in
    rw (p.1, p.2) (entries_fail c.in_err-entry.field-0.0 c.loop-i.entries.items c.args.count c.loop-i.i c.args.first c.args.limit c.loop-i.at c.loop-i.rest.now (entries_at c.args.count c.args.first c.args.limit c.args.at c.args.bytes.now) c.loop-i-test.true c.in_err-entry.ensures.read c.loop-i.invariant.read)

pub loop-i-preserved : goal.loop-i-preserved
loop-i-preserved c = record {
  within = omega (arith, c.in_ok-entry.ensures.within);
  read = rw c.in_ok-push.ensures.items (entries_go_on c.loop-i.entries.items c.args.count c.loop-i.i c.args.first c.args.limit c.loop-i.at c.loop-i.rest.now c.in_ok-entry.entry c.in_ok-entry.after.now (entries_at c.args.count c.args.first c.args.limit c.args.at c.args.bytes.now) c.loop-i-test.true c.in_ok-entry.ensures.read c.loop-i.invariant.read);
}

pub returns-clause-read : goal.returns-clause-read
returns-clause-read c = entries_done c.loop-i.entries.items c.args.count c.loop-i.i c.args.first c.args.limit c.loop-i.at c.loop-i.rest.now (entries_at c.args.count c.args.first c.args.limit c.args.at c.args.bytes.now) c.loop-i-test.false c.loop-i.invariant.read
