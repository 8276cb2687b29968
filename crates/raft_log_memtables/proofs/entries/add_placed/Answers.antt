use Rattle.std.proofs.Common.{◌-◌, arith, drop}
use Rattle.raft_log_memtables.specs.Entries.{entry_of}
use Rattle.raft_log_memtables.proofs.Cells.{cells_more}
use Rattle.raft_log_memtables.proofs.entries.add_placed.Goals as goal

pub loop-at-preserved-in_ok-insert : goal.loop-at-preserved-in_ok-insert
loop-at-preserved-in_ok-insert c = record {
  within = omega (arith, c.loop-at.invariant.within);
  cells = cells_more c.args.handle (drop (c.loop-at.at - 1) c.args.more.now) (drop c.loop-at.at c.args.more.now) c.args.first c.entry_before-entry.result c.place_in.result (entry_of c.args.entries.now) c.loop-at.entries c.insert.new.self c.entry_before-entry.ensures
      c.if-first-entry.true c.place_in.ensures c.in_ok-insert.ensures.updates c.loop-at.invariant.cells;
}
