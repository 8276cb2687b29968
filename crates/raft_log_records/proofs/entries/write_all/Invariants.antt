use Rattle.std.proofs.Common.{◌≡◌, true, take}
use Rattle.std.specs.List.{list_all}
use Rattle.raft_log_records.proofs.Messages.{IsWrittenTo}
use Rattle.raft_log_records.proofs.entries.write_all.Given as goal

abbrev pub invariant-loop-entry : goal.invariant-loop-entry
invariant-loop-entry g l = record {
  written : IsWrittenTo g.T.Message.bytes l.fn.out.items l.out.items l.first l.entries l.entry-index l.indexes.items l.index;
  fit : list_all g.T.Message.fits (take l.entry-index l.entries) ≡ true;
}
