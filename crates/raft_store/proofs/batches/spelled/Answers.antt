use Rattle.raft_store.proofs.Spelled.{fits_more, spelled_more}
use Rattle.raft_store.proofs.batches.spelled.Goals as goal

pub loop-entry-preserved : goal.loop-entry-preserved
loop-entry-preserved c = record {
  bytes = spelled_more c.args.entries.now c.loop-entry.entry-index c.entry-item.result c.loop-entry-test.true c.entry-item.is c.loop-entry.all.items c.push.new.self.items c.in_ok-write_entry.field-0 c.loop-entry.invariant.bytes c.in_ok-push.ensures.items c.in_ok-write_entry.ensures.written.1;
  fits = fits_more c.args.entries.now c.loop-entry.entry-index c.entry-item.result c.loop-entry-test.true c.entry-item.is c.loop-entry.invariant.fits c.in_ok-write_entry.ensures.fits;
}
