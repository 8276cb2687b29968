use Rattle.std.proofs.lemmas.List.Elements.{AllWithin-more, at_read}
use Rattle.raft_wire.specs.Entries.{spelled_entry, FitsEntry}
use Rattle.raft_wire.proofs.Joins.{one_more}
use Rattle.raft_wire.proofs.writing.put_all.Goals as goal

pub loop-entry-preserved : goal.loop-entry-preserved
loop-entry-preserved c =
    record {
      written = one_more spelled_entry c.args.entries.now c.loop-entry.entry-index c.entry-item.result c.args.out.now.items c.loop-entry.out.items c.put_entry.new.out.items c.loop-entry-test.true c.entry-item.is c.loop-entry.invariant.written c.in_ok-put_entry.ensures.items;
      fit = AllWithin-more FitsEntry c.args.entries.now 0 c.loop-entry.entry-index c.loop-entry.invariant.fit (at_read c.args.entries.now FitsEntry c.loop-entry.entry-index c.entry-item.result c.loop-entry-test.true c.entry-item.is c.in_ok-put_entry.ensures.fits);
    }
