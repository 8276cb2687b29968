use Rattle.raft_log_memtables.specs.MemTables.{content_in}
use Rattle.raft_log_memtables.proofs.Taking.{takes_next, takes_there}
use Rattle.raft_log_memtables.proofs.memtables.MemTables.takes.Goals as goal

pub returns-then-not-takes_item-clause-no : goal.returns-then-not-takes_item-clause-no
returns-then-not-takes_item-clause-no c =
    λ t. c.if-not-takes_item.ensures.no (takes_there c.args.items.now c.loop-place.place c.index-items-place.result (content_in c.args.self.now) c.loop-place-test.true c.index-items-place.is t)

pub loop-place-preserved : goal.loop-place-preserved
loop-place-preserved c =
    takes_next c.args.items.now c.loop-place.place c.index-items-place.result (content_in c.args.self.now) c.loop-place-test.true c.index-items-place.is c.loop-place.invariant c.if-not-takes_item.ensures.yes
