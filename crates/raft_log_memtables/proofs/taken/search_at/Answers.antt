use Rattle.std.proofs.Common.{List, subst}
use Rattle.raft_log_records.specs.declared.item.EntryIndex.{EntryIndex}
use Rattle.raft_log_records.specs.Item.Change.{entries}
use Rattle.raft_log_records.specs.Places.{indexed}
use Rattle.raft_log_memtables.specs.Search.{Leaves}
use Rattle.raft_log_memtables.proofs.taken.search_at.Goals as goal

pub returns-in-EntryIndexes : goal.returns-in-EntryIndexes
returns-in-EntryIndexes c =
    let P : List EntryIndex → Type 0 = λ l. Leaves (entries (indexed l)) c.args.first c.args.last c.search_run.result in
    rw c.in-EntryIndexes.is (subst P c.deref.ensures.value c.search_run.ensures)
