use Rattle.std.proofs.Common.{ap}
use Rattle.std.specs.BTreeMap.{get}
use Rattle.std.specs.Ordering.{nat_cmp}
use Rattle.raft_log_memtables.specs.Tables.{content_by}
use Rattle.raft_log_memtables.specs.MemTables.{content_in}
use Rattle.raft_log_memtables.proofs.Groups.{some_there}
use Rattle.raft_log_memtables.proofs.memtables.MemTables.is_empty.Goals as goal

pub returns-in-Some-clause-no : goal.returns-in-Some-clause-no
unfolding content_in
returns-in-Some-clause-no c = (c.in-Some.field-0, some_there (get nat_cmp c.args.self.now.tables c.in-Some.field-0) c.in-Some.ensures.0)

pub returns-in-None-clause-yes : goal.returns-in-None-clause-yes
unfolding content_in
returns-in-None-clause-yes c = λ group. ap content_by (c.in-None.ensures group)
