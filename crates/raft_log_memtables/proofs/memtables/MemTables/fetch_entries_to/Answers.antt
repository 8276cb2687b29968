use Rattle.std.proofs.Common.{ap, sym, ◌∙◌}
use Rattle.raft_log_memtables.specs.MemTable.{group_in}
use Rattle.raft_log_memtables.proofs.memtables.MemTables.fetch_entries_to.Goals as goal

pub returns-in-Some-clause-unknown : goal.returns-in-Some-clause-unknown
unfolding group_in
returns-in-Some-clause-unknown c = λ h. absurd (let there = sym h ∙ ap (λ g. g.there) c.in-Some.ensures in cc)
