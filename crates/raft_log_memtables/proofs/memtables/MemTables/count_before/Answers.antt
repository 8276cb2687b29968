use Rattle.std.proofs.Common.{sym, ap, ◌∙◌}
use Rattle.raft_log_records.specs.declared.item.EntryIndex.{EntryIndex}
use Rattle.raft_log_memtables.specs.Content.{GroupContent}
use Rattle.raft_log_memtables.specs.Fetch.{count_before}
use Rattle.raft_log_memtables.proofs.Counting.{none_before}
use Rattle.raft_log_memtables.proofs.memtables.MemTables.count_before.Goals as goal

pub returns-in-None : goal.returns-in-None
returns-in-None c = sym (none_before c.args.index) ∙ sym (ap (λ (g : GroupContent EntryIndex). count_before g.entry c.args.index) c.in-None.ensures)
