use Rattle.std.proofs.Common.{sym, ◌∙◌}
use Rattle.raft_log_memtables.specs.Entries.{entry_of}
use Rattle.raft_log_memtables.specs.MemTable.{value_of}
use Rattle.raft_log_memtables.proofs.Cells.{on_ok, entries_changed, reach_placed}
use Rattle.raft_log_memtables.proofs.memtable.MemTable.take_entries.Goals as goal

pub returns-clause-content : goal.returns-clause-content
returns-clause-content c = on_ok c.add_placed.result c.add_placed.ensures (λ h.
    entries_changed c.args.handle c.args.more.now c.first_index_of-first.result (entry_of c.args.self.now.entries) (entry_of c.cut_from.new.entries) (entry_of c.add_placed.new.entries) (value_of c.args.self.now.keys) c.first_index_of-first.ensures c.cut_from.ensures h)

pub returns-clause-reach : goal.returns-clause-reach
returns-clause-reach c = on_ok c.add_placed.result c.add_placed.ensures (λ h. c.reach-self.ensures ∙ sym (reach_placed c.args.handle c.args.more.now c.args.self.now.reached))
