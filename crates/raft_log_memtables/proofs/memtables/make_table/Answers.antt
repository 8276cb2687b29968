use Rattle.std.proofs.Common.{sym, ◌∙◌}
use Rattle.raft_log_memtables.specs.MemTable.{group_in, reached_in}
use Rattle.raft_log_memtables.proofs.Groups.{made_table}
use Rattle.raft_log_memtables.proofs.memtables.make_table.Goals as goal

pub returns-in_ok-insert : goal.returns-in_ok-insert
unfolding group_in reached_in
returns-in_ok-insert c =
    made_table c.args.tables.now c.insert.new.self c.args.raft_group_id c.new.result (sym c.contains_key.ensures ∙ c.if-not-contains_key.true) c.in_ok-insert.ensures.updates c.new.ensures.content c.new.ensures.reach
