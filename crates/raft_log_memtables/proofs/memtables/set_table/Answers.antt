use Rattle.std.proofs.Common.{◌≡◌, rules, true, sym, ◌∙◌}
use Rattle.std.specs.Prelude.{OnOk, is_some}
use Rattle.std.specs.BTreeMap.{get}
use Rattle.std.specs.Ordering.{nat_cmp}
use Rattle.raft_log_records.specs.Item.{change_of}
use Rattle.raft_log_memtables.specs.Entries.{placed_in}
use Rattle.raft_log_memtables.specs.MemTable.{placed_change}
use Rattle.raft_log_memtables.specs.Tables.{IsChanged}
use Rattle.raft_log_memtables.proofs.Cells.{on_ok}
use Rattle.raft_log_memtables.proofs.Groups.{kept_table, content_applied, reach_applied, mark_kept, clean_kept}
use Rattle.raft_log_memtables.proofs.memtables.set_table.Goals as goal

pub returns-in-Some-clause-content : goal.returns-in-Some-clause-content
returns-in-Some-clause-content c =
    let old = c.args.tables.now in
    let new = c.get_mut.follows.lender c.change.new.self in
    let group = c.args.raft_group_id in
    let change = placed_change c.args.handle (change_of c.args.content) in
    let there : is_some (get nat_cmp old group) ≡ true = search rules in
    let changed : OnOk c.change.result (IsChanged old group change new) = search rules in
    let no_mark = sym (mark_kept (placed_in c.args.handle) (change_of c.args.content)) ∙ c.requires.not_mark in
    let no_clean = sym (clean_kept (placed_in c.args.handle) (change_of c.args.content)) ∙ c.requires.not_clean in
    on_ok c.change.result changed (λ d. content_applied old old new group change (kept_table old group there) d no_mark no_clean)

pub returns-in-Some-clause-reach : goal.returns-in-Some-clause-reach
returns-in-Some-clause-reach c =
    let old = c.args.tables.now in
    let new = c.get_mut.follows.lender c.change.new.self in
    let group = c.args.raft_group_id in
    let change = placed_change c.args.handle (change_of c.args.content) in
    let there : is_some (get nat_cmp old group) ≡ true = search rules in
    let changed : OnOk c.change.result (IsChanged old group change new) = search rules in
    on_ok c.change.result changed (λ d. reach_applied old old new group change (kept_table old group there) d)
