use Rattle.std.proofs.Common.{◌≡◌, List, ℕ, Result, Ok, Err, sym, ap, ◌∙◌}
use Rattle.std.specs.Prelude.{is_some, IfOk, Vec}
use Rattle.std.specs.declared.alloc.Global.{Global}
use Rattle.std.specs.BTreeMap.{BTreeMap, get, keys}
use Rattle.std.specs.Ordering.{nat_cmp, eq_by_cmp}
use Rattle.std.specs.Set.{is_member}
use Rattle.raft_log_memtables.specs.declared.memtable.MemTable.{MemTable}
use Rattle.raft_log_memtables.specs.Tables.{table_at}
use Rattle.raft_log_memtables.specs.MemTables.{content_in}
use Rattle.raft_log_memtables.proofs.Groups.{there_by}
use Rattle.raft_log_memtables.proofs.memtables.MemTables.groups.Goals as goal

exactly : {X : Type 0} (tables : BTreeMap ℕ MemTable) (r : Result (Vec ℕ Global) X) → IfOk r (λ ids. ids.items ≡ keys tables)
    → ((group : ℕ) → is_some (get nat_cmp tables group) ≡ is_member (eq_by_cmp nat_cmp) (keys tables) group)
    → IfOk r (λ ids. (group : ℕ) → (table_at tables group).there ≡ is_member (eq_by_cmp nat_cmp) ids.items group)
exactly tables (Ok ids) is has = λ group. there_by (get nat_cmp tables group) ∙ has group ∙ ap (λ (l : List ℕ). is_member (eq_by_cmp nat_cmp) l group) (sym is)
exactly tables (Err e) is has = tt

pub returns-clause-exactly : goal.returns-clause-exactly
unfolding content_in
returns-clause-exactly c = exactly c.args.self.now.tables c.group_ids.result c.group_ids.ensures.ids c.group_ids.ensures.exactly
