use Rattle.std.proofs.Common.{◌≡◌, false, sym, subst, ◌∙◌}
use Rattle.std.specs.Bool.{OnTrue, OnFalse}
use Rattle.std.specs.List.{list_any}
use Rattle.std.specs.Prelude.{nat_eq}
use Rattle.raft_log_records.specs.declared.item.EntryIndex.{EntryIndex}
use Rattle.raft_log_records.specs.declared.item.LogItem.{LogItem}
use Rattle.raft_log_memtables.specs.Content.{GroupContent}
use Rattle.raft_log_memtables.specs.MemTables.{content_in}
use Rattle.raft_log_memtables.specs.Taken.{TakesFrom}
use Rattle.raft_log_memtables.proofs.Taking.{others_leave}
use Rattle.raft_log_memtables.proofs.memtables.MemTables.takes_from.Goals as goal

pub returns-then-not-names_group-clause-yes : goal.returns-then-not-names_group-clause-yes
returns-then-not-names_group-clause-yes c =
    let none : list_any (λ (x : LogItem). nat_eq x.raft_group_id c.args.raft_group_id) c.args.items.now ≡ false = sym c.names_group.ensures ∙ c.if-not-names_group.true in
    subst (λ (g : GroupContent EntryIndex). OnTrue c.takes_now.result (TakesFrom g.entry c.args.index)) (sym (others_leave c.args.items.now (content_in c.args.self.now) c.args.raft_group_id none)) c.takes_now.ensures.yes

pub returns-then-not-names_group-clause-no : goal.returns-then-not-names_group-clause-no
returns-then-not-names_group-clause-no c =
    let none : list_any (λ (x : LogItem). nat_eq x.raft_group_id c.args.raft_group_id) c.args.items.now ≡ false = sym c.names_group.ensures ∙ c.if-not-names_group.true in
    subst (λ (g : GroupContent EntryIndex). OnFalse c.takes_now.result (TakesFrom g.entry c.args.index → ⊥)) (sym (others_leave c.args.items.now (content_in c.args.self.now) c.args.raft_group_id none)) c.takes_now.ensures.no
