use Rattle.std.proofs.Common.{inl, refl, sym, subst}
use Rattle.raft_log_records.specs.declared.item.EntryIndex.{EntryIndex}
use Rattle.raft_log_memtables.specs.Content.{GroupContent}
use Rattle.raft_log_memtables.specs.Taken.{TakesFrom}
use Rattle.raft_log_memtables.proofs.memtables.MemTables.takes_now.Goals as goal

pub returns-in-None-clause-yes : goal.returns-in-None-clause-yes
returns-in-None-clause-yes c = subst (λ (g : GroupContent EntryIndex). TakesFrom g.entry c.args.index) (sym c.in-None.ensures) (inl (λ i w. refl))
