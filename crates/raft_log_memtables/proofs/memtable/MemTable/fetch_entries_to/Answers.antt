use Rattle.std.proofs.Common.{inl, inr, rules, arith, sym}
use Rattle.std.proofs.lemmas.Bool.Decides.{nat_tests}
use Rattle.raft_log_memtables.proofs.Fetching.{taken_more}
use Rattle.raft_log_memtables.proofs.memtable.MemTable.fetch_entries_to.Goals as goal
use Rattle.raft_log_memtables.proofs.memtable.MemTable.fetch_entries_to.Goals.{else-not-is_empty-via-then-not-is_empty+else-not-fits, else-not-is_empty-via-else-not-is_empty}

pub loop-index-preserved : goal.loop-index-preserved
loop-index-preserved c =
    taken_more _ _ _ _ _ c.from-more.result _ _ _ c.in-Some.entry c.in_ok-push.ensures.items (sym c.in-Some.ensures) (search rules)
    (elim c.else-not-is_empty.branch [
      | else-not-is_empty-via-then-not-is_empty+else-not-fits w ↦ inr (w.fits.ensures.exactly.0 w.if-not-fits.false, w.fits.ensures.short w.if-not-fits.false)
      | else-not-is_empty-via-else-not-is_empty w ↦ inl (let e = w.if-not-is_empty.ensures in grind (arith, nat_tests))
    ])
    (omega (arith, c.from-more.ensures)) c.saturating_add-size.ensures c.loop-index.invariant
