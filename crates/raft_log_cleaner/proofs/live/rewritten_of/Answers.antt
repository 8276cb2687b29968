-- The entries up to the end of those that were rewritten are counted.
use Rattle.std.proofs.Common.{ℕ, ◌<◌, ◌≤◌, sym, subst, arith}
use Rattle.raft_log_covers.specs.Trace.{Trace}
use Rattle.raft_log_memtables.specs.MemTables.{content_in}
use Rattle.raft_log_traces.specs.Before.{StandsFrom}
use Rattle.raft_log_traces.specs.GroupTraces.{traces_in}
use Rattle.raft_log_cleaner.proofs.Telling.{none_at_all, so_many_rewritten}
use Rattle.raft_log_cleaner.proofs.live.rewritten_of.Goals as goal

pub returns-in_default : goal.returns-in_default
returns-in_default c =
    none_at_all _ (content_in c.args.log.now.tables c.args.group).entry
    (λ i. c.requires.past c.args.group i (subst (λ (t : Trace). t.next ≤ i) (sym c.in_default.ensures) (omega arith)))

pub returns : goal.returns
returns c =
    let group = c.args.group in
    let t = traces_in c.args.log.now.traces group in
    so_many_rewritten t (content_in c.args.log.now.tables group).entry 0 c.end_before.result c.as_index-limit.result (c.requires.placed group) (c.requires.past group)
    (subst (λ (u : Trace). (i : ℕ) → c.end_before.result ≤ i → i < u.next → StandsFrom 1 (u.entry_file i)) (sym c.in-Some.ensures) c.end_before.ensures)
    c.as_index-limit.ensures.same _ c.counts_of.ensures.rewritten
