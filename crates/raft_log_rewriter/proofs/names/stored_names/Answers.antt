-- The names of all keys that the tables have.
use Rattle.std.proofs.Common.{None, map, sym, subst}
use Rattle.std.specs.Map.Iter.{deref_pair}
use Rattle.raft_log_memtables.specs.MemTables.{content_in}
use Rattle.raft_log_memtables.specs.Scan.{AreKeysBetween}
use Rattle.raft_log_traces.specs.GroupTraces.{traces_in}
use Rattle.raft_log_rewriter.proofs.Ranges.{names_all}
use Rattle.raft_log_rewriter.proofs.names.stored_names.Goals as goal

pub returns : goal.returns
returns c =
    names_all c.names_among.result (traces_in c.args.log.now.traces c.args.group) (content_in c.args.log.now.tables c.args.group).value (map deref_pair c.deref.result.now)
    (subst (λ l. AreKeysBetween (content_in c.args.log.now.tables c.args.group).value None None (map deref_pair l)) (sym c.deref.ensures.value) c.in_ok-found.ensures) c.names_among.ensures
