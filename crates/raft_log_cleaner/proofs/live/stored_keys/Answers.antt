-- All keys that the tables have are looked at.
use Rattle.std.proofs.Common.{List, ℕ, None, map, sym, subst}
use Rattle.std.specs.Map.Iter.{deref_pair}
use Rattle.raft_log_memtables.specs.MemTables.{content_in}
use Rattle.raft_log_memtables.specs.Scan.{AreKeysBetween}
use Rattle.raft_log_cleaner.proofs.live.stored_keys.Goals as goal

pub returns : goal.returns
returns c = record {
  pairs = map deref_pair c.deref.result.now;
  all = subst (λ l. AreKeysBetween (content_in c.args.log.now.tables c.args.group).value None None (map deref_pair l)) (sym c.deref.ensures.value) c.in_ok-found.ensures;
  is = c.stored_among.ensures;
}
